use Rattle.std.proofs.Common.{rules, ◌≡◌, ◌*◌, ◌<◌, ◌≤◌, Some, ◌∙◌, sym, ap, arith}
use Rattle.std.specs.List.{slice_get}
use Rattle.std.specs.Option.{option_map}
use Rattle.std.proofs.lemmas.Nat.{mul-le}
use Rattle.std.proofs.lemmas.Option.{slice_get-map}
use Rattle.graph.specs.Grids.{entering}
use Rattle.graph.specs.GridGraphs.{sources_of}
use Rattle.graph.proofs.Cells.{has_source, source_inside}
use Rattle.graph.proofs.grid.answer.GridMap.arrival.Goals as goal

pub map-requires : goal.map-requires
map-requires c = λ x e.
    let g = c.args.self.now in
    let few : g.rows * g.columns ≤ 4096 = mul-le g.rows g.columns 64 64 g.few_rows g.few_columns in
    let found : slice_get (sources_of g.rows g.columns g.bytes c.args.place) c.args.i ≡ Some x = sym c.source.ensures ∙ e in
    let source : x < 4096 = omega (arith, few, source_inside g c.args.place c.args.i x found) in
    let place : c.args.place < 4096 = omega (arith, few, has_source g.rows g.columns g.bytes c.args.place c.args.i x found) in
    search rules

pub returns : goal.returns
returns c =
    let g = c.args.self.now in
    let mapped : c.map.result ≡ option_map (entering g.bytes c.args.place) c.source.result = search rules in
    mapped ∙ ap (option_map (entering g.bytes c.args.place)) c.source.ensures ∙ sym (slice_get-map (entering g.bytes c.args.place) (sources_of g.rows g.columns g.bytes c.args.place) c.args.i)
