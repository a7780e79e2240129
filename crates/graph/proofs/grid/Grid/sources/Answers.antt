use Rattle.std.proofs.Common.{◌≡◌, ℕ, ◌*◌, ◌/◌, ◌%◌, ◌<◌, true, ltb, sym, ap, ◌∙◌, arith}
use Rattle.graph.specs.Grids.{is_open, source}
use Rattle.graph.proofs.Cells.{all_sources}
use Rattle.graph.proofs.grid.Grid.sources.Goals as goal

pub returns : goal.returns
returns c =
    let g = c.args.self.now in
    let p : ℕ = c.args.place in
    let inside : p < g.rows * g.columns = omega arith in
    let free : is_open g.bytes p ≡ true = sym c.«open».ensures ∙ c.if-not-open.false in
    all_sources g.rows g.columns p g.some_columns inside g.bytes _ _ _ _ free
    (c.beside-above.ensures ∙ ap (source g.bytes (ltb 0 (p / g.columns))) c.saturating_sub.ensures)
    (c.beside-left.ensures ∙ ap (source g.bytes (ltb 0 (p % g.columns))) c.saturating_sub-2.ensures)
    c.beside-right.ensures
    c.beside-below.ensures
