use Rattle.std.proofs.Common.{◌≡◌, ◌*◌, rules, arith}
use Rattle.std.specs.Option.{option_map}
use Rattle.std.proofs.lemmas.List.{length-take-le}
use Rattle.all_pairs.proofs.Steps.{fill_step, right_front}
use Rattle.all_pairs.proofs.direct.fill.Goals as goal

pub loop-k-preserved : goal.loop-k-preserved
loop-k-preserved g c =
    let m = g.M.Length.Measure.laws in
    let e = g.M.Length.Measure.encoding in
    let n = c.args.table.now.places in
    let long = length-take-le (n * n) c.args.table.now.rows.now c.args.table.now.whole in
    let written : c.map.result ≡ option_map e.writes c.shortest.result = search rules in
    record {
      right = fill_step m e (g.M.Map.graph c.args.map.now) n c.requires c.loop-k.row-items c.loop-k.k c.shortest.result c.map.result written
          (omega (arith, long)) (omega arith) c.shortest.ensures c.loop-k.invariant.right;
    }

pub returns-clause-right : goal.returns-clause-right
returns-clause-right g c =
    let n = c.args.table.now.places in
    let long = length-take-le (n * n) c.args.table.now.rows.now c.args.table.now.whole in
    right_front g.M.Length.Measure.laws g.M.Length.Measure.encoding (g.M.Map.graph c.args.map.now) (n * n) c.loop-k.row-items _ (omega (arith, long))
    (λ k h. c.loop-k.invariant.right k (omega (arith, long)))
