use Rattle.std.proofs.Common.{[]}
use Rattle.all_pairs.specs.Tables.{RightBelow}
use Rattle.all_pairs.proofs.direct.fill.Given as goal

-- the rows so far are filled
abbrev pub invariant-loop-k : goal.invariant-loop-k
invariant-loop-k g l = record {
  right : RightBelow g.M.Length.Measure.laws g.M.Length.Measure.encoding (g.M.Map.graph l.map) [] l.row-items l.k;
}
