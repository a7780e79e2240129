use Rattle.std.proofs.Common.{ℕ, ◌+◌, List}
use Rattle.town.specs.RowsGraph.{rows_records}
use Rattle.town.specs.Writes.{Wrote}
use Rattle.town.proofs.rows.Rows.write_arcs.Given as goal

abbrev pub invariant-loop-j : goal.invariant-loop-j
invariant-loop-j g l = (was : List ℕ) → Wrote (rows_records g.M.FileMeasure.form l.self) l.places was l.initial.out →
    Wrote (rows_records g.M.FileMeasure.form l.self) (l.places + l.j) was l.out
