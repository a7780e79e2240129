use Rattle.std.proofs.Common.{◌≡◌, ℕ, ◌+◌, ◌*◌, List, ◌∷◌}
use Rattle.graph.specs.Graphs.{Graph}
use Rattle.all_pairs.specs.Tables.{RightBelow, SameFrom}
use Rattle.all_pairs.proofs.table.Table.shorten_from.Given as goal

-- the rows so far are right by way of x too
abbrev pub invariant-loop-w : goal.invariant-loop-w
invariant-loop-w g l =
    let n = l.initial.self.places in
    let start = l.initial.self.rows.now in
    let table = l.self.rows.now in
    record {
      same_reference : l.self.rows.ghost_name ≡ l.initial.self.rows.ghost_name;
      same_places : l.self.places ≡ n;
      right : (map : Graph g.row.L.Denot) (xs : List ℕ) → map.places ≡ n →
          RightBelow g.L.Measure.laws g.L.Measure.encoding map xs start (n * n) →
          RightBelow g.L.Measure.laws g.L.Measure.encoding map (l.x ∷ xs) start (l.v * n) →
          RightBelow g.L.Measure.laws g.L.Measure.encoding map xs table (n * n)
          × RightBelow g.L.Measure.laws g.L.Measure.encoding map (l.x ∷ xs) table (l.v * n + l.w);
      rest : SameFrom (n * n) start table;
    }
