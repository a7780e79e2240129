use Rattle.std.proofs.Common.{◌≡◌, ◌*◌}
use Rattle.graph.proofs.Lists.{below}
use Rattle.all_pairs.specs.Tables.{RightBelow, SameFrom}
use Rattle.all_pairs.proofs.least_lengths.Given as goal

-- right for the ways by way of the places so far
abbrev pub invariant-loop-x : goal.invariant-loop-x
invariant-loop-x g l =
    let n = l.initial.table.places in record {
      same_reference : l.table.rows.ghost_name ≡ l.initial.table.rows.ghost_name;
      same_places : l.table.places ≡ n;
      right : RightBelow g.M.Length.Measure.laws g.M.Length.Measure.encoding (g.M.Map.graph l.map) (below l.x) l.table.rows.now (n * n);
      rest : SameFrom (n * n) l.initial.table.rows.now l.table.rows.now;
    }
