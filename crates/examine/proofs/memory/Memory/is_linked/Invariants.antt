use Rattle.std.proofs.Common.{◌-◌}
use Rattle.tables.specs.Rows.{missing}
use Rattle.tables.specs.Walks.{Chain, Linked}
use Rattle.tables.proofs.Chains.{Same}
use Rattle.examine.proofs.memory.Memory.is_linked.Given as goal

-- the sketch is linked exactly if what is left of it is
abbrev pub invariant-loop : goal.invariant-loop
invariant-loop g l =
    Same (Linked l.self.sketches.home.now l.self.sketches.cells.now l.v)
    (Chain l.self.sketches.cells.now l.v l.row.last missing l.before l.at (l.row.entries - l.counter))
