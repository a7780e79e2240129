use Rattle.tables.specs.Tests.{RisingBelow}
use Rattle.tables.specs.Walks.{plain_sketch, positions}
use Rattle.tables.proofs.Chains.{Same}
use Rattle.tables.proofs.Rises.{Rises}
use Rattle.sketches.specs.Reader.{entries_left}
use Rattle.examine.proofs.Rising.{lowest}
use Rattle.examine.proofs.memory.Memory.rises.Given as goal

-- the sketch rises exactly if what is left of it does
abbrev pub invariant-loop-entry : goal.invariant-loop-entry
invariant-loop-entry g l =
    Same (RisingBelow l.self.swept (positions (plain_sketch l.self.sketches.home.now l.self.sketches.cells.now l.v)))
    (Rises l.self.swept (lowest l.before) (entries_left l.entry-iterator))
