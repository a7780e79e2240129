use Rattle.std.proofs.Common.{◌≡◌}
use Rattle.town.specs.Files.{records, CleanTo}
use Rattle.town.specs.Holds.{Holds, SameRoom}
use Rattle.town.proofs.filling.Filling.add_file.Given as goal

-- the records so far are without fault, and the tables hold what they say, in the memory they had
abbrev pub invariant-loop-i : goal.invariant-loop-i
invariant-loop-i g l = record {
  holds : Holds g.M.FileMeasure.form (records l.file l.i-counter) l.self.tables;
  clean : CleanTo g.M.FileMeasure.form l.initial.self.limits l.file l.i-counter;
  limits : l.self.limits ≡ l.initial.self.limits;
  same_room : SameRoom l.initial.self.tables l.self.tables;
}
