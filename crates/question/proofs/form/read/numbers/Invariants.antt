-- The numbers written so far are those read so far.
use Rattle.std.proofs.Common.{◌≡◌, length, take}
use Rattle.question.specs.Readers.{line_of}
use Rattle.question.proofs.Faults.{Taken}
use Rattle.question.proofs.form.read.numbers.Given as goal

abbrev pub invariant-loop-number : goal.invariant-loop-number
invariant-loop-number g l = record {
  taken : Taken (line_of l.fn.words) (take l.number-index l.number-items) l.words;
  many : length l.number-items ≡ g.row.N;
}
