-- So far the places before this one are written.
use Rattle.std.proofs.Common.{take}
use Rattle.std.specs.Fmt.{IsPlainFormatter, HasWritten}
use Rattle.question.proofs.form.write.PlacesDisplay.fmt.Given as goal
use Rattle.question_lines.specs.Lines.{spaced}

abbrev pub invariant-loop-place : goal.invariant-loop-place
invariant-loop-place g l = IsPlainFormatter l.initial.f → HasWritten g.W.Write.write_str_gives l.initial.f (spaced (take l.place-index l.place-items)) l.f
