-- The digits read so far are those of the number so far.
use Rattle.std.proofs.Common.{◌≡◌, ◌^◌, ◌<◌, ◌∷◌, ◌++◌, drop, decimal}
use Rattle.question_lines.proofs.number.number_from.Given as goal

abbrev pub invariant-loop-taken : goal.invariant-loop-taken
invariant-loop-taken l = record {
  text : l.digit ∷ l.rest ≡ decimal l.number ++ drop l.taken l.rest;
  fits : l.number < 2 ^ 32;
}
