-- The line has the next number.
use Rattle.std.proofs.Common.{◌≡◌}
use Rattle.line_source.proofs.LineSource.advance.Given as goal

abbrev pub invariant-loop : goal.invariant-loop
invariant-loop g l = l.self.number ≡ l.initial.self.number
