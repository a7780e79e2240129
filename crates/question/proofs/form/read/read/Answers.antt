-- A line with no letter, one with a limit and places, and one with a letter of no form.
use Rattle.std.proofs.Common.{arith}
use Rattle.question.proofs.Letters.{asks, empty_refused, letter_refused}
use Rattle.question.proofs.form.read.read.Goals as goal
use Rattle.question.specs.declared.form.Question.TheVariants.{JointSample}

pub returns-then-is_empty : goal.returns-then-is_empty
returns-then-is_empty c = empty_refused c.args.line.now c.if-line-gt-LONGEST.false (grind arith)

pub returns-in_ok-limit-in-U : goal.returns-in_ok-limit-in-U
returns-in_ok-limit-in-U c =
    asks c.args.line.now (JointSample c.in_ok-limit-in-U.limit c.in_ok-limit-in-U.places) c.if-line-gt-LONGEST.false c.in-U.is (rw c.after_letter-words.ensures.line at c.in_ok-limit-in-U.ensures)

pub returns-in_default : goal.returns-in_default
returns-in_default c =
    letter_refused c.args.line.now c.if-line-gt-LONGEST.false (λ e. omega (arith, e)) (λ e. omega (arith, e)) (λ e. omega (arith, e)) (λ e. omega (arith, e)) (λ e. omega (arith, e))
