-- A space and digits are a word.
use Rattle.std.proofs.Common.{arith}
use Rattle.question_lines.proofs.Numbers.{word_read}
use Rattle.question_lines.proofs.word.word.Goals as goal

pub returns-in-32-2 : goal.returns-in-32-2
returns-in-32-2 c =
    word_read c.args.line.now c.args.at c.from_place.result.now c.number_from-number.result.0 c.number_from-number.result.1 c.from_place.ensures c.in-32-2.len_at_least (omega arith) c.number_from-number.ensures
