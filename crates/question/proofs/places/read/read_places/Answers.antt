-- A word more is a place more.
use Rattle.std.proofs.Common.{ℕ, rules, ap, length, arith, length-append}
use Rattle.question.specs.Readers.{place_of}
use Rattle.question.proofs.Faults.{words_more}
use Rattle.question.proofs.places.read.read_places.Goals as goal

pub loop-words-preserved : goal.loop-words-preserved
loop-words-preserved c =
    let w = c.in_ok-next_number-2.ensures.read in
    record {
      line = search rules;
      read = rw c.push.ensures (words_more _ _ _ (place_of c.loop-words.words) _ _ c.loop-words.invariant.read (rw c.loop-words.invariant.line at w));
      room = omega (arith, c.loop-words.invariant.room, w.digits.some, ap length c.push.ensures, length-append {A = ℕ});
    }
