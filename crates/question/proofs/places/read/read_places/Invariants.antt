-- The places put so far are the words read so far, each of two bytes at least.
use Rattle.std.proofs.Common.{◌≡◌, ◌+◌, ◌-◌, ◌*◌, ◌≤◌, length}
use Rattle.question.specs.Questions.{places_of}
use Rattle.question.specs.Readers.{line_of, place_of}
use Rattle.question_lines.specs.Words.{Words}
use Rattle.question.proofs.places.read.read_places.Given as goal

abbrev pub invariant-loop-words : goal.invariant-loop-words
invariant-loop-words l = record {
  line : line_of l.words ≡ line_of l.fn.words;
  read : Words (line_of l.fn.words) (place_of l.fn.words) (places_of l.places) (place_of l.words);
  room : 3 + 2 * length (places_of l.places) ≤ place_of l.words;
}

abbrev pub decreases-loop-words : goal.decreases-loop-words
decreases-loop-words l = length (line_of l.words) - place_of l.words
