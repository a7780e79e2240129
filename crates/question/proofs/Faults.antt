-- Reading word by word: what was read of a line, and the faults of its words as faults of a line of its letter.
use Rattle.std.proofs.Common.{◌≡◌, ℕ, ◌+◌, ◌<◌, ◌≤◌, List, [], ◌∷◌, ◌++◌, length, get_or, take, set, sym, refl, ap, ◌∙◌, subst, arith}
use Rattle.std.proofs.lemmas.List.{take_more_set, take_all}
use Rattle.fault.specs.declared.line.LineFault.{LineFault}
use Rattle.fault.specs.declared.line.LineFault.TheVariants.{NoForm, Atlas}
use Rattle.question.specs.declared.reader.WordReader.{WordReader}
use Rattle.question_lines.specs.Faults.{NoWordAt, PastEnd}
use Rattle.question_lines.specs.Lines.{Share, MostShared}
use Rattle.question.specs.Readers.{line_of, place_of}
use Rattle.question_lines.specs.Words.{Lettered, Lettering, Word, Words}
use Rattle.question_lines.proofs.Nearest.{lettering, no_word, no_word_none, past_end, spaced_many}
use Rattle.question_lines.proofs.SoFar.{SoFar, start, more, more_words}
use Rattle.question.specs.Refused.{NotLettered, NoWords}

-- a reader took the words of these numbers from a line
pub record Taken (line ns : List ℕ) (words : WordReader) : Type 0 where
  pub same : line_of words ≡ line
  pub so_far : SoFar (get_or line 0 0) line ns (place_of words)

pub none_taken : (words : WordReader) → place_of words ≡ 1 → Taken (line_of words) [] words
none_taken words first =
    record { same = refl; so_far = subst (SoFar (get_or (line_of words) 0 0) (line_of words) []) (sym first) (start (line_of words) (omega (arith, words.within))) }

one_more : {line ns : List ℕ} {words next : WordReader} (n : ℕ) → Taken line ns words → line_of next ≡ line_of words → Word (line_of words) (place_of words) n (place_of next) → Taken line (ns ++ (n ∷ [])) next
one_more {line = line} {ns = ns} {words = words} {next = next} n t same w =
    record { same = same ∙ t.same; so_far = more (get_or line 0 0) line ns (place_of words) n (place_of next) t.so_far (subst (λ (l : List ℕ). Word l (place_of words) n (place_of next)) t.same w) }

pub first_taken : (words next : WordReader) (n : ℕ) → place_of words ≡ 1 → line_of next ≡ line_of words → Word (line_of words) (place_of words) n (place_of next) → Taken (line_of words) (n ∷ []) next
first_taken words next n first same w = one_more n (none_taken words first) same w

-- into a table
pub one_put : {line : List ℕ} {words next : WordReader} (items : List ℕ) (i n : ℕ) → i < length items → Taken line (take i items) words → line_of next ≡ line_of words → Word (line_of words) (place_of words) n (place_of next) → Taken line (take (i + 1) (set items i n)) next
one_put {line = line} {words = words} {next = next} items i n h t same w =
    subst (λ (ns : List ℕ). Taken line ns next) (sym (take_more_set items i n h)) (one_more n t same w)

-- every word is taken
pub all_taken : {line ns : List ℕ} {words : WordReader} → Taken line ns words → length (line_of words) ≤ place_of words → Lettering line ns
all_taken {line = line} {ns = ns} {words = words} t end =
    lettering line ns (place_of words) t.so_far (omega (arith, ap length t.same, t.so_far.within))

-- every word is taken, and the table is full
pub all_put : {line : List ℕ} {words : WordReader} (items : List ℕ) (i : ℕ) → length items ≤ i → Taken line (take i items) words → length (line_of words) ≤ place_of words → Lettering line items
all_put {line = line} {words = words} items i full t end = subst (Lettering line) (take_all i items full) (all_taken t end)

module _ (fewest most : ℕ) (line ns : List ℕ) (at : ℕ) (s : SoFar (get_or line 0 0) line ns at) (short : length line ≤ 80) where
  missing : (fault : LineFault) → NoWordAt line at fault → length ns < most → fewest ≤ 2 → fewest ≤ most → (at ≡ length line → length ns < fewest) → NotLettered fewest most line fault
  missing (NoForm e) stop few two proper early = (
    no_word_none (get_or line 0 0) fewest most line ns at s short e stop few two proper early,
    omega (arith, s.long, stop.from),
    no_word (get_or line 0 0) fewest most line ns at s short e stop few two proper,
  )
  missing (Atlas fault) stop few two proper early = stop

  surplus : (fault : LineFault) → PastEnd line at fault → fewest ≤ length ns → length ns ≡ most → NotLettered fewest most line fault
  surplus (NoForm e) stop many full =
      let best = past_end (get_or line 0 0) fewest most line ns at s short stop.1 many full in
      let itself : Share (length line) line line = record { within_a = omega arith; within_b = omega arith; same = refl } in (
        λ w. omega (arith, best.no_more line (length line) w itself, stop.1),
        omega (arith, s.long, stop.0),
        subst (MostShared (Lettered (get_or line 0 0) fewest most) line) (sym stop.0) best,
      )
  surplus (Atlas fault) stop many full = stop

module _ {line ns : List ℕ} {words : WordReader} (t : Taken line ns words) where
  short : length line ≤ 80
  short = omega (arith, words.short, ap length t.same)

  -- no word stands where one is expected
  pub none_left : (fewest most : ℕ) (fault : LineFault) → NoWordAt (line_of words) (place_of words) fault → length ns < most → fewest ≤ 2 → fewest ≤ most → length ns < fewest → NotLettered fewest most line fault
  none_left fewest most fault stop few two proper early =
      missing fewest most line ns (place_of words) t.so_far short fault (subst (λ (l : List ℕ). NoWordAt l (place_of words) fault) t.same stop) few two proper (λ _. early)

  -- something stands after the last word
  pub some_left : (count : ℕ) (fault : LineFault) → PastEnd (line_of words) (place_of words) fault → length ns ≡ count → NotLettered count count line fault
  some_left count fault stop full =
      surplus count count line ns (place_of words) t.so_far short fault (subst (λ (l : List ℕ). PastEnd l (place_of words) fault) t.same stop) (omega arith) full

-- one word more at the end
pub words_more : (line : List ℕ) (at : ℕ) (ns : List ℕ) (mid n next : ℕ) → Words line at ns mid → Word line mid n next → Words line at (ns ++ (n ∷ [])) next
words_more line at [] mid n next is w = (next, subst (λ (i : ℕ). Word line i n next) (sym is) w, refl)
words_more line at (m ∷ ns) mid n next ws w = (ws.0, ws.1, words_more line ws.0 ns mid n next ws.2 w)

-- the places after a limit
pub places_taken : {line : List ℕ} {words : WordReader} (limit : ℕ) (places : List ℕ) → Taken line (limit ∷ []) words → Words (line_of words) (place_of words) places (length (line_of words)) → Lettering line (limit ∷ places)
places_taken {line = line} {words = words} limit places t read =
    let all = more_words (get_or line 0 0) line (limit ∷ []) places (place_of words) (length line) t.so_far (subst (λ (l : List ℕ). Words l (place_of words) places (length l)) t.same read) in
    lettering line (limit ∷ places) (length line) all refl

-- where they stop no place stands
pub place_missing : {line : List ℕ} {words : WordReader} (limit : ℕ) → Taken line (limit ∷ []) words → (fault : LineFault) → NoWords (line_of words) (place_of words) fault → NotLettered 2 80 line fault
place_missing {line = line} {words = words} limit t fault stop =
    let same = λ (l : List ℕ). Words l (place_of words) stop.numbers stop.next in
    let all = more_words (get_or line 0 0) line (limit ∷ []) stop.numbers (place_of words) stop.next t.so_far (subst same t.same stop.read) in
    missing 2 80 line (limit ∷ stop.numbers) stop.next all (short t) fault (subst (λ (l : List ℕ). NoWordAt l stop.next fault) t.same stop.fails)
    (omega (arith, all.long, all.within, spaced_many (limit ∷ stop.numbers) all.fit, short t)) (omega arith) (omega arith) (λ e. omega (arith, stop.none (e ∙ ap length (sym t.same))))
