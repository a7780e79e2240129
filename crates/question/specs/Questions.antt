-- What each question writes: its letter and its numbers.
use Rattle.std.specs.Prelude.{◌≡◌, ℕ, List, [], ◌∷◌, take}
use Rattle.question.specs.declared.places.Places.{Places}
use Rattle.question.specs.declared.form.Question.{Question}
use Rattle.question.specs.declared.form.Question.TheVariants.{Found, Sweep, TakeBack, Sample, JointSample}
use Rattle.question_lines.specs.Lines.{spaced, Fit, Allowed}

abbrev pub places_of : Places → List ℕ
places_of p = take p.count p.items

abbrev pub letter_of : Question → ℕ
letter_of (Found k) = 75
letter_of (Sweep m) = 78
letter_of (TakeBack m) = 66
letter_of (Sample place limit) = 83
letter_of (JointSample limit places) = 85

abbrev pub numbers_of : Question → List ℕ
numbers_of (Found k) = k ∷ []
numbers_of (Sweep m) = m ∷ []
numbers_of (TakeBack m) = m ∷ []
numbers_of (Sample place limit) = place ∷ (limit ∷ [])
numbers_of (JointSample limit places) = limit ∷ places_of places

abbrev pub written : Question → List ℕ
written q = letter_of q ∷ spaced (numbers_of q)

-- an allowed line is what this question writes, and what no other writes whose numbers fit
pub record Reads (line : List ℕ) (q : Question) : Type 0 where
  pub allowed : Allowed line
  pub fit : Fit (numbers_of q)
  pub writes : line ≡ written q
  pub alone : (other : Question) → Fit (numbers_of other) → line ≡ written other → other ≡ q
