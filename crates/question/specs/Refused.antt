-- What the faults of a line tell.
use Rattle.std.specs.Prelude.{◌≡◌, ℕ, ◌≤◌, List, length, MatchBool, nat_lt, slice_index}
use Rattle.fault.specs.declared.line.LineFault.{LineFault}
use Rattle.fault.specs.declared.line.LineFault.TheVariants.{NoForm, Atlas}
use Rattle.question_lines.specs.Lines.{Allowed, MostShared}
use Rattle.question_lines.specs.Faults.{NoWordAt}
use Rattle.question_lines.specs.Words.{Words, Lettered}

-- the line is not allowed, and the fault tells the most leading bytes that it shares with an allowed line, or 80 if it has more than 80
abbrev pub Refused : List ℕ → LineFault → Type 0
Refused line (NoForm most) = (Allowed line → ⊥) × MatchBool (nat_lt 80 (length line)) (most ≡ 80) (MostShared Allowed line most)
Refused line (Atlas fault) = ⊥

-- words stand from a place on as far as another, at which none stands; where the line ends at that, there is no word at all
pub record NoWords (line : List ℕ) (at : ℕ) (fault : LineFault) : Type 0 where
  pub numbers : List ℕ
  pub next : ℕ
  pub read : Words line at numbers next
  pub none : next ≡ length line → length numbers ≡ 0
  pub fails : NoWordAt line next fault

-- a line is no letter with so many numbers, and the fault tells the most leading bytes that it shares with one of its letter
abbrev pub NotLettered : ℕ → ℕ → List ℕ → LineFault → Type 0
NotLettered fewest most line (NoForm e) =
    (Lettered (slice_index line 0) fewest most line → ⊥) × (1 ≤ e) × MostShared (Lettered (slice_index line 0) fewest most) line e
NotLettered fewest most line (Atlas fault) = ⊥
