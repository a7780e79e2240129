-- How a line is read word by word: a word is a space and a number.
use Rattle.std.specs.Prelude.{◌≡◌, ℕ, ◌+◌, ◌-◌, ◌*◌, ◌^◌, ◌<◌, ◌≤◌, List, [], ◌∷◌, ◌++◌, length, drop, decimal, slice_index, slice_index_or}
use Rattle.question_lines.specs.Lines.{spaced, Fit}

-- a byte that can follow the digits of a number and makes another number
abbrev pub Extends : ℕ → ℕ → Type 0
Extends n byte = (48 ≤ byte) × (byte ≤ 57) × (0 < n) × (n * 10 + (byte - 48) < 2 ^ 32)

-- the digits of n stand from one place to the next, and the number goes no further
pub record Digits (line : List ℕ) (at n next : ℕ) : Type 0 where
  pub text : drop at line ≡ decimal n ++ drop next line
  pub fits : n < 2 ^ 32
  pub some : at < next
  pub within : next ≤ length line
  pub whole : next < length line → Extends n (slice_index line next) → ⊥

-- a space stands at a place, and a number after it
pub record Word (line : List ℕ) (at n next : ℕ) : Type 0 where
  pub space : slice_index_or line at 0 ≡ 32
  pub digits : Digits line (at + 1) n next

-- no word stands at a place, and the line agrees with one up to e: not at all, or by its space alone, if there is room for a digit in 80 bytes
pub record NoWord (line : List ℕ) (at e : ℕ) : Type 0 where
  pub from : at ≤ e
  pub upto : e ≤ at + 1
  pub within : at ≤ length line → e ≤ length line
  pub space : at < e → (slice_index line at ≡ 32) × (at + 2 ≤ 80)
  pub no_space : e ≡ at → e < length line → slice_index line at ≡ 32 → 80 ≤ at + 1
  pub no_digit : at < e → e < length line → 48 ≤ slice_index line e → slice_index line e ≤ 57 → ⊥

-- the lines with this letter and so many numbers
pub record Lettered (letter fewest most : ℕ) (line : List ℕ) : Type 0 where
  pub numbers : List ℕ
  pub many : fewest ≤ length numbers
  pub few : length numbers ≤ most
  pub fit : Fit numbers
  pub writes : line ≡ letter ∷ spaced numbers
  pub short : length line ≤ 80

-- the line is its letter and these numbers, and no other numbers write it
pub record Lettering (line : List ℕ) (ns : List ℕ) : Type 0 where
  pub writes : line ≡ slice_index line 0 ∷ spaced ns
  pub fit : Fit ns
  pub alone : (ms : List ℕ) → Fit ms → line ≡ slice_index line 0 ∷ spaced ms → ms ≡ ns

-- words with these numbers stand from one place to the next
abbrev pub Words : List ℕ → ℕ → List ℕ → ℕ → Type 0
Words line at [] next = at ≡ next
Words line at (n ∷ ns) next = (mid : ℕ) × Word line at n mid × Words line mid ns next
