-- How the lengths of a measure stand in a file.
use Rattle.std.specs.Prelude.{◌≡◌, ℕ, ◌<◌, ◌≤◌, List, length, Some, Option}
use Rattle.std.specs.List.{AllByRecursion}

-- a length has a field of eight bytes, of which the measure uses the rightmost ones
pub record FileForm (L : Type 0) : Type 0 where
  -- how many bytes are used
  pub used : ℕ
  -- the used bytes of a length
  pub bytes_of : L → List ℕ
  -- the length in the used bytes, if they hold one
  pub length_of : List ℕ → Option L
  pub few : used ≤ 8
  pub sized : (l : L) → length (bytes_of l) ≡ used
  -- what is written reads back
  pub reads_back : (l : L) → length_of (bytes_of l) ≡ Some l
  -- and what is read, from bytes below 256, writes back
  pub writes_back : (bs : List ℕ) (l : L) → length bs ≡ used → AllByRecursion (λ b. b < 256) bs → length_of bs ≡ Some l → bytes_of l ≡ bs
