-- The number of entries due in all, and whether it passes a number of cells.
use Rattle.std.specs.Prelude.{◌≡◌, ℕ, ◌<◌, List, length, sum_by}
use Rattle.std.specs.List.{range_with_len}
use Rattle.bottom_k.specs.Sketches.{Setting, Entry, AllDue}

-- the entries of the sketches of the places below n, counted
abbrev pub entries_of : {L : Type 0} → ℕ → (ℕ → List (Entry L)) → ℕ
entries_of n sketch = sum_by (λ v. length (sketch v)) (range_with_len 0 n)

-- so many entries are due in all with `swept` places swept
abbrev pub EntriesDue : {L : Type 0} → Setting L → ℕ → ℕ → Type 0
EntriesDue {L} s swept total = (sketch : ℕ → List (Entry L)) × AllDue s swept sketch × (total ≡ entries_of s.map.places sketch)

-- the entries due pass a number of cells
abbrev pub PassesCells : {L : Type 0} → Setting L → ℕ → ℕ → Type 0
PassesCells s swept cells = (total : ℕ) × EntriesDue s swept total × (cells < total)
