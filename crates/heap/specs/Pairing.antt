-- Slots and positions that point back at each other.
use Rattle.std.specs.Prelude.{◌≡◌, ℕ, ◌<◌, Bool, not, List, ◌==◌, ◌≢◌, slice_index, slice_index_or, slice_set}

-- the mark of a place: its slot, or 4,096 if it is absent, as is what is no place
abbrev pub mark : List ℕ → ℕ → ℕ
mark positions p = slice_index_or positions p 4096

-- whether a place stands in some slot
abbrev pub waits : List ℕ → ℕ → Bool
waits positions p = not (mark positions p == 4096)

-- each slot below `len` holds a place, whose mark is that slot
abbrev pub Filled : List ℕ → List ℕ → ℕ → Type 0
Filled slots positions len =
    (i : ℕ) → i < len → (slice_index slots i < 4096) × (mark positions (slice_index slots i) ≡ i)

-- the mark of a place that is not absent is a slot below `len`, which holds that place
abbrev pub Placed : List ℕ → List ℕ → ℕ → Type 0
Placed slots positions len =
    (p : ℕ) → (mark positions p ≢ 4096) → (mark positions p < len) × (slice_index slots (mark positions p) ≡ p)

-- two slots' places exchanged
abbrev pub exchange : List ℕ → ℕ → ℕ → List ℕ
exchange slots i j = slice_set (slice_set slots i (slice_index slots j)) j (slice_index slots i)
