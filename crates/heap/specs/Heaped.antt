-- The order of a heap, over the key that stands in each slot.
use Rattle.std.specs.Prelude.{◌≡◌, ℕ, ◌-◌, ◌/◌, ◌<◌, T, List, ◌≢◌, slice_index, slice_index_or}
use Rattle.measure.specs.Orders.{TotalOrder}

-- the slot above a slot
abbrev pub above : ℕ → ℕ
above i = (i - 1) / 2

module _ {K : Type 0} (o : TotalOrder K) where
  -- the key of the place in a slot
  abbrev pub key_in : List K → List ℕ → ℕ → K
  key_in keys slots i = slice_index_or keys (slice_index slots i) o.least

  -- each slot's key is at least that of the slot above
  abbrev pub Heaped : (ℕ → K) → ℕ → Type 0
  Heaped f len = (i : ℕ) → 0 < i → i < len → T (o.at_most (f (above i)) (f i))

  -- the key above a slot is at most those below the slot
  abbrev pub Bridged : (ℕ → K) → ℕ → ℕ → Type 0
  Bridged f len at = (i : ℕ) → 0 < i → i < len → above i ≡ at → 0 < at → T (o.at_most (f (above at)) (f i))

  -- the order of a heap but between one slot and the slot above it
  abbrev pub HeapedButAbove : (ℕ → K) → ℕ → ℕ → Type 0
  HeapedButAbove f len at =
      ((i : ℕ) → 0 < i → i < len → (i ≢ at) → T (o.at_most (f (above i)) (f i))) × Bridged f len at

  -- the order of a heap but between one slot and those below it
  abbrev pub HeapedButBelow : (ℕ → K) → ℕ → ℕ → Type 0
  HeapedButBelow f len at =
      ((i : ℕ) → 0 < i → i < len → (above i ≢ at) → T (o.at_most (f (above i)) (f i))) × Bridged f len at
