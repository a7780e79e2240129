-- Places taken out one after another: exactly what was held, keys never falling.
use Rattle.std.specs.Prelude.{◌≡◌, ℕ, ◌<◌, ◌≤◌, true, T, ◌⊎◌, List, is_some, Some, None, Option, slice_index}
use Rattle.measure.specs.Orders.{TotalOrder}

-- a place is among the first `count` of a list
abbrev pub Among : List ℕ → ℕ → ℕ → Type 0
Among places count p = (i : ℕ) × ((i < count) × (slice_index places i ≡ p))

module _ {K : Type 0} where
  -- the first `count` places of a list were taken out of what was held before, and `after` is left
  pub record Drained (before : ℕ → Option K) (places : List ℕ) (count : ℕ) (after : ℕ → Option K) : Type 0 where
    -- each of them was held
    pub held : (i : ℕ) → i < count → is_some (before (slice_index places i)) ≡ true
    -- none of them comes twice
    pub once : (i j : ℕ) → i < count → j < count → slice_index places i ≡ slice_index places j → i ≡ j
    -- none of them is left
    pub gone : (i : ℕ) → i < count → after (slice_index places i) ≡ None
    -- every other place is as it was
    pub kept : (p : ℕ) → Among places count p ⊎ (after p ≡ before p)

  -- the keys that they had never fall, and none is above a key that is left
  pub record Rising (o : TotalOrder K) (before : ℕ → Option K) (places : List ℕ) (count : ℕ) (after : ℕ → Option K) : Type 0 where
    pub along : (i j : ℕ) (a b : K) → i ≤ j → j < count → before (slice_index places i) ≡ Some a → before (slice_index places j) ≡ Some b
        → T (o.at_most a b)
    pub ahead : (i p : ℕ) (a b : K) → i < count → before (slice_index places i) ≡ Some a → after p ≡ Some b → T (o.at_most a b)

  -- every place that was held is among them
  abbrev pub HandsOutAll : (ℕ → Option K) → List ℕ → ℕ → Type 0
  HandsOutAll before places count = (p : ℕ) → is_some (before p) ≡ true → Among places count p
