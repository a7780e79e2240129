-- The order of places: lower rank first, equal ranks by lower place number.
use Rattle.std.specs.Prelude.{◌≡◌, ℕ, zero, suc, ◌<◌, ◌≤◌, Bool, cond, ◌⊎◌, ◌↔◌, List, [], ◌∷◌, length, slice_index}
use Rattle.std.specs.List.{AllByRecursion}
use Rattle.measure.specs.Orders.{number_order, pair_order}
use Rattle.graph.specs.Members.{In}
use Rattle.bottom_k.specs.Lists.{Ordered}

-- ranks run from 1 to 4,294,967,295, one for each of n places
abbrev pub Ranks : ℕ → List ℕ → Type 0
Ranks n ranks = (length ranks ≡ n) × AllByRecursion (λ r. (1 ≤ r) × (r ≤ 4294967295)) ranks

-- the rank of a place
abbrev pub rank_of : List ℕ → ℕ → ℕ
rank_of ranks v = slice_index ranks v

-- v comes before w: it has the lower rank, or the same rank and the lower number
abbrev pub Before : List ℕ → ℕ → ℕ → Type 0
Before ranks v w = (rank_of ranks v < rank_of ranks w) ⊎ ((rank_of ranks v ≡ rank_of ranks w) × (v < w))

-- each place of the list comes before all that follow it
abbrev pub InOrder : List ℕ → List ℕ → Type 0
InOrder ranks vs = Ordered (Before ranks) vs

-- the list has just the places below n, first-ranked first
pub record Ranking (ranks : List ℕ) (n : ℕ) (order : List ℕ) : Type 0 where
  pub in_order : InOrder ranks order
  pub places : (v : ℕ) → In v order ↔ (v < n)

-- does v come before w, or is it w? Pairs of rank and number, compared by rank first
abbrev pub not_after : List ℕ → ℕ → ℕ → Bool
not_after ranks v w = (pair_order number_order number_order).at_most (rank_of ranks v, v) (rank_of ranks w, w)

-- a place put into a list that is in order
abbrev pub put_in_order : List ℕ → ℕ → List ℕ → List ℕ
put_in_order ranks v [] = v ∷ []
put_in_order ranks v (w ∷ ws) = cond (not_after ranks v w) (v ∷ w ∷ ws) (w ∷ put_in_order ranks v ws)

-- the places below n in order, worked out one by one
abbrev pub ranking : List ℕ → ℕ → List ℕ
ranking ranks zero = []
ranking ranks (suc n) = put_in_order ranks n (ranking ranks n)
