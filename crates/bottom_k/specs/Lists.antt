-- Lists in order, lists of numbers without repeats, and the first k numbers that have a property.
use Rattle.std.specs.Prelude.{◌≡◌, ℕ, ◌<◌, ◌≤◌, ◌⊎◌, List, [], ◌∷◌, length}
use Rattle.std.specs.List.{AllByRecursion}
use Rattle.graph.specs.Members.{In}

-- no number stands twice in the list
abbrev pub Apart : List ℕ → Type 0
Apart [] = Unit {0}
Apart (x ∷ xs) = (¬ In x xs) × Apart xs

-- each element stands in the relation to all that follow it
abbrev pub Ordered : {X : Type 0} → (X → X → Type 0) → List X → Type 0
Ordered R [] = Unit {0}
Ordered R (x ∷ xs) = AllByRecursion (R x) xs × Ordered R xs

-- each number is below all that follow it
abbrev pub Rising : List ℕ → Type 0
Rising xs = Ordered (λ x y. x < y) xs

-- xs lists, in rising order, the first k of the numbers that have P, or all of them where they are fewer:
-- whatever else has P comes after all of k members
pub record FirstK (k : ℕ) (P : ℕ → Type 0) (xs : List ℕ) : Type 0 where
  pub rising : Rising xs
  pub right : AllByRecursion P xs
  pub few : length xs ≤ k
  pub first : (q : ℕ) → P q → In q xs ⊎ ((length xs ≡ k) × AllByRecursion (λ x. x < q) xs)
