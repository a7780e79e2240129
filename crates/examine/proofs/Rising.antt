-- How a loop that reads a sketch keeps whether positions rise.
use Rattle.std.proofs.Common.{◌≡◌, ℕ, ◌+◌, ◌<◌, ◌≤◌, Some, None, Option, List, [], ◌∷◌, IfSome, arith}
use Rattle.tables.specs.declared.rows.Entry.{Entry}
use Rattle.tables.specs.Tests.{RisingBelow}
use Rattle.tables.specs.Walks.{positions}
use Rattle.tables.proofs.Chains.{Same}
use Rattle.tables.proofs.Rises.{Rises, rises_all, rising_from}

-- the lowest position that may come next
abbrev pub lowest : Option ℕ → ℕ
lowest None = 0
lowest (Some p) = p + 1

module _ {R : Type 0} (swept : ℕ) where
  pub rising_starts : (left all : List (Entry R)) → left ≡ all → Same (RisingBelow swept (positions all)) (Rises swept (lowest None) left)
  rising_starts left all e = rw e (rises_all swept all, rising_from swept 0 all)

  module _ {P : Type 0} (before : Option ℕ) (left : List (Entry R)) (rest : Same P (Rises swept (lowest before) left)) where
    next_is : (o : Option ℕ) (p : ℕ) → IfSome o (λ q. q < p) → lowest o ≤ p
    next_is None p h = omega arith
    next_is (Some q) p h = omega arith

    is_next : (o : Option ℕ) (p : ℕ) → lowest o ≤ p → IfSome o (λ q. q < p)
    is_next None p h = tt
    is_next (Some q) p h = omega arith

    pub rising_goes_on : (e : Entry R) (left' : List (Entry R)) → left ≡ e ∷ left' → IfSome before (λ p. p < e.position) × (e.position < swept)
        → Same P (Rises swept (lowest (Some e.position)) left')
    rising_goes_on e left' is fits =
        let more = rw is at rest in
        (λ p. (more.0 p).2, λ r. more.1 (next_is before e.position fits.0, fits.1, r))

    pub rising_stops : (e : Entry R) (left' : List (Entry R)) → left ≡ e ∷ left' → (IfSome before (λ p. p < e.position) × (e.position < swept) → ⊥) → P → ⊥
    rising_stops e left' is unfit p =
        let more = (rw is at rest).0 p in
        unfit (is_next before e.position more.0, more.1)

    pub rising_ends : left ≡ [] → P
    rising_ends is = (rw is at rest).1 tt
