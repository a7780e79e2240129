-- Positions that rise, as a walk meets them: each at least one more than the one before.
use Rattle.std.proofs.Common.{ℕ, ◌+◌, ◌<◌, ◌≤◌, List, [], ◌∷◌, ◌++◌, arith}
use Rattle.std.specs.List.{AllByRecursion}
use Rattle.std.proofs.ByRecursion.{All-weaker}
use Rattle.tables.specs.declared.rows.Entry.{Entry}
use Rattle.tables.specs.Walks.{positions}
use Rattle.tables.specs.Tests.{RisingBelow}

-- positions rise from `low` on, and are below `top`
abbrev pub Rises : {R : Type 0} → ℕ → ℕ → List (Entry R) → Type 0
Rises top low [] = Unit {0}
Rises top low (e ∷ es) = (low ≤ e.position) × (e.position < top) × Rises top (e.position + 1) es

module _ {R : Type 0} where
  from_low : (top low : ℕ) (es : List (Entry R)) → Rises top low es → AllByRecursion (λ p. low ≤ p) (positions es)
  from_low top low [] r = tt
  from_low top low (e ∷ es) (a, b, r) = (a, All-weaker (λ p. e.position + 1 ≤ p) (λ p. low ≤ p) (λ p h. omega arith) (positions es) (from_low top (e.position + 1) es r))

  pub rising_from : (top low : ℕ) (es : List (Entry R)) → Rises top low es → RisingBelow top (positions es)
  rising_from top low [] r = (tt, tt)
  rising_from top low (e ∷ es) (a, b, r) =
      let (rise, under) = rising_from top (e.position + 1) es r in (
        (All-weaker (λ p. e.position + 1 ≤ p) (λ p. e.position < p) (λ p h. omega arith) (positions es) (from_low top (e.position + 1) es r), rise),
        (b, under),
      )

  pub rises_from : (top low : ℕ) (es : List (Entry R)) → AllByRecursion (λ p. low ≤ p) (positions es) → RisingBelow top (positions es) → Rises top low es
  rises_from top low [] l r = tt
  rises_from top low (e ∷ es) (a, l) ((over, rise), (b, under)) =
      (a, b, rises_from top (e.position + 1) es (All-weaker (λ p. e.position < p) (λ p. e.position + 1 ≤ p) (λ p h. omega arith) (positions es) over) (rise, under))

  pub rises_all : (top : ℕ) (es : List (Entry R)) → RisingBelow top (positions es) → Rises top 0 es
  rises_all top es h = rises_from top 0 es (All-weaker (λ p. p < top) (λ p. 0 ≤ p) (λ p _. omega arith) (positions es) h.1) h

  -- one more at the end, and one less
  pub rises_push : (top swept low : ℕ) (es : List (Entry R)) (e : Entry R)
      → Rises top low es → low ≤ e.position → top ≤ e.position → e.position < swept → Rises swept low (es ++ (e ∷ []))
  rises_push top swept low [] e r l t s = (l, s, tt)
  rises_push top swept low (x ∷ xs) e (a, b, r) l t s = (a, omega arith, rises_push top swept (x.position + 1) xs e r (omega arith) t s)

  pub rises_pop : (swept low : ℕ) (es : List (Entry R)) (e : Entry R)
      → Rises swept low (es ++ (e ∷ [])) → (e.position < swept) × (low ≤ e.position) × Rises e.position low es
  rises_pop swept low [] e (a, b, r) = (b, a, tt)
  rises_pop swept low (x ∷ xs) e (a, b, r) =
      let (s, l, q) = rises_pop swept (x.position + 1) xs e r in
      (s, omega arith, (a, omega arith, q))

  pub rises_weaker : (top swept low : ℕ) (es : List (Entry R)) → top ≤ swept → Rises top low es → Rises swept low es
  rises_weaker top swept low [] h r = tt
  rises_weaker top swept low (x ∷ xs) h (a, b, r) = (a, omega arith, rises_weaker top swept (x.position + 1) xs h r)
