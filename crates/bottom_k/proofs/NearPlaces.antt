-- Testing whether places lie within a limit, by a function that gives the least lengths.
use Rattle.std.proofs.Common.{◌≡◌, ℕ, zero, suc, ◌+◌, ◌<◌, ◌≤◌, Bool, true, false, ◌||◌, T, List, [], ◌∷◌, length, Some, None, Option, refl, subst, inl, inr, ⊎_elim, arith}
use native.Mathlib.Decide.{ℕ_discrete}
use Rattle.std.specs.List.{range_with_len}
use Rattle.graph.specs.Members.{In}
use Rattle.graph.specs.Ways.{LeastOrNone}
use Rattle.graph.proofs.Lists.{all_in, all_from_in}
use Rattle.graph.proofs.LeastWays.{least_within, within_least, least_once}
use Rattle.bottom_k.specs.Lists.{Rising}
use Rattle.bottom_k.specs.Sketches.{Setting, Near, NearBefore, place_at}
use Rattle.bottom_k.specs.Computed.{GivesLeast, is_within, some_passes, is_near, near_before}
use Rattle.bottom_k.proofs.Members.{in_kept, kept_in}
use Rattle.bottom_k.proofs.Apart.{apart_rising, apart_kept, apart_fits}

-- the numbers from a on
pub in_counting : (a n q : ℕ) → a ≤ q → q < a + n → In q (range_with_len a n)
in_counting a zero q low high = absurd (omega arith)
in_counting a (suc n) q low high = go (ℕ_discrete q a) (in_counting (a + 1) n q)
  where
    go : Dec (q ≡ a) → (a + 1 ≤ q → q < a + 1 + n → In q (range_with_len (a + 1) n)) → In q (range_with_len a (suc n))
    go (yes e) rest = inl e
    go (no d) rest = inr (rest (omega arith) (omega arith))

pub counting_in : (a n q : ℕ) → In q (range_with_len a n) → (a ≤ q) × (q < a + n)
counting_in a zero q i = absurd i
counting_in a (suc n) q (inl e) = (omega arith, omega arith)
counting_in a (suc n) q (inr i) = let r = counting_in (a + 1) n q i in (omega (arith, r.0), omega (arith, r.1))

pub counting_rises : (a n : ℕ) → Rising (range_with_len a n)
counting_rises a zero = tt
counting_rises a (suc n) = (all_from_in (λ y. a < y) (range_with_len (a + 1) n) (λ y i. let r = counting_in (a + 1) n y i in omega (arith, r.0)), counting_rises (a + 1) n)

-- some element passes the test
pub passes_in : {X : Type 0} (test : X → Bool) (xs : List X) → T (some_passes test xs) → (x : X) × In x xs × T (test x)
passes_in test [] h = absurd h
passes_in {X} test (x ∷ xs) h = go (test x) (λ t. t) (λ t. passes_in test xs t) h
  where
    go : (b : Bool) → (T b → T (test x)) → (T (some_passes test xs) → (y : X) × In y xs × T (test y)) → T (b || some_passes test xs) → (y : X) × In y (x ∷ xs) × T (test y)
    go true here there k = (x, inl refl, here tt)
    go false here there k = let r = there k in (r.0, inr r.1, r.2)

pub in_passes : {X : Type 0} (test : X → Bool) (xs : List X) (x : X) → In x xs → T (test x) → T (some_passes test xs)
in_passes test [] x i h = absurd i
in_passes test (y ∷ ys) x i h = go (test y) i (λ e. subst (λ z. T (test z)) e h) (λ j. in_passes test ys x j h)
  where
    go : (b : Bool) → In x (y ∷ ys) → (x ≡ y → T b) → (In x ys → T (some_passes test ys)) → T (b || some_passes test ys)
    go true j here there = tt
    go false j here there = ⊎_elim (λ e. absurd (here e)) there j

module _ {L : Type 0} (s : Setting L) (least : ℕ → ℕ → Option L) (gives : GivesLeast s.measure s.map least) where
  -- the test tells whether a place lies within t
  pub near_if_test : (v q : ℕ) (t : L) → T (is_near s least v t q) → Near s v q t
  near_if_test v q t h = go (least v (place_at s q)) (gives v (place_at s q)) h
    where
      go : (o : Option L) → LeastOrNone s.measure s.map v (place_at s q) o → T (is_within s.measure t o) → Near s v q t
      go None none k = absurd k
      go (Some d) l k = within_least s.measure s.map v (place_at s q) d t k l

  pub test_if_near : (v q : ℕ) (t : L) → Near s v q t → T (is_near s least v t q)
  test_if_near v q t near = go (least v (place_at s q)) (gives v (place_at s q))
    where
      go : (o : Option L) → LeastOrNone s.measure s.map v (place_at s q) o → T (is_within s.measure t o)
      go None none = absurd (none near.0 near.1)
      go (Some d) l =
          let b = least_within s.measure s.map v (place_at s q) t near in
          subst (λ x. T (s.measure.at_most x t)) (least_once s.measure s.map v (place_at s q) b.0 d b.1 l) b.2

  -- the positions found are near and differ, and are as many as any that are near and differ
  pub found_near : (v p : ℕ) (t : L) → NearBefore s v p t (near_before s least v p t)
  found_near v p t = (
    apart_kept (is_near s least v t) (range_with_len 0 p) (apart_rising (range_with_len 0 p) (counting_rises 0 p)),
    all_from_in (λ q. (q < p) × Near s v q t) _ (λ q i.
        let k = kept_in (is_near s least v t) q (range_with_len 0 p) i in
        let c = counting_in 0 p q k.0 in
        (omega (arith, c.1), near_if_test v q t k.1)),
  )

  pub found_all : (v p : ℕ) (t : L) (qs : List ℕ) → NearBefore s v p t qs → length qs ≤ length (near_before s least v p t)
  found_all v p t qs near = apart_fits qs (near_before s least v p t) near.0
      (all_from_in (λ q. In q (near_before s least v p t)) qs (λ q i.
      let o = all_in (λ r. (r < p) × Near s v r t) qs near.1 q i in
      in_kept (is_near s least v t) q (range_with_len 0 p) (in_counting 0 p q (omega arith) (omega (arith, o.0))) (test_if_near v q t o.1)))
