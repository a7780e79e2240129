-- Lists of numbers that rise or have no repeats, and how long the latter can be.
use Rattle.std.proofs.Common.{◌≡◌, ℕ, suc, ◌<◌, ◌≤◌, Bool, true, false, cond, not, T, eqb, List, [], ◌∷◌, length, filter, sym, ap, ◌∙◌, subst, inl, inr, ⊎_elim, arith, eqb→eq, T_not}
use native.Mathlib.Decide.{ℕ_discrete}
use lib.Dec.{eqb_refl, not_T}
use Rattle.std.specs.List.{AllByRecursion}
use Rattle.graph.specs.Members.{In}
use Rattle.graph.proofs.Lists.{all_in, all_from_in}
use Rattle.bottom_k.specs.Lists.{Apart, Rising}
use Rattle.bottom_k.proofs.Members.{in_kept, kept_in, kept_all}

-- is a number in a list of numbers?
pub dec_in : (q : ℕ) (xs : List ℕ) → Dec (In q xs)
dec_in q [] = no (λ i. i)
dec_in q (x ∷ xs) = go (ℕ_discrete q x) (dec_in q xs)
  where
    go : Dec (q ≡ x) → Dec (In q xs) → Dec (In q (x ∷ xs))
    go (yes e) d = yes (inl e)
    go (no n) (yes i) = yes (inr i)
    go (no n) (no k) = no (⊎_elim n k)

-- what rises has no repeats
pub apart_rising : (xs : List ℕ) → Rising xs → Apart xs
apart_rising [] h = tt
apart_rising (x ∷ xs) h = (λ i. let k = all_in (λ y. x < y) xs h.0 x i in omega arith, apart_rising xs h.1)

pub apart_kept : (f : ℕ → Bool) (xs : List ℕ) → Apart xs → Apart (filter f xs)
apart_kept f [] h = tt
apart_kept f (x ∷ xs) h = put (f x) (apart_kept f xs h.1)
  where
    put : (b : Bool) → Apart (filter f xs) → Apart (cond b (x ∷ filter f xs) (filter f xs))
    put true k = ((λ i. h.0 (kept_in f x xs i).0), k)
    put false k = k

-- the list without a number
abbrev pub without : ℕ → List ℕ → List ℕ
without p xs = filter (λ q. not (eqb q p)) xs

differs : (q p : ℕ) → ¬ (q ≡ p) → T (not (eqb q p))
differs q p n = not_T (eqb q p) (λ t. n (eqb→eq q p t))

pub in_without : (q p : ℕ) (xs : List ℕ) → In q xs → ¬ (q ≡ p) → In q (without p xs)
in_without q p xs i n = in_kept (λ x. not (eqb x p)) q xs i (differs q p n)

pub without_in : (q p : ℕ) (xs : List ℕ) → In q (without p xs) → In q xs × (¬ (q ≡ p))
without_in q p xs i =
    let r = kept_in (λ x. not (eqb x p)) q xs i in
    (r.0, λ e. T_not (eqb q p) r.1 (subst (λ z. T (eqb q z)) e (eqb_refl q)))

-- taking a number out of a list without repeats takes out one at most
pub without_shorter : (p : ℕ) (xs : List ℕ) → Apart xs → length xs ≤ suc (length (without p xs))
without_shorter p [] h = omega arith
without_shorter p (x ∷ xs) h = go (ℕ_discrete x p) (without_shorter p xs h.1)
  where
    put : (b : Bool) → T b → length xs ≤ suc (length (without p xs)) →
        suc (length xs) ≤ suc (length (cond b (x ∷ without p xs) (without p xs)))
    put true t k = omega arith
    put false t k = absurd t

    leaves : x ≡ p → length (without p xs) ≡ length xs
    leaves e = ap length (kept_all (λ q. not (eqb q p)) xs
        (all_from_in (λ q. T (not (eqb q p))) xs (λ q i. differs q p (λ d. h.0 (subst (λ z. In z xs) (d ∙ sym e) i)))))

    same : (b : Bool) → length (without p xs) ≡ length xs → suc (length xs) ≤ suc (length (cond b (x ∷ without p xs) (without p xs)))
    same true k = omega arith
    same false k = omega arith

    go : Dec (x ≡ p) → length xs ≤ suc (length (without p xs)) → suc (length xs) ≤ suc (length (without p (x ∷ xs)))
    go (yes e) k = same (not (eqb x p)) (leaves e)
    go (no n) k = put (not (eqb x p)) (differs x p n) k

-- a list without repeats that stands in another is no longer than that one
pub apart_fits : (qs xs : List ℕ) → Apart qs → AllByRecursion (λ q. In q xs) qs → length qs ≤ length xs
apart_fits [] [] h k = omega arith
apart_fits (q ∷ qs) [] h k = absurd k.0
apart_fits [] (x ∷ xs) h k = omega arith
apart_fits (q ∷ qs) (x ∷ xs) h k =
    let all = q ∷ qs in
    let rest = without x all in
    let stand : AllByRecursion (λ r. In r xs) rest =
    all_from_in (λ r. In r xs) rest (λ r i.
    let o = without_in r x all i in
    ⊎_elim (λ e. absurd (o.1 e)) (λ j. j) (all_in (λ z. In z (x ∷ xs)) all k r o.0)) in
    omega (arith, without_shorter x all h, apart_fits rest xs (apart_kept (λ r. not (eqb r x)) all h) stand)
