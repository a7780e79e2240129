-- What stands in a list, and the numbers below one.
use Rattle.std.proofs.Common.{◌≡◌, ℕ, zero, suc, ◌+◌, ◌<◌, ◌≤◌, ◌⊎◌, List, [], ◌∷◌, length, take, Some, None, sym, refl, ◌∙◌, subst, inl, inr, ⊎_elim, add-one, arith}
use native.Mathlib.Decide.{ℕ_discrete}
use Rattle.std.specs.List.{AllByRecursion, slice_get}
use Rattle.graph.specs.Members.{In}

module _ {X : Type 0} where
  pub all_in : (P : X → Type 0) (xs : List X) → AllByRecursion P xs → (x : X) → In x xs → P x
  all_in P [] h x i = absurd i
  all_in P (y ∷ ys) h x (inl e) = subst P (sym e) h.0
  all_in P (y ∷ ys) h x (inr i) = all_in P ys h.1 x i

  pub all_from_in : (P : X → Type 0) (xs : List X) → ((x : X) → In x xs → P x) → AllByRecursion P xs
  all_from_in P [] h = tt
  all_from_in P (y ∷ ys) h = (h y (inl refl), all_from_in P ys (λ x i. h x (inr i)))

  -- nothing stands in an empty list
  pub none_in : (x : X) (xs : List X) → length xs ≡ 0 → In x xs → ⊥
  none_in x [] e h = h
  none_in x (y ∷ ys) e h = absurd (omega (arith, e))

  -- what is found at a number stands in the list
  pub nth_in : (xs : List X) (i : ℕ) (x : X) → slice_get xs i ≡ Some x → In x xs
  nth_in [] i x e = absurd (let z : ◌≡◌ {A = ℕ} 0 1 = cc in omega arith)
  nth_in (y ∷ ys) zero x e = inl (cc)
  nth_in (y ∷ ys) (suc i) x e = inr (nth_in ys i x e)

  -- nothing is found only past the end
  pub nth_none : (xs : List X) (i : ℕ) → slice_get xs i ≡ None → length xs ≤ i
  nth_none [] i e = omega arith
  nth_none (y ∷ ys) zero e = absurd (let z : ◌≡◌ {A = ℕ} 0 1 = cc in omega arith)
  nth_none (y ∷ ys) (suc i) e = let h = nth_none ys i e in omega arith

  -- one more of the first
  pub in_take_more : (xs : List X) (i : ℕ) (x y : X) → slice_get xs i ≡ Some x → In y (take (i + 1) xs) → (y ≡ x) ⊎ In y (take i xs)
  in_take_more xs i x y e h = go xs i e (subst (λ k. In y (take k xs)) (add-one i) h)
    where
      go : (zs : List X) (j : ℕ) → slice_get zs j ≡ Some x → In y (take (suc j) zs) → (y ≡ x) ⊎ In y (take j zs)
      go [] j f k = absurd k
      go (z ∷ zs) zero f (inl k) = inl (let same : z ≡ x = cc in k ∙ same)
      go (z ∷ zs) zero f (inr k) = absurd k
      go (z ∷ zs) (suc j) f (inl k) = inr (inl k)
      go (z ∷ zs) (suc j) f (inr k) = ⊎_elim (λ a. inl a) (λ a. inr (inr a)) (go zs j f k)

-- the numbers below n
abbrev pub below : ℕ → List ℕ
below zero = []
below (suc n) = n ∷ below n

pub in_below : (n q : ℕ) → q < n → In q (below n)
in_below zero q h = absurd (omega arith)
in_below (suc n) q h = go (ℕ_discrete q n) (in_below n q)
  where
    go : Dec (q ≡ n) → (q < n → In q (below n)) → In q (n ∷ below n)
    go (yes e) k = inl e
    go (no d) k = inr (k (omega arith))

pub below_in : (n q : ℕ) → In q (below n) → q < n
below_in zero q i = absurd i
below_in (suc n) q (inl e) = omega arith
below_in (suc n) q (inr i) = let h = below_in n q i in omega arith
