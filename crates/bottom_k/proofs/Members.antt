-- What stands in a list, and what a filter keeps.
use Rattle.std.proofs.Common.{◌≡◌, ℕ, ◌+◌, ◌<◌, ◌≤◌, Bool, true, false, cond, T, ◌⊎◌, List, [], ◌∷◌, ◌++◌, map, length, filter, sym, refl, ap, ◌∙◌, subst, inl, inr, ⊎_elim, arith}
use Rattle.std.specs.List.{AllByRecursion}
use Rattle.graph.specs.Members.{In}

module _ {X : Type 0} where
  pub in_left : (x : X) (xs ys : List X) → In x xs → In x (xs ++ ys)
  in_left x [] ys i = absurd i
  in_left x (z ∷ xs) ys (inl e) = inl e
  in_left x (z ∷ xs) ys (inr i) = inr (in_left x xs ys i)

  pub in_right : (x : X) (xs ys : List X) → In x ys → In x (xs ++ ys)
  in_right x [] ys i = i
  in_right x (z ∷ xs) ys i = inr (in_right x xs ys i)

  pub in_cases : (x : X) (xs ys : List X) → In x (xs ++ ys) → In x xs ⊎ In x ys
  in_cases x [] ys i = inr i
  in_cases x (z ∷ xs) ys (inl e) = inl (inl e)
  in_cases x (z ∷ xs) ys (inr i) = ⊎_elim (λ j. inl (inr j)) (λ j. inr j) (in_cases x xs ys i)

  -- one element, kept or not
  put_in : (b : Bool) (x y : X) (ys : List X) → In x ys → In x (cond b (y ∷ ys) ys)
  put_in true x y ys i = inr i
  put_in false x y ys i = i

  put_head : (b : Bool) (x y : X) (ys : List X) → T b → x ≡ y → In x (cond b (y ∷ ys) ys)
  put_head true x y ys h e = inl e
  put_head false x y ys h e = absurd h

  put_cases : (b : Bool) (x y : X) (ys : List X) → In x (cond b (y ∷ ys) ys) → ((x ≡ y) × T b) ⊎ In x ys
  put_cases true x y ys (inl e) = inl (e, tt)
  put_cases true x y ys (inr i) = inr i
  put_cases false x y ys i = inr i

  pub in_kept : (f : X → Bool) (x : X) (xs : List X) → In x xs → T (f x) → In x (filter f xs)
  in_kept f x [] i h = i
  in_kept f x (y ∷ ys) (inl e) h = put_head (f y) x y (filter f ys) (subst (λ z. T (f z)) e h) e
  in_kept f x (y ∷ ys) (inr i) h = put_in (f y) x y (filter f ys) (in_kept f x ys i h)

  pub kept_in : (f : X → Bool) (x : X) (xs : List X) → In x (filter f xs) → In x xs × T (f x)
  kept_in f x [] i = absurd i
  kept_in f x (y ∷ ys) i =
      ⊎_elim (λ h. (inl h.0, subst (λ z. T (f z)) (sym h.0) h.1))
      (λ j. let r = kept_in f x ys j in (inr r.0, r.1))
      (put_cases (f y) x y (filter f ys) i)

  pub kept_all : (f : X → Bool) (xs : List X) → AllByRecursion (λ x. T (f x)) xs → filter f xs ≡ xs
  kept_all f [] h = refl
  kept_all f (y ∷ ys) h = put (f y) h.0 ∙ ap (λ zs. y ∷ zs) (kept_all f ys h.1)
    where
      put : (b : Bool) → T b → cond b (y ∷ filter f ys) (filter f ys) ≡ y ∷ filter f ys
      put true t = refl
      put false t = absurd t

  -- a filter keeps no more of what another kept than of the whole
  kept_step : (f g : X → Bool) (n : ℕ) (y : X) (ks ys : List X) → n + length (filter f ks) ≤ length (filter f ys) →
      n + length (filter f (cond (g y) (y ∷ ks) ks)) ≤ length (filter f (y ∷ ys))
  kept_step f g n y ks ys h = put (g y)
    where
      both : (c : Bool) → n + length (cond c (y ∷ filter f ks) (filter f ks)) ≤ length (cond c (y ∷ filter f ys) (filter f ys))
      both true = omega arith
      both false = omega arith

      more : (c : Bool) → n + length (filter f ks) ≤ length (cond c (y ∷ filter f ys) (filter f ys))
      more true = omega arith
      more false = omega arith

      put : (b : Bool) → n + length (filter f (cond b (y ∷ ks) ks)) ≤ length (filter f (y ∷ ys))
      put true = both (f y)
      put false = more (f y)

  pub kept_of_kept : (f g : X → Bool) (xs : List X) → length (filter f (filter g xs)) ≤ length (filter f xs)
  kept_of_kept f g [] = omega arith
  kept_of_kept f g (y ∷ ys) =
      let h : 0 + length (filter f (filter g ys)) ≤ length (filter f ys) = omega (arith, kept_of_kept f g ys) in
      omega (arith, kept_step f g 0 y (filter g ys) ys h)

  -- and fewer where the other dropped one that it keeps
  pub kept_of_fewer : (f g : X → Bool) (x : X) (xs : List X) → In x xs → T (f x) → ¬ T (g x) →
      length (filter f (filter g xs)) < length (filter f xs)
  kept_of_fewer f g x [] i yes-f no-g = absurd i
  kept_of_fewer f g x (y ∷ ys) (inl e) yes-f no-g =
      put (g y) (f y) (λ t. no-g (subst (λ z. T (g z)) (sym e) t)) (subst (λ z. T (f z)) e yes-f)
    where
      put : (b c : Bool) → ¬ T b → T c →
          length (filter f (cond b (y ∷ filter g ys) (filter g ys))) < length (cond c (y ∷ filter f ys) (filter f ys))
      put true c n t = absurd (n tt)
      put false true n t = omega (arith, kept_of_kept f g ys)
      put false false n t = absurd t
  kept_of_fewer f g x (y ∷ ys) (inr i) yes-f no-g =
      let h : 1 + length (filter f (filter g ys)) ≤ length (filter f ys) = omega (arith, kept_of_fewer f g x ys i yes-f no-g) in
      omega (arith, kept_step f g 1 y (filter g ys) ys h)

  -- what is read off the elements
  pub in_map : (g : X → ℕ) (x : X) (xs : List X) → In x xs → In (g x) (map g xs)
  in_map g x [] i = i
  in_map g x (y ∷ ys) (inl e) = inl (ap g e)
  in_map g x (y ∷ ys) (inr i) = inr (in_map g x ys i)

  pub map_in : (g : X → ℕ) (q : ℕ) (xs : List X) → In q (map g xs) → (x : X) × In x xs × (q ≡ g x)
  map_in g q [] i = absurd i
  map_in g q (y ∷ ys) (inl e) = (y, inl refl, e)
  map_in g q (y ∷ ys) (inr i) = let r = map_in g q ys i in (r.0, inr r.1, r.2)
