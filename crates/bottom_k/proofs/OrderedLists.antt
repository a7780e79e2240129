-- Lists in order: filtered, cut, longer by one, read off another; and that the members make the list.
use Rattle.std.proofs.Common.{◌≡◌, ℕ, zero, suc, Bool, true, false, cond, List, [], ◌∷◌, ◌++◌, map, take, filter, sym, refl, ap, ◌∙◌, subst, inl, inr, ⊎_elim}
use Rattle.std.specs.List.{AllByRecursion}
use Rattle.std.proofs.ByRecursion.{All-append, all_kept_by, All-take}
use Rattle.graph.specs.Members.{In}
use Rattle.graph.proofs.Lists.{all_in, all_from_in}
use Rattle.bottom_k.specs.Lists.{Ordered}
use Rattle.bottom_k.proofs.Members.{in_map, map_in}

module _ {X : Type 0} (R : X → X → Type 0) where
  pub ordered_kept : (test : X → Bool) (xs : List X) → Ordered R xs → Ordered R (filter test xs)
  ordered_kept test [] h = tt
  ordered_kept test (x ∷ xs) h = put (test x) (ordered_kept test xs h.1)
    where
      put : (b : Bool) → Ordered R (filter test xs) → Ordered R (cond b (x ∷ filter test xs) (filter test xs))
      put true k = (all_kept_by test (R x) xs h.0, k)
      put false k = k

  pub ordered_take : (k : ℕ) (xs : List X) → Ordered R xs → Ordered R (take k xs)
  ordered_take zero xs h = tt
  ordered_take (suc k) [] h = tt
  ordered_take (suc k) (x ∷ xs) h = (All-take (R x) k xs h.0, ordered_take k xs h.1)

  pub ordered_push : (xs : List X) (y : X) → Ordered R xs → AllByRecursion (λ x. R x y) xs → Ordered R (xs ++ y ∷ [])
  ordered_push [] y r h = (tt, tt)
  ordered_push (x ∷ xs) y r h = (All-append (R x) xs (y ∷ []) r.0 (h.0, tt), ordered_push xs y r.1 h.1)

  -- what precedes the last
  pub ordered_front : (xs : List X) (y : X) → Ordered R (xs ++ y ∷ []) → AllByRecursion (λ x. R x y) xs
  ordered_front [] y r = tt
  ordered_front (x ∷ xs) y r = (all_in (R x) (xs ++ y ∷ []) r.0 y (last xs), ordered_front xs y r.1)
    where
      last : (zs : List X) → In y (zs ++ y ∷ [])
      last [] = inl refl
      last (z ∷ zs) = inr (last zs)

  -- where no two stand in the relation both ways, the members make the list
  pub same_ordered : ((x y : X) → R x y → R y x → ⊥) → (xs ys : List X) → Ordered R xs → Ordered R ys →
      ((x : X) → In x xs → In x ys) → ((x : X) → In x ys → In x xs) → xs ≡ ys
  same_ordered strict [] [] r t h k = refl
  same_ordered strict [] (y ∷ ys) r t h k = absurd (k y (inl refl))
  same_ordered strict (x ∷ xs) [] r t h k = absurd (h x (inl refl))
  same_ordered strict (x ∷ xs) (y ∷ ys) r t h k = ap (λ z. z ∷ xs) heads ∙ ap (λ zs. y ∷ zs) (same_ordered strict xs ys r.1 t.1 down up)
    where
      heads : x ≡ y
      heads = ⊎_elim (λ e. e)
          (λ i. ⊎_elim (λ e. sym e) (λ j. absurd (strict y x (all_in (R y) ys t.0 x i) (all_in (R x) xs r.0 y j))) (k y (inl refl)))
          (h x (inl refl))

      never : (z : X) → R z z → ⊥
      never z both = strict z z both both

      down : (z : X) → In z xs → In z ys
      down z i = ⊎_elim (λ e. absurd (never z (subst (λ a. R a z) (heads ∙ sym e) (all_in (R x) xs r.0 z i)))) (λ j. j) (h z (inr i))

      up : (z : X) → In z ys → In z xs
      up z i = ⊎_elim (λ e. absurd (never z (subst (λ a. R a z) (sym heads ∙ sym e) (all_in (R y) ys t.0 z i)))) (λ j. j) (k z (inr i))

-- an order of the members is enough
pub ordered_weaker : {X : Type 0} (R S : X → X → Type 0) (xs : List X) → ((x y : X) → In x xs → In y xs → R x y → S x y) → Ordered R xs → Ordered S xs
ordered_weaker R S [] h r = tt
ordered_weaker R S (x ∷ xs) h r = (
  all_from_in (S x) xs (λ y i. h x y (inl refl) (inr i) (all_in (R x) xs r.0 y i)),
  ordered_weaker R S xs (λ y z i j. h y z (inr i) (inr j)) r.1,
)

-- an order of what is read off the elements is an order of the elements
module _ {X : Type 0} (R : ℕ → ℕ → Type 0) (g : X → ℕ) where
  pub ordered_map : (xs : List X) → Ordered (λ x y. R (g x) (g y)) xs → Ordered R (map g xs)
  ordered_map [] h = tt
  ordered_map (x ∷ xs) h = (
    all_from_in (R (g x)) (map g xs) (λ q i. let r = map_in g q xs i in subst (R (g x)) (sym r.2) (all_in (λ y. R (g x) (g y)) xs h.0 r.0 r.1)),
    ordered_map xs h.1,
  )

  pub map_ordered : (xs : List X) → Ordered R (map g xs) → Ordered (λ x y. R (g x) (g y)) xs
  map_ordered [] h = tt
  map_ordered (x ∷ xs) h = (
    all_from_in (λ y. R (g x) (g y)) xs (λ y i. all_in (R (g x)) (map g xs) h.0 (g y) (in_map g y xs i)),
    map_ordered xs h.1,
  )
