-- Positions of the order stand for places, and being before by position is coming before by rank and number.
use Rattle.std.proofs.Common.{◌≡◌, ℕ, zero, suc, ◌<◌, ◌≤◌, Bool, true, false, cond, T, eqb, ◌⊎◌, List, [], ◌∷◌, map, length, get_or, take, sym, refl, ap, ◌∙◌, subst, inl, inr, ⊎_elim, arith, eqb→eq}
use lib.Dec.{eqb_refl}
use lib.ListN.{length-map}
use Rattle.std.specs.List.{AllByRecursion}
use Rattle.std.proofs.ByRecursion.{All-get_or, All-map}
use Rattle.std.proofs.lemmas.Bool.{cases_order}
use Rattle.graph.specs.Members.{In}
use Rattle.graph.specs.Ways.{Least, Within}
use Rattle.graph.proofs.Lists.{all_in, all_from_in}
use Rattle.graph.proofs.Places.{ends_inside}
use Rattle.bottom_k.specs.Lists.{Apart}
use Rattle.bottom_k.specs.Ranking.{Before, InOrder, not_after, put_in_order, ranking}
use Rattle.bottom_k.specs.Sketches.{Near, NearBefore, Noted, place_at}
use Rattle.bottom_k.specs.Samples.{ReachedFromSome, JointSample}
use Rattle.bottom_k.specs.Founding.{Founding, setting_of, NotesPlace, PlaceReached, PlaceSample}
use Rattle.bottom_k.proofs.Members.{in_map, map_in}
use Rattle.bottom_k.proofs.OrderedLists.{ordered_map, ordered_weaker}
use Rattle.bottom_k.proofs.PlacesInOrder.{ranking_is_computed, before_not_back}

-- what stands among the first is what stands at a position before
at_if_taken : (s u : ℕ) (xs : List ℕ) → In u (take s xs) → (p : ℕ) × (p < s) × (p < length xs) × (get_or xs p 0 ≡ u)
at_if_taken zero u xs i = absurd i
at_if_taken (suc s) u [] i = absurd i
at_if_taken (suc s) u (x ∷ xs) (inl e) = (0, omega arith, omega arith, sym e)
at_if_taken (suc s) u (x ∷ xs) (inr i) = let r = at_if_taken s u xs i in (suc r.0, omega (arith, r.1), omega (arith, r.2), r.3)

taken_if_at : (s p : ℕ) (xs : List ℕ) → p < s → p < length xs → In (get_or xs p 0) (take s xs)
taken_if_at zero p xs h k = absurd (omega arith)
taken_if_at (suc s) p [] h k = absurd (omega arith)
taken_if_at (suc s) zero (x ∷ xs) h k = inl refl
taken_if_at (suc s) (suc p) (x ∷ xs) h k = inr (taken_if_at s p xs (omega arith) (omega arith))

-- where a place stands
abbrev position_of : ℕ → List ℕ → ℕ
position_of u [] = 0
position_of u (x ∷ xs) = cond (eqb u x) 0 (suc (position_of u xs))

position_stands : (u : ℕ) (xs : List ℕ) → In u xs → (position_of u xs < length xs) × (get_or xs (position_of u xs) 0 ≡ u)
position_stands u [] i = absurd i
position_stands u (x ∷ xs) i = go (eqb u x) (eqb→eq u x) (λ e. subst (λ z. T (eqb u z)) e (eqb_refl u)) (λ j. position_stands u xs j)
  where
    Stands : ℕ → Type 0
    Stands p = (p < suc (length xs)) × (get_or (x ∷ xs) p 0 ≡ u)

    go : (b : Bool) → (T b → u ≡ x) → (u ≡ x → T b) → (In u xs → (position_of u xs < length xs) × (get_or xs (position_of u xs) 0 ≡ u)) → Stands (cond b 0 (suc (position_of u xs)))
    go true to back rest = (omega arith, sym (to tt))
    go false to back rest = let r = rest (⊎_elim (λ e. absurd (back e)) (λ j. j) i) in (omega (arith, r.0), r.1)

-- different things read off different ones
apart_map : (f : ℕ → ℕ) (xs : List ℕ) → ((x y : ℕ) → In x xs → In y xs → f x ≡ f y → x ≡ y) → Apart xs → Apart (map f xs)
apart_map f [] one h = tt
apart_map f (x ∷ xs) one h = (
  (λ i. let r = map_in f (f x) xs i in h.0 (subst (λ z. In z xs) (sym (one x r.0 (inl refl) (inr r.1) r.2)) r.1)),
  apart_map f xs (λ y z i j e. one y z (inr i) (inr j) e) h.1,
)

module _ (ranks : List ℕ) where
  length_put : (v : ℕ) (ws : List ℕ) → length (put_in_order ranks v ws) ≡ suc (length ws)
  length_put v [] = refl
  length_put v (x ∷ ws) = go (not_after ranks v x) (length_put v ws)
    where
      go : (b : Bool) → length (put_in_order ranks v ws) ≡ suc (length ws) → length (cond b (v ∷ x ∷ ws) (x ∷ put_in_order ranks v ws)) ≡ suc (suc (length ws))
      go true h = refl
      go false h = ap suc h

  -- the order is as long as there are places
  pub length_ranking : (n : ℕ) → length (ranking ranks n) ≡ n
  length_ranking zero = refl
  length_ranking (suc n) = length_put n (ranking ranks n) ∙ ap suc (length_ranking n)

  -- the earlier position has the place that comes before
  before_at : (xs : List ℕ) → InOrder ranks xs → (q p : ℕ) → q < p → p < length xs → Before ranks (get_or xs q 0) (get_or xs p 0)
  before_at [] order q p h k = absurd (omega arith)
  before_at (x ∷ xs) order q zero h k = absurd (omega arith)
  before_at (x ∷ xs) order zero (suc p) h k = All-get_or (Before ranks x) xs p 0 (omega arith) order.0
  before_at (x ∷ xs) order (suc q) (suc p) h k = before_at xs order.1 q p (omega arith) (omega arith)

  position_before : (xs : List ℕ) → InOrder ranks xs → (q p : ℕ) → q < length xs → p < length xs → Before ranks (get_or xs q 0) (get_or xs p 0) → q < p
  position_before xs order q p h k before = ⊎_elim
      (λ e. absurd (before_not_back ranks _ _ before (subst (λ z. Before ranks (get_or xs p 0) (get_or xs z 0)) (sym e) (subst (λ z. Before ranks (get_or xs z 0) (get_or xs p 0)) e before))))
      (⊎_elim (λ lt. lt) (λ gt. absurd (before_not_back ranks _ _ before (before_at xs order p q gt h))))
      (cases_order q p)

  -- one place stands at one position
  one_position : (xs : List ℕ) → InOrder ranks xs → (q p : ℕ) → q < length xs → p < length xs → get_or xs q 0 ≡ get_or xs p 0 → q ≡ p
  one_position xs order q p h k e = ⊎_elim (λ same. same)
      (⊎_elim
      (λ lt. let b = subst (λ z. Before ranks z (get_or xs p 0)) e (before_at xs order q p lt k) in absurd (before_not_back ranks _ _ b b))
      (λ gt. let b = subst (λ z. Before ranks (get_or xs p 0) z) e (before_at xs order p q gt h) in absurd (before_not_back ranks _ _ b b)))
      (cases_order q p)

module _ {L : Type 0} (f : Founding L) where
  abbrev order : List ℕ
  order = ranking f.ranks f.map.places

  rising : InOrder f.ranks order
  rising = (ranking_is_computed f.ranks f.map.places).in_order

  abbrev stands_at : ℕ → ℕ
  stands_at q = get_or order q 0

  -- a position below the number of places stands in the order
  inside_order : (q : ℕ) → q < f.map.places → q < length order
  inside_order q h = omega (arith, length_ranking f.ranks f.map.places)

  module _ (swept v u : ℕ) (d : L) where
    pub noted_if_place : NotesPlace f swept v u d → (p : ℕ) × (p < f.map.places) × (place_at (setting_of f) p ≡ u) × Noted (setting_of f) swept v p d
    noted_if_place n = (
      p,
      omega (arith, r.2, length_ranking f.ranks f.map.places),
      r.3,
      record {
        swept_by = r.1;
        least = subst (λ x. Least f.measure f.map v x d) (sym r.3) n.least;
        fewer = λ qs near. omega (arith, length-map qs stands_at, n.fewer (map stands_at qs) (apart qs near) (all qs near));
      },
    )
      where
        r : (q : ℕ) × (q < swept) × (q < length order) × (get_or order q 0 ≡ u)
        r = at_if_taken swept u order n.swept_place

        p : ℕ
        p = r.0

        early : (qs : List ℕ) → NearBefore (setting_of f) v p d qs → (q : ℕ) → In q qs → (q < p) × Near (setting_of f) v q d
        early qs near q i = all_in (λ x. (x < p) × Near (setting_of f) v x d) qs near.1 q i

        apart : (qs : List ℕ) → NearBefore (setting_of f) v p d qs → Apart (map stands_at qs)
        apart qs near = apart_map stands_at qs
            (λ x y i j e. one_position f.ranks order rising x y (omega (arith, r.2, (early qs near x i).0)) (omega (arith, r.2, (early qs near y j).0)) e) near.0

        all : (qs : List ℕ) → NearBefore (setting_of f) v p d qs → AllByRecursion (λ w. Before f.ranks w u × Within f.measure f.map v w d) (map stands_at qs)
        all qs near = all_from_in (λ w. Before f.ranks w u × Within f.measure f.map v w d) (map stands_at qs) (λ w i.
            let k = map_in stands_at w qs i in
            let o = early qs near k.0 k.1 in
            let b : Before f.ranks (stands_at k.0) (stands_at p) = before_at f.ranks order rising k.0 p o.0 r.2 in
            (subst (λ x. Before f.ranks w x) r.3 (subst (λ x. Before f.ranks x (stands_at p)) (sym k.2) b), subst (λ x. Within f.measure f.map v x d) (sym k.2) o.1))

    pub place_if_noted : (p : ℕ) → p < f.map.places → place_at (setting_of f) p ≡ u → Noted (setting_of f) swept v p d → NotesPlace f swept v u d
    place_if_noted p inside is n = record {
      swept_place = subst (λ x. In x (take swept order)) is (taken_if_at swept p order n.swept_by (inside_order p inside));
      least = subst (λ x. Least f.measure f.map v x d) is n.least;
      fewer = λ ws apart near. omega (
        arith,
        length-map ws position,
        n.fewer (map position ws) (
          apart_map position ws (λ x y i j e.
              sym (stands x (near_in ws near x i)).1 ∙ ap stands_at e ∙ (stands y (near_in ws near y j)).1) apart,
          all ws near,
        ),
      );
    }
      where
        Close : ℕ → Type 0
        Close w = Before f.ranks w u × Within f.measure f.map v w d

        near_in : (ws : List ℕ) → AllByRecursion Close ws → (w : ℕ) → In w ws → Close w
        near_in ws near w i = all_in Close ws near w i

        position : ℕ → ℕ
        position w = position_of w order

        stands : (w : ℕ) → Close w → (position w < length order) × (stands_at (position w) ≡ w)
        stands w close = position_stands w order (((ranking_is_computed f.ranks f.map.places).places w).1 (ends_inside f.map v close.1.0 w close.1.1))

        all : (ws : List ℕ) → AllByRecursion Close ws → AllByRecursion (λ q. (q < p) × Near (setting_of f) v q d) (map position ws)
        all ws near = all_from_in (λ q. (q < p) × Near (setting_of f) v q d) (map position ws) (λ q i.
            let k = map_in position q ws i in
            let w = k.0 in
            let close = near_in ws near w k.1 in
            let s = stands w close in
            let low : position w < p = position_before f.ranks order rising (position w) p s.0 (inside_order p inside)
            (subst (λ x. Before f.ranks x (stands_at p)) (sym s.1) (subst (λ x. Before f.ranks w x) (sym is) close.0)) in
            (omega (arith, k.2), subst (λ x. Within f.measure f.map v x d) (sym (ap stands_at k.2 ∙ s.1)) close.1))

  -- samples
  module _ (swept : ℕ) (few : swept ≤ f.map.places) (starts : List ℕ) (t : L) where
    reached_at : (q : ℕ) → ReachedFromSome (setting_of f) swept starts t q → PlaceReached f swept starts t (stands_at q)
    reached_at q r = (taken_if_at swept q order r.0 (inside_order q (omega (arith, r.0))), r.1)

    pub samples_are_places : (xs : List ℕ) → JointSample (setting_of f) swept starts t xs → PlaceSample f swept starts t (map stands_at xs)
    samples_are_places xs sample = record {
      in_order = ordered_map (Before f.ranks) stands_at xs (ordered_weaker (λ p q. p < q) (λ p q. Before f.ranks (stands_at p) (stands_at q)) xs
          (λ p q i j h. before_at f.ranks order rising p q h (inside q j)) sample.rising);
      reached = All-map (PlaceReached f swept starts t) stands_at xs
          (all_from_in (λ q. PlaceReached f swept starts t (stands_at q)) xs (λ q i. reached_at q (all_in (ReachedFromSome (setting_of f) swept starts t) xs sample.right q i)));
      few = omega (arith, sample.few, length-map xs stands_at);
      first = λ u r. go u (at_if_taken swept u order r.0) r.1;
    }
      where
        inside : (q : ℕ) → In q xs → q < length order
        inside q i = inside_order q (omega (arith, (all_in (ReachedFromSome (setting_of f) swept starts t) xs sample.right q i).0))

        go : (u : ℕ) → (p : ℕ) × (p < swept) × (p < length order) × (get_or order p 0 ≡ u) → (v : ℕ) × In v starts × Within f.measure f.map v u t →
            In u (map stands_at xs) ⊎ ((length (map stands_at xs) ≡ f.k) × AllByRecursion (λ w. Before f.ranks w u) (map stands_at xs))
        go u p r = ⊎_elim
            (λ i. inl (subst (λ x. In x (map stands_at xs)) p.3 (in_map stands_at p.0 xs i)))
            (λ o. inr (
              length-map xs stands_at ∙ o.0,
              All-map (λ w. Before f.ranks w u) stands_at xs
                  (all_from_in (λ q. Before f.ranks (stands_at q) u) xs (λ q i.
                  subst (λ x. Before f.ranks (stands_at q) x) p.3 (before_at f.ranks order rising q p.0 (all_in (λ x. x < p.0) xs o.1 q i) p.2))),
            ))
            (sample.first p.0 (p.1, (r.0, r.1, subst (λ x. Within f.measure f.map r.0 x t) (sym p.3) r.2)))
