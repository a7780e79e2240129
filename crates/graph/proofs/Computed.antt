-- The table of least lengths is right: each entry is the least length over all ways, and missing exactly where there is none.
use Rattle.std.proofs.Common.{◌≡◌, ℕ, zero, suc, ◌<◌, ◌≤◌, List, [], ◌∷◌, map, get_or, None, Option, sym, refl, ap, ◌∙◌, subst, arith}
use native.Mathlib.Decide.{dec_lt}
use Rattle.std.specs.List.{range_with_len, AllByRecursion}
use Rattle.std.proofs.lemmas.List.FromFn.{get_or-map-range_with_len, length-map-range_with_len}
use Rattle.std.proofs.lemmas.List.{get_or_past}
use Rattle.measure.specs.Laws.{OrderedMonoid}
use Rattle.graph.specs.Members.{In}
use Rattle.graph.specs.Graphs.{Graph}
use Rattle.graph.specs.Ways.{ArcTo, Way, LeastOrNone}
use Rattle.graph.specs.Kinds.{Through, Direct, Right}
use Rattle.graph.specs.LeastLengths.{shorter, in_turn, shortest_of, direct, square, entry, shortest_by_first, least_table, least_length}
use Rattle.graph.specs.declared.arc.Arc.{Arc}
use Rattle.graph.proofs.Lists.{all_from_in, below}
use Rattle.graph.proofs.Places.{starts_inside, ends_inside}
use Rattle.graph.proofs.Shortest.{right_no_arc, right_arc_more, right_direct, right_by_way_of, right_all}

-- what stands in a table of n rows and columns
entry_square : {X : Type 0} (n : ℕ) (f : ℕ → ℕ → Option X) (v w : ℕ) → v < n → w < n → entry (square n f) v w ≡ f v w
entry_square n f v w h k =
    ap (λ row. get_or row w None) (get_or-map-range_with_len (λ x. map (f x) (range_with_len 0 n)) 0 n v v [] h (omega arith))
    ∙ get_or-map-range_with_len (f v) 0 n w w None k (omega arith)

-- and outside
row_outside : {X : Type 0} (n : ℕ) (f : ℕ → ℕ → Option X) (v w : ℕ) → n ≤ v → entry (square n f) v w ≡ None
row_outside n f v w h = ap (λ row. get_or row w None) (get_or_past (square n f) v [] (omega (arith, length-map-range_with_len (λ x. map (f x) (range_with_len 0 n)) 0 n)))

column_outside : {X : Type 0} (n : ℕ) (f : ℕ → ℕ → Option X) (v w : ℕ) → v < n → n ≤ w → entry (square n f) v w ≡ None
column_outside n f v w h k =
    ap (λ row. get_or row w None) (get_or-map-range_with_len (λ x. map (f x) (range_with_len 0 n)) 0 n v v [] h (omega arith))
    ∙ get_or_past (map (f v) (range_with_len 0 n)) w None (omega (arith, length-map-range_with_len (f v) 0 n))

module _ {L : Type 0} (m : OrderedMonoid L) (g : Graph L) where
  right_of : (v w : ℕ) → v < g.places → (arcs : List (Arc L)) → AllByRecursion (λ a. In a (g.arriving w)) arcs → Right m g (Direct arcs) v w (shortest_of m v w arcs)
  right_of v w inside [] h = right_no_arc m g v w inside
  right_of v w inside (a ∷ arcs) h = right_arc_more m g v w a arcs (a ∷ arcs) (λ b i. i) h.0 _ (right_of v w inside arcs h.1)

  right_first : (x : ℕ) → x ≤ g.places → (v w : ℕ) → v < g.places → w < g.places → Right m g (Through (below x)) v w (entry (shortest_by_first m g x) v w)
  right_first zero h v w iv iw =
      subst (Right m g (Through []) v w) (sym (entry_square g.places (direct m g) v w iv iw))
      (right_direct m g v w _ (right_of v w iv (g.arriving w) (all_from_in (λ a. In a (g.arriving w)) (g.arriving w) (λ a i. i))))
  right_first (suc x) h v w iv iw =
      let t = shortest_by_first m g x in
      let ix : x < g.places = omega arith in
      let le : x ≤ g.places = omega arith in
      subst (Right m g (Through (below (suc x))) v w)
      (sym (entry_square g.places (λ a b. shorter m (entry t a b) (in_turn m (entry t a x) (entry t x b))) v w iv iw))
      (right_by_way_of m g (below x) x v w _ _ _ (right_first x le v w iv iw) (right_first x le v x iv ix) (right_first x le x w ix iw))

  -- the table is made as a square, so that it has no entry outside
  first_square : (x : ℕ) → (f : ℕ → ℕ → Option L) × (shortest_by_first m g x ≡ square g.places f)
  first_square zero = (direct m g, refl)
  first_square (suc x) = (_, refl)

  pub least_length_right : (v w : ℕ) → LeastOrNone m g v w (least_length m g v w)
  unfolding least_table
  least_length_right v w = go (dec_lt v g.places) (dec_lt w g.places)
    where
      outside : entry (shortest_by_first m g g.places) v w ≡ None → ((way : List (ArcTo L)) → Way g v way w → ⊥) → LeastOrNone m g v w (entry (shortest_by_first m g g.places) v w)
      outside e no_way = subst (LeastOrNone m g v w) (sym e) no_way

      as_square : (f : ℕ → ℕ → Option L) × (shortest_by_first m g g.places ≡ square g.places f)
      as_square = first_square g.places

      go : Dec (v < g.places) → Dec (w < g.places) → LeastOrNone m g v w (entry (shortest_by_first m g g.places) v w)
      go (yes h) (yes k) = right_all m g v w _ (right_first g.places (omega arith) v w h k)
      go (yes h) (no k) =
          outside (ap (λ t. entry t v w) as_square.1 ∙ column_outside g.places as_square.0 v w h (omega arith))
          (λ way i. k (ends_inside g v way w i))
      go (no h) k =
          outside (ap (λ t. entry t v w) as_square.1 ∙ row_outside g.places as_square.0 v w (omega arith))
          (λ way i. h (starts_inside g v way w i))
