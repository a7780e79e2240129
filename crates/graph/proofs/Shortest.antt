-- A length that is right for the ways of one kind, and how to come from the ways of one arc to all ways.
use Rattle.std.proofs.Common.{◌≡◌, ℕ, ◌<◌, Bool, true, false, cond, T, eqb, ◌⊎◌, List, [], ◌∷◌, Some, None, Option, sym, refl, ap, ◌∙◌, subst, inl, inr, ⊎_elim, eqb→eq}
use lib.Dec.{eqb_refl}
use Rattle.std.proofs.ByRecursion.{All-weaker}
use Rattle.measure.specs.Laws.{OrderedMonoid}
use Rattle.graph.specs.Members.{In}
use Rattle.graph.specs.Graphs.{Graph}
use Rattle.graph.specs.Ways.{ArcTo, Way, way_length, LeastOrNone}
use Rattle.graph.specs.LeastLengths.{shorter, in_turn}
use Rattle.graph.specs.Kinds.{DepartIn, Through, Direct, Right}
use Rattle.graph.specs.declared.arc.Arc.{Arc}
use Rattle.graph.proofs.Lists.{below, in_below}
use Rattle.graph.proofs.Lengths.{at_most_same, at_most_equal, at_most_after, join_at_most}
use Rattle.graph.proofs.Places.{arrives_inside, departs_inside, starts_inside}
use Rattle.graph.proofs.Joined.{has_way_joined}

module _ {L : Type 0} (m : OrderedMonoid L) (g : Graph L) where
  -- right for a kind is right for a narrower one
  pub right_narrower : (Q R : List (ArcTo L) → Type 0) (v w : ℕ) → ((way : List (ArcTo L)) → Way g v way w → R way → Q way) → (o : Option L) → Right m g Q v w o → Right m g R v w o
  right_narrower Q R v w h None b = λ way i r. b way i (h way i r)
  right_narrower Q R v w h (Some d) b = (b.0, λ way i r. b.1 way i (h way i r))

  -- the shorter of two is right for the ways of either kind
  pub right_shorter : (Q R : List (ArcTo L) → Type 0) (v w : ℕ) (o p : Option L) → Right m g Q v w o → Right m g R v w p → Right m g (λ way. Q way ⊎ R way) v w (shorter m o p)
  right_shorter Q R v w None None b c = λ way i. ⊎_elim (b way i) (c way i)
  right_shorter Q R v w None (Some e) b c = (c.0, λ way i. ⊎_elim (λ q. absurd (b way i q)) (λ r. c.1 way i r))
  right_shorter Q R v w (Some d) None b c = (b.0, λ way i. ⊎_elim (λ q. b.1 way i q) (λ r. absurd (c way i r)))
  right_shorter Q R v w (Some d) (Some e) b c = go (m.at_most d e) (λ h. h) (⊎_elim (λ h n. absurd (n h)) (λ h n. h) (m.total d e))
    where
      go : (t : Bool) → (T t → T (m.at_most d e)) → ((T t → ⊥) → T (m.at_most e d)) → Right m g (λ way. Q way ⊎ R way) v w (Some (cond t d e))
      go true h k = (b.0, λ way i. ⊎_elim (λ q. b.1 way i q) (λ r. m.trans _ _ _ (h tt) (c.1 way i r)))
      go false h k = (c.0, λ way i. ⊎_elim (λ q. m.trans _ _ _ (k (λ f. f)) (b.1 way i q)) (λ r. c.1 way i r))

  -- the ways by one arc
  pub right_arc : (v w : ℕ) (a : Arc L) → In a (g.arriving w) →
      Right m g (λ way. (a.from ≡ v) × (way ≡ record { to = w; arc = a } ∷ [])) v w (cond (eqb a.from v) (Some a.length) None)
  right_arc v w a h = go (eqb a.from v) (eqb→eq a.from v) (λ e. subst (λ x. T (eqb a.from x)) e (eqb_refl a.from))
    where
      go : (t : Bool) → (T t → a.from ≡ v) → (a.from ≡ v → T t) →
          Right m g (λ way. (a.from ≡ v) × (way ≡ record { to = w; arc = a } ∷ [])) v w (cond t (Some a.length) None)
      go true to back = (
        (record { to = w; arc = a } ∷ [], (h, to tt, (refl, arrives_inside g w a h)), m.join_zero _),
        λ way i k. at_most_equal m _ _ (sym (ap (way_length m) k.1 ∙ m.join_zero _)),
      )
      go false to back = λ way i k. back k.0

  -- the empty way
  pub right_empty : (v w : ℕ) → v < g.places → Right m g (λ way. way ≡ []) v w (cond (eqb v w) (Some m.zero) None)
  right_empty v w inside = go (eqb v w) (eqb→eq v w) (λ e. subst (λ x. T (eqb v x)) e (eqb_refl v))
    where
      go : (t : Bool) → (T t → v ≡ w) → (v ≡ w → T t) → Right m g (λ way. way ≡ []) v w (cond t (Some m.zero) None)
      go true to back = (([], (to tt, inside), refl), λ way i k. at_most_equal m _ _ (sym (ap (way_length m) k)))
      go false to back = λ way i k. back (subst (λ x. Way g v x w) k i).0

  -- one arc more
  pub right_arc_more : (v w : ℕ) (a : Arc L) (arcs those : List (Arc L)) → ((b : Arc L) → In b those → (b ≡ a) ⊎ In b arcs) →
      In a (g.arriving w) → (o : Option L) → Right m g (Direct arcs) v w o → Right m g (Direct those) v w (shorter m o (cond (eqb a.from v) (Some a.length) None))
  right_arc_more v w a arcs those cover h o b =
      right_narrower (λ way. Direct arcs way ⊎ One way) (Direct those) v w sort _ (right_shorter (Direct arcs) One v w o _ b (right_arc v w a h))
    where
      One : List (ArcTo L) → Type 0
      One way = (a.from ≡ v) × (way ≡ record { to = w; arc = a } ∷ [])

      sort : (way : List (ArcTo L)) → Way g v way w → Direct those way → Direct arcs way ⊎ One way
      sort [] i k = inl tt
      sort (b ∷ []) i k = ⊎_elim
          (λ e. inr (ap (λ x. x.from) (sym e) ∙ i.1, λ j. record { to = i.2.0 j; arc = e j } ∷ []))
          (λ j. inl j)
          (cover b.arc k)
      sort (b ∷ c ∷ rest) i k = absurd k

  -- no arc yet
  pub right_no_arc : (v w : ℕ) → v < g.places → Right m g (Direct []) v w (cond (eqb v w) (Some m.zero) None)
  right_no_arc v w inside = right_narrower (λ way. way ≡ []) (Direct []) v w sort _ (right_empty v w inside)
    where
      sort : (way : List (ArcTo L)) → Way g v way w → Direct [] way → way ≡ []
      sort [] i k = refl
      sort (a ∷ []) i k = absurd k
      sort (a ∷ b ∷ rest) i k = absurd k

  -- all arcs that arrive at w: the ways by way of no place
  pub right_direct : (v w : ℕ) (o : Option L) → Right m g (Direct (g.arriving w)) v w o → Right m g (Through []) v w o
  right_direct v w = right_narrower (Direct (g.arriving w)) (Through []) v w sort
    where
      sort : (way : List (ArcTo L)) → Way g v way w → Through [] way → Direct (g.arriving w) way
      sort [] i t = tt
      sort (a ∷ []) i t = subst (λ x. In a.arc (g.arriving x)) i.2.0 i.0
      sort (a ∷ b ∷ rest) i t = absurd t.0

  -- a way by way of x: to x and on from x, no longer
  abbrev Via : List ℕ → ℕ → ℕ → ℕ → List (ArcTo L) → Type 0
  Via xs x v w way = (before after : List (ArcTo L)) × Way g v before x × DepartIn xs before × Way g x after w × Through xs after
      × T (m.at_most (m.join (way_length m before) (way_length m after)) (way_length m way))

  -- from the last departure at x on
  last_visit : (xs : List ℕ) (x v w : ℕ) (way : List (ArcTo L)) → Way g v way w → DepartIn (x ∷ xs) way →
      DepartIn xs way ⊎ ((after : List (ArcTo L)) × Way g x after w × Through xs after × T (m.at_most (way_length m after) (way_length m way)))
  last_visit xs x v w [] i d = inl tt
  last_visit xs x v w (a ∷ rest) i d = go d.0 (last_visit xs x a.to w rest i.2 d.1)
    where
      go : In a.arc.from (x ∷ xs) →
          DepartIn xs rest ⊎ ((after : List (ArcTo L)) × Way g x after w × Through xs after × T (m.at_most (way_length m after) (way_length m rest))) →
          DepartIn xs (a ∷ rest) ⊎ ((after : List (ArcTo L)) × Way g x after w × Through xs after × T (m.at_most (way_length m after) (way_length m (a ∷ rest))))
      go h (inr r) = inr (r.0, r.1, r.2, m.trans _ _ _ r.3 (at_most_after m a.arc.length (way_length m rest)))
      go (inl e) (inl r) = inr (a ∷ rest, (i.0, e, i.2), r, at_most_same m _)
      go (inr h) (inl r) = inl (h, r)

  -- up to the first departure at x, and from the last
  first_visit : (xs : List ℕ) (x v w : ℕ) (way : List (ArcTo L)) → Way g v way w → DepartIn (x ∷ xs) way → DepartIn xs way ⊎ Via xs x v w way
  first_visit xs x v w [] i d = inl tt
  first_visit xs x v w (a ∷ rest) i d = go d.0 (first_visit xs x a.to w rest i.2 d.1)
    where
      go : In a.arc.from (x ∷ xs) → DepartIn xs rest ⊎ Via xs x a.to w rest → DepartIn xs (a ∷ rest) ⊎ Via xs x v w (a ∷ rest)
      go (inl e) r =
          ⊎_elim (λ h. inl h)
          (λ h. inr (
            [],
            h.0,
            (sym i.1 ∙ e, starts_inside g v (a ∷ rest) w i),
            tt,
            h.1,
            h.2,
            m.trans _ _ _ (at_most_equal m _ _ (m.zero_join _)) h.3,
          ))
          (last_visit xs x v w (a ∷ rest) i d)
      go (inr h) (inl r) = inl (h, r)
      go (inr h) (inr r) = inr (
        a ∷ r.0,
        r.1,
        (i.0, i.1, r.2),
        (h, r.3),
        r.4,
        r.5,
        m.trans _ _ _ (at_most_equal m _ _ (m.assoc _ _ _)) (m.mono_right _ _ _ r.6),
      )

  -- a length to x joined with one from x is right for the ways by way of x
  abbrev Past : List ℕ → ℕ → ℕ → ℕ → List (ArcTo L) → Type 0
  Past xs x v w way = (before after : List (ArcTo L)) × Way g v before x × Through xs before × Way g x after w × Through xs after
      × T (m.at_most (m.join (way_length m before) (way_length m after)) (way_length m way))

  right_past : (xs : List ℕ) (x v w : ℕ) (o p : Option L) → Right m g (Through xs) v x o → Right m g (Through xs) x w p → Right m g (Past xs x v w) v w (in_turn m o p)
  right_past xs x v w None p b c = λ way i k. b k.0 k.2 k.3
  right_past xs x v w (Some d) None b c = λ way i k. c k.1 k.4 k.5
  right_past xs x v w (Some d) (Some e) b c = (
    has_way_joined m g v x w d e b.0 c.0,
    λ way i k. m.trans _ _ _ (join_at_most m _ _ _ _ (b.1 k.0 k.2 k.3) (c.1 k.1 k.4 k.5)) k.6,
  )

  -- by way of one place more
  pub right_by_way_of : (xs : List ℕ) (x v w : ℕ) (o p q : Option L) → Right m g (Through xs) v w o → Right m g (Through xs) v x p → Right m g (Through xs) x w q →
      Right m g (Through (x ∷ xs)) v w (shorter m o (in_turn m p q))
  right_by_way_of xs x v w o p q b c d =
      right_narrower (λ way. Through xs way ⊎ Past xs x v w way) (Through (x ∷ xs)) v w sort _
      (right_shorter (Through xs) (Past xs x v w) v w o (in_turn m p q) b (right_past xs x v w p q c d))
    where
      sort : (way : List (ArcTo L)) → Way g v way w → Through (x ∷ xs) way → Through xs way ⊎ Past xs x v w way
      sort [] i t = inl tt
      sort (a ∷ rest) i t =
          ⊎_elim (λ r. inl r)
          (λ r. inr (
            a ∷ r.0,
            r.1,
            (i.0, i.1, r.2),
            r.3,
            r.4,
            r.5,
            m.trans _ _ _ (at_most_equal m _ _ (m.assoc _ _ _)) (m.mono_right _ _ _ r.6),
          ))
          (first_visit xs x a.to w rest i.2 t)

  -- what is right by way of one place more is right without it
  pub right_without : (xs : List ℕ) (x v w : ℕ) (o : Option L) → Right m g (Through (x ∷ xs)) v w o → Right m g (Through xs) v w o
  right_without xs x v w = right_narrower (Through (x ∷ xs)) (Through xs) v w sort
    where
      sort : (way : List (ArcTo L)) → Way g v way w → Through xs way → Through (x ∷ xs) way
      sort [] i t = tt
      sort (a ∷ rest) i t = All-weaker (λ b. In b.arc.from xs) (λ b. In b.arc.from (x ∷ xs)) (λ b j. inr j) rest t

  -- by way of all places: right for all ways
  pub right_all : (v w : ℕ) (o : Option L) → Right m g (Through (below g.places)) v w o → LeastOrNone m g v w o
  right_all v w = go
    where
      departs : (u : ℕ) (way : List (ArcTo L)) → Way g u way w → DepartIn (below g.places) way
      departs u [] i = tt
      departs u (a ∷ rest) i = (in_below g.places a.arc.from (departs_inside g a i.0), departs a.to rest i.2)

      through : (way : List (ArcTo L)) → Way g v way w → Through (below g.places) way
      through [] i = tt
      through (a ∷ rest) i = departs a.to rest i.2

      go : (o : Option L) → Right m g (Through (below g.places)) v w o → LeastOrNone m g v w o
      go None b = λ way i. b way i (through way i)
      go (Some d) b = (b.0, λ way i. b.1 way i (through way i))
