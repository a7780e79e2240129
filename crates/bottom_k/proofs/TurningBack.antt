-- A search that turns back at sketches with k or more entries notes exactly what is due.
use Rattle.std.proofs.Common.{◌≡◌, ℕ, suc, ◌<◌, Bool, true, false, cond, T, leb, List, [], ◌∷◌, ◌++◌, length, Some, None, Option, sym, refl, ap, ◌∙◌, subst, arith, le→leb, leb→le}
use native.Mathlib.Decide.{dec_le}
use Rattle.graph.specs.Ways.{ArcTo, Way, way_length, Least, LeastOrNone}
use Rattle.graph.specs.LeastLengths.{least_length}
use Rattle.graph.proofs.Lists.{all_in, all_from_in}
use Rattle.graph.proofs.Places.{starts_inside}
use Rattle.graph.proofs.Computed.{least_length_right}
use Rattle.graph.proofs.LeastWays.{least_exists}
use Rattle.bottom_k.specs.Sketches.{Setting, Entry, Near, FewerNear, Noted, Due, AllDue, place_at, entries_within}
use Rattle.bottom_k.specs.Search.{Mark, unseen, waiting, settled, TurnsBack, Finished, sketch_after, DueToNote, TurnedBackAt}
use Rattle.bottom_k.proofs.DueSketches.{due_same, due_more}
use Rattle.bottom_k.proofs.Counting.{near_more, enough_noted, few_within}

module _ {L : Type 0} (s : Setting L) (p : ℕ) (sketch : ℕ → List (Entry L)) (due : AllDue s p sketch) where
  -- where fewer than k lie within t, no search turns back at a length of at most t
  goes_on : (v : ℕ) → v < s.map.places → (d t : L) → T (s.measure.at_most d t) → FewerNear s v p t → ¬ TurnsBack s sketch v d
  goes_on v inside d t h few full = let k = few_within s p v (sketch v) (due v inside) d t h few in omega arith

  -- where fewer than k lie within a way, fewer than k lie within the rest of it, seen from its second place:
  -- the first arc leads on to each of them
  fewer_behind : (v : ℕ) (a : ArcTo L) (rest : List (ArcTo L)) (u : ℕ) → Way s.map v (a ∷ rest) u →
      FewerNear s v p (way_length s.measure (a ∷ rest)) → FewerNear s a.to p (way_length s.measure rest)
  fewer_behind v a rest u i few qs near =
      let m = s.measure in
      few qs (
        near.0,
        all_from_in (λ q. (q < p) × Near s v q (way_length m (a ∷ rest))) qs (λ q j.
            let o = all_in (λ r. (r < p) × Near s a.to r (way_length m rest)) qs near.1 q j in
            (o.0, (a ∷ o.1.0, (i.0, i.1, o.1.1), m.mono_right _ _ _ o.1.2))),
      )

  module _ (mark : ℕ → Mark L) (done : Finished s sketch (place_at s p) mark) where
    -- where fewer than k lie within a way, its first place settles, at no more than its length, and does not turn the search back
    settles : (v : ℕ) (way : List (ArcTo L)) → Way s.map v way (place_at s p) → FewerNear s v p (way_length s.measure way) →
        (d : L) × (mark v ≡ settled d) × T (s.measure.at_most d (way_length s.measure way)) × (¬ TurnsBack s sketch v d)
    settles v [] i few =
        let m = s.measure in
        (m.zero, ap mark i.0 ∙ done.begun, m.least _, goes_on v i.1 m.zero m.zero (m.least _) few)
    settles v (a ∷ rest) i few =
        let m = s.measure in
        let next = settles a.to rest i.2 (fewer_behind v a rest (place_at s p) i few) in
        let here = done.followed a.to next.0 next.1 next.3 a.arc i.0 in
        let short = m.trans _ _ _ here.2 (m.mono_right _ _ a.arc.length next.2) in (
          here.0,
          subst (λ x. mark x ≡ settled here.0) i.1 here.1,
          short,
          goes_on v (starts_inside s.map v (a ∷ rest) (place_at s p) i) here.0 _ short few,
        )

    -- nothing due is lost: a due place settles at its least length, and the search does not turn back there
    pub settled_if_due : (v : ℕ) (d : L) → Noted s (suc p) v p d → (mark v ≡ settled d) × (¬ TurnsBack s sketch v d)
    settled_if_due v d n =
        let m = s.measure in
        let walk = n.least.0 in
        let r = settles v walk.0 walk.1 (subst (λ l. FewerNear s v p l) (sym walk.2) n.fewer) in
        let back = done.by_a_way v r.0 r.1 in
        let same : r.0 ≡ d = m.antisym r.0 d
        (subst (λ l. T (m.at_most r.0 l)) walk.2 r.2)
        (subst (λ l. T (m.at_most d l)) back.2 (n.least.1 back.0 back.1)) in
        subst (λ l. (mark v ≡ settled l) × (¬ TurnsBack s sketch v l)) same (r.1, r.3)

    -- nothing false is noted: a place that settles and does not turn the search back is due, at its least length
    pub due_if_settled : (v : ℕ) (d : L) → mark v ≡ settled d → ¬ TurnsBack s sketch v d → Noted s (suc p) v p d
    due_if_settled v d is open-still =
        let m = s.measure in
        let walk = done.by_a_way v d is in
        let inside = starts_inside s.map v walk.0 _ walk.1 in
        let l = least_exists m s.map v (place_at s p) walk.0 walk.1 in
        let short : T (m.at_most l.0 d) = subst (λ x. T (m.at_most l.0 x)) walk.2 (l.1.1 walk.0 walk.1) in
        let n : Noted s (suc p) v p l.0 = record {
          swept_by = omega arith;
          least = l.1;
          fewer = λ qs near.
              let k = enough_noted s v p (sketch v) (due v inside) d qs (near_more s v p l.0 d short qs near) in
              omega arith;
        } in
        let again = (settled_if_due v l.0 n).0 in
        let same : l.0 ≡ d = cc in
        subst (λ x. Noted s (suc p) v p x) same n

    -- where the search turns back, the place is not due
    pub not_due_if_turned : (v : ℕ) (d : L) → mark v ≡ settled d → TurnsBack s sketch v d → ¬ DueToNote s p v
    not_due_if_turned v d is full n =
        let r = settled_if_due v n.0 n.1 in
        let again = r.0 in
        let same : d ≡ n.0 = cc in
        r.1 (subst (λ x. TurnsBack s sketch v x) same full)

    -- and it does turn back at a place that is not due, if an arc leads from there into one that is
    pub turned_if_not_due : (v : ℕ) → TurnedBackAt s p v → (d : L) × (mark v ≡ settled d) × TurnsBack s sketch v d
    turned_if_not_due v h =
        let w = h.1.0 in
        let a = h.1.1 in
        let due-w = h.1.4 in
        let r = settled_if_due w due-w.0 due-w.1 in
        let next = done.followed w due-w.0 r.0 r.1 a h.1.2 in
        let here : mark v ≡ settled next.0 = subst (λ x. mark x ≡ settled next.0) h.1.3 next.1 in
        (next.0, here, kind next.0 here (dec_le s.k (length (entries_within s.measure next.0 (sketch v)))))
      where
        kind : (d : L) → mark v ≡ settled d → Dec (TurnsBack s sketch v d) → TurnsBack s sketch v d
        kind d here (yes full) = full
        kind d here (no open-still) = absurd (h.0 (d, due_if_settled v d here open-still))

    -- the sketches after the search are those due with one more place swept
    pub all_due_after : AllDue s (suc p) (λ v. sketch_after s p (mark v) (sketch v))
    all_due_after v inside = go (mark v) refl
      where
        es : List (Entry L)
        es = sketch v

        put : (d : L) → mark v ≡ settled d → (b : Bool) → (T b → TurnsBack s sketch v d) → (TurnsBack s sketch v d → T b) →
            Due s (suc p) v (cond b es (es ++ record { position = p; length = d } ∷ []))
        put d is true full open-still = due_same s v p es (due v inside) (λ e n.
            let r = settled_if_due v e n in
            let again = r.0 in
            let same : d ≡ e = cc in
            r.1 (subst (λ x. TurnsBack s sketch v x) same (full tt)))
        put d is false full open-still = due_more s v p d es (due v inside) (due_if_settled v d is open-still)

        go : (k : Mark L) → mark v ≡ k → Due s (suc p) v (sketch_after s p k es)
        go unseen is = due_same s v p es (due v inside) (λ e n.
            let again = (settled_if_due v e n).0 in
            let never : ◌≡◌ {A = ℕ} 0 1 = cc in omega arith)
        go (waiting d) is = due_same s v p es (due v inside) (λ e n.
            let again = (settled_if_due v e n).0 in
            let never : ◌≡◌ {A = ℕ} 0 1 = cc in omega arith)
        go (settled d) is = put d is (leb s.k (length (entries_within s.measure d es))) (leb→le _ _) (le→leb _ _)

-- the search that never turns back finishes: it settles every place from which there is a way, at the least length
module _ {L : Type 0} (s : Setting L) (u : ℕ) where
  settled_at : Option L → Mark L
  settled_at None = unseen
  settled_at (Some d) = settled d

  mark_all : ℕ → Mark L
  mark_all v = settled_at (least_length s.measure s.map v u)

  least_if_settled : (v : ℕ) (d : L) → mark_all v ≡ settled d → Least s.measure s.map v u d
  unfolding mark_all settled_at
  least_if_settled v d is = go (least_length s.measure s.map v u) (least_length_right s.measure s.map v u) is
    where
      go : (o : Option L) → LeastOrNone s.measure s.map v u o → settled_at o ≡ settled d → Least s.measure s.map v u d
      go None h e = let never : ◌≡◌ {A = ℕ} 0 1 = cc in absurd (omega arith)
      go (Some x) h e = let same : x ≡ d = cc in subst (λ y. Least s.measure s.map v u y) same h

  settled_if_way : (v : ℕ) (way : List (ArcTo L)) → Way s.map v way u → (e : L) × (mark_all v ≡ settled e) × T (s.measure.at_most e (way_length s.measure way))
  unfolding mark_all settled_at
  settled_if_way v way i = go (least_length s.measure s.map v u) (least_length_right s.measure s.map v u)
    where
      go : (o : Option L) → LeastOrNone s.measure s.map v u o → (e : L) × (settled_at o ≡ settled e) × T (s.measure.at_most e (way_length s.measure way))
      go None none = absurd (none way i)
      go (Some d) l = (d, refl, l.1 way i)

  pub search_can_finish : (sketch : ℕ → List (Entry L)) → u < s.map.places → (mark : ℕ → Mark L) × Finished s sketch u mark
  search_can_finish sketch inside = (
    mark_all,
    record {
      begun =
          let z = settled_if_way u [] (refl, inside) in
          subst (λ x. mark_all u ≡ settled x) (s.measure.antisym z.0 s.measure.zero z.2 (s.measure.least z.0)) z.1;
      by_a_way = λ v d is. (least_if_settled v d is).0;
      followed = λ v d is open-still a i.
          let l = (least_if_settled v d is).0 in
          let r = settled_if_way a.from (record { to = v; arc = a } ∷ l.0) (i, refl, l.1) in
          (r.0, r.1, subst (λ x. T (s.measure.at_most r.0 (s.measure.join a.length x))) l.2 r.2);
    },
  )
