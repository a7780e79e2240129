-- Each step of a search keeps what holds between its steps.
use Rattle.std.proofs.Common.{◌≡◌, ℕ, T, ◌⊎◌, List, [], ◌∷◌, ◌++◌, sym, refl, ap, ◌∙◌, subst, inl, inr, ⊎_elim}
use native.Mathlib.Decide.{ℕ_discrete}
use Rattle.graph.specs.Members.{In}
use Rattle.graph.specs.Ways.{HasWay}
use Rattle.graph.specs.declared.arc.Arc.{Arc}
use Rattle.graph.proofs.Lengths.{at_most_same, at_most_equal, at_most_after}
use Rattle.bottom_k.specs.Sketches.{Setting, Entry}
use Rattle.bottom_k.specs.Search.{Mark, waiting, settled, TurnsBack, Finished}
use Rattle.bottom_k.specs.Steps.{Carries, CarriesWithin, with_mark, relaxed, NoneNearer, Searching, Following}
use Rattle.bottom_k.proofs.Members.{in_cases}
use Rattle.bottom_k.proofs.Marks.{not_both, waiting_carries, settled_carries, mark_cases, relaxed_within, relaxed_less, relaxed_waiting, relaxed_settled, relaxed_carries}

module _ {L : Type 0} (s : Setting L) (sketch : ℕ → List (Entry L)) (u : ℕ) where
  pub search_ends : (mark : ℕ → Mark L) → Searching s sketch u mark → ((v : ℕ) (d : L) → ¬ (mark v ≡ waiting d)) → Finished s sketch u mark
  search_ends mark now none = record {
    begun = ⊎_elim (λ h. absurd (none u _ h)) (λ h. h) now.begun;
    by_a_way = λ v d h. now.by_a_way v d (inr h);
    followed = λ v d h open-still a i.
        let r = now.followed v d h open-still a i in
        (r.0, ⊎_elim (λ j. absurd (none a.from _ j)) (λ j. j) r.1, r.2);
  }

  pub search_goes_on : (mark : ℕ → Mark L) (x : ℕ) (d : L) → Following s sketch u mark x d (s.map.arriving x) → Searching s sketch u mark
  search_goes_on mark x d now = record {
    begun = now.begun;
    by_a_way = now.by_a_way;
    in_order = λ v w a b h j. s.measure.trans _ _ _ (now.none_farther v a h) (now.none_nearer w b j);
    followed = λ v e h open-still a i. now.followed v e h open-still a i (λ same. subst (λ z. In a (s.map.arriving z)) same i);
  }

  -- a waiting place of least length settles
  module _ (mark : ℕ → Mark L) (now : Searching s sketch u mark) (x : ℕ) (d : L) (waits : mark x ≡ waiting d) (nearest : NoneNearer s.measure mark d) where
    after : ℕ → Mark L
    after = with_mark mark x (settled d)

    after_cases : (v : ℕ) → ((v ≡ x) × (after v ≡ settled d)) ⊎ ((¬ (v ≡ x)) × (after v ≡ mark v))
    unfolding after
    after_cases v = mark_cases mark x (settled d) v

    forth : (v : ℕ) (e : L) → Carries (mark v) e → Carries (after v) e
    forth v e carries = ⊎_elim
        (λ h. inr (h.1 ∙ ap settled (waiting_carries (mark v) d e (ap mark h.0 ∙ waits) carries)))
        (λ h. subst (λ k. Carries k e) (sym h.1) carries)
        (after_cases v)

    back : (v : ℕ) (e : L) → Carries (after v) e → Carries (mark v) e
    back v e carries = ⊎_elim
        (λ h. inl (ap mark h.0 ∙ waits ∙ ap waiting (settled_carries (after v) d e h.1 carries)))
        (λ h. subst (λ k. Carries k e) h.1 carries)
        (after_cases v)

    still_waits : (v : ℕ) (e : L) → after v ≡ waiting e → mark v ≡ waiting e
    still_waits v e j = ⊎_elim (λ h. not_both (after v) e d j h.1) (λ h. sym h.1 ∙ j) (after_cases v)

    was_settled : (v : ℕ) (e : L) → after v ≡ settled e → ((v ≡ x) × (d ≡ e)) ⊎ ((¬ (v ≡ x)) × (mark v ≡ settled e))
    was_settled v e j = ⊎_elim (λ h. inl (h.0, settled_carries (after v) d e h.1 (inr j))) (λ h. inr (h.0, sym h.1 ∙ j)) (after_cases v)

    none_farther_after : (v : ℕ) (e : L) → after v ≡ settled e → T (s.measure.at_most e d)
    none_farther_after v e j = ⊎_elim (λ h. at_most_equal s.measure e d (sym h.1)) (λ h. now.in_order v x e d h.1 waits) (was_settled v e j)

    followed_before : (v : ℕ) (e : L) → mark v ≡ settled e → ¬ TurnsBack s sketch v e → (a : Arc L) → In a (s.map.arriving v) →
        CarriesWithin s.measure (after a.from) (s.measure.join a.length e)
    followed_before v e h open-still a i = let r = now.followed v e h open-still a i in (r.0, forth a.from r.0 r.1, r.2)

    pub search_turns_back : TurnsBack s sketch x d → Searching s sketch u (with_mark mark x (settled d))
    unfolding after
    search_turns_back full = record {
      begun = forth u _ now.begun;
      by_a_way = λ v e carries. now.by_a_way v e (back v e carries);
      in_order = λ v w a b h j. s.measure.trans _ _ _ (none_farther_after v a h) (nearest w b (still_waits w b j));
      followed = λ v e h open-still a i. ⊎_elim
          (λ c. absurd (open-still (subst (λ l. TurnsBack s sketch v l) c.1 (subst (λ z. TurnsBack s sketch z d) (sym c.0) full))))
          (λ c. followed_before v e c.1 open-still a i)
          (was_settled v e h);
    }

    pub search_settles : Following s sketch u (with_mark mark x (settled d)) x d []
    unfolding after
    search_settles = record {
      begun = forth u _ now.begun;
      by_a_way = λ v e carries. now.by_a_way v e (back v e carries);
      here = ⊎_elim (λ h. h.1) (λ h. absurd (h.0 refl)) (after_cases x);
      none_farther = none_farther_after;
      none_nearer = λ w e j. nearest w e (still_waits w e j);
      followed = λ v e h open-still a i done. ⊎_elim
          (λ c. absurd (done c.0))
          (λ c. followed_before v e c.1 open-still a i)
          (was_settled v e h);
    }

  -- one more arc is followed
  module _ (mark : ℕ → Mark L) (x : ℕ) (d : L) (done : List (Arc L)) (now : Following s sketch u mark x d done) (a : Arc L) (stands : In a (s.map.arriving x)) where
    by : L
    by = s.measure.join a.length d

    next : ℕ → Mark L
    next = with_mark mark a.from (relaxed s.measure (mark a.from) by)

    next_cases : (v : ℕ) → ((v ≡ a.from) × (next v ≡ relaxed s.measure (mark v) by)) ⊎ ((¬ (v ≡ a.from)) × (next v ≡ mark v))
    unfolding next
    next_cases v = ⊎_elim (λ h. inl (h.0, h.1 ∙ ap (λ z. relaxed s.measure (mark z) by) (sym h.0))) (λ h. inr h)
        (mark_cases mark a.from (relaxed s.measure (mark a.from) by) v)

    -- no mark comes to carry more
    lowered : (v : ℕ) (t : L) → CarriesWithin s.measure (mark v) t → CarriesWithin s.measure (next v) t
    lowered v t r = ⊎_elim
        (λ h. let l = relaxed_less s.measure (mark v) by r.0 r.1 in
        (l.0, subst (λ k. Carries k l.0) (sym h.1) l.1, s.measure.trans _ _ _ l.2 r.2))
        (λ h. (r.0, subst (λ k. Carries k r.0) (sym h.1) r.1, r.2))
        (next_cases v)

    -- the from-place of the arc carries at most the length along it
    arrived : (v : ℕ) → v ≡ a.from → CarriesWithin s.measure (next v) by
    unfolding by
    arrived v same = ⊎_elim
        (λ h. let l = relaxed_within s.measure (mark v) by (λ e j.
        s.measure.trans _ _ _ (now.none_farther v e j) (at_most_after s.measure a.length d)) in
        (l.0, subst (λ k. Carries k l.0) (sym h.1) l.1, l.2))
        (λ h. absurd (h.0 same))
        (next_cases v)

    stays_settled : (v : ℕ) (e : L) → mark v ≡ settled e → next v ≡ settled e
    stays_settled v e j = ⊎_elim (λ h. h.1 ∙ ap (λ k. relaxed s.measure k by) j) (λ h. h.1 ∙ j) (next_cases v)

    settled_before : (v : ℕ) (e : L) → next v ≡ settled e → mark v ≡ settled e
    settled_before v e j = ⊎_elim (λ h. relaxed_settled s.measure (mark v) by e (sym h.1 ∙ j)) (λ h. sym h.1 ∙ j) (next_cases v)

    carried : (v : ℕ) (e : L) → Carries (next v) e → Carries (mark v) e ⊎ ((v ≡ a.from) × (e ≡ by))
    carried v e carries = ⊎_elim
        (λ h. ⊎_elim (λ j. inl j) (λ j. inr (h.0, j)) (relaxed_carries s.measure (mark v) by e (subst (λ k. Carries k e) h.1 carries)))
        (λ h. inl (subst (λ k. Carries k e) h.1 carries))
        (next_cases v)

    waited : (v : ℕ) (e : L) → next v ≡ waiting e → (mark v ≡ waiting e) ⊎ (e ≡ by)
    waited v e j = ⊎_elim (λ h. relaxed_waiting s.measure (mark v) by e (sym h.1 ∙ j)) (λ h. inl (sym h.1 ∙ j)) (next_cases v)

    way_by_arc : (v : ℕ) → v ≡ a.from → HasWay s.measure s.map v u by
    unfolding by
    way_by_arc v same =
        let w = now.by_a_way x d (inr now.here) in
        (record { to = x; arc = a } ∷ w.0, (stands, sym same, w.1), ap (s.measure.join a.length) w.2)

    pub search_follows : Following s sketch u (with_mark mark a.from (relaxed s.measure (mark a.from) (s.measure.join a.length d))) x d (done ++ a ∷ [])
    unfolding by next
    search_follows = record {
      begun =
          let l = lowered u s.measure.zero (s.measure.zero, now.begun, at_most_same s.measure _) in
          subst (λ z. Carries (next u) z) (s.measure.antisym _ _ l.2 (s.measure.least _)) l.1;
      by_a_way = λ v e carries. ⊎_elim (λ j. now.by_a_way v e j)
          (λ j. subst (λ l. HasWay s.measure s.map v u l) (sym j.1) (way_by_arc v j.0)) (carried v e carries);
      here = stays_settled x d now.here;
      none_farther = λ v e j. now.none_farther v e (settled_before v e j);
      none_nearer = λ v e j. ⊎_elim (λ h. now.none_nearer v e h)
          (λ h. subst (λ l. T (s.measure.at_most d l)) (sym h) (at_most_after s.measure a.length d)) (waited v e j);
      followed = λ v e j open-still b i along. go v e (settled_before v e j) open-still b i along (ℕ_discrete v x);
    }
      where
        go : (v : ℕ) (e : L) → mark v ≡ settled e → ¬ TurnsBack s sketch v e → (b : Arc L) → In b (s.map.arriving v) → (v ≡ x → In b (done ++ a ∷ [])) →
            Dec (v ≡ x) → CarriesWithin s.measure (next b.from) (s.measure.join b.length e)
        go v e j open-still b i along (no other) = lowered b.from _ (now.followed v e j open-still b i (λ same. absurd (other same)))
        go v e j open-still b i along (yes same) = ⊎_elim
            (λ k. lowered b.from _ (now.followed v e j open-still b i (λ _. k)))
            (⊎_elim
            (λ k. let far : d ≡ e = settled_carries (mark v) d e (ap mark same ∙ now.here) (inr j) in
            subst (λ t. CarriesWithin s.measure (next b.from) t)
            (ap (λ c. s.measure.join c.length d) (sym k) ∙ ap (s.measure.join b.length) far)
            (arrived b.from (ap (λ c. c.from) k)))
            absurd)
            (in_cases b done (a ∷ []) (along same))
