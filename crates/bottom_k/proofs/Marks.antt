-- Marks: what they carry, replacing one, relaxing one, and how many places are unsettled.
use Rattle.std.proofs.Common.{◌≡◌, ℕ, zero, suc, ◌+◌, ◌<◌, Bool, true, false, cond, T, eqb, ◌⊎◌, List, length, get_or, set, sym, refl, ap, ◌∙◌, subst, inl, inr, ⊎_elim, arith, eqb→eq, get_or-set_other, get_or-set_same}
use mathlib.Core.Path.{fun_ext}
use native.Mathlib.Decide.{ℕ_discrete}
use lib.Dec.{eqb_refl}
use Rattle.measure.specs.Laws.{OrderedMonoid}
use Rattle.graph.proofs.Lengths.{at_most_same, at_most_equal}
use Rattle.bottom_k.specs.Sketches.{Setting, Entry}
use Rattle.bottom_k.specs.Search.{Mark, unseen, waiting, settled, sketch_after}
use Rattle.bottom_k.specs.Steps.{Carries, with_mark, relaxed, is_settled, unsettled}

module _ {L : Type 0} where
  -- a mark is of one kind and carries one length
  pub not_both : {A : Type 0} (k : Mark L) (d e : L) → k ≡ waiting d → k ≡ settled e → A
  not_both k d e h j = let never : ◌≡◌ {A = ℕ} 0 1 = cc in absurd (omega arith)

  pub not_unseen : {A : Type 0} (e : L) → Carries unseen e → A
  not_unseen e (inl h) = let never : ◌≡◌ {A = ℕ} 0 1 = cc in absurd (omega arith)
  not_unseen e (inr h) = let never : ◌≡◌ {A = ℕ} 0 1 = cc in absurd (omega arith)

  pub waiting_carries : (k : Mark L) (d e : L) → k ≡ waiting d → Carries k e → d ≡ e
  waiting_carries k d e h (inl j) = cc
  waiting_carries k d e h (inr j) = not_both k d e h j

  pub settled_carries : (k : Mark L) (d e : L) → k ≡ settled d → Carries k e → d ≡ e
  settled_carries k d e h (inl j) = not_both k e d j h
  settled_carries k d e h (inr j) = cc

  -- the replaced mark, or that of another place
  pub mark_cases : (mark : ℕ → Mark L) (x : ℕ) (k : Mark L) (v : ℕ) →
      ((v ≡ x) × (with_mark mark x k v ≡ k)) ⊎ ((¬ (v ≡ x)) × (with_mark mark x k v ≡ mark v))
  mark_cases mark x k v = go (eqb v x) (eqb→eq v x) (λ e. subst (λ z. T (eqb v z)) e (eqb_refl v))
    where
      go : (b : Bool) → (T b → v ≡ x) → (v ≡ x → T b) → ((v ≡ x) × (cond b k (mark v) ≡ k)) ⊎ ((¬ (v ≡ x)) × (cond b k (mark v) ≡ mark v))
      go true h j = inl (h tt, refl)
      go false h j = inr (j, refl)

  mark_here : (mark : ℕ → Mark L) (x : ℕ) (k : Mark L) → with_mark mark x k x ≡ k
  mark_here mark x k = ⊎_elim (λ h. h.1) (λ h. absurd (h.0 refl)) (mark_cases mark x k x)

  mark_else : (mark : ℕ → Mark L) (x : ℕ) (k : Mark L) (v : ℕ) → ¬ (v ≡ x) → with_mark mark x k v ≡ mark v
  mark_else mark x k v n = ⊎_elim (λ h. absurd (n h.0)) (λ h. h.1) (mark_cases mark x k v)

  -- marks that stand in a list
  pub mark_set : (marks : List (Mark L)) (x : ℕ) (k : Mark L) → x < length marks →
      (λ v. get_or (set marks x k) v unseen) ≡ with_mark (λ v. get_or marks v unseen) x k
  mark_set marks x k h = fun_ext (λ v. ⊎_elim
      (λ c. ap (λ z. get_or (set marks x k) z unseen) c.0 ∙ get_or-set_same marks x k unseen h ∙ sym c.1)
      (λ c. get_or-set_other marks x v k unseen c.0 ∙ sym c.1)
      (mark_cases (λ v. get_or marks v unseen) x k v))

  -- how many places are not settled
  unsettled_same : (n : ℕ) (one two : ℕ → Mark L) → ((v : ℕ) → v < n → is_settled (one v) ≡ is_settled (two v)) → unsettled n one ≡ unsettled n two
  unsettled_same zero one two h = refl
  unsettled_same (suc n) one two h =
      let rest = unsettled_same n one two (λ v l. h v (omega arith)) in
      ap (λ b. cond b 0 1 + unsettled n one) (h n (omega arith)) ∙ ap (λ r. cond (is_settled (two n)) 0 1 + r) rest

  pub unsettled_fewer : (mark : ℕ → Mark L) (n x : ℕ) (d : L) → x < n → mark x ≡ waiting d → unsettled n (with_mark mark x (settled d)) < unsettled n mark
  unsettled_fewer mark zero x d h waits = absurd (omega arith)
  unsettled_fewer mark (suc n) x d h waits = go (ℕ_discrete x n) (unsettled_fewer mark n x d)
    where
      after : ℕ → Mark L
      after = with_mark mark x (settled d)

      less : (x < n → mark x ≡ waiting d → unsettled n after < unsettled n mark) → ¬ (x ≡ n) → (b : Bool) → cond b 0 1 + unsettled n after < cond b 0 1 + unsettled n mark
      less known other b = omega (arith, known (omega arith) waits)

      go : Dec (x ≡ n) → (x < n → mark x ≡ waiting d → unsettled n after < unsettled n mark) → unsettled (suc n) after < unsettled (suc n) mark
      go (yes same) known =
          let same_rest = unsettled_same n after mark (λ v l. ap is_settled (mark_else mark x (settled d) v (omega arith))) in
          let now : is_settled (after n) ≡ true = ap is_settled (ap after (sym same) ∙ mark_here mark x (settled d)) in
          let was : is_settled (mark n) ≡ false = ap is_settled (ap mark (sym same) ∙ waits) in
          rw (now, was) (omega arith)
      go (no other) known =
          let here : is_settled (after n) ≡ is_settled (mark n) = ap is_settled (mark_else mark x (settled d) n (λ e. other (sym e))) in
          rw here (less known other (is_settled (mark n)))

module _ {L : Type 0} (m : OrderedMonoid L) where
  -- what a relaxed mark carries
  pub relaxed_within : (k : Mark L) (t : L) → ((e : L) → k ≡ settled e → T (m.at_most e t)) →
      (e : L) × Carries (relaxed m k t) e × T (m.at_most e t)
  relaxed_within unseen t h = (t, inl refl, at_most_same m t)
  relaxed_within (waiting d) t h = put (m.at_most d t) (λ b. b)
    where
      put : (b : Bool) → (T b → T (m.at_most d t)) → (e : L) × Carries (cond b (waiting d) (waiting t)) e × T (m.at_most e t)
      put true j = (d, inl refl, j tt)
      put false j = (t, inl refl, at_most_same m t)
  relaxed_within (settled d) t h = (d, inr refl, h d refl)

  pub relaxed_less : (k : Mark L) (t e : L) → Carries k e → (l : L) × Carries (relaxed m k t) l × T (m.at_most l e)
  relaxed_less unseen t e h = not_unseen e h
  relaxed_less (waiting d) t e h = put (m.at_most d t) (λ n. ⊎_elim (λ j. absurd (n j)) (λ j. j) (m.total d t))
    where
      same : d ≡ e
      same = waiting_carries (waiting d) d e refl h

      put : (b : Bool) → ((T b → ⊥) → T (m.at_most t d)) → (l : L) × Carries (cond b (waiting d) (waiting t)) l × T (m.at_most l e)
      put true j = (d, inl refl, at_most_equal m d e same)
      put false j = (t, inl refl, subst (λ l. T (m.at_most t l)) same (j (λ n. n)))
  relaxed_less (settled d) t e h = (d, inr refl, at_most_equal m d e (settled_carries (settled d) d e refl h))

  pub relaxed_waiting : (k : Mark L) (t e : L) → relaxed m k t ≡ waiting e → (k ≡ waiting e) ⊎ (e ≡ t)
  relaxed_waiting unseen t e h = inr (cc)
  relaxed_waiting (waiting d) t e h = put (m.at_most d t) h
    where
      put : (b : Bool) → cond b (waiting d) (waiting t) ≡ waiting e → (waiting d ≡ waiting e) ⊎ (e ≡ t)
      put true j = inl j
      put false j = inr (cc)
  relaxed_waiting (settled d) t e h = not_both (settled d) e d h refl

  pub relaxed_settled : (k : Mark L) (t e : L) → relaxed m k t ≡ settled e → k ≡ settled e
  relaxed_settled unseen t e h = not_both (waiting t) t e refl h
  relaxed_settled (waiting d) t e h = put (m.at_most d t) h
    where
      put : (b : Bool) → cond b (waiting d) (waiting t) ≡ settled e → waiting d ≡ settled e
      put true j = j
      put false j = not_both (waiting t) t e refl j
  relaxed_settled (settled d) t e h = h

  pub relaxed_carries : (k : Mark L) (t e : L) → Carries (relaxed m k t) e → Carries k e ⊎ (e ≡ t)
  relaxed_carries k t e (inl h) = ⊎_elim (λ j. inl (inl j)) (λ j. inr j) (relaxed_waiting k t e h)
  relaxed_carries k t e (inr h) = inl (inr (relaxed_settled k t e h))

  relaxed_is_settled : (k : Mark L) (t : L) → is_settled (relaxed m k t) ≡ is_settled k
  relaxed_is_settled unseen t = refl
  relaxed_is_settled (waiting d) t = put (m.at_most d t)
    where
      put : (b : Bool) → is_settled (cond b (waiting d) (waiting t)) ≡ false
      put true = refl
      put false = refl
  relaxed_is_settled (settled d) t = refl

  -- following an arc settles no place
  pub unsettled_relaxed : (mark : ℕ → Mark L) (y : ℕ) (t : L) (n : ℕ) → unsettled n (with_mark mark y (relaxed m (mark y) t)) ≡ unsettled n mark
  unsettled_relaxed mark y t n = unsettled_same n _ mark (λ v l. ⊎_elim
      (λ h. ap is_settled (h.1 ∙ ap (λ z. relaxed m (mark z) t) (sym h.0)) ∙ relaxed_is_settled (mark v) t)
      (λ h. ap is_settled h.1)
      (mark_cases mark y (relaxed m (mark y) t) v))

-- a relaxed mark notes what it noted before
noted_relaxed : {L : Type 0} (s : Setting L) (p : ℕ) (k : Mark L) (t : L) (es : List (Entry L)) → sketch_after s p (relaxed s.measure k t) es ≡ sketch_after s p k es
noted_relaxed s p unseen t es = refl
noted_relaxed {L} s p (waiting d) t es = put (s.measure.at_most d t)
  where
    put : (b : Bool) → sketch_after s p (cond b (waiting d) (waiting t)) es ≡ es
    put true = refl
    put false = refl
noted_relaxed s p (settled d) t es = refl

pub noted_kept : {L : Type 0} (s : Setting L) (mark : ℕ → Mark L) (y : ℕ) (t : L) (p v : ℕ) (es : List (Entry L)) →
    sketch_after s p (with_mark mark y (relaxed s.measure (mark y) t) v) es ≡ sketch_after s p (mark v) es
noted_kept s mark y t p v es = ⊎_elim
    (λ h. ap (λ k. sketch_after s p k es) (h.1 ∙ ap (λ z. relaxed s.measure (mark z) t) (sym h.0)) ∙ noted_relaxed s p (mark v) t es)
    (λ h. ap (λ k. sketch_after s p k es) h.1)
    (mark_cases mark y (relaxed s.measure (mark y) t) v)
