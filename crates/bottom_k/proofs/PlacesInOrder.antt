-- The places in order: the list worked out one by one is in order, has just the places, and is the only one.
use Rattle.std.proofs.Common.{◌≡◌, ℕ, zero, suc, ◌<◌, ◌≤◌, Bool, true, false, cond, T, ◌⊎◌, List, [], ◌∷◌, sym, ◌∙◌, subst, inl, inr, ⊎_elim, arith, le→leb, leb→le}
use native.Mathlib.Decide.{ℕ_discrete}
use Rattle.std.proofs.lemmas.Bool.{cases_order}
use Rattle.measure.specs.Orders.{number_order, pair_tells, pair_told}
use Rattle.graph.specs.Members.{In}
use Rattle.graph.proofs.Lists.{all_in, all_from_in}
use Rattle.bottom_k.specs.Ranking.{rank_of, Before, InOrder, Ranking, not_after, put_in_order, ranking}
use Rattle.bottom_k.proofs.OrderedLists.{same_ordered}

module _ (ranks : List ℕ) where
  -- what the comparison of rank and number tells of two different places
  before_if_test : (v w : ℕ) → ¬ (v ≡ w) → T (not_after ranks v w) → Before ranks v w
  before_if_test v w other h =
      let k = pair_tells number_order number_order (rank_of ranks v, v) (rank_of ranks w, w) h in
      let low : rank_of ranks v ≤ rank_of ranks w = leb→le _ _ k.0 in
      ⊎_elim
      (λ same. inr (same, (let le : v ≤ w = leb→le _ _ (k.1 (le→leb _ _ (omega arith))) in omega arith)))
      (⊎_elim (λ lt. inl lt) (λ gt. absurd (omega arith)))
      (cases_order (rank_of ranks v) (rank_of ranks w))

  test_if_before : (v w : ℕ) → Before ranks v w → T (not_after ranks v w)
  test_if_before v w b = pair_told number_order number_order (rank_of ranks v, v) (rank_of ranks w, w)
      (le→leb _ _ (⊎_elim (λ h. omega arith) (λ h. omega (arith, h.0)) b))
      (λ t. let back : rank_of ranks w ≤ rank_of ranks v = leb→le _ _ t in le→leb _ _ (⊎_elim (λ h. absurd (omega arith)) (λ h. omega (arith, h.1)) b))

  either_before : (v w : ℕ) → ¬ (v ≡ w) → Before ranks v w ⊎ Before ranks w v
  either_before v w other = ⊎_elim
      (λ same. ⊎_elim (λ e. absurd (other e)) (⊎_elim (λ lt. inl (inr (same, lt))) (λ gt. inr (inr (sym same, gt)))) (cases_order v w))
      (⊎_elim (λ lt. inl (inl lt)) (λ gt. inr (inl gt)))
      (cases_order (rank_of ranks v) (rank_of ranks w))

  before_trans : (u v w : ℕ) → Before ranks u v → Before ranks v w → Before ranks u w
  before_trans u v w (inl h) (inl k) = inl (omega arith)
  before_trans u v w (inl h) (inr k) = inl (omega (arith, k.0))
  before_trans u v w (inr h) (inl k) = inl (omega (arith, h.0))
  before_trans u v w (inr h) (inr k) = inr (h.0 ∙ k.0, omega (arith, h.1, k.1))

  pub before_not_back : (v w : ℕ) → Before ranks v w → Before ranks w v → ⊥
  before_not_back v w (inl h) (inl k) = omega arith
  before_not_back v w (inl h) (inr k) = omega (arith, k.0)
  before_not_back v w (inr h) (inl k) = omega (arith, h.0)
  before_not_back v w (inr h) (inr k) = omega (arith, h.1, k.1)

  -- putting a place into a list adds it and nothing else
  in_put : (v w : ℕ) (ws : List ℕ) → (w ≡ v) ⊎ In w ws → In w (put_in_order ranks v ws)
  in_put v w [] (inl e) = inl e
  in_put v w [] (inr i) = absurd i
  in_put v w (x ∷ ws) h = go (not_after ranks v x) h (in_put v w ws)
    where
      go : (b : Bool) → (w ≡ v) ⊎ In w (x ∷ ws) → ((w ≡ v) ⊎ In w ws → In w (put_in_order ranks v ws)) → In w (cond b (v ∷ x ∷ ws) (x ∷ put_in_order ranks v ws))
      go true k rest = k
      go false (inl e) rest = inr (rest (inl e))
      go false (inr (inl e)) rest = inl e
      go false (inr (inr i)) rest = inr (rest (inr i))

  put_in : (v w : ℕ) (ws : List ℕ) → In w (put_in_order ranks v ws) → (w ≡ v) ⊎ In w ws
  put_in v w [] i = i
  put_in v w (x ∷ ws) i = go (not_after ranks v x) i (put_in v w ws)
    where
      go : (b : Bool) → In w (cond b (v ∷ x ∷ ws) (x ∷ put_in_order ranks v ws)) → (In w (put_in_order ranks v ws) → (w ≡ v) ⊎ In w ws) → (w ≡ v) ⊎ In w (x ∷ ws)
      go true k rest = k
      go false (inl e) rest = inr (inl e)
      go false (inr j) rest = ⊎_elim (λ e. inl e) (λ k. inr (inr k)) (rest j)

  put_keeps_order : (v : ℕ) (ws : List ℕ) → ¬ In v ws → InOrder ranks ws → InOrder ranks (put_in_order ranks v ws)
  put_keeps_order v [] out order = (tt, tt)
  put_keeps_order v (x ∷ ws) out order = go (not_after ranks v x) (before_if_test v x (λ e. out (inl e))) (λ b. test_if_before v x b) (put_keeps_order v ws (λ i. out (inr i)) order.1)
    where
      go : (b : Bool) → (T b → Before ranks v x) → (Before ranks v x → T b) → InOrder ranks (put_in_order ranks v ws) → InOrder ranks (cond b (v ∷ x ∷ ws) (x ∷ put_in_order ranks v ws))
      go true to back rest = (
        (to tt, all_from_in (Before ranks v) ws (λ w i. before_trans v x w (to tt) (all_in (Before ranks x) ws order.0 w i))),
        order,
      )
      go false to back rest = (
        all_from_in (Before ranks x) (put_in_order ranks v ws) (λ w i. ⊎_elim
            (λ e. subst (Before ranks x) (sym e) (⊎_elim (λ b. absurd (back b)) (λ b. b) (either_before v x (λ d. out (inl d)))))
            (λ j. all_in (Before ranks x) ws order.0 w j)
            (put_in v w ws i)),
        rest,
      )

  pub ranking_is_computed : (n : ℕ) → Ranking ranks n (ranking ranks n)
  ranking_is_computed zero = record { in_order = tt; places = λ v. (λ i. absurd i, λ h. absurd (omega arith)) }
  ranking_is_computed (suc n) = go (ranking_is_computed n)
    where
      go : Ranking ranks n (ranking ranks n) → Ranking ranks (suc n) (put_in_order ranks n (ranking ranks n))
      go r = record {
        in_order = put_keeps_order n (ranking ranks n) (λ i. let h = (r.places n).0 i in absurd (omega arith)) r.in_order;
        places = λ v. (
          λ i. ⊎_elim (λ e. omega arith) (λ j. let h = (r.places v).0 j in omega arith) (put_in n v (ranking ranks n) i),
          λ h. in_put n v (ranking ranks n) (kind v h (ℕ_discrete v n)),
        );
      }
        where
          kind : (v : ℕ) → v < suc n → Dec (v ≡ n) → (v ≡ n) ⊎ In v (ranking ranks n)
          kind v h (yes e) = inl e
          kind v h (no d) = inr ((r.places v).1 (omega arith))

  pub one_ranking : (n : ℕ) (order : List ℕ) → Ranking ranks n order → order ≡ ranking ranks n
  one_ranking n order r =
      let c = ranking_is_computed n in
      same_ordered (Before ranks) before_not_back order (ranking ranks n) r.in_order c.in_order (λ x i. (c.places x).1 ((r.places x).0 i)) (λ x i. (r.places x).1 ((c.places x).0 i))
