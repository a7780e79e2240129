-- The definitions that compute meet the relations: sketches due, entries due, samples, and where a search turns back.
use Rattle.std.proofs.Common.{◌≡◌, ℕ, zero, suc, ◌<◌, Bool, true, false, cond, not, ◌&&◌, T, eqb, ltb, ◌⊎◌, ◌↔◌, List, [], ◌∷◌, ◌++◌, length, Some, None, filter, Option, sym, refl, ap, ◌∙◌, subst, inl, inr, ⊎_elim, append-nil, arith, eqb→eq, ltb→lt, lt→ltb, T_not}
use lib.Dec.{eqb_refl, not_T}
use Rattle.std.specs.List.{range_with_len}
use Rattle.graph.specs.Members.{In}
use Rattle.graph.specs.Ways.{LeastOrNone}
use Rattle.graph.specs.declared.arc.Arc.{Arc}
use Rattle.graph.proofs.Places.{arrives_inside, departs_inside}
use Rattle.graph.proofs.LeastWays.{least_once}
use Rattle.bottom_k.specs.Sketches.{Setting, Entry, NearBefore, Noted, Due, place_at}
use Rattle.bottom_k.specs.Samples.{ReachedFromSome, JointSample}
use Rattle.bottom_k.specs.Cells.{EntriesDue, PassesCells}
use Rattle.bottom_k.specs.Search.{DueToNote, TurnedBackAt}
use Rattle.bottom_k.specs.Computed.{GivesLeast, some_passes, is_near, near_before, entry_at, entry_due, due_list, entries_due, cells_run_out, sample_list, is_due_to_note, leads_into_due, turned_back}
use Rattle.bottom_k.proofs.Members.{in_kept, kept_in}
use Rattle.bottom_k.proofs.OrderedLists.{ordered_kept}
use Rattle.bottom_k.proofs.DueSketches.{due_same, due_more, none_due}
use Rattle.bottom_k.proofs.Firsts.{first_same, first_take}
use Rattle.bottom_k.proofs.EntriesCounted.{counted_if_passes}
use Rattle.bottom_k.proofs.NearPlaces.{in_counting, counting_in, counting_rises, passes_in, in_passes, near_if_test, test_if_near, found_near, found_all}

-- two tests at once
both_hold : (a b : Bool) → T (a && b) → T a × T b
both_hold true b h = (tt, h)
both_hold false b h = absurd h

hold_both : (a b : Bool) → T a → T b → T (a && b)
hold_both true b h k = k
hold_both false b h k = absurd h

module _ {L : Type 0} (s : Setting L) (least : ℕ → ℕ → Option L) (gives : GivesLeast s.measure s.map least) where
  -- position p is noted, and then just there is an entry
  entry_cases : (v p : ℕ) (o : Option L) → LeastOrNone s.measure s.map v (place_at s p) o →
      ((d : L) × (entry_at s least v p o ≡ record { position = p; length = d } ∷ []) × Noted s (suc p) v p d)
      ⊎ ((entry_at s least v p o ≡ []) × ((d : L) → ¬ Noted s (suc p) v p d))
  entry_cases v p None none = inr (refl, λ d n. none n.least.0.0 n.least.0.1)
  entry_cases v p (Some d) l = go (ltb (length near) s.k) (ltb→lt _ _) (lt→ltb _ _)
    where
      near : List ℕ
      near = near_before s least v p d

      new : Entry L
      new = record { position = p; length = d }

      noted : length near < s.k → Noted s (suc p) v p d
      noted few = record {
        swept_by = omega arith;
        least = l;
        fewer = λ qs h. let k = found_all s least gives v p d qs h in omega arith;
      }

      few_if_noted : (e : L) → Noted s (suc p) v p e → length near < s.k
      few_if_noted e n =
          let same = least_once s.measure s.map v (place_at s p) d e l n.least in
          n.fewer near (subst (λ x. NearBefore s v p x near) same (found_near s least gives v p d))

      go : (b : Bool) → (T b → length near < s.k) → (length near < s.k → T b) →
          ((e : L) × (cond b (new ∷ []) [] ≡ record { position = p; length = e } ∷ []) × Noted s (suc p) v p e)
          ⊎ ((cond b (new ∷ []) [] ≡ []) × ((e : L) → ¬ Noted s (suc p) v p e))
      go true to back = inl (d, refl, noted (to tt))
      go false to back = inr (refl, λ e n. back (few_if_noted e n))

  -- the due list is due
  pub sketch_is_computed : (swept v : ℕ) → Due s swept v (due_list s least swept v)
  sketch_is_computed zero v = none_due s v
  sketch_is_computed (suc p) v = go (sketch_is_computed p v) (entry_cases v p (least v (place_at s p)) (gives v (place_at s p)))
    where
      es : List (Entry L)
      es = due_list s least p v

      go : Due s p v es →
          ((d : L) × (entry_due s least v p ≡ record { position = p; length = d } ∷ []) × Noted s (suc p) v p d)
          ⊎ ((entry_due s least v p ≡ []) × ((d : L) → ¬ Noted s (suc p) v p d)) → Due s (suc p) v (es ++ entry_due s least v p)
      go due (inl r) = subst (λ fs. Due s (suc p) v (es ++ fs)) (sym r.1) (due_more s v p r.0 es due r.2)
      go due (inr r) = subst (λ fs. Due s (suc p) v fs) (sym (ap (λ fs. es ++ fs) r.0 ∙ append-nil es)) (due_same s v p es due r.1)

  pub entries_are_computed : (swept : ℕ) → EntriesDue s swept (entries_due s least swept)
  entries_are_computed swept = (due_list s least swept, (λ v inside. sketch_is_computed swept v), refl)

  pub passes_if_due : (swept cells : ℕ) → cells < entries_due s least swept → PassesCells s swept cells
  passes_if_due swept cells h = (entries_due s least swept, entries_are_computed swept, h)

  pub due_if_passes : (swept cells : ℕ) → PassesCells s swept cells → cells < entries_due s least swept
  due_if_passes swept cells h = counted_if_passes s swept (entries_due s least swept) (entries_are_computed swept) cells h

  pub run_out_is_computed : (cells p u : ℕ) → (cells_run_out s least cells p ≡ Some u) ↔ (PassesCells s (suc p) cells × (u ≡ place_at s p))
  run_out_is_computed cells p u = go (ltb cells (entries_due s least (suc p))) (λ t. passes_if_due (suc p) cells (ltb→lt _ _ t)) (λ h. lt→ltb _ _ (due_if_passes (suc p) cells h))
    where
      go : (b : Bool) → (T b → PassesCells s (suc p) cells) → (PassesCells s (suc p) cells → T b) →
          (cond b (Some (place_at s p)) None ≡ Some u) ↔ (PassesCells s (suc p) cells × (u ≡ place_at s p))
      go true to back = (λ e. (to tt, cc), λ h. ap Some (sym h.1))
      go false to back = (λ e. let never : ◌≡◌ {A = ℕ} 0 1 = cc in absurd (omega arith), λ h. absurd (back h.0))

  -- the sample list is the sample
  pub sample_is_computed : (swept : ℕ) (starts : List ℕ) (t : L) → JointSample s swept starts t (sample_list s least swept starts t)
  sample_is_computed swept starts t =
      first_same (λ q. In q reached) (ReachedFromSome s swept starts t) s.k _ to back (first_take s.k reached (ordered_kept (λ x y. x < y) test (range_with_len 0 swept) (counting_rises 0 swept)))
    where
      test : ℕ → Bool
      test q = some_passes (λ v. is_near s least v t q) starts

      reached : List ℕ
      reached = filter test (range_with_len 0 swept)

      to : (q : ℕ) → In q reached → ReachedFromSome s swept starts t q
      to q i =
          let k = kept_in test q (range_with_len 0 swept) i in
          let r = passes_in (λ v. is_near s least v t q) starts k.1 in
          (omega (arith, (counting_in 0 swept q k.0).1), (r.0, r.1, near_if_test s least gives r.0 q t r.2))

      back : (q : ℕ) → ReachedFromSome s swept starts t q → In q reached
      back q r = in_kept test q (range_with_len 0 swept) (in_counting 0 swept q (omega arith) (omega (arith, r.0)))
          (in_passes (λ v. is_near s least v t q) starts r.1.0 r.1.1 (test_if_near s least gives r.1.0 q t r.1.2))

  -- whether v is due to note position p
  pub due_if_test : (p v : ℕ) → T (is_due_to_note s least p v) → DueToNote s p v
  due_if_test p v h = ⊎_elim (λ r. (r.0, r.2)) (λ r. absurd (subst (λ fs. T (ltb 0 (length fs))) r.0 h)) (entry_cases v p (least v (place_at s p)) (gives v (place_at s p)))

  pub test_if_due : (p v : ℕ) → DueToNote s p v → T (is_due_to_note s least p v)
  test_if_due p v n = ⊎_elim (λ r. subst (λ fs. T (ltb 0 (length fs))) (sym r.1) tt) (λ r. absurd (r.1 n.0 n.1)) (entry_cases v p (least v (place_at s p)) (gives v (place_at s p)))

  -- whether an arc leads from v into a place that is due to note position p
  leads_if_test : (p v : ℕ) → T (leads_into_due s least p v) → (w : ℕ) × (a : Arc L) × In a (s.map.arriving w) × (a.from ≡ v) × DueToNote s p w
  leads_if_test p v h =
      let r = passes_in (λ w. is_due_to_note s least p w && some_passes (λ a. eqb a.from v) (s.map.arriving w)) (range_with_len 0 s.map.places) h in
      let b = both_hold _ _ r.2 in
      let q = passes_in (λ a. eqb a.from v) (s.map.arriving r.0) b.1 in
      (r.0, q.0, q.1, eqb→eq _ _ q.2, due_if_test p r.0 b.0)

  test_if_leads : (p v w : ℕ) (a : Arc L) → In a (s.map.arriving w) → a.from ≡ v → DueToNote s p w → T (leads_into_due s least p v)
  test_if_leads p v w a i from due =
      in_passes (λ x. is_due_to_note s least p x && some_passes (λ b. eqb b.from v) (s.map.arriving x)) (range_with_len 0 s.map.places) w
      (in_counting 0 s.map.places w (omega arith) (omega (arith, arrives_inside s.map w a i)))
      (hold_both _ _ (test_if_due p w due)
      (in_passes (λ b. eqb b.from v) (s.map.arriving w) a i (subst (λ x. T (eqb a.from x)) from (eqb_refl a.from))))

  -- the list of places where the search turns back has just those
  pub turned_if_listed : (p v : ℕ) → In v (turned_back s least p) → TurnedBackAt s p v
  turned_if_listed p v i =
      let k = kept_in (λ x. not (is_due_to_note s least p x) && leads_into_due s least p x) v (range_with_len 0 s.map.places) i in
      let b = both_hold _ _ k.1 in
      (λ due. T_not _ b.0 (test_if_due p v due), leads_if_test p v b.1)

  pub listed_if_turned : (p v : ℕ) → TurnedBackAt s p v → In v (turned_back s least p)
  listed_if_turned p v h =
      let r = h.1 in
      let inside : v < s.map.places = subst (λ x. x < s.map.places) r.3 (departs_inside s.map (record { to = r.0; arc = r.1 }) r.2) in
      in_kept (λ x. not (is_due_to_note s least p x) && leads_into_due s least p x) v (range_with_len 0 s.map.places)
      (in_counting 0 s.map.places v (omega arith) (omega arith))
      (hold_both _ _ (not_T _ (λ t. h.0 (due_if_test p v t))) (test_if_leads p v r.0 r.1 r.2 r.3 r.4))
