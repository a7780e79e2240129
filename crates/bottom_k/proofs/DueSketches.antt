-- Sketches due: cut at a position, longer by one, without the last; and that there is only one.
use Rattle.std.proofs.Common.{◌≡◌, ℕ, suc, ◌<◌, ◌≤◌, Bool, true, false, cond, T, ltb, List, [], ◌∷◌, ◌++◌, map, filter, sym, refl, ap, ◌∙◌, subst, inl, ⊎_elim, append-nil, arith, ltb→lt, lt→ltb}
use native.Mathlib.Decide.{ℕ_discrete}
use Rattle.std.specs.List.{AllByRecursion}
use Rattle.std.proofs.lemmas.List.Elements.{filter-append}
use Rattle.graph.specs.Members.{In}
use Rattle.graph.specs.Ways.{Least}
use Rattle.graph.proofs.Lists.{all_in, all_from_in}
use Rattle.graph.proofs.LeastWays.{least_once}
use Rattle.bottom_k.specs.Lists.{Ordered, Rising}
use Rattle.bottom_k.specs.Sketches.{Setting, Entry, Noted, Due, place_at, entries_before}
use Rattle.bottom_k.proofs.Members.{in_left, in_right, in_cases, in_kept, kept_in, kept_all, map_in}
use Rattle.bottom_k.proofs.OrderedLists.{ordered_kept, ordered_push, ordered_front, ordered_map, map_ordered, same_ordered}

module _ {L : Type 0} where
  -- entries ordered by their positions
  abbrev Earlier : Entry L → Entry L → Type 0
  Earlier a b = a.position < b.position

  by_position : (es : List (Entry L)) → Rising (map (λ e. e.position) es) → Ordered Earlier es
  by_position = map_ordered (λ p q. p < q) (λ e. e.position)

  -- a filter keeps rising positions
  pub rising_kept : (test : Entry L → Bool) (es : List (Entry L)) → Rising (map (λ e. e.position) es) → Rising (map (λ e. e.position) (filter test es))
  rising_kept test es h = ordered_map (λ p q. p < q) (λ e. e.position) (filter test es) (ordered_kept Earlier test es (by_position es h))

module _ {L : Type 0} (s : Setting L) (v : ℕ) where
  -- being noted asks only that the place is swept, not how many others are
  pub noted_at : (a b p : ℕ) (d : L) → p < b → Noted s a v p d → Noted s b v p d
  noted_at a b p d h n = record { swept_by = h; least = n.least; fewer = n.fewer }

  -- the entries before a position are those due when only the positions before it were swept
  pub due_before : (swept p : ℕ) (es : List (Entry L)) → p ≤ swept → Due s swept v es → Due s p v (entries_before p es)
  due_before swept p es h due = record {
    rising = rising_kept (λ e. ltb e.position p) es due.rising;
    exact = λ e. (
      λ i. let k = kept_in (λ x. ltb x.position p) e es i in
          noted_at swept p e.position e.length (ltb→lt _ _ k.1) ((due.exact e).0 k.0),
      λ n. let l : e.position < swept = omega (arith, n.swept_by) in
          in_kept (λ x. ltb x.position p) e es ((due.exact e).1 (noted_at p swept e.position e.length l n)) (lt→ltb _ _ n.swept_by),
    );
  }

  -- a place that is not due to note position p keeps its sketch
  pub due_same : (p : ℕ) (es : List (Entry L)) → Due s p v es → ((d : L) → ¬ Noted s (suc p) v p d) → Due s (suc p) v es
  due_same p es due never = record {
    rising = due.rising;
    exact = λ e. (
      λ i. let n = (due.exact e).0 i in noted_at p (suc p) e.position e.length (omega (arith, n.swept_by)) n,
      λ n. go e n (ℕ_discrete e.position p),
    );
  }
    where
      go : (e : Entry L) → Noted s (suc p) v e.position e.length → Dec (e.position ≡ p) → In e es
      go e n (yes d) = absurd (never e.length (subst (λ q. Noted s (suc p) v q e.length) d n))
      go e n (no d) = (due.exact e).1 (noted_at (suc p) p e.position e.length (omega (arith, n.swept_by)) n)

  -- a place that is due to note position p gets it at the end of its sketch
  pub due_more : (p : ℕ) (d : L) (es : List (Entry L)) → Due s p v es → Noted s (suc p) v p d →
      Due s (suc p) v (es ++ record { position = p; length = d } ∷ [])
  due_more p d es due n = record {
    rising = subst Rising (sym (positions es)) (ordered_push (λ a b. a < b) (map (λ e. e.position) es) p due.rising
        (all_from_in (λ q. q < p) _ (λ q i.
        let r = map_in (λ e. e.position) q es i in
        omega (arith, r.2, ((due.exact r.0).0 r.1).swept_by))));
    exact = λ e. (
      λ i. ⊎_elim
          (λ j. let o = (due.exact e).0 j in noted_at p (suc p) e.position e.length (omega (arith, o.swept_by)) o)
          (⊎_elim (λ same. subst (λ x. Noted s (suc p) v x.position x.length) (sym same) n) absurd)
          (in_cases e es (new ∷ []) i),
      λ o. go e o (ℕ_discrete e.position p),
    );
  }
    where
      new : Entry L
      new = record { position = p; length = d }

      positions : (xs : List (Entry L)) → map (λ e. e.position) (xs ++ new ∷ []) ≡ map (λ e. e.position) xs ++ p ∷ []
      positions [] = refl
      positions (x ∷ xs) = ap (λ zs. x.position ∷ zs) (positions xs)

      go : (e : Entry L) → Noted s (suc p) v e.position e.length → Dec (e.position ≡ p) → In e (es ++ new ∷ [])
      go e o (no q) = in_left e es (new ∷ []) ((due.exact e).1 (noted_at (suc p) p e.position e.length (omega (arith, o.swept_by)) o))
      go e o (yes q) =
          let far = least_once s.measure s.map v (place_at s p) e.length d
          (subst (λ x. Least s.measure s.map v (place_at s x) e.length) q o.least) n.least in
          in_right e es (new ∷ []) (inl (λ i. record { position = q i; length = far i }))

  -- only one sketch is due
  pub one_is_due : (swept : ℕ) (es fs : List (Entry L)) → Due s swept v es → Due s swept v fs → es ≡ fs
  one_is_due swept es fs due also = same_ordered Earlier (λ a b h k. omega arith) es fs (by_position es due.rising) (by_position fs also.rising)
      (λ e i. (also.exact e).1 ((due.exact e).0 i)) (λ e i. (due.exact e).1 ((also.exact e).0 i))

  -- without an entry at position p, a sketch was due before p was swept
  pub due_without : (p : ℕ) (es : List (Entry L)) → Due s (suc p) v es → ((d : L) → ¬ In (record { position = p; length = d }) es) → Due s p v es
  due_without p es due none = subst (λ xs. Due s p v xs)
      (kept_all (λ e. ltb e.position p) es (all_from_in (λ e. T (ltb e.position p)) es (λ e i. lt→ltb _ _ (lower e i (ℕ_discrete e.position p)))))
      (due_before (suc p) p es (omega arith) due)
    where
      lower : (e : Entry L) → In e es → Dec (e.position ≡ p) → e.position < p
      lower e i (yes same) = absurd (none e.length (subst (λ x. In x es) (λ j. record { position = same j; length = e.length }) i))
      lower e i (no other) = omega (arith, ((due.exact e).0 i).swept_by)

  -- and so was one that had it at its end
  pub due_without_last : (p : ℕ) (d : L) (es : List (Entry L)) → Due s (suc p) v (es ++ record { position = p; length = d } ∷ []) → Due s p v es
  due_without_last p d es due = subst (λ xs. Due s p v xs) cut (due_before (suc p) p (es ++ last ∷ []) (omega arith) due)
    where
      last : Entry L
      last = record { position = p; length = d }

      low : AllByRecursion (λ e. T (ltb e.position p)) es
      low = all_from_in (λ e. T (ltb e.position p)) es (λ e i. lt→ltb _ _ (all_in (λ x. x.position < p) es (ordered_front Earlier es last (by_position (es ++ last ∷ []) due.rising)) e i))

      dropped : (b : Bool) → ¬ T b → cond b (last ∷ []) [] ≡ []
      dropped true n = absurd (n tt)
      dropped false n = refl

      cut : entries_before p (es ++ last ∷ []) ≡ es
      cut =
          filter-append (λ e. ltb e.position p) es (last ∷ [])
          ∙ ap (λ xs. entries_before p es ++ xs) (dropped (ltb p p) (λ b. let h = ltb→lt p p b in omega arith))
          ∙ append-nil (entries_before p es)
          ∙ kept_all (λ e. ltb e.position p) es low

  -- before any place is swept, nothing is due
  pub none_due : Due s 0 v []
  none_due = record { rising = tt; exact = λ e. (λ i. absurd i, λ n. absurd (omega (arith, n.swept_by))) }
