-- One more place taken out, and what it makes of those before it.
use Rattle.std.proofs.Common.{◌≡◌, ℕ, ◌+◌, ◌<◌, ◌≤◌, true, false, ◌⊎◌, List, length, get_or, set, is_some, Some, None, Option, sym, ap, ◌∙◌, subst, inl, inr, ⊎_elim, arith}
use Rattle.std.proofs.lemmas.List.{get_or-set_same, get_or-set_other}
use Rattle.std.proofs.lemmas.Bool.{cases_eq, cases_lt}
use Rattle.std.proofs.lemmas.Bool.Decides.{eqb_tells}
use Rattle.measure.specs.Orders.{TotalOrder}
use Rattle.heap.specs.declared.indexed_heap.IndexedHeap.{IndexedHeap}
use Rattle.heap.specs.Changes.{Least, Removed, With}
use Rattle.heap.specs.Content.{Ordered, content, size}
use Rattle.heap.specs.Drained.{Drained, HandsOutAll, Rising}
use Rattle.heap.proofs.Contents.{none_from_size}
use Rattle.heap.proofs.Steps.{reflexive}

module _ {K : Type 0} where
  not_none : (x : Option K) (k : K) → x ≡ Some k → x ≡ None → ⊥
  not_none x k e f = let z : ◌≡◌ {A = ℕ} 0 1 = cc in omega arith

  same_key : (x : Option K) (a b : K) → x ≡ Some a → x ≡ Some b → a ≡ b
  same_key x a b e f = cc

  -- once nothing is left, all has been handed out
  pub all_from_none : (before after : ℕ → Option K) (places : List ℕ) (count : ℕ) → Drained before places count after
      → ((p : ℕ) → after p ≡ None) → HandsOutAll before places count
  all_from_none before after places count d none p t =
      ⊎_elim
      (λ a. a)
      (λ e. absurd (let x : is_some (before p) ≡ false = ap is_some (sym e ∙ none p) in let y : true ≡ false = cc in grind arith))
      (d.kept p)

  module _ (before middle after : ℕ → Option K) (places : List ℕ) (count place : ℕ) (key : K)
      (room : count < length places) (was : middle place ≡ Some key) (rest : With middle place None after)
      (d : Drained before places count middle) where
    abbrev more : List ℕ
    more = set places count place

    here : get_or more count 0 ≡ place
    here = get_or-set_same places count place 0 room

    earlier : (i : ℕ) → i < count → get_or more i 0 ≡ get_or places i 0
    earlier i l = get_or-set_other places count i place 0 (λ e. omega arith)

    -- a place taken out before is another one
    apart : (i : ℕ) → i < count → get_or places i 0 ≡ place → ⊥
    apart i l e = not_none (middle place) key was (ap middle (sym e) ∙ d.gone i l)

    -- it was held from the beginning
    was_before : before place ≡ Some key
    was_before =
        ⊎_elim
        (λ a. absurd (apart a.0 a.1.0 a.1.1))
        (λ e. sym e ∙ was)
        (d.kept place)

    after_here : after place ≡ None
    after_here = let r = rest place in let t = eqb_tells place place in grind arith

    after_other : (p : ℕ) → (p ≡ place → ⊥) → after p ≡ middle p
    after_other p ne = let r = rest p in let t = eqb_tells p place in grind arith

    last_or_earlier : (i : ℕ) → i < count + 1 → (i ≡ count) ⊎ (i < count)
    last_or_earlier i l = ⊎_elim (λ h. inr h) (λ h. inl (omega arith)) (cases_lt i count)

    pub drained_more : Drained before more (count + 1) after
    drained_more = record {
      held = λ i l.
          ⊎_elim
          (λ e. ap (λ j. is_some (before (get_or more j 0))) e ∙ ap (λ p. is_some (before p)) here ∙ ap is_some was_before)
          (λ h. ap (λ p. is_some (before p)) (earlier i h) ∙ d.held i h)
          (last_or_earlier i l);
      once = λ i j l m e.
          let x = here in
          let li = last_or_earlier i l in
          let lj = last_or_earlier j m in
          let ei = earlier i in
          let ej = earlier j in
          let ai = apart i in
          let aj = apart j in
          let o = d.once i j in
          grind arith;
      gone = λ i l.
          ⊎_elim
          (λ e. ap (λ j. after (get_or more j 0)) e ∙ ap after here ∙ after_here)
          (λ h. ap after (earlier i h) ∙ after_other (get_or places i 0) (apart i h) ∙ d.gone i h)
          (last_or_earlier i l);
      kept = λ p.
          ⊎_elim
          (λ e. inl (count, (omega arith, here ∙ sym e)))
          (λ ne.
          ⊎_elim
          (λ a. inl (a.0, (omega (arith, a.1.0), earlier a.0 a.1.0 ∙ a.1.1)))
          (λ e. inr (after_other p ne ∙ e))
          (d.kept p))
          (cases_eq p place);
    }

    pub rising_more : (o : TotalOrder K) → Least o middle key → Rising o before places count middle
        → Rising o before more (count + 1) after
    rising_more o least r = record {
      along = λ i j a b l m x y.
          let w = was_before in
          let x' : get_or more i 0 ≡ place → a ≡ key = λ e. same_key (before place) a key (ap before (sym e) ∙ x) w in
          let y' : get_or more j 0 ≡ place → b ≡ key = λ e. same_key (before place) b key (ap before (sym e) ∙ y) w in
          ⊎_elim
          (λ e.
          let bk : b ≡ key = y' (ap (λ n. get_or more n 0) e ∙ here) in
          ⊎_elim
          (λ f. let ak : a ≡ key = x' (ap (λ n. get_or more n 0) f ∙ here) in let q = reflexive o key in grind arith)
          (λ f. let q = r.ahead i place a key f (ap before (sym (earlier i f)) ∙ x) was in grind arith)
          (last_or_earlier i (omega arith)))
          (λ f.
          let g : i < count = omega arith in
          r.along i j a b l f (ap before (sym (earlier i g)) ∙ x) (ap before (sym (earlier j f)) ∙ y))
          (last_or_earlier j m);
      ahead = λ i p a b l x y.
          let ne : p ≡ place → ⊥ = λ e. not_none (after place) b (ap after (sym e) ∙ y) after_here in
          let z : middle p ≡ Some b = sym (after_other p ne) ∙ y in
          ⊎_elim
          (λ e.
          let ak : a ≡ key = same_key (before place) a key (ap before (sym (ap (λ n. get_or more n 0) e ∙ here)) ∙ x) was_before in
          let q = least p b z in
          grind arith)
          (λ f. r.ahead i p a b f (ap before (sym (earlier i f)) ∙ x) z)
          (last_or_earlier i l);
    }

module _ {K : Type 0} (o : TotalOrder K) (before middle after : IndexedHeap K) (places : List ℕ) (count : ℕ) where
  -- one more place is taken out and written behind the others
  pub drained_next : (place : ℕ) (key : K) → count < length places → Removed o middle place key after
      → Drained (content before) places count (content middle) → Drained (content before) (set places count place) (count + 1) (content after)
  drained_next place key room r = drained_more (content before) (content middle) (content after) places count place key room r.held r.rest

  pub rising_next : (place : ℕ) (key : K) → count < length places → Removed o middle place key after → Ordered o middle
      → Drained (content before) places count (content middle) → Rising o (content before) places count (content middle)
      → Rising o (content before) (set places count place) (count + 1) (content after)
  rising_next place key room r ordered d =
      rising_more (content before) (content middle) (content after) places count place key room r.held r.rest d o (r.least ordered)

-- as many places as were held are all that were held
module _ {K : Type 0} (before after : IndexedHeap K) (places : List ℕ) (count : ℕ) where
  pub all_handed_out : (n : ℕ) → Drained (content before) places count (content after) → size after + count ≡ size before
      → count ≡ n → size before ≤ n → HandsOutAll (content before) places n
  all_handed_out n d left e fits =
      subst (HandsOutAll (content before) places) e
      (all_from_none (content before) (content after) places count d (none_from_size after (omega arith)))
