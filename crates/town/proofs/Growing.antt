-- The tables still fit one another when a place or an arc is added.
use Rattle.std.proofs.Common.{◌≡◌, ℕ, zero, suc, ◌+◌, ◌<◌, ◌≤◌, List, [], ◌∷◌, ◌++◌, length, get_or, set, vec_items, vec_len, sym, refl, ap, ◌∙◌, subst, ⊎_elim, arith, length-set}
use lib.ListN.{length-map}
use Rattle.std.proofs.lemmas.List.{length_push, get_or_read_under, get_or_push, get_or_append_left, get_or-set_same, get_or-set_other, map_push}
use Rattle.std.proofs.lemmas.Bool.{cases_lt, cond-true, cond-false, eq-eqb, ne_eqb}
use Rattle.town_record.specs.declared.arc_row.ArcRow.{ArcRow}
use Rattle.town_record.specs.declared.name.Name.{Name}
use Rattle.town.specs.declared.tables.Span.{Span}
use Rattle.town.specs.declared.tables.Tables.{Tables}
use Rattle.town.specs.Index.{froms, tos, empty_span, first, count, longer, Below}
use Rattle.town.specs.Holds.{Sound, so_far}
use Rattle.town.proofs.Spans.{Spanning, longer_spanning}

-- a place with no arcs changes no span
span_of_more : (spans : List Span) (w : ℕ) → get_or (spans ++ empty_span ∷ []) w empty_span ≡ get_or spans w empty_span
span_of_more [] zero = refl
span_of_more [] (suc w) = refl
span_of_more (s ∷ spans) zero = refl
span_of_more (s ∷ spans) (suc w) = span_of_more spans w

-- the numbers of a list, and one more
below_more : (xs : List ℕ) (x n : ℕ) → Below xs n → x < n → Below (xs ++ x ∷ []) n
below_more xs x n all h j l = ⊎_elim
    (λ low. subst (λ v. v < n) (sym (get_or_append_left xs (x ∷ []) 0 j low)) (all j low))
    (λ high. subst (λ v. v < n) (sym (get_or_push xs x 0 j (omega (arith, length_push xs x)))) h)
    (cases_lt j (length xs))

module _ {L : Type 0} (t : Tables L) where
  pub arcs_long : length (tos (vec_items t.arcs)) ≡ vec_len t.arcs
  arcs_long = length-map (vec_items t.arcs) (λ a. a.to) ∙ sym t.arcs.ok.0

  spanning : Sound t → Spanning (first (vec_items t.spans)) (count (vec_items t.spans)) (λ j. get_or (tos (vec_items t.arcs)) j 0) (vec_len t.arcs)
  spanning s = record {
    ends = λ w. let e = arcs_long in let h = s.ends w in omega arith;
    arrive = s.arrive;
    begun = λ j h. s.begun j (let e = arcs_long in omega arith);
    not_past = λ j h. s.not_past j (let e = arcs_long in omega arith);
    rising = s.rising;
  }

  fitting : vec_len t.names ≡ vec_len t.ranks → vec_len t.spans ≡ vec_len t.ranks → Below (froms (vec_items t.arcs)) (vec_len t.ranks) →
      Spanning (first (vec_items t.spans)) (count (vec_items t.spans)) (λ j. get_or (tos (vec_items t.arcs)) j 0) (vec_len t.arcs) → Sound t
  fitting names spans inside s = record {
    named = names;
    spanned = spans;
    inside = inside;
    ends = λ w. let e = arcs_long in let h = s.ends w in omega arith;
    arrive = s.arrive;
    begun = λ j h. s.begun j (let e = arcs_long in omega arith);
    not_past = λ j h. s.not_past j (let e = arcs_long in omega arith);
    rising = s.rising;
  }

-- another table with the same elements and one more is longer by one
pub one_longer : {X : Type 0} (m n : ℕ) (xs ys : List X) (x : X) → n ≡ length ys → m ≡ length xs → ys ≡ xs ++ x ∷ [] → n ≡ m + 1
one_longer m n xs ys x e d is = omega (arith, ap length is, length_push xs x)

module _ {L : Type 0} (t u : Tables L) (s : Sound t) where
  pub sound_place : (rank : ℕ) (name : Name) → vec_items u.ranks ≡ vec_items t.ranks ++ rank ∷ [] → vec_items u.names ≡ vec_items t.names ++ name ∷ [] →
      vec_items u.spans ≡ vec_items t.spans ++ empty_span ∷ [] → u.arcs ≡ t.arcs → Sound u
  sound_place rank name ranks names spans arcs =
      let r = one_longer (vec_len t.ranks) (vec_len u.ranks) (vec_items t.ranks) (vec_items u.ranks) rank u.ranks.ok.0 t.ranks.ok.0 ranks in
      let n = one_longer (vec_len t.names) (vec_len u.names) (vec_items t.names) (vec_items u.names) name u.names.ok.0 t.names.ok.0 names in
      let p = one_longer (vec_len t.spans) (vec_len u.spans) (vec_items t.spans) (vec_items u.spans) empty_span u.spans.ok.0 t.spans.ok.0 spans in
      let a = s.named in
      let b = s.spanned in
      let same : (w : ℕ) → get_or (vec_items t.spans) w empty_span ≡ get_or (vec_items u.spans) w empty_span = λ w. sym (ap (λ xs. get_or xs w empty_span) spans ∙ span_of_more (vec_items t.spans) w) in
      fitting u (omega arith) (omega arith)
      (λ j h.
      let was = s.inside j (subst (λ v. j < length (froms (vec_items v))) arcs h) in
      subst (λ v. get_or (froms (vec_items v)) j 0 < vec_len u.ranks) (sym arcs) (omega arith))
      (moved same (subst (λ v. Spanning (first (vec_items t.spans)) (count (vec_items t.spans)) (λ j. get_or (tos (vec_items v)) j 0) (vec_len v)) (sym arcs) (spanning t s)))
    where
      moved : ((w : ℕ) → get_or (vec_items t.spans) w empty_span ≡ get_or (vec_items u.spans) w empty_span) →
          Spanning (first (vec_items t.spans)) (count (vec_items t.spans)) (λ j. get_or (tos (vec_items u.arcs)) j 0) (vec_len u.arcs) →
          Spanning (first (vec_items u.spans)) (count (vec_items u.spans)) (λ j. get_or (tos (vec_items u.arcs)) j 0) (vec_len u.arcs)
      moved same g = record {
        ends = λ w. subst (λ x. x.first + x.count ≤ vec_len u.arcs) (same w) (g.ends w);
        arrive = λ w i. subst (λ x. i < x.count → get_or (tos (vec_items u.arcs)) (x.first + i) 0 ≡ w) (same w) (g.arrive w i);
        begun = λ j h. subst (λ x. x.first ≤ j) (same (get_or (tos (vec_items u.arcs)) j 0)) (g.begun j h);
        not_past = λ j h. subst (λ x. j < x.first + x.count) (same (get_or (tos (vec_items u.arcs)) j 0)) (g.not_past j h);
        rising = g.rising;
      }

  pub sound_arc : (a : ArcRow L) (to n : ℕ) (was now : Span) → to ≡ a.to → n ≡ vec_len t.arcs → was ≡ get_or (vec_items t.spans) to was → now ≡ longer was n →
      vec_items u.spans ≡ set (vec_items t.spans) to now →
      vec_items u.arcs ≡ vec_items t.arcs ++ a ∷ [] → u.ranks ≡ t.ranks → u.names ≡ t.names →
      a.from < vec_len t.ranks → a.to < vec_len t.ranks → (so_far t).last_to ≤ a.to → Sound u
  sound_arc a place count_of_arcs was now here all is-was is-now put arcs ranks names from to order =
      let S = vec_items t.spans in
      let n = vec_len t.arcs in
      let read = get_or_read_under S place (vec_len t.spans) was empty_span is-was (let e = s.spanned in omega arith) t.spans.ok.0 in
      let spans : vec_items u.spans ≡ set S a.to (longer (get_or S a.to empty_span) n) =
      put ∙ (λ i. set S (here i) (is-now i)) ∙ (λ i. set S a.to (longer (read i) (all i))) ∙ ap (λ k. set S a.to (longer (get_or S k empty_span) n)) here in
      let ts = tos (vec_items t.arcs) in
      let r : vec_len u.ranks ≡ vec_len t.ranks = ap (λ v. vec_len v) ranks in
      let m : vec_len u.names ≡ vec_len t.names = ap (λ v. vec_len v) names in
      let p : vec_len u.spans ≡ vec_len t.spans = u.spans.ok.0 ∙ ap length spans ∙ length-set S a.to _ ∙ sym t.spans.ok.0 in
      let x = s.named in
      let y = s.spanned in
      let in_s : a.to < length S = let o = t.spans.ok.0 in omega arith in
      let more : tos (vec_items u.arcs) ≡ ts ++ a.to ∷ [] = ap tos arcs ∙ map_push (λ b. b.to) (vec_items t.arcs) a in
      let more-from : froms (vec_items u.arcs) ≡ froms (vec_items t.arcs) ++ a.from ∷ [] = ap froms arcs ∙ map_push (λ b. b.from) (vec_items t.arcs) a in
      let long : vec_len u.arcs ≡ n + 1 = one_longer n (vec_len u.arcs) (vec_items t.arcs) (vec_items u.arcs) a u.arcs.ok.0 t.arcs.ok.0 arcs in
      let here : get_or (vec_items u.spans) a.to empty_span ≡ longer (get_or S a.to empty_span) n = ap (λ xs. get_or xs a.to empty_span) spans ∙ get_or-set_same S a.to _ empty_span in_s in
      let else : (w : ℕ) → (w ≡ a.to → ⊥) → get_or (vec_items u.spans) w empty_span ≡ get_or S w empty_span = λ w d. ap (λ xs. get_or xs w empty_span) spans ∙ get_or-set_other S a.to w _ empty_span d in
      fitting u (omega arith) (omega arith)
      (subst (λ k. Below (froms (vec_items u.arcs)) k) (sym r)
      (subst (λ xs. Below xs (vec_len t.ranks)) (sym more-from) (below_more (froms (vec_items t.arcs)) a.from (vec_len t.ranks) s.inside from)))
      (subst (λ k. Spanning (first (vec_items u.spans)) (count (vec_items u.spans)) (λ j. get_or (tos (vec_items u.arcs)) j 0) k) (sym long)
      (longer_spanning (first S) (count S) (λ j. get_or ts j 0) (first (vec_items u.spans)) (count (vec_items u.spans)) (λ j. get_or (tos (vec_items u.arcs)) j 0) n a.to (spanning t s)
      (record {
        order = order;
        first_else = λ w d. ap (λ z. z.first) (else w d);
        count_else = λ w d. ap (λ z. z.count) (else w d);
        count_here = ap (λ z. z.count) here;
        first_new = λ e. ap (λ z. z.first) here ∙ cond-true _ _ _ (eq-eqb _ _ e);
        first_kept = λ h. ap (λ z. z.first) here ∙ cond-false _ _ _ (ne_eqb (count S a.to) 0 (λ e. omega arith));
        old = λ j h. ap (λ xs. get_or xs j 0) more ∙ get_or_append_left ts (a.to ∷ []) 0 j (let e = arcs_long t in omega arith);
        new = ap (λ xs. get_or xs n 0) more ∙ get_or_push ts a.to 0 n (arcs_long t);
      })))
