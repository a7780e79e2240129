-- The spans of the places as arcs are added, over plain functions: where the arcs of a place begin, how many they are,
-- and where each arc arrives.
use Rattle.std.proofs.Common.{◌≡◌, ℕ, ◌+◌, ◌-◌, ◌<◌, ◌≤◌, sym, ap, ◌∙◌, subst, ⊎_elim, arith}
use Rattle.std.proofs.lemmas.Bool.{cases_lt, cases_eq}

-- the n arcs of a table stand in the spans of the places where they arrive, and these never fall
pub record Spanning (F C T : ℕ → ℕ) (n : ℕ) : Type 0 where
  pub ends : (w : ℕ) → F w + C w ≤ n
  pub arrive : (w i : ℕ) → i < C w → T (F w + i) ≡ w
  pub begun : (j : ℕ) → j < n → F (T j) ≤ j
  pub not_past : (j : ℕ) → j < n → j < F (T j) + C (T j)
  pub rising : (j : ℕ) → j < n → T j ≤ T (n - 1)

-- one arc more, arriving at t, not below the last
pub record Longer (F C T F' C' T' : ℕ → ℕ) (n t : ℕ) : Type 0 where
  pub order : T (n - 1) ≤ t
  pub first_else : (w : ℕ) → (w ≡ t → ⊥) → F' w ≡ F w
  pub count_else : (w : ℕ) → (w ≡ t → ⊥) → C' w ≡ C w
  pub count_here : C' t ≡ C t + 1
  pub first_new : C t ≡ 0 → F' t ≡ n
  pub first_kept : 0 < C t → F' t ≡ F t
  pub old : (j : ℕ) → j < n → T' j ≡ T j
  pub new : T' n ≡ t

module _ (F C T F' C' T' : ℕ → ℕ) (n t : ℕ) (s : Spanning F C T n) (l : Longer F C T F' C' T' n t) where
  -- a span that has arcs ends where the table does
  to_the_end : 0 < C t → F t + C t ≡ n
  to_the_end some =
      let e = s.ends t in
      let at = s.arrive t (C t - 1) (omega arith) in
      let inside : F t + (C t - 1) < n = omega arith in
      let high = s.rising (F t + (C t - 1)) inside in
      let o = l.order in
      let last : T (n - 1) ≡ t = omega arith in
      let past = s.not_past (n - 1) (omega arith) in
      let past' : n - 1 < F t + C t = subst (λ w. n - 1 < F w + C w) last past in
      omega arith

  new_end : F' t + C t ≡ n
  new_end = ⊎_elim
      (λ some. let f = l.first_kept some in let e = to_the_end some in omega arith)
      (λ none. let f = l.first_new (omega arith) in omega arith)
      (cases_lt 0 (C t))

  longer_ends : (w : ℕ) → F' w + C' w ≤ n + 1
  longer_ends w = ⊎_elim
      (λ e. subst (λ v. F' v + C' v ≤ n + 1) (sym e) (let k = new_end in let c = l.count_here in omega arith))
      (λ d. let f = l.first_else w d in let c = l.count_else w d in let h = s.ends w in omega arith)
      (cases_eq w t)

  longer_arrive : (w i : ℕ) → i < C' w → T' (F' w + i) ≡ w
  longer_arrive w i h = ⊎_elim
      (λ e. subst (λ v. i < C' v → T' (F' v + i) ≡ v) (sym e) here h)
      (λ d.
      let f = l.first_else w d in
      let c = l.count_else w d in
      let k = s.ends w in
      let inside : F w + i < n = omega arith in
      ap (λ x. T' (x + i)) f ∙ l.old (F w + i) inside ∙ s.arrive w i (omega arith))
      (cases_eq w t)
    where
      here : i < C' t → T' (F' t + i) ≡ t
      here g =
          let c = l.count_here in
          let k = new_end in
          ⊎_elim
          (λ low.
          let f = l.first_kept (omega arith) in
          let z = to_the_end (omega arith) in
          ap (λ x. T' (x + i)) f ∙ l.old (F t + i) (omega arith) ∙ s.arrive t i low)
          (λ high. let e : F' t + i ≡ n = omega arith in ap T' e ∙ l.new)
          (cases_lt i (C t))

  longer_begun : (j : ℕ) → j < n + 1 → F' (T' j) ≤ j
  longer_begun j h = ⊎_elim
      (λ low.
      let was = s.begun j low in
      let past = s.not_past j low in
      subst (λ v. F' v ≤ j) (sym (l.old j low))
      (⊎_elim
      (λ e.
      let w' : F t ≤ j = subst (λ v. F v ≤ j) e was in
      let p' : j < F t + C t = subst (λ v. j < F v + C v) e past in
      subst (λ v. F' v ≤ j) (sym e) (let f = l.first_kept (omega arith) in omega arith))
      (λ d. let f = l.first_else (T j) d in omega arith)
      (cases_eq (T j) t)))
      (λ high. let e : j ≡ n = omega arith in subst (λ v. F' v ≤ j) (sym (ap T' e ∙ l.new)) (let k = new_end in omega arith))
      (cases_lt j n)

  longer_not_past : (j : ℕ) → j < n + 1 → j < F' (T' j) + C' (T' j)
  longer_not_past j h = ⊎_elim
      (λ low.
      let past = s.not_past j low in
      subst (λ v. j < F' v + C' v) (sym (l.old j low))
      (⊎_elim
      (λ e.
      let p' : j < F t + C t = subst (λ v. j < F v + C v) e past in
      subst (λ v. j < F' v + C' v) (sym e) (let k = new_end in let c = l.count_here in omega arith))
      (λ d. let f = l.first_else (T j) d in let c = l.count_else (T j) d in omega arith)
      (cases_eq (T j) t)))
      (λ high.
      let e : j ≡ n = omega arith in
      subst (λ v. j < F' v + C' v) (sym (ap T' e ∙ l.new)) (let k = new_end in let c = l.count_here in omega arith))
      (cases_lt j n)

  longer_rising : (j : ℕ) → j < n + 1 → T' j ≤ T' n
  longer_rising j h = ⊎_elim
      (λ low. let a = l.old j low in let b = s.rising j low in let o = l.order in let z = l.new in omega arith)
      (λ high. let e : j ≡ n = omega arith in let z = ap T' e in omega arith)
      (cases_lt j n)

  pub longer_spanning : Spanning F' C' T' (n + 1)
  longer_spanning = record {
    ends = longer_ends;
    arrive = longer_arrive;
    begun = longer_begun;
    not_past = longer_not_past;
    rising = λ j h. let e : n + 1 - 1 ≡ n = omega arith in subst (λ k. T' j ≤ T' k) (sym e) (longer_rising j h);
  }
