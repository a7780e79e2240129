-- The arcs that arrive at a place are those of its span.
use Rattle.std.specs.Prelude.{◌≡◌, ℕ, zero, suc, ◌+◌, ◌-◌, ◌<◌, ◌≤◌, List, [], ◌∷◌, length, take, drop, filter, nat_eq, slice_index, refl}
use Rattle.std.proofs.Common.{ap, subst, ◌∙◌, arith}
use Rattle.std.specs.List.{AllByRecursion}
use Rattle.std.proofs.lemmas.List.{get_or_past, length-map}
use Rattle.std.proofs.lemmas.Bool.{cond-true, cond-false, eq-eqb, ne_eqb}
use Rattle.town_record.specs.declared.arc_row.ArcRow.{ArcRow}
use Rattle.town.specs.declared.tables.Span.{Span}
use Rattle.town.specs.Index.{froms, tos, empty_span, first, count, Below, Ends, Arrive, Begun, NotPast}

-- just the arcs at positions a to a + c - 1 arrive at w
pub record Between {L : Type 0} (arcs : List (ArcRow L)) (w a c : ℕ) : Type 0 where
  pub there : (j : ℕ) → a ≤ j → j < a + c → slice_index (tos arcs) j ≡ w
  pub only : (j : ℕ) → j < length arcs → slice_index (tos arcs) j ≡ w → (a ≤ j) × (j < a + c)

-- arcs that arrive at a place, in the order of the table
abbrev pub arriving_at : {L : Type 0} → ℕ → List (ArcRow L) → List (ArcRow L)
arriving_at w arcs = filter (λ a. nat_eq a.to w) arcs

pub kept_between : {L : Type 0} (arcs : List (ArcRow L)) (w a c : ℕ) → a + c ≤ length arcs → Between arcs w a c → arriving_at w arcs ≡ take c (drop a arcs)
kept_between [] w zero zero fits b = refl
kept_between [] w zero (suc c) fits b = refl
kept_between [] w (suc a) zero fits b = refl
kept_between [] w (suc a) (suc c) fits b = refl
kept_between (x ∷ arcs) w (suc a) c fits b =
    let other : x.to ≡ w → ⊥ = λ e. let h = (b.only 0 (omega arith) e).0 in omega arith in
    cond-false _ _ _ (ne_eqb x.to w other)
    ∙ kept_between arcs w a c (omega arith)
    (record { there = λ j l h. b.there (suc j) (omega arith) (omega arith); only = λ j l e. let h = b.only (suc j) (omega arith) e in (omega (arith, h.0), omega (arith, h.1)) })
kept_between (x ∷ arcs) w zero (suc c) fits b =
    cond-true _ _ _ (eq-eqb x.to w (b.there 0 (omega arith) (omega arith)))
    ∙ ap (λ t. x ∷ t) (kept_between arcs w zero c (omega arith)
    (record { there = λ j l h. b.there (suc j) (omega arith) (omega arith); only = λ j l e. let h = b.only (suc j) (omega arith) e in (omega arith, omega (arith, h.1)) }))
kept_between (x ∷ arcs) w zero zero fits b =
    let other : x.to ≡ w → ⊥ = λ e. let h = (b.only 0 (omega arith) e).1 in omega arith in
    cond-false _ _ _ (ne_eqb x.to w other)
    ∙ kept_between arcs w zero zero (omega arith)
    (record { there = λ j l h. absurd (omega arith); only = λ j l e. let h = b.only (suc j) (omega arith) e in absurd (omega (arith, h.1)) })

module _ {L : Type 0} (spans : List Span) (arcs : List (ArcRow L)) (ends : Ends spans (tos arcs)) (arrive : Arrive spans (tos arcs)) (begun : Begun spans (tos arcs)) (past : NotPast spans (tos arcs)) where
  long : length (tos arcs) ≡ length arcs
  long = length-map arcs (λ a. a.to)

  -- the span of a place has the arcs that arrive there
  pub kept_span : (w : ℕ) → arriving_at w arcs ≡ take (count spans w) (drop (first spans w) arcs)
  kept_span w = kept_between arcs w (first spans w) (count spans w) (let e = ends w in let l = long in omega arith) (record {
    there = λ j l h. let e : first spans w + (j - first spans w) ≡ j = omega arith in subst (λ k. slice_index (tos arcs) k ≡ w) e (arrive w (j - first spans w) (omega arith));
    only = λ j h e.
        let l = long in
        let b = begun j (omega arith) in
        let p = past j (omega arith) in
        (subst (λ v. first spans v ≤ j) e b, subst (λ v. j < first spans v + count spans v) e p);
  })

  -- none arrives at a number that is no place
  pub none_beyond : (w : ℕ) → length spans ≤ w → arriving_at w arcs ≡ []
  none_beyond w h = kept_span w ∙ ap (λ s. take s.count (drop s.first arcs)) (get_or_past spans w empty_span h)

-- from-places below n, arc by arc
pub all_below : {L : Type 0} (arcs : List (ArcRow L)) (n : ℕ) → Below (froms arcs) n → AllByRecursion (λ a. a.from < n) arcs
all_below [] n h = tt
all_below (x ∷ arcs) n h = (h 0 (omega arith), all_below arcs n (λ j l. h (suc j) (omega arith)))
