-- Counting the entries of a sketch is counting the places that lie near.
use Rattle.std.proofs.Common.{◌≡◌, ℕ, zero, suc, ◌<◌, ◌≤◌, min, not, T, eqb, ltb, List, [], ◌∷◌, map, length, sym, subst, arith, ltb→lt}
use native.Mathlib.Decide.{dec_lt}
use lib.ListN.{length-map}
use Rattle.std.specs.List.{AllByRecursion}
use Rattle.measure.specs.Laws.{OrderedMonoid}
use Rattle.graph.specs.Members.{In}
use Rattle.graph.specs.Ways.{Least}
use Rattle.graph.proofs.Lists.{all_in, all_from_in}
use Rattle.graph.proofs.LeastWays.{least_within, within_least, within_more}
use Rattle.bottom_k.specs.Sketches.{Setting, Entry, Near, NearBefore, FewerNear, ManyNear, Noted, Due, place_at, entries_within, entries_before}
use Rattle.bottom_k.proofs.Members.{kept_in, kept_of_kept, kept_of_fewer, map_in}
use Rattle.bottom_k.proofs.Apart.{dec_in, apart_kept, apart_rising, without, without_in, without_shorter}
use Rattle.bottom_k.proofs.DueSketches.{rising_kept, due_before}

-- what lies within d lies within any t at least d
pub near_more : {L : Type 0} (s : Setting L) (v p : ℕ) (d t : L) → T (s.measure.at_most d t) → (qs : List ℕ) → NearBefore s v p d qs → NearBefore s v p t qs
near_more s v p d t h qs near = (
  near.0,
  all_from_in (λ q. (q < p) × Near s v q t) qs (λ q i.
      let o = all_in (λ r. (r < p) × Near s v r d) qs near.1 q i in
      (o.0, within_more s.measure s.map v (place_at s q) d t h o.1)),
)

module _ {L : Type 0} (s : Setting L) (swept v : ℕ) (es : List (Entry L)) (due : Due s swept v es) where
  -- the positions that a sketch notes within t differ, are swept, and lie within t
  pub noted_near : (t : L) → NearBefore s v swept t (map (λ e. e.position) (entries_within s.measure t es))
  noted_near t = (
    apart_rising _ (rising_kept (λ e. s.measure.at_most e.length t) es due.rising),
    all_from_in (λ q. (q < swept) × Near s v q t) _ (λ q i.
        let r = map_in (λ e. e.position) q (entries_within s.measure t es) i in
        let k = kept_in (λ e. s.measure.at_most e.length t) r.0 es r.1 in
        let n = (due.exact r.0).0 k.0 in (
          omega (arith, r.2, n.swept_by),
          within_least s.measure s.map v (place_at s q) r.0.length t k.1
              (subst (λ x. Least s.measure s.map v (place_at s x) r.0.length) (sym r.2) n.least),
        )),
  )

  -- where fewer than k lie within t, the sketch has fewer than k entries within any d at most t
  pub few_within : (d t : L) → T (s.measure.at_most d t) → FewerNear s v swept t → length (entries_within s.measure d es) < s.k
  few_within d t h few =
      let entries = entries_within s.measure d es in
      let qs = map (λ e. e.position) entries in
      omega (arith, few qs (near_more s v swept d t h qs (noted_near d)), length-map entries (λ e. e.position))

module _ {L : Type 0} (s : Setting L) (v : ℕ) where
  -- of different swept places within t, a sketch notes all within t, or k
  pub enough_noted : (swept : ℕ) (es : List (Entry L)) → Due s swept v es → (t : L) (qs : List ℕ) → NearBefore s v swept t qs →
      min s.k (length qs) ≤ length (entries_within s.measure t es)
  enough_noted zero es due t [] near = omega arith
  enough_noted zero es due t (q ∷ qs) near = absurd (omega (arith, near.1.0.0))
  enough_noted (suc p) es due t qs near = go (dec_in p qs) (enough_noted p earlier (due_before s v (suc p) p es (omega arith) due) t)
    where
      earlier : List (Entry L)
      earlier = entries_before p es

      m : OrderedMonoid L
      m = s.measure

      Known : Type 0
      Known = (rs : List ℕ) → NearBefore s v p t rs → min s.k (length rs) ≤ length (entries_within m t earlier)

      fewer_before : length (entries_within m t earlier) ≤ length (entries_within m t es)
      fewer_before = kept_of_kept (λ e. m.at_most e.length t) (λ e. ltb e.position p) es

      -- p is noted where fewer than k are noted before it
      grows : Known → length (entries_within m t earlier) < s.k → Near s v p t → length (entries_within m t earlier) < length (entries_within m t es)
      grows known few here =
          let l = least_within m s.map v (place_at s p) t here in
          let n : Noted s (suc p) v p l.0 = record {
            swept_by = omega arith;
            least = l.1;
            fewer = λ rs k. let x = known rs (near_more s v p l.0 t l.2 rs k) in omega arith;
          } in
          kept_of_fewer (λ e. m.at_most e.length t) (λ e. ltb e.position p) (record { position = p; length = l.0 }) es
          ((due.exact (record { position = p; length = l.0 })).1 n) l.2 (λ b. let c = ltb→lt p p b in omega arith)

      count : Known → Near s v p t → min s.k (length (without p qs)) ≤ length (entries_within m t earlier) → Dec (length (entries_within m t earlier) < s.k) →
          min s.k (length qs) ≤ length (entries_within m t es)
      count known here k (yes few) = omega (arith, grows known few here, without_shorter p qs near.0)
      count known here k (no many) = omega (arith, fewer_before)

      go : Dec (In p qs) → Known → min s.k (length qs) ≤ length (entries_within m t es)
      go (no out) known =
          let lower : AllByRecursion (λ q. (q < p) × Near s v q t) qs = all_from_in (λ q. (q < p) × Near s v q t) qs (λ q i.
          let o = all_in (λ r. (r < suc p) × Near s v r t) qs near.1 q i in
          let d : ¬ (q ≡ p) = λ e. out (subst (λ z. In z qs) e i) in
          (omega (arith, o.0), o.1)) in
          omega (arith, known qs (near.0, lower), fewer_before)
      go (yes i) known =
          let rest = without p qs in
          let lower : AllByRecursion (λ q. (q < p) × Near s v q t) rest = all_from_in (λ q. (q < p) × Near s v q t) rest (λ q j.
          let w = without_in q p qs j in
          let o = all_in (λ r. (r < suc p) × Near s v r t) qs near.1 q w.0 in
          let d = w.1 in
          (omega (arith, o.0), o.1)) in
          count known (all_in (λ r. (r < suc p) × Near s v r t) qs near.1 p i).1 (known rest (apart_kept (λ q. not (eqb q p)) qs near.0, lower))
          (dec_lt (length (entries_within m t earlier)) s.k)

  -- k or more entries within t are noted just if k or more swept places lie within t
  pub many_if_noted : (swept : ℕ) (es : List (Entry L)) → Due s swept v es → (t : L) → s.k ≤ length (entries_within s.measure t es) → ManyNear s v swept t
  many_if_noted swept es due t many =
      let entries = entries_within s.measure t es in
      (map (λ e. e.position) entries, noted_near s swept v es due t, omega (arith, length-map entries (λ e. e.position)))

  pub noted_if_many : (swept : ℕ) (es : List (Entry L)) → Due s swept v es → (t : L) → ManyNear s v swept t → s.k ≤ length (entries_within s.measure t es)
  noted_if_many swept es due t many = omega (arith, many.2, enough_noted swept es due t many.0 many.1)
