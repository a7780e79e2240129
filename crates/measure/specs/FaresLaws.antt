-- Fares: zones, 0 to 65,535, and seconds. Compared by zones first, then seconds.
use Rattle.std.specs.Prelude.{◌≡◌, ℕ, ◌+◌, ◌^◌, ◌<◌, ◌≤◌, min, cond, T, nat_lt, refl}
use Rattle.std.proofs.Common.{sym, ap, subst, subst₂, ◌∙◌, ⊎_elim, arith, leb→le, le→leb}
use mathlib.Core.HLevel.{is_prop→PathP}
use Rattle.std.proofs.Math.Bridge.{le_prop}
use Rattle.std.proofs.lemmas.Bool.{cases_lt, cond-true, cond-false, lt-ltb, le-ltb}
use Rattle.measure.specs.Orders.{TotalOrder, number_order, pair_order, pair_tells, pair_told, order_by}
use Rattle.measure.specs.Laws.{OrderedMonoid, RowEncoding}
use Rattle.measure.specs.SecondsLaws.{seconds, same_seconds, seconds_join, seconds_order, seconds_laws}
use Rattle.measure.specs.declared.seconds.Seconds.{Seconds}
use Rattle.measure.specs.declared.fares.Fares.{Fares}
use Rattle.measure.specs.declared.fares_row.FaresRow.{FaresRow}

-- so many zones, held at the largest number, and seconds
abbrev pub fares : ℕ → Seconds → Fares
fares z s = record { zones = min z 65535; seconds = s; fits = omega arith }

-- two fares of as many zones and the same seconds are one
pub same_fares : (a b : Fares) → a.zones ≡ b.zones → a.seconds ≡ b.seconds → a ≡ b
same_fares a b e f = λ i. record {
  zones = e i;
  seconds = f i;
  fits = is_prop→PathP (λ j. e j < 2 ^ 16) (λ j. le_prop) a.fits b.fits i;
}

-- by zones first, then by seconds
abbrev pub fares_order : TotalOrder Fares
fares_order =
    order_by (λ a. (a.zones, a.seconds)) (fares 0 (seconds 0)) (λ a b e. same_fares a b (ap (λ x. x.0) e) (ap (λ x. x.1) e)) (pair_order number_order seconds_order) refl

-- the largest: (65,535; 4,294,967,295)
abbrev pub largest_fares : Fares
largest_fares = fares 65535 (seconds 4294967295)

-- if the sum of zones is above 65,535, the join is the largest; otherwise zones are added and seconds joined
abbrev pub fares_join : Fares → Fares → Fares
fares_join a b = cond (nat_lt 65535 (a.zones + b.zones)) largest_fares (fares (a.zones + b.zones) (seconds_join a.seconds b.seconds))

module _ (a b : Fares) where
  pub over : 65535 < a.zones + b.zones → fares_join a b ≡ largest_fares
  over h = cond-true _ _ _ (lt-ltb 65535 (a.zones + b.zones) h)

  pub under : a.zones + b.zones ≤ 65535 → fares_join a b ≡ fares (a.zones + b.zones) (seconds_join a.seconds b.seconds)
  under h = cond-false _ _ _ (le-ltb 65535 (a.zones + b.zones) h)

-- the zones of a join
joined_zones : (a b : Fares) → (fares_join a b).zones ≡ min (a.zones + b.zones) 65535
joined_zones a b = ⊎_elim
    (λ h. ap (λ x. x.zones) (over a b h) ∙ omega arith)
    (λ h. ap (λ x. x.zones) (under a b (omega arith)))
    (cases_lt 65535 (a.zones + b.zones))

-- the largest stays the largest
largest_join : (a : Fares) → fares_join largest_fares a ≡ largest_fares
largest_join a = ⊎_elim
    (λ h. over largest_fares a h)
    (λ h. under largest_fares a (omega arith) ∙ same_fares _ _ (omega arith) (same_seconds _ _ (omega arith)))
    (cases_lt 65535 (65535 + a.zones))

join_largest : (a : Fares) → fares_join a largest_fares ≡ largest_fares
join_largest a = ⊎_elim
    (λ h. over a largest_fares h)
    (λ h. under a largest_fares (omega arith) ∙ same_fares _ _ (omega arith) (same_seconds _ _ (omega arith)))
    (cases_lt 65535 (a.zones + 65535))

module _ (a b c : Fares) where
  first_over : 65535 < a.zones + b.zones + c.zones → fares_join (fares_join a b) c ≡ largest_fares
  first_over h = ⊎_elim
      (λ k. ap (λ x. fares_join x c) (over a b k) ∙ largest_join c)
      (λ k. over (fares_join a b) c (omega (arith, joined_zones a b)))
      (cases_lt 65535 (a.zones + b.zones))

  last_over : 65535 < a.zones + b.zones + c.zones → fares_join a (fares_join b c) ≡ largest_fares
  last_over h = ⊎_elim
      (λ k. ap (λ x. fares_join a x) (over b c k) ∙ join_largest a)
      (λ k. over a (fares_join b c) (omega (arith, joined_zones b c)))
      (cases_lt 65535 (b.zones + c.zones))

  pub fares_assoc : fares_join (fares_join a b) c ≡ fares_join a (fares_join b c)
  fares_assoc = ⊎_elim
      (λ h. first_over h ∙ sym (last_over h))
      (λ h.
      let ab = fares (a.zones + b.zones) (seconds_join a.seconds b.seconds) in
      let bc = fares (b.zones + c.zones) (seconds_join b.seconds c.seconds) in
      ap (λ x. fares_join x c) (under a b (omega arith)) ∙ under ab c (omega arith)
      ∙ same_fares (fares (ab.zones + c.zones) (seconds_join ab.seconds c.seconds)) (fares (a.zones + bc.zones) (seconds_join a.seconds bc.seconds)) (omega arith) (seconds_laws.assoc a.seconds b.seconds c.seconds)
      ∙ sym (ap (λ x. fares_join a x) (under b c (omega arith)) ∙ under a bc (omega arith)))
      (cases_lt 65535 (a.zones + b.zones + c.zones))

-- every fare is at most the largest
at_most_largest : (a : Fares) → T (fares_order.at_most a largest_fares)
at_most_largest a =
    pair_told number_order seconds_order (a.zones, a.seconds) (65535, seconds 4294967295)
    (le→leb _ _ (omega (arith, a.fits)))
    (λ _. le→leb _ _ (omega (arith, a.seconds.fits)))

module _ (a b c d : Fares) (h : T (fares_order.at_most a b)) (k : T (fares_order.at_most c d)) where
  -- the join of smaller lengths is no larger
  pub fares_mono : T (fares_order.at_most (fares_join a c) (fares_join b d))
  fares_mono =
      let p = pair_tells number_order seconds_order (a.zones, a.seconds) (b.zones, b.seconds) h in
      let q = pair_tells number_order seconds_order (c.zones, c.seconds) (d.zones, d.seconds) k in
      let zp : a.zones ≤ b.zones = leb→le _ _ p.0 in
      let zq : c.zones ≤ d.zones = leb→le _ _ q.0 in
      ⊎_elim
      (λ o. subst (λ y. T (fares_order.at_most (fares_join a c) y)) (sym (over b d o)) (at_most_largest (fares_join a c)))
      (λ u.
      subst₂ (λ x y. T (fares_order.at_most x y)) (sym (under a c (omega arith))) (sym (under b d u))
      (pair_told number_order seconds_order
      (min (a.zones + c.zones) 65535, seconds_join a.seconds c.seconds)
      (min (b.zones + d.zones) 65535, seconds_join b.seconds d.seconds)
      (le→leb _ _ (omega arith))
      (λ e.
      let f : min (b.zones + d.zones) 65535 ≤ min (a.zones + c.zones) 65535 = leb→le _ _ e in
      let sp : a.seconds.count ≤ b.seconds.count = leb→le _ _ (p.1 (le→leb _ _ (omega arith))) in
      let sq : c.seconds.count ≤ d.seconds.count = leb→le _ _ (q.1 (le→leb _ _ (omega arith))) in
      le→leb _ _ (omega arith))))
      (cases_lt 65535 (b.zones + d.zones))

pub fares_same_at_most : (a : Fares) → T (fares_order.at_most a a)
fares_same_at_most a = ⊎_elim (λ h. h) (λ h. h) (fares_order.total a a)

abbrev pub fares_laws : OrderedMonoid Fares
fares_laws = record {
  zero = fares_order.least;
  join = fares_join;
  at_most = fares_order.at_most;
  total = fares_order.total;
  trans = fares_order.trans;
  antisym = fares_order.antisym;
  assoc = fares_assoc;
  zero_join = λ a. under (fares 0 (seconds 0)) a (omega arith) ∙ same_fares _ a (omega arith) (seconds_laws.zero_join a.seconds);
  join_zero = λ a. under a (fares 0 (seconds 0)) (omega arith) ∙ same_fares _ a (omega arith) (seconds_laws.join_zero a.seconds);
  least = fares_order.lowest;
  mono_right = λ a b c h. fares_mono c c a b (fares_same_at_most c) h;
  mono_left = λ a b c h. fares_mono a b c c h (fares_same_at_most c);
}

-- a row holds the two numbers
abbrev pub fares_rows : RowEncoding Fares FaresRow
fares_rows = record {
  reads = λ row. fares row.zones (seconds row.seconds);
  writes = λ a. record { zones = a.zones; seconds = a.seconds.count };
  kept = λ a. same_fares _ a (omega arith) (same_seconds _ _ (omega arith));
}
