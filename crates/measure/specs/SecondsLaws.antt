-- Seconds: 0 to 4,294,967,295, the sum held at the largest.
use Rattle.std.specs.Prelude.{◌≡◌, ℕ, ◌+◌, ◌^◌, ◌<◌, min, refl}
use Rattle.std.proofs.Common.{arith, leb→le, le→leb}
use mathlib.Core.HLevel.{is_prop→PathP}
use Rattle.std.proofs.Math.Bridge.{le_prop}
use Rattle.measure.specs.Orders.{TotalOrder, number_order, order_by}
use Rattle.measure.specs.Laws.{OrderedMonoid, RowEncoding}
use Rattle.measure.specs.declared.seconds.Seconds.{Seconds}

-- so many seconds, held at the largest number
abbrev pub seconds : ℕ → Seconds
seconds n = record { count = min n 4294967295; fits = omega arith }

-- two lengths of as many seconds are one
pub same_seconds : (a b : Seconds) → a.count ≡ b.count → a ≡ b
same_seconds a b e = λ i. record {
  count = e i;
  fits = is_prop→PathP (λ j. e j < 2 ^ 32) (λ j. le_prop) a.fits b.fits i;
}

abbrev pub seconds_order : TotalOrder Seconds
seconds_order = order_by (λ a. a.count) (seconds 0) same_seconds number_order refl

-- the join is the sum, held at the largest number
abbrev pub seconds_join : Seconds → Seconds → Seconds
seconds_join a b = seconds (a.count + b.count)

abbrev pub seconds_laws : OrderedMonoid Seconds
seconds_laws = record {
  zero = seconds_order.least;
  join = seconds_join;
  at_most = seconds_order.at_most;
  total = seconds_order.total;
  trans = seconds_order.trans;
  antisym = seconds_order.antisym;
  assoc = λ a b c. same_seconds (seconds_join (seconds_join a b) c) (seconds_join a (seconds_join b c)) (omega arith);
  zero_join = λ a. same_seconds (seconds_join (seconds 0) a) a (omega arith);
  join_zero = λ a. same_seconds (seconds_join a (seconds 0)) a (omega arith);
  least = seconds_order.lowest;
  mono_right = λ a b c h. let p = leb→le _ _ h in le→leb _ _ (omega arith);
  mono_left = λ a b c h. let p = leb→le _ _ h in le→leb _ _ (omega arith);
}

-- a row holds the number
abbrev pub seconds_rows : RowEncoding Seconds ℕ
seconds_rows = record {
  reads = seconds;
  writes = λ a. a.count;
  kept = λ a. same_seconds (seconds a.count) a (omega arith);
}
