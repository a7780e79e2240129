-- Rise: the highest kerb met, 0 to 65,535 millimetres. The join is the larger.
use Rattle.std.specs.Prelude.{◌≡◌, ℕ, ◌^◌, ◌<◌, min, refl}
use Rattle.std.proofs.Common.{arith}
use mathlib.Core.HLevel.{is_prop→PathP}
use Rattle.std.proofs.Math.Bridge.{le_prop}
use Rattle.measure.specs.Orders.{TotalOrder, number_order, order_by}
use Rattle.measure.specs.Laws.{OrderedMonoid, RowEncoding, higher_laws}
use Rattle.measure.specs.declared.rise.Rise.{Rise}

-- the rise of so many millimetres, held at the largest
abbrev pub rise : ℕ → Rise
rise n = record { millimetres = min n 65535; fits = omega arith }

-- two rises of as many millimetres are one
pub same_rise : (a b : Rise) → a.millimetres ≡ b.millimetres → a ≡ b
same_rise a b e = λ i. record {
  millimetres = e i;
  fits = is_prop→PathP (λ j. e j < 2 ^ 16) (λ j. le_prop) a.fits b.fits i;
}

-- by the number of millimetres
abbrev pub rise_order : TotalOrder Rise
rise_order = order_by (λ a. a.millimetres) (rise 0) same_rise number_order refl

-- the join is the larger
abbrev pub rise_laws : OrderedMonoid Rise
rise_laws = higher_laws rise_order

-- a row holds the millimetres
abbrev pub rise_rows : RowEncoding Rise ℕ
rise_rows = record {
  reads = rise;
  writes = λ a. a.millimetres;
  kept = λ a. same_rise (rise a.millimetres) a (omega arith);
}
