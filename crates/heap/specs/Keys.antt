-- The orders of the keys.
use Rattle.std.proofs.Common.{ap}
use Rattle.std.specs.Prelude.{ℕ, refl}
use Rattle.measure.specs.Laws.{OrderedMonoid}
use Rattle.measure.specs.Orders.{TotalOrder, number_order, pair_order, order_by}
use Rattle.heap.specs.declared.key.length_key.LengthKey.{LengthKey}
use Rattle.heap.specs.declared.key.rank_place.RankPlace.{RankPlace}

-- the lengths of a measure by its comparison, from zero on
abbrev pub measure_order : {L : Type 0} → OrderedMonoid L → TotalOrder L
measure_order m = record {
  least = m.zero;
  at_most = m.at_most;
  total = m.total;
  trans = m.trans;
  antisym = m.antisym;
  lowest = m.least;
}

-- the key of a length
abbrev pub length_key : {L : Type 0} → L → LengthKey L
length_key l = record { length = l }

-- by the length alone
abbrev pub length_order : {L : Type 0} → OrderedMonoid L → TotalOrder (LengthKey L)
length_order m = order_by (λ a. a.length) (length_key m.zero) (λ a b e. ap length_key e) (measure_order m) refl

-- the key of a rank and a place
abbrev pub rank_place : ℕ → ℕ → RankPlace
rank_place r p = record { rank = r; place = p }

-- by the rank first, then by the place
abbrev pub rank_place_order : TotalOrder RankPlace
rank_place_order =
    order_by (λ a. (a.rank, a.place)) (rank_place 0 0) (λ a b e. ap (λ x. rank_place x.0 x.1) e) (pair_order number_order number_order) refl
