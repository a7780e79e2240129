use Rattle.std.proofs.Common.{ℕ, not, eqb, refl, ap, arith, lit≤}
use Rattle.std.proofs.lemmas.List.{length-replicate}
use Rattle.heap.proofs.Pairs.{none_wait}
use Rattle.heap.proofs.table.Table.empty.Goals as goal

pub invariant_of-result : goal.invariant_of-result
invariant_of-result c = record {
  sized = (length-replicate {A = ℕ} 4096 0, length-replicate {A = ℕ} 4096 4096);
  room = lit≤ tt;
  filled = λ i h. absurd (let k = h in omega arith);
  placed = λ p h. absurd (h (none_wait p));
}

pub returns : goal.returns
returns c = record { len = refl; waiting = λ p. ap (λ x. not (eqb x 4096)) (none_wait p) }
