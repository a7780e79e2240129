use Rattle.heap.specs.Content.{Ordered}
use Rattle.heap.specs.Keys.{rank_place_order}
use Rattle.heap_trial.proofs.mixed.Given as goal

abbrev pub invariant-loop : goal.invariant-loop
invariant-loop l = Ordered rank_place_order l.initial.heap → Ordered rank_place_order l.heap
