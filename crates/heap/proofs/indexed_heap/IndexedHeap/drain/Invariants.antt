use Rattle.std.proofs.Common.{◌≡◌, ℕ, ◌+◌, ◌≤◌, get_or}
use Rattle.heap.specs.Content.{Ordered, content, size}
use Rattle.heap.specs.Drained.{Drained, Rising}
use Rattle.heap.proofs.indexed_heap.IndexedHeap.drain.Given as goal

abbrev pub invariant-loop-count : goal.invariant-loop-count
invariant-loop-count g l = record {
  left : size l.self + l.count ≡ size l.initial.self;
  drained : Drained (content l.initial.self) l.places l.count (content l.self);
  rising : Ordered g.K.Key.order l.initial.self → Rising g.K.Key.order (content l.initial.self) l.places l.count (content l.self);
  rest : (i : ℕ) → l.count ≤ i → get_or l.places i 0 ≡ get_or l.initial.places i 0;
  ordered : Ordered g.K.Key.order l.initial.self → Ordered g.K.Key.order l.self;
}
