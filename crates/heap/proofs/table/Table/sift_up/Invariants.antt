use Rattle.std.proofs.Common.{◌≡◌, ◌<◌}
use Rattle.heap.specs.Heaped.{HeapedButAbove, key_in}
use Rattle.heap.specs.Moves.{SameWaiting}
use Rattle.heap.proofs.table.Table.sift_up.Given as goal

abbrev pub invariant-loop-at : goal.invariant-loop-at
invariant-loop-at g l =
    (l.at < l.initial.self.len)
    × SameWaiting l.initial.self l.self
    × (l.key ≡ key_in g.K.Key.order l.keys l.self.slots l.at)
    × (HeapedButAbove g.K.Key.order (key_in g.K.Key.order l.keys l.initial.self.slots) l.initial.self.len l.from
    → HeapedButAbove g.K.Key.order (key_in g.K.Key.order l.keys l.self.slots) l.initial.self.len l.at)

abbrev pub decreases-loop-at : goal.decreases-loop-at
decreases-loop-at g l = l.at
