use Rattle.std.proofs.Common.{refl, arith}
use Rattle.std.proofs.lemmas.Bool.Decides.{eqb_tells}
use Rattle.heap.specs.Content.{Ordered}
use Rattle.heap.proofs.Contents.{lower_above, waits_from_by, with_written}
use Rattle.heap.proofs.indexed_heap.IndexedHeap.reduce.Goals as goal

pub returns-clause-with : goal.returns-clause-with
returns-clause-with g c =
    let h = c.args.self.now in
    let place = c.args.place in
    let waits = waits_from_by h place.number _ c.requires in
    with_written h _ place.number c.args.key place.known refl
    (λ p. let a = c.sift_up.ensures.same.waiting p in let b = eqb_tells p place.number in grind arith)

pub returns-clause-ordered : goal.returns-clause-ordered
unfolding Ordered
returns-clause-ordered g c ordered i pos lt =
    c.sift_up.ensures.heaped
    (lower_above g.K.Key.order c.args.self.now c.args.place.number _ c.args.key c.requires c.slot-slot.ensures ordered) i pos (omega arith)
