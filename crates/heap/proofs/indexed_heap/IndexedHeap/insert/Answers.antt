use Rattle.std.proofs.Common.{refl, ◌∙◌, arith}
use Rattle.heap.specs.Content.{Ordered}
use Rattle.heap.proofs.Contents.{absent_from_not, append_above, with_written}
use Rattle.heap.proofs.indexed_heap.IndexedHeap.insert.Goals as goal

pub returns-clause-with : goal.returns-clause-with
returns-clause-with g c =
    with_written c.args.self.now _ c.args.place.number c.args.key c.args.place.known refl
    (λ p. c.sift_up.ensures.same.waiting p ∙ c.append.ensures.waiting p)

pub returns-clause-ordered : goal.returns-clause-ordered
unfolding Ordered
returns-clause-ordered g c ordered i pos lt =
    let h = c.args.self.now in
    let place = c.args.place.number in
    c.sift_up.ensures.heaped
    (append_above g.K.Key.order h place c.args.key _ _ _ (absent_from_not h place c.requires) c.append.ensures.slots c.append.ensures.len (omega arith) ordered)
    i pos (omega arith)
