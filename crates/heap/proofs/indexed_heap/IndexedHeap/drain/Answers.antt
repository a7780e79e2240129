use Rattle.std.proofs.Common.{length, ◌∙◌, arith}
use Rattle.std.proofs.lemmas.List.{get_or-set_other}
use Rattle.heap.proofs.Drainings.{all_handed_out, drained_next, rising_next}
use Rattle.heap.proofs.indexed_heap.IndexedHeap.drain.Goals as goal

pub loop-count-preserved : goal.loop-count-preserved
loop-count-preserved g c =
    let o = g.K.Key.order in
    let before = c.args.self.now in
    let taken = c.in-Some.ensures.taken in
    let kept = c.loop-count.invariant in record {
      left = omega (arith, taken.fewer);
      drained = drained_next o before _ _ _ _ _ _ (omega arith) taken kept.drained;
      rising = λ ordered.
          rising_next o before _ _ _ _ _ _ (omega arith) taken (kept.ordered ordered) kept.drained (kept.rising ordered);
      rest = λ i l. get_or-set_other c.loop-count.places c.loop-count.count i c.in-Some.place 0 (λ e. omega arith) ∙ kept.rest i (omega arith);
      ordered = λ ordered. c.in-Some.ensures.ordered (kept.ordered ordered);
    }

pub returns-clause-all : goal.returns-clause-all
returns-clause-all g c fits =
    let kept = c.loop-count.invariant in
    all_handed_out c.args.self.now _ _ _ (length c.loop-count.places) kept.drained kept.left (omega arith) (omega arith)
