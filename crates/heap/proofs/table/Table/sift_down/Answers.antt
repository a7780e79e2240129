use Rattle.std.proofs.Common.{◌≡◌, true, false, T, sym, ◌∙◌, subst, arith}
use Rattle.heap.specs.Heaped.{key_in}
use Rattle.heap.proofs.Pairs.{keys_swapped}
use Rattle.heap.proofs.Steps.{turned, down_step, down_done}
use Rattle.heap.proofs.table.Table.sift_down.Goals as goal

pub returns-then-at_most : goal.returns-then-at_most
returns-then-at_most g c =
    let o = g.K.Key.order in
    let t = c.loop-at.self in
    let at = c.loop-at.at in
    let child = c.least_below-child.result in
    let b = c.least_below-child.ensures.slot in
    let f = key_in o c.args.keys.now t.slots in
    let more : o.at_most (f at) (f child) ≡ true = cc in
    record {
      same = c.loop-at.invariant.1;
      heaped = λ h.
          down_done o f f _ at child (c.loop-at.invariant.3 h)
          (λ i pos lt e. c.least_below-child.ensures.least i (omega arith) (omega arith) (omega arith)) (subst T (sym more) tt);
    }

pub loop-at-preserved : goal.loop-at-preserved
loop-at-preserved g c =
    let o = g.K.Key.order in
    let t = c.loop-at.self in
    let at = c.loop-at.at in
    let child = c.least_below-child.result in
    let before = key_in o c.args.keys.now t.slots in
    let after = key_in o c.args.keys.now c.swap.new.self.slots in
    let b = c.least_below-child.ensures.slot in
    let w = keys_swapped t at child (omega arith) (omega arith) o c.args.keys.now _ c.swap.ensures.slots in
    let less : o.at_most (before at) (before child) ≡ false = cc in (
      omega arith,
      record {
        len = c.swap.ensures.same.len ∙ c.loop-at.invariant.1.len;
        waiting = λ p. c.swap.ensures.same.waiting p ∙ c.loop-at.invariant.1.waiting p;
      },
      c.loop-at.invariant.2 ∙ sym w.1,
      (λ h.
          down_step o before after _ at child (omega arith) (omega arith) (omega arith) (c.loop-at.invariant.3 h)
          (λ i pos lt e. c.least_below-child.ensures.least i (omega arith) (omega arith) (omega arith)) (turned o _ _ less) w),
    )
