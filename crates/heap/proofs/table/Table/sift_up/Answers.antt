use Rattle.std.proofs.Common.{◌≡◌, false, sym, ◌∙◌, arith}
use Rattle.heap.specs.Heaped.{above, key_in}
use Rattle.heap.proofs.Pairs.{keys_swapped}
use Rattle.heap.proofs.Steps.{turned, up_step}
use Rattle.heap.proofs.table.Table.sift_up.Goals as goal

pub loop-at-preserved : goal.loop-at-preserved
loop-at-preserved g c =
    let o = g.K.Key.order in
    let t = c.loop-at.self in
    let at = c.loop-at.at in
    let before = key_in o c.args.keys.now t.slots in
    let after = key_in o c.args.keys.now c.swap.new.self.slots in
    let w = keys_swapped t (above at) at (omega arith) (omega arith) o c.args.keys.now _ c.swap.ensures.slots in
    let less : o.at_most (before (above at)) (before at) ≡ false = cc in (
      omega arith,
      record {
        len = c.swap.ensures.same.len ∙ c.loop-at.invariant.1.len;
        waiting = λ p. c.swap.ensures.same.waiting p ∙ c.loop-at.invariant.1.waiting p;
      },
      c.loop-at.invariant.2 ∙ sym w.0,
      (λ h. up_step o before after _ at c.loop-at-test.true c.loop-at.invariant.0 (c.loop-at.invariant.3 h) (turned o _ _ less) w),
    )
