use Rattle.std.proofs.Common.{refl, rules, tests}
use Rattle.examine.specs.RowsInOrder.{RowInOrder}
use Rattle.examine.proofs.Ranges.{all_below}
use Rattle.examine.proofs.Wholes.{order_by_rows}
use Rattle.examine.proofs.memory.Memory.order_holds.Goals as goal

pub returns-then-has_the_rows : goal.returns-then-has_the_rows
returns-then-has_the_rows g c =
    let m = c.args.self.now in
    order_by_rows m.n m.order.now m.sketches.home.now c.all.result (c.has_the_rows.ensures.0 c.if-has_the_rows.true)
    (all_below m.n (RowInOrder m.n m.order.now m.sketches.home.now) _ c.all.result _ _ refl c.all.ensures.ran (λ x q k. search (rules, tests)) (λ x q k. search (rules, tests)))
