use Rattle.std.proofs.Common.{arith, refl, rules, tests}
use Rattle.tables.specs.Walks.{Linked}
use Rattle.examine.proofs.Ranges.{all_below}
use Rattle.examine.proofs.Wholes.{links_by_sketches}
use Rattle.examine.proofs.memory.Memory.links_hold.Goals as goal

pub returns-then-cells_there-self : goal.returns-then-cells_there-self
returns-then-cells_there-self g c =
    let m = c.args.self.now in
    links_by_sketches m.n m.used m.sketches.home.now m.sketches.cells.now c.all.result (omega (arith, c.cells_there.ensures, c.if-cells_there-self.true))
    (all_below m.n (Linked m.sketches.home.now m.sketches.cells.now) _ c.all.result _ _ refl c.all.ensures.ran (λ x q k. search (rules, tests)) (λ x q k. search (rules, tests)))
