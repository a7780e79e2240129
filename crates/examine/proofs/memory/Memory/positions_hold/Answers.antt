use Rattle.std.proofs.Common.{refl, rules, tests}
use Rattle.tables.specs.Tests.{RisingBelow}
use Rattle.tables.specs.Walks.{plain_sketch, positions}
use Rattle.examine.proofs.Ranges.{all_below}
use Rattle.examine.proofs.memory.Memory.positions_hold.Goals as goal

pub returns : goal.returns
returns g c =
    let m = c.args.self.now in
    all_below m.n (λ v. RisingBelow m.swept (positions (plain_sketch m.sketches.home.now m.sketches.cells.now v))) _ c.all.result _ _ refl c.all.ensures.ran
    (λ x q k. search (rules, tests)) (λ x q k. search (rules, tests))
