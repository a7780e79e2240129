use Rattle.std.proofs.Common.{◌≤◌, length, take, arith, rules, tests, length-take}
use Rattle.std.proofs.lemmas.Iterator.{YieldsList-from_slice, YieldsList-from_take}
use Rattle.std.proofs.lemmas.Iterator.Consumers.{YieldsList-at}
use Rattle.std.proofs.lemmas.Iterator.Adapters.{fits_from_length, at_most_from_yields_List}
use Rattle.examine.proofs.memory.Memory.total.Goals as goal

pub sum-requires-clause-fits : goal.sum-requires-clause-fits
sum-requires-clause-fits g c =
    let home = c.args.self.now.sketches.home.now in
    let n = c.args.self.now.n in
    let few : length (take n home) ≤ 65535 = omega (arith, length-take n home, c.type_inv.self) in
    fits_from_length _ _ 65535 _
    (at_most_from_yields_List (YieldsList-at c.map.ensures.source (YieldsList-from_take n (YieldsList-at c.take-rows.ensures.source (YieldsList-from_slice home cc)) c.take-rows.ensures.count)) few)
    c.map.ensures.closure (omega arith) (λ x r q k. search (rules, tests))
