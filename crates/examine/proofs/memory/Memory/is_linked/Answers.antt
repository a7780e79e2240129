use Rattle.std.proofs.Common.{sym}
use Rattle.std.proofs.lemmas.Bool.Decides.{not_from_Decides}
use Rattle.tables.proofs.Chains.{refuted, chain_turn, chain_ends, chain_breaks}
use Rattle.tables.proofs.Starts.{linked_start}
use Rattle.examine.proofs.memory.Memory.is_linked.Goals as goal

pub loop-init : goal.loop-init
loop-init g c = linked_start c.args.self.now.sketches.home.now c.args.self.now.sketches.cells.now c.args.v c.row_of-row.result c.row_of-row.ensures

pub returns-in_default : goal.returns-in_default
returns-in_default g c =
    refuted (chain_ends c.args.self.now.sketches.cells.now _ _ _ _ _ _ _ c.loop-test.true c.loop.invariant (sym c.in_default.ensures))

pub returns-then-not-follows : goal.returns-then-not-follows
returns-then-not-follows g c =
    refuted (chain_breaks c.args.self.now.sketches.cells.now _ _ _ _ _ _ _ c.loop-test.true c.loop.invariant _ (sym c.in-Some.ensures)
    (λ o b. not_from_Decides _ c.follows.ensures c.if-not-follows.true (o, b)))

pub loop-preserved : goal.loop-preserved
loop-preserved g c =
    let fits = c.follows.ensures.0 c.if-not-follows.false in
    chain_turn c.args.self.now.sketches.cells.now _ _ _ _ _ _ _ c.loop-test.true c.loop.invariant _ (sym c.in-Some.ensures) fits.0 fits.1
