use Rattle.std.proofs.Common.{refl, ap, ◌∙◌}
use Rattle.std.proofs.lemmas.Bool.Decides.{not_from_Decides}
use Rattle.tables.specs.Walks.{plain_sketch}
use Rattle.tables.proofs.Chains.{refuted}
use Rattle.sketches.specs.Reader.{entries_left}
use Rattle.examine.proofs.Rising.{rising_starts, rising_goes_on, rising_stops, rising_ends}
use Rattle.examine.proofs.memory.Memory.rises.Goals as goal

pub loop-entry-init : goal.loop-entry-init
loop-entry-init g c =
    let m = c.args.self.now in
    rising_starts m.swept _ (plain_sketch m.sketches.home.now m.sketches.cells.now c.args.v)
    (ap entries_left c.into_iter-entry-iterator.ensures.into_iter_gives ∙ c.entries-entry-items.ensures.whole)

pub returns-then-not-comes_next : goal.returns-then-not-comes_next
returns-then-not-comes_next g c =
    refuted (rising_stops c.args.self.now.swept c.loop-entry.before (entries_left c.loop-entry.entry-iterator) c.loop-entry.invariant c.in-Some.entry _ c.in-Some.ensures.steps
    (not_from_Decides _ c.comes_next.ensures c.if-not-comes_next.true))

pub loop-entry-preserved : goal.loop-entry-preserved
loop-entry-preserved g c =
    rising_goes_on c.args.self.now.swept c.loop-entry.before (entries_left c.loop-entry.entry-iterator) c.loop-entry.invariant c.in-Some.entry _ c.in-Some.ensures.steps
    (c.comes_next.ensures.0 c.if-not-comes_next.false)

pub returns : goal.returns
returns g c =
    (λ _. rising_ends c.args.self.now.swept c.loop-entry.before (entries_left c.loop-entry.entry-iterator) c.loop-entry.invariant c.in-None.ensures.steps.0, λ _. refl)
