use Rattle.std.proofs.Common.{ap, ◌∙◌}
use Rattle.tables.specs.Walks.{plain_sketch}
use Rattle.sketches.specs.Reader.{entries_left}
use Rattle.sample.proofs.SoFar.{filled_starts, all_if_none_left, all_if_enough, sampled_if_all}
use Rattle.sample.proofs.filling.fill.Goals as goal
use Rattle.sample.proofs.filling.fill.Goals.{in-None, in-Some+then-count-needed}

pub loop-entry-init : goal.loop-entry-init
loop-entry-init g c =
    let m = c.args.memory.now in
    filled_starts g.M.Measure.laws g.M.Measure.encoding m.order.now c.args.limit c.args.k (plain_sketch m.sketches.home.now m.sketches.cells.now c.args.start) (entries_left c.into_iter-entry-iterator.result)
    (ap entries_left c.into_iter-entry-iterator.ensures.into_iter_gives ∙ c.entries-entry-items.ensures.whole) c.args.places.now

pub returns : goal.returns
returns g c =
    let m = g.M.Measure.laws in
    let rows = g.M.Measure.encoding in
    let order = c.args.memory.now.order.now in
    sampled_if_all m rows c.args.memory.now c.args.k c.args.start c.args.limit _ c.loop-entry.count c.loop-entry.last_rank c.args.places.now c.loop-entry.places c.loop-entry.invariant
    (elim c.match-next.branch [
      | in-None w ↦ all_if_none_left m rows order c.args.limit c.loop-entry.invariant w.in-None.ensures.steps.0
      | in-Some+then-count-needed w ↦ all_if_enough m rows order c.args.limit c.loop-entry.invariant w.if-count-needed.true
    ])
    c.new.result c.new.ensures.count c.new.ensures.figure
