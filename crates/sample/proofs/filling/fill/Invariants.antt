use Rattle.sketches.specs.Reader.{entries_left}
use Rattle.sample.specs.Samples.{sampled_rows}
use Rattle.sample.proofs.SoFar.{Filled}
use Rattle.sample.proofs.filling.fill.Given as goal

-- of the rows that are sampled, those so far are counted and written, and the others are of the entries left
abbrev pub invariant-loop-entry : goal.invariant-loop-entry
invariant-loop-entry g l =
    Filled g.M.Measure.laws g.M.Measure.encoding l.memory.order.now l.limit l.k
    (sampled_rows g.M.Measure.laws g.M.Measure.encoding l.memory l.k l.start l.limit)
    (entries_left l.entry-iterator) l.count l.last_rank l.initial.places l.places
