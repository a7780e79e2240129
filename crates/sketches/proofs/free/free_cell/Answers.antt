use Rattle.std.proofs.Common.{rules, tests}
use Rattle.std.proofs.lemmas.Iterator.{first_from_Range}
use Rattle.tables.specs.Changes.{Free}
use Rattle.sketches.proofs.Frees.{first_free, free_here, not_free}
use Rattle.sketches.proofs.free.free_cell.Goals as goal

pub returns : goal.returns
returns g c =
    first_free c.args.n c.args.cells.now c.args.from c.cells_there.result c.find.result c.cells_there.ensures
    (first_from_Range _ _ _ c.find.result (Free c.args.n c.args.cells.now) (λ j. Free c.args.n c.args.cells.now j → ⊥) c.find.ensures.ran
    (λ x q k. free_here c.args.n c.args.cells.now x (search (rules, tests))) (λ x q k. (search (rules, tests), not_free c.args.n c.args.cells.now x (search (rules, tests)))))
