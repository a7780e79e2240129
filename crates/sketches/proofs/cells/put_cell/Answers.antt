use Rattle.std.proofs.lemmas.List.{drop-set-lt}
use Rattle.tables.specs.Rows.{missing}
use Rattle.sketches.proofs.cells.put_cell.Goals as goal

pub returns-then-here-cells-clause-surplus : goal.returns-then-here-cells-clause-surplus
returns-then-here-cells-clause-surplus g c = drop-set-lt missing c.args.cells.now c.args.at c.args.cell c.if-at-lt-MISSING.true
