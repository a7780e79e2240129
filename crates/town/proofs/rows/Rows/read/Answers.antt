use Rattle.std.proofs.Common.{rules}
use Rattle.town.proofs.Meaning.{reads}
use Rattle.town.proofs.rows.Rows.read.Goals as goal

pub returns-in-Ok : goal.returns-in-Ok
returns-in-Ok g c = (search rules, reads g.M.FileMeasure.form c.args.file.now _ (search rules))
