use Rattle.std.proofs.Common.{rules}
use Rattle.town_record.proofs.Spelled.{used_bytes}
use Rattle.town_record.proofs.entry.read.read_length.Goals as goal

pub returns : goal.returns
returns g c =
    let e = used_bytes c.args.record.now g.M.FileMeasure.form.used c.told-record g.M.FileMeasure.form.few in
    search rules
