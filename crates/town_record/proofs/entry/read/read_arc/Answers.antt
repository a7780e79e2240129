use Rattle.std.proofs.Common.{◌≡◌, false, Some, rules}
use Rattle.town_record.specs.Parts.{from_of, to_of, length_bytes}
use Rattle.town_record.specs.Rules.{bad_byte, bad_value, out_of_order, out_of_room}
use Rattle.town_record.proofs.Told.{faultless}
use Rattle.town_record.proofs.Whole.{says_arc}
use Rattle.town_record.proofs.entry.read.read_arc.Goals as goal

pub returns : goal.returns
returns g c =
    let f = g.M.FileMeasure.form in
    let r = c.args.record.now in
    let bytes : bad_byte f.used r ≡ false = search rules in
    let values : bad_value f c.args.before r ≡ false = search rules in
    let order : out_of_order c.args.before r ≡ false = search rules in
    let room : out_of_room c.args.limits c.args.before r ≡ false = search rules in
    let from : c.from_be_bytes-from.result ≡ from_of r = search rules in
    let to : c.from_be_bytes-to.result ≡ to_of r = search rules in
    let long : f.length_of (length_bytes f.used r) ≡ Some c.in_ok-length.length = search rules in
    (faultless f c.args.limits c.args.before r c.told-record bytes values order room, says_arc r c.told-record c.fits-record f c.requires bytes _ from to long)
