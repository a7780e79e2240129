use Rattle.std.proofs.Common.{◌≡◌, false, rules}
use Rattle.town_record.specs.Parts.{rank_of, name_of}
use Rattle.town_record.specs.Rules.{bad_byte, bad_value, out_of_order, out_of_room}
use Rattle.town_record.proofs.Told.{faultless}
use Rattle.town_record.proofs.Whole.{says_place}
use Rattle.town_record.proofs.entry.read.read_place.Goals as goal

pub returns : goal.returns
returns g c =
    let f = g.M.FileMeasure.form in
    let r = c.args.record.now in
    let bytes : bad_byte f.used r ≡ false = search rules in
    let values : bad_value f c.args.before r ≡ false = search rules in
    let order : out_of_order c.args.before r ≡ false = search rules in
    let room : out_of_room c.args.limits c.args.before r ≡ false = search rules in
    let rank : c.from_be_bytes-rank.result ≡ rank_of r = search rules in
    let name : c.in_ok-name.name.bytes ≡ name_of r = search rules in
    (faultless f c.args.limits c.args.before r c.told-record bytes values order room, says_place r c.told-record c.fits-record f.used c.requires bytes _ c.in_ok-name.name rank name)
