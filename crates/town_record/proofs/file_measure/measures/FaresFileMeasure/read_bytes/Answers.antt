use Rattle.std.proofs.Common.{◌≡◌, ◌≤◌, Some, sym, ap, ◌∙◌, arith, rules}
use Rattle.std.proofs.lemmas.Bool.{cond-true, le-leb}
use Rattle.measure.specs.SecondsLaws.{seconds, same_seconds}
use Rattle.measure.specs.FaresLaws.{fares, same_fares}
use Rattle.town_record.specs.Bytes.{four}
use Rattle.town_record.proofs.file_measure.measures.FaresFileMeasure.read_bytes.Goals as goal

pub returns : goal.returns
returns c =
    let f = c.args.field in
    let few : four f 0 ≤ 65535 = search rules in
    let zones : c.in_ok-zones.zones ≡ four f 0 = search rules in
    let same = same_seconds c.new-seconds.result (seconds (four f 4)) (omega arith) in
    ap Some (same_fares c.new.result (fares (four f 0) (seconds (four f 4))) (omega arith) (c.new.ensures.seconds ∙ same))
    ∙ sym (cond-true _ _ _ (le-leb _ _ few))
