use Rattle.std.proofs.Common.{◌≡◌, drop, Some, sym, ap, ◌∙◌, arith, rules}
use Rattle.measure.specs.SecondsLaws.{seconds, same_seconds}
use Rattle.town_record.specs.Bytes.{four}
use Rattle.town_record.proofs.Spelled.{elements, drop_elements}
use Rattle.town_record.proofs.file_measure.measures.SecondsFileMeasure.read_bytes.Goals as goal

pub returns : goal.returns
returns c =
    let f = c.args.field in
    let spelled : drop 4 f ≡ elements f 4 4 = drop_elements 4 4 f (search rules) in
    ap Some (same_seconds _ (seconds (four (elements f 4 4) 0)) (omega arith)) ∙ ap (λ t. Some (seconds (four t 0))) (sym spelled)
