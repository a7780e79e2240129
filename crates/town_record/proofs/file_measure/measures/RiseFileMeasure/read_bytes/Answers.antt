use Rattle.std.proofs.Common.{◌≡◌, drop, Some, sym, ap, ◌∙◌, arith, rules}
use Rattle.measure.specs.RiseLaws.{rise, same_rise}
use Rattle.town_record.specs.Bytes.{two}
use Rattle.town_record.proofs.Spelled.{elements, drop_elements}
use Rattle.town_record.proofs.file_measure.measures.RiseFileMeasure.read_bytes.Goals as goal

pub returns : goal.returns
returns c =
    let f = c.args.field in
    let spelled : drop 6 f ≡ elements f 6 2 = drop_elements 2 6 f (search rules) in
    ap Some (same_rise _ (rise (two (elements f 6 2) 0)) (omega arith)) ∙ ap (λ t. Some (rise (two t 0))) (sym spelled)
