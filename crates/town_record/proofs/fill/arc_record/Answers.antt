use Rattle.std.proofs.Common.{◌≡◌, ◌-◌, ◌∷◌, ◌++◌, replicate, sym, ◌∙◌, rules}
use Rattle.town_record.proofs.Spelled.{elements, drop_elements}
use Rattle.town_record.proofs.fill.arc_record.Goals as goal

pub returns : goal.returns
returns g c =
    let f = g.M.FileMeasure.form in
    let field : elements c.length_field.result 0 8 ≡ replicate (8 - f.used) 0 ++ f.bytes_of c.args.arc.length =
    sym (drop_elements 8 0 c.length_field.result (search rules)) ∙ c.length_field.ensures in
    λ i. 65 ∷ 0 ∷ (elements (c.to_be_bytes.ensures i) 0 2 ++ (elements (c.to_be_bytes-2.ensures i) 0 2 ++ (0 ∷ 0 ∷ field i)))
