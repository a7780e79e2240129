use Rattle.std.proofs.Common.{◌≡◌, ◌∷◌, ◌++◌, sym, ◌∙◌, rules}
use Rattle.town_record.proofs.Spelled.{elements, drop_elements}
use Rattle.town_record.proofs.fill.place_record.Goals as goal

pub returns : goal.returns
returns c =
    let name : elements c.bytes.result 0 8 ≡ c.args.name.bytes = sym (drop_elements 8 0 c.bytes.result (search rules)) ∙ c.bytes.ensures in
    λ i. 80 ∷ 0 ∷ 0 ∷ 0 ∷ (elements (c.to_be_bytes.ensures i) 0 4 ++ name i)
