use Rattle.std.proofs.Common.{◌≡◌, ◌++◌, length, refl, ap, ◌∙◌, append-nil, arith}
use Rattle.std.proofs.lemmas.Slice.Eq.{slice_eq-Decides}
use Rattle.std.proofs.lemmas.List.{drop_all}
use Rattle.inspect.proofs.written_back.Goals as goal
use Rattle.std.proofs.lemmas.Bool.Decides.{Decides-eqb}

pub returns-then-is_ok : goal.returns-then-is_ok
returns-then-is_ok c reads long =
    let file = c.args.file.now in
    let out = c.args.out.now in
    let same : c.write.new.out ≡ file =
    c.write.ensures.round_trip file reads (omega arith) ∙ ap (λ t. file ++ t) (drop_all (length file) out (omega arith)) ∙ append-nil file in
    let equal = (slice_eq-Decides Decides-eqb c.write.new.out file _ refl).1 same in
    cc
