use Rattle.bottom_k.proofs.Counting.{many_if_noted, noted_if_many}
use Rattle.bottom_k.proofs.argument.entries_count_places.Goals as goal

pub returns : goal.returns
returns g c = λ s swept v es due t. ((λ many. many_if_noted s v swept es due t many), (λ many. noted_if_many s v swept es due t many))
