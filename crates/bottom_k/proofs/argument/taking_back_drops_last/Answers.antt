use Rattle.bottom_k.proofs.DueSketches.{due_without_last, due_without}
use Rattle.bottom_k.proofs.argument.taking_back_drops_last.Goals as goal

pub returns : goal.returns
returns g c = λ s p v es. ((λ d due. due_without_last s v p d es due), (λ due none. due_without s v p es due none))
