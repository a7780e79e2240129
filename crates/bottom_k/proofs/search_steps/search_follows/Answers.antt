use Rattle.bottom_k.proofs.SearchSteps.{search_follows}
use Rattle.bottom_k.proofs.search_steps.search_follows.Goals as goal

pub returns : goal.returns
returns g c = λ s sketch u mark x d done now a stands. search_follows s sketch u mark x d done now a stands
