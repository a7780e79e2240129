use Rattle.bottom_k.proofs.SearchSteps.{search_settles}
use Rattle.bottom_k.proofs.search_steps.search_settles.Goals as goal

pub returns : goal.returns
returns g c = λ s sketch u mark now x d waits nearest. search_settles s sketch u mark now x d waits nearest
