use Rattle.bottom_k.proofs.SearchSteps.{search_turns_back}
use Rattle.bottom_k.proofs.search_steps.search_turns_back.Goals as goal

pub returns : goal.returns
returns g c = λ s sketch u mark now x d waits nearest full. search_turns_back s sketch u mark now x d waits nearest full
