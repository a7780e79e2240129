use Rattle.bottom_k.proofs.SearchSteps.{search_ends}
use Rattle.bottom_k.proofs.search_steps.search_ends.Goals as goal

pub returns : goal.returns
returns g c = λ s sketch u mark now none. search_ends s sketch u mark now none
