use Rattle.bottom_k.proofs.SearchSteps.{search_goes_on}
use Rattle.bottom_k.proofs.search_steps.search_goes_on.Goals as goal

pub returns : goal.returns
returns g c = λ s sketch u mark x d now. search_goes_on s sketch u mark x d now
