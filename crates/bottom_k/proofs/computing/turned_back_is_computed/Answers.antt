use Rattle.bottom_k.proofs.DueLists.{turned_if_listed, listed_if_turned}
use Rattle.bottom_k.proofs.computing.turned_back_is_computed.Goals as goal

pub returns : goal.returns
returns g c = λ s least gives p v. ((λ i. turned_if_listed s least gives p v i), (λ h. listed_if_turned s least gives p v h))
