use Rattle.bottom_k.proofs.DueLists.{sketch_is_computed}
use Rattle.bottom_k.proofs.computing.sketch_is_computed.Goals as goal

pub returns : goal.returns
returns g c = λ s least gives swept v. sketch_is_computed s least gives swept v
