use Rattle.bottom_k.proofs.SampleFacts.{sample_is_right}
use Rattle.bottom_k.proofs.argument.sample_is_right.Goals as goal

pub returns : goal.returns
returns g c = λ s swept v es due t. sample_is_right s swept v t es due
