use Rattle.bottom_k.proofs.SampleFacts.{joint_sample_is_right}
use Rattle.bottom_k.proofs.argument.joint_sample_is_right.Goals as goal

pub returns : goal.returns
returns g c = λ s swept sketch starts due t xs firsts. joint_sample_is_right s swept sketch starts due t xs firsts
