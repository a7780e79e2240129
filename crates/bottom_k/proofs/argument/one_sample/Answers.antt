use Rattle.bottom_k.proofs.Firsts.{one_first}
use Rattle.bottom_k.proofs.argument.one_sample.Goals as goal

pub returns : goal.returns
returns g c = λ s swept t xs ys. ((λ v one two. one_first xs ys one two), (λ starts one two. one_first xs ys one two))
