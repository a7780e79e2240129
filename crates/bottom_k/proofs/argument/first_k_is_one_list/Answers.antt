use Rattle.bottom_k.proofs.Firsts.{one_first}
use Rattle.bottom_k.proofs.argument.first_k_is_one_list.Goals as goal

pub returns : goal.returns
returns g c = λ k number xs ys one two. one_first xs ys one two
