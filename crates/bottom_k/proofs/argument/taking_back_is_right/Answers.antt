use Rattle.std.proofs.Common.{suc, arith}
use Rattle.bottom_k.proofs.DueSketches.{due_before}
use Rattle.bottom_k.proofs.argument.taking_back_is_right.Goals as goal

pub returns : goal.returns
returns g c = λ s p sketch due v inside. due_before s v (suc p) p (sketch v) (omega arith) (due v inside)
