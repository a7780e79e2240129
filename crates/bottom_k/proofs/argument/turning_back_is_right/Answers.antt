use Rattle.bottom_k.proofs.TurningBack.{settled_if_due, due_if_settled, all_due_after}
use Rattle.bottom_k.proofs.argument.turning_back_is_right.Goals as goal

pub returns : goal.returns
returns g c = λ s p sketch mark due done. (
  (λ v d. ((λ h. due_if_settled s p sketch due mark done v d h.0 h.1), (λ n. settled_if_due s p sketch due mark done v d n))),
  all_due_after s p sketch due mark done,
)
