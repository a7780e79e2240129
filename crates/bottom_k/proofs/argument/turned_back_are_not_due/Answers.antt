use Rattle.bottom_k.proofs.TurningBack.{not_due_if_turned, turned_if_not_due}
use Rattle.bottom_k.proofs.argument.turned_back_are_not_due.Goals as goal

pub returns : goal.returns
returns g c = λ s p sketch mark due done v. (
  (λ d is full. not_due_if_turned s p sketch due mark done v d is full),
  (λ h. turned_if_not_due s p sketch due mark done v h),
)
