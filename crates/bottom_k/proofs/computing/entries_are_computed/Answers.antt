use Rattle.bottom_k.proofs.DueLists.{entries_are_computed, due_if_passes, passes_if_due, run_out_is_computed}
use Rattle.bottom_k.proofs.computing.entries_are_computed.Goals as goal

pub returns : goal.returns
returns g c = λ s least gives. (
  (λ swept. entries_are_computed s least gives swept),
  (λ swept cells. ((λ h. due_if_passes s least gives swept cells h), (λ h. passes_if_due s least gives swept cells h))),
  (λ cells p u. run_out_is_computed s least gives cells p u),
)
