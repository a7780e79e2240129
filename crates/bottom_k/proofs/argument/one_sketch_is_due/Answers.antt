use Rattle.graph.specs.LeastLengths.{least_length}
use Rattle.graph.proofs.Computed.{least_length_right}
use Rattle.bottom_k.specs.Computed.{due_list}
use Rattle.bottom_k.proofs.DueSketches.{one_is_due}
use Rattle.bottom_k.proofs.DueLists.{sketch_is_computed}
use Rattle.bottom_k.proofs.argument.one_sketch_is_due.Goals as goal

pub returns : goal.returns
returns g c = λ s swept v. (
  (due_list s (least_length s.measure s.map) swept v, sketch_is_computed s (least_length s.measure s.map) (least_length_right s.measure s.map) swept v),
  λ es fs due also. one_is_due s v swept es fs due also,
)
