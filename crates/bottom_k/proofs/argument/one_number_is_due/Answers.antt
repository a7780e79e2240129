use Rattle.graph.specs.LeastLengths.{least_length}
use Rattle.graph.proofs.Computed.{least_length_right}
use Rattle.bottom_k.specs.Computed.{entries_due}
use Rattle.bottom_k.proofs.EntriesCounted.{one_number_due}
use Rattle.bottom_k.proofs.DueLists.{entries_are_computed}
use Rattle.bottom_k.proofs.argument.one_number_is_due.Goals as goal

pub returns : goal.returns
returns g c = λ s swept. (
  (entries_due s (least_length s.measure s.map) swept, entries_are_computed s (least_length s.measure s.map) (least_length_right s.measure s.map) swept),
  λ a b one two. one_number_due s swept a b one two,
)
