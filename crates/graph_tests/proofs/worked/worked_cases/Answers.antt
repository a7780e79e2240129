use Rattle.std.proofs.Common.{refl}
use Rattle.graph.specs.LeastLengths.{least_table}
use Rattle.graph_tests.proofs.worked.worked_cases.Goals as goal

pub returns : goal.returns
unfolding least_table
returns c = record { seconds = refl; rise = refl; fares = refl }
