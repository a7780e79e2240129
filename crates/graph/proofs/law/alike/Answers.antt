use Rattle.graph.proofs.Alike.{same_graph, same_by_answers}
use Rattle.graph.proofs.law.alike.Goals as goal

pub returns : goal.returns
returns g c = record { arcs = same_graph; answers = same_by_answers }
