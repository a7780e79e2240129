use Rattle.graph.proofs.LeastWays.{way_laws}
use Rattle.graph.proofs.law.laws_of_ways.Goals as goal

pub returns : goal.returns
returns g c = way_laws g.L.Measure.laws
