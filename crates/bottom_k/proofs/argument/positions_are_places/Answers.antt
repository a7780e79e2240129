use Rattle.bottom_k.proofs.PositionsAndPlaces.{noted_if_place, place_if_noted}
use Rattle.bottom_k.proofs.argument.positions_are_places.Goals as goal

pub returns : goal.returns
returns g c = λ f swept v u d. ((λ n. noted_if_place f swept v u d n), (λ r. place_if_noted f swept v u d r.0 r.1 r.2 r.3))
