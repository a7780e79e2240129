use Rattle.tables.proofs.MatchingWalks.{linked_matching}
use Rattle.tables.proofs.links.linked_are_matching.Goals as goal

pub returns : goal.returns
returns g c = λ home cells v. linked_matching home cells v
