use Rattle.std.proofs.Common.{refl, rules}
use Rattle.town.proofs.Growing.{sound_place}
use Rattle.town.proofs.filling.Filling.add_place.Goals as goal

pub invariant_of-self-clause-sound : goal.invariant_of-self-clause-sound
invariant_of-self-clause-sound g c =
    let filling = c.args.self.now in
    sound_place filling.tables _ filling.sound c.args.rank c.args.name (search rules) (search rules) (search rules) refl
