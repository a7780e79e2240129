use Rattle.std.proofs.Common.{refl, rules}
use Rattle.town.proofs.Growing.{sound_arc}
use Rattle.town.proofs.filling.Filling.add_arc.Goals as goal

pub invariant_of-self-clause-sound : goal.invariant_of-self-clause-sound
invariant_of-self-clause-sound g c =
    let filling = c.args.self.now in
    sound_arc filling.tables _ filling.sound c.args.arc c.from-to.result c.len.result c.index.result.now c.longer.result c.from-to.ensures c.len.ensures c.index.ensures c.longer.ensures
    (search rules) (search rules) refl refl c.requires.from c.requires.to c.requires.order
