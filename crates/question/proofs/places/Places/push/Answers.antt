-- A place more leaves zeros after it.
use Rattle.question.proofs.Alone.{blank_put}
use Rattle.question.proofs.places.Places.push.Goals as goal

pub invariant_of-self-clause-blank : goal.invariant_of-self-clause-blank
invariant_of-self-clause-blank c = blank_put c.args.self.now.items c.args.self.now.count c.args.place c.args.self.now.blank
