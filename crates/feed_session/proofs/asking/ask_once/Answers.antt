use Rattle.act_model.specs.declared.acts.Act.TheVariants.{Offer}
use Rattle.feed_session.proofs.Asked.{tried_badly}
use Rattle.feed_session.proofs.asking.ask_once.Goals as goal

pub returns-in-Ok-Memory-clause-asked : goal.returns-in-Ok-Memory-clause-asked
returns-in-Ok-Memory-clause-asked g c =
    let made = rw c.in-Ok-Memory.field-0-is at c.in-Ok-Memory.ensures.asked.done in
    tried_badly g.A.Actor.number g.A.Actor.between c.args.actor.now c.ask_offer.new.actor (Offer c.args.name c.args.ty c.args.t c.args.line c.args.now) made
