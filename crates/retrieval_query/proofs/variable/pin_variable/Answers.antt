use Rattle.act_model.specs.declared.acts.Answer.TheVariants.{Pinned}
use Rattle.retrieval_query.proofs.Pinning.{pin_held, tail_events}
use Rattle.retrieval_query.proofs.variable.pin_variable.Goals as goal

pub returns-in-Ok-Pinned-clause-held : goal.returns-in-Ok-Pinned-clause-held
returns-in-Ok-Pinned-clause-held g c =
    let A = g.A.Actor in
    let w = c.in-Ok-Pinned in
    let made = rw w.field-0-is at w.ensures.asked.done in
    record {
      holds = pin_held A.number A.between A.stands g.met.A.Actor.legal g.met.A.Actor.sound g.met.A.Actor.number_stays c.args.actor.now c.ask_pin.new.actor _ _ _ _ _ _ _ made c.requires.stands.0 c.requires.stands.1;
      events = tail_events A.number A.between A.stands g.met.A.Actor.legal g.met.A.Actor.sound g.met.A.Actor.number_stays c.args.actor.now c.ask_pin.new.actor _ _ _ _ _ _ _ made c.requires.stands.0 c.requires.stands.1;
    }
