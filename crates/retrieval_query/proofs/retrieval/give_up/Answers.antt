use Rattle.std.proofs.Common.{◌≡◌}
use Rattle.act_model.specs.declared.acts.Answer.TheVariants.{NoPin, NotYours, Unpinned}
use Rattle.retrieval_query.proofs.Steps.{gives_it_up}
use Rattle.retrieval_query.proofs.retrieval.give_up.Goals as goal

pub unreachable-requires : goal.unreachable-requires
unreachable-requires g c =
    let made = rw c.in-NoPin.is at c.in_ok-ask_unpin.ensures.asked.done in
    let h = c.requires.holds in
    let bad : NoPin ≡ Unpinned = gives_it_up g.A.Actor.number g.A.Actor.between g.A.Actor.stands g.met.A.Actor.legal g.met.A.Actor.sound c.args.actor.now c.ask_unpin.new.actor c.args.pin h.0 h.1 NoPin h.2 made in
    cc

pub unreachable-requires-in-NotYours : goal.unreachable-requires-in-NotYours
unreachable-requires-in-NotYours g c =
    let made = rw c.in-NotYours.is at c.in_ok-ask_unpin.ensures.asked.done in
    let h = c.requires.holds in
    let bad : NotYours c.in-NotYours.owner ≡ Unpinned = gives_it_up g.A.Actor.number g.A.Actor.between g.A.Actor.stands g.met.A.Actor.legal g.met.A.Actor.sound c.args.actor.now c.ask_unpin.new.actor c.args.pin h.0 h.1 (NotYours c.in-NotYours.owner) h.2 made in
    cc
