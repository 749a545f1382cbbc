use Rattle.act_model.specs.Machine.{Machine}
use Rattle.feed_session.specs.Asks.{offer_of}
use Rattle.feed_session.proofs.Asked.{Trying}
use Rattle.feed_session.proofs.asking.offer.Given as goal

abbrev pub invariant-tries : goal.invariant-tries
invariant-tries g l = record {
  stands : (m : Machine) × g.A.Actor.stands l.actor m;
  trying : Trying g.A.Actor.number g.A.Actor.between l.fn.actor (offer_of l.info (record { t = l.t; line = l.line }) l.now) l.actor;
}
