use Rattle.std.proofs.Common.{◌≡◌, List}
use Rattle.act_model.specs.History.{Done}
use Rattle.feed_session.specs.Asks.{offer_of}
use Rattle.feed_session.specs.Asking.{none, one_more, tally_of}
use Rattle.feed_session.specs.declared.tally.OfferOutcome.{OfferOutcome}
use Rattle.feed_session.proofs.Asked.{full_flushed, full_next, full_stops, trying_ends, trying_starts, trying_stops}
use Rattle.feed_session.proofs.asking.offer.Goals as goal

pub tries-init : goal.tries-init
tries-init g c = record {
  stands = c.requires.stands;
  trying = trying_starts g.A.Actor.number g.A.Actor.between g.met.A.Actor.nothing c.args.actor.now (offer_of c.args.info.now (record { t = c.args.t; line = c.args.line.now }) c.args.now);
}

pub tries-preserved : goal.tries-preserved
tries-preserved g c =
    let number = g.A.Actor.number in
    let between = g.A.Actor.between in
    let joined = g.met.A.Actor.joined in
    let stays = g.met.A.Actor.number_stays in
    let act = offer_of c.args.info.now (record { t = c.args.t; line = c.args.line.now }) c.args.now in
    let tried = rw c.in-Ok-None.field-0-is at c.in-Ok-None.ensures.asked in
    let full = full_next number between joined stays c.args.actor.now c.tries.actor c.offer_once.new.actor act c.tries.invariant.trying tried in
    record {
      stands = c.flush.ensures.stands;
      trying = full_flushed number between joined stays c.args.actor.now c.offer_once.new.actor c.flush.new.actor act full c.in-Ok.ensures.asked;
    }

pub returns-in-Ok-Some-clause-asked : goal.returns-in-Ok-Some-clause-asked
returns-in-Ok-Some-clause-asked g c =
    let act = offer_of c.args.info.now (record { t = c.args.t; line = c.args.line.now }) c.args.now in
    let tried = rw c.in-Ok-Some.field-0-is at c.in-Ok-Some.ensures.asked in
    trying_ends g.A.Actor.number g.A.Actor.between g.met.A.Actor.joined g.met.A.Actor.number_stays (λ (outcome : OfferOutcome) (done : List Done). tally_of done ≡ one_more outcome none) c.args.actor.now c.tries.actor c.offer_once.new.actor act c.in-Ok-Some.outcome c.tries.invariant.trying tried (λ done is. is)

pub returns-in-Err-clause-asked : goal.returns-in-Err-clause-asked
returns-in-Err-clause-asked g c =
    let act = offer_of c.args.info.now (record { t = c.args.t; line = c.args.line.now }) c.args.now in
    trying_stops g.A.Actor.number g.A.Actor.between g.met.A.Actor.joined g.met.A.Actor.number_stays (λ (outcome : OfferOutcome) (done : List Done). tally_of done ≡ one_more outcome none) c.args.actor.now c.tries.actor c.offer_once.new.actor act c.in-Err.stopped c.tries.invariant.trying c.in-Err.ensures.asked

pub returns-in-Err-flush-clause-asked : goal.returns-in-Err-flush-clause-asked
returns-in-Err-flush-clause-asked g c =
    let number = g.A.Actor.number in
    let between = g.A.Actor.between in
    let joined = g.met.A.Actor.joined in
    let stays = g.met.A.Actor.number_stays in
    let act = offer_of c.args.info.now (record { t = c.args.t; line = c.args.line.now }) c.args.now in
    let tried = rw c.in-Ok-None.field-0-is at c.in-Ok-None.ensures.asked in
    let full = full_next number between joined stays c.args.actor.now c.tries.actor c.offer_once.new.actor act c.tries.invariant.trying tried in
    full_stops number between joined stays (λ (outcome : OfferOutcome) (done : List Done). tally_of done ≡ one_more outcome none) c.args.actor.now c.offer_once.new.actor c.flush.new.actor act c.in-Err-flush.stopped full c.in-Err-flush.ensures.asked
