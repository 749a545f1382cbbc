use Rattle.act_model.proofs.Histories.{made_nothing, made_one, made_joined, last_step}
use Rattle.act_model.proofs.actor.acts_are_steps.Goals as goal

pub returns-clause-none : goal.returns-clause-none
returns-clause-none g c = made_nothing g.A.Actor.number g.A.Actor.between g.met.A.Actor.nothing

pub returns-clause-one : goal.returns-clause-one
returns-clause-one g c = made_one g.A.Actor.number g.A.Actor.between

pub returns-clause-more : goal.returns-clause-more
returns-clause-more g c = made_joined g.A.Actor.number g.A.Actor.between g.met.A.Actor.joined g.met.A.Actor.number_stays

pub returns-clause-last : goal.returns-clause-last
returns-clause-last g c = last_step g.A.Actor.number g.A.Actor.between g.A.Actor.stands g.met.A.Actor.legal
