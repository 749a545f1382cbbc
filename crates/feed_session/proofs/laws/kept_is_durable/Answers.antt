use Rattle.feed_session.proofs.Durable.{kept_is_durable}
use Rattle.feed_session.proofs.laws.kept_is_durable.Goals as goal

pub returns : goal.returns
returns g c = kept_is_durable g.A.Actor.number g.A.Actor.stands g.A.Actor.between g.met.A.Actor.legal g.met.A.Actor.sound
