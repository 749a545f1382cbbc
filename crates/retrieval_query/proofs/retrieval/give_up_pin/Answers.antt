use Rattle.retrieval_query.proofs.Answered.{gives_up_so}
use Rattle.retrieval_query.proofs.retrieval.give_up_pin.Goals as goal

pub give_up-unpinned-requires : goal.give_up-unpinned-requires
give_up-unpinned-requires g c = record { holds = (0, c.args.variable.pieces, c.requires.held.holds) }

pub returns-clause-gives_up : goal.returns-clause-gives_up
returns-clause-gives_up g c = gives_up_so g.A.Actor.number g.A.Actor.between g.A.Actor.is_spent c.args.actor.now c.give_up-unpinned.new.actor c.args.variable.pin c.give_up-unpinned.result c.give_up-unpinned.ensures.made c.give_up-unpinned.ensures.spent
