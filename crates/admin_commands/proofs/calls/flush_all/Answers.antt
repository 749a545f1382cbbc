use Rattle.admin_commands.proofs.Steps.{leaves_none}
use Rattle.admin_commands.proofs.calls.flush_all.Goals as goal

pub returns-clause-none_left : goal.returns-clause-none_left
returns-clause-none_left g c =
    let a = g.A.Actor in
    leaves_none a.number a.between a.is_spent a.stands g.met.A.Actor.legal g.met.A.Actor.sound c.args.actor.now c.ask_flush.new.actor c.ask_flush.result c.requires.stands.0 c.requires.stands.1 c.ask_flush.ensures.asked
