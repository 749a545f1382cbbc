use Rattle.admin_commands.proofs.Steps.{ends_below}
use Rattle.admin_commands.proofs.calls.ask_page.Goals as goal

pub returns-clause-below : goal.returns-clause-below
returns-clause-below g c =
    let a = g.A.Actor in
    ends_below a.number a.between a.is_spent a.stands g.met.A.Actor.legal g.met.A.Actor.sound c.args.actor.now c.ask_names.new.actor c.args.from c.ask_names.result c.requires.stands.0 c.requires.stands.1 c.ask_names.ensures.asked
