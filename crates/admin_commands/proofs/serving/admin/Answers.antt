use Rattle.std.proofs.Common.{inr, refl}
use Rattle.admin_commands.specs.Serving.{spent_reply}
use Rattle.admin_commands.proofs.serving.admin.Goals as goal

pub returns-in-Err-SinkFault-refuse-clause-serves : goal.returns-in-Err-SinkFault-refuse-clause-serves
returns-in-Err-SinkFault-refuse-clause-serves g c =
    let comes = rw c.in-Err-Spent.field-0-is at c.in-Err-Spent.ensures.comes in
    (spent_reply, inr (refl, comes.0, comes.1), c.refuse.ensures.front)
