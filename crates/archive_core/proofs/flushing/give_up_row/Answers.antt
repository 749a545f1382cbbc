use Rattle.archive_core.proofs.Batches.{gives_none, gives_part}
use Rattle.archive_core.proofs.flushing.give_up_row.Goals as goal

pub returns-in_default : goal.returns-in_default
returns-in_default c = gives_none c.args.end.now c.args.intake.now c.in_default.is

pub returns-in-Some : goal.returns-in-Some
returns-in-Some c = gives_part c.args.end.now c.in-Some.last c.args.intake.now c.trim.new.self c.in-Some.is c.trim.ensures.tail
