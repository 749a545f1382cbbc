use Rattle.workers.proofs.Pushing.{gives_none}
use Rattle.workers.proofs.drawing.draw_one.Goals as goal

pub returns-in-Err-clause-clock : goal.returns-in-Err-clause-clock
returns-in-Err-clause-clock g c = gives_none (g.C.Clock.coming c.args.clock.now)
