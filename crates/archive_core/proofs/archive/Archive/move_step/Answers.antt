use Rattle.archive_core.proofs.archive.Archive.move_step.Goals as goal

pub returns : goal.returns
returns g c who = rw c.answered.ensures (c.step_move.ensures who)
