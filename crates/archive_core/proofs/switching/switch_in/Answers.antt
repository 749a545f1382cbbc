use Rattle.archive_core.proofs.switching.switch_in.Goals as goal

pub returns-in-Pause-clause-changes : goal.returns-in-Pause-clause-changes
returns-in-Pause-clause-changes g c = rw c.in-Pause.is c.pause.ensures.changes

pub returns-in-Resume-clause-changes : goal.returns-in-Resume-clause-changes
returns-in-Resume-clause-changes g c = rw c.in-Resume.is c.resume.ensures.changes
