use Rattle.archive_core.proofs.archive.Archive.pin.Goals as goal

pub returns-clause-acted : goal.returns-clause-acted
returns-clause-acted g c = rw c.answered.ensures (c.pin_named.ensures.acted)
