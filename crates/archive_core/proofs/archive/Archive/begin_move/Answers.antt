use Rattle.archive_core.proofs.archive.Archive.begin_move.Goals as goal

pub returns-clause-acted : goal.returns-clause-acted
returns-clause-acted g c who = rw c.answered.ensures (c.begin_due.ensures.acted who)
