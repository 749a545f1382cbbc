use Rattle.archive_core.proofs.archive.Archive.details.Goals as goal

pub returns-clause-acted : goal.returns-clause-acted
returns-clause-acted g c who = rw c.answered.ensures (c.describe_named.ensures.acted who)
