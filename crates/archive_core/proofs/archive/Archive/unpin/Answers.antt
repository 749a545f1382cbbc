use Rattle.archive_core.specs.Parts.{memory_in}
use Rattle.archive_core.proofs.archive.Archive.unpin.Goals as goal

pub returns-clause-acted : goal.returns-clause-acted
returns-clause-acted g c = c.unpin.ensures.acted (memory_in c.args.self.now)
