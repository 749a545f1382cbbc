use Rattle.archive_core.specs.Parts.{memory_in}
use Rattle.archive_core.proofs.archive.Archive.names.Goals as goal

pub returns : goal.returns
returns g c who = c.names.ensures (memory_in c.args.self.now) who
