use Rattle.archive_core.specs.Parts.{memory_in}
use Rattle.archive_core.proofs.archive.Archive.open_piece.Goals as goal

pub open_piece-requires : goal.open_piece-requires
open_piece-requires g c = let was = c.requires.stands in record { stands = (memory_in c.args.self.now, was.0, was.1) }

pub returns-clause-acted : goal.returns-clause-acted
returns-clause-acted g c = c.open_piece.ensures.acted (memory_in c.args.self.now)
