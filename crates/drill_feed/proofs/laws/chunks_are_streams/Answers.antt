use Rattle.drill_feed.proofs.Chunks.{chunk_file, chunk_streams}
use Rattle.drill_feed.proofs.laws.chunks_are_streams.Goals as goal

pub returns-clause-streams : goal.returns-clause-streams
returns-clause-streams c = chunk_streams

pub returns-clause-files : goal.returns-clause-files
returns-clause-files c = chunk_file
