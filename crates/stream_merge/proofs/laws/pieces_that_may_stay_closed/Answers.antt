use Rattle.stream_merge.proofs.Answering.{cut}
use Rattle.stream_merge.proofs.laws.pieces_that_may_stay_closed.Goals as goal

pub returns : goal.returns
returns c = cut
