use Rattle.drill_feed.proofs.Moves as moves
use Rattle.drill_feed.proofs.laws.one_end.Goals as goal

pub returns : goal.returns
returns c = moves.one_end
