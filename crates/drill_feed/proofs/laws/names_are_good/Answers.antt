use Rattle.drill_feed.proofs.Names.{is_name}
use Rattle.drill_feed.proofs.laws.names_are_good.Goals as goal

pub returns : goal.returns
returns c = is_name
