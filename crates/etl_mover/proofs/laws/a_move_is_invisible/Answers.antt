use Rattle.etl_mover.proofs.Beginning.{published_from_short, published_from_medium, all_published, retired_from_short, retired_from_medium}
use Rattle.etl_mover.proofs.laws.a_move_is_invisible.Goals as goal

pub returns : goal.returns
returns c = record { published = published_from_short; published_deep = published_from_medium; covered = all_published; retired = retired_from_short; retired_deep = retired_from_medium }
