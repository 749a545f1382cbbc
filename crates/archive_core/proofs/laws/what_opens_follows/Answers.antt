use Rattle.archive_core.proofs.Opened.{opens_following}
use Rattle.archive_core.proofs.laws.what_opens_follows.Goals as goal

pub returns : goal.returns
returns c = opens_following
