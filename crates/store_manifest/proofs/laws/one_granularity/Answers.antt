use Rattle.store_manifest.proofs.Committing.{same_granularity}
use Rattle.store_manifest.proofs.laws.one_granularity.Goals as goal

pub returns : goal.returns
returns c = same_granularity
