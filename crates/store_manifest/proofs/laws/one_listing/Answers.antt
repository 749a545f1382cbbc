use Rattle.store_manifest.proofs.Committing.{one_listing}
use Rattle.store_manifest.proofs.laws.one_listing.Goals as goal

pub returns : goal.returns
returns c = one_listing
