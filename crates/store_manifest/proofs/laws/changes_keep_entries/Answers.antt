use Rattle.store_manifest.proofs.Order.{changes_keep}
use Rattle.store_manifest.proofs.laws.changes_keep_entries.Goals as goal

pub returns : goal.returns
returns c = changes_keep
