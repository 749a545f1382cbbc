use Rattle.store_manifest.proofs.Written.{batch_length}
use Rattle.store_manifest.proofs.laws.changes_take_bytes.Goals as goal

pub returns : goal.returns
returns c = batch_length
