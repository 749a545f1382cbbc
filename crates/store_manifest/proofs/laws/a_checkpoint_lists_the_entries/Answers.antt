use Rattle.store_manifest.proofs.WholeBatch.{whole_lists, whole_length}
use Rattle.store_manifest.proofs.laws.a_checkpoint_lists_the_entries.Goals as goal

pub returns-clause-lists : goal.returns-clause-lists
returns-clause-lists c = whole_lists

pub returns-clause-length : goal.returns-clause-length
returns-clause-length c = whole_length
