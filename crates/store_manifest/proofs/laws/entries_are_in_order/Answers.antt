use Rattle.store_manifest.proofs.Order.{folds_entries, folds_sized}
use Rattle.store_manifest.proofs.laws.entries_are_in_order.Goals as goal

pub returns-clause-are : goal.returns-clause-are
returns-clause-are c g name image entries lists = folds_entries g lists.batches entries lists.means

pub returns-clause-sized : goal.returns-clause-sized
returns-clause-sized c g name image entries lists = folds_sized g lists.batches entries lists.means
