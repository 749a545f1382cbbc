use Rattle.store_manifest.proofs.Meaning.{one_bad, folds_good}
use Rattle.store_manifest.proofs.laws.bad_batches.Goals as goal

pub returns-clause-one : goal.returns-clause-one
returns-clause-one c = one_bad

pub returns-clause-excluded : goal.returns-clause-excluded
returns-clause-excluded c = folds_good
