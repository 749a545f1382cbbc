use Rattle.gate_journal.proofs.OneReading.{one_bad, no_batches}
use Rattle.gate_journal.proofs.laws.one_bad_place.Goals as goal

pub returns-clause-place : goal.returns-clause-place
returns-clause-place c = one_bad

pub returns-clause-excluded : goal.returns-clause-excluded
returns-clause-excluded c = no_batches
