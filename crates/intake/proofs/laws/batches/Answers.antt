use Rattle.intake.proofs.BatchLemmas.{batch_is_a_front, batch_is_enough, batch_is_no_more}
use Rattle.intake.proofs.laws.batches.Goals as goal

pub returns : goal.returns
returns c = record { front = batch_is_a_front; enough = batch_is_enough; no_more = batch_is_no_more }
