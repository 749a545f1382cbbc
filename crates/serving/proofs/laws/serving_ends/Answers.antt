-- The law as a contract.
use Rattle.serving.proofs.Law as ends
use Rattle.serving.proofs.Witness as witness
use Rattle.serving.proofs.laws.serving_ends.Goals as goal

pub returns : goal.returns
returns c = record { ends = ends.serving_ends; possible = witness.may_end_so }
