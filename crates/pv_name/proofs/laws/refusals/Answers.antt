use Rattle.pv_name.proofs.Refusals.{unique}
use Rattle.pv_name.proofs.laws.refusals.Goals as goal

pub returns-clause-unique : goal.returns-clause-unique
returns-clause-unique c = unique
