use Rattle.pb_wire.proofs.FaultLemmas.{field_fault, field_refused}
use Rattle.pb_wire.proofs.laws.faults.Goals as goal

pub returns-clause-found : goal.returns-clause-found
returns-clause-found c = field_fault

pub returns-clause-only : goal.returns-clause-only
returns-clause-only c = field_refused
