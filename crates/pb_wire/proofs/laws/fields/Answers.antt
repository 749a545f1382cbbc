use Rattle.pb_wire.proofs.FieldLemmas.{field_found, field_only, field_not_refused}
use Rattle.pb_wire.proofs.laws.fields.Goals as goal

pub returns-clause-found : goal.returns-clause-found
returns-clause-found c = field_found

pub returns-clause-only : goal.returns-clause-only
returns-clause-only c = field_only

pub returns-clause-refused : goal.returns-clause-refused
returns-clause-refused c = field_not_refused
