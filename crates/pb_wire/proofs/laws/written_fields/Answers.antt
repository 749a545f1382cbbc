use Rattle.std.proofs.Common.{◌<◌}
use Rattle.std.proofs.lemmas.List.Elements.{recursion_from_All}
use Rattle.pb_wire.proofs.FieldTexts.{field_written, next_written}
use Rattle.pb_wire.proofs.LengthLemmas.{field_shortest}
use Rattle.pb_wire.proofs.laws.written_fields.Goals as goal

pub returns-clause-field : goal.returns-clause-field
returns-clause-field c = field_written

pub returns-clause-back : goal.returns-clause-back
returns-clause-back c = next_written

pub returns-clause-shortest : goal.returns-clause-shortest
returns-clause-shortest c = λ s f bytes h. field_shortest s f (recursion_from_All (λ b. b < 256) s bytes) h
