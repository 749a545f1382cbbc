use Rattle.pb_wire.specs.Grammar.{IsField}
use Rattle.pb_wire.specs.Reading.{field_at}
use Rattle.pb_wire.proofs.FieldLemmas.{field_found, field_only}
use Rattle.pb_wire.proofs.FieldTexts.{field_shrinks}
use Rattle.pb_wire.proofs.MessageLemmas.{sequence_found, sequence_read, no_longer}
use Rattle.pb_wire.proofs.laws.messages.Goals as goal

pub returns-clause-found : goal.returns-clause-found
returns-clause-found c = sequence_found field_at IsField field_shrinks field_found

pub returns-clause-only : goal.returns-clause-only
returns-clause-only c = sequence_read field_at IsField field_shrinks field_only

pub returns-clause-longest : goal.returns-clause-longest
returns-clause-longest c = λ end front rest s others items more e h fault k same. no_longer field_at IsField field_shrinks field_only end e items more front rest s others same h k fault
