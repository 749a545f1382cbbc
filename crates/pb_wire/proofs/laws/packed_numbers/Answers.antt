use Rattle.pb_wire.specs.Grammar.{IsVarint}
use Rattle.pb_wire.specs.Reading.{varint_at}
use Rattle.pb_wire.proofs.GrammarLemmas.{varint_found, varint_only}
use Rattle.pb_wire.proofs.FieldTexts.{varint_shrinks}
use Rattle.pb_wire.proofs.MessageLemmas.{sequence_found, sequence_read, no_longer}
use Rattle.pb_wire.proofs.laws.packed_numbers.Goals as goal

pub returns-clause-found : goal.returns-clause-found
returns-clause-found c = sequence_found varint_at IsVarint varint_shrinks varint_found

pub returns-clause-only : goal.returns-clause-only
returns-clause-only c = sequence_read varint_at IsVarint varint_shrinks varint_only

pub returns-clause-longest : goal.returns-clause-longest
returns-clause-longest c = λ end front rest s others items more e h fault k same. no_longer varint_at IsVarint varint_shrinks varint_only end e items more front rest s others same h k fault
