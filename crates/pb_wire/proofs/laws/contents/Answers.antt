use Rattle.pb_wire.specs.Reading.{varint_at, field_at}
use Rattle.pb_wire.proofs.ContentsLemmas.{contents_unrolled}
use Rattle.pb_wire.proofs.FieldTexts.{field_shrinks, varint_shrinks}
use Rattle.pb_wire.proofs.laws.contents.Goals as goal

pub returns-clause-fields : goal.returns-clause-fields
returns-clause-fields c = contents_unrolled field_at field_shrinks

pub returns-clause-numbers : goal.returns-clause-numbers
returns-clause-numbers c = contents_unrolled varint_at varint_shrinks
