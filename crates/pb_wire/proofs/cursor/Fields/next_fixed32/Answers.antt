use Rattle.pb_wire.specs.Message.{WireField, fixed32}
use Rattle.pb_wire.specs.Reading.{field_at}
use Rattle.pb_wire.specs.Cursor.{Cursor}
use Rattle.pb_wire.proofs.ContentsLemmas.{next_taken}
use Rattle.pb_wire.proofs.FieldTexts.{field_shrinks}
use Rattle.pb_wire.proofs.cursor.Fields.next_fixed32.Goals as goal

pub returns-clause-taken : goal.returns-clause-taken
returns-clause-taken c =
    let at_cursor : Cursor = record { rest = c.self.inside.rest.now; end = c.self.inside.end } in
    let item : WireField = record { number = c.args.number; value = fixed32 c.in_ok-n.n } in
    rw (← c.self.view_is) (next_taken field_at field_shrinks at_cursor item c.in_ok-n.rest.now c.in_ok-n.ensures.read)
