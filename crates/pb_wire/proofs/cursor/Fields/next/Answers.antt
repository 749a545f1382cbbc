use Rattle.std.proofs.Common.{◌≡◌, ◌<◌, length, arith}
use Rattle.std.proofs.lemmas.Result.{err_from_is_err_and}
use Rattle.pb_wire.specs.Message.{view}
use Rattle.pb_wire.specs.Reading.{field_at}
use Rattle.pb_wire.specs.Cursor.{Cursor}
use Rattle.pb_wire.proofs.ContentsLemmas.{next_ended, next_refused, next_taken}
use Rattle.pb_wire.proofs.FieldTexts.{field_shrinks, blob_inside}
use Rattle.pb_wire.proofs.cursor.Fields.next.Goals as goal

pub returns-then-is_empty-clause-next : goal.returns-then-is_empty-clause-next
returns-then-is_empty-clause-next c =
    let at_cursor : Cursor = record { rest = c.self.inside.rest.now; end = c.self.inside.end } in
    let empty : length c.self.inside.rest.now ≡ 0 = grind arith in
    rw (← c.self.view_is) (next_ended field_at view field_shrinks at_cursor empty)

pub returns-in_err-field-clause-next : goal.returns-in_err-field-clause-next
returns-in_err-field-clause-next c =
    let at_cursor : Cursor = record { rest = c.self.inside.rest.now; end = c.self.inside.end } in
    let p = err_from_is_err_and c.from_residual.result c.from_residual.ensures.1 in
    let some : 0 < length c.self.inside.rest.now = grind arith in
    rw (p.1, p.2, ← c.self.view_is) (next_refused field_at view field_shrinks at_cursor c.in_err-field.field-0.0 some c.in_err-field.ensures.read)

pub returns-clause-next : goal.returns-clause-next
returns-clause-next c =
    let at_cursor : Cursor = record { rest = c.self.inside.rest.now; end = c.self.inside.end } in
    rw (← c.self.view_is) (next_taken field_at field_shrinks at_cursor (view c.in_ok-field.field) c.in_ok-field.rest.now c.in_ok-field.ensures.read)

pub returns-clause-inside : goal.returns-clause-inside
returns-clause-inside c = blob_inside c.self.inside.end c.self.inside.rest.now c.in_ok-field.rest.now (view c.in_ok-field.field) c.self.invariant c.in_ok-field.ensures.read
