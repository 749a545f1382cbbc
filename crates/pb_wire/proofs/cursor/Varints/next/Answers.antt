use Rattle.std.proofs.Common.{◌≡◌, ℕ, ◌<◌, length, arith}
use Rattle.std.proofs.lemmas.Result.{err_from_is_err_and}
use Rattle.pb_wire.specs.Reading.{varint_at}
use Rattle.pb_wire.specs.Cursor.{Cursor}
use Rattle.pb_wire.proofs.ContentsLemmas.{next_ended, next_refused, next_taken}
use Rattle.pb_wire.proofs.FieldTexts.{varint_shrinks}
use Rattle.pb_wire.proofs.cursor.Varints.next.Goals as goal

pub returns-then-is_empty : goal.returns-then-is_empty
returns-then-is_empty c =
    let at_cursor : Cursor = record { rest = c.self.inside.rest.now; end = c.self.inside.end } in
    let empty : length c.self.inside.rest.now ≡ 0 = grind arith in
    rw (← c.self.view_is) (next_ended varint_at (λ (n : ℕ). n) varint_shrinks at_cursor empty)

pub returns-in_err-number : goal.returns-in_err-number
returns-in_err-number c =
    let at_cursor : Cursor = record { rest = c.self.inside.rest.now; end = c.self.inside.end } in
    let p = err_from_is_err_and c.from_residual.result c.from_residual.ensures.1 in
    let some : 0 < length c.self.inside.rest.now = grind arith in
    rw (p.1, p.2, ← c.self.view_is) (next_refused varint_at (λ (n : ℕ). n) varint_shrinks at_cursor c.in_err-number.field-0.0 some c.in_err-number.ensures.read)

pub returns : goal.returns
returns c =
    let at_cursor : Cursor = record { rest = c.self.inside.rest.now; end = c.self.inside.end } in
    rw (← c.self.view_is) (next_taken varint_at varint_shrinks at_cursor c.in_ok-number.number c.in_ok-number.rest.now c.in_ok-number.ensures.read)
