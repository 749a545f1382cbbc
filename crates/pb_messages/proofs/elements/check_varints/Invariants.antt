use Rattle.std.proofs.Common.{◌≡◌, length}
use Rattle.pb_wire.specs.Reading.{varint_at}
use Rattle.pb_wire.specs.Cursor.{contents_of}
use Rattle.pb_messages.proofs.elements.check_varints.Given as goal

abbrev pub invariant-loop : goal.invariant-loop
invariant-loop l = (contents_of varint_at l.numbers).fault ≡ (contents_of varint_at (record { rest = l.text; end = l.behind })).fault

abbrev pub decreases-loop : goal.decreases-loop
decreases-loop l = length l.numbers.rest
