use Rattle.std.proofs.Common.{◌≡◌, length, map}
use Rattle.pb_wire.specs.Message.{varint}
use Rattle.pb_wire.specs.Reading.{varint_at}
use Rattle.pb_wire.specs.Cursor.{contents_of, items_of}
use Rattle.pb_messages.specs.Adding.{with_elements}
use Rattle.pb_messages.proofs.elements.add_varints.Given as goal

abbrev pub invariant-loop-number : goal.invariant-loop-number
invariant-loop-number l =
    let rest = contents_of varint_at l.numbers in
    let all = contents_of varint_at (record { rest = l.text; end = l.behind }) in
    record {
      fault : rest.fault ≡ all.fault;
      added : with_elements l.val (map (λ n. varint n) (items_of rest)) ≡ with_elements l.fn.val (map (λ n. varint n) (items_of all));
    }

abbrev pub decreases-loop-number : goal.decreases-loop-number
decreases-loop-number l = length l.numbers.rest
