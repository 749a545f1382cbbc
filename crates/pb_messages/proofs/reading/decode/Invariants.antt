use Rattle.std.proofs.Common.{◌≡◌, length}
use Rattle.pb_wire.specs.Reading.{field_at}
use Rattle.pb_wire.specs.Cursor.{contents_of}
use Rattle.pb_wire.specs.Fields.{first_fault}
use Rattle.pb_wire.specs.FieldValue.{fields_of}
use Rattle.pb_messages.specs.Event.{fault_in}
use Rattle.pb_messages.specs.Reading.{no_members, with_fields}
use Rattle.pb_messages.proofs.reading.decode.Given as goal

abbrev pub invariant-loop-members : goal.invariant-loop-members
invariant-loop-members l =
    let rest = contents_of field_at l.fields in
    let all = fields_of l.bytes (length l.bytes) in
    record {
      fault : first_fault (fault_in l.layout) rest ≡ first_fault (fault_in l.layout) all;
      members : with_fields l.layout l.members rest.items ≡ with_fields l.layout (no_members l.fn.ty l.layout.repeated) all.items;
    }

abbrev pub decreases-loop-members : goal.decreases-loop-members
decreases-loop-members l = length l.fields.rest
