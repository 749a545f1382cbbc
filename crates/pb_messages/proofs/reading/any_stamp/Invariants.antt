use Rattle.std.proofs.Common.{◌≡◌, ◌||◌, ◌&&◌, length, is_some}
use Rattle.std.specs.List.{filter_map, last_or}
use Rattle.pb_wire.specs.Reading.{field_at}
use Rattle.pb_wire.specs.Cursor.{contents_of}
use Rattle.pb_wire.specs.Fields.{number_in, last_of, first_fault}
use Rattle.pb_wire.specs.FieldValue.{fields_of}
use Rattle.pb_messages.specs.Event.{fault_in, has_val, pairs_of}
use Rattle.pb_messages.proofs.reading.any_stamp.Given as goal

abbrev pub invariant-loop-field : goal.invariant-loop-field
invariant-loop-field l =
    let rest = contents_of field_at l.fields in
    let all = fields_of l.bytes (length l.bytes) in
    record {
      fault : first_fault (fault_in l.layout) rest ≡ first_fault (fault_in l.layout) all;
      secs : last_or l.secs (filter_map (number_in 1) rest.items) ≡ last_of (number_in 1) all.items;
      nano : last_or l.nano (filter_map (number_in 2) rest.items) ≡ last_of (number_in 2) all.items;
      val : (l.val || has_val rest.items) ≡ (l.layout.repeated || has_val all.items);
      whole : (l.whole && is_some (pairs_of rest.items)) ≡ is_some (pairs_of all.items);
    }

abbrev pub decreases-loop-field : goal.decreases-loop-field
decreases-loop-field l = length l.fields.rest
