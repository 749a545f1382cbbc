use Rattle.std.proofs.Common.{◌≡◌, length}
use Rattle.std.specs.List.{filter_map, last_or}
use Rattle.std.specs.Option.{option_map}
use Rattle.pb_wire.specs.Reading.{field_at}
use Rattle.pb_wire.specs.Cursor.{contents_of}
use Rattle.pb_wire.specs.Fields.{number_in, text_in, last_of, first_fault}
use Rattle.pb_wire.specs.FieldValue.{fields_of}
use Rattle.series_model.specs.PairLists.{joined}
use Rattle.pb_messages.specs.Info.{fault_in, pairs_of}
use Rattle.pb_messages.proofs.info_reading.decode_info.Given as goal

abbrev pub invariant-loop-members : goal.invariant-loop-members
invariant-loop-members l =
    let rest = contents_of field_at l.fields in
    let all = fields_of l.bytes (length l.bytes) in
    record {
      fault : first_fault fault_in rest ≡ first_fault fault_in all;
      ty : last_or l.members.ty (filter_map (number_in 1) rest.items) ≡ last_of (number_in 1) all.items;
      name : last_or (option_map (λ t. t.now) l.members.name) (filter_map (text_in 2) rest.items) ≡ last_of (text_in 2) all.items;
      year : last_or l.members.year (filter_map (number_in 3) rest.items) ≡ last_of (number_in 3) all.items;
      count : last_or l.members.count (filter_map (number_in 4) rest.items) ≡ last_of (number_in 4) all.items;
      headers : joined l.members.headers (pairs_of rest.items) ≡ pairs_of all.items;
    }

abbrev pub decreases-loop-members : goal.decreases-loop-members
decreases-loop-members l = length l.fields.rest
