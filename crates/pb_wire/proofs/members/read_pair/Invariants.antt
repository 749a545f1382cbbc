use Rattle.std.proofs.Common.{◌≡◌, length}
use Rattle.std.specs.List.{filter_map, last_or}
use Rattle.std.specs.Option.{option_map}
use Rattle.pb_wire.specs.Reading.{field_at}
use Rattle.pb_wire.specs.Cursor.{contents_of}
use Rattle.pb_wire.specs.Fields.{text_in, last_of, first_fault}
use Rattle.pb_wire.specs.FieldValue.{member_fault, fields_of, pair_fault}
use Rattle.pb_wire.proofs.members.read_pair.Given as goal

abbrev pub invariant-loop-field : goal.invariant-loop-field
invariant-loop-field l =
    let rest = contents_of field_at l.fields in
    record {
      fault : first_fault (member_fault l.number) rest ≡ pair_fault l.number l.bytes l.behind;
      name : last_or (option_map (λ t. t.now) l.name) (filter_map (text_in 1) rest.items) ≡ last_of (text_in 1) (fields_of l.bytes l.behind).items;
      val : last_or (option_map (λ t. t.now) l.val) (filter_map (text_in 2) rest.items) ≡ last_of (text_in 2) (fields_of l.bytes l.behind).items;
    }

abbrev pub decreases-loop-field : goal.decreases-loop-field
decreases-loop-field l = length l.fields.rest
