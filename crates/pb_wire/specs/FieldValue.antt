-- A FieldValue: 1 name and 2 val, required strings.
use Rattle.std.specs.Prelude.{◌≡◌, ℕ, ◌==◌, ◌||◌, if◌then◌else◌, List, Option, Some, None, Result, Ok, Err}
use Rattle.std.specs.Option.{option_map}
use Rattle.pb_wire.specs.Message.{WireField}
use Rattle.pb_wire.specs.Reading.{field_at}
use Rattle.pb_wire.specs.Cursor.{Placed, Contents, contents_of}
use Rattle.pb_wire.specs.declared.fault.FieldFault.{FieldFault}
use Rattle.pb_wire.specs.Fields.{blob_bytes, text_in, last_of, wrong_where, first_fault}

-- A member has another wire type, which is told under the FieldValue's number.
abbrev pub member_fault : ℕ → Placed WireField → Option FieldFault
member_fault number x = if x.item.number == 1 || x.item.number == 2 then wrong_where (blob_bytes x.item.value) number else None

-- The fields in bytes that end at this place.
abbrev pub fields_of : List ℕ → ℕ → Contents WireField
fields_of bytes behind = contents_of field_at (record { rest = bytes; end = behind })

-- The first fault of a FieldValue.
unfoldable pub pair_fault : ℕ → List ℕ → ℕ → Option FieldFault
pair_fault number bytes behind = first_fault (member_fault number) (fields_of bytes behind)

-- Both, where both are there.
abbrev pub both : {A B : Type 0} → Option A → Option B → Option (A × B)
both (Some x) (Some y) = Some (x, y)
both (Some x) None = None
both None y = None

-- The name and the value, the last of each.
unfoldable pub pair_of : List ℕ → ℕ → Option (List ℕ × List ℕ)
pair_of bytes behind = both (last_of (text_in 1) (fields_of bytes behind).items) (last_of (text_in 2) (fields_of bytes behind).items)

-- What a function returned is what the bytes hold, or their first fault.
abbrev pub ReadsPair : {X : Type 0} → (X → List ℕ × List ℕ) → ℕ → List ℕ → ℕ → Result (Option X) FieldFault → Type 0
ReadsPair seen number bytes behind (Ok pair) = (pair_fault number bytes behind ≡ None) × (pair_of bytes behind ≡ option_map seen pair)
ReadsPair seen number bytes behind (Err fault) = pair_fault number bytes behind ≡ Some fault
