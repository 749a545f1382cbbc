-- An event: 1 secondsintoyear, 2 nano, 3 val, 4 severity, 5 status, 6 repeatcount, 7 fieldvalues and 8 fieldactualchange.
use Rattle.std.specs.Prelude.{◌≡◌, ℕ, ◌==◌, ◌||◌, if◌then◌else◌, Bool, not, pos, List, [], ◌∷◌, length, map, Option, Some, None, Result, Ok, Err}
use Rattle.std.specs.Option.{option_map, option_map_or, ok_or}
use Rattle.std.specs.List.{flat_map, list_any}
use Rattle.pb_wire.specs.declared.payload.PayloadType.{PayloadType}
use Rattle.pb_wire.specs.declared.payload.PayloadType.TheVariants.{ScalarString, ScalarShort, ScalarFloat, ScalarEnum, ScalarByte, ScalarInt, ScalarDouble, WaveformString, WaveformShort, WaveformFloat, WaveformEnum, WaveformByte, WaveformInt, WaveformDouble}
use Rattle.pb_wire.specs.Message.{WireValue, blob, WireField}
use Rattle.pb_wire.specs.Reading.{◌>>=◌}
use Rattle.pb_wire.specs.Cursor.{Placed}
use Rattle.pb_wire.specs.declared.fault.FieldFault.{FieldFault}
use Rattle.pb_wire.specs.declared.fault.FieldFault.TheVariants.{WrongWire, Missing}
use Rattle.pb_messages.specs.declared.error.EventErr.{EventErr}
use Rattle.pb_messages.specs.declared.error.EventErr.TheVariants.{Fault, Memory}
use Rattle.pb_messages.specs.declared.layout.Layout.{Layout}
use Rattle.pb_messages.specs.declared.value.Value.{Value}
use Rattle.pb_messages.specs.declared.value.Value.TheVariants.{Str, Short, Float, Enum, Byte, Int, Double, Strs, Shorts, Floats, Enums, Bytes, IntList, Doubles}
use Rattle.pb_messages.specs.declared.event.Event.{Event}
use Rattle.pb_wire.specs.Numbers.{uint32_of, int32_of}
use Rattle.pb_wire.specs.Fields.{varint_number, number_in, last_of, wrong_where, first_fault, unless}
use Rattle.pb_wire.specs.FieldValue.{fields_of, pair_fault, pair_of}
use Rattle.series_model.specs.PairLists.{joined}
use Rattle.pb_messages.specs.Element.{int_of, bits32_of, bits64_of, bytes_of}
use Rattle.pb_messages.specs.Layout.{layout_of, elements_in}

-- What a field holds, by its number.
pub data EventField : Type 0 where
  number : EventField
  val : EventField
  field_value : EventField
  unknown : EventField

abbrev pub is_singular : ℕ → Bool
is_singular n = n == 1 || n == 2 || n == 4 || n == 5 || n == 6 || n == 8

abbrev pub part_of : ℕ → EventField
part_of n = if n == 3 then val else (if n == 7 then field_value else (if is_singular n then number else unknown))

-- The fault in one field, whose last byte stands before `behind`.
abbrev pub fault_as : Layout → EventField → ℕ → WireValue → ℕ → Option FieldFault
fault_as layout number n v behind = wrong_where (varint_number v) n
fault_as layout val n v behind = (elements_in layout v behind).fault
fault_as layout field_value n (blob b) behind = pair_fault n b behind
fault_as layout field_value n v behind = Some (WrongWire n)
fault_as layout unknown n v behind = None

abbrev pub fault_in : Layout → Placed WireField → Option FieldFault
fault_in layout x = fault_as layout (part_of x.item.number) x.item.number x.item.value x.behind

-- The elements of a field.
abbrev pub elements_as : Layout → EventField → WireValue → ℕ → List WireValue
elements_as layout val v behind = (elements_in layout v behind).values
elements_as layout part v behind = []

abbrev pub elements_at : Layout → Placed WireField → List WireValue
elements_at layout x = elements_as layout (part_of x.item.number) x.item.value x.behind

-- The elements of val of all fields, in order.
abbrev pub elements_of : Layout → List (Placed WireField) → List WireValue
elements_of layout items = flat_map (elements_at layout) items

-- The pair that a field has, None where one of its members is missing.
abbrev pub pairs_as : EventField → WireValue → ℕ → Option (List (List ℕ × List ℕ))
pairs_as field_value (blob b) behind = option_map (λ p. p ∷ []) (pair_of b behind)
pairs_as part v behind = Some []

-- The pairs of all fields in order, None where a member is missing.
abbrev pub pairs_of : List (Placed WireField) → Option (List (List ℕ × List ℕ))
pairs_of [] = Some []
pairs_of (x ∷ items) = joined (pairs_as (part_of x.item.number) x.item.value x.behind) (pairs_of items)

-- The last of a list, or else x.
abbrev pub last_else : {A : Type 0} → A → List A → A
last_else x [] = x
last_else x (y ∷ ys) = last_else y ys

-- The value is one of the type.
abbrev pub IsOfType : PayloadType → Value → Type 0
IsOfType ty (Str b) = ty ≡ ScalarString
IsOfType ty (Short n) = ty ≡ ScalarShort
IsOfType ty (Float n) = ty ≡ ScalarFloat
IsOfType ty (Enum n) = ty ≡ ScalarEnum
IsOfType ty (Byte b) = ty ≡ ScalarByte
IsOfType ty (Int n) = ty ≡ ScalarInt
IsOfType ty (Double n) = ty ≡ ScalarDouble
IsOfType ty (Strs bs) = ty ≡ WaveformString
IsOfType ty (Shorts ns) = ty ≡ WaveformShort
IsOfType ty (Floats ns) = ty ≡ WaveformFloat
IsOfType ty (Enums ns) = ty ≡ WaveformEnum
IsOfType ty (Bytes b) = ty ≡ WaveformByte
IsOfType ty (IntList ns) = ty ≡ WaveformInt
IsOfType ty (Doubles ns) = ty ≡ WaveformDouble

-- The value of a type: its last element, or the list of all of them. One that needs an element has some other value where there is none.
abbrev pub value_of : PayloadType → List WireValue → Value
value_of ScalarString es = Str (last_else [] (map bytes_of es))
value_of ScalarShort es = Short (last_else (pos 0) (map int_of es))
value_of ScalarFloat es = Float (last_else 0 (map bits32_of es))
value_of ScalarEnum es = Enum (last_else (pos 0) (map int_of es))
value_of ScalarByte es = Byte (last_else [] (map bytes_of es))
value_of ScalarInt es = Int (last_else (pos 0) (map int_of es))
value_of ScalarDouble es = Double (last_else 0 (map bits64_of es))
value_of WaveformString es = Strs (map bytes_of es)
value_of WaveformShort es = Shorts (map int_of es)
value_of WaveformFloat es = Floats (map bits32_of es)
value_of WaveformEnum es = Enums (map int_of es)
value_of WaveformByte es = Bytes (last_else [] (map bytes_of es))
value_of WaveformInt es = IntList (map int_of es)
value_of WaveformDouble es = Doubles (map bits64_of es)

-- A field val is there.
abbrev pub has_val : List (Placed WireField) → Bool
has_val items = list_any (λ x. x.item.number == 3) items

-- The value of the type, which is required where it isn't repeated.
abbrev pub val_of : PayloadType → List (Placed WireField) → Option Value
val_of ty items =
    if (layout_of ty).repeated || has_val items then Some (value_of ty (elements_of (layout_of ty) items)) else None

-- What fields say, member by member.
pub record Members : Type 0 where
  pub secs : Option ℕ
  pub nano : Option ℕ
  pub value : Option Value
  pub severity : Option ℕ
  pub status : Option ℕ
  pub repeat : Option ℕ
  pub fields : Option (List (List ℕ × List ℕ))
  pub actual_change : Option ℕ

-- The last of each number, and all of each repeated one in order.
abbrev pub members_of : PayloadType → List (Placed WireField) → Members
members_of ty items = record {
  secs = last_of (number_in 1) items;
  nano = last_of (number_in 2) items;
  value = val_of ty items;
  severity = last_of (number_in 4) items;
  status = last_of (number_in 5) items;
  repeat = last_of (number_in 6) items;
  fields = pairs_of items;
  actual_change = last_of (number_in 8) items;
}

-- The event of these members, the required ones in the order of their numbers.
unfoldable pub event_with : Members → Result Event FieldFault
event_with m =
    ok_or m.secs (Missing 1) >>= λ secs.
    ok_or m.nano (Missing 2) >>= λ nano.
    ok_or m.value (Missing 3) >>= λ value.
    ok_or m.fields (Missing 7) >>= λ fields.
    Ok (record {
      secs = uint32_of secs;
      nano = uint32_of nano;
      val = value;
      severity = option_map_or int32_of m.severity (pos 0);
      status = option_map_or int32_of m.status (pos 0);
      repeat = option_map uint32_of m.repeat;
      fields = fields;
      actual_change = option_map (λ n. not (n == 0)) m.actual_change;
    })

-- The event that bytes hold, or the first fault.
unfoldable pub event_of : PayloadType → List ℕ → Result Event FieldFault
event_of ty bytes = let c = fields_of bytes (length bytes) in unless (first_fault (fault_in (layout_of ty)) c) (event_with (members_of ty c.items))

-- What a function returned is that event or that fault, unless memory ran out.
abbrev pub Gives : Result Event EventErr → Result Event FieldFault → Type 0
Gives (Ok event) read = read ≡ Ok event
Gives (Err (Fault fault)) read = read ≡ Err fault
Gives (Err Memory) read = Unit {0}

-- The seconds and nanoseconds of the event that bytes hold, or the first fault.
unfoldable pub stamp_of : PayloadType → List ℕ → Result (ℕ × ℕ) FieldFault
stamp_of ty bytes = event_of ty bytes >>= λ event. Ok (event.secs, event.nano)

-- The same by the required members alone, of which val and the field values are there or not.
abbrev pub stamp_with : Option ℕ → Option ℕ → Bool → Bool → Result (ℕ × ℕ) FieldFault
stamp_with secs nano value fields =
    ok_or secs (Missing 1) >>= λ secs.
    ok_or nano (Missing 2) >>= λ nano.
    if value then (if fields then Ok (uint32_of secs, uint32_of nano) else Err (Missing 7)) else Err (Missing 3)
