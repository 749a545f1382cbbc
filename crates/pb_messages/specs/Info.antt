-- A header: 1 type, 2 pvname, 3 year, 4 elementCount and 15 headers.
use Rattle.std.specs.Prelude.{◌≡◌, ℕ, ◌%◌, ◌^◌, ◌==◌, ◌||◌, ◌&&◌, if◌then◌else◌, ℤ, pos, int_le, List, [], ◌∷◌, length, Option, Some, None, Result, Ok, Err}
use Rattle.std.specs.Option.{option_map, ok_or}
use Rattle.std.specs.List.{find}
use Rattle.pb_wire.specs.declared.payload.PayloadType.{PayloadType}
use Rattle.pb_wire.specs.declared.payload.PayloadType.TheVariants.{ScalarString, ScalarShort, ScalarFloat, ScalarEnum, ScalarByte, ScalarInt, ScalarDouble, WaveformString, WaveformShort, WaveformFloat, WaveformEnum, WaveformByte, WaveformInt, WaveformDouble}
use Rattle.pb_wire.specs.Payload.{row_of}
use Rattle.pb_wire.specs.Message.{WireValue, blob, WireField}
use Rattle.pb_wire.specs.Reading.{◌>>=◌}
use Rattle.pb_wire.specs.Cursor.{Placed}
use Rattle.pb_wire.specs.declared.fault.FieldFault.{FieldFault}
use Rattle.pb_wire.specs.declared.fault.FieldFault.TheVariants as field
use Rattle.pb_wire.specs.Numbers.{int32_of}
use Rattle.pb_messages.specs.declared.info_error.InfoFault.{InfoFault}
use Rattle.pb_messages.specs.declared.info_error.InfoFault.TheVariants.{Wire, WrongWire, Missing, UnknownType, YearRange}
use Rattle.pb_messages.specs.declared.info_error.InfoErr.{InfoErr}
use Rattle.pb_messages.specs.declared.info_error.InfoErr.TheVariants.{Fault, Memory}
use Rattle.pb_messages.specs.declared.info.PayloadInfo.{PayloadInfo}
use Rattle.pb_wire.specs.Fields.{varint_number, blob_bytes, number_in, text_in, last_of, wrong_where, first_fault, unless}
use Rattle.pb_wire.specs.FieldValue.{fields_of, pair_fault, pair_of}
use Rattle.series_model.specs.PairLists.{joined}

-- A fault of the fields is one of the header.
abbrev pub info_fault : FieldFault → InfoFault
info_fault (field.Wire e) = Wire e
info_fault (field.WrongWire n) = WrongWire n
info_fault (field.Missing n) = Missing n

-- What a field holds, by its number.
pub data InfoField : Type 0 where
  number : InfoField
  text : InfoField
  header : InfoField
  unknown : InfoField

abbrev pub part_of : ℕ → InfoField
part_of n = if n == 1 || n == 3 || n == 4 then number else (if n == 2 then text else (if n == 15 then header else unknown))

-- The fault in one field, whose last byte stands before `behind`.
abbrev pub fault_as : InfoField → ℕ → WireValue → ℕ → Option FieldFault
fault_as number n v behind = wrong_where (varint_number v) n
fault_as text n v behind = wrong_where (blob_bytes v) n
fault_as header n (blob b) behind = pair_fault n b behind
fault_as header n v behind = Some (field.WrongWire n)
fault_as unknown n v behind = None

abbrev pub fault_in : Placed WireField → Option FieldFault
fault_in x = fault_as (part_of x.item.number) x.item.number x.item.value x.behind

-- The pair that a field has, None where one of its members is missing.
abbrev pub pairs_as : InfoField → WireValue → ℕ → Option (List (List ℕ × List ℕ))
pairs_as header (blob b) behind = option_map (λ p. p ∷ []) (pair_of b behind)
pairs_as header v behind = Some []
pairs_as number v behind = Some []
pairs_as text v behind = Some []
pairs_as unknown v behind = Some []

-- The pairs of all fields in order, None where a member is missing.
abbrev pub pairs_of : List (Placed WireField) → Option (List (List ℕ × List ℕ))
pairs_of [] = Some []
pairs_of (x ∷ items) = joined (pairs_as (part_of x.item.number) x.item.value x.behind) (pairs_of items)

abbrev pub all_types : List PayloadType
all_types = ScalarString ∷ ScalarShort ∷ ScalarFloat ∷ ScalarEnum ∷ ScalarByte ∷ ScalarInt ∷ ScalarDouble ∷ WaveformString ∷ WaveformShort ∷ WaveformFloat ∷ WaveformEnum ∷ WaveformByte ∷ WaveformInt ∷ WaveformDouble ∷ []

-- The type of this number.
unfoldable pub type_of : ℕ → Option PayloadType
type_of n = find (λ t. (row_of t).number == n) all_types

-- Samples stand in the years 1991 to 2499.
abbrev pub in_range : ℤ → Result ℤ InfoFault
in_range y = if int_le (pos 1991) y && int_le y (pos 2499) then Ok y else Err (YearRange y)

-- The required members in the order of their numbers, then the type and the year.
unfoldable pub info_with : Option ℕ → Option (List ℕ) → Option ℕ → Option ℕ → Option (List (List ℕ × List ℕ)) → Result PayloadInfo InfoFault
info_with type name year count headers =
    ok_or type (Missing 1) >>= λ number.
    ok_or name (Missing 2) >>= λ name.
    ok_or year (Missing 3) >>= λ year.
    ok_or headers (Missing 15) >>= λ headers.
    ok_or (type_of (number % 2 ^ 32)) (UnknownType (number % 2 ^ 32)) >>= λ ty.
    in_range (int32_of year) >>= λ year.
    Ok (record { ty = ty; name = name; year = year; count = option_map int32_of count; headers = headers })

-- The header that fields without a fault hold: the last of each number, and all pairs.
abbrev pub info_from : List (Placed WireField) → Result PayloadInfo InfoFault
info_from items = info_with (last_of (number_in 1) items) (last_of (text_in 2) items) (last_of (number_in 3) items) (last_of (number_in 4) items) (pairs_of items)

-- The header that bytes hold, or the first fault.
unfoldable pub info_of : List ℕ → Result PayloadInfo InfoFault
info_of bytes = let c = fields_of bytes (length bytes) in unless (option_map info_fault (first_fault fault_in c)) (info_from c.items)

-- What a function returned is that header or that fault, unless memory ran out.
abbrev pub Gives : Result PayloadInfo InfoErr → Result PayloadInfo InfoFault → Type 0
Gives (Ok info) read = read ≡ Ok info
Gives (Err (Fault fault)) read = read ≡ Err fault
Gives (Err Memory) read = Unit {0}
