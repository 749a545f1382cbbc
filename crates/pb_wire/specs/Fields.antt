-- What the fields of a message say, by their numbers.
use Rattle.std.specs.Prelude.{◌≡◌, ℕ, ◌==◌, if◌then◌else◌, List, [], ◌∷◌, Option, Some, None, Result, Ok, Err}
use Rattle.std.specs.List.{filter_map, last_or}
use Rattle.std.specs.Option.{option_or, option_map}
use Rattle.pb_wire.specs.Message.{WireValue, varint, fixed64, blob, fixed32, WireField}
use Rattle.pb_wire.specs.Cursor.{Placed, Contents}
use Rattle.pb_wire.specs.declared.fault.FieldFault.{FieldFault}
use Rattle.pb_wire.specs.declared.fault.FieldFault.TheVariants.{Wire, WrongWire}

-- The number of a varint.
abbrev pub varint_number : WireValue → Option ℕ
varint_number (varint n) = Some n
varint_number (fixed64 n) = None
varint_number (blob b) = None
varint_number (fixed32 n) = None

-- The bytes behind a length.
abbrev pub blob_bytes : WireValue → Option (List ℕ)
blob_bytes (varint n) = None
blob_bytes (fixed64 n) = None
blob_bytes (blob b) = Some b
blob_bytes (fixed32 n) = None

-- The varint of a field of this number.
abbrev pub number_in : ℕ → Placed WireField → Option ℕ
number_in n x = if x.item.number == n then varint_number x.item.value else None

-- The bytes of a field of this number.
abbrev pub text_in : ℕ → Placed WireField → Option (List ℕ)
text_in n x = if x.item.number == n then blob_bytes x.item.value else None

-- The last of what the fields give.
abbrev pub last_of : {A : Type 0} → (Placed WireField → Option A) → List (Placed WireField) → Option A
last_of given items = last_or None (filter_map given items)

-- The first of what the fields give.
abbrev pub first_of : {A : Type 0} → (Placed WireField → Option A) → List (Placed WireField) → Option A
first_of given [] = None
first_of given (x ∷ items) = option_or (given x) (first_of given items)

-- The first fault in the order of the bytes: that of a field, or else that behind which no field is read.
abbrev pub first_fault : (Placed WireField → Option FieldFault) → Contents WireField → Option FieldFault
first_fault fault_in c = option_or (first_of fault_in c.items) (option_map (λ e. Wire e) c.fault)

-- A field whose value isn't of the wire type that its number has.
abbrev pub wrong_where : {A : Type 0} → Option A → ℕ → Option FieldFault
wrong_where (Some x) number = None
wrong_where None number = Some (WrongWire number)

-- What a function returned is the value, or that there is none.
abbrev pub Reads : {A X : Type 0} → (X → A) → Option A → ℕ → Result X FieldFault → Type 0
Reads seen value number (Ok x) = value ≡ Some (seen x)
Reads seen value number (Err fault) = (value ≡ None) × (fault ≡ WrongWire number)

-- A call tells this fault, or that there is none.
abbrev pub Tells : {X : Type 0} → Result X FieldFault → Option FieldFault → Type 0
Tells (Ok x) fault = fault ≡ None
Tells (Err told) fault = fault ≡ Some told

-- A fault comes before everything else.
abbrev pub unless : {A E : Type 0} → Option E → Result A E → Result A E
unless None read = read
unless (Some fault) read = Err fault
