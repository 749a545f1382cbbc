-- What stands in val, by the payload type.
use Rattle.std.specs.Prelude.{ℕ, ◌-◌, ◌/◌, ◌%◌, ◌==◌, if◌then◌else◌, Bool, true, false, List, [], ◌∷◌, length, map, Option, Some, None}
use Rattle.std.specs.Option.{option_map}
use Rattle.std.specs.Simd.{first_chunks}
use Rattle.std.specs.Int.{w32, w64, from_le_bytes}
use Rattle.pb_wire.specs.declared.error.WireErr.TheVariants.{Short}
use Rattle.pb_wire.specs.declared.payload.PayloadType.{PayloadType}
use Rattle.pb_wire.specs.declared.payload.PayloadType.TheVariants.{ScalarString, ScalarShort, ScalarFloat, ScalarEnum, ScalarByte, ScalarInt, ScalarDouble, WaveformString, WaveformShort, WaveformFloat, WaveformEnum, WaveformByte, WaveformInt, WaveformDouble}
use Rattle.pb_wire.specs.Message.{WireValue, varint, fixed64, blob, fixed32}
use Rattle.pb_wire.specs.Reading.{varint_at}
use Rattle.pb_wire.specs.Cursor.{contents_of, items_of}
use Rattle.pb_wire.specs.declared.fault.FieldFault.{FieldFault}
use Rattle.pb_wire.specs.declared.fault.FieldFault.TheVariants.{Wire, WrongWire}
use Rattle.pb_messages.specs.declared.layout.Element.{Element}
use Rattle.pb_messages.specs.declared.layout.Element.TheVariants.{Bytes, Sint32, Fixed32, Fixed64}
use Rattle.pb_messages.specs.declared.layout.Layout.{Layout}

abbrev pub one : Element → Layout
one e = record { element = e; repeated = false }

abbrev pub many : Element → Layout
many e = record { element = e; repeated = true }

-- The table of the types: one element, which is required, or any number.
abbrev pub layout_of : PayloadType → Layout
layout_of ScalarString = one Bytes
layout_of ScalarShort = one Sint32
layout_of ScalarFloat = one Fixed32
layout_of ScalarEnum = one Sint32
layout_of ScalarByte = one Bytes
layout_of ScalarInt = one Fixed32
layout_of ScalarDouble = one Fixed64
layout_of WaveformString = many Bytes
layout_of WaveformShort = many Sint32
layout_of WaveformFloat = many Fixed32
layout_of WaveformEnum = many Sint32
layout_of WaveformByte = one Bytes
layout_of WaveformInt = many Fixed32
layout_of WaveformDouble = many Fixed64

-- The elements of one field val, as values of the wire, and its fault.
pub record Elements : Type 0 where
  pub values : List WireValue
  pub fault : Option FieldFault

abbrev pub wrong : Elements
wrong = record { values = []; fault = Some (WrongWire 3) }

-- An element by itself has its own wire type.
abbrev pub is_single : Element → WireValue → Bool
is_single Bytes (blob b) = true
is_single Sint32 (varint n) = true
is_single Fixed32 (fixed32 n) = true
is_single Fixed64 (fixed64 n) = true
is_single e v = false

-- Packed varints end at a place, where the bytes end.
unfoldable pub packed_varints : List ℕ → ℕ → Elements
packed_varints bytes behind =
    let c = contents_of varint_at (record { rest = bytes; end = behind }) in
    record { values = map (λ n. varint n) (items_of c); fault = option_map (λ e. Wire e) c.fault }

-- The bytes in pieces of n, and nothing else.
abbrev pub pieces_of : ℕ → List ℕ → List (List ℕ)
pieces_of n bytes = first_chunks n (length bytes / n) bytes

-- A length that is no multiple is short at the start of the value.
abbrev pub unless_multiple : ℕ → List ℕ → ℕ → Option FieldFault
unless_multiple n bytes behind = if length bytes % n == 0 then None else Some (Wire (Short (behind - length bytes)))

abbrev pub packed_fixed32 : List ℕ → List WireValue
packed_fixed32 bytes = map (λ t. fixed32 (from_le_bytes w32 t)) (pieces_of 4 bytes)

abbrev pub packed_fixed64 : List ℕ → List WireValue
packed_fixed64 bytes = map (λ t. fixed64 (from_le_bytes w64 t)) (pieces_of 8 bytes)

-- Elements that are numbers may stand packed, one after another in the bytes of one field.
abbrev pub packed_of : Element → List ℕ → ℕ → Elements
packed_of Bytes bytes behind = wrong
packed_of Sint32 bytes behind = packed_varints bytes behind
packed_of Fixed32 bytes behind = record { values = packed_fixed32 bytes; fault = unless_multiple 4 bytes behind }
packed_of Fixed64 bytes behind = record { values = packed_fixed64 bytes; fault = unless_multiple 8 bytes behind }

abbrev pub packed_in : Layout → WireValue → ℕ → Elements
packed_in layout (blob b) behind = if layout.repeated then packed_of layout.element b behind else wrong
packed_in layout v behind = wrong

-- The elements that a value of val has, whose last byte stands before `behind`.
abbrev pub elements_in : Layout → WireValue → ℕ → Elements
elements_in layout v behind = if is_single layout.element v then record { values = v ∷ []; fault = None } else packed_in layout v behind
