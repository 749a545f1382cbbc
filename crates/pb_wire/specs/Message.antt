-- Fields and their values, apart from where their bytes lie in memory.
use Rattle.std.specs.Prelude.{ℕ, ◌≤◌, List, length}
use Rattle.pb_wire.specs.declared.message.Wire.{Wire}
use Rattle.pb_wire.specs.declared.message.Wire.TheVariants as wires
use Rattle.pb_wire.specs.declared.message.Field.{Field}

-- A value is one of four kinds.
pub data WireValue : Type 0 where
  varint : ℕ → WireValue
  fixed64 : ℕ → WireValue
  blob : List ℕ → WireValue
  fixed32 : ℕ → WireValue

-- A field has a number and a value.
pub record WireField : Type 0 where
  pub number : ℕ
  pub value : WireValue

-- A value is seen without where its bytes lie.
abbrev pub view_value : Wire → WireValue
view_value (wires.Varint n) = varint n
view_value (wires.Fixed64 n) = fixed64 n
view_value (wires.Bytes b) = blob b.now
view_value (wires.Fixed32 n) = fixed32 n

-- So is a field.
abbrev pub view : Field → WireField
view f = record { number = f.number; value = view_value f.value }

-- The wire type is the number of the value's kind.
abbrev pub kind_of : WireValue → ℕ
kind_of (varint n) = 0
kind_of (fixed64 n) = 1
kind_of (blob b) = 2
kind_of (fixed32 n) = 5

-- A blob has a length; of the other values none is counted.
abbrev pub blob_len : WireValue → ℕ
blob_len (varint n) = 0
blob_len (fixed64 n) = 0
blob_len (blob b) = length b
blob_len (fixed32 n) = 0

-- A field's number is at least 1, and its tag is below 2^32.
abbrev pub IsFieldNumber : ℕ → Type 0
IsFieldNumber n = (1 ≤ n) × (n ≤ 536870911)
