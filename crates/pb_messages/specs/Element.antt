-- What an element of val means, as it stands on the wire. A value of another wire type has no meaning.
use Rattle.std.specs.Prelude.{ℕ, ◌%◌, ◌^◌, ℤ, pos, List, []}
use Rattle.std.specs.Int.{w32, cast_signed}
use Rattle.pb_wire.specs.Message.{WireValue, varint, fixed64, blob, fixed32}
use Rattle.pb_wire.specs.Signed.{unzigzag_of}

-- A sint32 is the zigzag of the low 32 bits of a varint, a sfixed32 of two's complement.
abbrev pub int_of : WireValue → ℤ
int_of (varint n) = unzigzag_of (n % 2 ^ 32)
int_of (fixed64 n) = pos 0
int_of (blob b) = pos 0
int_of (fixed32 n) = cast_signed w32 n

-- The bits of a float.
abbrev pub bits32_of : WireValue → ℕ
bits32_of (varint n) = 0
bits32_of (fixed64 n) = 0
bits32_of (blob b) = 0
bits32_of (fixed32 n) = n

-- The bits of a double.
abbrev pub bits64_of : WireValue → ℕ
bits64_of (varint n) = 0
bits64_of (fixed64 n) = n
bits64_of (blob b) = 0
bits64_of (fixed32 n) = 0

-- The bytes of a string.
abbrev pub bytes_of : WireValue → List ℕ
bytes_of (varint n) = []
bytes_of (fixed64 n) = []
bytes_of (blob b) = b
bytes_of (fixed32 n) = []
