-- The shortest spelling of numbers and fields.
use Rattle.std.specs.Prelude.{ℕ, zero, suc, ◌+◌, ◌*◌, ◌/◌, ◌%◌, ◌^◌, ◌<◌, List, [], ◌∷◌, ◌++◌, length, nat_lt, if◌then◌else◌}
use Rattle.std.specs.Int.{w32, w64, to_le_bytes}
use Rattle.pb_wire.specs.Message.{WireValue, varint, fixed64, blob, fixed32, kind_of}

-- A number in n bytes at most, seven bits a byte, the least first.
unfoldable pub number : ℕ → ℕ → List ℕ
number zero v = []
number (suc n) v = if nat_lt v 128 then v ∷ [] else (v % 128 + 128) ∷ number n (v / 128)

-- Ten bytes are enough for a number of 64 bits.
unfoldable pub number_text : ℕ → List ℕ
number_text v = number 10 v

-- A value is its number, or its length and its bytes.
abbrev pub value_text : WireValue → List ℕ
value_text (varint n) = number_text n
value_text (fixed64 n) = to_le_bytes w64 n
value_text (blob b) = number_text (length b) ++ b
value_text (fixed32 n) = to_le_bytes w32 n

-- The tag, and then the value.
abbrev pub field_text : ℕ → WireValue → List ℕ
field_text n v = number_text (n * 8 + kind_of v) ++ value_text v

-- The value is one that its type can hold; a blob's length is a number of 64 bits.
abbrev pub FitsValue : WireValue → Type 0
FitsValue (varint n) = n < 2 ^ 64
FitsValue (fixed64 n) = n < 2 ^ 64
FitsValue (blob b) = length b < 2 ^ 64
FitsValue (fixed32 n) = n < 2 ^ 32
