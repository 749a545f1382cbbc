-- Numbers of 32 bits, as varints.
use Rattle.std.specs.Prelude.{ℕ, ◌%◌, ◌^◌, ℤ}
use Rattle.std.specs.Int.{w32, w64, cast_signed, cast_unsigned}

-- A 32-bit field keeps the low 32 bits of a varint; signed ones are of two's complement.
abbrev pub uint32_of : ℕ → ℕ
uint32_of n = n % 2 ^ 32

abbrev pub int32_of : ℕ → ℤ
int32_of n = cast_signed w32 (n % 2 ^ 32)

-- An int32 is written with its sign in 64 bits.
abbrev pub sign_extended : ℤ → ℕ
sign_extended z = cast_unsigned w64 z
