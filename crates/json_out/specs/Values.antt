-- The JSON text of a value. Whole numbers are decimal. A floating-point number is a string of its bits, `0x` and hexadecimal digits in
-- lower case. Bytes are an array of numbers, a list is an array, and text is a JSON string of the bytes, in which U+FFFD stands for
-- what isn't UTF-8.
use Rattle.std.specs.Prelude.{ℕ, ◌*◌, ◌/◌, ◌%◌, ◌^◌, Bool, not, ◌&&◌, ◌==◌, nat_le, List, [], ◌∷◌, ◌++◌, map, codes, decimal, suc, zero}
use Rattle.std.specs.Char.{digit_char}
use Rattle.std.specs.Fmt.{signed_decimal}
use Rattle.std.specs.List.{join_with_byte}
use Rattle.std.specs.Str.Lossy.{utf8_lossy}
use Rattle.json.specs.Print.{quoted}
use Rattle.pb_messages.specs.declared.value.Value.{Value}
use Rattle.pb_messages.specs.declared.value.Value.TheVariants.{Str, Short, Float, Enum, Byte, Int, Double, Strs, Shorts, Floats, Enums, Bytes, IntList, Doubles}

-- a JSON string of these bytes
abbrev pub string_text : List ℕ → List ℕ
string_text bytes = quoted (utf8_lossy bytes)

-- what a JSON string has as it is, among others: printable ASCII but the quotation mark and the backslash
abbrev pub is_plain : ℕ → Bool
is_plain x = ((nat_le 32 x && nat_le x 126) && not (x == 34)) && not (x == 92)

-- the last so many hexadecimal digits of a number
unfoldable pub hex_digits : ℕ → ℕ → List ℕ
hex_digits zero bits = []
hex_digits (suc n) bits = digit_char (bits / 2 ^ (4 * n) % 16) ∷ hex_digits n bits

abbrev pub bits_text : ℕ → ℕ → List ℕ
bits_text digits bits = codes "\"0x" ++ hex_digits digits bits ++ codes "\""

-- the elements' texts, with a comma between each two
abbrev pub separated : List (List ℕ) → List ℕ
separated texts = join_with_byte 44 texts

abbrev pub array_text : {X : Type 0} → (X → List ℕ) → List X → List ℕ
array_text text xs = codes "[" ++ separated (map text xs) ++ codes "]"

abbrev pub value_text : Value → List ℕ
value_text (Str bytes) = string_text bytes
value_text (Short number) = signed_decimal number
value_text (Float bits) = bits_text 8 bits
value_text (Enum number) = signed_decimal number
value_text (Byte bytes) = array_text decimal bytes
value_text (Int number) = signed_decimal number
value_text (Double bits) = bits_text 16 bits
value_text (Strs strings) = array_text string_text strings
value_text (Shorts numbers) = array_text signed_decimal numbers
value_text (Floats bits) = array_text (bits_text 8) bits
value_text (Enums numbers) = array_text signed_decimal numbers
value_text (Bytes bytes) = array_text decimal bytes
value_text (IntList numbers) = array_text signed_decimal numbers
value_text (Doubles bits) = array_text (bits_text 16) bits
