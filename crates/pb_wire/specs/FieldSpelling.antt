-- Fields as they are written, one after another.
use Rattle.std.specs.Prelude.{ℕ, ◌^◌, ◌<◌, List, [], ◌∷◌, length, Option, Some, None}
use Rattle.std.specs.List.{flat_map, AllByRecursion}
use Rattle.pb_wire.specs.Message.{varint, blob, WireField}
use Rattle.pb_wire.specs.Spelling.{field_text}

-- The shortest spelling of fields, one after another.
abbrev pub message_text : List WireField → List ℕ
message_text fields = flat_map (λ f. field_text f.number f.value) fields

abbrev pub number_field : ℕ → ℕ → WireField
number_field n v = record { number = n; value = varint v }

abbrev pub text_field : ℕ → List ℕ → WireField
text_field n b = record { number = n; value = blob b }

-- A FieldValue is a message of a name and a value.
abbrev pub pair_text : List ℕ × List ℕ → List ℕ
pair_text p = message_text (text_field 1 p.0 ∷ text_field 2 p.1 ∷ [])

abbrev pub pair_field : ℕ → List ℕ × List ℕ → WireField
pair_field n p = text_field n (pair_text p)

-- A field that is left out where there is no value.
abbrev pub optional_field : ℕ → Option ℕ → List WireField
optional_field n None = []
optional_field n (Some v) = number_field n v ∷ []

-- The length of each pair is a number of 64 bits.
abbrev pub ShortPairs : List (List ℕ × List ℕ) → Type 0
ShortPairs ps = AllByRecursion (λ p. length (pair_text p) < 2 ^ 64) ps
