-- The grammar of messages, apart from the order in which they are read.
use Rattle.std.specs.Prelude.{◌≡◌, ℕ, ◌+◌, ◌-◌, ◌*◌, ◌%◌, ◌^◌, ◌<◌, ◌≤◌, List, [], ◌∷◌, ◌++◌, length}
use Rattle.std.specs.Int.{w32, w64, from_le_bytes}
use Rattle.pb_wire.specs.Message.{WireValue, varint, fixed64, blob, fixed32, WireField, kind_of, IsFieldNumber}

-- Each byte has seven bits of the number, the least first; the last is below 128, and no other is.
abbrev pub Spells : List ℕ → ℕ → Type 0
Spells [] n = ⊥
Spells (b ∷ []) n = (b < 128) × (n ≡ b)
Spells (b ∷ c ∷ bs) n = (128 ≤ b) × ((high : ℕ) × (n ≡ b - 128 + 128 * high) × Spells (c ∷ bs) high)

-- A varint has ten bytes at most, and the bits past the 64th are dropped.
abbrev pub IsVarint : List ℕ → ℕ → Type 0
IsVarint text v = (length text ≤ 10) × ((n : ℕ) × Spells text n × (v ≡ n % 2 ^ 64))

-- A value is a varint, eight bytes, a length and so many bytes, or four bytes; fixed ones have the least byte first.
abbrev pub IsValue : List ℕ → WireValue → Type 0
IsValue text (varint v) = IsVarint text v
IsValue text (fixed64 v) = (length text ≡ 8) × (v ≡ from_le_bytes w64 text)
IsValue text (blob b) = (size : List ℕ) × (text ≡ size ++ b) × IsVarint size (length b)
IsValue text (fixed32 v) = (length text ≡ 4) × (v ≡ from_le_bytes w32 text)

-- A field is a tag, whose varint is eight times the number and the wire type, and then the value.
abbrev pub IsField : List ℕ → WireField → Type 0
IsField text f = (tag value : List ℕ) × (text ≡ tag ++ value) × IsFieldNumber f.number × IsVarint tag (f.number * 8 + kind_of f.value) × IsValue value f.value

-- A sequence is its items, one after another.
abbrev pub IsSequence : {A : Type 0} → (List ℕ → A → Type 0) → List ℕ → List A → Type 0
IsSequence IsItem text [] = text ≡ []
IsSequence IsItem text (x ∷ items) = (first rest : List ℕ) × (text ≡ first ++ rest) × IsItem first x × IsSequence IsItem rest items

-- A message is a sequence of fields.
abbrev pub IsMessage : List ℕ → List WireField → Type 0
IsMessage text fields = IsSequence IsField text fields

-- Packed numbers are a sequence of varints.
abbrev pub IsPacked : List ℕ → List ℕ → Type 0
IsPacked text numbers = IsSequence IsVarint text numbers
