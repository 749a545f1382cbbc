-- How an event is written: its fields, one after another.
use Rattle.std.specs.Prelude.{◌^◌, ◌<◌, IfSome, FitsSigned, length, ℕ, if◌then◌else◌, Bool, true, false, ℤ, pos, List, [], ◌∷◌, ◌++◌, map, Option, Some, None}
use Rattle.std.specs.Ordering.{int_eq}
use Rattle.std.specs.List.{flat_map, AllByRecursion}
use Rattle.std.specs.Option.{option_map}
use Rattle.std.specs.Int.{w32, w64, cast_unsigned, to_le_bytes}
use Rattle.pb_wire.specs.Signed.{zigzag_of}
use Rattle.pb_wire.specs.Message.{fixed64, fixed32, WireField}
use Rattle.pb_wire.specs.Spelling.{number_text}
use Rattle.pb_wire.specs.Numbers.{sign_extended}
use Rattle.pb_wire.specs.FieldSpelling.{message_text, number_field, text_field, pair_field, optional_field, ShortPairs}
use Rattle.pb_messages.specs.declared.value.Value.{Value}
use Rattle.pb_messages.specs.declared.value.Value.TheVariants.{Str, Short, Float, Enum, Byte, Int, Double, Strs, Shorts, Floats, Enums, Bytes, IntList, Doubles}
use Rattle.pb_messages.specs.declared.event.Event.{Event}

abbrev pub fixed32_field : ℕ → ℕ → WireField
fixed32_field n v = record { number = n; value = fixed32 v }

abbrev pub fixed64_field : ℕ → ℕ → WireField
fixed64_field n v = record { number = n; value = fixed64 v }

-- A number that is left out where it is 0.
abbrev pub unless_zero : ℤ → Option ℕ
unless_zero z = if int_eq z (pos 0) then None else Some (sign_extended z)

abbrev pub bool_number : Bool → ℕ
bool_number true = 1
bool_number false = 0

-- The spellings of packed elements.
abbrev pub sint32_text : ℤ → List ℕ
sint32_text z = number_text (zigzag_of z)

abbrev pub sfixed32_text : ℤ → List ℕ
sfixed32_text z = to_le_bytes w32 (cast_unsigned w32 z)

-- Elements are packed in one field, which is left out where there are none.
abbrev pub packed_field : {A : Type 0} → (A → List ℕ) → List A → List WireField
packed_field spell [] = []
packed_field spell (x ∷ xs) = text_field 3 (flat_map spell (x ∷ xs)) ∷ []

abbrev pub val_fields : Value → List WireField
val_fields (Str b) = text_field 3 b ∷ []
val_fields (Short n) = number_field 3 (zigzag_of n) ∷ []
val_fields (Float n) = fixed32_field 3 n ∷ []
val_fields (Enum n) = number_field 3 (zigzag_of n) ∷ []
val_fields (Byte b) = text_field 3 b ∷ []
val_fields (Int n) = fixed32_field 3 (cast_unsigned w32 n) ∷ []
val_fields (Double n) = fixed64_field 3 n ∷ []
val_fields (Strs bs) = map (text_field 3) bs
val_fields (Shorts ns) = packed_field sint32_text ns
val_fields (Floats ns) = packed_field (to_le_bytes w32) ns
val_fields (Enums ns) = packed_field sint32_text ns
val_fields (Bytes b) = text_field 3 b ∷ []
val_fields (IntList ns) = packed_field sfixed32_text ns
val_fields (Doubles ns) = packed_field (to_le_bytes w64) ns

abbrev pub stamp_fields : Event → List WireField
stamp_fields e = number_field 1 e.secs ∷ number_field 2 e.nano ∷ []

abbrev pub state_fields : Event → List WireField
state_fields e = optional_field 4 (unless_zero e.severity) ++ (optional_field 5 (unless_zero e.status) ++ optional_field 6 e.repeat)

abbrev pub last_fields : Event → List WireField
last_fields e = map (pair_field 7) e.fields ++ optional_field 8 (option_map bool_number e.actual_change)

-- The fields of an event, in the order of their numbers.
abbrev pub event_fields : Event → List WireField
event_fields e = (stamp_fields e ++ val_fields e.val) ++ (state_fields e ++ last_fields e)

unfoldable pub event_text : Event → List ℕ
event_text e = message_text (event_fields e)

-- The members fit their types, and each length is a number of 64 bits.
abbrev pub FitsPacked : {A : Type 0} → (A → Type 0) → (A → List ℕ) → List A → Type 0
FitsPacked Fits spell xs = AllByRecursion Fits xs × (length (flat_map spell xs) < 2 ^ 64)

abbrev pub FitsVal : Value → Type 0
FitsVal (Str b) = length b < 2 ^ 64
FitsVal (Short n) = FitsSigned w32 n
FitsVal (Float n) = n < 2 ^ 32
FitsVal (Enum n) = FitsSigned w32 n
FitsVal (Byte b) = length b < 2 ^ 64
FitsVal (Int n) = FitsSigned w32 n
FitsVal (Double n) = n < 2 ^ 64
FitsVal (Strs bs) = AllByRecursion (λ b. length b < 2 ^ 64) bs
FitsVal (Shorts ns) = FitsPacked (FitsSigned w32) sint32_text ns
FitsVal (Floats ns) = FitsPacked (λ n. n < 2 ^ 32) (to_le_bytes w32) ns
FitsVal (Enums ns) = FitsPacked (FitsSigned w32) sint32_text ns
FitsVal (Bytes b) = length b < 2 ^ 64
FitsVal (IntList ns) = FitsPacked (FitsSigned w32) sfixed32_text ns
FitsVal (Doubles ns) = FitsPacked (λ n. n < 2 ^ 64) (to_le_bytes w64) ns

pub record FitsState (e : Event) : Type 0 where
  pub severity : FitsSigned w32 e.severity
  pub status : FitsSigned w32 e.status
  pub repeat : IfSome e.repeat (λ n. n < 2 ^ 32)

pub record FitsEvent (e : Event) : Type 0 where
  pub secs : e.secs < 2 ^ 32
  pub nano : e.nano < 2 ^ 32
  pub val : FitsVal e.val
  pub state : FitsState e
  pub fields : ShortPairs e.fields
