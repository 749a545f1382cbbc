-- The numbers of the payload types.
use Rattle.std.proofs.Common.{◌≡◌, ℕ, ◌==◌, List, [], ◌∷◌, Option, Some, None, refl, sym, ◌∙◌, ap, inl, inr}
use Rattle.std.specs.Prelude.{IfSome}
use Rattle.std.specs.List.{find}
use Rattle.std.proofs.lemmas.Bool.Decides.{eqb_tells}
use Rattle.pb_wire.specs.declared.payload.PayloadType.{PayloadType}
use Rattle.pb_wire.specs.declared.payload.PayloadType.TheVariants.{ScalarString, ScalarShort, ScalarFloat, ScalarEnum, ScalarByte, ScalarInt, ScalarDouble, WaveformString, WaveformShort, WaveformFloat, WaveformEnum, WaveformByte, WaveformInt, WaveformDouble}
use Rattle.pb_wire.specs.Payload.{row_of}
use Rattle.pb_messages.specs.Info.{all_types, type_of}

-- each type is that of its number
pub type_of-number : (t : PayloadType) → type_of (row_of t).number ≡ Some t
unfolding type_of
type_of-number ScalarString = refl
type_of-number ScalarShort = refl
type_of-number ScalarFloat = refl
type_of-number ScalarEnum = refl
type_of-number ScalarByte = refl
type_of-number ScalarInt = refl
type_of-number ScalarDouble = refl
type_of-number WaveformString = refl
type_of-number WaveformShort = refl
type_of-number WaveformFloat = refl
type_of-number WaveformEnum = refl
type_of-number WaveformByte = refl
type_of-number WaveformInt = refl
type_of-number WaveformDouble = refl

none_found : (n : ℕ) (ts : List PayloadType) → ((t : PayloadType) → (row_of t).number ≡ n → ⊥) → find (λ t. (row_of t).number == n) ts ≡ None
none_found n [] other = refl
none_found n (t ∷ ts) other =
    elim (eqb_tells (row_of t).number n) [
      | inl same ↦ absurd (other t same.1)
      | inr not ↦ rw not.0 (none_found n ts other)
    ]

-- what has the number, and nothing else, is the type of the number
pub type_of-unique : (n : ℕ) (o : Option PayloadType) → IfSome o (λ t. (row_of t).number ≡ n) → ((t : PayloadType) → (row_of t).number ≡ n → o ≡ Some t) → type_of n ≡ o
unfolding type_of
type_of-unique n (Some t) found only = ap type_of (sym found) ∙ type_of-number t
type_of-unique n None found only = none_found n all_types (λ t e. let other = only t e in absurd cc)
