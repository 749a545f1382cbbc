-- What is written as fields is read as those fields, and a pair as that pair.
use Rattle.std.proofs.Common.{◌≡◌, ℕ, suc, ◌-◌, ◌%◌, ◌^◌, ◌<◌, ℤ, pos, negsuc, List, [], ◌∷◌, ◌++◌, length, map, Some, None, Ok, refl, ◌∙◌, ap, arith}
use Rattle.std.specs.Prelude.{FitsSigned}
use Rattle.std.specs.List.{AllByRecursion}
use Rattle.std.specs.Int.{w32, cast_signed}
use Rattle.std.proofs.lemmas.Int.{ints, to_z-of_z}
use Rattle.pb_wire.specs.Message.{WireField, IsFieldNumber}
use Rattle.pb_wire.specs.Reading.{field_at}
use Rattle.pb_wire.specs.Cursor.{Cursor, Placed, Contents, with_first}
use Rattle.pb_wire.specs.Spelling.{field_text, FitsValue}
use Rattle.pb_wire.proofs.ContentsLemmas.{contents_by, contents_end}
use Rattle.pb_wire.proofs.FieldTexts.{field_shrinks, next_written}
use Rattle.pb_wire.specs.Numbers.{int32_of, sign_extended}
use Rattle.pb_wire.specs.FieldValue.{fields_of, pair_fault, pair_of}
use Rattle.pb_wire.specs.FieldSpelling.{message_text, text_field, pair_text, pair_field, ShortPairs}
use Rattle.pb_wire.proofs.PairTexts.{pair_length}

abbrev pub FitsField : WireField → Type 0
FitsField f = IsFieldNumber f.number × FitsValue f.value

-- fields behind one another in bytes that end at this place
abbrev pub placed : ℕ → List WireField → List (Placed WireField)
placed end [] = []
placed end (f ∷ fields) = record { item = f; behind = end - length (message_text fields) } ∷ placed end fields

-- what is written is read field by field, and nothing else
pub contents_written : (end : ℕ) (fields : List WireField) → AllByRecursion FitsField fields → fields_of (message_text fields) end ≡ record { items = placed end fields; fault = None }
contents_written end [] fits = contents_end field_at field_shrinks end
contents_written end (f ∷ fields) fits =
    let rest = message_text fields in
    let c : Cursor = record { rest = field_text f.number f.value ++ rest; end = end } in
    let d : Cursor = record { rest = rest; end = end } in
    let first : Placed WireField = record { item = f; behind = end - length rest } in
    contents_by field_at field_shrinks c (Ok (Some (f, d))) (next_written end f.number f.value rest fits.0.0 fits.0.1) ∙ ap (λ (more : Contents WireField). with_first first more) (contents_written end fields fits.1)

pub both_fit : (xs ys : List WireField) → AllByRecursion FitsField xs → AllByRecursion FitsField ys → AllByRecursion FitsField (xs ++ ys)
both_fit [] ys a b = b
both_fit (x ∷ xs) ys a b = (a.0, both_fit xs ys a.1 b)

pair_fits : (p : List ℕ × List ℕ) → length (pair_text p) < 2 ^ 64 → AllByRecursion FitsField (text_field 1 p.0 ∷ text_field 2 p.1 ∷ [])
pair_fits p short =
    let both = pair_length p.0 p.1 in
    (((omega arith, omega arith), omega (arith, both, short)), (((omega arith, omega arith), omega (arith, both, short)), tt))

pub pair_sound : (p : List ℕ × List ℕ) (n behind : ℕ) → length (pair_text p) < 2 ^ 64 → pair_fault n (pair_text p) behind ≡ None
unfolding pair_fault
pair_sound p n behind short = rw (contents_written behind (text_field 1 p.0 ∷ text_field 2 p.1 ∷ []) (pair_fits p short)) refl

pub pair_back : (p : List ℕ × List ℕ) (behind : ℕ) → length (pair_text p) < 2 ^ 64 → pair_of (pair_text p) behind ≡ Some p
unfolding pair_of
pair_back p behind short = rw (contents_written behind (text_field 1 p.0 ∷ text_field 2 p.1 ∷ []) (pair_fits p short)) refl

pub pairs_fit : (n : ℕ) (ps : List (List ℕ × List ℕ)) → IsFieldNumber n → ShortPairs ps → AllByRecursion FitsField (map (pair_field n) ps)
pairs_fit n [] number fits = tt
pairs_fit n (p ∷ ps) number fits = ((number, fits.0), pairs_fit n ps number fits.1)

-- an int32 is read back
pub int32_back : (z : ℤ) → FitsSigned w32 z → int32_of (sign_extended z) ≡ z
int32_back (pos n) fits = omega (arith, ints)
int32_back (negsuc n) fits =
    let small : n < 2 ^ 31 = omega (arith, ints) in
    let low : (2 ^ 64 - suc n) % 2 ^ 32 ≡ 2 ^ 32 - suc n = omega arith in
    ap (cast_signed w32) low ∙ to_z-of_z w32 (negsuc n) fits

pub extended_small : (z : ℤ) → FitsSigned w32 z → sign_extended z < 2 ^ 64
extended_small z fits = omega (arith, ints)
