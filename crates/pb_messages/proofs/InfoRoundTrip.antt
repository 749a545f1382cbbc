-- What is written as a header is read as that header.
use Rattle.std.proofs.Common.{◌≡◌, ℕ, ◌-◌, ◌%◌, ◌^◌, ◌<◌, ℤ, pos, List, [], ◌∷◌, ◌++◌, length, map, Option, Some, None, Ok, refl, ◌∙◌, ap, arith}
use Rattle.std.specs.Prelude.{IfSome, ◌≤ℤ◌, FitsSigned}
use Rattle.std.specs.List.{filter_map, AllByRecursion}
use Rattle.std.specs.Option.{option_map}
use Rattle.std.specs.Int.{w32}
use Rattle.std.proofs.Math.Nat.{mod-eq_of_lt}
use Rattle.std.proofs.lemmas.Int.{ints}
use Rattle.pb_wire.specs.declared.payload.PayloadType.{PayloadType}
use Rattle.pb_wire.specs.declared.payload.PayloadType.TheVariants.{ScalarString, ScalarShort, ScalarFloat, ScalarEnum, ScalarByte, ScalarInt, ScalarDouble, WaveformString, WaveformShort, WaveformFloat, WaveformEnum, WaveformByte, WaveformInt, WaveformDouble}
use Rattle.pb_wire.specs.Payload.{row_of}
use Rattle.pb_wire.specs.Message.{WireField}
use Rattle.pb_wire.specs.Cursor.{Placed}
use Rattle.pb_messages.specs.declared.info.PayloadInfo.{PayloadInfo}
use Rattle.pb_wire.specs.Fields.{number_in, text_in, last_of, first_of}
use Rattle.pb_wire.specs.FieldValue.{fields_of}
use Rattle.pb_wire.specs.Numbers.{int32_of, sign_extended}
use Rattle.pb_wire.specs.FieldSpelling.{message_text, pair_field, optional_field, ShortPairs}
use Rattle.pb_wire.proofs.PairWritten.{FitsField, placed, contents_written, pair_sound, pair_back, pairs_fit, int32_back, extended_small}
use Rattle.pb_messages.specs.Info.{fault_in, pairs_of, info_from, info_with, info_of, in_range, type_of}
use Rattle.pb_messages.specs.InfoSpelling.{required_fields, info_fields, info_text, FitsInfo}
use Rattle.pb_messages.proofs.InfoTypeLemmas.{type_of-number}

-- what the fields behind the required ones say
record SaysRest (n : Option ℕ) (ps : List (List ℕ × List ℕ)) (items : List (Placed WireField)) : Type 0 where
  sound : first_of fault_in items ≡ None
  ty : filter_map (number_in 1) items ≡ []
  name : filter_map (text_in 2) items ≡ []
  year : filter_map (number_in 3) items ≡ []
  count : last_of (number_in 4) items ≡ n
  headers : pairs_of items ≡ Some ps

no_count : (end : ℕ) (ps : List (List ℕ × List ℕ)) → filter_map (number_in 4) (placed end (map (pair_field 15) ps)) ≡ []
no_count end [] = refl
no_count end (p ∷ ps) = no_count end ps

pairs_say : (end : ℕ) (ps : List (List ℕ × List ℕ)) → ShortPairs ps → SaysRest None ps (placed end (map (pair_field 15) ps))
pairs_say end [] fits = record { sound = refl; ty = refl; name = refl; year = refl; count = refl; headers = refl }
pairs_say end (p ∷ ps) fits =
    let more = pairs_say end ps fits.1 in
    let behind = end - length (message_text (map (pair_field 15) ps)) in
    record {
      sound = rw (pair_sound p 15 behind fits.0) more.sound;
      ty = more.ty;
      name = more.name;
      year = more.year;
      count = more.count;
      headers = rw (pair_back p behind fits.0, more.headers) refl;
    }

rest_says : (end : ℕ) (count : Option ℕ) (ps : List (List ℕ × List ℕ)) → ShortPairs ps → SaysRest count ps (placed end (optional_field 4 count ++ map (pair_field 15) ps))
rest_says end None ps fits = pairs_say end ps fits
rest_says end (Some n) ps fits =
    let more = pairs_say end ps fits in
    record { sound = more.sound; ty = more.ty; name = more.name; year = more.year; count = rw (no_count end ps) refl; headers = rw more.headers refl }

rest_fit : (count : Option ℕ) (ps : List (List ℕ × List ℕ)) → IfSome count (λ n. n < 2 ^ 64) → ShortPairs ps → AllByRecursion FitsField (optional_field 4 count ++ map (pair_field 15) ps)
rest_fit None ps small fits = pairs_fit 15 ps (omega arith, omega arith) fits
rest_fit (Some n) ps small fits = (((omega arith, omega arith), small), pairs_fit 15 ps (omega arith, omega arith) fits)

in_range-year : (y : ℤ) → pos 1991 ≤ℤ y → y ≤ℤ pos 2499 → in_range y ≡ Ok y
in_range-year y low high = grind (arith, ints)

count_back : (count : Option ℤ) → IfSome count (FitsSigned w32) → option_map int32_of (option_map sign_extended count) ≡ count
count_back None fits = refl
count_back (Some z) fits = ap (λ (n : ℤ). Some n) (int32_back z fits)

count_small : (count : Option ℤ) → IfSome count (FitsSigned w32) → IfSome (option_map sign_extended count) (λ n. n < 2 ^ 64)
count_small None fits = tt
count_small (Some z) fits = extended_small z fits

number_small : (t : PayloadType) → (row_of t).number < 2 ^ 32
number_small ScalarString = omega arith
number_small ScalarShort = omega arith
number_small ScalarFloat = omega arith
number_small ScalarEnum = omega arith
number_small ScalarByte = omega arith
number_small ScalarInt = omega arith
number_small ScalarDouble = omega arith
number_small WaveformString = omega arith
number_small WaveformShort = omega arith
number_small WaveformFloat = omega arith
number_small WaveformEnum = omega arith
number_small WaveformByte = omega arith
number_small WaveformInt = omega arith
number_small WaveformDouble = omega arith

info_with-back : (info : PayloadInfo) → FitsInfo info → info_with (Some (row_of info.ty).number) (Some info.name) (Some (sign_extended info.year)) (option_map sign_extended info.count) (Some info.headers) ≡ Ok info
unfolding info_with
info_with-back info fits =
    let low = fits.year.0 in
    let high = fits.year.1 in
    let small : FitsSigned w32 info.year = omega (arith, ints) in
    let number : (row_of info.ty).number % 2 ^ 32 ≡ (row_of info.ty).number = mod-eq_of_lt (number_small info.ty) in
    let ty : type_of ((row_of info.ty).number % 2 ^ 32) ≡ Some info.ty = ap type_of number ∙ type_of-number info.ty in
    let year : in_range (int32_of (sign_extended info.year)) ≡ Ok info.year = ap in_range (int32_back info.year small) ∙ in_range-year info.year low high in
    rw (ty, year, count_back info.count fits.count) refl

info_made : (info : PayloadInfo) (end : ℕ) (rest : List WireField) → FitsInfo info → SaysRest (option_map sign_extended info.count) info.headers (placed end rest) → info_from (placed end (required_fields info ++ rest)) ≡ Ok info
info_made info end rest fits says = rw (says.ty, says.name, says.year, says.count, says.headers) (info_with-back info fits)

info_by : (bytes : List ℕ) (items : List (Placed WireField)) → fields_of bytes (length bytes) ≡ record { items = items; fault = None } → first_of fault_in items ≡ None → info_of bytes ≡ info_from items
unfolding info_of
info_by bytes items e none = rw (e, none) refl

info_fit : (info : PayloadInfo) → FitsInfo info → AllByRecursion FitsField (info_fields info)
info_fit info fits =
    let low = fits.year.0 in
    let high = fits.year.1 in
    let small : FitsSigned w32 info.year = omega (arith, ints) in
    let rest = rest_fit (option_map sign_extended info.count) info.headers (count_small info.count fits.count) fits.headers in
    (((omega arith, omega arith), omega (arith, number_small info.ty)), (((omega arith, omega arith), fits.name), (((omega arith, omega arith), extended_small info.year small), rest)))

pub info_back : (info : PayloadInfo) → FitsInfo info → info_of (info_text info) ≡ Ok info
unfolding info_text
info_back info fits =
    let fields = info_fields info in
    let text = message_text fields in
    let rest = optional_field 4 (option_map sign_extended info.count) ++ map (pair_field 15) info.headers in
    let says = rest_says (length text) (option_map sign_extended info.count) info.headers fits.headers in
    info_by text (placed (length text) fields) (contents_written (length text) fields (info_fit info fits)) says.sound ∙ info_made info (length text) rest fits says
