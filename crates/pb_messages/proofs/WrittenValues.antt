-- What is written as val is read as that value.
use Rattle.std.proofs.Common.{◌≡◌, ℕ, ◌/◌, ◌%◌, ◌^◌, ◌<◌, ℤ, pos, negsuc, List, [], ◌∷◌, ◌++◌, length, map, take, drop, Some, None, Ok, refl, ap, arith}
use Rattle.std.specs.Prelude.{FitsSigned}
use Rattle.std.specs.List.{flat_map, AllByRecursion}
use Rattle.std.specs.Simd.{first_chunks}
use Rattle.std.specs.Int.{w32, w64, cast_unsigned, to_le_bytes, from_le_bytes}
use Rattle.std.proofs.Math.Nat.{mod-eq_of_lt}
use Rattle.std.proofs.lemmas.Int.{ints, to_z-of_z}
use Rattle.std.proofs.lemmas.List.{take_at, drop_at}
use Rattle.std.proofs.lemmas.Nat.{from_le_bytes-to_le_bytes_4, from_le_bytes-to_le_bytes_8}
use Rattle.pb_wire.specs.Signed.{zigzag_of}
use Rattle.pb_wire.specs.Message.{WireValue, varint, fixed64, blob, fixed32}
use Rattle.pb_wire.specs.Reading.{varint_at}
use Rattle.pb_wire.specs.Cursor.{Cursor, contents_of, items_of}
use Rattle.pb_wire.proofs.SignedLemmas.{unzigzag-zigzag}
use Rattle.pb_wire.proofs.GrammarLemmas.{varint_only, varint_written}
use Rattle.pb_wire.proofs.ContentsLemmas.{contents_by, contents_end, next_item}
use Rattle.pb_wire.proofs.FieldTexts.{varint_shrinks}
use Rattle.pb_messages.specs.declared.layout.Element.TheVariants.{Fixed32, Fixed64}
use Rattle.pb_messages.specs.Element.{int_of, bits32_of, bits64_of, bytes_of}
use Rattle.pb_messages.specs.Layout.{pieces_of, packed_of, packed_varints, unless_multiple}
use Rattle.pb_messages.specs.Spelling.{sint32_text, sfixed32_text}
use Rattle.pb_messages.proofs.PackedLemmas.{same_length}

zigzag_small : (z : ℤ) → FitsSigned w32 z → zigzag_of z < 2 ^ 32
zigzag_small (pos n) fits = omega (arith, ints)
zigzag_small (negsuc n) fits = omega (arith, ints)

-- a sint32 is read back
pub zigzag_back : (z : ℤ) → FitsSigned w32 z → int_of (varint (zigzag_of z)) ≡ z
zigzag_back z fits = rw (mod-eq_of_lt (zigzag_small z fits)) (unzigzag-zigzag z)

pub sfixed_back : (z : ℤ) → FitsSigned w32 z → int_of (fixed32 (cast_unsigned w32 z)) ≡ z
sfixed_back z fits = to_z-of_z w32 z fits

varints_written : (end : ℕ) (zs : List ℤ) → AllByRecursion (FitsSigned w32) zs → ((contents_of varint_at (record { rest = flat_map sint32_text zs; end = end })).fault ≡ None) × (map (λ n. varint n) (items_of (contents_of varint_at (record { rest = flat_map sint32_text zs; end = end }))) ≡ map (λ z. varint (zigzag_of z)) zs)
varints_written end [] fits = rw (contents_end varint_at varint_shrinks end) (refl, refl)
varints_written end (z ∷ zs) fits =
    let rest = flat_map sint32_text zs in
    let c : Cursor = record { rest = sint32_text z ++ rest; end = end } in
    let d : Cursor = record { rest = rest; end = end } in
    let small : zigzag_of z < 2 ^ 64 = omega (arith, zigzag_small z fits.0) in
    let read = varint_only end (sint32_text z) rest (zigzag_of z) (varint_written (zigzag_of z) small) in
    let next = next_item varint_at varint_shrinks end (sint32_text z ++ rest) rest (zigzag_of z) read in
    let more = varints_written end zs fits.1 in
    rw (contents_by varint_at varint_shrinks c (Ok (Some (zigzag_of z, d))) next) (more.0, ap (λ (es : List WireValue). varint (zigzag_of z) ∷ es) more.1)

pub packed_varints-written : (zs : List ℤ) (behind : ℕ) → AllByRecursion (FitsSigned w32) zs → packed_varints (flat_map sint32_text zs) behind ≡ record { values = map (λ z. varint (zigzag_of z)) zs; fault = None }
unfolding packed_varints
packed_varints-written zs behind fits = let both = varints_written behind zs fits in rw (both.0, both.1) refl

-- pieces of one length are cut as they were written
pieces_written : {A : Type 0} (spell : A → List ℕ) (n : ℕ) → ((x : A) → length (spell x) ≡ n) → (xs : List A) → first_chunks n (length xs) (flat_map spell xs) ≡ map spell xs
pieces_written spell n each [] = refl
pieces_written {A} spell n each (x ∷ xs) =
    let rest = flat_map spell xs in
    let front : take n (spell x ++ rest) ≡ spell x = take_at (spell x) rest n (each x) in
    let back : drop n (spell x ++ rest) ≡ rest = drop_at (spell x) rest n (each x) in
    rw (front, back, pieces_written spell n each xs) refl

words_multiple : {A : Type 0} (spell : A → List ℕ) → ((x : A) → length (spell x) ≡ 4) → (xs : List A) (behind : ℕ) → unless_multiple 4 (flat_map spell xs) behind ≡ None
words_multiple spell each xs behind = let even : length (flat_map spell xs) % 4 ≡ 0 = omega (arith, same_length spell 4 each xs) in rw even refl

longs_multiple : {A : Type 0} (spell : A → List ℕ) → ((x : A) → length (spell x) ≡ 8) → (xs : List A) (behind : ℕ) → unless_multiple 8 (flat_map spell xs) behind ≡ None
longs_multiple spell each xs behind = let even : length (flat_map spell xs) % 8 ≡ 0 = omega (arith, same_length spell 8 each xs) in rw even refl

words_pieces : {A : Type 0} (spell : A → List ℕ) → ((x : A) → length (spell x) ≡ 4) → (xs : List A) → pieces_of 4 (flat_map spell xs) ≡ map spell xs
words_pieces spell each xs = let count : length (flat_map spell xs) / 4 ≡ length xs = omega (arith, same_length spell 4 each xs) in rw count (pieces_written spell 4 each xs)

longs_pieces : {A : Type 0} (spell : A → List ℕ) → ((x : A) → length (spell x) ≡ 8) → (xs : List A) → pieces_of 8 (flat_map spell xs) ≡ map spell xs
longs_pieces spell each xs = let count : length (flat_map spell xs) / 8 ≡ length xs = omega (arith, same_length spell 8 each xs) in rw count (pieces_written spell 8 each xs)

pub packed_words : {A : Type 0} (spell : A → List ℕ) → ((x : A) → length (spell x) ≡ 4) → (xs : List A) (behind : ℕ)
    → packed_of Fixed32 (flat_map spell xs) behind ≡ record { values = map (λ t. fixed32 (from_le_bytes w32 t)) (map spell xs); fault = None }
packed_words spell each xs behind =
    λ i. record { values = map (λ t. fixed32 (from_le_bytes w32 t)) (words_pieces spell each xs i); fault = words_multiple spell each xs behind i }

pub packed_longs : {A : Type 0} (spell : A → List ℕ) → ((x : A) → length (spell x) ≡ 8) → (xs : List A) (behind : ℕ)
    → packed_of Fixed64 (flat_map spell xs) behind ≡ record { values = map (λ t. fixed64 (from_le_bytes w64 t)) (map spell xs); fault = None }
packed_longs spell each xs behind =
    λ i. record { values = map (λ t. fixed64 (from_le_bytes w64 t)) (longs_pieces spell each xs i); fault = longs_multiple spell each xs behind i }

-- each element means what was written
pub zigzags_mean : (zs : List ℤ) → AllByRecursion (FitsSigned w32) zs → map int_of (map (λ z. varint (zigzag_of z)) zs) ≡ zs
zigzags_mean [] fits = refl
zigzags_mean (z ∷ zs) fits = rw (zigzag_back z fits.0, zigzags_mean zs fits.1) refl

pub words_mean : (ns : List ℕ) → AllByRecursion (λ n. n < 2 ^ 32) ns → map bits32_of (map (λ t. fixed32 (from_le_bytes w32 t)) (map (to_le_bytes w32) ns)) ≡ ns
words_mean [] fits = refl
words_mean (n ∷ ns) fits = rw (from_le_bytes-to_le_bytes_4 n fits.0, words_mean ns fits.1) refl

pub sfixeds_mean : (zs : List ℤ) → AllByRecursion (FitsSigned w32) zs → map int_of (map (λ t. fixed32 (from_le_bytes w32 t)) (map sfixed32_text zs)) ≡ zs
sfixeds_mean [] fits = refl
sfixeds_mean (z ∷ zs) fits =
    let small : cast_unsigned w32 z < 2 ^ 32 = omega (arith, ints) in
    rw (from_le_bytes-to_le_bytes_4 (cast_unsigned w32 z) small, to_z-of_z w32 z fits.0, sfixeds_mean zs fits.1) refl

pub longs_mean : (ns : List ℕ) → AllByRecursion (λ n. n < 2 ^ 64) ns → map bits64_of (map (λ t. fixed64 (from_le_bytes w64 t)) (map (to_le_bytes w64) ns)) ≡ ns
longs_mean [] fits = refl
longs_mean (n ∷ ns) fits = rw (from_le_bytes-to_le_bytes_8 n fits.0, longs_mean ns fits.1) refl

pub strings_mean : (bs : List (List ℕ)) → map bytes_of (map (λ b. blob b) bs) ≡ bs
strings_mean [] = refl
strings_mean (b ∷ bs) = ap (λ (l : List (List ℕ)). b ∷ l) (strings_mean bs)
