-- The bytes of a field, and what is written as one.
use Rattle.std.proofs.Common.{◌≡◌, ℕ, ◌+◌, ◌-◌, ◌*◌, ◌^◌, ◌<◌, ◌≤◌, List, [], ◌∷◌, ◌++◌, Some, Ok, length, arith, refl, sym, ap}
use Rattle.std.proofs.lemmas.List.{length-append}
use Rattle.std.proofs.lemmas.Nat.{from_le_bytes-to_le_bytes_4, from_le_bytes-to_le_bytes_8}
use Rattle.pb_wire.specs.Message.{WireValue, varint, fixed64, blob, fixed32, WireField, kind_of, blob_len, IsFieldNumber}
use Rattle.pb_wire.specs.Grammar.{IsVarint, IsValue, IsField}
use Rattle.pb_wire.specs.Reading.{varint_at, field_at}
use Rattle.pb_wire.specs.Cursor.{next_of}
use Rattle.pb_wire.specs.Spelling.{number_text, value_text, field_text, FitsValue}
use Rattle.pb_wire.proofs.GrammarLemmas.{varint_found, varint_written}
use Rattle.pb_wire.proofs.FieldLemmas.{field_found, field_only}
use Rattle.pb_wire.proofs.ContentsLemmas.{Shrinks, next_item}

pub varint_some : (s : List ℕ) (n : ℕ) → IsVarint s n → 0 < length s
varint_some [] n h = absurd h.1.1
varint_some (b ∷ s) n h = omega arith

blob_within : (s : List ℕ) (v : WireValue) → IsValue s v → blob_len v ≤ length s
blob_within s (varint n) h = omega arith
blob_within s (fixed64 n) h = omega arith
blob_within s (blob b) h = omega (arith, ap length h.1, length-append h.0 b)
blob_within s (fixed32 n) h = omega arith

-- a field has a byte at least, beside those of a blob
pub field_some : (s : List ℕ) (f : WireField) → IsField s f → blob_len f.value < length s
field_some s f h = omega (arith, ap length h.2, length-append h.0 h.1, varint_some h.0 (f.number * 8 + kind_of f.value) h.4, blob_within h.1 f.value h.5)

-- reading a field or a varint uses bytes up
pub field_shrinks : Shrinks field_at
field_shrinks end text rest f e = let found = field_found end text rest f e in omega (arith, field_some found.0 f found.1, ap length found.2, length-append found.0 rest)

pub varint_shrinks : Shrinks varint_at
varint_shrinks end text rest n e = let found = varint_found end text rest n e in omega (arith, varint_some found.0 n found.1, ap length found.2, length-append found.0 rest)

-- a blob that was read lies before the place behind its field
pub blob_inside : (end : ℕ) (text rest : List ℕ) (f : WireField) → length text ≤ end → field_at end text ≡ Ok (f, rest) → blob_len f.value ≤ end - length rest
blob_inside end text rest f within e = let found = field_found end text rest f e in omega (arith, field_some found.0 f found.1, ap length found.2, length-append found.0 rest)

-- the shortest spelling of a value is one of its spellings
value_written : (v : WireValue) → FitsValue v → IsValue (value_text v) v
value_written (varint n) h = varint_written n h
value_written (fixed64 n) h = (refl, sym (from_le_bytes-to_le_bytes_8 n h))
value_written (blob b) h = (number_text (length b), refl, varint_written (length b) h)
value_written (fixed32 n) h = (refl, sym (from_le_bytes-to_le_bytes_4 n h))

kind_small : (v : WireValue) → kind_of v < 8
kind_small (varint n) = omega arith
kind_small (fixed64 n) = omega arith
kind_small (blob b) = omega arith
kind_small (fixed32 n) = omega arith

pub field_written : (n : ℕ) (v : WireValue) → IsFieldNumber n → FitsValue v → IsField (field_text n v) (record { number = n; value = v })
field_written n v number fits =
    let small : n * 8 + kind_of v < 2 ^ 64 = omega (arith, number.1, kind_small v) in
    (number_text (n * 8 + kind_of v), value_text v, refl, number, varint_written (n * 8 + kind_of v) small, value_written v fits)

-- what is written is read back, whatever follows
pub next_written : (end n : ℕ) (v : WireValue) (rest : List ℕ) → IsFieldNumber n → FitsValue v → next_of field_at (record { rest = field_text n v ++ rest; end = end }) ≡ Ok (Some (record { number = n; value = v }, record { rest = rest; end = end }))
next_written end n v rest number fits =
    let f : WireField = record { number = n; value = v } in
    next_item field_at field_shrinks end (field_text n v ++ rest) rest f (field_only end (field_text n v) rest f (field_written n v number fits))
