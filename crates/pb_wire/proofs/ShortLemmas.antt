-- Varints of up to five bytes, byte by byte.
use Rattle.std.proofs.Common.{◌≡◌, ℕ, suc, ◌+◌, ◌-◌, ◌*◌, ◌/◌, ◌%◌, ◌^◌, ◌<◌, ◌≤◌, List, ◌∷◌, Ok, length, arith, refl, ◌∙◌, ap, slice_index_or, Fits, w8}
use Rattle.std.proofs.Math.Nat.{mod-eq_of_lt}
use Rattle.std.proofs.lemmas.Bool.{lt-ltb, le-ltb}
use Rattle.pb_wire.specs.Message.{WireValue, varint, fixed64, fixed32, IsFieldNumber}
use Rattle.pb_wire.specs.Reading.{number_at, varint_at, fixed64_at, fixed32_at, value_at, field_at}
use Rattle.pb_wire.proofs.ReadLemmas.{one_byte}
use Rattle.pb_wire.proofs.FieldLemmas.{IsKind, tag_only}

-- the last byte of a number
number_last : (at n b : ℕ) (text : List ℕ) → b < 128 → number_at at (suc n) (b ∷ text) ≡ Ok (b, text)
unfolding number_at
number_last at n b text small = rw (lt-ltb b 128 small) refl

-- a byte before the others
number_more : (at n b v : ℕ) (text rest : List ℕ) → 128 ≤ b → number_at at n text ≡ Ok (v, rest) → number_at at (suc n) (b ∷ text) ≡ Ok (b - 128 + 128 * v, rest)
unfolding number_at
number_more at n b v text rest big e = rw (le-ltb b 128 big, e) refl

varint_is : (end v w : ℕ) (text rest : List ℕ) → number_at (end - length text) 10 text ≡ Ok (v, rest) → v ≡ w → w < 2 ^ 64 → varint_at end text ≡ Ok (w, rest)
unfolding varint_at
varint_is end v w text rest e same small = rw (e, same) (ap (λ (n : ℕ). Ok (n, rest)) (mod-eq_of_lt small))

-- each is a byte
abbrev pub Bytes : List ℕ → Type 0
Bytes text = (i : ℕ) → Fits w8 (slice_index_or text i 0)

pub short2 : (end a b : ℕ) (rest : List ℕ) → Bytes (a ∷ b ∷ rest) → 128 ≤ a → b < 128 → varint_at end (a ∷ b ∷ rest) ≡ Ok (a - 128 + b * 128, rest)
short2 end a b rest fits la lb =
    let fa : Fits w8 a = fits 0 in
    let two = number_more (end - length (a ∷ b ∷ rest)) 9 a b (b ∷ rest) rest la (number_last (end - length (a ∷ b ∷ rest)) 8 b rest lb) in
    varint_is end (a - 128 + 128 * b) (a - 128 + b * 128) (a ∷ b ∷ rest) rest two (omega arith) (omega arith)

pub short3 : (end a b c : ℕ) (rest : List ℕ) → Bytes (a ∷ b ∷ c ∷ rest) → 128 ≤ a → 128 ≤ b → c < 128 → varint_at end (a ∷ b ∷ c ∷ rest) ≡ Ok (a - 128 + (b - 128) * 128 + c * 16384, rest)
short3 end a b c rest fits la lb lc =
    let fa : Fits w8 a = fits 0 in
    let fb : Fits w8 b = fits 1 in
    let at = end - length (a ∷ b ∷ c ∷ rest) in
    let one = number_last at 7 c rest lc in
    let two = number_more at 8 b c (c ∷ rest) rest lb one in
    let three = number_more at 9 a (b - 128 + 128 * c) (b ∷ c ∷ rest) rest la two in
    varint_is end (a - 128 + 128 * (b - 128 + 128 * c)) (a - 128 + (b - 128) * 128 + c * 16384) (a ∷ b ∷ c ∷ rest) rest three (omega arith) (omega arith)

pub short4 : (end a b c d : ℕ) (rest : List ℕ) → Bytes (a ∷ b ∷ c ∷ d ∷ rest) → 128 ≤ a → 128 ≤ b → 128 ≤ c → d < 128
    → varint_at end (a ∷ b ∷ c ∷ d ∷ rest) ≡ Ok (a - 128 + (b - 128) * 128 + (c - 128) * 16384 + d * 2097152, rest)
short4 end a b c d rest fits la lb lc ld =
    let fa : Fits w8 a = fits 0 in
    let fb : Fits w8 b = fits 1 in
    let fc : Fits w8 c = fits 2 in
    let at = end - length (a ∷ b ∷ c ∷ d ∷ rest) in
    let one = number_last at 6 d rest ld in
    let two = number_more at 7 c d (d ∷ rest) rest lc one in
    let three = number_more at 8 b (c - 128 + 128 * d) (c ∷ d ∷ rest) rest lb two in
    let four = number_more at 9 a (b - 128 + 128 * (c - 128 + 128 * d)) (b ∷ c ∷ d ∷ rest) rest la three in
    varint_is end (a - 128 + 128 * (b - 128 + 128 * (c - 128 + 128 * d))) (a - 128 + (b - 128) * 128 + (c - 128) * 16384 + d * 2097152) (a ∷ b ∷ c ∷ d ∷ rest) rest four (omega arith) (omega arith)

pub short5 : (end a b c d e : ℕ) (rest : List ℕ) → Bytes (a ∷ b ∷ c ∷ d ∷ e ∷ rest) → 128 ≤ a → 128 ≤ b → 128 ≤ c → 128 ≤ d → e < 128
    → varint_at end (a ∷ b ∷ c ∷ d ∷ e ∷ rest) ≡ Ok (a - 128 + (b - 128) * 128 + (c - 128) * 16384 + (d - 128) * 2097152 + e * 268435456, rest)
short5 end a b c d e rest fits la lb lc ld le =
    let fa : Fits w8 a = fits 0 in
    let fb : Fits w8 b = fits 1 in
    let fc : Fits w8 c = fits 2 in
    let fd : Fits w8 d = fits 3 in
    let at = end - length (a ∷ b ∷ c ∷ d ∷ e ∷ rest) in
    let one = number_last at 5 e rest le in
    let two = number_more at 6 d e (e ∷ rest) rest ld one in
    let three = number_more at 7 c (d - 128 + 128 * e) (d ∷ e ∷ rest) rest lc two in
    let four = number_more at 8 b (c - 128 + 128 * (d - 128 + 128 * e)) (c ∷ d ∷ e ∷ rest) rest lb three in
    let five = number_more at 9 a (b - 128 + 128 * (c - 128 + 128 * (d - 128 + 128 * e))) (b ∷ c ∷ d ∷ e ∷ rest) rest la four in
    varint_is end (a - 128 + 128 * (b - 128 + 128 * (c - 128 + 128 * (d - 128 + 128 * e)))) (a - 128 + (b - 128) * 128 + (c - 128) * 16384 + (d - 128) * 2097152 + e * 268435456) (a ∷ b ∷ c ∷ d ∷ e ∷ rest) rest five (omega arith) (omega arith)

-- a field whose tag has one byte
field_short : (end n k t : ℕ) (text rest : List ℕ) (v : WireValue) → (1 ≤ n) × (n ≤ 15) → IsKind k → t ≡ n * 8 + k → value_at end k text ≡ Ok (v, rest) → field_at end (t ∷ text) ≡ Ok (record { number = n; value = v }, rest)
unfolding field_at
field_short end n k t text rest v number kind is e =
    let small : t < 128 = omega (arith, number.0, number.1, is, kind.0) in
    let fits : IsFieldNumber n = (number.0, omega (arith, number.1)) in
    let read : varint_at end (t ∷ text) ≡ Ok (n * 8 + k, text) = one_byte end t text small ∙ ap (λ (m : ℕ). Ok (m, text)) is in
    let tag = tag_only end n k (t ∷ text) text fits kind read in
    let kept : (n * 8 + k) % 8 ≡ k = grind arith in
    let number_is : (n * 8 + k) / 8 ≡ n = grind arith in
    rw (tag, kept, number_is, e) refl

pub number_short : (end n t m : ℕ) (text rest : List ℕ) → (1 ≤ n) × (n ≤ 15) → t ≡ n * 8 → varint_at end text ≡ Ok (m, rest) → field_at end (t ∷ text) ≡ Ok (record { number = n; value = varint m }, rest)
unfolding value_at
number_short end n t m text rest number is e = field_short end n 0 t text rest (varint m) number (omega arith, omega arith, omega arith) (omega (arith, is)) (rw e refl)

pub fixed64_short : (end n t m : ℕ) (text rest : List ℕ) → (1 ≤ n) × (n ≤ 15) → t ≡ n * 8 + 1 → fixed64_at end text ≡ Ok (m, rest) → field_at end (t ∷ text) ≡ Ok (record { number = n; value = fixed64 m }, rest)
unfolding value_at
fixed64_short end n t m text rest number is e = field_short end n 1 t text rest (fixed64 m) number (omega arith, omega arith, omega arith) is (rw e refl)

pub fixed32_short : (end n t m : ℕ) (text rest : List ℕ) → (1 ≤ n) × (n ≤ 15) → t ≡ n * 8 + 5 → fixed32_at end text ≡ Ok (m, rest) → field_at end (t ∷ text) ≡ Ok (record { number = n; value = fixed32 m }, rest)
unfolding value_at
fixed32_short end n t m text rest number is e = field_short end n 5 t text rest (fixed32 m) number (omega arith, omega arith, omega arith) is (rw e refl)
