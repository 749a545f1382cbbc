-- A number read byte by byte.
use Rattle.std.proofs.Common.{◌≡◌, ℕ, suc, ◌+◌, ◌-◌, ◌*◌, ◌%◌, ◌^◌, ◌<◌, ◌≤◌, List, [], ◌∷◌, Result, Ok, Err, length, arith, refl, sym, ◌∙◌, ap}
use Rattle.std.proofs.Math.Nat.{mod-eq_of_lt, mod-add-mod, add-mod-mod, div-add-mod}
use Rattle.std.proofs.lemmas.Bool.{lt-ltb, le-ltb}
use Rattle.std.proofs.lemmas.Nat.{pow-add}
use Rattle.pb_wire.specs.declared.error.WireErr.{WireErr}
use Rattle.pb_wire.specs.declared.error.WireErr.TheVariants.{BadVarint, Short}
use Rattle.pb_wire.specs.Reading.{◌>>=◌, number_at, varint_at}

-- what is read so far, and what is still read, of which the first bit counts `scale`
abbrev pub with_low : ℕ → ℕ → Result (ℕ × List ℕ) WireErr → Result (ℕ × List ℕ) WireErr
with_low low scale read = read >>= λ x. Ok ((low + x.0 * scale) % 2 ^ 64, x.1)

from_nothing : (read : Result (ℕ × List ℕ) WireErr) → with_low 0 1 read ≡ (read >>= λ x. Ok (x.0 % 2 ^ 64, x.1))
from_nothing (Ok x) = let e : 0 + x.0 * 1 ≡ x.0 = omega arith in ap (λ (n : ℕ). Ok (n % 2 ^ 64, x.1)) e
from_nothing (Err e) = refl

pub starts : (total : ℕ) (text : List ℕ) → with_low 0 1 (number_at (total - length text) 10 text) ≡ varint_at total text
unfolding varint_at
starts total text = from_nothing (number_at (total - length text) 10 text)

-- the bytes end
pub ends : (at i low scale : ℕ) (read : Result (ℕ × List ℕ) WireErr) → i < 10 → with_low low scale (number_at at (10 - i) []) ≡ read → read ≡ Err (Short at)
unfolding number_at
ends at i low scale read lt so_far =
    let k : 10 - i ≡ suc (9 - i) = omega arith in
    let one : with_low low scale (number_at at (10 - i) []) ≡ Err (Short at) = rw k refl in
    sym so_far ∙ one

-- ten bytes were read
pub too_long : (at i low scale : ℕ) (text : List ℕ) (read : Result (ℕ × List ℕ) WireErr) → 10 ≤ i → with_low low scale (number_at at (10 - i) text) ≡ read → read ≡ Err (BadVarint at)
unfolding number_at
too_long at i low scale text read le so_far =
    let k : 10 - i ≡ 0 = omega arith in
    let one : with_low low scale (number_at at (10 - i) text) ≡ Err (BadVarint at) = rw k refl in
    sym so_far ∙ one

-- the last byte
pub last : (at i low scale b : ℕ) (text : List ℕ) (read : Result (ℕ × List ℕ) WireErr) → i < 10 → b < 128 → with_low low scale (number_at at (10 - i) (b ∷ text)) ≡ read → read ≡ Ok ((low + b * scale % 2 ^ 64) % 2 ^ 64, text)
unfolding number_at
last at i low scale b text read lt small so_far =
    let k : 10 - i ≡ suc (9 - i) = omega arith in
    let test = lt-ltb b 128 small in
    let one : with_low low scale (number_at at (10 - i) (b ∷ text)) ≡ Ok ((low + b * scale) % 2 ^ 64, text) = rw (k, test) refl in
    sym so_far ∙ one ∙ ap (λ (n : ℕ). Ok (n, text)) (sym (add-mod-mod low (b * scale) (2 ^ 64)))

-- one more byte
carry : (low scale b : ℕ) (read : Result (ℕ × List ℕ) WireErr) → with_low low scale (read >>= λ x. Ok (b + 128 * x.0, x.1)) ≡ with_low ((low + b * scale % 2 ^ 64) % 2 ^ 64) (scale * 128) read
carry low scale b (Ok x) =
    let sums : low + (b + 128 * x.0) * scale ≡ (low + b * scale) + x.0 * (scale * 128) = omega arith in
    let same = sym (mod-add-mod (low + b * scale) (2 ^ 64) (x.0 * (scale * 128))) in
    let inner = sym (add-mod-mod low (b * scale) (2 ^ 64)) in
    ap (λ (n : ℕ). Ok (n, x.1)) (ap (λ (n : ℕ). n % 2 ^ 64) sums ∙ same ∙ ap (λ (n : ℕ). (n + x.0 * (scale * 128)) % 2 ^ 64) inner)
carry low scale b (Err e) = refl

pub goes_on : (at i low shift b : ℕ) (text : List ℕ) (read : Result (ℕ × List ℕ) WireErr) → i < 10 → 128 ≤ b → with_low low (2 ^ shift) (number_at at (10 - i) (b ∷ text)) ≡ read
    → with_low ((low + (b - 128) * 2 ^ shift % 2 ^ 64) % 2 ^ 64) (2 ^ (shift + 7)) (number_at at (10 - (i + 1)) text) ≡ read
unfolding number_at
goes_on at i low shift b text read lt big so_far =
    let k : 10 - i ≡ suc (10 - (i + 1)) = omega arith in
    let test = le-ltb b 128 big in
    let one : with_low low (2 ^ shift) (number_at at (10 - i) (b ∷ text)) ≡ with_low low (2 ^ shift) (number_at at (10 - (i + 1)) text >>= λ x. Ok (b - 128 + 128 * x.0, x.1)) = rw (k, test) refl in
    let scale : 2 ^ (shift + 7) ≡ 2 ^ shift * 128 = pow-add 2 shift 7 in
    rw scale (sym (carry low (2 ^ shift) (b - 128) (number_at at (10 - (i + 1)) text)) ∙ sym one ∙ so_far)

pub shift_is : (shift : ℕ) → shift < 64 → shift % 64 ≡ shift
shift_is shift lt = omega (arith, div-add-mod shift 64)

-- a varint of one byte
pub one_byte : (end b : ℕ) (text : List ℕ) → b < 128 → varint_at end (b ∷ text) ≡ Ok (b, text)
unfolding varint_at number_at
one_byte end b text small = rw (lt-ltb b 128 small) (ap (λ (n : ℕ). Ok (n, text)) (mod-eq_of_lt (omega arith)))
