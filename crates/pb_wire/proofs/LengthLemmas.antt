-- How many bytes a number has, in its shortest spelling and in the others.
use Rattle.std.proofs.Common.{◌≡◌, ℕ, suc, zero, ◌+◌, ◌-◌, ◌*◌, ◌/◌, ◌%◌, ◌^◌, ◌<◌, ◌≤◌, List, [], ◌∷◌, ◌++◌, length, arith, refl, ◌∙◌, ap, subst, inl, inr}
use Rattle.std.specs.List.{AllByRecursion}
use Rattle.std.proofs.Math.Nat.{div-add-mod}
use Rattle.std.proofs.lemmas.Bool.{lt-ltb, le-ltb, cases_lt}
use Rattle.std.proofs.lemmas.List.{length-append}
use Rattle.std.proofs.lemmas.Nat.{pow-add}
use Rattle.pb_wire.specs.Message.{WireValue, varint, fixed64, blob, fixed32, WireField, kind_of}
use Rattle.pb_wire.specs.Grammar.{Spells, IsVarint, IsValue, IsField}
use Rattle.pb_wire.specs.Spelling.{number, number_text, value_text, field_text}
use Rattle.pb_wire.proofs.Written.{shrinks, at_nine}

-- the bytes that were counted, and those of the rest
abbrev pub Counts : ℕ → ℕ → ℕ → Type 0
Counts v len rest = (1 ≤ len) × (len ≤ 10) × (len + length (number (11 - len) rest) ≡ 1 + length (number_text v)) × (rest * 128 ^ (len - 1) < 2 ^ 64)

pub count_starts : (v : ℕ) → v < 2 ^ 64 → Counts v 1 v
unfolding number_text
count_starts v small = (omega arith, omega arith, refl, omega arith)

pub count_more : (v len rest : ℕ) → 128 ≤ rest → Counts v len rest → Counts v (len + 1) (rest / 128)
unfolding number
count_more v len rest big c =
    let few : len < 10 = elim (cases_lt len 10) [ inl lt ↦ lt | inr le ↦ absurd (let low = at_nine rest (len - 1) (omega arith) c.3 in omega arith) ] in
    let k : 11 - len ≡ suc (11 - (len + 1)) = omega arith in
    let one : number (11 - len) rest ≡ (rest % 128 + 128) ∷ number (11 - (len + 1)) (rest / 128) = rw (k, le-ltb rest 128 big) refl in
    let place : len + 1 - 1 ≡ (len - 1) + 1 = omega arith in
    (omega arith, omega arith, omega (arith, c.2, ap length one), rw place (shrinks rest (len - 1) (2 ^ 64) c.3))

pub count_ends : (v len rest : ℕ) → rest < 128 → Counts v len rest → len ≡ length (number_text v)
unfolding number
count_ends v len rest small c =
    let k : 11 - len ≡ suc (10 - len) = omega arith in
    let one : number (11 - len) rest ≡ rest ∷ [] = rw (k, lt-ltb rest 128 small) refl in
    omega (arith, c.2, ap length one)

abbrev pub Bytes : List ℕ → Type 0
Bytes s = AllByRecursion (λ b. b < 256) s

apart : (xs ys : List ℕ) → Bytes (xs ++ ys) → Bytes xs × Bytes ys
apart [] ys h = (tt, h)
apart (x ∷ xs) ys h = let more = apart xs ys h.1 in ((h.0, more.0), more.1)

-- so many bytes hold no greater number
spelled_below : (s : List ℕ) (n : ℕ) → Bytes s → Spells s n → n < 128 ^ length s
spelled_below [] n bytes h = absurd h
spelled_below (b ∷ []) n bytes h = omega (arith, h.0, h.1)
spelled_below (b ∷ c ∷ s) n bytes h =
    let one : length (b ∷ c ∷ s) ≡ length (c ∷ s) + 1 = omega arith in
    let size : 128 ^ length (b ∷ c ∷ s) ≡ 128 ^ length (c ∷ s) * 128 = ap (λ (k : ℕ). 128 ^ k) one ∙ pow-add 128 (length (c ∷ s)) 1 in
    let high : h.1.0 < 128 ^ length (c ∷ s) = spelled_below (c ∷ s) h.1.0 bytes.1 h.1.2 in
    rw size (omega (arith, bytes.0, h.0, h.1.1, high))

below_fits : (m k v : ℕ) → 1 ≤ k → v < 128 ^ k → length (number m v) ≤ k
unfolding number
below_fits zero k v some small = omega arith
below_fits (suc m) zero v some small = absurd (omega arith)
below_fits (suc m) (suc zero) v some small = rw (lt-ltb v 128 (omega arith)) (omega arith)
below_fits (suc m) (suc (suc k)) v some small =
    elim (cases_lt v 128) [
      | inl lt ↦ rw (lt-ltb v 128 lt) (omega arith)
      | inr le ↦
          let one : suc (suc k) ≡ suc k + 1 = omega arith in
          let size : 128 ^ suc (suc k) ≡ 128 ^ suc k * 128 = ap (λ (j : ℕ). 128 ^ j) one ∙ pow-add 128 (suc k) 1 in
          let more : v / 128 < 128 ^ suc k = omega (arith, div-add-mod v 128, size, small) in
          rw (le-ltb v 128 le) (omega (arith, below_fits m (suc k) (v / 128) (omega arith) more))
    ]

-- no spelling is shorter than the one that is written
pub varint_shortest : (s : List ℕ) (v : ℕ) → Bytes s → IsVarint s v → length (number_text v) ≤ length s
unfolding number_text
varint_shortest [] v bytes h = absurd h.1.1
varint_shortest (b ∷ s) v bytes h =
    let below : h.1.0 < 128 ^ length (b ∷ s) = spelled_below (b ∷ s) h.1.0 bytes h.1.1 in
    let less : v ≤ h.1.0 = omega (arith, h.1.2, div-add-mod h.1.0 (2 ^ 64)) in
    below_fits 10 (length (b ∷ s)) v (omega arith) (omega (arith, below, less))

value_shortest : (s : List ℕ) (v : WireValue) → Bytes s → IsValue s v → length (value_text v) ≤ length s
value_shortest s (varint n) bytes h = varint_shortest s n bytes h
value_shortest s (fixed64 n) bytes h = omega (arith, h.0)
value_shortest s (blob b) bytes h =
    let size = apart h.0 b (subst Bytes h.1 bytes) in
    omega (arith, varint_shortest h.0 (length b) size.0 h.2, ap length h.1, length-append h.0 b, length-append (number_text (length b)) b)
value_shortest s (fixed32 n) bytes h = omega (arith, h.0)

pub field_shortest : (s : List ℕ) (f : WireField) → Bytes s → IsField s f → length (field_text f.number f.value) ≤ length s
field_shortest s f bytes h =
    let parts = apart h.0 h.1 (subst Bytes h.2 bytes) in
    let tag = varint_shortest h.0 (f.number * 8 + kind_of f.value) parts.0 h.4 in
    let value = value_shortest h.1 f.value parts.1 h.5 in
    omega (arith, tag, value, ap length h.2, length-append h.0 h.1, length-append (number_text (f.number * 8 + kind_of f.value)) (value_text f.value))
