-- What is read is spelled so, and what is spelled so is read, whatever follows.
use Rattle.std.proofs.Common.{◌≡◌, ℕ, suc, zero, ◌+◌, ◌-◌, ◌*◌, ◌/◌, ◌%◌, ◌^◌, ◌<◌, ◌≤◌, List, [], ◌∷◌, ◌++◌, Result, Ok, Err, length, arith, refl, sym, ◌∙◌, ap, inl, inr}
use Rattle.std.proofs.Math.Nat.{div-add-mod, mod-eq_of_lt}
use Rattle.std.proofs.lemmas.Bool.{lt-ltb, le-ltb, cases_lt}
use Rattle.std.proofs.lemmas.Nat.{pow-add}
use Rattle.pb_wire.specs.declared.error.WireErr.{WireErr}
use Rattle.pb_wire.specs.Reading.{◌>>=◌, number_at, varint_at}
use Rattle.pb_wire.specs.Spelling.{number, number_text}
use Rattle.pb_wire.specs.Grammar.{Spells, IsVarint}

pub bind_ok : {A B : Type 0} (r : Result A WireErr) (f : A → Result B WireErr) (y : B) → (r >>= f) ≡ Ok y → (x : A) × (r ≡ Ok x) × (f x ≡ Ok y)
bind_ok (Ok x) f y e = (x, refl, e)
bind_ok (Err d) f y e = absurd cc

abbrev pub done : {A : Type 0} → A → Result A WireErr
done x = Ok x

pub ok_is : {A : Type 0} (x y : A) → done x ≡ done y → x ≡ y
ok_is x y e = cc

-- what is read is spelled so
pub read_is_spelled : (at k : ℕ) (text : List ℕ) (n : ℕ) (rest : List ℕ) → number_at at k text ≡ Ok (n, rest) → (s : List ℕ) × Spells s n × (length s ≤ k) × (text ≡ s ++ rest)
unfolding number_at
read_is_spelled at zero text n rest e = absurd cc
read_is_spelled at (suc k) [] n rest e = absurd cc
read_is_spelled at (suc k) (b ∷ text) n rest e =
    elim (cases_lt b 128) [
      | inl lt ↦
          let one = rw (lt-ltb b 128 lt) at e in
          let pair = ok_is (b, text) (n, rest) one in
          let both : (b ≡ n) × (text ≡ rest) = (ap (λ (x : ℕ × List ℕ). x.0) pair, ap (λ (x : ℕ × List ℕ). x.1) pair) in
          (b ∷ [], (lt, sym both.0), omega arith, ap (λ (v : List ℕ). b ∷ v) both.1)
      | inr le ↦
          let more = rw (le-ltb b 128 le) at e in
          let found = bind_ok (number_at at k text) (λ x. Ok (b - 128 + 128 * x.0, x.1)) (n, rest) more in
          let pair = ok_is (b - 128 + 128 * found.0.0, found.0.1) (n, rest) found.2 in
          let both : (b - 128 + 128 * found.0.0 ≡ n) × (found.0.1 ≡ rest) = (ap (λ (x : ℕ × List ℕ). x.0) pair, ap (λ (x : ℕ × List ℕ). x.1) pair) in
          let inner = read_is_spelled at k text found.0.0 found.0.1 found.1 in
          longer b text n rest found.0.0 k inner.0 le (sym both.0) inner.1 inner.2 (inner.3 ∙ ap (λ (v : List ℕ). inner.0 ++ v) both.1)
    ]
  where
    longer : (b : ℕ) (text : List ℕ) (n : ℕ) (rest : List ℕ) (high k : ℕ) (s : List ℕ) → 128 ≤ b → n ≡ b - 128 + 128 * high → Spells s high → length s ≤ k → text ≡ s ++ rest
        → (s : List ℕ) × Spells s n × (length s ≤ suc k) × (b ∷ text ≡ s ++ rest)
    longer b text n rest high k [] le is spelled short split = absurd spelled
    longer b text n rest high k (c ∷ s) le is spelled short split = (b ∷ c ∷ s, (le, (high, is, spelled)), omega arith, ap (λ (v : List ℕ). b ∷ v) split)

-- what is spelled so is read
pub spelled_is_read : (at k : ℕ) (s : List ℕ) (n : ℕ) (rest : List ℕ) → Spells s n → length s ≤ k → number_at at k (s ++ rest) ≡ Ok (n, rest)
unfolding number_at
spelled_is_read at k [] n rest h short = absurd h
spelled_is_read at zero (b ∷ s) n rest h short = absurd (omega arith)
spelled_is_read at (suc k) (b ∷ []) n rest h short = rw (lt-ltb b 128 h.0) (ap (λ (m : ℕ). done (m, rest)) (sym h.1))
spelled_is_read at (suc k) (b ∷ c ∷ s) n rest h short =
    let inner = spelled_is_read at k (c ∷ s) h.1.0 rest h.1.2 (omega arith) in
    rw (le-ltb b 128 h.0, inner) (ap (λ (m : ℕ). done (m, rest)) (sym h.1.1))

-- the shortest spelling spells the number
pub number_spells : (k v : ℕ) → v < 128 ^ suc k → Spells (number (suc k) v) v
unfolding number
number_spells zero v h = rw (lt-ltb v 128 (omega arith)) (omega arith, refl)
number_spells (suc k) v h =
    elim (cases_lt v 128) [
      | inl lt ↦ rw (lt-ltb v 128 lt) (lt, refl)
      | inr le ↦
          let small : v / 128 < 128 ^ suc k = omega (arith, div-add-mod v 128, pow-add 128 (suc k) 1, h) in
          let inner = number_spells k (v / 128) small in
          rw (le-ltb v 128 le) (longer v (number (suc k) (v / 128)) inner)
    ]
  where
    longer : (v : ℕ) (s : List ℕ) → Spells s (v / 128) → Spells ((v % 128 + 128) ∷ s) v
    longer v [] h = absurd h
    longer v (c ∷ s) h = (omega arith, (v / 128, omega (arith, div-add-mod v 128), h))

pub varint_found : (total : ℕ) (text rest : List ℕ) (v : ℕ) → varint_at total text ≡ Ok (v, rest) → (s : List ℕ) × IsVarint s v × (text ≡ s ++ rest)
unfolding varint_at
varint_found total text rest v e =
    let found = bind_ok (number_at (total - length text) 10 text) (λ x. Ok (x.0 % 2 ^ 64, x.1)) (v, rest) e in
    let pair = ok_is (found.0.0 % 2 ^ 64, found.0.1) (v, rest) found.2 in
    let both : (found.0.0 % 2 ^ 64 ≡ v) × (found.0.1 ≡ rest) = (ap (λ (x : ℕ × List ℕ). x.0) pair, ap (λ (x : ℕ × List ℕ). x.1) pair) in
    let inner = read_is_spelled (total - length text) 10 text found.0.0 found.0.1 found.1 in
    (inner.0, (inner.2, (found.0.0, inner.1, sym both.0)), inner.3 ∙ ap (λ (u : List ℕ). inner.0 ++ u) both.1)

pub varint_only : (total : ℕ) (s rest : List ℕ) (v : ℕ) → IsVarint s v → varint_at total (s ++ rest) ≡ Ok (v, rest)
unfolding varint_at
varint_only total s rest v h =
    let read = spelled_is_read (total - length (s ++ rest)) 10 s h.1.0 rest h.1.1 h.0 in
    rw read (ap (λ (m : ℕ). done (m, rest)) (sym h.1.2))

length-number : (k v : ℕ) → length (number k v) ≤ k
unfolding number
length-number zero v = omega arith
length-number (suc k) v =
    elim (cases_lt v 128) [
      | inl lt ↦ rw (lt-ltb v 128 lt) (omega arith)
      | inr le ↦ rw (le-ltb v 128 le) (omega (arith, length-number k (v / 128)))
    ]

pub varint_written : (v : ℕ) → v < 2 ^ 64 → IsVarint (number_text v) v
unfolding number_text
varint_written v h = (length-number 10 v, (v, number_spells 9 v (omega arith), sym (mod-eq_of_lt h)))
