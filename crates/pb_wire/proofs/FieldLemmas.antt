-- A field that is read is in the grammar, and a field of the grammar is read, whatever follows.
use Rattle.std.proofs.Common.{◌≡◌, ◌≢◌, ℕ, ◌+◌, ◌-◌, ◌*◌, ◌/◌, ◌%◌, ◌^◌, ◌<◌, ◌≤◌, ◌==◌, ◌||◌, nat_le, if◌then◌else◌, Bool, true, false, List, ◌++◌, Result, Ok, Err, length, take, drop, arith, refl, sym, ◌∙◌, ap, subst, inl, inr, append_assoc}
use Rattle.std.specs.Int.{w32, w64, from_le_bytes}
use Rattle.std.proofs.lemmas.Bool.{lt-ltb, le-ltb, cases_lt}
use Rattle.std.proofs.lemmas.Bool.Decides.{eqb_tells, nat_tests}
use Rattle.std.proofs.lemmas.List.{take-append-drop, length-take-le, length-append, take_at, drop_at}
use Rattle.std.proofs.Math.Nat.{div-add-mod}
use Rattle.pb_wire.specs.declared.error.WireErr.{WireErr}
use Rattle.pb_wire.specs.declared.error.WireErr.TheVariants.{BadTag, Group}
use Rattle.pb_wire.specs.Message.{WireValue, varint, fixed64, blob, fixed32, WireField, kind_of, IsFieldNumber}
use Rattle.pb_wire.specs.Grammar.{IsVarint, IsValue, IsField}
use Rattle.pb_wire.specs.Reading.{◌>>=◌, varint_at, tag_at, front_at, fixed64_at, fixed32_at, blob_at, value_at, field_at}
use Rattle.pb_wire.proofs.GrammarLemmas.{bind_ok, done, ok_is, varint_found, varint_only}

-- a guard that was passed
guard_ok : {A : Type 0} (b : Bool) (d : WireErr) (r : Result A WireErr) (y : A) → (if b then Err d else r) ≡ Ok y → (b ≡ false) × (r ≡ Ok y)
guard_ok true d r y e = absurd cc
guard_ok false d r y e = (refl, e)

pub front_found : (end n : ℕ) (text x rest : List ℕ) → front_at end n text ≡ Ok (x, rest) → (length x ≡ n) × (text ≡ x ++ rest)
unfolding front_at
front_found end n text x rest e =
    elim (cases_lt (length text) n) [
      | inl lt ↦ absurd (let one = rw (lt-ltb (length text) n lt) at e in cc)
      | inr le ↦
          let one = rw (le-ltb (length text) n le) at e in
          let pair = ok_is (take n text, drop n text) (x, rest) one in
          let P : List ℕ × List ℕ → Type 0 = λ p. (length p.0 ≡ n) × (text ≡ p.0 ++ p.1) in
          subst P pair (length-take-le n text le, sym (take-append-drop n text))
    ]

pub front_only : (end n : ℕ) (x rest : List ℕ) → length x ≡ n → front_at end n (x ++ rest) ≡ Ok (x, rest)
unfolding front_at
front_only end n x rest is =
    let le : n ≤ length (x ++ rest) = omega (arith, length-append x rest) in
    rw (le-ltb (length (x ++ rest)) n le, take_at x rest n is, drop_at x rest n is) refl

-- the wire types of values
abbrev pub IsKind : ℕ → Type 0
IsKind k = (k < 6) × (k ≢ 3) × (k ≢ 4)

pub tag_found : (end t : ℕ) (text rest : List ℕ) → tag_at end text ≡ Ok (t, rest) → (varint_at end text ≡ Ok (t, rest)) × IsFieldNumber (t / 8) × IsKind (t % 8)
unfolding tag_at
tag_found end t text rest e =
    let at = end - length text in
    let read = bind_ok (varint_at end text) (λ t. if nat_le (2 ^ 32) t.0 || t.0 / 8 == 0 || nat_le 6 (t.0 % 8) then Err (BadTag at) else (if t.0 % 8 == 3 || t.0 % 8 == 4 then Err (Group at) else Ok t)) (t, rest) e in
    let n = read.0.0 in
    let good = guard_ok (nat_le (2 ^ 32) n || n / 8 == 0 || nat_le 6 (n % 8)) (BadTag at) (if n % 8 == 3 || n % 8 == 4 then Err (Group at) else Ok read.0) (t, rest) read.2 in
    let value = guard_ok (n % 8 == 3 || n % 8 == 4) (Group at) (Ok read.0) (t, rest) good.1 in
    let P : ℕ × List ℕ → Type 0 = λ p. (varint_at end text ≡ Ok p) × IsFieldNumber (p.0 / 8) × IsKind (p.0 % 8) in
    subst P (ok_is read.0 (t, rest) value.1) (read.1, in_range n good.0, is_kind n good.0 value.0)
  where
    in_range : (n : ℕ) → (nat_le (2 ^ 32) n || n / 8 == 0 || nat_le 6 (n % 8)) ≡ false → IsFieldNumber (n / 8)
    in_range n h = grind (arith, nat_tests)

    is_kind : (n : ℕ) → (nat_le (2 ^ 32) n || n / 8 == 0 || nat_le 6 (n % 8)) ≡ false → (n % 8 == 3 || n % 8 == 4) ≡ false → IsKind (n % 8)
    is_kind n h k = grind (arith, nat_tests)

pub tag_only : (end n k : ℕ) (text rest : List ℕ) → IsFieldNumber n → IsKind k → varint_at end text ≡ Ok (n * 8 + k, rest) → tag_at end text ≡ Ok (n * 8 + k, rest)
unfolding tag_at
tag_only end n k text rest number kind e =
    let good : (nat_le (2 ^ 32) (n * 8 + k) || (n * 8 + k) / 8 == 0 || nat_le 6 ((n * 8 + k) % 8)) ≡ false = grind (arith, nat_tests) in
    let value : ((n * 8 + k) % 8 == 3 || (n * 8 + k) % 8 == 4) ≡ false = grind (arith, nat_tests) in
    rw (e, good, value) refl

-- the value is of this kind, and its bytes stand at the front
abbrev pub StandsAt : ℕ → List ℕ → WireValue × List ℕ → Type 0
StandsAt k text x = (kind_of x.0 ≡ k) × ((s : List ℕ) × IsValue s x.0 × (text ≡ s ++ x.1))

pub value_found : (end k : ℕ) (text : List ℕ) (v : WireValue) (rest : List ℕ) → IsKind k → value_at end k text ≡ Ok (v, rest) → StandsAt k text (v, rest)
unfolding value_at fixed64_at fixed32_at blob_at
value_found end k text v rest kind e =
    elim (eqb_tells k 0) [
      | inl is0 ↦
          let read = bind_ok (varint_at end text) (λ x. Ok (varint x.0, x.1)) (v, rest) (rw is0.0 at e) in
          let found = varint_found end text read.0.1 read.0.0 read.1 in
          subst (StandsAt k text) (ok_is (varint read.0.0, read.0.1) (v, rest) read.2) (sym is0.1, found)
      | inr not0 ↦ elim (eqb_tells k 1) [
        | inl is1 ↦
            let read = bind_ok (fixed64_at end text) (λ x. Ok (fixed64 x.0, x.1)) (v, rest) (rw (not0.0, is1.0) at e) in
            let front = bind_ok (front_at end 8 text) (λ x. Ok (from_le_bytes w64 x.0, x.1)) read.0 read.1 in
            let found = front_found end 8 text front.0.0 front.0.1 front.1 in
            let pair = ok_is (from_le_bytes w64 front.0.0, front.0.1) read.0 front.2 in
            let P : ℕ × List ℕ → Type 0 = λ p. StandsAt k text (fixed64 p.0, p.1) in
            subst (StandsAt k text) (ok_is (fixed64 read.0.0, read.0.1) (v, rest) read.2) (subst P pair (sym is1.1, (front.0.0, (found.0, refl), found.1)))
        | inr not1 ↦ elim (eqb_tells k 2) [
          | inl is2 ↦
              let read = bind_ok (blob_at end text) (λ x. Ok (blob x.0, x.1)) (v, rest) (rw (not0.0, not1.0, is2.0) at e) in
              let size = bind_ok (varint_at end text) (λ n. front_at end n.0 n.1) read.0 read.1 in
              let prefix = varint_found end text size.0.1 size.0.0 size.1 in
              let found = front_found end size.0.0 size.0.1 read.0.0 read.0.1 size.2 in
              let Q : ℕ → Type 0 = λ n. IsVarint prefix.0 n in
              let split : text ≡ (prefix.0 ++ read.0.0) ++ read.0.1 = prefix.2 ∙ ap (λ (u : List ℕ). prefix.0 ++ u) found.1 ∙ sym (append_assoc prefix.0 read.0.0 read.0.1) in
              subst (StandsAt k text) (ok_is (blob read.0.0, read.0.1) (v, rest) read.2) (sym is2.1, (prefix.0 ++ read.0.0, (prefix.0, refl, subst Q (sym found.0) prefix.1), split))
          | inr not2 ↦
              let read = bind_ok (fixed32_at end text) (λ x. Ok (fixed32 x.0, x.1)) (v, rest) (rw (not0.0, not1.0, not2.0) at e) in
              let front = bind_ok (front_at end 4 text) (λ x. Ok (from_le_bytes w32 x.0, x.1)) read.0 read.1 in
              let found = front_found end 4 text front.0.0 front.0.1 front.1 in
              let pair = ok_is (from_le_bytes w32 front.0.0, front.0.1) read.0 front.2 in
              let P : ℕ × List ℕ → Type 0 = λ p. StandsAt k text (fixed32 p.0, p.1) in
              let is5 : 5 ≡ k = omega arith in
              subst (StandsAt k text) (ok_is (fixed32 read.0.0, read.0.1) (v, rest) read.2) (subst P pair (is5, (front.0.0, (found.0, refl), found.1)))
        ]
      ]
    ]

pub value_only : (end : ℕ) (v : WireValue) (s rest : List ℕ) → IsValue s v → value_at end (kind_of v) (s ++ rest) ≡ Ok (v, rest)
unfolding value_at fixed64_at fixed32_at blob_at
value_only end (varint n) s rest h = rw (varint_only end s rest n h) refl
value_only end (fixed64 n) s rest h = rw (front_only end 8 s rest h.0) (ap (λ (m : ℕ). done (fixed64 m, rest)) (sym h.1))
value_only end (blob b) s rest h =
    let regrouped : s ++ rest ≡ h.0 ++ (b ++ rest) = ap (λ (u : List ℕ). u ++ rest) h.1 ∙ append_assoc h.0 b rest in
    rw (regrouped, varint_only end h.0 (b ++ rest) (length b) h.2, front_only end (length b) b rest refl) refl
value_only end (fixed32 n) s rest h = rw (front_only end 4 s rest h.0) (ap (λ (m : ℕ). done (fixed32 m, rest)) (sym h.1))

kind_of_value : (v : WireValue) → IsKind (kind_of v)
kind_of_value (varint n) = (omega arith, omega arith, omega arith)
kind_of_value (fixed64 n) = (omega arith, omega arith, omega arith)
kind_of_value (blob b) = (omega arith, omega arith, omega arith)
kind_of_value (fixed32 n) = (omega arith, omega arith, omega arith)

-- what is read is in the grammar, each byte of it
pub field_found : (end : ℕ) (text rest : List ℕ) (f : WireField) → field_at end text ≡ Ok (f, rest) → (s : List ℕ) × IsField s f × (text ≡ s ++ rest)
unfolding field_at
field_found end text rest f e =
    let tag = bind_ok (tag_at end text) (λ t. value_at end (t.0 % 8) t.1 >>= λ v. Ok (record { number = t.0 / 8; value = v.0 }, v.1)) (f, rest) e in
    let t = tag.0.0 in
    let value = bind_ok (value_at end (t % 8) tag.0.1) (λ v. Ok (record { number = t / 8; value = v.0 }, v.1)) (f, rest) tag.2 in
    let good = tag_found end t text tag.0.1 tag.1 in
    let first = varint_found end text tag.0.1 t good.0 in
    let second = value_found end (t % 8) tag.0.1 value.0.0 value.0.1 good.2 value.1 in
    let s = second.1.0 in
    let parts : t ≡ t / 8 * 8 + kind_of value.0.0 = omega (arith, second.0, div-add-mod t 8) in
    let Q : ℕ → Type 0 = λ n. IsVarint first.0 n in
    let split : text ≡ (first.0 ++ s) ++ value.0.1 = first.2 ∙ ap (λ (u : List ℕ). first.0 ++ u) second.1.2 ∙ sym (append_assoc first.0 s value.0.1) in
    let P : WireField × List ℕ → Type 0 = λ p. (u : List ℕ) × IsField u p.0 × (text ≡ u ++ p.1) in
    subst P (ok_is (record { number = t / 8; value = value.0.0 }, value.0.1) (f, rest) value.2) (first.0 ++ s, (first.0, s, refl, good.1, subst Q parts first.1, second.1.1), split)

-- what is in the grammar is read, whatever follows
pub field_only : (end : ℕ) (s rest : List ℕ) (f : WireField) → IsField s f → field_at end (s ++ rest) ≡ Ok (f, rest)
unfolding field_at
field_only end s rest f h =
    let v = f.value in
    let k = kind_of v in
    let kind = kind_of_value v in
    let regrouped : s ++ rest ≡ h.0 ++ (h.1 ++ rest) = ap (λ (u : List ℕ). u ++ rest) h.2 ∙ append_assoc h.0 h.1 rest in
    let tag = tag_only end f.number k (h.0 ++ (h.1 ++ rest)) (h.1 ++ rest) h.3 kind (varint_only end h.0 (h.1 ++ rest) (f.number * 8 + k) h.4) in
    let number : (f.number * 8 + k) / 8 ≡ f.number = omega (arith, kind.0) in
    let wire : (f.number * 8 + k) % 8 ≡ k = omega (arith, kind.0) in
    rw (regrouped, tag, number, wire, value_only end v h.1 rest h.5) refl

pub field_not_refused : (end : ℕ) (s rest : List ℕ) (f : WireField) (e : WireErr) → IsField s f → field_at end (s ++ rest) ≡ Err e → ⊥
field_not_refused end s rest f e h k = let read = field_only end s rest f h in cc
