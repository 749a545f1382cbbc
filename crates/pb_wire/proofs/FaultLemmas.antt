-- Reading a field meets a fault exactly where the relation has it.
use Rattle.std.proofs.Common.{◌≡◌, ℕ, suc, zero, ◌+◌, ◌-◌, ◌*◌, ◌/◌, ◌%◌, ◌^◌, ◌<◌, ◌≤◌, ◌==◌, ◌||◌, ◌⊎◌, nat_le, if◌then◌else◌, Bool, true, false, List, [], ◌∷◌, Result, Ok, Err, length, take, arith, refl, ◌∙◌, ap, inl, inr}
use Rattle.std.specs.Int.{w32, w64, from_le_bytes}
use Rattle.std.proofs.lemmas.Bool.{lt-ltb, le-ltb, cases_lt}
use Rattle.std.proofs.lemmas.Bool.Decides.{eqb_tells, nat_tests}
use Rattle.std.proofs.Math.Nat.{div-add-mod}
use Rattle.pb_wire.specs.declared.error.WireErr.{WireErr}
use Rattle.pb_wire.specs.declared.error.WireErr.TheVariants.{BadVarint, BadTag, Group, Short}
use Rattle.pb_wire.specs.Message.{varint, fixed64, blob, fixed32}
use Rattle.pb_wire.specs.Fault.{AllContinue, IsShort, IsVarintFault, IsBlobFault, IsValueFault, IsTag, IsFieldFault}
use Rattle.pb_wire.specs.Reading.{◌>>=◌, number_at, varint_at, tag_at, front_at, fixed64_at, fixed32_at, blob_at, value_at, field_at}
use Rattle.pb_wire.proofs.GrammarLemmas.{varint_found, varint_only}
use Rattle.pb_wire.proofs.FieldLemmas.{IsKind, tag_found}

bind_err : {A B : Type 0} (r : Result A WireErr) (f : A → Result B WireErr) (e : WireErr) → (r >>= f) ≡ Err e → (r ≡ Err e) ⊎ ((x : A) × (r ≡ Ok x) × (f x ≡ Err e))
bind_err (Ok x) f e h = inr (x, refl, h)
bind_err (Err d) f e h = inl cc

-- what is made of a value that was read is no fault
then_ok : {A B : Type 0} (r : Result A WireErr) (f : A → B) (e : WireErr) → (r >>= λ x. Ok (f x)) ≡ Err e → r ≡ Err e
then_ok (Ok x) f e h = absurd cc
then_ok (Err d) f e h = cc

guard_err : {A : Type 0} (b : Bool) (d : WireErr) (r : Result A WireErr) (e : WireErr) → (if b then Err d else r) ≡ Err e → ((b ≡ true) × (e ≡ d)) ⊎ ((b ≡ false) × (r ≡ Err e))
guard_err true d r e h = inl (refl, cc)
guard_err false d r e h = inr (refl, h)

number_fault : (at n : ℕ) (text : List ℕ) (e : WireErr) → number_at at n text ≡ Err e → ((n ≤ length text) × AllContinue (take n text) × (e ≡ BadVarint at)) ⊎ (AllContinue text × ((length text < n) × (e ≡ Short at)))
unfolding number_at
number_fault at zero text e h = inl (omega arith, tt, cc)
number_fault at (suc n) [] e h = inr (tt, (omega arith, cc))
number_fault at (suc n) (b ∷ text) e h =
    elim (cases_lt b 128) [
      | inl lt ↦ absurd (let one = rw (lt-ltb b 128 lt) at h in cc)
      | inr le ↦ elim (number_fault at n text e (then_ok (number_at at n text) (λ x. (b - 128 + 128 * x.0, x.1)) e (rw (le-ltb b 128 le) at h))) [
        | inl bad ↦ inl (omega (arith, bad.0), (le, bad.1), bad.2)
        | inr short ↦ inr ((le, short.0), (omega (arith, short.1.0), short.1.1))
      ]
    ]

number_continues : (at n : ℕ) (text : List ℕ) → n ≤ length text → AllContinue (take n text) → number_at at n text ≡ Err (BadVarint at)
unfolding number_at
number_continues at zero text long h = refl
number_continues at (suc n) [] long h = absurd (omega arith)
number_continues at (suc n) (b ∷ text) long h = rw (le-ltb b 128 h.0, number_continues at n text (omega arith) h.1) refl

number_ends : (at n : ℕ) (text : List ℕ) → length text < n → AllContinue text → number_at at n text ≡ Err (Short at)
unfolding number_at
number_ends at zero text short h = absurd (omega arith)
number_ends at (suc n) [] short h = refl
number_ends at (suc n) (b ∷ text) short h = rw (le-ltb b 128 h.0, number_ends at n text (omega arith) h.1) refl

varint_fault : (end : ℕ) (text : List ℕ) (e : WireErr) → varint_at end text ≡ Err e → IsVarintFault end text e
unfolding varint_at
varint_fault end text e h = number_fault (end - length text) 10 text e (then_ok (number_at (end - length text) 10 text) (λ x. (x.0 % 2 ^ 64, x.1)) e h)

varint_refused : (end : ℕ) (text : List ℕ) (e : WireErr) → IsVarintFault end text e → varint_at end text ≡ Err e
unfolding varint_at
varint_refused end text e h =
    elim h [
      | inl bad ↦ rw (number_continues (end - length text) 10 text bad.0 bad.1, bad.2) refl
      | inr short ↦ rw (number_ends (end - length text) 10 text short.1.0 short.0, short.1.1) refl
    ]

front_fault : (end n : ℕ) (text : List ℕ) (e : WireErr) → front_at end n text ≡ Err e → IsShort end n text e
unfolding front_at
front_fault end n text e h =
    elim (cases_lt (length text) n) [
      | inl lt ↦ let one = rw (lt-ltb (length text) n lt) at h in (lt, cc)
      | inr le ↦ absurd (let one = rw (le-ltb (length text) n le) at h in cc)
    ]

front_refused : (end n : ℕ) (text : List ℕ) (e : WireErr) → IsShort end n text e → front_at end n text ≡ Err e
unfolding front_at
front_refused end n text e h = rw (lt-ltb (length text) n h.0, h.1) refl

blob_fault : (end : ℕ) (text : List ℕ) (e : WireErr) → blob_at end text ≡ Err e → IsBlobFault end text e
unfolding blob_at
blob_fault end text e h =
    elim (bind_err (varint_at end text) (λ n. front_at end n.0 n.1) e h) [
      | inl fault ↦ inl (varint_fault end text e fault)
      | inr read ↦
          let size = varint_found end text read.0.1 read.0.0 read.1 in
          inr (size.0, read.0.1, read.0.0, size.2, size.1, front_fault end read.0.0 read.0.1 e read.2)
    ]

blob_refused : (end : ℕ) (text : List ℕ) (e : WireErr) → IsBlobFault end text e → blob_at end text ≡ Err e
unfolding blob_at
blob_refused end text e h =
    elim h [
      | inl fault ↦ rw (varint_refused end text e fault) refl
      | inr short ↦ rw (short.3, varint_only end short.0 short.1 short.2 short.4) (front_refused end short.2 short.1 e short.5)
    ]

value_fault : (end k : ℕ) (text : List ℕ) (e : WireErr) → IsKind k → value_at end k text ≡ Err e → IsValueFault end k text e
unfolding value_at fixed64_at fixed32_at
value_fault end k text e kind h =
    elim (eqb_tells k 0) [
      | inl is0 ↦ inl (is0.1, varint_fault end text e (then_ok (varint_at end text) (λ x. (varint x.0, x.1)) e (rw is0.0 at h)))
      | inr not0 ↦ elim (eqb_tells k 1) [
        | inl is1 ↦
            let fixed = then_ok (fixed64_at end text) (λ x. (fixed64 x.0, x.1)) e (rw (not0.0, is1.0) at h) in
            inr (inl (is1.1, front_fault end 8 text e (then_ok (front_at end 8 text) (λ x. (from_le_bytes w64 x.0, x.1)) e fixed)))
        | inr not1 ↦ elim (eqb_tells k 2) [
          | inl is2 ↦ inr (inr (inl (is2.1, blob_fault end text e (then_ok (blob_at end text) (λ x. (blob x.0, x.1)) e (rw (not0.0, not1.0, is2.0) at h)))))
          | inr not2 ↦
              let fixed = then_ok (fixed32_at end text) (λ x. (fixed32 x.0, x.1)) e (rw (not0.0, not1.0, not2.0) at h) in
              let is5 : k ≡ 5 = omega arith in
              inr (inr (inr (is5, front_fault end 4 text e (then_ok (front_at end 4 text) (λ x. (from_le_bytes w32 x.0, x.1)) e fixed))))
        ]
      ]
    ]

value_refused : (end k : ℕ) (text : List ℕ) (e : WireErr) → IsValueFault end k text e → value_at end k text ≡ Err e
unfolding value_at fixed64_at fixed32_at
value_refused end k text e h =
    elim h [
      | inl number ↦ rw (number.0, varint_refused end text e number.1) refl
      | inr others ↦ elim others [
        | inl eight ↦ rw (eight.0, front_refused end 8 text e eight.1) refl
        | inr others ↦ elim others [
          | inl bytes ↦ rw (bytes.0, blob_refused end text e bytes.1) refl
          | inr four ↦ rw (four.0, front_refused end 4 text e four.1) refl
        ]
      ]
    ]

is_tag : (t : ℕ) → (nat_le (2 ^ 32) t || t / 8 == 0 || nat_le 6 (t % 8)) ≡ false → IsTag t
is_tag t h = grind (arith, nat_tests)

no_tag : (t : ℕ) → (nat_le (2 ^ 32) t || t / 8 == 0 || nat_le 6 (t % 8)) ≡ true → IsTag t → ⊥
no_tag t h k = grind (arith, nat_tests)

tag_test : (t : ℕ) → IsTag t → (nat_le (2 ^ 32) t || t / 8 == 0 || nat_le 6 (t % 8)) ≡ false
tag_test t h = grind (arith, nat_tests)

no_tag_test : (t : ℕ) → (IsTag t → ⊥) → (nat_le (2 ^ 32) t || t / 8 == 0 || nat_le 6 (t % 8)) ≡ true
no_tag_test t h = by_test t h (nat_le (2 ^ 32) t || t / 8 == 0 || nat_le 6 (t % 8)) refl
  where
    by_test : (t : ℕ) → (IsTag t → ⊥) → (b : Bool) → (nat_le (2 ^ 32) t || t / 8 == 0 || nat_le 6 (t % 8)) ≡ b → b ≡ true
    by_test t h true e = refl
    by_test t h false e = absurd (h (is_tag t e))

group_of : (w : ℕ) → (w == 3 || w == 4) ≡ true → (w ≡ 3) ⊎ (w ≡ 4)
group_of w h =
    elim (eqb_tells w 3) [
      | inl is3 ↦ inl is3.1
      | inr not3 ↦ inr (grind (arith, nat_tests))
    ]

group_test : (w : ℕ) → (w ≡ 3) ⊎ (w ≡ 4) → (w == 3 || w == 4) ≡ true
group_test w h = elim h [ inl is3 ↦ rw is3 refl | inr is4 ↦ rw is4 refl ]

not_group : (end w : ℕ) (text : List ℕ) (e : WireErr) → IsValueFault end w text e → (w == 3 || w == 4) ≡ false
not_group end w text e h =
    elim h [
      | inl number ↦ rw number.0 refl
      | inr others ↦ elim others [
        | inl eight ↦ rw eight.0 refl
        | inr others ↦ elim others [ inl bytes ↦ rw bytes.0 refl | inr four ↦ rw four.0 refl ]
      ]
    ]

tag_fault : (end : ℕ) (text : List ℕ) (e : WireErr) → tag_at end text ≡ Err e → IsFieldFault end text e
unfolding tag_at
tag_fault end text e h =
    let at = end - length text in
    elim (bind_err (varint_at end text) (λ t. if nat_le (2 ^ 32) t.0 || t.0 / 8 == 0 || nat_le 6 (t.0 % 8) then Err (BadTag at) else (if t.0 % 8 == 3 || t.0 % 8 == 4 then Err (Group at) else Ok t)) e h) [
      | inl fault ↦ inl (varint_fault end text e fault)
      | inr read ↦
          let t = read.0.0 in
          let tag = varint_found end text read.0.1 t read.1 in
          elim (guard_err (nat_le (2 ^ 32) t || t / 8 == 0 || nat_le 6 (t % 8)) (BadTag at) (if t % 8 == 3 || t % 8 == 4 then Err (Group at) else Ok read.0) e read.2) [
            | inl bad ↦ inr (tag.0, read.0.1, t, tag.2, tag.1, inl (no_tag t bad.0, bad.1))
            | inr good ↦ elim (guard_err (t % 8 == 3 || t % 8 == 4) (Group at) (Ok read.0) e good.1) [
              | inl group ↦ inr (tag.0, read.0.1, t, tag.2, tag.1, inr (inl (is_tag t good.0, group_of (t % 8) group.0, group.1)))
              | inr value ↦ absurd cc
            ]
          ]
    ]

-- a fault of reading is one of the relation
pub field_fault : (end : ℕ) (text : List ℕ) (e : WireErr) → field_at end text ≡ Err e → IsFieldFault end text e
unfolding field_at
field_fault end text e h =
    elim (bind_err (tag_at end text) (λ t. value_at end (t.0 % 8) t.1 >>= λ v. Ok (record { number = t.0 / 8; value = v.0 }, v.1)) e h) [
      | inl fault ↦ tag_fault end text e fault
      | inr read ↦
          let t = read.0.0 in
          let rest = read.0.1 in
          let good = tag_found end t text rest read.1 in
          let tag = varint_found end text rest t good.0 in
          let value = then_ok (value_at end (t % 8) rest) (λ v. (record { number = t / 8; value = v.0 }, v.1)) e read.2 in
          let below : t < 2 ^ 32 = omega (arith, good.1.1, div-add-mod t 8) in
          inr (tag.0, rest, t, tag.2, tag.1, inr (inr ((below, good.1.0, good.2.0), value_fault end (t % 8) rest e good.2 value)))
    ]

-- and a fault of the relation is met in reading
pub field_refused : (end : ℕ) (text : List ℕ) (e : WireErr) → IsFieldFault end text e → field_at end text ≡ Err e
unfolding field_at tag_at
field_refused end text e h =
    elim h [
      | inl fault ↦ rw (varint_refused end text e fault) refl
      | inr x ↦
          let read : varint_at end text ≡ Ok (x.2, x.1) = ap (varint_at end) x.3 ∙ varint_only end x.0 x.1 x.2 x.4 in
          elim x.5 [
            | inl bad ↦ rw (read, no_tag_test x.2 bad.0, bad.1) refl
            | inr others ↦ elim others [
              | inl group ↦ rw (read, tag_test x.2 group.0, group_test (x.2 % 8) group.1, group.2) refl
              | inr value ↦ rw (read, tag_test x.2 value.0, not_group end (x.2 % 8) x.1 e value.1, value_refused end (x.2 % 8) x.1 e value.1) refl
            ]
          ]
    ]
