-- The marks of a byte among 32, and the lowest of them.
use Rattle.std.proofs.Common.{◌≡◌, ◌≢◌, ℕ, zero, suc, ◌<◌, ◌≤◌, List, [], ◌∷◌, Bool, true, false, cond, eqb, length, take, map, get_or, arith, refl, sym, ap, ◌∙◌}
use Rattle.std.specs.Int.{bit_at}
use Rattle.std.specs.Simd.Lanes.{mask_l}
use Rattle.std.proofs.lemmas.Simd.{bit_mask_l}
use Rattle.std.proofs.lemmas.Bool.{eqb-true, eqb-false}
use Rattle.std.proofs.lemmas.List.{get_or-take, get_or_default, length-map}
use Rattle.std.proofs.Math.ListN.{get_or-map}
use Rattle.edge_io.specs.Lines.{NoneBelow}

abbrev pub is_newline : ℕ → Bool
is_newline x = eqb x 10

marked : (v : List ℕ) (j : ℕ) → bit_at (mask_l (map is_newline v)) j ≡ cond (is_newline (get_or v j 0)) 1 0
marked v j = bit_mask_l (map is_newline v) j ∙ ap (λ b. cond b 1 0) (get_or-map is_newline v j 0)

is_ten : (x : ℕ) (b : Bool) → eqb x 10 ≡ b → cond {A = ℕ} b 1 0 ≡ 1 → x ≡ 10
is_ten x true e h = eqb-true x 10 e
is_ten x false e h = absurd (omega arith)

not_ten : (x : ℕ) (b : Bool) → eqb x 10 ≡ b → cond {A = ℕ} b 1 0 ≡ 0 → x ≢ 10
not_ten x true e h = absurd (omega arith)
not_ten x false e h = eqb-false x 10 e

inside : (n : ℕ) (xs : List ℕ) (k : ℕ) → get_or (take n xs) k 0 ≡ 10 → k < n
inside zero xs k h = absurd (omega arith)
inside (suc n) [] k h = absurd (omega arith)
inside (suc n) (x ∷ xs) zero h = omega arith
inside (suc n) (x ∷ xs) (suc k) h = omega (arith, inside n xs k h)

pub near : (bytes : List ℕ) (m k : ℕ) → 32 ≤ length bytes → m ≡ mask_l (map is_newline (take 32 bytes)) → bit_at m k ≡ 1 → ((j : ℕ) → j < k → bit_at m j ≡ 0)
    → (k < length bytes) × (get_or bytes k 0 ≡ 10) × NoneBelow bytes k
near bytes m k long is set below =
    let v = take 32 bytes in
    let here : get_or v k 0 ≡ 10 = is_ten (get_or v k 0) _ refl (sym (marked v k) ∙ ap (λ n. bit_at n k) (sym is) ∙ set) in
    let within : k < 32 = inside 32 bytes k here in
    let none : NoneBelow bytes k = λ j l e.
    not_ten (get_or v j 0) _ refl (sym (marked v j) ∙ ap (λ n. bit_at n j) (sym is) ∙ below j l) (get_or-take 32 bytes j 0 (omega (arith, within, l)) ∙ e) in
    (omega arith, sym (get_or-take 32 bytes k 0 within) ∙ here, none)

-- ANY BYTE

abbrev pub is_byte : ℕ → ℕ → Bool
is_byte b x = eqb x b

byte_marked : (b : ℕ) (v : List ℕ) (j : ℕ) → j < length v → bit_at (mask_l (map (is_byte b) v)) j ≡ cond (is_byte b (get_or v j 0)) 1 0
byte_marked b v j within =
    let here : get_or (map (is_byte b) v) j false ≡ is_byte b (get_or v j 0) = get_or_default (map (is_byte b) v) j false (is_byte b 0) (omega (arith, length-map v (is_byte b), within)) ∙ get_or-map (is_byte b) v j 0 in
    bit_mask_l (map (is_byte b) v) j ∙ ap (λ (m : Bool). cond {A = ℕ} m 1 0) here

not_byte : (b x : ℕ) (m : Bool) → eqb x b ≡ m → cond {A = ℕ} m 1 0 ≡ 0 → x ≢ b
not_byte b x true e h = absurd (omega arith)
not_byte b x false e h = eqb-false x b e

-- where no mark is set, the byte doesn't stand
pub unmarked : (b : ℕ) (v : List ℕ) (m k : ℕ) → k ≤ length v → m ≡ mask_l (map (is_byte b) v) → ((j : ℕ) → j < k → bit_at m j ≡ 0) → (j : ℕ) → j < k → get_or v j 0 ≢ b
unmarked b v m k few is below j l = not_byte b (get_or v j 0) _ refl (sym (byte_marked b v j (omega (arith, few, l))) ∙ ap (λ n. bit_at n j) (sym is) ∙ below j l)

-- the same of a list that begins with these 32
pub unmarked_front : (b : ℕ) (xs v : List ℕ) (k : ℕ) → v ≡ take 32 xs → k ≤ 32 → ((j : ℕ) → j < k → get_or v j 0 ≢ b) → (j : ℕ) → j < k → get_or xs j 0 ≢ b
unmarked_front b xs v k is few below j l e = below j l (ap (λ (u : List ℕ). get_or u j 0) is ∙ get_or-take 32 xs j 0 (omega (arith, l, few)) ∙ e)

-- the lowest mark is among the 32
pub marked_within : (bytes : List ℕ) (m k : ℕ) → m ≡ mask_l (map is_newline (take 32 bytes)) → bit_at m k ≡ 1 → k < 32
marked_within bytes m k is set =
    let v = take 32 bytes in
    let here : get_or v k 0 ≡ 10 = is_ten (get_or v k 0) _ refl (sym (marked v k) ∙ ap (λ n. bit_at n k) (sym is) ∙ set) in
    inside 32 bytes k here
