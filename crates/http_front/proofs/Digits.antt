-- Numbers of at most four hexadecimal digits.
use Rattle.std.proofs.Common.{◌≡◌, ℕ, zero, suc, ◌<◌, ◌≤◌, List, [], ◌∷◌, false, eqb, arith, refl, ap, ◌∙◌}
use Rattle.std.specs.Prelude.{◌/◌, ◌%◌}
use Rattle.std.specs.Fmt.{digits, digits_onto, digit_glyph}
use Rattle.std.proofs.Math.Dec.{eqb-suc-zero}

some : (m : ℕ) → 0 < m → eqb m 0 ≡ false
some zero h = absurd (omega arith)
some (suc m) h = eqb-suc-zero m

-- one digit more, and the last
step : (k n : ℕ) (acc : List ℕ) → 16 ≤ n → digits_onto (suc k) 16 false n acc ≡ digits_onto k 16 false (n / 16) (digit_glyph false (n % 16) ∷ acc)
step k n acc large = let more = some (n / 16) (omega arith) in rw more refl

end : (k n : ℕ) (acc : List ℕ) → n < 16 → digits_onto (suc k) 16 false n acc ≡ digit_glyph false n ∷ acc
end k n acc small = let none : n / 16 ≡ 0 = omega arith in let same : n % 16 ≡ n = omega arith in rw (none, same) refl

onto : (n : ℕ) → digits 16 false n ≡ digits_onto 64 16 false n []
unfolding digits
onto n = refl

pub one : (n : ℕ) → n < 16 → digits 16 false n ≡ digit_glyph false n ∷ []
one n small = onto n ∙ end 63 n [] small

pub two : (n : ℕ) → 16 ≤ n → n < 256 → digits 16 false n ≡ digit_glyph false (n / 16) ∷ digit_glyph false (n % 16) ∷ []
two n large small = onto n ∙ step 63 n [] large ∙ end 62 (n / 16) (digit_glyph false (n % 16) ∷ []) (omega arith)

pub three : (n : ℕ) → 256 ≤ n → n < 4096 → digits 16 false n ≡ digit_glyph false (n / 256) ∷ digit_glyph false (n / 16 % 16) ∷ digit_glyph false (n % 16) ∷ []
three n large small =
    let high : n / 16 / 16 ≡ n / 256 = omega arith in
    onto n ∙ step 63 n [] (omega arith) ∙ step 62 (n / 16) (digit_glyph false (n % 16) ∷ []) (omega arith)
    ∙ end 61 (n / 16 / 16) (digit_glyph false (n / 16 % 16) ∷ digit_glyph false (n % 16) ∷ []) (omega arith)
    ∙ ap (λ d. digit_glyph false d ∷ digit_glyph false (n / 16 % 16) ∷ digit_glyph false (n % 16) ∷ []) high

pub four : (n : ℕ) → 4096 ≤ n → n < 65536
    → digits 16 false n ≡ digit_glyph false (n / 4096) ∷ digit_glyph false (n / 256 % 16) ∷ digit_glyph false (n / 16 % 16) ∷ digit_glyph false (n % 16) ∷ []
four n large small =
    let middle : n / 16 / 16 ≡ n / 256 = omega arith in
    let high : n / 16 / 16 / 16 ≡ n / 4096 = omega arith in
    onto n ∙ step 63 n [] (omega arith) ∙ step 62 (n / 16) (digit_glyph false (n % 16) ∷ []) (omega arith)
    ∙ step 61 (n / 16 / 16) (digit_glyph false (n / 16 % 16) ∷ digit_glyph false (n % 16) ∷ []) (omega arith)
    ∙ end 60 (n / 16 / 16 / 16) (digit_glyph false (n / 16 / 16 % 16) ∷ digit_glyph false (n / 16 % 16) ∷ digit_glyph false (n % 16) ∷ []) (omega arith)
    ∙ ap (λ d. digit_glyph false d ∷ digit_glyph false (n / 16 / 16 % 16) ∷ digit_glyph false (n / 16 % 16) ∷ digit_glyph false (n % 16) ∷ []) high
    ∙ ap (λ d. digit_glyph false (n / 4096) ∷ digit_glyph false (d % 16) ∷ digit_glyph false (n / 16 % 16) ∷ digit_glyph false (n % 16) ∷ []) middle
