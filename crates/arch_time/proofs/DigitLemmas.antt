-- Reading digits from the left.
use Rattle.std.proofs.Common.{◌≡◌, ℕ, zero, suc, ◌+◌, ◌-◌, ◌*◌, ◌/◌, ◌%◌, ◌^◌, ◌<◌, ◌≤◌, List, [], ◌∷◌, length, drop, get_or, pow-add, sym, ap, ◌∙◌, arith}
use Rattle.std.proofs.Math.Nat.{pow-le-pow_right, one-le-pow, mul-le-mul_right, suc-mul}
use Rattle.std.specs.Int.{IsInRange}
use Rattle.arch_time.specs.Digits.{IsDigits, number_after, IsNumber}

-- the first i bytes are digits as far as can be told, and spell the value
pub record HasRead (text : List ℕ) (i value : ℕ) : Type 0 where
  pub rest : number_after value (drop i text) ≡ number_after 0 text
  pub forth : IsDigits (drop i text) → IsDigits text
  pub back : IsDigits text → IsDigits (drop i text)
  pub bound : value < 10 ^ i

-- up to eight digits spell a number below 10^8
pub eight_digits : (value i : ℕ) → value < 10 ^ i → i ≤ 8 → value < 100_000_000
eight_digits value i h le =
    let top : 10 ^ i ≤ 10 ^ 8 = pow-le-pow_right (omega arith) le in
    omega arith

pub digit_at : (text : List ℕ) (i : ℕ) → IsDigits text → i < length text → IsInRange 48 57 (get_or text i 0)
digit_at [] i h below = absurd (omega arith)
digit_at (c ∷ cs) zero h below = h.0
digit_at (c ∷ cs) (suc i) h below = digit_at cs i h.1 (omega arith)

-- k digits and 9 - k zeros spell a number below 10^9
pub scaled : (value k : ℕ) → value < 10 ^ k → k ≤ 9 → value * 10 ^ (9 - k) < 1_000_000_000
scaled value k h le =
    let sum : k + (9 - k) ≡ 9 = omega arith in
    let whole : 10 ^ k * 10 ^ (9 - k) ≡ 1_000_000_000 = sym (pow-add 10 k (9 - k)) ∙ ap (λ e. 10 ^ e) sum in
    let part : suc value * 10 ^ (9 - k) ≤ 10 ^ k * 10 ^ (9 - k) = mul-le-mul_right (10 ^ (9 - k)) h in
    let some : 0 < 10 ^ (9 - k) = one-le-pow (9 - k) 10 (omega arith) in
    omega (arith, part, whole, suc-mul value (10 ^ (9 - k)))

pub four_digits : (a b c d n : ℕ) → IsNumber (a ∷ b ∷ []) (n / 100) → IsNumber (c ∷ d ∷ []) (n % 100) → IsNumber (a ∷ b ∷ c ∷ d ∷ []) n
four_digits a b c d n high low =
    record { digits = (high.digits.0, (high.digits.1.0, low.digits)); value = omega (arith, high.value, low.value) }

-- the nine decimals of a number of nanoseconds
pub nine_digits : (a b c d e f g h i n : ℕ) → n < 1_000_000_000 → IsNumber (a ∷ b ∷ []) (n / 10_000_000) → IsNumber (c ∷ d ∷ []) (n / 100_000 % 100) → IsNumber (e ∷ f ∷ []) (n / 1_000 % 100) → IsNumber (g ∷ h ∷ []) (n / 10 % 100) → i ≡ 48 + n % 10 → IsNumber (a ∷ b ∷ c ∷ d ∷ e ∷ f ∷ g ∷ h ∷ i ∷ []) n
nine_digits a b c d e f g h i n below p q r s last = record {
  digits = (p.digits.0, (p.digits.1.0, (q.digits.0, (q.digits.1.0, (r.digits.0, (r.digits.1.0, (s.digits.0, (s.digits.1.0, (omega arith, tt)))))))));
  value = omega (arith, p.value, q.value, r.value, s.value);
}
