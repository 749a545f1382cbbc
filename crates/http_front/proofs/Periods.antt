-- A text tells one period at most.
use Rattle.std.proofs.Common.{◌≡◌, ◌≢◌, ◌⊎◌, ℕ, ◌+◌, ◌*◌, ◌-◌, ◌<◌, ◌≤◌, List, [], ◌∷◌, ◌++◌, length, refl, sym, ap, ◌∙◌, subst, inl, inr, arith}
use Rattle.std.specs.Prelude.{◌^◌, All}
use Rattle.std.proofs.Math.Nat.{pow-suc, pow-le-pow_right, mul-le-mul_right}
use Rattle.std.proofs.lemmas.List.Elements.{All-nil, All-cons, All-head, All-tail}
use Rattle.std.specs.Int.{IsInRange}
use Rattle.arch_time.specs.Digits.{IsDigits, number_after}
use Rattle.arch_time.specs.Iso.{IsFraction}
use Rattle.http_front.specs.Period.{IsWhole, IsPeriod, IsCut}

abbrev pub HasNoPoint : List ℕ → Type 0
HasNoPoint xs = All (λ b. b ≢ 46) xs

abbrev pub IsAtPoint : List ℕ → Type 0
IsAtPoint xs = (xs ≡ []) ⊎ ((rest : List ℕ) × (xs ≡ 46 ∷ rest))

-- digits are no points
pub digits_no_point : (xs : List ℕ) → IsDigits xs → HasNoPoint xs
digits_no_point [] h = All-nil (λ b. b ≢ 46)
digits_no_point (x ∷ xs) h = All-cons (λ b. b ≢ 46) x xs (λ e. let r : IsInRange 48 57 x = h.0 in absurd (omega (arith, r.0, e))) (digits_no_point xs h.1)

pub fraction_at_point : (xs : List ℕ) (n : ℕ) → IsFraction xs n → IsAtPoint xs
fraction_at_point [] n h = inl refl
fraction_at_point (x ∷ xs) n h = inr (xs, ap (λ (b : ℕ). b ∷ xs) h.0)

not_at_point : (x : ℕ) (xs ys zs : List ℕ) → HasNoPoint (x ∷ xs) → IsAtPoint ys → ys ≡ x ∷ zs → ⊥
not_at_point x xs ys zs none (inl e) is = cc
not_at_point x xs ys zs none (inr at) is =
    let head : x ≡ 46 = cc (at.1, is) in
    All-head (λ b. b ≢ 46) x xs none head

-- a text is cut in one way
pub one_cut : (xs ys zs ws : List ℕ) → HasNoPoint xs → HasNoPoint zs → IsAtPoint ys → IsAtPoint ws → xs ++ ys ≡ zs ++ ws → (xs ≡ zs) × (ys ≡ ws)
one_cut [] ys [] ws p q r s e = (refl, e)
one_cut [] ys (z ∷ zs) ws p q r s e = absurd (not_at_point z zs ys (zs ++ ws) q r e)
one_cut (x ∷ xs) ys [] ws p q r s e = absurd (not_at_point x xs ws (xs ++ ys) p s (sym e))
one_cut (x ∷ xs) ys (z ∷ zs) ws p q r s e =
    let tails : xs ++ ys ≡ zs ++ ws = cc in
    let rest = one_cut xs ys zs ws (All-tail (λ b. b ≢ 46) x xs p) (All-tail (λ b. b ≢ 46) z zs q) r s tails in
    let first : x ≡ z = cc in
    (cc (first, rest.0), rest.1)

one_fraction : (xs : List ℕ) (n m : ℕ) → IsFraction xs n → IsFraction xs m → n ≡ m
one_fraction [] n m x y = x ∙ sym y
one_fraction (c ∷ xs) n m x y = x.3 ∙ sym y.3

-- the parts of a text that tells a period are those at its first point
pub cut_of : (text before behind : List ℕ) (period : ℕ) (p : IsPeriod text period) → IsCut text before behind → (before ≡ p.before) × (behind ≡ p.behind)
cut_of text before behind period p c =
    one_cut before behind p.before p.behind c.before_no_point (digits_no_point p.before p.whole.number.digits) c.at_point (fraction_at_point p.behind p.nanos p.fraction) (sym c.is ∙ p.cut)

pub one_period : (text : List ℕ) (a b : ℕ) → IsPeriod text a → IsPeriod text b → a ≡ b
one_period text a b x y =
    let same = one_cut x.before x.behind y.before y.behind (digits_no_point x.before x.whole.number.digits) (digits_no_point y.before y.whole.number.digits) (fraction_at_point x.behind x.nanos x.fraction) (fraction_at_point y.behind y.nanos y.fraction) (sym x.cut ∙ y.cut) in
    let seconds : x.seconds ≡ y.seconds = sym x.whole.number.value ∙ ap (number_after 0) same.0 ∙ y.whole.number.value in
    let nanos : x.nanos ≡ y.nanos = one_fraction y.behind x.nanos y.nanos (subst (λ (v : List ℕ). IsFraction v x.nanos) same.1 x.fraction) y.fraction in
    omega (arith, x.value, y.value, seconds, nanos)

-- THE NUMBER OF A LONG TEXT

-- what stands before stays in front
after_more : (xs : List ℕ) (n : ℕ) → n * 10 ^ length xs ≤ number_after n xs
after_more [] n = omega arith
after_more (x ∷ xs) n =
    let later = after_more xs (n * 10 + (x - 48)) in
    rw pow-suc (omega (arith, later))

-- six digits or more without a leading zero are 100,000 or more
pub long_whole : (text : List ℕ) (n : ℕ) → IsWhole text n → 5 < length text → 100_000 ≤ n
long_whole [] n is long = absurd (omega arith)
long_whole (c ∷ cs) n is long =
    let digit : IsInRange 48 57 c = is.number.digits.0 in
    let first : c ≢ 48 = λ e. absurd (omega (arith, is.first e)) in
    let five : 5 ≤ length cs = omega arith in
    let top : 10 ^ 5 ≤ 10 ^ length cs = pow-le-pow_right (omega arith) five in
    let more = after_more cs (0 * 10 + (c - 48)) in
    let some : 1 * 10 ^ length cs ≤ (0 * 10 + (c - 48)) * 10 ^ length cs = mul-le-mul_right (10 ^ length cs) (omega (arith, digit.0, first)) in
    omega (arith, top, more, some, is.number.value)

-- WHAT IS NO PERIOD

pub no_whole : (text before behind : List ℕ) → IsCut text before behind → ((n : ℕ) → IsWhole before n → 100_000 ≤ n) → (period : ℕ) → IsPeriod text period → ⊥
no_whole text before behind cut many period p =
    let parts = cut_of text before behind period p cut in
    let long = many p.seconds (subst (λ (v : List ℕ). IsWhole v p.seconds) (sym parts.0) p.whole) in
    absurd (omega (arith, long, p.value, p.most))

pub no_fraction : (text before behind : List ℕ) → IsCut text before behind → ((n : ℕ) → IsFraction behind n → ⊥) → (period : ℕ) → IsPeriod text period → ⊥
no_fraction text before behind cut none period p =
    let parts = cut_of text before behind period p cut in
    none p.nanos (subst (λ (v : List ℕ). IsFraction v p.nanos) (sym parts.1) p.fraction)

-- the period is what the two parts tell
pub is_told : (text before behind : List ℕ) (seconds nanos : ℕ) → IsCut text before behind → IsWhole before seconds → IsFraction behind nanos → (period : ℕ) → IsPeriod text period → period ≡ seconds * 1_000_000_000 + nanos
is_told text before behind seconds nanos cut whole fraction period p =
    let parts = cut_of text before behind period p cut in
    let same : p.seconds ≡ seconds = sym p.whole.number.value ∙ ap (number_after 0) (sym parts.0) ∙ whole.number.value in
    let also : p.nanos ≡ nanos = one_fraction behind p.nanos nanos (subst (λ (v : List ℕ). IsFraction v p.nanos) (sym parts.1) p.fraction) fraction in
    omega (arith, p.value, same, also)
