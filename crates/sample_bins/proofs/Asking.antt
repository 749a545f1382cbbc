-- A text asks for one thing at most.
use Rattle.std.proofs.Common.{◌≡◌, ◌≢◌, ◌⊎◌, ℕ, ◌+◌, ◌-◌, ◌*◌, ◌^◌, ◌<◌, ◌≤◌, ◌==◌, Bool, true, false, List, [], ◌∷◌, ◌++◌, Option, Some, None, length, refl, sym, ap, ◌∙◌, subst, inl, inr, arith, cond}
use Rattle.std.specs.Prelude.{All, IfNone, codes, bytes_eq, if◌then◌else◌}
use Rattle.std.specs.Int.{IsInRange}
use Rattle.std.proofs.lemmas.Bool.{eqb-false, eq-eqb}
use Rattle.std.proofs.lemmas.List.{append_cancel_right}
use Rattle.std.proofs.lemmas.List.Elements.{All-nil, All-cons, All-head, All-tail, All-append}
use Rattle.std.proofs.lemmas.Bool.{false≢true}
use Rattle.std.proofs.Math.Nat.{pow-suc, pow-le-pow_right, mul-le-mul_right}
use Rattle.arch_time.specs.Digits.{IsDigits, number_after}
use Rattle.sample_bins.specs.declared.op.Op.{Op}
use Rattle.sample_bins.specs.declared.op.Op.TheVariants.{FirstSample, LastSample, Count, Nth, NCount}
use Rattle.sample_bins.specs.Bins.{width_of, IsInRange as OpInRange}
use Rattle.sample_bins.specs.Words.{IsWidth, IsSuffix, IsBinWidth, Spells, IsOperator, Asks, IsCut}

-- CUTS

abbrev pub Lacks : ℕ → List ℕ → Type 0
Lacks byte xs = All (λ b. b ≢ byte) xs

abbrev pub IsAt : ℕ → List ℕ → Type 0
IsAt byte xs = (xs ≡ []) ⊎ ((rest : List ℕ) × (xs ≡ byte ∷ rest))

not_at : (byte x : ℕ) (xs ys zs : List ℕ) → Lacks byte (x ∷ xs) → IsAt byte ys → ys ≡ x ∷ zs → ⊥
not_at byte x xs ys zs none (inl e) is = cc
not_at byte x xs ys zs none (inr at) is =
    let head : x ≡ byte = cc (at.1, is) in
    All-head (λ b. b ≢ byte) x xs none head

-- a text is cut in one way
pub one_cut : (byte : ℕ) (xs ys zs ws : List ℕ) → Lacks byte xs → Lacks byte zs → IsAt byte ys → IsAt byte ws → xs ++ ys ≡ zs ++ ws → (xs ≡ zs) × (ys ≡ ws)
one_cut byte [] ys [] ws p q r s e = (refl, e)
one_cut byte [] ys (z ∷ zs) ws p q r s e = absurd (not_at byte z zs ys (zs ++ ws) q r e)
one_cut byte (x ∷ xs) ys [] ws p q r s e = absurd (not_at byte x xs ws (xs ++ ys) p s (sym e))
one_cut byte (x ∷ xs) ys (z ∷ zs) ws p q r s e =
    let tails : xs ++ ys ≡ zs ++ ws = cc in
    let rest = one_cut byte xs ys zs ws (All-tail (λ b. b ≢ byte) x xs p) (All-tail (λ b. b ≢ byte) z zs q) r s tails in
    let first : x ≡ z = cc in
    (cc (first, rest.0), rest.1)

-- a byte that stands there is not missing
stands : (byte : ℕ) (xs ys : List ℕ) → Lacks byte (xs ++ byte ∷ ys) → ⊥
stands byte [] ys none = All-head (λ b. b ≢ byte) byte ys none refl
stands byte (x ∷ xs) ys none = stands byte xs ys (All-tail (λ b. b ≢ byte) x (xs ++ byte ∷ ys) none)

-- WORDS

abbrev lacks : ℕ → List ℕ → Bool
lacks byte [] = true
lacks byte (x ∷ xs) = if x == byte then false else lacks byte xs

lacks_all : (byte : ℕ) (xs : List ℕ) → lacks byte xs ≡ true → Lacks byte xs
lacks_all byte [] is = All-nil (λ b. b ≢ byte)
lacks_all byte (x ∷ xs) is = by_test (x == byte) refl is (lacks_all byte xs)
  where
    by_test : (v : Bool) → (x == byte) ≡ v → (if v then false else lacks byte xs) ≡ true → (lacks byte xs ≡ true → Lacks byte xs) → Lacks byte (x ∷ xs)
    by_test true e is rest = absurd (false≢true is)
    by_test false e is rest = All-cons (λ b. b ≢ byte) x xs (eqb-false x byte e) (rest is)

digits_lack : (byte : ℕ) (xs : List ℕ) → ((c : ℕ) → IsInRange 48 57 c → c ≢ byte) → IsDigits xs → Lacks byte xs
digits_lack byte [] other h = All-nil (λ b. b ≢ byte)
digits_lack byte (x ∷ xs) other h = All-cons (λ b. b ≢ byte) x xs (other x h.0) (digits_lack byte xs other h.1)

no_parenthesis_digit : (c : ℕ) → IsInRange 48 57 c → c ≢ 40
no_parenthesis_digit c r e = omega (arith, r.0, e)

-- the word of an operator
abbrev word_of : Op → List ℕ
word_of (FirstSample n) = codes "firstSample"
word_of (LastSample n) = codes "lastSample"
word_of (Count n) = codes "count"
word_of (Nth n) = codes "nth"
word_of NCount = codes "ncount"

spelled_by : (word rest : List ℕ) (op : Op) → Spells word rest op → word ≡ word_of op
spelled_by word rest (FirstSample n) s = s.0
spelled_by word rest (LastSample n) s = s.0
spelled_by word rest (Count n) s = s.0
spelled_by word rest (Nth n) s = s.0
spelled_by word rest NCount s = s.0

word_lacks : (byte : ℕ) → lacks byte (codes "firstSample") ≡ true → lacks byte (codes "lastSample") ≡ true → lacks byte (codes "count") ≡ true → lacks byte (codes "nth") ≡ true → lacks byte (codes "ncount") ≡ true → (op : Op) → Lacks byte (word_of op)
word_lacks byte a b c d e (FirstSample n) = lacks_all byte (codes "firstSample") a
word_lacks byte a b c d e (LastSample n) = lacks_all byte (codes "lastSample") b
word_lacks byte a b c d e (Count n) = lacks_all byte (codes "count") c
word_lacks byte a b c d e (Nth n) = lacks_all byte (codes "nth") d
word_lacks byte a b c d e NCount = lacks_all byte (codes "ncount") e

suffix_at : (rest : List ℕ) (n : ℕ) → IsSuffix rest n → IsAt 95 rest
suffix_at rest n s = inr (s.0, s.1)

width_at : (rest : List ℕ) (n : ℕ) → IsBinWidth rest n → IsAt 95 rest
width_at rest n (inl usual) = inl usual.0
width_at rest n (inr s) = suffix_at rest n s

rest_at : (word rest : List ℕ) (op : Op) → Spells word rest op → IsAt 95 rest
rest_at word rest (FirstSample n) s = width_at rest n s.1
rest_at word rest (LastSample n) s = width_at rest n s.1
rest_at word rest (Count n) s = width_at rest n s.1
rest_at word rest (Nth n) s = suffix_at rest n s.1
rest_at word rest NCount s = inl s.1

-- no parenthesis stands in what spells an operator
suffix_lacks : (rest : List ℕ) (n : ℕ) → IsSuffix rest n → Lacks 40 rest
suffix_lacks rest n s = subst (λ (l : List ℕ). Lacks 40 l) (sym s.1) (All-cons (λ b. b ≢ 40) 95 s.0 (λ e. omega (arith, e)) (digits_lack 40 s.0 no_parenthesis_digit s.2.number.digits))

width_lacks : (rest : List ℕ) (n : ℕ) → IsBinWidth rest n → Lacks 40 rest
width_lacks rest n (inl usual) = subst (λ (l : List ℕ). Lacks 40 l) (sym usual.0) (All-nil (λ b. b ≢ 40))
width_lacks rest n (inr s) = suffix_lacks rest n s

rest_lacks : (word rest : List ℕ) (op : Op) → Spells word rest op → Lacks 40 rest
rest_lacks word rest (FirstSample n) s = width_lacks rest n s.1
rest_lacks word rest (LastSample n) s = width_lacks rest n s.1
rest_lacks word rest (Count n) s = width_lacks rest n s.1
rest_lacks word rest (Nth n) s = suffix_lacks rest n s.1
rest_lacks word rest NCount s = subst (λ (l : List ℕ). Lacks 40 l) (sym s.1) (All-nil (λ b. b ≢ 40))

operator_lacks : (text : List ℕ) (op : Op) → IsOperator text op → Lacks 40 text
operator_lacks text op o =
    let word : Lacks 40 o.0 = subst (λ (l : List ℕ). Lacks 40 l) (sym (spelled_by o.0 o.1 op o.3)) (word_lacks 40 refl refl refl refl refl op) in
    subst (λ (l : List ℕ). Lacks 40 l) (sym o.2) (All-append (λ b. b ≢ 40) o.0 o.1 word (rest_lacks o.0 o.1 op o.3))

-- ONE OPERATOR

one_suffix : (rest : List ℕ) (n m : ℕ) → IsSuffix rest n → IsSuffix rest m → n ≡ m
one_suffix rest n m x y =
    let digits : x.0 ≡ y.0 = cc (x.1, y.1) in
    let here : IsWidth y.0 n = subst (λ (d : List ℕ). IsWidth d n) digits x.2 in
    sym here.number.value ∙ y.2.number.value

one_width : (rest : List ℕ) (n m : ℕ) → IsBinWidth rest n → IsBinWidth rest m → n ≡ m
one_width rest n m (inl x) (inl y) = x.1 ∙ sym y.1
one_width rest n m (inl x) (inr y) = cc (x.0, y.1)
one_width rest n m (inr x) (inl y) = cc (x.1, y.0)
one_width rest n m (inr x) (inr y) = one_suffix rest n m x y

-- the operators' numbers, by their words
abbrev place_of : Op → ℕ
place_of (FirstSample n) = 0
place_of (LastSample n) = 1
place_of (Count n) = 2
place_of (Nth n) = 3
place_of NCount = 4

place_at : List ℕ → ℕ
place_at word =
    cond (bytes_eq word (codes "firstSample")) 0 (
    cond (bytes_eq word (codes "lastSample")) 1 (
    cond (bytes_eq word (codes "count")) 2 (
    cond (bytes_eq word (codes "nth")) 3 4)))

place_at_word : (op : Op) → place_at (word_of op) ≡ place_of op
unfolding place_at
place_at_word (FirstSample n) = refl
place_at_word (LastSample n) = refl
place_at_word (Count n) = refl
place_at_word (Nth n) = refl
place_at_word NCount = refl

same_place : (word rest : List ℕ) (a b : Op) → Spells word rest a → Spells word rest b → place_of a ≡ place_of b
same_place word rest a b x y = sym (place_at_word a) ∙ ap place_at (sym (spelled_by word rest a x) ∙ spelled_by word rest b y) ∙ place_at_word b

one_spelled : (word rest : List ℕ) (a b : Op) → Spells word rest a → Spells word rest b → a ≡ b
one_spelled word rest (FirstSample n) (FirstSample m) x y = ap FirstSample (one_width rest n m x.1 y.1)
one_spelled word rest (LastSample n) (LastSample m) x y = ap LastSample (one_width rest n m x.1 y.1)
one_spelled word rest (Count n) (Count m) x y = ap Count (one_width rest n m x.1 y.1)
one_spelled word rest (Nth n) (Nth m) x y = ap Nth (one_suffix rest n m x.1 y.1)
one_spelled word rest NCount NCount x y = refl
one_spelled word rest a b x y = absurd (false≢true (eq-eqb (place_of a) (place_of b) (same_place word rest a b x y)))

-- what a text is cut into at its underscore spells the operator, if the text is one
pub operator_cut : (text word rest : List ℕ) (op : Op) → IsCut 95 text word rest → IsOperator text op → Spells word rest op
operator_cut text word rest op cut o =
    let lacks_it : Lacks 95 o.0 = subst (λ (l : List ℕ). Lacks 95 l) (sym (spelled_by o.0 o.1 op o.3)) (word_lacks 95 refl refl refl refl refl op) in
    let same = one_cut 95 o.0 o.1 word rest lacks_it cut.none_before (rest_at o.0 o.1 op o.3) cut.at_byte (sym o.2 ∙ cut.is) in
    subst (λ (w : List ℕ). Spells w rest op) same.0 (subst (λ (r : List ℕ). Spells o.0 r op) same.1 o.3)

one_operator : (text : List ℕ) (a b : Op) → IsOperator text a → IsOperator text b → a ≡ b
one_operator text a b x y =
    let lacks_it : Lacks 95 y.0 = subst (λ (l : List ℕ). Lacks 95 l) (sym (spelled_by y.0 y.1 b y.3)) (word_lacks 95 refl refl refl refl refl b) in
    one_spelled y.0 y.1 a b (operator_cut text y.0 y.1 a (record { is = y.2; none_before = lacks_it; at_byte = rest_at y.0 y.1 b y.3 }) x) y.3

-- ONE QUESTION

lacks_both : (xs : List ℕ) → All (λ b. (b ≢ 40) × (b ≢ 41)) xs → Lacks 40 xs × Lacks 41 xs
lacks_both [] none = (All-nil (λ b. b ≢ 40), All-nil (λ b. b ≢ 41))
lacks_both (x ∷ xs) none =
    let P : ℕ → Type 0 = λ b. (b ≢ 40) × (b ≢ 41) in
    let head = All-head P x xs none in
    let rest = lacks_both xs (All-tail P x xs none) in
    (All-cons (λ b. b ≢ 40) x xs head.0 rest.0, All-cons (λ b. b ≢ 41) x xs head.1 rest.1)

-- a text without an opening parenthesis asks for no operator
bare : (text name : List ℕ) (op : Op) → Lacks 40 text → Asks text (Some op) name → ⊥
bare text name op none asks = stands 40 asks.0 (name ++ 41 ∷ []) (subst (λ (l : List ℕ). Lacks 40 l) asks.1 none)

-- a text with one asks for what stands at its first one
pub asked_at : (text front rest name : List ℕ) (op : Op) → IsCut 40 text front rest → Asks text (Some op) name → IsOperator front op × (rest ≡ 40 ∷ (name ++ 41 ∷ []))
asked_at text front rest name op cut asks =
    let same = one_cut 40 asks.0 (40 ∷ (name ++ 41 ∷ [])) front rest (operator_lacks asks.0 op asks.2) cut.none_before (inr (name ++ 41 ∷ [], refl)) cut.at_byte (sym asks.1 ∙ cut.is) in
    (subst (λ (l : List ℕ). IsOperator l op) same.0 asks.2, sym same.1)

-- a text that only closes a parenthesis, or has no operator before one, or no name in a pair of them, asks for nothing
pub closed_only : (text front rest : List ℕ) → IsCut 40 text front rest → rest ≡ [] → (Lacks 41 text → ⊥) → (op : Option Op) (name : List ℕ) → Asks text op name → ⊥
closed_only text front rest cut empty some None name asks = some ((lacks_both text asks.1).1)
closed_only text front rest cut empty some (Some op) name asks = let at = asked_at text front rest name op cut asks in cc (at.1, empty)

bare_name : (text front rest name : List ℕ) → IsCut 40 text front rest → rest ≢ [] → Asks text None name → ⊥
bare_name text front rest name cut some asks = at_byte cut.at_byte
  where
    at_byte : IsAt 40 rest → ⊥
    at_byte (inl none) = some none
    at_byte (inr at) = stands 40 front at.0 (subst (λ (l : List ℕ). Lacks 40 l) (cut.is ∙ ap (λ (l : List ℕ). front ++ l) at.1) ((lacks_both text asks.1).0))

pub no_name : (text front rest : List ℕ) → IsCut 40 text front rest → rest ≢ [] → ((name : List ℕ) → rest ≡ 40 ∷ (name ++ 41 ∷ []) → ⊥) → (op : Option Op) (name : List ℕ) → Asks text op name → ⊥
no_name text front rest cut some none None name asks = bare_name text front rest name cut some asks
no_name text front rest cut some none (Some op) name asks = none name (asked_at text front rest name op cut asks).1

pub no_operator : (text front rest : List ℕ) → IsCut 40 text front rest → rest ≢ [] → ((op : Op) → IsOperator front op → ⊥) → (op : Option Op) (name : List ℕ) → Asks text op name → ⊥
no_operator text front rest cut some none None name asks = bare_name text front rest name cut some asks
no_operator text front rest cut some none (Some op) name asks = none op (asked_at text front rest name op cut asks).0

-- a text asks for one thing
pub one_asked : (text n m : List ℕ) (a b : Option Op) → Asks text a n → Asks text b m → (a ≡ b) × (n ≡ m)
one_asked text n m None None x y = (refl, x.0 ∙ sym y.0)
one_asked text n m None (Some b) x y = absurd (bare text m b ((lacks_both text x.1).0) y)
one_asked text n m (Some a) None x y = absurd (bare text n a ((lacks_both text y.1).0) x)
one_asked text n m (Some a) (Some b) x y =
    let cut : IsCut 40 text y.0 (40 ∷ (m ++ 41 ∷ [])) = record { is = y.1; none_before = operator_lacks y.0 b y.2; at_byte = inr (m ++ 41 ∷ [], refl) } in
    let at = asked_at text y.0 (40 ∷ (m ++ 41 ∷ [])) n a cut x in
    let tails : n ++ 41 ∷ [] ≡ m ++ 41 ∷ [] = cc (at.1) in
    (ap Some (one_operator y.0 a b at.0 y.2), append_cancel_right n m (41 ∷ []) tails)

-- THE NUMBER OF AN OPERATOR

number_low : (n : ℕ) (cs : List ℕ) → IsDigits cs → number_after n cs < (n + 1) * 10 ^ length cs
number_low n [] h = omega arith
number_low n (c ∷ cs) h =
    let rest = number_low (n * 10 + (c - 48)) cs h.1 in
    let front : n * 10 + (c - 48) + 1 ≤ (n + 1) * 10 = omega (arith, h.0.1) in
    let scaled = mul-le-mul_right (10 ^ length cs) front in
    rw pow-suc (omega (arith, rest, scaled))

abbrev IsWide : ℕ → Type 0
IsWide n = (0 < n) × (n ≤ 999999999)

width_wide : (digits : List ℕ) (n : ℕ) → IsWidth digits n → IsWide n
width_wide digits n w =
    let low : number_after 0 digits < (0 + 1) * 10 ^ length digits = number_low 0 digits w.number.digits in
    let most : 10 ^ length digits ≤ 10 ^ 9 = pow-le-pow_right (omega arith) w.few in
    (w.least, omega (arith, low, most, w.number.value))

bin_width_wide : (rest : List ℕ) (n : ℕ) → IsBinWidth rest n → IsWide n
bin_width_wide rest n (inl usual) = (omega (arith, usual.1), omega (arith, usual.1))
bin_width_wide rest n (inr s) = width_wide s.0 n s.2

spelled_wide : (word rest : List ℕ) (op : Op) → Spells word rest op → IsWide (width_of op)
spelled_wide word rest (FirstSample n) s = bin_width_wide rest n s.1
spelled_wide word rest (LastSample n) s = bin_width_wide rest n s.1
spelled_wide word rest (Count n) s = bin_width_wide rest n s.1
spelled_wide word rest (Nth n) s = width_wide s.1.0 n s.1.2
spelled_wide word rest NCount s = (omega arith, omega arith)

-- the number of an operator that is asked for is in range
pub asked_wide : (text name : List ℕ) (op : Op) → Asks text (Some op) name → OpInRange op
asked_wide text name op asks = spelled_wide asks.2.0 asks.2.1 op asks.2.3

-- WHAT IS READ

pub on_none : {A P : Type 0} (r : Option A) → P → IfNone r P
on_none {A} {P} None p = p
on_none {A} {P} (Some x) p = tt

pub if_none : {A P Q : Type 0} (r : Option A) → (P → Q) → IfNone r P → IfNone r Q
if_none {A} {P} {Q} None f p = f p
if_none {A} {P} {Q} (Some x) f p = tt

pub no_bin_width : (rest : List ℕ) → rest ≢ [] → ((n : ℕ) → IsSuffix rest n → ⊥) → (n : ℕ) → IsBinWidth rest n → ⊥
no_bin_width rest some none n (inl usual) = some usual.0
no_bin_width rest some none n (inr s) = none n s

pub no_operator_of : (text word rest : List ℕ) → IsCut 95 text word rest → ((op : Op) → Spells word rest op → ⊥) → (op : Op) → IsOperator text op → ⊥
no_operator_of text word rest cut none op o = none op (operator_cut text word rest op cut o)

place_is : (word rest : List ℕ) (a op : Op) → word ≡ word_of a → Spells word rest op → place_of op ≡ place_of a
place_is word rest a op is s = sym (place_at_word op) ∙ ap place_at (sym (spelled_by word rest op s) ∙ is) ∙ place_at_word a

pub no_first : (word rest : List ℕ) → word ≡ codes "firstSample" → ((n : ℕ) → IsBinWidth rest n → ⊥) → (op : Op) → Spells word rest op → ⊥
no_first word rest is none (FirstSample n) s = none n s.1
no_first word rest is none op s = false≢true (eq-eqb (place_of op) 0 (place_is word rest (FirstSample 0) op is s))

pub no_last : (word rest : List ℕ) → word ≡ codes "lastSample" → ((n : ℕ) → IsBinWidth rest n → ⊥) → (op : Op) → Spells word rest op → ⊥
no_last word rest is none (LastSample n) s = none n s.1
no_last word rest is none op s = false≢true (eq-eqb (place_of op) 1 (place_is word rest (LastSample 0) op is s))

pub no_count : (word rest : List ℕ) → word ≡ codes "count" → ((n : ℕ) → IsBinWidth rest n → ⊥) → (op : Op) → Spells word rest op → ⊥
no_count word rest is none (Count n) s = none n s.1
no_count word rest is none op s = false≢true (eq-eqb (place_of op) 2 (place_is word rest (Count 0) op is s))

pub no_nth : (word rest : List ℕ) → word ≡ codes "nth" → ((n : ℕ) → IsSuffix rest n → ⊥) → (op : Op) → Spells word rest op → ⊥
no_nth word rest is none (Nth n) s = none n s.1
no_nth word rest is none op s = false≢true (eq-eqb (place_of op) 3 (place_is word rest (Nth 0) op is s))
