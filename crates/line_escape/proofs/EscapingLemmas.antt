-- Laws of escaping.
use Rattle.std.proofs.Common.{◌≡◌, ◌≢◌, ℕ, suc, zero, ◌+◌, ◌-◌, ◌<◌, ◌≤◌, ◌⊎◌, Option, List, [], ◌∷◌, ◌++◌, Some, None, All, length, take, drop, arith, refl, sym, cond, ◌∙◌, ap, subst, inl, inr, append_assoc, ne_eqb}
use Rattle.std.specs.List.{AllByRecursion, count_by}
use Rattle.std.proofs.lemmas.List.{take-append-drop, take-append-le, length-take, length-append, take_at, drop_at}
use Rattle.std.proofs.lemmas.List.Elements.{All-take, All-drop}
use Rattle.std.proofs.lemmas.Grind.{flat_map-append}
use Rattle.std.proofs.Math.Seq.{take-add, take-append-add, drop-append-add}
use Rattle.std.proofs.lemmas.Bool.{cases_eq}
use Rattle.std.proofs.lemmas.Bool.Decides.{eqb_tells}
use Rattle.std.proofs.lemmas.List.Recursion.{is_count_by}
use Rattle.std.proofs.lemmas.List.Elements.{recursion_from_All, All-from_recursion, All-append, All-nil}
use Rattle.line_escape.specs.Escaping.{escaped, code_of, needs_pair}
use Rattle.line_escape.specs.Unescaping.{AppendsMeaning, BeginsPair, byte_of_pair, IsCode, Means, BeginsBadEscape, IsBadPlace, HasNoNewline}

-- lines one after another mean what they mean one after another
pub Means-append : (u v a b : List ℕ) → Means u a → Means v b → Means (u ++ v) (a ++ b)
Means-append u v [] b h k = rw h k
Means-append u v (x ∷ a) b h k =
    (h.0, h.1 ++ v, rw h.2 (append_assoc h.0 h.1 v), h.3, Means-append h.1 v a b h.4 k)

-- bytes that are neither 1B nor 0A mean themselves
pub Means-plain : (u : List ℕ) → AllByRecursion (λ x. (x ≢ 27) × (x ≢ 10)) u → Means u u
Means-plain [] h = refl
Means-plain (x ∷ u) h = (x ∷ [], u, refl, (refl, h.0.0, h.0.1), Means-plain u h.1)

-- a line in which neither stands means itself
pub plain_means : (line : List ℕ) → All (λ x. x ≢ 27) line → HasNoNewline line → Means line line
plain_means line plain whole =
    let both : All (λ x. (x ≢ 27) × (x ≢ 10)) line = λ k d l. (plain k d l, whole k d l) in
    Means-plain line (recursion_from_All (λ x. (x ≢ 27) × (x ≢ 10)) line both)

-- one pair
pub Means-pair : (c b : ℕ) → byte_of_pair c ≡ Some b → Means (27 ∷ c ∷ []) (b ∷ [])
Means-pair c b h = (27 ∷ c ∷ [], [], refl, (refl, h), refl)

-- codes are told apart from the left
pub code_unique : (c d r s : List ℕ) (x y : ℕ) → IsCode c x → IsCode d y → c ++ r ≡ d ++ s → (x ≡ y) × (r ≡ s)
code_unique [] d r s x y h k e = absurd h
code_unique (p ∷ []) [] r s x y h k e = absurd k
code_unique (p ∷ []) (q ∷ []) r s x y h k e = (cc, cc)
code_unique (p ∷ []) (q ∷ c ∷ []) r s x y h k e = absurd (let same : p ≡ 27 = cc in h.1 same)
code_unique (p ∷ []) (q ∷ c ∷ z ∷ d) r s x y h k e = absurd k
code_unique (p ∷ c ∷ []) [] r s x y h k e = absurd k
code_unique (p ∷ c ∷ []) (q ∷ []) r s x y h k e = absurd (let same : q ≡ 27 = cc in k.1 same)
code_unique (p ∷ c ∷ []) (q ∷ d ∷ []) r s x y h k e = (let same : c ≡ d = cc in let some : Some x ≡ Some y = sym h.1 ∙ ap byte_of_pair same ∙ k.1 in cc, cc)
code_unique (p ∷ c ∷ []) (q ∷ d ∷ z ∷ f) r s x y h k e = absurd k
code_unique (p ∷ c ∷ z ∷ f) d r s x y h k e = absurd h

-- a code isn't empty
pub code_some : (c r : List ℕ) (x : ℕ) → IsCode c x → c ++ r ≡ [] → ⊥
code_some [] r x h e = h
code_some (p ∷ c) r x h e = cc

-- a line means one list of bytes
pub meaning_unique : (u a b : List ℕ) → Means u a → Means u b → a ≡ b
meaning_unique u [] [] h k = refl
meaning_unique u [] (y ∷ b) h k = absurd (code_some k.0 k.1 y k.3 (sym k.2 ∙ h))
meaning_unique u (x ∷ a) [] h k = absurd (code_some h.0 h.1 x h.3 (sym h.2 ∙ k))
meaning_unique u (x ∷ a) (y ∷ b) h k =
    let both = code_unique h.0 k.0 h.1 k.1 x y h.3 k.3 (sym h.2 ∙ k.2) in
    let P : List ℕ → Type 0 = λ r. Means r b in
    let rest = meaning_unique h.1 a b h.4 (subst P (sym both.1) k.4) in
    cc (both.0, rest)

-- what breaks off begins no code
pub breaks_off_code : (q c r : List ℕ) (x : ℕ) → BeginsBadEscape q → IsCode c x → q ≡ c ++ r → ⊥
breaks_off_code [] c r x h k e = h
breaks_off_code (p ∷ []) [] r x h k e = k
breaks_off_code (p ∷ []) (z ∷ []) r x h k e = let same : z ≡ 27 = cc in k.1 same
breaks_off_code (p ∷ []) (z ∷ d ∷ c) r x h k e = cc
breaks_off_code (p ∷ d ∷ q) [] r x h k e = k
breaks_off_code (p ∷ d ∷ q) (z ∷ []) r x h k e = let same : z ≡ 27 = cc in k.1 same
breaks_off_code (p ∷ d ∷ q) (z ∷ f ∷ []) r x h k e =
    let same : d ≡ f = cc in
    let apart : None ≡ Some x = sym h.1 ∙ ap byte_of_pair same ∙ k.1 in
    cc
breaks_off_code (p ∷ d ∷ q) (z ∷ f ∷ g ∷ c) r x h k e = k

-- nothing is meant by a line that breaks off
pub breaks_off_none : (p q a b : List ℕ) → Means p a → BeginsBadEscape q → Means (p ++ q) b → ⊥
breaks_off_none p [] a b h k l = k
breaks_off_none p (z ∷ q) [] [] h k l = let e : z ∷ q ≡ [] = rw h at l in cc
breaks_off_none p (z ∷ q) [] (y ∷ b) h k l = breaks_off_code (z ∷ q) l.0 l.1 y k l.3 (rw h at l.2)
breaks_off_none p (z ∷ q) (x ∷ a) [] h k l = code_some h.0 (h.1 ++ z ∷ q) x h.3 (sym (append_assoc h.0 h.1 (z ∷ q)) ∙ sym (ap (λ (v : List ℕ). v ++ z ∷ q) h.2) ∙ l)
breaks_off_none p (z ∷ q) (x ∷ a) (y ∷ b) h k l =
    let both = code_unique h.0 l.0 (h.1 ++ z ∷ q) l.1 x y h.3 l.3 (sym (append_assoc h.0 h.1 (z ∷ q)) ∙ sym (ap (λ (v : List ℕ). v ++ z ∷ q) h.2) ∙ l.2) in
    let P : List ℕ → Type 0 = λ r. Means r b in
    breaks_off_none h.1 (z ∷ q) a b h.4 k (subst P (sym both.1) l.4)

pub bad_means_nothing : (u b : List ℕ) (at : ℕ) → IsBadPlace u at → Means u b → ⊥
bad_means_nothing u b at h k =
    let P : List ℕ → Type 0 = λ v. Means v b in
    breaks_off_none (take at u) (drop at u) h.0.0 b h.0.1 h.1 (subst P (sym (take-append-drop at u)) k)

-- what breaks off does so as soon as one byte of it is there
BeginsBadEscape-take : (q : List ℕ) (n : ℕ) → BeginsBadEscape q → BeginsBadEscape (take (suc n) q)
BeginsBadEscape-take [] n h = h
BeginsBadEscape-take (x ∷ []) zero h = h
BeginsBadEscape-take (x ∷ []) (suc n) h = h
BeginsBadEscape-take (x ∷ c ∷ q) zero h = h.0
BeginsBadEscape-take (x ∷ c ∷ q) (suc n) h = h

no_later : (u : List ℕ) (i n : ℕ) → IsBadPlace u i → IsBadPlace u (i + suc n) → ⊥
no_later u i n h k =
    let split = take-add i (suc n) u in
    let P : List ℕ → Type 0 = λ v. Means v k.0.0 in
    breaks_off_none (take i u) (take (suc n) (drop i u)) h.0.0 k.0.0 h.0.1 (BeginsBadEscape-take (drop i u) n h.1) (subst P split k.0.1)

pub one_bad_place : (u : List ℕ) (i j : ℕ) → IsBadPlace u i → IsBadPlace u j → i ≡ j
one_bad_place u i j h k =
    let up : i < j → ⊥ = λ (lt : i < j). let P : ℕ → Type 0 = λ m. IsBadPlace u m in no_later u i (j - i - 1) h (subst P (omega arith) k) in
    let down : j < i → ⊥ = λ (lt : j < i). let P : ℕ → Type 0 = λ m. IsBadPlace u m in no_later u j (i - j - 1) k (subst P (omega arith) h) in
    omega (arith, up, down)

-- what holds of the three pairs and of each other byte holds of each byte and its code
code_by_cases : (P : ℕ → List ℕ → Type 0) → P 27 (27 ∷ 1 ∷ []) → P 10 (27 ∷ 2 ∷ []) → P 13 (27 ∷ 3 ∷ []) → ((x : ℕ) → x ≢ 27 → x ≢ 10 → x ≢ 13 → P x (x ∷ [])) → (x : ℕ) → P x (code_of x)
code_by_cases P escape newline return other x =
    let Q : ℕ → Type 0 = λ v. P v (code_of v) in
    elim (eqb_tells x 27) [
      | inl e ↦ subst Q (sym e.1) escape
      | inr not27 ↦ elim (eqb_tells x 10) [
        | inl e ↦ subst Q (sym e.1) newline
        | inr not10 ↦ elim (eqb_tells x 13) [
          | inl e ↦ subst Q (sym e.1) return
          | inr not13 ↦ rw (not27.0, not10.0, not13.0) (other x not27.1 not10.1 not13.1)
        ]
      ]
    ]

code_is : (x : ℕ) → IsCode (code_of x) x
code_is x = code_by_cases (λ b code. IsCode code b) (refl, refl) (refl, refl) (refl, refl) (λ b not27 not10 not13. (refl, not27, not10)) x

pub escaped-Means : (b : List ℕ) → Means (escaped b) b
escaped-Means [] = refl
escaped-Means (x ∷ b) = (code_of x, escaped b, refl, code_is x, escaped-Means b)

code_whole : (x : ℕ) → HasNoNewline (code_of x)
code_whole x =
    let P : ℕ → Type 0 = λ z. z ≢ 10 in
    All-from_recursion P (code_of x) (code_by_cases (λ b code. AllByRecursion P code) (omega arith, (omega arith, tt)) (omega arith, (omega arith, tt)) (omega arith, (omega arith, tt)) (λ b not27 not10 not13. (not10, tt)) x)

pub escaped-HasNoNewline : (b : List ℕ) → HasNoNewline (escaped b)
escaped-HasNoNewline [] = All-nil (λ x. x ≢ 10)
escaped-HasNoNewline (x ∷ b) = All-append (λ x. x ≢ 10) (code_of x) (escaped b) (code_whole x) (escaped-HasNoNewline b)

-- lines without newlines, told apart by the newline behind them
pub lines_apart : (u v x y : List ℕ) → AllByRecursion (λ z. z ≢ 10) u → AllByRecursion (λ z. z ≢ 10) v → u ++ 10 ∷ x ≡ v ++ 10 ∷ y → (u ≡ v) × (x ≡ y)
lines_apart [] [] x y h k e = (refl, cc)
lines_apart [] (q ∷ v) x y h k e = absurd (let same : q ≡ 10 = cc in k.0 same)
lines_apart (p ∷ u) [] x y h k e = absurd (let same : p ≡ 10 = cc in h.0 same)
lines_apart (p ∷ u) (q ∷ v) x y h k e =
    let rest : u ++ 10 ∷ x ≡ v ++ 10 ∷ y = cc in
    let both = lines_apart u v x y h.1 k.1 rest in
    (let head : p ≡ q = cc in cc (both.0, head), both.1)

pub escaped_no_front : (a b x y : List ℕ) → escaped a ++ 10 ∷ x ≡ escaped b ++ 10 ∷ y → (a ≡ b) × (x ≡ y)
escaped_no_front a b x y e =
    let both = lines_apart (escaped a) (escaped b) x y (recursion_from_All (λ x. x ≢ 10) (escaped a) (escaped-HasNoNewline a)) (recursion_from_All (λ x. x ≢ 10) (escaped b) (escaped-HasNoNewline b)) e in
    let P : List ℕ → Type 0 = λ v. Means v b in
    (meaning_unique (escaped a) a b (escaped-Means a) (subst P (sym both.0) (escaped-Means b)), both.1)

kept_code : (x : ℕ) → (x ≢ 27) × (x ≢ 10) × (x ≢ 13) → code_of x ≡ x ∷ []
kept_code x h = rw (ne_eqb x 27 h.0, ne_eqb x 10 h.1, ne_eqb x 13 h.2)

-- bytes that stay as they are are their own escaped form
pub escaped-kept : (u : List ℕ) → AllByRecursion (λ x. (x ≢ 27) × (x ≢ 10) × (x ≢ 13)) u → escaped u ≡ u
escaped-kept [] h = refl
escaped-kept (x ∷ u) h = ap (λ (v : List ℕ). v ++ escaped u) (kept_code x h.0) ∙ ap (λ (v : List ℕ). x ∷ v) (escaped-kept u h.1)

-- a front stays where bytes are appended
pub front_stays : (a b c : List ℕ) → take (length a) b ≡ a → take (length a) (b ++ c) ≡ a
front_stays a b c h =
    let short : length a ≤ length b = omega (arith, length-take (length a) b, ap length h) in
    take-append-le (length a) b c short ∙ h

-- what is still to be written, once a run of kept bytes is
pub escaped_run : (out rest target : List ℕ) (n : ℕ) → out ++ escaped rest ≡ target → All (λ x. (x ≢ 27) × (x ≢ 10) × (x ≢ 13)) (take n rest) → (out ++ take n rest) ++ escaped (drop n rest) ≡ target
escaped_run out rest target n h kept =
    let same = escaped-kept (take n rest) (recursion_from_All (λ x. (x ≢ 27) × (x ≢ 10) × (x ≢ 13)) (take n rest) kept) in
    let split = sym (ap escaped (take-append-drop n rest)) ∙ flat_map-append code_of (take n rest) (drop n rest) in
    append_assoc out (take n rest) (escaped (drop n rest)) ∙ ap (λ (v : List ℕ). out ++ v) (sym (split ∙ ap (λ (v : List ℕ). v ++ escaped (drop n rest)) same)) ∙ h

-- and once one byte more is
pub escaped_one : (out others target : List ℕ) (x : ℕ) → out ++ escaped (x ∷ others) ≡ target → (out ++ code_of x) ++ escaped others ≡ target
escaped_one out others target x h = append_assoc out (code_of x) (escaped others) ∙ h

-- the rest of a line without newlines has none
pub rest_whole : (line front rest : List ℕ) → line ≡ front ++ rest → HasNoNewline line → HasNoNewline rest
rest_whole line front rest is whole =
    let P : List ℕ → Type 0 = λ v. HasNoNewline v in
    subst P (ap (λ (v : List ℕ). drop (length front) v) is ∙ drop_at front rest (length front) refl) (All-drop (λ x. x ≢ 10) (length front) line whole)

-- what a line means so far, once a run of plain bytes is read
pub meant_run : (line rest old out : List ℕ) (n : ℕ) → (front : List ℕ) × (line ≡ front ++ rest) × AppendsMeaning front old out → HasNoNewline line → All (λ x. x ≢ 27) (take n rest) → (front : List ℕ) × (line ≡ front ++ drop n rest) × AppendsMeaning front old (out ++ take n rest)
meant_run line rest old out n h whole plain =
    let run = take n rest in
    let no_newline = rest_whole line h.0 rest h.1 whole in
    let both : All (λ x. (x ≢ 27) × (x ≢ 10)) run = λ k d l. (plain k d l, All-take (λ x. x ≢ 10) n rest no_newline k d l) in
    let means = Means-plain run (recursion_from_All (λ x. (x ≢ 27) × (x ≢ 10)) run both) in
    (h.0 ++ run, (h.1 ∙ ap (λ (v : List ℕ). h.0 ++ v) (sym (take-append-drop n rest)) ∙ sym (append_assoc h.0 run (drop n rest))), (h.2.0 ++ run, Means-append h.0 run h.2.0 run h.2.1 means, ap (λ (v : List ℕ). v ++ run) h.2.2 ∙ append_assoc old h.2.0 run))

-- and once a pair is read
pub meant_pair : (line rest old out : List ℕ) (b : ℕ) → (front : List ℕ) × (line ≡ front ++ rest) × AppendsMeaning front old out → BeginsPair rest b → (front : List ℕ) × (line ≡ front ++ drop 2 rest) × AppendsMeaning front old (out ++ b ∷ [])
meant_pair line [] old out b h pair = absurd pair
meant_pair line (x ∷ []) old out b h pair = absurd pair
meant_pair line (x ∷ c ∷ rest) old out b h pair =
    let P : ℕ → Type 0 = λ z. Means (z ∷ c ∷ []) (b ∷ []) in
    let means = subst P (sym pair.0) (Means-pair c b pair.1) in
    (h.0 ++ x ∷ c ∷ [], (h.1 ∙ sym (append_assoc h.0 (x ∷ c ∷ []) rest)), (h.2.0 ++ b ∷ [], Means-append h.0 (x ∷ c ∷ []) h.2.0 (b ∷ []) h.2.1 means, ap (λ (v : List ℕ). v ++ b ∷ []) h.2.2 ∙ append_assoc old h.2.0 (b ∷ [])))

-- the place at which the rest breaks off
pub bad_place : (line rest old out : List ℕ) → (front : List ℕ) × (line ≡ front ++ rest) × AppendsMeaning front old out → BeginsBadEscape rest → IsBadPlace line (length line - length rest)
bad_place line rest old out h off =
    let at : length line - length rest ≡ length h.0 = omega (arith, ap length h.1, length-append h.0 rest) in
    let fore : take (length line - length rest) line ≡ h.0 = rw at (ap (λ (v : List ℕ). take (length h.0) v) h.1 ∙ take_at h.0 rest (length h.0) refl) in
    let back : drop (length line - length rest) line ≡ rest = rw at (ap (λ (v : List ℕ). drop (length h.0) v) h.1 ∙ drop_at h.0 rest (length h.0) refl) in
    rw (fore, back) ((h.2.0, h.2.1), off)

-- how many bytes are written as pairs, by recursion
abbrev pair_count : List ℕ → ℕ
pair_count [] = 0
pair_count (x ∷ u) = cond (needs_pair x) (1 + pair_count u) (pair_count u)

length-code : (x n : ℕ) → length (code_of x) + n ≡ cond (needs_pair x) (1 + (1 + n)) (1 + n)
length-code x n = code_by_cases (λ b code. length code + n ≡ cond (needs_pair b) (1 + (1 + n)) (1 + n)) (omega arith) (omega arith) (omega arith) (λ b not27 not10 not13. rw (ne_eqb b 27 not27, ne_eqb b 10 not10, ne_eqb b 13 not13) (omega arith)) x

length-escaped-pairs : (u : List ℕ) → length (escaped u) ≡ length u + pair_count u
length-escaped-pairs [] = refl
length-escaped-pairs (x ∷ u) = grind (arith, length-append (code_of x) (escaped u), length-code x (length (escaped u)), length-escaped-pairs u)

-- each byte that needs a pair makes the escaped form one byte longer
pub length-escaped : (u : List ℕ) → length (escaped u) ≡ length u + count_by needs_pair u
length-escaped u = length-escaped-pairs u ∙ ap (λ (n : ℕ). length u + n) (is_count_by pair_count needs_pair refl (λ x v. refl) u)

-- what is read from an escaped form is what was escaped
pub read_back : (bytes old new : List ℕ) → AppendsMeaning (escaped bytes) old new → new ≡ old ++ bytes
read_back bytes old new h = h.2 ∙ ap (λ (v : List ℕ). old ++ v) (meaning_unique (escaped bytes) h.0 bytes h.1 (escaped-Means bytes))

pub never_refused : (bytes : List ℕ) (at : ℕ) → IsBadPlace (escaped bytes) at → ⊥
never_refused bytes at h = bad_means_nothing (escaped bytes) bytes at h (escaped-Means bytes)

-- one code in front of what a line means, or of its bad place
meant_behind : (code line : List ℕ) (x : ℕ) → IsCode code x → ((bytes : List ℕ) × Means line bytes) ⊎ ((at : ℕ) × IsBadPlace line at) → ((bytes : List ℕ) × Means (code ++ line) bytes) ⊎ ((at : ℕ) × IsBadPlace (code ++ line) at)
meant_behind code line x is (inl h) = inl (x ∷ h.0, (code, line, refl, is, h.1))
meant_behind code line x is (inr h) =
    let front : take (length code + h.0) (code ++ line) ≡ code ++ take h.0 line = take-append-add code line h.0 in
    let behind : drop (length code + h.0) (code ++ line) ≡ drop h.0 line = drop-append-add code line h.0 in
    inr (length code + h.0, ((x ∷ h.1.0.0, rw front (code, take h.0 line, refl, is, h.1.0.1)), rw behind h.1.1))

-- Two bytes that begin with 1B are a pair or a bad escape.
pair_or_bad : (c : ℕ) (line : List ℕ) (b : Option ℕ) → byte_of_pair c ≡ b → ((bytes : List ℕ) × Means line bytes) ⊎ ((at : ℕ) × IsBadPlace line at) → ((bytes : List ℕ) × Means (27 ∷ c ∷ line) bytes) ⊎ ((at : ℕ) × IsBadPlace (27 ∷ c ∷ line) at)
pair_or_bad c line (Some b) is h = meant_behind (27 ∷ c ∷ []) line b (refl, is) h
pair_or_bad c line None is h = inr (0, (([], refl), (refl, is)))

-- Each line of n bytes at most means some bytes or has a bad place.
line_within : (n : ℕ) (line : List ℕ) → length line ≤ n → AllByRecursion (λ x. x ≢ 10) line → ((bytes : List ℕ) × Means line bytes) ⊎ ((at : ℕ) × IsBadPlace line at)
line_within n [] short whole = inl ([], refl)
line_within zero (x ∷ line) short whole = absurd (omega arith)
line_within (suc n) (x ∷ []) short whole =
    elim (cases_eq x 27) [
      | inl escape ↦ inr (0, (([], refl), escape))
      | inr plain ↦ inl (x ∷ [], (x ∷ [], [], refl, (refl, plain, whole.0), refl))
    ]
line_within (suc n) (x ∷ c ∷ line) short whole =
    elim (cases_eq x 27) [
      | inr plain ↦ meant_behind (x ∷ []) (c ∷ line) x (refl, plain, whole.0) (line_within n (c ∷ line) (omega arith) whole.1)
      | inl escape ↦
          let P : ℕ → Type 0 = λ x. ((bytes : List ℕ) × Means (x ∷ c ∷ line) bytes) ⊎ ((at : ℕ) × IsBadPlace (x ∷ c ∷ line) at) in
          subst P (sym escape) (pair_or_bad c line (byte_of_pair c) refl (line_within n line (omega arith) whole.1.1))
    ]

pub every_line : (line : List ℕ) → HasNoNewline line → ((bytes : List ℕ) × Means line bytes) ⊎ ((at : ℕ) × IsBadPlace line at)
every_line line whole = line_within (length line) line (omega arith) (recursion_from_All (λ x. x ≢ 10) line whole)
