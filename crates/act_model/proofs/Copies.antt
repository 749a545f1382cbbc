-- What a move copies next keeps its copies without a gap.
use Rattle.std.proofs.Common.{◌≡◌, ℕ, ◌+◌, ◌<◌, ◌≤◌, List, [], ◌∷◌, ◌++◌, max, Bool, true, false, cond, refl, ap, sym, ◌∙◌, arith, subst, append-nil}
use Rattle.std.specs.Prelude.{◌&&◌, nat_lt, nat_le, filter}
use Rattle.std.proofs.lemmas.Bool.Decides.{nat_tests}
use Rattle.std.specs.List.{AllByRecursion}
use Rattle.series_model.specs.declared.sample.Sample.{Sample}
use Rattle.series_model.specs.Series.{end_from, end_of, RisesFrom, IsRising, since, before}
use Rattle.series_model.proofs.RisingLists.{end_from-append, end_from-ge, RisesFrom-append, RisesFrom-front, RisesFrom-rest, RisesFrom-filter, RisesFrom-since, since-append}
use Rattle.series_model.proofs.OverLemmas.{since_max}
use Rattle.act_model.specs.Rows.{holds}
use Rattle.act_model.specs.Limbo.{RowFile, Covered, Fits}
use Rattle.act_model.specs.MoveStep.{is_later}
use Rattle.act_model.specs.Sound.{IsCopied}
use Rattle.act_model.proofs.Puts.{before-append, since-before, before-before}
use Rattle.act_model.proofs.RowLaws.{before_none, since_parts, end_from-below}

-- ELEMENT BY ELEMENT

all_filter : (P : Sample → Type 0) (p : Sample → Bool) (xs : List Sample) → AllByRecursion P xs → AllByRecursion P (filter p xs)
all_filter P p [] all = tt
all_filter P p (x ∷ xs) all = by_test (p x) (all_filter P p xs all.1)
  where
    by_test : (b : Bool) → AllByRecursion P (filter p xs) → AllByRecursion P (cond b (x ∷ filter p xs) (filter p xs))
    by_test true more = (all.0, more)
    by_test false more = more

pub all_front : (P : Sample → Type 0) (xs ys : List Sample) → AllByRecursion P (xs ++ ys) → AllByRecursion P xs
all_front P [] ys all = tt
all_front P (x ∷ xs) ys all = (all.0, all_front P xs ys all.1)

pub all_append : (P : Sample → Type 0) (xs ys : List Sample) → AllByRecursion P xs → AllByRecursion P ys → AllByRecursion P (xs ++ ys)
all_append P [] ys a b = b
all_append P (x ∷ xs) ys a b = (a.0, all_append P xs ys a.1 b)

abbrev IsBefore : ℕ → Sample → Type 0
IsBefore to s = s.t < to

bound : (n to : ℕ) (xs : List Sample) → AllByRecursion (IsBefore to) xs → end_from n xs ≤ max n to
bound n to [] all = omega arith
bound n to (x ∷ xs) all = let first : x.t < to = all.0 in let more : end_from (x.t + 1) xs ≤ max (x.t + 1) to = bound (x.t + 1) to xs all.1 in omega arith

all_before : (to : ℕ) (xs : List Sample) → AllByRecursion (IsBefore to) (before to xs)
all_before to [] = tt
all_before to (x ∷ xs) = by_test (nat_lt x.t to) refl (all_before to xs)
  where
    by_test : (b : Bool) → nat_lt x.t to ≡ b → AllByRecursion (IsBefore to) (before to xs) → AllByRecursion (IsBefore to) (cond b (x ∷ before to xs) (before to xs))
    by_test true is more = (grind (arith, nat_tests), more)
    by_test false is more = more

all_own : (n : ℕ) (xs : List Sample) → RisesFrom n xs → AllByRecursion (IsBefore (end_from n xs)) xs
all_own n [] rises = tt
all_own n (x ∷ xs) rises = ((let up = end_from-ge (x.t + 1) xs rises.1 in omega arith), all_own (x.t + 1) xs rises.1)

filter-filter : (p q : Sample → Bool) (xs : List Sample) → filter p (filter q xs) ≡ filter q (filter p xs)
filter-filter p q [] = refl
filter-filter p q (x ∷ xs) = by_tests (q x) refl (p x) refl (filter-filter p q xs)
  where
    by_tests : (b : Bool) → q x ≡ b → (c : Bool) → p x ≡ c → filter p (filter q xs) ≡ filter q (filter p xs) → filter p (cond b (x ∷ filter q xs) (filter q xs)) ≡ filter q (cond c (x ∷ filter p xs) (filter p xs))
    by_tests true is true is' more = rw (is, is') (ap (λ w. x ∷ w) more)
    by_tests true is false is' more = rw is' more
    by_tests false is true is' more = rw is more
    by_tests false is false is' more = more

pub window_empty : (k c : ℕ) (xs : List Sample) → c ≤ k → since k (before c xs) ≡ []
window_empty k c [] low = refl
window_empty k c (x ∷ xs) low = by_test (nat_lt x.t c) refl (window_empty k c xs low)
  where
    by_test : (b : Bool) → nat_lt x.t c ≡ b → since k (before c xs) ≡ [] → since k (cond b (x ∷ before c xs) (before c xs)) ≡ []
    by_test true is more = let out : nat_le k x.t ≡ false = grind (arith, nat_tests) in rw out more
    by_test false is more = more

pub before_all : (c n : ℕ) (xs : List Sample) → RisesFrom n xs → end_from n xs ≤ c → before c xs ≡ xs
before_all c n [] rises low = refl
before_all c n (x ∷ xs) rises low =
    let up : x.t + 1 ≤ end_from (x.t + 1) xs = end_from-ge (x.t + 1) xs rises.1 in
    let one : nat_lt x.t c ≡ true = grind (arith, nat_tests) in
    rw one (ap (λ w. x ∷ w) (before_all c (x.t + 1) xs rises.1 low))

-- LATER THAN LIMBO

later_fits : (limbo : List RowFile) (s : Sample) → is_later limbo s ≡ true → Fits limbo s
later_fits [] s is = tt
later_fits (f ∷ limbo) s is = by_test (holds f.part s.t) refl (later_fits limbo s)
  where
    by_test : (b : Bool) → holds f.part s.t ≡ b → (is_later limbo s ≡ true → Fits limbo s) → Fits (f ∷ limbo) s
    by_test true h more = (λ h'. (let both = rw h at is in grind (arith, nat_tests)), more (let both = rw h at is in grind (arith, nat_tests)))
    by_test false h more = (λ h'. absurd cc, more (rw h at is))

fits_filter : (limbo : List RowFile) (xs : List Sample) → AllByRecursion (Fits limbo) (filter (is_later limbo) xs)
fits_filter limbo [] = tt
fits_filter limbo (x ∷ xs) = by_test (is_later limbo x) refl (fits_filter limbo xs)
  where
    by_test : (b : Bool) → is_later limbo x ≡ b → AllByRecursion (Fits limbo) (filter (is_later limbo) xs) → AllByRecursion (Fits limbo) (cond b (x ∷ filter (is_later limbo) xs) (filter (is_later limbo) xs))
    by_test true is more = (later_fits limbo x is, more)
    by_test false is more = more

covered_later : (limbo : List RowFile) (e : ℕ) (s : Sample) → Covered e limbo → e ≤ s.t → is_later limbo s ≡ true
covered_later [] e s low late = refl
covered_later (f ∷ limbo) e s low late = by_test (holds f.part s.t) refl (covered_later limbo e s low.1 late)
  where
    by_test : (b : Bool) → holds f.part s.t ≡ b → is_later limbo s ≡ true → (cond b (nat_le (end_from f.part.start f.samples) s.t) true && is_later limbo s) ≡ true
    by_test true h more =
        let up : f.part.start ≤ s.t = grind (arith, nat_tests) in
        let end : end_of f.samples ≤ e = low.0.1 in
        let under : end_from f.part.start f.samples ≤ s.t = end_from-below f.part.start s.t f.samples up (omega arith) in
        let one : nat_le (end_from f.part.start f.samples) s.t ≡ true = grind (arith, nat_tests) in rw one more
    by_test false h more = more

since_later : (limbo : List RowFile) (e : ℕ) (xs : List Sample) → Covered e limbo → since e (filter (is_later limbo) xs) ≡ since e xs
since_later limbo e [] low = refl
since_later limbo e (x ∷ xs) low = by_tests (is_later limbo x) refl (nat_le e x.t) refl (since_later limbo e xs low)
  where
    by_tests : (b : Bool) → is_later limbo x ≡ b → (c : Bool) → nat_le e x.t ≡ c → since e (filter (is_later limbo) xs) ≡ since e xs → since e (cond b (x ∷ filter (is_later limbo) xs) (filter (is_later limbo) xs)) ≡ cond c (x ∷ since e xs) (since e xs)
    by_tests true is true is' more = rw is' (ap (λ w. x ∷ w) more)
    by_tests true is false is' more = rw is' more
    by_tests false is true is' more = absurd (let late : e ≤ x.t = grind (arith, nat_tests) in let same = covered_later limbo e x low late in cc)
    by_tests false is false is' more = more

-- MORE COPIES

pub copies_more : (limbo : List RowFile) (below dest source copied chunk later : List Sample) (to : ℕ) → IsRising source → Covered (end_of below) limbo → IsCopied limbo below dest source copied
    → filter (is_later limbo) (since (end_from (end_of dest) copied) (before to source)) ≡ chunk ++ later → IsCopied limbo below dest source (copied ++ chunk)
copies_more limbo below dest source copied chunk later to rises low is left =
    let e = end_of below in
    let d = end_of dest in
    let c = end_from d copied in
    let k = max e d in
    let q = is_later limbo in
    let parts = before to source in
    let y = since c parts in
    let inside : IsRising parts = RisesFrom-filter (λ s. nat_lt s.t to) 0 source rises in
    let from_c : RisesFrom c (filter q y) = RisesFrom-filter q c y (RisesFrom-since 0 c parts inside) in
    let both : RisesFrom c (chunk ++ later) = subst (λ w. RisesFrom c w) left from_c in
    let front : RisesFrom c chunk = RisesFrom-front c chunk later both in
    let c' : ℕ = end_from c chunk in
    let up : d ≤ c = end_from-ge d copied is.rises in
    let more : c ≤ c' = end_from-ge c chunk front in
    let end : end_from d (copied ++ chunk) ≡ c' = end_from-append d copied chunk in
    let cut : before c' (filter q y) ≡ chunk = ap (λ w. before c' w) left ∙ (before-append c' chunk later ∙ (ap (λ w. w ++ before c' later) (before_all c' c chunk front (omega arith)) ∙ (ap (λ w. chunk ++ w) (before_none c' c' later (RisesFrom-rest c chunk later both) (omega arith)) ∙ append-nil chunk))) in
    let chunk_low : AllByRecursion (IsBefore to) chunk = all_front (IsBefore to) chunk later (subst (λ w. AllByRecursion (IsBefore to) w) left (all_filter (IsBefore to) q y (all_filter (IsBefore to) (λ s. nat_le c s.t) parts (all_before to source)))) in
    let limit : c' ≤ max c to = bound c to chunk chunk_low in
    let chunk_in : AllByRecursion (IsBefore (end_of source)) chunk = all_front (IsBefore (end_of source)) chunk later (subst (λ w. AllByRecursion (IsBefore (end_of source)) w) left (all_filter (IsBefore (end_of source)) q y (all_filter (IsBefore (end_of source)) (λ s. nat_le c s.t) parts (all_filter (IsBefore (end_of source)) (λ s. nat_lt s.t to) source (all_own 0 source rises))))) in
    let last : c' ≤ max c (end_of source) = bound c (end_of source) chunk chunk_in in
    let one : since e chunk ≡ since e (before c' y) = ap (λ w. since e w) (sym cut ∙ filter-filter (λ s. nat_lt s.t c') q y) ∙ since_later limbo e (before c' y) low in
    let two : since e (before c' y) ≡ since (max e c) (before c' parts) = ap (λ w. since e w) (sym (since-before c c' parts)) ∙ since_max e c (before c' parts) in
    let three : since (max e c) (before c' parts) ≡ since (max e c) (before c' source) = by_limit e c c' to limit source in
    let same : max k c ≡ max e c = omega arith in
    let chunk_is : since e chunk ≡ since (max k c) (before c' source) = one ∙ (two ∙ (three ∙ ap (λ n. since n (before c' source)) (sym same))) in
    let whole : since k (before c source) ++ since (max k c) (before c' source) ≡ since k (before c' source) =
    ap (λ w. since k w ++ since (max k c) (before c' source)) (sym (before-before c c' source more)) ∙ since_parts k c 0 (before c' source) (RisesFrom-filter (λ s. nat_lt s.t c') 0 source rises) in
    let until : c ≤ max k (end_of source) = is.until in
    record {
      rises = RisesFrom-append d copied chunk is.rises front;
      front = since-append e copied chunk ∙ (ap (λ w. w ++ since e chunk) is.front ∙ (ap (λ w. since k (before c source) ++ w) chunk_is ∙ (whole ∙ ap (λ n. since k (before n source)) (sym end))));
      fits = all_append (Fits limbo) copied chunk is.fits (all_front (Fits limbo) chunk later (subst (λ w. AllByRecursion (Fits limbo) w) left (fits_filter limbo y)));
      until = omega arith;
    }
  where
    by_limit : (e c c' to : ℕ) → c' ≤ max c to → (source : List Sample) → since (max e c) (before c' (before to source)) ≡ since (max e c) (before c' source)
    by_limit e c c' to limit source = by_test (nat_le c' to) refl
      where
        by_test : (b : Bool) → nat_le c' to ≡ b → since (max e c) (before c' (before to source)) ≡ since (max e c) (before c' source)
        by_test true is = let h : c' ≤ to = grind (arith, nat_tests) in ap (λ w. since (max e c) w) (before-before c' to source h)
        by_test false is = let h : to < c' = grind (arith, nat_tests) in window_empty (max e c) c' (before to source) (omega arith) ∙ sym (window_empty (max e c) c' source (omega arith))
