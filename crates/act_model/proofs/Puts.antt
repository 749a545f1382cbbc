-- What is put behind a store's list.
use Rattle.std.proofs.Common.{◌≡◌, ℕ, ◌+◌, ◌<◌, ◌≤◌, List, [], ◌∷◌, ◌++◌, Bool, true, false, cond, refl, ap, sym, ◌∙◌, arith, append_assoc, append-nil}
use Rattle.std.proofs.lemmas.Bool.Decides.{nat_tests}
use Rattle.std.proofs.lemmas.List.Elements.{filter-append}
use Rattle.std.specs.Prelude.{nat_le, nat_lt}
use Rattle.std.specs.List.{AllByRecursion}
use Rattle.series_model.specs.declared.sample.Sample.{Sample}
use Rattle.series_model.specs.Series.{end_from, end_of, RisesFrom, IsRising, since, before}
use Rattle.series_model.proofs.RisingLists.{end_from-append, end_from-ge, RisesFrom-append, RisesFrom-lower, since-append, since_none}
use Rattle.partition_names.specs.declared.part.Part.{Part}
use Rattle.act_model.specs.Rows.{window, holds, is_empty}
use Rattle.act_model.specs.Limbo.{RowFile, revived, put, Covered, IsOfPart, Fits}

pub before-append : (n : ℕ) (xs ys : List Sample) → before n (xs ++ ys) ≡ before n xs ++ before n ys
before-append n xs ys = filter-append (λ s. nat_lt s.t n) xs ys

pub window-append : (part : Part) (xs ys : List Sample) → window part (xs ++ ys) ≡ window part xs ++ window part ys
window-append part xs ys = ap (λ w. since part.start w) (before-append part.end xs ys) ∙ since-append part.start (before part.end xs) (before part.end ys)

-- without limbo it is what stands behind
pub put_plain : (xs listed : List Sample) → put xs [] listed ≡ listed ++ xs
put_plain [] listed = sym (append-nil listed)
put_plain (s ∷ rest) listed = put_plain rest (listed ++ s ∷ []) ∙ append_assoc listed (s ∷ []) rest

revived-since : (n : ℕ) (limbo : List RowFile) (listed : List Sample) (s : Sample) → Covered n limbo → since n (revived limbo listed s) ≡ []
revived-since n [] listed s low = refl
revived-since n (f ∷ rest) listed s low = by_test (holds f.part s.t) (is_empty (window f.part listed)) (revived-since n rest listed s low.1)
  where
    by_test : (b c : Bool) → since n (revived rest listed s) ≡ [] → since n (cond b (cond c f.samples []) (revived rest listed s)) ≡ []
    by_test true true more = since_none n 0 f.samples low.0.0 low.0.1
    by_test true false more = refl
    by_test false c more = more

-- what limbo gives back lies before what covers it
pub put-since : (xs : List Sample) (n : ℕ) (limbo : List RowFile) (listed : List Sample) → Covered n limbo → since n (put xs limbo listed) ≡ since n listed ++ since n xs
put-since [] n limbo listed low = sym (append-nil (since n listed))
put-since (s ∷ rest) n limbo listed low =
    let back = revived limbo listed s in
    let one : since n (listed ++ (back ++ s ∷ [])) ≡ since n listed ++ since n (s ∷ []) =
    since-append n listed (back ++ s ∷ []) ∙ ap (λ w. since n listed ++ w) (since-append n back (s ∷ []) ∙ ap (λ w. w ++ since n (s ∷ [])) (revived-since n limbo listed s low)) in
    put-since rest n limbo (listed ++ (back ++ s ∷ [])) low
    ∙ (ap (λ w. w ++ since n rest) one ∙ (append_assoc (since n listed) (since n (s ∷ [])) (since n rest) ∙ ap (λ w. since n listed ++ w) (sym (since-append n (s ∷ []) rest))))

-- nothing is listed of a partition: what is listed ends before it or behind it
window_none : (n : ℕ) (xs : List Sample) (part : Part) → RisesFrom n xs → n ≤ part.start → is_empty (window part xs) ≡ true → end_from n xs < part.end → end_from n xs ≤ part.start
window_none n [] part rises low none late = low
window_none n (x ∷ xs) part rises low none late = by_test (nat_lt x.t part.end) refl (nat_le part.start x.t) refl (λ first rest. window_none (x.t + 1) xs part rises.1 first rest late)
  where
    by_test : (b : Bool) → nat_lt x.t part.end ≡ b → (c : Bool) → nat_le part.start x.t ≡ c → (x.t + 1 ≤ part.start → is_empty (window part xs) ≡ true → end_from (x.t + 1) xs ≤ part.start) → end_from (x.t + 1) xs ≤ part.start
    by_test true is true is' more = absurd (let bad = rw (is, is') at none in cc)
    by_test true is false is' more = let early : x.t < part.start = grind (arith, nat_tests) in more (omega arith) (let rest = rw (is, is') at none in rest)
    by_test false is c is' more = let beyond : part.end ≤ x.t = grind (arith, nat_tests) in let up = end_from-ge (x.t + 1) xs rises.1 in absurd (omega arith)

pub end_from-mono : (m n : ℕ) (xs : List Sample) → m ≤ n → end_from m xs ≤ end_from n xs
end_from-mono m n [] h = h
end_from-mono m n (x ∷ xs) h = omega arith

revived_rises : (limbo : List RowFile) (listed : List Sample) (s : Sample) → IsRising listed → end_of listed ≤ s.t → AllByRecursion IsOfPart limbo → Fits limbo s → RisesFrom (end_of listed) (revived limbo listed s ++ s ∷ [])
revived_rises [] listed s rises late parts fits = (late, tt)
revived_rises (f ∷ rest) listed s rises late parts fits = by_test (holds f.part s.t) refl (is_empty (window f.part listed)) refl (revived_rises rest listed s rises late parts.1 fits.1)
  where
    by_test : (b : Bool) → holds f.part s.t ≡ b → (c : Bool) → is_empty (window f.part listed) ≡ c → RisesFrom (end_of listed) (revived rest listed s ++ s ∷ []) → RisesFrom (end_of listed) (cond b (cond c f.samples []) (revived rest listed s) ++ s ∷ [])
    by_test true is true none more =
        let inside : s.t < f.part.end = grind (arith, nat_tests) in
        let low : end_of listed ≤ f.part.start = window_none 0 listed f.part rises (omega arith) none (omega arith) in
        let up : end_from (end_of listed) f.samples ≤ end_from f.part.start f.samples = end_from-mono (end_of listed) f.part.start f.samples low in
        let last : end_from f.part.start f.samples ≤ s.t = fits.0 is in
        RisesFrom-append (end_of listed) f.samples (s ∷ []) (RisesFrom-lower (end_of listed) f.part.start f.samples parts.0.from low) (omega arith, tt)
    by_test true is false none more = (late, tt)
    by_test false is c none more = more

pub put_rises : (xs : List Sample) (limbo : List RowFile) (listed : List Sample) → IsRising listed → RisesFrom (end_of listed) xs → AllByRecursion IsOfPart limbo → AllByRecursion (Fits limbo) xs
    → IsRising (put xs limbo listed) × (end_of (put xs limbo listed) ≡ end_from (end_of listed) xs)
put_rises [] limbo listed rises later parts fits = (rises, refl)
put_rises (s ∷ rest) limbo listed rises later parts fits =
    let back = revived limbo listed s in
    let one : RisesFrom (end_of listed) (back ++ s ∷ []) = revived_rises limbo listed s rises later.0 parts fits.0 in
    let now = listed ++ (back ++ s ∷ []) in
    let ends : end_of now ≡ s.t + 1 = end_from-append 0 listed (back ++ s ∷ []) ∙ end_from-append (end_of listed) back (s ∷ []) in
    let more = put_rises rest limbo now (RisesFrom-append 0 listed (back ++ s ∷ []) rises one) (rw ends later.1) parts fits.1 in
    (more.0, more.1 ∙ ap (λ n. end_from n rest) ends)

-- WINDOWS

pub since-before : (n m : ℕ) (xs : List Sample) → since n (before m xs) ≡ before m (since n xs)
since-before n m [] = refl
since-before n m (x ∷ xs) = by_tests (nat_lt x.t m) refl (nat_le n x.t) refl (since-before n m xs)
  where
    by_tests : (b : Bool) → nat_lt x.t m ≡ b → (c : Bool) → nat_le n x.t ≡ c → since n (before m xs) ≡ before m (since n xs) → since n (cond b (x ∷ before m xs) (before m xs)) ≡ before m (cond c (x ∷ since n xs) (since n xs))
    by_tests true is true is' more = rw (is, is') (ap (λ w. x ∷ w) more)
    by_tests true is false is' more = rw is' more
    by_tests false is true is' more = rw is more
    by_tests false is false is' more = more

pub before-before : (n m : ℕ) (xs : List Sample) → n ≤ m → before n (before m xs) ≡ before n xs
before-before n m [] low = refl
before-before n m (x ∷ xs) low = by_tests (nat_lt x.t m) refl (nat_lt x.t n) refl (before-before n m xs low)
  where
    by_tests : (b : Bool) → nat_lt x.t m ≡ b → (c : Bool) → nat_lt x.t n ≡ c → before n (before m xs) ≡ before n xs → before n (cond b (x ∷ before m xs) (before m xs)) ≡ cond c (x ∷ before n xs) (before n xs)
    by_tests true is true is' more = rw is' (ap (λ w. x ∷ w) more)
    by_tests true is false is' more = rw is' more
    by_tests false is true is' more = absurd (grind (arith, nat_tests))
    by_tests false is false is' more = more
