-- What of a piece's samples may be left out, over lists.
use Rattle.std.proofs.Common.{◌≡◌, ℕ, ◌+◌, ◌<◌, ◌≤◌, inl, inr, List, [], ◌∷◌, ◌++◌, length, refl, ap, sym, ◌∙◌, subst, arith, append_assoc}
use Rattle.std.specs.List.{AllByRecursion}
use Rattle.std.proofs.lemmas.Bool.{cases_lt}
use Rattle.std.proofs.lemmas.Bool.Decides.{nat_tests}
use Rattle.std.proofs.lemmas.List.{length-append}
use Rattle.series_model.specs.declared.sample.Sample.{Sample}
use Rattle.series_model.specs.declared.sample.Query.{Query}
use Rattle.series_model.specs.Series.{end_of, end_from, RisesFrom, IsRising, before, since, taken_from}
use Rattle.series_model.specs.Retrieval.{answer}
use Rattle.series_model.proofs.RisingLists.{RisesFrom-append, RisesFrom-lower, RisesFrom-since, RisesFrom-taken_from, end_from-append, since_all, taken_from-append}
use Rattle.series_model.proofs.AnswerLemmas.{answer_of_rest, before-append, before_none}
use Rattle.stream_merge.specs.Beginning.{early_count, IsPlaced, AnswersAs, IsFirstOrEarly}
use Rattle.stream_merge.proofs.Answering.{takes, drops}

-- SPLIT AT A MOMENT

pub split_at : (n k : ℕ) (xs : List Sample) → RisesFrom k xs → xs ≡ before n xs ++ since n xs
split_at n k [] rises = refl
split_at n k (x ∷ xs) rises =
    elim (cases_lt x.t n) [
      | inl less ↦ (let more = split_at n (x.t + 1) xs rises.1 in grind (arith, nat_tests))
      | inr late ↦
          (let none : before n xs ≡ [] = before_none n (x.t + 1) xs rises.1 (omega (arith, late)) in
          let all : since n xs ≡ xs = since_all n (x.t + 1) xs rises.1 (omega (arith, late)) in
          grind (arith, nat_tests))
    ]

pub are_before : (n : ℕ) (xs : List Sample) → AllByRecursion (λ s. s.t < n) (before n xs)
are_before n [] = tt
are_before n (x ∷ xs) =
    let P : List Sample → Type 0 = λ l. AllByRecursion (λ (s : Sample). s.t < n) l in
    elim (cases_lt x.t n) [
      | inl less ↦ (let is : x ∷ before n xs ≡ before n (x ∷ xs) = grind (arith, nat_tests) in subst P is (less, are_before n xs))
      | inr late ↦ (let is : before n xs ≡ before n (x ∷ xs) = grind (arith, nat_tests) in subst P is (are_before n xs))
    ]

pub early-append : (from : ℕ) (xs ys : List Sample) → early_count from (xs ++ ys) ≡ early_count from xs + early_count from ys
early-append from xs ys = ap length (before-append from xs ys) ∙ length-append (before from xs) (before from ys)

pub early_cons : (from : ℕ) (s : Sample) (xs : List Sample) → early_count from (s ∷ xs) ≡ early_count from (s ∷ []) + early_count from xs
early_cons from s xs = early-append from (s ∷ []) xs

pub early_one : (from : ℕ) (s : Sample) → s.t < from → early_count from (s ∷ []) ≡ 1
early_one from s less = let is : before from (s ∷ []) ≡ s ∷ [] = grind (arith, nat_tests) in ap length is

pub early_none : (from : ℕ) (s : Sample) → from ≤ s.t → early_count from (s ∷ []) ≡ 0
early_none from s late = let is : before from (s ∷ []) ≡ [] = grind (arith, nat_tests) in ap length is

pub early_least : (from : ℕ) (s : Sample) → early_count from (s ∷ []) ≤ 1
early_least from s = elim (cases_lt s.t from) [ inl less ↦ omega (arith, early_one from s less) | inr late ↦ omega (arith, early_none from s late) ]

-- behind the last one that is earlier none is
pub early_last : (from k : ℕ) (s : Sample) (xs : List Sample) → RisesFrom k xs → early_count from (s ∷ since from xs) ≤ 1
early_last from k s xs rises =
    let none : before from (since from xs) ≡ [] = before_none from from (since from xs) (RisesFrom-since k from xs rises) (omega arith) in
    omega (arith, early_cons from s (since from xs), early_least from s, ap length none)

-- WHAT IS LEFT OUT

pub taken_gone : (n : ℕ) (gone xs : List Sample) → AllByRecursion (λ s. s.t < n) gone → taken_from n (gone ++ xs) ≡ taken_from n xs
taken_gone n [] xs all = refl
taken_gone n (s ∷ gone) xs all = drops n s (gone ++ xs) all.0 ∙ taken_gone n gone xs all.1

pub gone_answers : (n : ℕ) (q : Query) (gone here more : List Sample) → AllByRecursion (λ s. s.t < n) gone → AnswersAs n q ((gone ++ here) ++ more) (here ++ more)
gone_answers n q gone here more all kept rising low = ap (λ (l : List Sample). answer (kept ++ taken_from n l) q) (append_assoc gone here more) ∙ ap (λ (l : List Sample). answer (kept ++ l) q) (taken_gone n gone (here ++ more) all)

pub answers_on : (n : ℕ) (q : Query) (xs ys zs : List Sample) → AnswersAs n q xs ys → AnswersAs n q ys zs → AnswersAs n q xs zs
answers_on n q xs ys zs one two kept rising low = one kept rising low ∙ two kept rising low

pub answers_same : (n : ℕ) (q : Query) (xs ys : List Sample) → xs ≡ ys → AnswersAs n q xs ys
answers_same n q xs ys is kept rising low = ap (λ (l : List Sample). answer (kept ++ taken_from n l) q) is

rise_ge : (k : ℕ) (xs : List Sample) (s : Sample) (more : List Sample) → RisesFrom k (xs ++ s ∷ more) → k ≤ s.t
rise_ge k [] s more rises = rises.0
rise_ge k (x ∷ xs) s more rises = omega (arith, rises.0, rise_ge (x.t + 1) xs s more rises.1)

all_below : (k n : ℕ) (xs : List Sample) (s : Sample) (more : List Sample) → RisesFrom k (xs ++ s ∷ more) → s.t ≤ n → AllByRecursion (λ x. x.t < n) xs
all_below k n [] s more rises low = tt
all_below k n (x ∷ xs) s more rises low = (omega (arith, low, rise_ge (x.t + 1) xs s more rises.1), all_below (x.t + 1) n xs s more rises.1 low)

end_low : (n m : ℕ) (xs : List Sample) → n ≤ m → AllByRecursion (λ x. x.t < m) xs → end_from n (taken_from n xs) ≤ m
end_low n m [] low all = low
end_low n m (x ∷ xs) low all =
    let E : List Sample → Type 0 = λ l. end_from n l ≤ m in
    elim (cases_lt x.t n) [
      | inl less ↦ subst E (sym (drops n x xs less)) (end_low n m xs low all.1)
      | inr late ↦ (let first : x.t < m = all.0 in subst E (sym (takes n x xs late)) (end_low (x.t + 1) m xs (omega (arith, first)) all.1))
    ]

end_more : (a b : ℕ) (xs : List Sample) → a ≤ b → end_from a xs ≤ end_from b xs
end_more a b [] low = low
end_more a b (x ∷ xs) low = omega arith

earlier_first : (from : ℕ) (s : Sample) (xs : List Sample) → s.t < from → before from (s ∷ xs) ≡ s ∷ before from xs
earlier_first from s xs less = grind (arith, nat_tests)

-- the samples before one that is earlier than the interval, of a list that rises
earlier_gone : (n : ℕ) (q : Query) (passed : List Sample) (s : Sample) (more : List Sample) → AllByRecursion (λ x. x.t < s.t) passed → s.t < q.from → n ≤ s.t → AnswersAs n q (passed ++ s ∷ more) (s ∷ more)
earlier_gone n q passed s more all less taken kept rising low =
    let t = taken_from n passed in
    let u = taken_from (s.t + 1) more in
    let end : end_from n t ≤ s.t = end_low n s.t passed taken all in
    let left : taken_from n (passed ++ s ∷ more) ≡ t ++ (s ∷ u) = taken_from-append n passed (s ∷ more) ∙ ap (λ (l : List Sample). t ++ l) (takes (end_from n t) s more end) in
    let rise_u : RisesFrom s.t (s ∷ u) = (omega arith, RisesFrom-taken_from (s.t + 1) more) in
    let rise_t : RisesFrom (end_of kept) t = RisesFrom-lower (end_of kept) n t (RisesFrom-taken_from n passed) low in
    let front : IsRising (kept ++ t) = RisesFrom-append 0 kept t rising rise_t in
    let far : end_from 0 (kept ++ t) ≤ s.t = omega (arith, end, end_from-append 0 kept t, end_more (end_of kept) n t low) in
    let whole : IsRising ((kept ++ t) ++ (s ∷ u)) = RisesFrom-append 0 (kept ++ t) (s ∷ u) front (RisesFrom-lower (end_from 0 (kept ++ t)) s.t (s ∷ u) rise_u far) in
    let short : IsRising (kept ++ (s ∷ u)) = RisesFrom-append 0 kept (s ∷ u) rising (RisesFrom-lower (end_of kept) s.t (s ∷ u) rise_u (omega (arith, low, taken))) in
    let first = earlier_first q.from s u less in
    ap (λ (l : List Sample). answer (kept ++ l) q) left
    ∙ ap (λ (l : List Sample). answer l q) (sym (append_assoc kept t (s ∷ u)))
    ∙ answer_of_rest (kept ++ t) (s ∷ u) q s (before q.from u) whole first
    ∙ sym (answer_of_rest kept (s ∷ u) q s (before q.from u) short first)
    ∙ ap (λ (l : List Sample). answer (kept ++ l) q) (sym (takes n s more taken))

-- the samples before the last one that is earlier than the interval
pub passed_answers : (n : ℕ) (q : Query) (passed here more : List Sample) → IsRising (passed ++ here) → IsFirstOrEarly q.from passed here → AnswersAs n q ((passed ++ here) ++ more) (here ++ more)
passed_answers n q passed here more rises (inl none) = answers_same n q ((passed ++ here) ++ more) (here ++ more) (ap (λ (l : List Sample). (l ++ here) ++ more) none)
passed_answers n q passed here more rises (inr e) =
    let s = e.0 in
    let h = e.1 in
    let P : List Sample → Type 0 = λ l. IsRising (passed ++ l) in
    let A : List Sample → Type 0 = λ l. AnswersAs n q ((passed ++ l) ++ more) (l ++ more) in
    let own = subst P e.2 rises in
    subst A (sym e.2) (elim (cases_lt s.t n) [
      | inl gone ↦ gone_answers n q passed (s ∷ h) more (all_below 0 n passed s h own (omega (arith, gone)))
      | inr taken ↦ answers_on n q ((passed ++ s ∷ h) ++ more) (passed ++ s ∷ (h ++ more)) (s ∷ (h ++ more)) (answers_same n q ((passed ++ s ∷ h) ++ more) (passed ++ s ∷ (h ++ more)) (append_assoc passed (s ∷ h) more)) (earlier_gone n q passed s (h ++ more) (all_below 0 s.t passed s h own (omega arith)) e.3 taken)
    ])

-- PLACED LISTS

pub placed_rest : (n from : ℕ) (s : Sample) (xs : List Sample) → IsPlaced n from (s ∷ xs) → IsPlaced n from xs × IsPlaced (s.t + 1) from xs × (n ≤ s.t)
placed_rest n from s xs placed =
    let few : early_count from xs ≤ 1 = omega (arith, early_cons from s xs, placed.1) in
    let first : n ≤ s.t = placed.0.0 in
    ((RisesFrom-lower n (s.t + 1) xs placed.0.1 (omega (arith, first)), few), (placed.0.1, few), first)

pub placed_none : (n from : ℕ) → IsPlaced n from []
placed_none n from = (tt, omega arith)
