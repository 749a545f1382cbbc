-- What a merge has yet to give, over lists: step by step, and of what is left closed.
use Rattle.std.proofs.Common.{◌≡◌, ℕ, ◌+◌, ◌<◌, ◌≤◌, List, [], ◌∷◌, ◌++◌, refl, ap, sym, ◌∙◌, subst, arith, append_assoc}
use Rattle.std.specs.List.{AllByRecursion, flat_map}
use Rattle.std.proofs.lemmas.Bool.Decides.{nat_tests}
use Rattle.series_model.specs.declared.sample.Sample.{Sample}
use Rattle.series_model.specs.declared.sample.Query.{Query}
use Rattle.series_model.specs.Series.{end_of, RisesFrom, IsRising, before, over, taken, taken_from}
use Rattle.series_model.specs.Retrieval.{answer}
use Rattle.series_model.proofs.RisingLists.{RisesFrom-taken_from, RisesFrom-lower, taken_over, taken_from-append}
use Rattle.series_model.proofs.AnswerLemmas.{answer_of_rest, answer_of_front, before_none}
use Rattle.series_model.proofs.OverLemmas.{over_rising}
use Rattle.pb_wire.specs.declared.payload.PayloadType.{PayloadType}
use Rattle.stream_merge.specs.Pieces.{NamedBytes}
use Rattle.stream_merge.specs.Reading.{AreReadAs}
use Rattle.stream_merge.specs.Over.{over_each, over_all}

-- THE WHOLE

abbrev pub flat : List (List Sample) → List Sample
flat lists = flat_map (λ (l : List Sample). l) lists

all_rise : (ty : PayloadType) (ps : List NamedBytes) (lists : List (List Sample)) → AreReadAs ty ps lists → AllByRecursion IsRising lists
all_rise ty [] [] are = tt
all_rise ty [] (xs ∷ lists) are = absurd are
all_rise ty (p ∷ ps) [] are = absurd are
all_rise ty (p ∷ ps) (xs ∷ lists) are = (are.0.file.rising, all_rise ty ps lists are.1)

over_flat : (lists : List (List Sample)) (a b tail : List Sample) → IsRising b → b ≡ taken a → AllByRecursion IsRising lists → IsRising tail → taken (a ++ (flat lists ++ tail)) ≡ over (over_each b lists) tail
over_flat [] a b tail rises is all last = taken_over a tail last ∙ ap (λ (x : List Sample). over x tail) (sym is)
over_flat (p ∷ ps) a b tail rises is all last =
    let next : over b p ≡ taken (a ++ p) = ap (λ (x : List Sample). over x p) is ∙ sym (taken_over a p all.0) in
    let there : a ++ ((p ++ flat ps) ++ tail) ≡ (a ++ p) ++ (flat ps ++ tail) = ap (λ (x : List Sample). a ++ x) (append_assoc p (flat ps) tail) ∙ sym (append_assoc a p (flat ps ++ tail)) in
    ap taken there ∙ over_flat ps (a ++ p) (over b p) tail (over_rising b p rises all.0) next all.1 last

pub whole : (ty : PayloadType) (ps : List NamedBytes) (lists : List (List Sample)) (tail : List Sample) (q : Query) → AreReadAs ty ps lists → IsRising tail → answer (over_all lists tail) q ≡ answer (taken (flat lists ++ tail)) q
whole ty ps lists tail q are last = ap (λ (x : List Sample). answer x q) (sym (over_flat lists [] [] tail tt refl (all_rise ty ps lists are) last))

-- ONE STEP

-- a sample of the interval comes first
pub first_within : (q : Query) (s : Sample) (n : ℕ) (xs : List Sample) → RisesFrom n xs → s.t < n → q.from ≤ s.t → s.t ≤ q.to → answer (s ∷ xs) q ≡ s ∷ answer xs q
first_within q s n xs rises low from to =
    let none : before q.from xs ≡ [] = before_none q.from n xs rises (omega arith) in
    grind (arith, nat_tests)

-- one that is later ends the answer
pub none_left : (q : Query) (s : Sample) (n : ℕ) (xs : List Sample) → RisesFrom n xs → s.t < n → q.from ≤ s.t → q.to < s.t → answer (s ∷ xs) q ≡ []
none_left q s n xs rises low from to = answer_of_front [] (s ∷ xs) q s.t (omega arith, RisesFrom-lower (s.t + 1) n xs rises (omega arith)) to from

-- one that is earlier comes first where none is that isn't later
pub first_held : (q : Query) (h : Sample) (n : ℕ) (xs : List Sample) → RisesFrom n xs → q.from ≤ n → h.t < q.from → answer (h ∷ xs) q ≡ h ∷ answer xs q
first_held q h n xs rises from early =
    let none : before q.from xs ≡ [] = before_none q.from n xs rises from in
    grind (arith, nat_tests)

-- the next sample is taken, or not
pub takes : (n : ℕ) (s : Sample) (xs : List Sample) → n ≤ s.t → taken_from n (s ∷ xs) ≡ s ∷ taken_from (s.t + 1) xs
takes n s xs low = grind (arith, nat_tests)

pub drops : (n : ℕ) (s : Sample) (xs : List Sample) → s.t < n → taken_from n (s ∷ xs) ≡ taken_from n xs
drops n s xs low = grind (arith, nat_tests)

-- WHAT MAY STAY CLOSED

pub cut : (closed opened : List Sample) (q : Query) (x : Sample) (xs : List Sample) → opened ≡ x ∷ xs → end_of (taken closed) ≤ x.t → x.t < q.from → answer (taken (closed ++ opened)) q ≡ answer (taken opened) q
cut closed opened q x xs is later early =
    let n = end_of (taken closed) in
    let all : taken (closed ++ opened) ≡ taken closed ++ (x ∷ taken_from (x.t + 1) xs) = taken_from-append 0 closed opened ∙ ap (λ (ys : List Sample). taken closed ++ taken_from n ys) is ∙ ap (λ (ys : List Sample). taken closed ++ ys) (takes n x xs later) in
    let own : taken opened ≡ x ∷ taken_from (x.t + 1) xs = ap taken is ∙ takes 0 x xs (omega arith) in
    let rises : IsRising (taken closed ++ (x ∷ taken_from (x.t + 1) xs)) = subst IsRising all (RisesFrom-taken_from 0 (closed ++ opened)) in
    let some : before q.from (x ∷ taken_from (x.t + 1) xs) ≡ x ∷ before q.from (taken_from (x.t + 1) xs) = grind (arith, nat_tests) in
    ap (λ (ys : List Sample). answer ys q) all ∙ answer_of_rest (taken closed) (x ∷ taken_from (x.t + 1) xs) q x (before q.from (taken_from (x.t + 1) xs)) rises some ∙ ap (λ (ys : List Sample). answer ys q) (sym own)

-- of two that are earlier the last comes
pub more_earlier : (q : Query) (h s : Sample) (xs : List Sample) → h.t < q.from → s.t < q.from → answer (h ∷ s ∷ xs) q ≡ answer (s ∷ xs) q
more_earlier q h s xs one two = grind (arith, nat_tests)
