-- Where moments rise strictly, a bin is exactly all samples of its number.
use Rattle.std.proofs.Common.{◌≡◌, ℕ, zero, suc, ◌+◌, ◌/◌, ◌<◌, ◌≤◌, ◌==◌, Bool, true, false, cond, List, [], ◌∷◌, length, map, slice_index, add-one, refl, sym, ap, subst, ◌∙◌, arith}
use Rattle.std.specs.Prelude.{All}
use Rattle.std.proofs.Math.Nat.{le-div_iff_mul-le, div-mul-le_self, le_trans}
use Rattle.std.proofs.lemmas.Bool.{eqb-true, eqb-false, eq-eqb, ne_eqb}
use Rattle.std.proofs.lemmas.List.Elements.{All-cons, All-nil}
use Rattle.series_model.specs.declared.sample.Sample.{Sample}
use Rattle.series_model.specs.Series.{RisesFrom}
use Rattle.series_model.proofs.RisingLists.{RisesFrom-lower}
use Rattle.sample_bins.specs.Bins.{Bin, bin_of, bins, samples_in, same_bin, other_bins}
use Rattle.sample_bins.specs.Laws.{number_of, numbered, BinsAreWhole, NumbersRise}

-- A number of samples in a bin, and a later sample's isn't less.

div_rises : (w a b : ℕ) → a ≤ b → a / w ≤ b / w
div_rises zero a b h = omega arith
div_rises (suc w) a b h = (le-div_iff_mul-le {k = suc w} (omega arith)).1 (le_trans (div-mul-le_self a (suc w)) h)

pub number_rises : (width a b : ℕ) → a ≤ b → bin_of width a ≤ bin_of width b
number_rises width a b h = div_rises width (a / 1_000_000_000) (b / 1_000_000_000) (div_rises 1_000_000_000 a b h)

-- the numbers of bins rise strictly, and none is below n
abbrev pub BinsRise : ℕ → ℕ → List Bin → Type 0
BinsRise width n [] = Unit {0}
BinsRise width n (b ∷ bs) = (n ≤ number_of width b.first) × BinsRise width (number_of width b.first + 1) bs

BinsRise-others : (width n : ℕ) (bs : List Bin) → BinsRise width n bs → BinsRise width (n + 1) (other_bins width n bs)
BinsRise-others width n [] rise = tt
BinsRise-others width n (b ∷ bs) rise = by_test (n == number_of width b.first) refl
  where
    by_test : (v : Bool) → (n == number_of width b.first) ≡ v → BinsRise width (n + 1) (cond v bs (b ∷ bs))
    by_test true is = subst (λ (k : ℕ). BinsRise width (k + 1) bs) (sym (eqb-true n (number_of width b.first) is)) rise.1
    by_test false is =
        let other : n ≡ number_of width b.first → ⊥ = eqb-false n (number_of width b.first) is in
        let above : n ≤ number_of width b.first = rise.0 in
        (omega arith, rise.1)

pub bins_rise : (width m : ℕ) (l : List Sample) → RisesFrom m l → BinsRise width (bin_of width m) (bins width l)
bins_rise width m [] rises = tt
bins_rise width m (s ∷ rest) rises =
    let later : bin_of width s.t ≤ bin_of width (s.t + 1) = number_rises width s.t (s.t + 1) (omega arith) in
    (number_rises width m s.t rises.0, BinsRise-others width (number_of width s) (bins width rest) (BinsRise-lower width (number_of width s) (bin_of width (s.t + 1)) (bins width rest) later (bins_rise width (s.t + 1) rest rises.1)))
  where
    BinsRise-lower : (width m n : ℕ) (bs : List Bin) → m ≤ n → BinsRise width n bs → BinsRise width m bs
    BinsRise-lower width m n [] below rise = tt
    BinsRise-lower width m n (b ∷ bs) below rise = let first : n ≤ number_of width b.first = rise.0 in (omega arith, rise.1)

-- ALL OF A NUMBER

-- no sample from a moment on has a number below that moment's
none_numbered : (width n m : ℕ) (l : List Sample) → RisesFrom m l → n < bin_of width m → numbered width n l ≡ []
none_numbered width n m [] rises below = refl
none_numbered width n m (s ∷ rest) rises below =
    let here : bin_of width m ≤ number_of width s = number_rises width m s.t rises.0 in
    let more : bin_of width s.t ≤ bin_of width (s.t + 1) = number_rises width s.t (s.t + 1) (omega arith) in
    let other : (n == number_of width s) ≡ false = ne_eqb n (number_of width s) (λ (same : n ≡ number_of width s). omega arith) in
    ap (λ (v : Bool). cond v (s ∷ numbered width n rest) (numbered width n rest)) other ∙ none_numbered width n (s.t + 1) rest rises.1 (omega arith)

-- what holds of each bin, by recursion
abbrev pub EachWhole : ℕ → List Sample → List Bin → Type 0
EachWhole width l [] = Unit {0}
EachWhole width l (b ∷ bs) = (samples_in b ≡ numbered width (number_of width b.first) l) × EachWhole width l bs

-- with a sample before them, bins of greater numbers stay whole
EachWhole-more : (width n : ℕ) (s : Sample) (l : List Sample) (bs : List Bin) → number_of width s < n → BinsRise width n bs → EachWhole width l bs → EachWhole width (s ∷ l) bs
EachWhole-more width n s l [] below rise whole = tt
EachWhole-more width n s l (b ∷ bs) below rise whole =
    let number : ℕ = number_of width b.first in
    let above : n ≤ number_of width b.first = rise.0 in
    let other : (number == number_of width s) ≡ false = ne_eqb (number_of width b.first) (number_of width s) (λ (same : number_of width b.first ≡ number_of width s). omega arith) in (
      whole.0 ∙ ap (λ (v : Bool). cond v (s ∷ numbered width number l) (numbered width number l)) (sym other),
      EachWhole-more width (number_of width b.first + 1) s l bs (omega arith) rise.1 whole.1,
    )

EachWhole-others : (width n : ℕ) (l : List Sample) (bs : List Bin) → EachWhole width l bs → EachWhole width l (other_bins width n bs)
EachWhole-others width n l [] whole = tt
EachWhole-others width n l (b ∷ bs) whole = by_test (n == number_of width b.first)
  where
    by_test : (v : Bool) → EachWhole width l (cond v bs (b ∷ bs))
    by_test true = whole.1
    by_test false = whole

-- what joins the bin of a sample is all of its number that follows
joins : (width m : ℕ) (l : List Sample) → RisesFrom m l → EachWhole width l (bins width l) → same_bin width (bin_of width m) (bins width l) ≡ numbered width (bin_of width m) l
joins width m [] rises whole = refl
joins width m (s ∷ rest) rises whole = by_test (bin_of width m == number_of width s) refl
  where
    by_test : (v : Bool) → (bin_of width m == number_of width s) ≡ v
        → cond v (s ∷ same_bin width (number_of width s) (bins width rest)) [] ≡ cond v (s ∷ numbered width (bin_of width m) rest) (numbered width (bin_of width m) rest)
    by_test true is = whole.0 ∙ sym (ap (λ (n : ℕ). numbered width n (s ∷ rest)) (eqb-true (bin_of width m) (number_of width s) is)) ∙ ap (λ (v : Bool). cond v (s ∷ numbered width (bin_of width m) rest) (numbered width (bin_of width m) rest)) is
    by_test false is =
        let differ : bin_of width m ≡ number_of width s → ⊥ = eqb-false (bin_of width m) (number_of width s) is in
        let here : bin_of width m ≤ number_of width s = number_rises width m s.t rises.0 in
        let more : bin_of width s.t ≤ bin_of width (s.t + 1) = number_rises width s.t (s.t + 1) (omega arith) in
        sym (none_numbered width (bin_of width m) (s.t + 1) rest rises.1 (omega arith))

pub each_whole : (width m : ℕ) (l : List Sample) → RisesFrom m l → EachWhole width l (bins width l)
each_whole width m [] rises = tt
each_whole width m (s ∷ rest) rises =
    let number : ℕ = number_of width s in
    let whole : EachWhole width rest (bins width rest) = each_whole width (s.t + 1) rest rises.1 in
    let from_here : RisesFrom s.t rest = RisesFrom-lower s.t (s.t + 1) rest rises.1 (omega arith) in
    let itself : (number == number) ≡ true = eq-eqb number number refl in (
      ap (λ (xs : List Sample). s ∷ xs) (joins width s.t rest from_here whole) ∙ ap (λ (v : Bool). cond v (s ∷ numbered width number rest) (numbered width number rest)) (sym itself),
      EachWhole-more width (number + 1) s rest (other_bins width number (bins width rest)) (omega arith) (BinsRise-others width number (bins width rest) (bins_rise width s.t rest from_here)) (EachWhole-others width number rest (bins width rest) whole),
    )

-- each bin of the list is whole
each_of : (width : ℕ) (l : List Sample) (bs : List Bin) → EachWhole width l bs → All (λ b. samples_in b ≡ numbered width (number_of width b.first) l) bs
each_of width l [] whole = All-nil (λ b. samples_in b ≡ numbered width (number_of width b.first) l)
each_of width l (b ∷ bs) whole = All-cons (λ b. samples_in b ≡ numbered width (number_of width b.first) l) b bs whole.0 (each_of width l bs whole.1)

pub bins_are_whole : BinsAreWhole
bins_are_whole width l rises = each_of width l (bins width l) (each_whole width 0 l rises)

-- NUMBERS

rising_at : (width n : ℕ) (bs : List Bin) → BinsRise width n bs → (k : ℕ) → suc k < length (map (λ (b : Bin). number_of width b.first) bs)
    → slice_index (map (λ (b : Bin). number_of width b.first) bs) k < slice_index (map (λ (b : Bin). number_of width b.first) bs) (suc k)
rising_at width n [] rise k below = absurd (omega arith)
rising_at width n (b ∷ []) rise k below = absurd (omega arith)
rising_at width n (b ∷ (next ∷ bs)) rise zero below = let above : number_of width b.first + 1 ≤ number_of width next.first = rise.1.0 in omega arith
rising_at width n (b ∷ (next ∷ bs)) rise (suc k) below = rising_at width (number_of width b.first + 1) (next ∷ bs) rise.1 k (omega arith)

pub numbers_rise : NumbersRise
numbers_rise width l rises k below =
    let numbers : List ℕ = map (λ (b : Bin). number_of width b.first) (bins width l) in
    subst (λ (j : ℕ). slice_index numbers k < slice_index numbers j) (sym (add-one k)) (rising_at width (bin_of width 0) (bins width l) (bins_rise width 0 l rises) k (omega arith))
