-- Lists that are made from a function of the place.
use Rattle.std.proofs.Common.{◌≡◌, ℕ, zero, suc, ◌+◌, ◌<◌, ◌≤◌, [], ◌∷◌, ◌++◌, map, arith, ap, ◌∙◌}
use Rattle.std.specs.List.{range_with_len, AllByRecursion}
use Rattle.std.proofs.lemmas.List.FromFn.{map-range_with_len_more}
use Rattle.series_model.specs.declared.sample.Sample.{Sample}
use Rattle.series_model.specs.Series.{RisesFrom}
use Rattle.pb_lines.specs.File.{lines_of}
use Rattle.pb_lines.proofs.FileLines.{lines_of-append}

-- what holds at each place holds of each element
pub each_of_range : {X : Type 0} (P : X → Type 0) (f : ℕ → X) (a n : ℕ) → ((i : ℕ) → a ≤ i → i < a + n → P (f i)) → AllByRecursion P (map f (range_with_len a n))
each_of_range P f a zero each = tt
each_of_range P f a (suc n) each = (each a (omega arith) (omega arith), each_of_range P f (a + 1) n (λ i low high. each i (omega arith) (omega arith)))

-- where each moment is later than the one before, all rise
pub range_rises : (f : ℕ → Sample) (a n m : ℕ) → m ≤ (f a).t → ((i : ℕ) → (f i).t < (f (i + 1)).t) → RisesFrom m (map f (range_with_len a n))
range_rises f a zero m low later = tt
range_rises f a (suc n) m low later = (low, range_rises f (a + 1) n ((f a).t + 1) (omega (arith, later a)) later)

-- one more line
pub lines_more : (f : ℕ → Sample) (n : ℕ) → lines_of (map f (range_with_len 0 (n + 1))) ≡ lines_of (map f (range_with_len 0 n)) ++ ((f n).line ++ 10 ∷ [])
lines_more f n = ap lines_of (map-range_with_len_more f 0 n n (omega arith)) ∙ lines_of-append (map f (range_with_len 0 n)) (f n ∷ [])
