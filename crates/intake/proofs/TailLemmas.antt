-- Tails and their bytes, as one of them changes.
use Rattle.std.proofs.Common.{◌≡◌, ℕ, ◌+◌, ◌^◌, ◌<◌, ◌≤◌, List, [], ◌∷◌, ◌++◌, length, get_or, set, zero, suc, Bool, true, false, cond, refl, ap, ◌∙◌, arith}
use Rattle.std.specs.Prelude.{filter, nat_le, nat_lt}
use Rattle.std.proofs.lemmas.Bool.Decides.{nat_tests}
use Rattle.std.proofs.lemmas.List.{get_or_default, length-set}
use Rattle.std.proofs.lemmas.List.Elements.{filter_agree}
use Rattle.series_model.specs.declared.sample.Sample.{Sample}
use Rattle.series_model.specs.Series.{since}
use Rattle.intake.specs.Tails.{TailState, IsIntake, no_tail, tail_at, size_of, held_bytes}

-- BYTES

pub size_of-append : (xs ys : List Sample) → size_of (xs ++ ys) ≡ size_of xs + size_of ys
size_of-append [] ys = omega arith
size_of-append (x ∷ xs) ys = let more = size_of-append xs ys in omega arith

pub size_of-filter-le : (p : Sample → Bool) (xs : List Sample) → size_of (filter p xs) ≤ size_of xs
size_of-filter-le p [] = omega arith
size_of-filter-le p (x ∷ xs) = by_first (p x) (size_of-filter-le p xs)
  where
    by_first : (b : Bool) → size_of (filter p xs) ≤ size_of xs → size_of (cond b (x ∷ filter p xs) (filter p xs)) ≤ length x.line + 1 + size_of xs
    by_first true more = omega arith
    by_first false more = omega arith

pub size_of-le-held : (tails : List TailState) (row : ℕ) → size_of (tail_at tails row).samples ≤ held_bytes tails
size_of-le-held [] zero = omega arith
size_of-le-held [] (suc row) = omega arith
size_of-le-held (tail ∷ tails) zero = omega arith
size_of-le-held (tail ∷ tails) (suc row) = let more = size_of-le-held tails row in omega arith

pub held_bytes-set : (tails : List TailState) (row : ℕ) (tail : TailState) → row < length tails → held_bytes (set tails row tail) + size_of (tail_at tails row).samples ≡ held_bytes tails + size_of tail.samples
held_bytes-set [] row tail within = absurd (omega arith)
held_bytes-set (first ∷ tails) zero tail within = omega arith
held_bytes-set (first ∷ tails) (suc row) tail within = let more = held_bytes-set tails row tail (omega arith) in omega arith

-- A TAIL OF NOTHING AT THE END

pub tail_at-new : (tails : List TailState) (row : ℕ) → tail_at (tails ++ no_tail ∷ []) row ≡ tail_at tails row
tail_at-new [] zero = refl
tail_at-new [] (suc row) = refl
tail_at-new (tail ∷ tails) zero = refl
tail_at-new (tail ∷ tails) (suc row) = tail_at-new tails row

pub held_bytes-new : (tails : List TailState) → held_bytes (tails ++ no_tail ∷ []) ≡ held_bytes tails
held_bytes-new [] = refl
held_bytes-new (tail ∷ tails) = let more = held_bytes-new tails in omega arith

-- ONE TAIL IN PLACE OF ANOTHER

-- what a tail is that was read
pub read_at : (tails : List TailState) (row : ℕ) (old : TailState) → row < length tails → old ≡ get_or tails row old → old ≡ tail_at tails row
read_at tails row old within is = is ∙ get_or_default tails row old no_tail within

pub size_of-read-le : (tails : List TailState) (row : ℕ) (old : TailState) → row < length tails → old ≡ get_or tails row old → size_of old.samples ≤ held_bytes tails
size_of-read-le tails row old within is =
    let same = ap (λ (t : TailState). size_of t.samples) (read_at tails row old within is) in
    let low = size_of-le-held tails row in
    omega arith

-- the bytes are still counted, where those of one tail are
pub intake_set : (tails : List TailState) (row : ℕ) (old new : TailState) (before after : ℕ) → length tails ≤ 2 ^ 32 → row < length tails → old ≡ get_or tails row old → before ≡ held_bytes tails
    → after + size_of old.samples ≡ before + size_of new.samples → after ≤ 67108864 → IsIntake (set tails row new) after
intake_set tails row old new before after few within is counted changed most = record {
  bytes =
      let same = ap (λ (t : TailState). size_of t.samples) (read_at tails row old within is) in
      let all = held_bytes-set tails row new within in
      omega arith;
  most = most;
  few = rw (length-set tails row new) few;
}

-- SAMPLES THAT ARE LATER

pub later_kept : (t : ℕ) (xs ys : List Sample) → ys ≡ filter (λ s. nat_lt t s.t) xs → ys ≡ since (t + 1) xs
later_kept t xs ys is = is ∙ filter_agree (λ s. nat_lt t s.t) (λ s. nat_le (t + 1) s.t) (λ s. grind (arith, nat_tests)) xs

pub later_fewer : (t : ℕ) (xs ys : List Sample) → ys ≡ filter (λ s. nat_lt t s.t) xs → size_of ys ≤ size_of xs
later_fewer t xs ys is = rw is (size_of-filter-le (λ s. nat_lt t s.t) xs)
