-- Why a list that is binned sample by sample is BINS.
use Rattle.std.proofs.Common.{◌≡◌, ℕ, suc, ◌+◌, ◌*◌, ◌/◌, ◌%◌, ◌<◌, ◌==◌, Bool, true, false, not, List, [], ◌∷◌, ◌++◌, length, map, Option, Some, None, refl, sym, ap, ◌∙◌, arith}
use Rattle.std.specs.Prelude.{nat_le, if◌then◌else◌}
use Rattle.std.proofs.Math.Nat.{mod-eq_of_lt, mod-lt, mod_self, zero-mod, mul-add-mod_self_left, div-add-mod}
use Rattle.std.proofs.lemmas.Bool.{eqb-true, leb-true, leb-false}
use Rattle.series_model.specs.declared.sample.Sample.{Sample}
use Rattle.sample_bins.specs.declared.op.Op.{Op}
use Rattle.sample_bins.specs.declared.op.Op.TheVariants.{FirstSample, LastSample, Count, Nth, NCount}
use Rattle.sample_bins.specs.declared.kept.Kept.{Kept}
use Rattle.sample_bins.specs.Counts.{counted, capped, nearest_moment}
use Rattle.sample_bins.specs.Bins.{Bin, bin_of, bin_start, bins, same_bin, other_bins, samples_in, last_from, last_in, count_in, each_nth, binned, width_of}
use Rattle.sample_bins.specs.Coming.{coming, count_kept, one_more, next_position, nothing}

abbrev kept_with : Option ℕ → ℕ → Option Sample → Kept
kept_with bin count held = record { bin = bin; count = count; held = held }

abbrev first_in : Bin → Sample
first_in b = b.first

-- THE FIRST AND THE LAST

firsts : (width from bin count : ℕ) (held : Option Sample) (l : List Sample) → coming (FirstSample width) from (kept_with (Some bin) count held) l ≡ map first_in (other_bins width bin (bins width l))
firsts width from bin count held [] = refl
firsts width from bin count held (s ∷ more) =
    let here : ℕ = bin_of width s.t in
    let rest : List Bin = other_bins width here (bins width more) in
    let b : Bin = record { first = s; later = same_bin width here (bins width more) } in
    let behind = firsts width from here count held more in
    elim (bin == here) as (λ v. (if not v then s ∷ [] else []) ++ coming (FirstSample width) from (kept_with (Some here) count held) more ≡ map first_in (if v then rest else b ∷ rest)) [
      | true ↦ behind
      | false ↦ ap (λ (xs : List Sample). s ∷ xs) behind
    ]

lasts : (width from count : ℕ) (last : Sample) (l : List Sample) → coming (LastSample width) from (kept_with (Some (bin_of width last.t)) count (Some last)) l ≡ last_from last (same_bin width (bin_of width last.t) (bins width l)) ∷ map last_in (other_bins width (bin_of width last.t) (bins width l))
lasts width from count last [] = refl
lasts width from count last (s ∷ more) =
    let here : ℕ = bin_of width s.t in
    let rest : List Bin = other_bins width here (bins width more) in
    let b : Bin = record { first = s; later = same_bin width here (bins width more) } in
    let behind = lasts width from count s more in
    elim (bin_of width last.t == here)
    as (λ v. (if not v then last ∷ [] else []) ++ coming (LastSample width) from (kept_with (Some here) count (Some s)) more ≡ last_from last (if v then samples_in b else []) ∷ map last_in (if v then rest else b ∷ rest)) [
      | true ↦ behind
      | false ↦ ap (λ (xs : List Sample). last ∷ xs) behind
    ]

-- COUNTS

capped_more : (k : ℕ) → one_more (capped k) ≡ capped (k + 1)
capped_more k = omega arith

-- the count of a bin that begins with a sample, and those of the bins behind it
abbrev counted_from : ℕ → Sample → ℕ → List Bin → List Sample
counted_from width s n rest = counted (bin_start width (bin_of width s.t)) (capped n) ∷ map (count_in width) rest

count_step : (width bin k : ℕ) (s : Sample) (joined : List Sample) (rest : List Bin) (comes : ℕ → List Sample)
    → comes (capped (k + 1)) ≡ counted_from width s (k + 1 + length joined) rest → comes (capped 1) ≡ counted_from width s (1 + length joined) rest → (v : Bool) → (bin == bin_of width s.t) ≡ v
    → (if not v then counted (bin_start width bin) (capped k) ∷ [] else []) ++ comes (count_kept (not v) (capped k))
    ≡ counted (bin_start width bin) (capped (k + length (if v then s ∷ joined else []))) ∷ map (count_in width) (if v then rest else record { first = s; later = joined } ∷ rest)
count_step width bin k s joined rest comes on anew true is =
    let number : k + 1 + length joined ≡ k + suc (length joined) = omega arith in
    ap comes (capped_more k) ∙ on ∙ ap (λ (n : ℕ). counted_from width s n rest) number ∙ ap (λ (n : ℕ). counted (bin_start width n) (capped (k + suc (length joined))) ∷ map (count_in width) rest) (sym (eqb-true bin (bin_of width s.t) is))
count_step width bin k s joined rest comes on anew false is =
    let none : k ≡ k + 0 = omega arith in
    let number : 1 + length joined ≡ suc (length joined) = omega arith in
    ap (λ (xs : List Sample). counted (bin_start width bin) (capped k) ∷ xs) (anew ∙ ap (λ (n : ℕ). counted_from width s n rest) number)
    ∙ ap (λ (n : ℕ). counted (bin_start width bin) (capped n) ∷ counted_from width s (suc (length joined)) rest) none

counts : (width from bin k : ℕ) (held : Option Sample) (l : List Sample) → coming (Count width) from (kept_with (Some bin) (capped k) held) l ≡ counted (bin_start width bin) (capped (k + length (same_bin width bin (bins width l)))) ∷ map (count_in width) (other_bins width bin (bins width l))
counts width from bin k held [] =
    let none : k ≡ k + 0 = omega arith in
    ap (λ (n : ℕ). counted (bin_start width bin) (capped n) ∷ []) none
counts width from bin k held (s ∷ more) =
    let here : ℕ = bin_of width s.t in
    count_step width bin k s (same_bin width here (bins width more)) (other_bins width here (bins width more)) (λ (n : ℕ). coming (Count width) from (kept_with (Some here) n held) more)
    (counts width from here (k + 1) held more) (counts width from here 1 held more) (bin == here) refl

-- POSITIONS

next_mod : (n i : ℕ) → 0 < n → next_position n (i % n) ≡ (i + 1) % n
next_mod n i some =
    let cut : n * (i / n) + (i % n + 1) ≡ i + 1 = omega (arith, div-add-mod i n) in
    let same : (i + 1) % n ≡ (i % n + 1) % n = ap (λ (k : ℕ). k % n) (sym cut) ∙ mul-add-mod_self_left n (i / n) (i % n + 1) in
    by_test (nat_le n (i % n + 1)) refl same
  where
    by_test : (v : Bool) → nat_le n (i % n + 1) ≡ v → (i + 1) % n ≡ (i % n + 1) % n → (if v then 0 else i % n + 1) ≡ (i + 1) % n
    by_test true is same =
        let whole : i % n + 1 ≡ n = omega (arith, leb-true n (i % n + 1) is, mod-lt i some) in
        sym (same ∙ ap (λ (k : ℕ). k % n) whole ∙ mod_self n)
    by_test false is same =
        let low : i % n + 1 < n = leb-false n (i % n + 1) is in
        sym (same ∙ mod-eq_of_lt low)

nths : (n from i k : ℕ) (bin : Option ℕ) (held : Option Sample) (l : List Sample) → 0 < n → k ≡ i % n → coming (Nth n) from (kept_with bin k held) l ≡ each_nth n i l
nths n from i k bin held [] some is = refl
nths n from i k bin held (s ∷ more) some is =
    let behind = nths n from (i + 1) (next_position n k) bin held more some (ap (next_position n) is ∙ next_mod n i some) in
    let test : (k == 0) ≡ (i % n == 0) = ap (λ (j : ℕ). j == 0) is in
    ap (λ (v : Bool). (if v then s ∷ [] else []) ++ coming (Nth n) from (kept_with bin (next_position n k) held) more) test ∙ by_test (i % n == 0) behind
  where
    by_test : (v : Bool) → coming (Nth n) from (kept_with bin (next_position n k) held) more ≡ each_nth n (i + 1) more
        → (if v then s ∷ [] else []) ++ coming (Nth n) from (kept_with bin (next_position n k) held) more ≡ (if v then s ∷ each_nth n (i + 1) more else each_nth n (i + 1) more)
    by_test true behind = ap (λ (xs : List Sample). s ∷ xs) behind
    by_test false behind = behind

totals : (from k : ℕ) (bin : Option ℕ) (held : Option Sample) (l : List Sample) → coming NCount from (kept_with bin (capped k) held) l ≡ counted (nearest_moment from) (capped (k + length l)) ∷ []
totals from k bin held [] =
    let none : k ≡ k + 0 = omega arith in
    ap (λ (n : ℕ). counted (nearest_moment from) (capped n) ∷ []) none
totals from k bin held (s ∷ more) =
    let number : k + 1 + length more ≡ k + suc (length more) = omega arith in
    ap (λ (n : ℕ). coming NCount from (kept_with bin n held) more) (capped_more k) ∙ totals from (k + 1) bin held more ∙ ap (λ (n : ℕ). counted (nearest_moment from) (capped n) ∷ []) number

-- FROM THE BEGINNING

pub comes_binned : (op : Op) (from : ℕ) (l : List Sample) → 0 < width_of op → binned op from l ≡ coming op from nothing l
comes_binned (FirstSample width) from [] some = refl
comes_binned (FirstSample width) from (s ∷ more) some = ap (λ (xs : List Sample). s ∷ xs) (sym (firsts width from (bin_of width s.t) 0 None more))
comes_binned (LastSample width) from [] some = refl
comes_binned (LastSample width) from (s ∷ more) some = sym (lasts width from 0 s more)
comes_binned (Count width) from [] some = refl
comes_binned (Count width) from (s ∷ more) some =
    let number : 1 + length (same_bin width (bin_of width s.t) (bins width more)) ≡ suc (length (same_bin width (bin_of width s.t) (bins width more))) = omega arith in
    sym (counts width from (bin_of width s.t) 1 None more ∙ ap (λ (n : ℕ). counted (bin_start width (bin_of width s.t)) (capped n) ∷ map (count_in width) (other_bins width (bin_of width s.t) (bins width more))) number)
comes_binned (Nth n) from l some = sym (nths n from 0 0 None None l some (sym (zero-mod n)))
comes_binned NCount from l some =
    let number : 0 + length l ≡ length l = omega arith in
    sym (totals from 0 None None l ∙ ap (λ (n : ℕ). counted (nearest_moment from) (capped n) ∷ []) number)
