-- What holds of bins, over lists of samples alone.
use Rattle.std.specs.Prelude.{◌≡◌, ◌≤◌, ◌==◌, ◌↔◌, ℕ, List, map, filter, length, All, Any, Contains}
use Rattle.std.specs.List.Sorted.{IsStrictlyIncreasing}
use Rattle.series_model.specs.declared.sample.Sample.{Sample}
use Rattle.series_model.specs.Series.{IsRising}
use Rattle.sample_bins.specs.declared.op.Op.TheVariants.{FirstSample, LastSample, Count}
use Rattle.sample_bins.specs.Counts.{counted, capped}
use Rattle.sample_bins.specs.Bins.{bin_of, bin_start, bins, samples_in, binned}

-- the number of the bin that a sample lies in
abbrev pub number_of : ℕ → Sample → ℕ
number_of width s = bin_of width s.t

-- all samples of the list that lie in the bin of this number
abbrev pub numbered : ℕ → ℕ → List Sample → List Sample
numbered width number l = filter (λ s. number == number_of width s) l

-- a sample of the list, and none that lies in its bin is earlier
pub record IsFirstOfNumber (width : ℕ) (l : List Sample) (s : Sample) : Type 0 where
  pub there : Contains l s
  pub first : All (λ other. number_of width other ≡ number_of width s → s.t ≤ other.t) l

-- a sample of the list, and none that lies in its bin is later
pub record IsLastOfNumber (width : ℕ) (l : List Sample) (s : Sample) : Type 0 where
  pub there : Contains l s
  pub last : All (λ other. number_of width other ≡ number_of width s → other.t ≤ s.t) l

-- how many samples of the list lie in the bin of this one, told at the bin's start
abbrev pub count_of_number : ℕ → List Sample → Sample → Sample
count_of_number width l s = counted (bin_start width (number_of width s)) (capped (length (numbered width (number_of width s) l)))

-- BINS

-- where moments rise strictly, a bin is exactly all samples of its number
abbrev pub BinsAreWhole : Type 0
BinsAreWhole = (width : ℕ) (l : List Sample) → IsRising l → All (λ b. samples_in b ≡ numbered width (number_of width b.first) l) (bins width l)

-- each number that occurs has a bin
abbrev pub NumbersHaveBins : Type 0
NumbersHaveBins = (width : ℕ) (l : List Sample) → All (λ s. Any (λ b. number_of width b.first ≡ number_of width s) (bins width l)) l

-- where moments rise strictly, the bins' numbers rise strictly, so a number has one bin
abbrev pub NumbersRise : Type 0
NumbersRise = (width : ℕ) (l : List Sample) → IsRising l → IsStrictlyIncreasing (map (λ b. number_of width b.first) (bins width l))

-- OPERATORS

-- of each number the earliest sample is given, and no other
abbrev pub FirstsAreEarliest : Type 0
FirstsAreEarliest = (width from : ℕ) (l : List Sample) → IsRising l → (s : Sample) → Contains (binned (FirstSample width) from l) s ↔ IsFirstOfNumber width l s

-- of each number the latest sample is given, and no other
abbrev pub LastsAreLatest : Type 0
LastsAreLatest = (width from : ℕ) (l : List Sample) → IsRising l → (s : Sample) → Contains (binned (LastSample width) from l) s ↔ IsLastOfNumber width l s

-- what is given stands in the order of time
abbrev pub GivenRise : Type 0
GivenRise = (width from : ℕ) (l : List Sample) → IsRising l → IsRising (binned (FirstSample width) from l) × IsRising (binned (LastSample width) from l)

-- for each number that occurs, in the order of the firsts, it is told how many samples have it
abbrev pub CountsAreWhole : Type 0
CountsAreWhole = (width from : ℕ) (l : List Sample) → IsRising l → binned (Count width) from l ≡ map (count_of_number width l) (binned (FirstSample width) from l)
