-- BINS: what an operator makes of samples. The bin of a sample is how many whole widths of so many seconds are over at its moment, counted from 1970 on.
use Rattle.std.specs.Prelude.{ℕ, ◌+◌, ◌*◌, ◌/◌, ◌%◌, ◌<◌, ◌≤◌, ◌==◌, Bool, true, false, if◌then◌else◌, List, [], ◌∷◌, map, length, max, None}
use Rattle.arch_time.specs.YearTime.{start}
use Rattle.series_model.specs.declared.sample.Query.{Query}
use Rattle.series_model.specs.declared.sample.Sample.{Sample}
use Rattle.series_model.specs.Retrieval.{within}
use Rattle.pb_wire.specs.declared.payload.PayloadType.TheVariants.{ScalarInt}
use Rattle.pb_messages.specs.declared.about.About.{About}
use Rattle.pb_messages.specs.declared.about.Method.TheVariants.{Monitor}
use Rattle.act_model.specs.Out.{Subject}
use Rattle.sample_bins.specs.declared.op.Op.{Op}
use Rattle.sample_bins.specs.declared.op.Op.TheVariants.{FirstSample, LastSample, Count, Nth, NCount}
use Rattle.sample_bins.specs.Counts.{counted, capped, nearest_moment}

-- BINS

abbrev pub bin_of : ℕ → ℕ → ℕ
bin_of width t = t / 1_000_000_000 / width

-- the moment at which a bin starts, but none before samples may stand
abbrev pub bin_start : ℕ → ℕ → ℕ
bin_start width bin = max start (bin * width * 1_000_000_000)

-- samples of one bin that follow one another
pub record Bin : Type 0 where
  pub first : Sample
  pub later : List Sample

abbrev pub samples_in : Bin → List Sample
samples_in b = b.first ∷ b.later

-- the samples that begin the list, as far as they are of this bin
abbrev pub same_bin : ℕ → ℕ → List Bin → List Sample
same_bin width bin [] = []
same_bin width bin (b ∷ bs) = if bin == bin_of width b.first.t then samples_in b else []

-- the bins behind these
abbrev pub other_bins : ℕ → ℕ → List Bin → List Bin
other_bins width bin [] = []
other_bins width bin (b ∷ bs) = if bin == bin_of width b.first.t then bs else b ∷ bs

-- the samples, bin by bin
abbrev pub bins : ℕ → List Sample → List Bin
bins width [] = []
bins width (s ∷ rest) =
    record { first = s; later = same_bin width (bin_of width s.t) (bins width rest) } ∷ other_bins width (bin_of width s.t) (bins width rest)

-- WHAT IS GIVEN

abbrev pub last_from : Sample → List Sample → Sample
last_from s [] = s
last_from s (next ∷ rest) = last_from next rest

abbrev pub last_in : Bin → Sample
last_in b = last_from b.first b.later

-- how many samples a bin has, told at its start
abbrev pub count_in : ℕ → Bin → Sample
count_in width b = counted (bin_start width (bin_of width b.first.t)) (capped (length (samples_in b)))

-- the samples whose position, counted from this one on, is a multiple of n
abbrev pub each_nth : ℕ → ℕ → List Sample → List Sample
each_nth n position [] = []
each_nth n position (s ∷ rest) = if position % n == 0 then s ∷ each_nth n (position + 1) rest else each_nth n (position + 1) rest

-- what an operator makes of the samples of an interval that begins there
abbrev pub binned : Op → ℕ → List Sample → List Sample
binned (FirstSample width) from l = map (λ (b : Bin). b.first) (bins width l)
binned (LastSample width) from l = map last_in (bins width l)
binned (Count width) from l = map (count_in width) (bins width l)
binned (Nth n) from l = each_nth n 0 l
binned NCount from l = counted (nearest_moment from) (capped (length l)) ∷ []

-- of an answer, whose sample before the interval isn't looked at
abbrev pub bins_of : Op → Query → List Sample → List Sample
bins_of op q xs = binned op q.from (within q xs)

-- OF WHAT IT IS TOLD

-- counts are whole numbers, and are told under the variable's name
abbrev pub about_counts : About
about_counts = record { ty = ScalarInt; method = Monitor; count = None; headers = [] }

abbrev pub about_of : Op → About → About
about_of (FirstSample width) about = about
about_of (LastSample width) about = about
about_of (Count width) about = about_counts
about_of (Nth n) about = about
about_of NCount about = about_counts

-- counts are told
abbrev pub is_counting : Op → Bool
is_counting (FirstSample width) = false
is_counting (LastSample width) = false
is_counting (Count width) = true
is_counting (Nth n) = false
is_counting NCount = true

abbrev pub binned_subject : Op → Subject → Subject
binned_subject op subject = record { name = subject.name; about = about_of op subject.about; query = subject.query }

-- the number of an operator, 1 where it has none
abbrev pub width_of : Op → ℕ
width_of (FirstSample width) = width
width_of (LastSample width) = width
width_of (Count width) = width
width_of (Nth n) = n
width_of NCount = 1

-- the greatest number that an operator takes: nine digits
abbrev pub most_width : ℕ
most_width = 999_999_999

-- it is in range
abbrev pub IsInRange : Op → Type 0
IsInRange op = (0 < width_of op) × (width_of op ≤ most_width)
