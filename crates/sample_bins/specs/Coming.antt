-- How a list is binned sample by sample: what is kept of the samples that came before, what is given out as the next one comes, and what at the end.
use Rattle.std.specs.Prelude.{ℕ, ◌+◌, ◌==◌, nat_le, if◌then◌else◌, Bool, true, false, not, List, [], ◌∷◌, ◌++◌, Option, Some, None}
use Rattle.std.specs.Option.{option_to_list}
use Rattle.series_model.specs.declared.sample.Sample.{Sample}
use Rattle.sample_bins.specs.declared.op.Op.{Op}
use Rattle.sample_bins.specs.declared.op.Op.TheVariants.{FirstSample, LastSample, Count, Nth, NCount}
use Rattle.sample_bins.specs.declared.kept.Kept.{Kept}
use Rattle.sample_bins.specs.Bins.{bin_of, bin_start}
use Rattle.sample_bins.specs.Counts.{counted, capped, nearest_moment}

-- a sample of this bin isn't of the bin of the last one
abbrev pub is_new : Option ℕ → ℕ → Bool
is_new None bin = true
is_new (Some last) bin = not (last == bin)

-- one more, as far as it fits
abbrev pub one_more : ℕ → ℕ
one_more n = capped (n + 1)

-- the next position, of those below n
abbrev pub next_position : ℕ → ℕ → ℕ
next_position n position = if nat_le n (position + 1) then 0 else position + 1

-- something is given out as a sample at t comes
abbrev pub is_due : Op → Kept → ℕ → Bool
is_due (FirstSample width) kept t = is_new kept.bin (bin_of width t)
is_due (LastSample width) kept t = is_new kept.bin (bin_of width t)
is_due (Count width) kept t = is_new kept.bin (bin_of width t)
is_due (Nth n) kept t = kept.count == 0
is_due NCount kept t = false

-- the count of the bin that is open, if one is
abbrev pub open_count : ℕ → Option ℕ → ℕ → List Sample
open_count width None n = []
open_count width (Some bin) n = counted (bin_start width bin) n ∷ []

-- what is given out then
abbrev pub what_is_due : Op → Kept → Sample → List Sample
what_is_due (FirstSample width) kept s = s ∷ []
what_is_due (LastSample width) kept s = option_to_list kept.held
what_is_due (Count width) kept s = open_count width kept.bin kept.count
what_is_due (Nth n) kept s = s ∷ []
what_is_due NCount kept s = []

abbrev pub due : Op → Kept → Sample → List Sample
due op kept s = if is_due op kept s.t then what_is_due op kept s else []

-- what is kept then: the bin of the last sample, and of it how many came, or the sample itself; or its position
abbrev pub count_kept : Bool → ℕ → ℕ
count_kept new n = if new then 1 else one_more n

abbrev pub next : Op → Kept → Sample → Kept
next (FirstSample width) kept s = record { bin = Some (bin_of width s.t); count = kept.count; held = kept.held }
next (LastSample width) kept s = record { bin = Some (bin_of width s.t); count = kept.count; held = Some s }
next (Count width) kept s = record { bin = Some (bin_of width s.t); count = count_kept (is_new kept.bin (bin_of width s.t)) kept.count; held = kept.held }
next (Nth n) kept s = record { bin = kept.bin; count = next_position n kept.count; held = kept.held }
next NCount kept s = record { bin = kept.bin; count = one_more kept.count; held = kept.held }

-- what is given out at the end, where the interval begins there
abbrev pub due_at_end : Op → ℕ → Kept → List Sample
due_at_end (FirstSample width) from kept = []
due_at_end (LastSample width) from kept = option_to_list kept.held
due_at_end (Count width) from kept = open_count width kept.bin kept.count
due_at_end (Nth n) from kept = []
due_at_end NCount from kept = counted (nearest_moment from) kept.count ∷ []

-- all that is still to come
abbrev pub coming : Op → ℕ → Kept → List Sample → List Sample
coming op from kept [] = due_at_end op from kept
coming op from kept (s ∷ more) = due op kept s ++ coming op from (next op kept s) more

-- nothing came before
abbrev pub nothing : Kept
nothing = record { bin = None; count = 0; held = None }
