-- The stamp of a count.
use Rattle.std.proofs.Common.{◌≡◌, ℕ, ◌%◌, ◌<◌, ◌≤◌, ℤ, pos, List, [], None, ◌∙◌}
use Rattle.arch_time.specs.YearTime.{moment, start, end, IsInYear, IsMomentYear}
use Rattle.arch_time.proofs.YearLemmas.{same_year_time, sample_year}
use Rattle.pb_messages.specs.declared.event.Event.{Event}
use Rattle.pb_messages.specs.declared.value.Value.TheVariants.{Int}
use Rattle.sample_bins.specs.Counts.{count_event, second_of_year}
use Rattle.sample_bins.specs.CountEvents.{has_stamp}

-- a moment has one second and one nanosecond of its year
pub count_event_is : (t n : ℕ) (year : ℤ) (secs nano : ℕ) (z : ℤ) (fields : List (List ℕ × List ℕ)) → start ≤ t → t < end → IsMomentYear year → IsInYear year secs nano → moment year secs nano ≡ t → z ≡ pos n → fields ≡ []
    → ◌≡◌ {A = Event} (record { secs = secs; nano = nano; val = Int z; severity = pos 0; status = pos 0; repeat = None; fields = fields; actual_change = None }) (count_event t n)
count_event_is t n year secs nano z fields low high of_moment in_year at number none =
    let s = has_stamp t low high in
    let same = same_year_time year s.year secs nano (second_of_year t) (t % 1_000_000_000) of_moment (sample_year s.year s.sample_year) in_year s.in_year (at ∙ s.at) in
    λ i. record { secs = same.1 i; nano = same.2 i; val = Int (number i); severity = pos 0; status = pos 0; repeat = None; fields = none i; actual_change = None }
