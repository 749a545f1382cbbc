-- The moments of a drill, and its samples as a list.
use Rattle.std.proofs.Common.{◌≡◌, ℕ, ◌+◌, ◌-◌, ◌*◌, ◌^◌, ◌<◌, ◌≤◌, pos, length, map, get_or, Some, arith, refl, ap, ◌∙◌}
use Rattle.std.specs.Prelude.{slice_get, option_map}
use Rattle.std.specs.Int.{IsInRange}
use Rattle.std.specs.List.{range_with_len, AllByRecursion}
use Rattle.std.proofs.lemmas.List.FromFn.{length-map-range_with_len, get_or-map-range_with_len}
use Rattle.std.proofs.lemmas.Option.{slice_get-get_or}
use Rattle.line_escape.proofs.EscapingLemmas.{escaped-HasNoNewline}
use Rattle.arch_time.specs.Calendar.{days_of_years}
use Rattle.arch_time.specs.YearTime.{moment}
use Rattle.arch_time.proofs.CalendarLemmas.{years_1970}
use Rattle.series_model.specs.declared.sample.Sample.{Sample}
use Rattle.series_model.specs.Series.{IsRising}
use Rattle.pb_messages.specs.Spelling.{event_text}
use Rattle.drill_feed.specs.Workload.{event_at, header_of, minutes, now_of, sample_at, samples, second_at, value_at}
use Rattle.drill_feed.proofs.Drawing.{drawn_small}
use Rattle.drill_feed.proofs.Lines.{is_sample_line, line_short, line_some}
use Rattle.drill_feed.proofs.Ranges.{each_of_range, range_rises}
use Rattle.drill_feed.proofs.Streams.{IsShort}

-- MOMENTS

pub years_2024 : days_of_years 2024 ≡ 739_251
unfolding days_of_years
years_2024 = refl

pub moment_is : (second : ℕ) → moment (pos 2024) second 0 ≡ (1_704_067_200 + second) * 1_000_000_000
moment_is second = omega (arith, years_1970, years_2024)

pub samples_rising : (hours variable : ℕ) → IsRising (samples hours variable)
samples_rising hours variable = range_rises (sample_at hours variable) 0 (minutes hours) 0 (omega arith) (λ i. omega (arith, moment_is (second_at variable i), moment_is (second_at variable (i + 1))))

pub samples_within : (hours variable : ℕ) → variable < 4 → AllByRecursion (λ s. (1_704_067_200 * 1_000_000_000 ≤ s.t) × (s.t ≤ now_of hours)) (samples hours variable)
samples_within hours variable few =
    each_of_range (λ (s : Sample). (1_704_067_200 * 1_000_000_000 ≤ s.t) × (s.t ≤ now_of hours)) (sample_at hours variable) 0 (minutes hours)
    (λ i low high. (omega (arith, moment_is (second_at variable i)), omega (arith, moment_is (second_at variable i), moment_is (3600 * (hours + 1)))))

-- SAMPLES

pub value_small : (hours variable minute : ℕ) → IsInRange 1 200 hours → value_at hours variable minute < 2 ^ 31
value_small hours variable minute range = drawn_small hours (4 * minute + variable + 1) (omega (arith, range.1))

pub samples_short : (hours variable : ℕ) → IsInRange 1 200 hours → variable < 4 → AllByRecursion (IsShort (header_of variable)) (samples hours variable)
samples_short hours variable range few =
    each_of_range (IsShort (header_of variable)) (sample_at hours variable) 0 (minutes hours)
    (λ i low high. record {
      good = record {
        whole = escaped-HasNoNewline (event_text (event_at hours variable i));
        meant = is_sample_line (second_at variable i) (value_at hours variable i) (omega (arith, range.1)) (value_small hours variable i range);
      };
      some = line_some (second_at variable i) (value_at hours variable i);
      short = line_short (second_at variable i) (value_at hours variable i);
    })

pub samples_many : (hours variable : ℕ) → length (samples hours variable) ≡ 60 * hours
samples_many hours variable = length-map-range_with_len (sample_at hours variable) 0 (minutes hours)

-- the sample at a place
pub moment_at : (hours variable minute : ℕ) → minute < minutes hours → option_map (λ s. s.t) (slice_get (samples hours variable) minute) ≡ Some (moment (pos 2024) (second_at variable minute) 0)
moment_at hours variable minute within =
    let d = sample_at hours variable minute in
    let is = slice_get-get_or (samples hours variable) minute d (omega (arith, samples_many hours variable))
    ∙ ap (λ (s : Sample). Some s) (get_or-map-range_with_len (sample_at hours variable) 0 (minutes hours) minute minute d within (omega arith)) in
    rw is refl
