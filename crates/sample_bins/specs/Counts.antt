-- A count of samples, told as a sample: a whole number at a moment, without alarm.
use Rattle.std.specs.Prelude.{ℕ, zero, suc, ◌+◌, ◌-◌, ◌*◌, ◌/◌, ◌%◌, nat_lt, if◌then◌else◌, pos, [], None, min, max}
use Rattle.arch_time.specs.Calendar.{days_in_year}
use Rattle.arch_time.specs.YearTime.{start, end}
use Rattle.line_escape.specs.Escaping.{escaped}
use Rattle.pb_messages.specs.declared.event.Event.{Event}
use Rattle.pb_messages.specs.declared.value.Value.TheVariants.{Int}
use Rattle.pb_messages.specs.Spelling.{event_text}
use Rattle.series_model.specs.declared.sample.Sample.{Sample}

-- the greatest number that a sample of the type SCALAR_INT tells
abbrev pub most_counted : ℕ
most_counted = 2_147_483_647

-- a count that doesn't fit is told as the greatest number that does
abbrev pub capped : ℕ → ℕ
capped n = min n most_counted

-- the nearest moment at which a sample may stand
abbrev pub nearest_moment : ℕ → ℕ
nearest_moment t = max start (min t (end - 1))

-- which day of its year a day is, counted from the first day of the year y on; it lies in one of n years
unfoldable pub day_of_year : ℕ → ℕ → ℕ → ℕ
day_of_year zero y day = day
day_of_year (suc n) y day = if nat_lt day (days_in_year y) then day else day_of_year n (y + 1) (day - days_in_year y)

-- the second of its year at which a moment before 2500 stands
unfoldable pub second_of_year : ℕ → ℕ
second_of_year t = day_of_year 530 1970 (t / 1_000_000_000 / 86_400) * 86_400 + t / 1_000_000_000 % 86_400

abbrev pub count_event : ℕ → ℕ → Event
count_event t n = record {
  secs = second_of_year t;
  nano = t % 1_000_000_000;
  val = Int (pos n);
  severity = pos 0;
  status = pos 0;
  repeat = None;
  fields = [];
  actual_change = None;
}

abbrev pub counted : ℕ → ℕ → Sample
counted t n = record { t = t; line = escaped (event_text (count_event t n)) }
