-- Why a count is an event of the type SCALAR_INT, wherever a sample may stand. An output owes this with its definitions.
use Rattle.std.proofs.Common.{◌≡◌, ℕ, zero, suc, ◌+◌, ◌-◌, ◌/◌, ◌%◌, ◌^◌, ◌<◌, ◌≤◌, ℤ, pos, Bool, true, false, List, Ok, refl, arith, unsigned_abs}
use Rattle.std.specs.Prelude.{nat_lt, if◌then◌else◌}
use Rattle.std.proofs.Math.Nat.{lt_of_not-le}
use Rattle.std.proofs.lemmas.Int.{ints}
use Rattle.std.proofs.lemmas.Bool.{ltb-true, ltb-false}
use Rattle.pb_wire.specs.declared.payload.PayloadType.{PayloadType}
use Rattle.pb_wire.specs.declared.payload.PayloadType.TheVariants.{ScalarInt}
use Rattle.line_escape.proofs.EscapingLemmas.{escaped-Means, escaped-HasNoNewline}
use Rattle.arch_time.specs.Calendar.{days_in_year, days_of_years}
use Rattle.arch_time.specs.YearTime.{moment, start, end, IsInYear, IsSampleYear}
use Rattle.arch_time.proofs.CalendarLemmas.{year_bounds, later_year, years_mono, more_years, years_1970, years_1991, years_2500}
use Rattle.arch_time.proofs.YearLemmas.{start_days, sample_year}
use Rattle.pb_messages.specs.Event.{stamp_of}
use Rattle.pb_messages.specs.Spelling.{event_text, FitsEvent}
use Rattle.pb_messages.proofs.RoundTrip.{event_back}
use Rattle.series_model.specs.declared.sample.Sample.{Sample}
use Rattle.act_model.specs.Event.{IsEvent}
use Rattle.sample_bins.specs.Counts.{day_of_year, second_of_year, count_event, counted, most_counted}

-- THE YEAR OF A DAY

-- a day of the years from a to z stands in one of them
pub record InYears (a z day of_year : ℕ) : Type 0 where
  pub year : ℕ
  pub from : a ≤ year
  pub to : year < z
  pub within : of_year < days_in_year year
  pub is : days_of_years year + of_year ≡ days_of_years a + day

-- a year that begins before another one is earlier
year_low : (a day z : ℕ) → days_of_years a + day < days_of_years z → a < z
year_low a day z low = lt_of_not-le (λ (le : z ≤ a). absurd (omega (arith, years_mono z a le, low)))

pub in_years : (n a z day : ℕ) → z ≡ a + n → days_of_years a + day < days_of_years z → InYears a z day (day_of_year n a day)
unfolding day_of_year
in_years zero a z day e low = absurd (omega (arith, years_mono z a (omega arith)))
in_years (suc n) a z day e low =
    by_test (nat_lt day (days_in_year a)) refl (λ late.
    let more : days_of_years (a + 1) ≡ days_of_years a + days_in_year a = more_years a in
    in_years n (a + 1) z (day - days_in_year a) (omega arith) (omega (arith, more, late)))
  where
    by_test : (b : Bool) → nat_lt day (days_in_year a) ≡ b → (days_in_year a ≤ day → InYears (a + 1) z (day - days_in_year a) (day_of_year n (a + 1) (day - days_in_year a)))
        → InYears a z day (if b then day else day_of_year n (a + 1) (day - days_in_year a))
    by_test true is behind = record { year = a; from = omega arith; to = year_low a day z low; within = ltb-true day (days_in_year a) is; is = refl }
    by_test false is behind =
        let late : days_in_year a ≤ day = ltb-false day (days_in_year a) is in
        let more : days_of_years (a + 1) ≡ days_of_years a + days_in_year a = more_years a in
        let rest = behind late in
        record { year = rest.year; from = omega (arith, rest.from); to = rest.to; within = rest.within; is = omega (arith, rest.is, more, late) }

-- THE STAMP

-- the second and the year of a moment at which a sample may stand
pub record HasStamp (t second : ℕ) : Type 0 where
  pub year : ℤ
  pub sample_year : IsSampleYear year
  pub in_year : IsInYear year second (t % 1_000_000_000)
  pub at : t ≡ moment year second (t % 1_000_000_000)

pub has_stamp : (t : ℕ) → start ≤ t → t < end → HasStamp t (second_of_year t)
unfolding second_of_year
has_stamp t low high =
    let seconds = t / 1_000_000_000 in
    let day = seconds / 86_400 in
    let here = in_years 530 1970 2500 day refl (omega (arith, years_1970, years_2500, high)) in
    let old : here.year < 1991 → ⊥ = λ lt. omega (arith, later_year here.year 1991 lt, here.within, here.is, years_1970, years_1991, low) in
    let late : 1991 ≤ here.year = omega (arith, old) in
    let behind : days_of_years 1970 ≤ days_of_years here.year = years_mono 1970 here.year here.from in
    record {
      year = pos here.year;
      sample_year = (omega (arith, ints, late), omega (arith, ints, here.to));
      in_year = record { second = omega (arith, here.within); nano = omega arith };
      at = omega (arith, here.is, behind, years_1970);
    }

-- EVENTS

fits : (t n : ℕ) → (second : ℕ) → second ≡ second_of_year t → second < 2 ^ 32 → n ≤ most_counted → FitsEvent (count_event t n)
fits t n second is low small = record {
  secs = omega (arith, is, low);
  nano = omega arith;
  val = omega (arith, ints, small);
  state = record { severity = omega (arith, ints); status = omega (arith, ints); repeat = tt };
  fields = tt;
}

second_small : (t : ℕ) → (s : HasStamp t (second_of_year t)) → second_of_year t < 2 ^ 32
second_small t s = omega (arith, s.in_year.second, year_bounds (unsigned_abs s.year))

stamp_read : (t n : ℕ) → FitsEvent (count_event t n) → stamp_of ScalarInt (event_text (count_event t n)) ≡ Ok (second_of_year t, t % 1_000_000_000)
unfolding stamp_of
stamp_read t n small = rw (event_back ScalarInt (count_event t n) refl small) refl

pub counted_event : (t n : ℕ) → start ≤ t → t < end → n ≤ most_counted → IsEvent ScalarInt (counted t n)
counted_event t n low high small =
    let s = has_stamp t low high in
    let text : List ℕ = event_text (count_event t n) in
    record {
      whole = escaped-HasNoNewline text;
      message = text;
      means = escaped-Means text;
      secs = second_of_year t;
      nano = t % 1_000_000_000;
      stamp = stamp_read t n (fits t n (second_of_year t) refl (second_small t s) small);
      year = s.year;
      sample_year = s.sample_year;
      in_year = s.in_year;
      at = s.at;
    }

-- an event stands where a sample may stand
pub event_time : (ty : PayloadType) (s : Sample) → IsEvent ty s → (start ≤ s.t) × (s.t < end)
event_time ty s e =
    let days = start_days e.year (sample_year e.year e.sample_year) in
    let bounds = first_days e.year e.sample_year in
    (omega (arith, e.at, bounds, years_1970), omega (arith, e.at, days.0, days.1, e.in_year.second, e.in_year.nano, years_1970))
  where
    first_days : (y : ℤ) → IsSampleYear y → 727_198 ≤ days_of_years (unsigned_abs y)
    first_days y is = omega (arith, years_mono 1991 (unsigned_abs y) (omega (arith, ints, is.0, is.1)), years_1991)
