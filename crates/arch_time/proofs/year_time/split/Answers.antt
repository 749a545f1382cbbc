use Rattle.std.proofs.Common.{arith, ◌≡◌, ◌/◌, w32, to_z, pos}
use Rattle.std.proofs.lemmas.Int.{to_z_pos}
use Rattle.jiff_core.proofs.SignedLemmas.{signed_arith}
use Rattle.arch_time.proofs.YearLemmas.{HoldsDay, year_of_day}
use Rattle.arch_time.proofs.CalendarLemmas.{years_1970}
use Rattle.arch_time.proofs.year_time.split.Goals as goal

year_is : (c : goal.After-year_start) → HoldsDay c.of_number-year.result.year (c.args.t / 86_400_000_000_000)
year_is c = let date = c.of_number-year.result in year_of_day date.year date.month date.day (c.args.t / 86_400_000_000_000) date.exists c.of_number-year.ensures (omega arith)

signed_year : (c : goal.After-year_start) → to_z w32 c.of_number-year.result.year ≡ pos c.of_number-year.result.year
signed_year c = to_z_pos w32 c.of_number-year.result.year (omega (arith, year_is c))

pub overflow_sub-days : goal.overflow_sub-days
overflow_sub-days c = omega (arith, year_is c)

pub overflow_mul-result : goal.overflow_mul-result
overflow_mul-result c = omega (arith, year_is c)

pub overflow_add-result : goal.overflow_add-result
overflow_add-result c = omega (arith, year_is c)

pub returns-clause-parts : goal.returns-clause-parts
returns-clause-parts c =
    let year = year_is c in
    rw (signed_year c) ((omega (arith, signed_arith), omega (arith, signed_arith)), record { second = omega arith; nano = omega arith })

pub returns-clause-value : goal.returns-clause-value
returns-clause-value c = let year = year_is c in rw (signed_year c) (omega (arith, years_1970))
