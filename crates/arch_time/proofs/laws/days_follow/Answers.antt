use Rattle.std.proofs.Common.{arith, ◌≡◌, ◌+◌, ◌-◌}
use Rattle.arch_time.proofs.CalendarLemmas.{years_1970, more_months, more_years, all_months, month_bounds}
use Rattle.arch_time.proofs.YearLemmas.{new_year_number}
use Rattle.arch_time.proofs.laws.days_follow.Goals as goal

pub returns-clause-in_month : goal.returns-clause-in_month
returns-clause-in_month c = λ y m d h. omega arith

pub returns-clause-next_month : goal.returns-clause-next_month
returns-clause-next_month c = λ y m h. let back : m + 1 - 1 ≡ m = omega arith in rw back (omega (arith, more_months y m h, month_bounds y m))

pub returns-clause-next_year : goal.returns-clause-next_year
returns-clause-next_year c = λ y. omega (arith, new_year_number (y + 1), more_years y, more_months y 12, all_months y)

pub returns-clause-epoch : goal.returns-clause-epoch
returns-clause-epoch c = omega (arith, new_year_number 1970, years_1970)
