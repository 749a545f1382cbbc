use Rattle.std.proofs.Common.{arith, w32, to_z, of_z}
use Rattle.jiff_core.proofs.SignedLemmas.{signed_arith}
use Rattle.arch_time.specs.YearTime.{IsSampleYear}
use Rattle.arch_time.proofs.CalendarLemmas.{years_1970}
use Rattle.arch_time.proofs.YearLemmas.{start_days, sample_year}
use Rattle.arch_time.proofs.year_time.YearStart.new.Goals as goal

in_range : (c : goal.After-year_start-days) → IsSampleYear (to_z w32 (of_z w32 c.args.year))
in_range c = (omega (arith, signed_arith), omega (arith, signed_arith))

pub overflow_sub-days : goal.overflow_sub-days
overflow_sub-days c =
    omega (arith, start_days (to_z w32 (of_z w32 c.args.year)) (sample_year (to_z w32 (of_z w32 c.args.year)) (in_range c)))

pub overflow_mul-result : goal.overflow_mul-result
overflow_mul-result c =
    omega (arith, start_days (to_z w32 (of_z w32 c.args.year)) (sample_year (to_z w32 (of_z w32 c.args.year)) (in_range c)))

pub invariant_of-result : goal.invariant_of-result
invariant_of-result c = record {
  start_is = omega (arith, years_1970);
  length_is = omega arith;
  year_in = in_range c.before;
}
