use Rattle.std.proofs.Common.{arith}
use Rattle.http_front.proofs.Periods.{no_whole, no_fraction, is_told}
use Rattle.http_front.proofs.period.period_of.Goals as goal

pub returns-in_err-seconds-clause-none : goal.returns-in_err-seconds-clause-none
returns-in_err-seconds-clause-none c = rw c.from_residual.ensures (no_whole _ _ _ c.cut_at_point-cut.ensures c.in_err-seconds.ensures.none)

pub returns-in_err-nanos-clause-none : goal.returns-in_err-nanos-clause-none
returns-in_err-nanos-clause-none c = rw c.from_residual-in_err-nanos.ensures (no_fraction _ _ _ c.cut_at_point-cut.ensures c.in_err-nanos.ensures.none)

pub returns-then-period-lt-LEAST-clause-none : goal.returns-then-period-lt-LEAST-clause-none
returns-then-period-lt-LEAST-clause-none c =
    λ period p. let is = is_told _ _ _ _ _ c.cut_at_point-cut.ensures c.in_ok-seconds.ensures.found c.in_ok-nanos.ensures.found period p in absurd (omega (arith, is, p.least))

pub returns-then-period-gt-MOST-clause-none : goal.returns-then-period-gt-MOST-clause-none
returns-then-period-gt-MOST-clause-none c =
    λ period p. let is = is_told _ _ _ _ _ c.cut_at_point-cut.ensures c.in_ok-seconds.ensures.found c.in_ok-nanos.ensures.found period p in absurd (omega (arith, is, p.most))
