use Rattle.std.proofs.lemmas.List.{take_rest}
use Rattle.std.proofs.Common.{ℕ, Option, Some, None, IfNone}
use Rattle.arch_time.proofs.IsoLemmas.{same_moment}
use Rattle.arch_time.proofs.iso.parsed.Goals as goal

pub returns-in_err-day-clause-none : goal.returns-in_err-day-clause-none
returns-in_err-day-clause-none c = rw c.from_residual-in_err-day.ensures (λ t h. c.in_err-day.ensures.none h.day h.date)

pub returns-in_err-second-clause-none : goal.returns-in_err-second-clause-none
returns-in_err-second-clause-none c = rw c.from_residual-in_err-second.ensures (λ t h. c.in_err-second.ensures.none h.second h.clock)

on_none : {P Q : Type 0} (o : Option ℕ) → (P → Q) → IfNone o P → IfNone o Q
on_none None f h = f h
on_none (Some n) f h = h

pub returns-clause-none : goal.returns-clause-none
returns-clause-none c =
    on_none c.moment_at.result
    (λ unless t h. unless t (same_moment c.args.text.now t c.in_ok-zone_at.zone_at c.in_ok-day.day c.in_ok-second.second c.in_ok-nano.nano c.in_ok-offset.offset h c.in_ok-day.ensures.found c.in_ok-second.ensures.found c.in_ok-nano.ensures.found (rw (take_rest c.args.text.now c.in_ok-zone_at.zone_at) at c.in_ok-offset.ensures.found)))
    c.moment_at.ensures.none
