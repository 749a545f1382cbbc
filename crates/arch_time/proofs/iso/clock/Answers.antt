use Rattle.arch_time.proofs.iso.clock.Goals as goal

pub returns-in_err-before-clause-none : goal.returns-in_err-before-clause-none
returns-in_err-before-clause-none c =
    rw c.from_residual.ensures (λ second h. c.in_err-before.ensures.none h.before h.minute)
