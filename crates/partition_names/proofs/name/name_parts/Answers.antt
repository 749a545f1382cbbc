use Rattle.partition_names.proofs.name.name_parts.Goals as goal

pub returns-in_err-month-clause-none : goal.returns-in_err-month-clause-none
returns-in_err-month-clause-none c =
    rw c.from_residual-in_err-month.ensures (λ at h. c.in_err-month.ensures.none at.month h.month)

pub returns-in_err-day-clause-none : goal.returns-in_err-day-clause-none
returns-in_err-day-clause-none c =
    rw c.from_residual-in_err-day.ensures (λ at h. c.in_err-day.ensures.none at.day h.day)

pub returns-in_err-hour-clause-none : goal.returns-in_err-hour-clause-none
returns-in_err-hour-clause-none c =
    rw c.from_residual-in_err-hour.ensures (λ at h. c.in_err-hour.ensures.none at.hour h.hour)

pub returns-in_err-minute-clause-none : goal.returns-in_err-minute-clause-none
returns-in_err-minute-clause-none c =
    rw c.from_residual-in_err-minute.ensures (λ at h. c.in_err-minute.ensures.none at.minute h.minute)
