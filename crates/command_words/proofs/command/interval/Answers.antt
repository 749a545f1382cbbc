use Rattle.command_words.proofs.command.interval.Goals as goal

pub returns-in_default-clause-none : goal.returns-in_default-clause-none
returns-in_default-clause-none c = λ query h. c.in_default.not-Ok query.from ((c.parse_iso.ensures.exact query.from).1 (rw c.as_bytes.ensures.value h.0))

pub returns-in_default-parse_iso-clause-none : goal.returns-in_default-parse_iso-clause-none
returns-in_default-parse_iso-clause-none c = λ query h. c.in_default-parse_iso.not-Ok query.to ((c.parse_iso-2.ensures.exact query.to).1 (rw c.as_bytes-2.ensures.value h.1))
