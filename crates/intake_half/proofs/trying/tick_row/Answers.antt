use Rattle.intake_half.proofs.trying.tick_row.Goals as goal

pub returns-clause-due : goal.returns-clause-due
returns-clause-due c = λ sampled is up due. c.try_held.ensures sampled is
