use Rattle.pb_lines.proofs.sample.moment_of_line.Goals as goal

pub returns-in-Err-at-clause-err : goal.returns-in-Err-at-clause-err
returns-in-Err-at-clause-err c = (c.in-Ok.at.0, c.in-Ok.at.1, c.in-Ok.ensures.ok, λ h. let e = c.in-Err-at.ensures.good.1 h.1 in cc)
