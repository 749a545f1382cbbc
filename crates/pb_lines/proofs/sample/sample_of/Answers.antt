use Rattle.std.proofs.lemmas.Int.{to_z-of_z}
use Rattle.std.specs.Int.{w32}
use Rattle.pb_lines.proofs.sample.sample_of.Goals as goal

pub returns-in-Err-instant-clause-err : goal.returns-in-Err-instant-clause-err
returns-in-Err-instant-clause-err c =
    let good = rw (to_z-of_z w32 c.args.year c.ranges.year) at c.in-Err-instant.ensures.good in
    (c.in-Ok.at.0, c.in-Ok.at.1, c.in-Ok.ensures.ok, λ h. let e = good.1 h in cc)
