use Rattle.std.proofs.Common.{◌≡◌, true, false}
use Rattle.store_manifest.proofs.Bytes.{outside, not_its_start}
use Rattle.store_manifest.proofs.reading.part_at.Goals as goal

pub returns-in_err-part-clause-none : goal.returns-in_err-part-clause-none
returns-in_err-part-clause-none c = rw c.from_residual.ensures (outside c.args.g c.args.start (λ h. let no : false ≡ true = c.in_err-part.ensures.good.1 h in cc))

pub returns-then-part-start-clause-none : goal.returns-then-part-start-clause-none
returns-then-part-start-clause-none c part is starts =
    not_its_start c.args.g c.args.start c.in_ok-part.part c.in_ok-part.ensures.value.0 c.in_ok-part.ensures.value.1 c.if-part-start.true part is starts
