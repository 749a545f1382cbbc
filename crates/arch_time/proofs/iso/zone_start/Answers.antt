use Rattle.std.proofs.Common.{arith, ap, Some, ◌≡◌, ◌-◌, length}
use Rattle.arch_time.proofs.IsoLemmas.{zone_at, z_at, sign_at}
use Rattle.arch_time.proofs.iso.zone_start.Goals as goal
use Rattle.arch_time.proofs.iso.zone_start.Goals.{then-text-eq90, else-text-eq90}

pub returns-clause-only : goal.returns-clause-only
returns-clause-only c = λ at offset behind zone.
    let found = zone_at c.args.text.now at offset zone in
    let same : length c.args.text.now - c.if-text-eq90.length ≡ at =
    elim c.if-text-eq90.branch [
      | then-text-eq90 w ↦ omega (arith, z_at c.args.text.now at found w.if-text-eq90.true)
      | else-text-eq90 w ↦ omega (arith, sign_at c.args.text.now at found w.if-text-eq90.false)
    ] in
    ap (λ k. Some k) same
