use Rattle.std.proofs.lemmas.List.{take_rest}
use Rattle.arch_time.proofs.IsoLemmas.{six_bytes}
use Rattle.arch_time.proofs.iso.zone.Goals as goal

pub returns-in_err-seconds-clause-none : goal.returns-in_err-seconds-clause-none
returns-in_err-seconds-clause-none c =
    rw c.from_residual.ensures
    (λ offset h. six_bytes c.args.text.now offset c.if-text-ne6.false h (rw (take_rest c.args.text.now 1) at c.in_err-seconds.ensures.none))
