use Rattle.std.proofs.Common.{ℕ, Err, Result, sym, ◌∙◌, ap, subst}
use Rattle.disk_model.specs.declared.disk.DiskErr.{DiskErr}
use Rattle.act_model.specs.declared.acts.Act.TheVariants.{Flush}
use Rattle.act_model.specs.declared.acts.Answer.TheVariants.{Flushed}
use Rattle.archive_core.specs.Acting.{Acted}
use Rattle.archive_core.specs.Parts.{parts}
use Rattle.archive_core.proofs.Flushed.{FlushEnds}
use Rattle.archive_core.proofs.archive.Archive.flush.Goals as goal

pub returns-in-Ok : goal.returns-in-Ok
returns-in-Ok g c who =
    let p = parts g.D.Disk c.args.self.now in
    let new = parts g.D.Disk c.flush_tails.new.self in
    subst (λ left. Acted g.D.Disk.tells who (Flush c.args.limit) p (Flushed c.in-Ok.samples left new.doors) new) (sym c.held.ensures.value) (subst (λ (r : Result ℕ DiskErr). FlushEnds g.D.Disk.tells who c.args.limit p r new) c.in-Ok.is (c.flush_tails.ensures who))

pub returns-in-Err-Fault : goal.returns-in-Err-Fault
returns-in-Err-Fault g c who = subst (λ (r : Result ℕ DiskErr). FlushEnds g.D.Disk.tells who c.args.limit (parts g.D.Disk c.args.self.now) r (parts g.D.Disk c.flush_tails.new.self)) (c.in-Err-Fault.is ∙ ap (λ (e : DiskErr). Err e) c.in-Err-Fault.field-0-is) (c.flush_tails.ensures who)

pub returns-in-Err-Memory : goal.returns-in-Err-Memory
returns-in-Err-Memory g c who = subst (λ (r : Result ℕ DiskErr). FlushEnds g.D.Disk.tells who c.args.limit (parts g.D.Disk c.args.self.now) r (parts g.D.Disk c.flush_tails.new.self)) (c.in-Err-Memory.is ∙ ap (λ (e : DiskErr). Err e) c.in-Err-Memory.field-0-is) (c.flush_tails.ensures who)
