use Rattle.tier_store.specs.Pinned.{seen_all}
use Rattle.std.proofs.Common.{ℕ, Err, Result, refl, sym, ◌∙◌, ap, subst}
use Rattle.std.proofs.lemmas.Result.{err_from_is_err_and}
use Rattle.disk_model.specs.declared.disk.DiskErr.{DiskErr}
use Rattle.act_model.specs.Flush.{Flushes}
use Rattle.act_model.specs.declared.acts.Act.TheVariants.{Flush}
use Rattle.archive_core.specs.Parts.{parts}
use Rattle.archive_core.proofs.Acting.{cut}
use Rattle.archive_core.proofs.Flushed.{FlushEnds, flush_ends, flush_so, flushes_act}
use Rattle.archive_core.proofs.archive.Archive.flush_tails.Goals as goal

pub returns-in_err-settle : goal.returns-in_err-settle
returns-in_err-settle g c who =
    let e = err_from_is_err_and c.from_residual.result c.from_residual.ensures.1 in
    let p = parts g.D.Disk c.args.self.now in
    let q = parts g.D.Disk c.settle.new.self in
    subst (λ (x : Result ℕ DiskErr). FlushEnds g.D.Disk.tells who c.args.limit p x q) (sym (e.1 ∙ ap (λ (d : DiskErr). Err d) e.2))
    (flush_so g.D.Disk.tells who c.args.limit p q (Err c.in_err-settle.field-0.0) (cut g.D.Disk.tells who (Flush c.args.limit) (Flushes c.args.limit) (flushes_act who c.args.limit) p q c.settle.result c.settle.ensures.settling (λ settled. ap (seen_all g.D.Disk) (c.settle.ensures.quiet settled)) (λ m s. refl) c.in_err-settle.field-0.0 c.in_err-settle.was c.in_err-settle.ensures.still))

pub flush_settled-requires-clause-rests : goal.flush_settled-requires-clause-rests
flush_settled-requires-clause-rests g c =
    let was = c.requires.stands in
    let then = c.in_ok-settle.ensures.settled was.0 was.1 in
    (record then.0 { faults = (parts g.D.Disk c.settle.new.self).at.faults }, then.2)

pub returns : goal.returns
returns g c who =
    flush_ends g.D.Disk.tells who c.args.limit c.requires.limit (parts g.D.Disk c.args.self.now) (parts g.D.Disk c.settle.new.self) (parts g.D.Disk c.flush_settled.new.self) c.settle.result c.settle.ensures.settling (λ settled. ap (seen_all g.D.Disk) (c.settle.ensures.quiet settled)) c.in_ok-settle.ensures.settled c.flush_settled.result c.flush_settled.ensures.changed c.flush_settled.ensures.count
