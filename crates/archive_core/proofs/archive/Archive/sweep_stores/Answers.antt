use Rattle.std.proofs.Common.{List, Err, Result, refl, ap, subst, sym, ◌∙◌}
use Rattle.std.proofs.lemmas.Result.{err_from_is_err_and}
use Rattle.disk_model.specs.declared.disk.DiskErr.{DiskErr}
use Rattle.disk_model.specs.declared.disk.DiskErr.TheVariants.{Memory}
use Rattle.tier_store.specs.Moving.{LeavesLater}
use Rattle.tier_store.specs.Pinned.{seen_all, beside, Shows}
use Rattle.tier_store.specs.Seen.{seen}
use Rattle.tier_store.specs.declared.limbo.Retired.{Retired}
use Rattle.tier_store.specs.declared.removing.StoreSwept.{StoreSwept}
use Rattle.act_model.specs.Sweep.{Sweeps}
use Rattle.act_model.specs.declared.acts.Act.TheVariants.{Sweep}
use Rattle.tier_store.proofs.Removals.{on_err}
use Rattle.archive_core.specs.Acting.{Acted}
use Rattle.archive_core.specs.Parts.{memory_in, parts}
use Rattle.archive_core.specs.Sweeping.{sweep_reply}
use Rattle.archive_core.specs.Written.{AreWritten}
use Rattle.archive_core.proofs.Acting.{cut, spent_then}
use Rattle.archive_core.proofs.Settled.{rests_has}
use Rattle.archive_core.proofs.Batches.{swept_by}
use Rattle.archive_core.proofs.SweepAct.{sweep_acts, sweeps_act, swept_so}
use Rattle.archive_core.proofs.archive.Archive.sweep_stores.Goals as goal

pub returns-in_err-settle : goal.returns-in_err-settle
returns-in_err-settle g c who =
    let e = err_from_is_err_and c.from_residual.result c.from_residual.ensures.1 in
    let p = parts g.D.Disk c.args.self.now in
    let q = parts g.D.Disk c.settle.new.self in
    subst (λ (r : Result StoreSwept DiskErr). Acted g.D.Disk.tells who Sweep p (sweep_reply r) q) (sym (e.1 ∙ ap (λ (d : DiskErr). Err d) e.2))
    (swept_so g.D.Disk.tells who p q (Err c.in_err-settle.field-0.0) (cut g.D.Disk.tells who Sweep Sweeps (sweeps_act who) p q c.settle.result c.settle.ensures.settling (λ settled. ap (seen_all g.D.Disk) (c.settle.ensures.quiet settled)) (λ m s. refl) c.in_err-settle.field-0.0 c.in_err-settle.was c.in_err-settle.ensures.still))

pub written_names-requires : goal.written_names-requires
written_names-requires g c =
    let was = c.requires.stands in
    let then = c.in_ok-settle.ensures.settled was.0 was.1 in
    record { rests = (memory_in c.settle.new.self, record then.0 { faults = (parts g.D.Disk c.settle.new.self).at.faults }, then.2) }

pub sweep-requires : goal.sweep-requires
sweep-requires g c =
    let was = c.requires.stands in
    let then = c.in_ok-settle.ensures.settled was.0 was.1 in
    let q = parts g.D.Disk c.settle.new.self in
    record { has = (then.2.stands.store.before, rests_has g.D.Disk.tells q (record then.0 { faults = q.at.faults }) then.2); stands = then.2.stands.limbo.stands }

pub returns-in_err-written : goal.returns-in_err-written
returns-in_err-written g c who =
    let e = err_from_is_err_and c.from_residual-in_err-written.result c.from_residual-in_err-written.ensures.1 in
    let p = parts g.D.Disk c.args.self.now in
    let q = parts g.D.Disk c.settle.new.self in
    subst (λ (r : Result StoreSwept DiskErr). Acted g.D.Disk.tells who Sweep p (sweep_reply r) q) (sym (e.1 ∙ ap (λ (d : DiskErr). Err d) e.2))
    (swept_so g.D.Disk.tells who p q (Err Memory) (spent_then g.D.Disk.tells who Sweep Sweeps (sweeps_act who) p q c.settle.result c.settle.ensures.settling (λ settled. ap (seen_all g.D.Disk) (c.settle.ensures.quiet settled)) (λ m s. refl) c.in_ok-settle.ensures.settled (λ m s. refl)))

pub returns : goal.returns
returns g c who =
    let p = parts g.D.Disk c.args.self.now in
    let q = parts g.D.Disk c.settle.new.self in
    let call = c.sweep.ensures in
    let written : AreWritten q.at.catalogue.rows q.slots c.deref.result.now = subst (AreWritten q.at.catalogue.rows q.slots) (sym c.deref.ensures.value) c.in_ok-written.ensures in
    let new = record q { at = seen g.D.Disk c.sweep.new.self; limbo = c.sweep.new.self.limbo.items; pinned = c.sweep.new.self.pinned } in
    let failed = on_err c.sweep.result _ _ (λ stay. (ap (λ l. l.items) stay.0, λ name bytes shown. subst (λ (l : List Retired). Shows g.D.Disk.tells (beside new.at l) name bytes) (ap (λ l. l.items) stay.0) (stay.1 name bytes shown), subst (λ (l : List Retired). LeavesLater g.D.Disk.tells (beside q.at q.limbo) (beside new.at l)) (ap (λ l. l.items) stay.0) stay.2)) call.failed in
    sweep_acts g.D.Disk.tells p q c.in_ok-settle.ensures.settled c.settle.ensures.settling.settles.faults new c.deref.result.now refl written who c.settle.result c.settle.ensures.settling c.sweep.result
    (record { changes = call.changes; sweeps = call.sweeps; failed = failed; leaves = call.leaves; left = call.copied; whole = call.whole; stands = call.stands; same = (call.same.0, ap (λ l. l.items) call.same.1, call.same.2) })
    (λ settled well. swept_by g.D.Disk.tells p q new c.deref.result.now c.sweep.result (ap (seen_all g.D.Disk) (c.settle.ensures.quiet settled)) c.settle.ensures.settling.slots refl call.sweeps well)
