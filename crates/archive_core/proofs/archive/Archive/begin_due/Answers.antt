use Rattle.std.proofs.Common.{ℕ, Err, None, arith, refl, ap, ◌∙◌}
use Rattle.std.proofs.lemmas.Result.{err_from_is_err_and}
use Rattle.disk_model.specs.declared.disk.DiskErr.{DiskErr}
use Rattle.durable_write.specs.Ends.{end_of_disk}
use Rattle.tier_store.specs.Opening.{answer_of}
use Rattle.tier_store.specs.Pinned.{seen_all}
use Rattle.act_model.specs.MoveBegin.{Begins}
use Rattle.act_model.specs.Reply.{reply_of}
use Rattle.act_model.specs.Step.{store_of}
use Rattle.act_model.specs.declared.acts.Act.TheVariants.{MoveBegin}
use Rattle.gate_journal.proofs.Results.{if_ok}
use Rattle.tier_store.proofs.Removals.{on_err}
use Rattle.archive_core.specs.Parts.{memory_in, parts, parts_beside}
use Rattle.archive_core.proofs.Acting.{IsAct, acted, asked_then, cut}
use Rattle.archive_core.proofs.Registered.{failed_told}
use Rattle.archive_core.proofs.MoveTable.{begins_goes, begins_tell, begun_ends}
use Rattle.archive_core.proofs.Opened.{reads_none, reads_settling, reads_then}
use Rattle.archive_core.proofs.Batches.{ok_tidy}
use Rattle.archive_core.proofs.archive.Archive.begin_due.Goals as goal

-- the act of the machine
begins_act : (who store now : ℕ) → IsAct who (MoveBegin store now) (Begins (store_of store) now)
begins_act who store now = record { refuse = λ old m. None; passes = λ old m is. is; counts = λ old m f. refl; refuses = λ m f. refl; changes = λ m f. refl; goes = begins_goes (store_of store) now; never = λ old m none. cc (none); tells_more = begins_tell (store_of store) now; steps = λ m given new acts. acts; wants = λ m n none. tt }

pub returns-in_err-settle-clause-acted : goal.returns-in_err-settle-clause-acted
returns-in_err-settle-clause-acted g c who =
    let e = err_from_is_err_and c.from_residual.result c.from_residual.ensures.1 in
    let p = parts g.D.Disk c.args.self.now in
    let q = parts g.D.Disk c.settle.new.self in
    let act = MoveBegin c.args.store c.args.now in
    failed_told g.row.D-Reader.Denot g.D.Reader.ReadAt.tells g.D.Reader.ReadAt.bytes g.D.Reader.ReadAt.faults g.D.Disk.tells who act p q c.from_residual.result c.in_err-settle.field-0.0 (e.1 ∙ ap (λ (d : DiskErr). Err d) e.2)
    (acted g.D.Disk.tells who act p _ q (cut g.D.Disk.tells who act (Begins (store_of c.args.store) c.args.now) (begins_act who c.args.store c.args.now) p q c.settle.result c.settle.ensures.settling (λ settled. ap (seen_all g.D.Disk) (c.settle.ensures.quiet settled)) (λ m s. refl) c.in_err-settle.field-0.0 c.in_err-settle.was c.in_err-settle.ensures.still)
    (reads_settling g.D.Disk.tells p q (end_of_disk c.settle.result) c.settle.ensures.settling (λ settled. ap (seen_all g.D.Disk) (c.settle.ensures.quiet settled))) tt tt)

pub begin_chosen-requires-clause-rests : goal.begin_chosen-requires-clause-rests
begin_chosen-requires-clause-rests g c =
    let was = c.requires.stands in
    let then = c.in_ok-settle.ensures.settled was.0 was.1 in
    (memory_in c.settle.new.self, record then.0 { faults = (parts g.D.Disk c.settle.new.self).at.faults }, then.2)

pub returns-clause-acted : goal.returns-clause-acted
returns-clause-acted g c who =
    let p = parts g.D.Disk c.args.self.now in
    let q = parts g.D.Disk c.settle.new.self in
    let w = memory_in c.settle.new.self in
    let new = parts_beside g.D.Disk c.begin_chosen.new.self w in
    let call = c.begin_chosen.ensures in
    let act = MoveBegin c.args.store c.args.now in
    let given = reply_of g.D.Reader.ReadAt.tells g.D.Reader.ReadAt.bytes g.D.Reader.ReadAt.faults (answer_of c.begin_chosen.result) in
    let reads = reads_none g.D.Disk.tells q new (ap (seen_all g.D.Disk) call.store) in
    acted g.D.Disk.tells who act p given new (asked_then g.D.Disk.tells who act (Begins (store_of c.args.store) c.args.now) (begins_act who c.args.store c.args.now) p q c.settle.result c.settle.ensures.settling (λ settled. ap (seen_all g.D.Disk) (c.settle.ensures.quiet settled)) (λ m s. refl) c.in_ok-settle.ensures.settled (λ m s. refl) new given (rw call.store (omega arith))
    (begun_ends g.D.Disk.tells (store_of c.args.store) c.args.now q new g.row.D-Reader.Denot g.D.Reader.ReadAt.tells g.D.Reader.ReadAt.bytes g.D.Reader.ReadAt.faults c.begin_chosen.result (if_ok c.begin_chosen.result (λ begun goes. goes w refl) call.begins) (on_err c.begin_chosen.result _ _ (λ spent. spent w) call.spent) call.memory) reads
    (λ settled well. ok_tidy g.row.D-Reader.Denot g.D.Disk.tells g.D.Reader.ReadAt.tells g.D.Reader.ReadAt.bytes g.D.Reader.ReadAt.faults q new c.begin_chosen.result (if_ok c.begin_chosen.result (λ begun tidy. tidy w) call.tidy) well))
    (reads_then g.D.Disk.tells p q new (reads_settling g.D.Disk.tells p q (end_of_disk c.settle.result) c.settle.ensures.settling (λ settled. ap (seen_all g.D.Disk) (c.settle.ensures.quiet settled))) reads) tt tt

pub returns-in_err-settle-clause-quiet : goal.returns-in_err-settle-clause-quiet
returns-in_err-settle-clause-quiet g c = λ settled. ap (λ store. store.disk) (c.settle.ensures.quiet settled)

pub returns-clause-quiet : goal.returns-clause-quiet
returns-clause-quiet g c = λ settled. ap (λ store. store.disk) (c.begin_chosen.ensures.store ∙ c.settle.ensures.quiet settled)
