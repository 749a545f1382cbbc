use Rattle.std.proofs.Common.{◌≡◌, List, length, get_or, map, Result, Ok, Err, sym, ◌∙◌, ap, subst, arith}
use Rattle.std.specs.Prelude.{All}
use Rattle.std.proofs.lemmas.Result.{err_from_is_err_and}
use Rattle.std.proofs.lemmas.List.{length-map}
use Rattle.gate_journal.specs.DiskShown.{shown_by}
use Rattle.disk_model.specs.declared.disk.DiskErr.{DiskErr}
use Rattle.partition_names.specs.declared.granularity.Granularity.{Granularity}
use Rattle.partition_names.specs.Part.{IsPart}
use Rattle.store_manifest.specs.declared.entry.Entry.{Entry}
use Rattle.store_manifest.specs.declared.entry.Change.{Change}
use Rattle.store_manifest.specs.Entries.{AllCanFollow, all_changed}
use Rattle.store_manifest.proofs.Written.{batch_length}
use Rattle.durable_write.specs.Ahead.{CanRelist}
use Rattle.durable_write.specs.Relisting.{ManifestEnds, Relists}
use Rattle.durable_write.proofs.Commits.{ends_early, lists_nothing, touches_nothing}
use Rattle.durable_write.proofs.Staying.{behind_none, still_held}
use Rattle.etl_mover.specs.Move.{set_entry}
use Rattle.etl_mover.proofs.Written.{may_publish, sets_follow}
use Rattle.etl_mover.proofs.Steps.{pending_few}
use Rattle.etl_mover.proofs.moving.Move.publish.Goals as goal

pub relist-requires-clause-follow : goal.relist-requires-clause-follow
relist-requires-clause-follow g c =
    let move = c.args.self.now in
    let m = c.args.dest.now in
    let parts : All (λ (e : Entry). IsPart m.granularity e.part) move.pending = λ k d lt. subst (λ (x : Granularity). IsPart x (get_or move.pending k d).part) (sym c.requires.same) (c.requires.running.1.pending k d lt).0 in
    subst (λ (cs : List Change). AllCanFollow m.granularity m.entries cs) (sym (c.deref.ensures.value ∙ c.in_ok-changes.ensures)) (sets_follow m.granularity move.pending m.entries parts)

pub relist-requires-clause-few : goal.relist-requires-clause-few
relist-requires-clause-few g c =
    let move = c.args.self.now in
    let is = c.requires.running.1 in
    let long : length c.deref.result.now ≡ length move.pending = ap length (c.deref.ensures.value ∙ c.in_ok-changes.ensures) ∙ length-map move.pending set_entry in
    omega (arith, batch_length c.deref.result.now, long, pending_few c.requires.running.0 move is, is.few)

pub relist-requires-clause-can : goal.relist-requires-clause-can
relist-requires-clause-can g c tells =
    let can = c.requires.can tells in
    (can.0, can.1, can.2, can.3, subst (CanRelist can.0 c.args.dest.now can.1 _ can.2 can.3) (sym (c.deref.ensures.value ∙ c.in_ok-changes.ensures)) (may_publish can.0 c.args.dest.now can.1 _ can.2 can.3 c.args.self.now can.4 can.5))

pub returns-in_err-changes-clause-relists : goal.returns-in_err-changes-clause-relists
returns-in_err-changes-clause-relists g c tells catalogue shelf held ahead has is =
    let m = c.args.dest.now in
    let disk = c.args.disk.now in
    let p = err_from_is_err_and c.from_residual.result c.from_residual.ensures.1 in
    lists_nothing p.0 c.from_residual.result p.1 m c.requires.sound catalogue shelf (shown_by g.D.Disk disk) (shown_by g.D.Disk disk) held ahead (still_held catalogue m shelf (shown_by g.D.Disk disk) (g.D.Disk.past disk) held ahead has.stored (behind_none held (g.D.Disk.past disk))) has.stored

pub returns-in_err-changes-clause-commits : goal.returns-in_err-changes-clause-commits
returns-in_err-changes-clause-commits g c =
    let m = c.args.dest.now in
    let p = err_from_is_err_and c.from_residual.result c.from_residual.ensures.1 in
    ends_early p.0 c.from_residual.result p.1 m c.requires.sound (all_changed m.entries (map set_entry c.args.self.now.pending))

pub returns-in_err-changes-clause-touches : goal.returns-in_err-changes-clause-touches
returns-in_err-changes-clause-touches g c tells = touches_nothing c.args.dest.now.journal.name (shown_by g.D.Disk c.args.disk.now)

pub returns-in_err-relist-clause-relists : goal.returns-in_err-relist-clause-relists
returns-in_err-relist-clause-relists g c tells catalogue shelf held ahead has is =
    let m = c.args.dest.now in
    let p = err_from_is_err_and c.from_residual-in_err-relist.result c.from_residual-in_err-relist.ensures.1 in
    let can = subst (CanRelist catalogue m shelf (shown_by g.D.Disk c.args.disk.now) held ahead) (sym (c.deref.ensures.value ∙ c.in_ok-changes.ensures)) (may_publish catalogue m shelf _ held ahead c.args.self.now has is) in
    subst (λ (r : Result (Unit {0}) DiskErr). Relists catalogue m c.relist.new.manifest shelf r (shown_by g.D.Disk c.args.disk.now) (shown_by g.D.Disk c.relist.new.disk) held ahead) (sym (p.1 ∙ ap (λ (e : DiskErr). Err e) p.2))
    (c.in_err-relist.ensures.lists tells catalogue shelf held ahead can)

pub returns-in_err-relist-clause-commits : goal.returns-in_err-relist-clause-commits
returns-in_err-relist-clause-commits g c =
    let m = c.args.dest.now in
    let p = err_from_is_err_and c.from_residual-in_err-relist.result c.from_residual-in_err-relist.ensures.1 in
    subst (λ (r : Result (Unit {0}) DiskErr). ManifestEnds m c.relist.new.manifest (all_changed m.entries (map set_entry c.args.self.now.pending)) r) (sym (p.1 ∙ ap (λ (e : DiskErr). Err e) p.2))
    (subst (λ (cs : List Change). ManifestEnds m c.relist.new.manifest (all_changed m.entries cs) (Err c.in_err-relist.field-0.0)) (c.deref.ensures.value ∙ c.in_ok-changes.ensures) c.in_err-relist.ensures.ends)

pub returns-in_err-relist-clause-touches : goal.returns-in_err-relist-clause-touches
returns-in_err-relist-clause-touches g c tells = c.relist.ensures.touches tells

pub returns-clause-relists : goal.returns-clause-relists
returns-clause-relists g c tells catalogue shelf held ahead has is =
    let m = c.args.dest.now in
    let can = subst (CanRelist catalogue m shelf (shown_by g.D.Disk c.args.disk.now) held ahead) (sym (c.deref.ensures.value ∙ c.in_ok-changes.ensures)) (may_publish catalogue m shelf _ held ahead c.args.self.now has is) in
    c.in_ok-relist.ensures.lists tells catalogue shelf held ahead can

pub returns-clause-commits : goal.returns-clause-commits
returns-clause-commits g c =
    let m = c.args.dest.now in
    subst (λ (cs : List Change). ManifestEnds m c.relist.new.manifest (all_changed m.entries cs) (Ok tt)) (c.deref.ensures.value ∙ c.in_ok-changes.ensures) c.in_ok-relist.ensures.ends

pub returns-clause-touches : goal.returns-clause-touches
returns-clause-touches g c tells = c.relist.ensures.touches tells
