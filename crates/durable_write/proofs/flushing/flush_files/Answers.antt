use Rattle.std.proofs.Common.{◌≡◌, ◌*◌, List, length, map, sym, ◌∙◌, ap, subst, arith}
use Rattle.std.proofs.lemmas.Result.{err_from_is_err_and}
use Rattle.gate_journal.specs.DiskShown.{shown_by}
use Rattle.store_manifest.specs.declared.entry.Change.{Change}
use Rattle.store_manifest.specs.Entries.{AllCanFollow, all_changed}
use Rattle.store_manifest.specs.Batches.{batch_of}
use Rattle.durable_write.specs.Flush.{with_files}
use Rattle.durable_write.specs.Relisting.{ManifestEnds}
use Rattle.durable_write.specs.Writing.{set_of}
use Rattle.durable_write.proofs.Commits.{all_follow, ends_early}
use Rattle.durable_write.proofs.Staying.{sets_long}
use Rattle.durable_write.proofs.Written.{can_list, flushes_committed, flushes_nothing, stays_committed, stays_none, stays_written, writes_none}
use Rattle.durable_write.proofs.flushing.flush_files.Goals as goal

pub write_all-requires-clause-can : goal.write_all-requires-clause-can
write_all-requires-clause-can g c tells =
    let can = c.requires.stored tells in
    (c.args.manifest.now.granularity, can.2, can.3, can.4.safe, can.5)

pub relist-requires-clause-follow : goal.relist-requires-clause-follow
relist-requires-clause-follow g c =
    subst (λ (cs : List Change). AllCanFollow c.args.manifest.now.granularity c.args.manifest.now.entries cs) (sym (c.deref.ensures.value ∙ c.in_ok-changes.ensures))
    (all_follow c.args.manifest.now.granularity c.args.writes.now c.args.manifest.now.entries c.requires.parts)

pub relist-requires-clause-few : goal.relist-requires-clause-few
relist-requires-clause-few g c =
    let long : length (batch_of c.deref.result.now) ≡ length c.args.writes.now * 49 = ap (λ (cs : List Change). length (batch_of cs)) (c.deref.ensures.value ∙ c.in_ok-changes.ensures) ∙ sets_long c.args.writes.now in
    omega (arith, long, c.requires.few)

pub relist-requires-clause-can : goal.relist-requires-clause-can
relist-requires-clause-can g c tells =
    let is = c.requires.stored tells in
    let m = c.args.manifest.now in
    let says = c.write_all.ensures in (
      is.0,
      (c.args.store, c.args.rows.now),
      is.1,
      with_files is.1 is.3,
      can_list is.0 m (c.args.store, c.args.rows.now) (shown_by g.D.Disk c.args.disk.now) (shown_by g.D.Disk c.write_all.new.disk) is.1 is.2 is.3 is.4 (says.goes tells m.granularity is.2 is.3 is.4.safe is.5) (says.no_more tells)
          c.args.writes.now c.deref.result.now is.5 (c.deref.ensures.value ∙ c.in_ok-changes.ensures) (c.in_ok-write_all.ensures.written tells m.granularity is.2 is.3 is.4.safe is.5),
    )

pub returns-in_err-changes-clause-flushes : goal.returns-in_err-changes-clause-flushes
returns-in_err-changes-clause-flushes g c tells catalogue held ahead fs has makes =
    let p = err_from_is_err_and c.from_residual.result c.from_residual.ensures.1 in
    flushes_nothing catalogue c.args.manifest.now (c.args.store, c.args.rows.now) (shown_by g.D.Disk c.args.disk.now) (shown_by g.D.Disk c.args.disk.now) held ahead fs has (writes_none ahead (shown_by g.D.Disk c.args.disk.now) has.safe.safe.long) (λ n. omega arith)
    p.0 c.from_residual.result p.1 c.requires.sound

pub returns-in_err-write_all-clause-flushes : goal.returns-in_err-write_all-clause-flushes
returns-in_err-write_all-clause-flushes g c tells catalogue held ahead fs has makes =
    let p = err_from_is_err_and c.from_residual-in_err-write_all.result c.from_residual-in_err-write_all.ensures.1 in
    let m = c.args.manifest.now in
    let says = c.write_all.ensures in
    flushes_nothing catalogue m (c.args.store, c.args.rows.now) (shown_by g.D.Disk c.args.disk.now) (shown_by g.D.Disk c.write_all.new.disk) held ahead fs has (says.goes tells m.granularity ahead fs has.safe makes) (says.no_more tells)
    p.0 c.from_residual-in_err-write_all.result p.1 c.requires.sound

pub returns-clause-flushes : goal.returns-clause-flushes
returns-clause-flushes g c tells catalogue held ahead fs has makes =
    let m = c.args.manifest.now in
    let says = c.write_all.ensures in
    let goes = says.goes tells m.granularity ahead fs has.safe makes in
    let can = can_list catalogue m (c.args.store, c.args.rows.now) (shown_by g.D.Disk c.args.disk.now) (shown_by g.D.Disk c.write_all.new.disk) held ahead fs has goes (says.no_more tells)
    c.args.writes.now c.deref.result.now makes (c.deref.ensures.value ∙ c.in_ok-changes.ensures) (c.in_ok-write_all.ensures.written tells m.granularity ahead fs has.safe makes) in
    flushes_committed catalogue m (c.args.store, c.args.rows.now) (shown_by g.D.Disk c.args.disk.now) (shown_by g.D.Disk c.write_all.new.disk) held ahead fs has goes (says.no_more tells) (shown_by g.D.Disk c.relist.new.disk) (c.relist.ensures.touches tells)
    c.relist.new.manifest c.relist.result (c.relist.ensures.lists tells catalogue (c.args.store, c.args.rows.now) held (with_files held fs) can)

pub returns-in_err-changes-clause-stays : goal.returns-in_err-changes-clause-stays
returns-in_err-changes-clause-stays g c tells = stays_none (c.args.store, c.args.rows.now) c.args.manifest.now c.args.writes.now (shown_by g.D.Disk c.args.disk.now)

pub returns-in_err-write_all-clause-stays : goal.returns-in_err-write_all-clause-stays
returns-in_err-write_all-clause-stays g c tells =
    let is = c.requires.stored tells in
    let m = c.args.manifest.now in
    let says = c.write_all.ensures in
    stays_written is.0 m (c.args.store, c.args.rows.now) (shown_by g.D.Disk c.args.disk.now) (shown_by g.D.Disk c.write_all.new.disk) is.1 is.2 is.3 is.4 (says.goes tells m.granularity is.2 is.3 is.4.safe is.5) (says.no_more tells) c.args.writes.now (says.others tells)

pub returns-clause-stays : goal.returns-clause-stays
returns-clause-stays g c tells =
    let is = c.requires.stored tells in
    let m = c.args.manifest.now in
    let says = c.write_all.ensures in
    let goes = says.goes tells m.granularity is.2 is.3 is.4.safe is.5 in
    stays_committed is.0 m (c.args.store, c.args.rows.now) (shown_by g.D.Disk c.args.disk.now) (shown_by g.D.Disk c.write_all.new.disk) is.1 is.2 is.3 is.4 goes (says.no_more tells) (shown_by g.D.Disk c.relist.new.disk) (c.relist.ensures.touches tells) c.args.writes.now
    (stays_written is.0 m (c.args.store, c.args.rows.now) (shown_by g.D.Disk c.args.disk.now) (shown_by g.D.Disk c.write_all.new.disk) is.1 is.2 is.3 is.4 goes (says.no_more tells) c.args.writes.now (says.others tells))

pub returns-in_err-changes-clause-ends : goal.returns-in_err-changes-clause-ends
returns-in_err-changes-clause-ends g c =
    let p = err_from_is_err_and c.from_residual.result c.from_residual.ensures.1 in
    let m = c.args.manifest.now in
    ends_early p.0 c.from_residual.result p.1 m c.requires.sound (all_changed m.entries (map set_of c.args.writes.now))

pub returns-in_err-write_all-clause-ends : goal.returns-in_err-write_all-clause-ends
returns-in_err-write_all-clause-ends g c =
    let p = err_from_is_err_and c.from_residual-in_err-write_all.result c.from_residual-in_err-write_all.ensures.1 in
    let m = c.args.manifest.now in
    ends_early p.0 c.from_residual-in_err-write_all.result p.1 m c.requires.sound (all_changed m.entries (map set_of c.args.writes.now))

pub returns-clause-ends : goal.returns-clause-ends
returns-clause-ends g c =
    let m = c.args.manifest.now in
    subst (λ (cs : List Change). ManifestEnds m c.relist.new.manifest (all_changed m.entries cs) c.relist.result) (c.deref.ensures.value ∙ c.in_ok-changes.ensures) c.relist.ensures.ends
