use Rattle.std.proofs.Common.{subst, sym, None}
use Rattle.std.specs.Prelude.{OnOk, Result, IsErr}
use Rattle.disk_model.specs.Files.{Rose}
use Rattle.disk_model.specs.Past.{Only}
use Rattle.disk_model.specs.declared.disk.DiskErr.{DiskErr}
use Rattle.gate_journal.specs.DiskShown.{shown_by}
use Rattle.durable_write.proofs.Staying.{rose_after}
use Rattle.tier_store.specs.Limbo.{AreFree}
use Rattle.tier_store.proofs.Removals.{both_err, own_gone, own_removed, removes_read, gone_for_good, both_done, rose_until}
use Rattle.tier_store.proofs.removing.remove_for_good.Goals as goal

pub remove_all-removed-requires : goal.remove_all-removed-requires
remove_all-removed-requires g c tells = ((c.requires tells).once, (c.requires tells).there)

pub returns-clause-removes : goal.returns-clause-removes
returns-clause-removes g c tells =
    let first = c.args.disk.now in
    let mid = c.remove_all-removed.new.disk in
    let new = c.sync_unneeded-synced.new.disk in
    removes_read c.args.pinned.now c.args.copied.now c.args.files.now (shown_by g.D.Disk first) (shown_by g.D.Disk mid) (shown_by g.D.Disk new)
    (own_removed c.args.pinned.now c.args.copied.now c.args.files.now c.args.removable.now (shown_by g.D.Disk first) (shown_by g.D.Disk mid) (c.requires tells) (c.remove_all-removed.ensures.removes tells))
    (c.sync_unneeded-synced.ensures.reads tells).same (c.sync_unneeded-synced.ensures.reads tells).same_opened (c.sync_unneeded-synced.ensures.reads tells).any_moment

pub returns-clause-gone : goal.returns-clause-gone
returns-clause-gone g c tells =
    let first = c.args.disk.now in
    let mid = c.remove_all-removed.new.disk in
    let new = c.sync_unneeded-synced.new.disk in
    subst (λ (x : Result (Unit {0}) DiskErr). OnOk x (AreFree c.args.pinned.now c.args.copied.now (λ n. Only (g.D.Disk.past new) n None) c.args.files.now)) (sym c.and.ensures)
    (both_done c.sync_unneeded-synced.result c.remove_all-removed.result _ _ _
    (λ durable gone.
    gone_for_good c.args.pinned.now c.args.copied.now (g.D.Disk.files mid) (g.D.Disk.past new) c.args.files.now
    (own_gone c.args.pinned.now c.args.copied.now c.args.files.now c.args.removable.now (shown_by g.D.Disk first) (shown_by g.D.Disk mid) (c.requires tells) (c.remove_all-removed.ensures.removes tells) gone) durable)
    (c.sync_unneeded-synced.ensures.durable tells) (c.remove_all-removed.ensures.gone tells))

pub returns-clause-cause : goal.returns-clause-cause
returns-clause-cause g c is =
    let first = g.D.Disk.faults c.args.disk.now in
    let mid = g.D.Disk.faults c.remove_all-removed.new.disk in
    let new = g.D.Disk.faults c.sync_unneeded-synced.new.disk in
    both_err c.sync_unneeded-synced.result c.remove_all-removed.result (Rose first new) (λ failed. rose_after first mid new c.remove_all-removed.ensures.faults (c.sync_unneeded-synced.ensures.cause failed))
    (λ failed. rose_until first mid new c.sync_unneeded-synced.ensures.faults (c.remove_all-removed.ensures.cause failed)) (subst (λ (x : Result (Unit {0}) DiskErr). IsErr x) c.and.ensures is)
