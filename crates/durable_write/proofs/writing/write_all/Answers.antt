use Rattle.std.proofs.Common.{◌≤◌, ℕ, sym, ◌∙◌, ap, subst}
use Rattle.disk_model.specs.Files.{Name, Files}
use Rattle.gate_journal.specs.DiskShown.{DiskShown, shown_by}
use Rattle.durable_write.specs.Held.{Shelf}
use Rattle.durable_write.specs.Flush.{with_files}
use Rattle.durable_write.specs.Stored.{AreSafe}
use Rattle.durable_write.proofs.Staying.{behind_same, still_safe, safe_both}
use Rattle.durable_write.proofs.Written.{synced_safe, writes_synced}
use Rattle.durable_write.proofs.writing.write_all.Goals as goal

pub returns-in_err-write_files-clause-goes : goal.returns-in_err-write_files-clause-goes
returns-in_err-write_files-clause-goes g c tells gr held fs safe makes = let says = c.write_files.ensures in record {
  any_moment = says.any_moment tells gr held fs safe makes;
  behind = says.behind tells gr held fs safe makes;
  still = says.still tells gr held fs safe makes;
}

pub returns-in_err-sync_files-clause-goes : goal.returns-in_err-sync_files-clause-goes
returns-in_err-sync_files-clause-goes g c tells gr held fs safe makes =
    let says = c.write_files.ensures in
    writes_synced held (shown_by g.D.Disk c.args.disk.now) (shown_by g.D.Disk c.write_files.new.disk) (shown_by g.D.Disk c.sync_files.new.disk) (says.any_moment tells gr held fs safe makes) (says.behind tells gr held fs safe makes) (says.still tells gr held fs safe makes)
    (c.sync_files.ensures.reads tells).any_moment (c.sync_files.ensures.reads tells).same

pub returns-clause-goes : goal.returns-clause-goes
returns-clause-goes g c tells gr held fs safe makes =
    let says = c.write_files.ensures in
    writes_synced held (shown_by g.D.Disk c.args.disk.now) (shown_by g.D.Disk c.write_files.new.disk) (shown_by g.D.Disk c.sync_files.new.disk) (says.any_moment tells gr held fs safe makes) (says.behind tells gr held fs safe makes) (says.still tells gr held fs safe makes)
    (c.sync_files.ensures.reads tells).any_moment (c.sync_files.ensures.reads tells).same

pub returns-in_err-sync_files-clause-elsewhere : goal.returns-in_err-sync_files-clause-elsewhere
returns-in_err-sync_files-clause-elsewhere g c tells n other = ap (λ (f : Files). f n) (c.sync_files.ensures.reads tells).same ∙ c.write_files.ensures.elsewhere tells n other

pub returns-in_err-sync_files-clause-others : goal.returns-in_err-sync_files-clause-others
returns-in_err-sync_files-clause-others g c tells n apart = ap (λ (f : Files). f n) (c.sync_files.ensures.reads tells).same ∙ c.write_files.ensures.others tells n apart

pub returns-in_err-sync_files-clause-no_more : goal.returns-in_err-sync_files-clause-no_more
returns-in_err-sync_files-clause-no_more g c tells n = subst (λ (o : Name → ℕ). o n ≤ g.D.Disk.opened c.args.disk.now n) (sym (c.sync_files.ensures.reads tells).same_opened) (c.write_files.ensures.no_more tells n)

pub returns-clause-elsewhere : goal.returns-clause-elsewhere
returns-clause-elsewhere g c tells n other = ap (λ (f : Files). f n) (c.sync_files.ensures.reads tells).same ∙ c.write_files.ensures.elsewhere tells n other

pub returns-clause-others : goal.returns-clause-others
returns-clause-others g c tells n apart = ap (λ (f : Files). f n) (c.sync_files.ensures.reads tells).same ∙ c.write_files.ensures.others tells n apart

pub returns-clause-no_more : goal.returns-clause-no_more
returns-clause-no_more g c tells n = subst (λ (o : Name → ℕ). o n ≤ g.D.Disk.opened c.args.disk.now n) (sym (c.sync_files.ensures.reads tells).same_opened) (c.write_files.ensures.no_more tells n)

pub returns-clause-written : goal.returns-clause-written
returns-clause-written g c tells gr held fs safe makes =
    let shelf : Shelf = (c.args.store, c.args.rows.now) in
    let old = c.args.disk.now in
    let mid = c.write_files.new.disk in
    let past = g.D.Disk.past c.sync_files.new.disk in
    let between : DiskShown = record { files = g.D.Disk.files mid; opened = g.D.Disk.opened mid; past = past } in
    let behind = behind_same held (g.D.Disk.past old) (g.D.Disk.past mid) past (c.write_files.ensures.any_moment tells gr held fs safe makes) (c.sync_files.ensures.reads tells).any_moment in
    let now = still_safe gr shelf (shown_by g.D.Disk old) between held safe behind (c.write_files.ensures.still tells gr held fs safe makes) (c.write_files.ensures.no_more tells) in
    let more = synced_safe gr shelf held c.args.writes.now fs between safe.of_rows makes.each (c.in_ok-write_files.ensures.written tells gr held fs safe makes) (c.in_ok-sync_files.ensures.durable tells) in
    let both = safe_both held fs between now.safe more in
    subst (λ (f : Files). AreSafe (with_files held fs) (record { files = f; opened = g.D.Disk.opened c.sync_files.new.disk; past = past })) (sym (c.sync_files.ensures.reads tells).same)
    (subst (λ (o : Name → ℕ). AreSafe (with_files held fs) (record between { opened = o })) (sym (c.sync_files.ensures.reads tells).same_opened) both)
