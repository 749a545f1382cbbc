use Rattle.gate_journal.specs.DiskShown.{shown_by}
use Rattle.store_manifest.specs.Entries.{all_changed}
use Rattle.durable_write.proofs.Commits.{commit_ends, commit_lists, commit_touches}
use Rattle.durable_write.proofs.relisting.relist.Goals as goal

pub returns-clause-ends : goal.returns-clause-ends
returns-clause-ends g c =
    let m = c.args.manifest.now in
    let says = c.commit.ensures in
    commit_ends m c.commit.new.self (all_changed m.entries c.args.changes.now) c.commit.result says.ends

pub returns-clause-touches : goal.returns-clause-touches
returns-clause-touches g c tells =
    let m = c.args.manifest.now in
    let says = c.commit.ensures in
    commit_touches m c.commit.new.self (all_changed m.entries c.args.changes.now) c.commit.result (shown_by g.D.Disk c.args.disk.now) (shown_by g.D.Disk c.commit.new.disk) says.ends.name (says.commits tells)

pub returns-clause-lists : goal.returns-clause-lists
returns-clause-lists g c tells catalogue shelf held next can =
    let says = c.commit.ensures in
    commit_lists catalogue c.args.manifest.now c.commit.new.self shelf (shown_by g.D.Disk c.args.disk.now) (shown_by g.D.Disk c.commit.new.disk) held next c.args.changes.now can c.commit.result (says.commits tells) (returns-clause-ends g c) says.ends.unsound
