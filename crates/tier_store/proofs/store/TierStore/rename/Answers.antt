use Rattle.std.proofs.Common.{refl}
use Rattle.gate_journal.specs.DiskShown.{shown_by}
use Rattle.durable_write.specs.Ends.{end_of_rename}
use Rattle.tier_store.specs.Change.{renaming}
use Rattle.tier_store.proofs.RowCalls.{rename_changes}
use Rattle.tier_store.proofs.Showing.{rows_keep, renames_on}
use Rattle.tier_store.proofs.Frames.{rows_frame, rows_tidy}
use Rattle.tier_store.proofs.store.TierStore.rename.Goals as goal

pub returns-clause-changes : goal.returns-clause-changes
returns-clause-changes g c =
    let self = c.args.self.now in
    let says = c.rename.ensures in
    rename_changes (shown_by g.D.Disk) g.D.Disk.faults g.D.Disk.tells self.catalogue c.rename.new.self self.manifests.items self.disk c.rename.new.disk c.args.row c.requires.row c.args.name.now c.rename.result
    says.ends (λ tells. (says.commits tells).any_moment) (λ tells. (says.commits tells).elsewhere) (λ tells. (says.one_file tells).opened) says.faults says.exactly
    says.id (λ tells. (says.commits tells).made) says.refusal (λ tells. (says.commits tells).doubt) says.cause says.untouched

pub returns-clause-keeps : goal.returns-clause-keeps
returns-clause-keeps g c = rows_keep g.D.Disk.tells (renaming c.args.row c.args.name.now) _ _ (end_of_rename c.rename.result) c.requires.has (renames_on c.args.row c.args.name.now) (returns-clause-changes g c)

pub returns-clause-frame : goal.returns-clause-frame
returns-clause-frame g c =
    let says = c.rename.ensures in
    rows_frame g.D.Disk.tells (renaming c.args.row c.args.name.now) _ _ (end_of_rename c.rename.result) _ refl c.requires.has (renames_on c.args.row c.args.name.now) (returns-clause-changes g c) (λ tells. (says.commits tells).elsewhere) (λ tells. (says.one_file tells).opened) (λ tells. (says.commits tells).any_moment)

pub returns-clause-tidy : goal.returns-clause-tidy
returns-clause-tidy g c = rows_tidy g.D.Disk.tells (renaming c.args.row c.args.name.now) _ _ end_of_rename c.rename.result (λ a. refl) c.requires.has (returns-clause-changes g c) (returns-clause-frame g c) (λ tells. (c.rename.ensures.commits tells).elsewhere)
