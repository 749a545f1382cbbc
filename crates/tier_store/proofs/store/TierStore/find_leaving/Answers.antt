use Rattle.std.proofs.Common.{[], refl, subst, sym}
use Rattle.std.specs.Prelude.{IfOk}
use Rattle.disk_model.specs.Files.{Files}
use Rattle.gate_journal.specs.DiskShown.{shown_by}
use Rattle.tier_store.specs.Limbo.{AreRemovable, IsLeftOver, IsUseless}
use Rattle.tier_store.proofs.ReadCalls.{if_ok_to, reads_look}
use Rattle.tier_store.proofs.RunningMoves.{read_names}
use Rattle.tier_store.proofs.Removals.{found_useless}
use Rattle.tier_store.proofs.store.TierStore.find_leaving.Goals as goal

pub returns-clause-found : goal.returns-clause-found
returns-clause-found g c tells =
    let self = c.args.self.now in
    let disk = g.D.Disk in
    let files = c.args.files.now in
    let r = c.find_removable.result in
    subst (λ (f : Files). IfOk r (λ names. AreRemovable (IsUseless self.pinned []) files f names.items)) (sym (c.find_removable.ensures.reads tells).same)
    (if_ok_to r (λ names. AreRemovable (IsLeftOver [] self.pinned []) files (disk.files self.disk) names.items) (λ names. AreRemovable (IsUseless self.pinned []) files (disk.files self.disk) names.items)
    (λ names found. found_useless self.pinned [] files (disk.files self.disk) names.items found) (c.find_removable.ensures.found tells (λ i m here. absurd (cc (here)))))

pub returns-clause-looks : goal.returns-clause-looks
returns-clause-looks g c =
    let self = c.args.self.now in
    let disk = g.D.Disk in
    reads_look (shown_by disk) disk.faults disk.tells self.catalogue self.manifests.items self.limbo.items self.disk c.find_removable.new.disk c.find_removable.result c.find_removable.ensures.reads c.find_removable.ensures.faults c.find_removable.ensures.cause

pub returns-clause-later : goal.returns-clause-later
returns-clause-later g c names numbered =
    let reads = c.find_removable.ensures.reads in
    read_names names g.D.Disk.tells _ _ refl (λ tells. (reads tells).same) (λ tells. (reads tells).same_opened) (λ tells. (reads tells).any_moment)
