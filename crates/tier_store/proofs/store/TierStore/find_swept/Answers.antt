use Rattle.std.proofs.Common.{List, subst, sym}
use Rattle.std.specs.Prelude.{IfOk}
use Rattle.disk_model.specs.Files.{Files}
use Rattle.gate_journal.specs.DiskShown.{shown_by}
use Rattle.store_manifest.specs.Entries.{InOrder}
use Rattle.store_manifest.specs.Manifest.{ManifestState}
use Rattle.tier_store.specs.Limbo.{AreRemovable, IsLeftOver, NamesDiffer}
use Rattle.tier_store.specs.Seen.{AtEach}
use Rattle.tier_store.specs.declared.limbo.Retired.{Retired}
use Rattle.tier_store.proofs.ReadCalls.{reads_look}
use Rattle.tier_store.proofs.Removals.{lists_in_order}
use Rattle.tier_store.proofs.store.TierStore.find_swept.Goals as goal

pub find_removable-requires : goal.find_removable-requires
find_removable-requires g c = subst NamesDiffer (sym c.as_slice-limbo.ensures.value) c.requires.stands.1

pub returns-clause-found : goal.returns-clause-found
returns-clause-found g c tells =
    let self = c.args.self.now in
    let disk = g.D.Disk in
    let held = c.requires.has in
    let r = c.find_removable.result in
    let lists = subst (λ (ms : List ManifestState). AtEach ms (λ i m. InOrder m.entries) → IfOk r (λ names. AreRemovable (IsLeftOver ms self.pinned c.args.copied.now) c.as_slice-limbo.result.now (disk.files self.disk) names.items)) c.deref.ensures.value (c.find_removable.ensures.found tells) in
    let here = lists (lists_in_order self.catalogue self.manifests.items held.0 held.1.known) in
    subst (λ (f : Files). IfOk r (λ names. AreRemovable (IsLeftOver self.manifests.items self.pinned c.args.copied.now) self.limbo.items f names.items)) (sym (c.find_removable.ensures.reads tells).same)
    (subst (λ (l : List Retired). IfOk r (λ names. AreRemovable (IsLeftOver self.manifests.items self.pinned c.args.copied.now) l (disk.files self.disk) names.items)) c.as_slice-limbo.ensures.value here)

pub returns-clause-looks : goal.returns-clause-looks
returns-clause-looks g c =
    let self = c.args.self.now in
    let disk = g.D.Disk in
    reads_look (shown_by disk) disk.faults disk.tells self.catalogue self.manifests.items self.limbo.items self.disk c.find_removable.new.disk c.find_removable.result c.find_removable.ensures.reads c.find_removable.ensures.faults c.find_removable.ensures.cause
