use Rattle.std.proofs.Common.{◌≡◌, List, ◌+◌, ap, refl, sym, subst, arith}
use Rattle.std.specs.Prelude.{Some, slice_get}
use Rattle.disk_model.specs.Files.{Name}
use Rattle.gate_journal.specs.DiskShown.{shown_by}
use Rattle.store_manifest.proofs.Written.{batch_length}
use Rattle.store_manifest.specs.Entries.{AllCanFollow}
use Rattle.durable_write.specs.Ends.{end_of_disk}
use Rattle.durable_write.specs.Held.{Filed}
use Rattle.durable_write.specs.Three.{Anything}
use Rattle.tier_store.specs.Retiring.{dropping}
use Rattle.tier_store.specs.Change.{CanList, Has}
use Rattle.tier_store.specs.Seen.{seen}
use Rattle.tier_store.specs.Stores.{Stores, tier}
use Rattle.tier_store.proofs.Showing.{can_drop, dropped_shown}
use Rattle.tier_store.proofs.Removals.{oldest_follow, lists_in_order}
use Rattle.tier_store.proofs.Places.{manifest_here, holding, within_three}
use Rattle.tier_store.proofs.OnePlace.{can_relist, call_ends}
use Rattle.tier_store.proofs.RunningMoves.{commit_leaves_files}
use Rattle.tier_store.proofs.store.TierStore.drop_oldest.Goals.{After-index_mut}
use Rattle.tier_store.proofs.store.TierStore.drop_oldest.Goals as goal

here : (g : _) (c : After-index_mut g) → slice_get c.args.self.now.manifests.items c.args.place ≡ Some c.index_mut.result.now
here g c = manifest_here c.args.self.now.manifests.items c.args.place c.index_mut.result.now c.index_mut.ensures.value c.requires.within

abbrev can : (g : _) (c : After-index_mut g) (held : Stores) → Has g.D.Disk.tells (seen g.D.Disk c.args.self.now) held → (files : List Filed) × CanList c.args.place g.D.Disk.tells (seen g.D.Disk c.args.self.now) c.args.drops.now held files
can g c = can_drop g.D.Disk.tells (seen g.D.Disk c.args.self.now) c.args.place c.args.row c.args.n c.index_mut.result.now c.args.drops.now (here g c) (c.requires.drops c.index_mut.result.now (here g c))

pub relist-requires-clause-sound : goal.relist-requires-clause-sound
relist-requires-clause-sound g c = c.requires.has.1.settled.manifests c.args.place c.index_mut.result.now (here g (goal.at.relist-requires-clause-sound g c).After-index_mut)

pub relist-requires-clause-follow : goal.relist-requires-clause-follow
relist-requires-clause-follow g c =
    let self = c.args.self.now in
    let m = c.index_mut.result.now in
    let here = here g (goal.at.relist-requires-clause-follow g c).After-index_mut in
    subst (AllCanFollow m.granularity m.entries) (sym (c.requires.drops m here)) (oldest_follow m.granularity c.args.row c.args.n m.entries (lists_in_order self.catalogue self.manifests.items c.requires.has.0 c.requires.has.1.known c.args.place m here))

pub relist-requires-clause-few : goal.relist-requires-clause-few
relist-requires-clause-few g c = omega (arith, batch_length c.args.drops.now, c.requires.few)

pub relist-requires-clause-can : goal.relist-requires-clause-can
relist-requires-clause-can g c tells =
    let self = c.args.self.now in
    let was = c.requires.has in
    let at = (goal.at.relist-requires-clause-can g c).After-index_mut in (
      self.catalogue.journal,
      (c.args.place + 1, self.catalogue.rows),
      tier c.args.place was.0,
      holding c.args.place was.0 (can g at was.0 was.1).0,
      can_relist (shown_by g.D.Disk) g.D.Disk.faults g.D.Disk.tells c.args.self.now.catalogue c.args.self.now.manifests.items c.args.place c.index_mut.result.now c.index_mut.result.now (here g at) self.disk self.disk c.args.drops.now (can g at) was.0 was.1 tells,
    )

pub returns-clause-changes : goal.returns-clause-changes
returns-clause-changes g c =
    let self = c.args.self.now in
    let says = c.relist.ensures in
    let at = (goal.at.returns-clause-changes g c).After-index_mut in
    call_ends (shown_by g.D.Disk) g.D.Disk.faults g.D.Disk.tells self.catalogue self.manifests.items c.args.place c.index_mut.result.now c.relist.new.manifest (here g at) self.disk c.relist.new.disk c.args.drops.now (can g at)
    says.touches (λ tells. c.requires.has) says.faults (dropping c.args.place c.args.row c.args.n) (λ held has. refl) (λ a held has. tt) c.relist.result says.ends says.lists says.cause

pub returns-clause-shown : goal.returns-clause-shown
returns-clause-shown g c =
    let was = c.requires.has in
    let m = c.index_mut.result.now in
    let here = here g (goal.at.returns-clause-shown g c).After-index_mut in
    dropped_shown g.D.Disk.tells c.args.place c.args.row c.args.n _ _ was.0 was.1 (within_three c.args.self.now.manifests.items c.args.place m was.1.known.three here) (end_of_disk c.relist.result) (returns-clause-changes g c) refl (λ f part. c.requires.handed was.0 f was.1.known part) m here
    (λ tells. (c.relist.ensures.touches tells).elsewhere)

pub returns-clause-leaves : goal.returns-clause-leaves
returns-clause-leaves g c =
    let touches = c.relist.ensures.touches in
    let m = c.index_mut.result.now in
    commit_leaves_files g.D.Disk.tells _ _ m.journal.name Anything refl (λ tells. ap (λ (n : Name). n.0) ((c.requires.has.1.disk tells).each c.args.place m (here g (goal.at.returns-clause-leaves g c).After-index_mut)).named) (λ tells n apart. (touches tells).elsewhere n apart)
    (λ tells. (touches tells).no_more) (λ tells. (touches tells).frame)
