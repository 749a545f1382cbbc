use Rattle.std.proofs.Common.{◌≡◌, ◌<◌, ◌+◌, Some, length, ap, refl, arith}
use Rattle.disk_model.specs.Files.{Name}
use Rattle.gate_journal.specs.DiskShown.{shown_by}
use Rattle.pv_catalog.proofs.Standing.{keeps_same}
use Rattle.durable_write.specs.Ends.{end_of_disk}
use Rattle.durable_write.specs.Flush.{with_files}
use Rattle.durable_write.specs.Three.{Anything}
use Rattle.tier_store.specs.Moving.{publishing}
use Rattle.tier_store.specs.Pinned.{seen_all}
use Rattle.tier_store.specs.Seen.{seen}
use Rattle.std.specs.Prelude.{IsTrue, slice_get}
use Rattle.tier_store.specs.Stores.{tier}
use Rattle.tier_store.proofs.OnePlace.{own_store}
use Rattle.tier_store.proofs.Frames.{commit_frame}
use Rattle.tier_store.proofs.RunningMoves.{goes_on, has_copied, is_ahead, place_low, same_size, spares_then, publish_ends}
use Rattle.tier_store.proofs.Places.{manifest_here}
use Rattle.tier_store.proofs.Showing.{ends_held}
use Rattle.tier_store.proofs.Strays.{file_apart, ok_both, ok_settled, published_strays}
use Rattle.tier_store.proofs.store.TierStore.publish.Goals.{After-index_mut}
use Rattle.tier_store.proofs.store.TierStore.publish.Goals as goal

low : (g : _) (c : After-index_mut g) → c.args.place < length c.args.self.now.manifests.items
low g c = let runs = c.requires.runs in place_low c.args.place g.D.Disk.tells (seen_all g.D.Disk c.args.self.now) c.args.moving.now runs.0 runs.1 runs.3

here : (g : _) (c : After-index_mut g) → slice_get c.args.self.now.manifests.items c.args.place ≡ Some c.index_mut.result.now
here g c = manifest_here c.args.self.now.manifests.items c.args.place c.index_mut.result.now c.index_mut.ensures.value (low g c)

zero_store : (g : _) (c : After-index_mut g) → IsTrue g.D.Disk.tells → c.index_mut.result.now.journal.name.0 ≡ 0
zero_store g c tells = ap (λ (n : Name). n.0) ((c.requires.runs.2.disk tells).each c.args.place c.index_mut.result.now (here g c)).named

pub index_mut-requires : goal.index_mut-requires
index_mut-requires g c =
    let runs = c.requires.runs in
    let low = place_low c.args.place g.D.Disk.tells (seen_all g.D.Disk c.args.self.now) c.args.moving.now runs.0 runs.1 runs.3 in
    omega (arith, low, c.args.self.now.manifests.ok.0)

pub publish-requires-clause-running : goal.publish-requires-clause-running
publish-requires-clause-running g c = let runs = c.requires.runs.3 in (runs.fine, runs.running)

pub publish-requires-clause-sound : goal.publish-requires-clause-sound
publish-requires-clause-sound g c = c.requires.runs.2.settled.manifests c.args.place c.index_mut.result.now (here g (goal.at.publish-requires-clause-sound g c).After-index_mut)

pub publish-requires-clause-same : goal.publish-requires-clause-same
publish-requires-clause-same g c = let runs = c.requires.runs in same_size c.args.place g.D.Disk.tells _ c.args.moving.now runs.0 runs.1 c.index_mut.result.now (here g (goal.at.publish-requires-clause-same g c).After-index_mut) runs.3

pub publish-requires-clause-can : goal.publish-requires-clause-can
publish-requires-clause-can g c tells =
    let self = c.args.self.now in
    let runs = c.requires.runs in (
      self.catalogue.journal,
      (c.args.place + 1, self.catalogue.rows),
      tier c.args.place runs.1,
      with_files (tier c.args.place runs.1) runs.0,
      has_copied c.args.place g.D.Disk.tells (seen_all g.D.Disk c.args.self.now) runs.1 runs.0 runs.3.ahead c.index_mut.result.now (here g (goal.at.publish-requires-clause-can g c).After-index_mut) runs.2 tells (g.met.D.Disk.seen self.disk tells),
      is_ahead c.args.place g.D.Disk.tells (seen_all g.D.Disk c.args.self.now) c.args.moving.now runs.0 runs.1 runs.3,
    )

pub returns-clause-changes : goal.returns-clause-changes
returns-clause-changes g c files =
    let self = c.args.self.now in
    let runs = c.requires.runs in
    let m = c.index_mut.result.now in
    let says = c.publish.ensures in
    let at = seen g.D.Disk c.args.self.now in
    let here = here g (goal.at.returns-clause-changes g c).After-index_mut in
    publish_ends (shown_by g.D.Disk) g.D.Disk.faults g.D.Disk.tells self.catalogue self.manifests.items self.limbo.items c.args.place m c.publish.new.dest here self.disk c.publish.new.disk (λ tells. g.met.D.Disk.seen self.disk tells) c.args.moving.now files
    c.publish.result says.commits says.relists (λ tells. own_store g.D.Disk.tells at runs.1 c.args.place m here runs.2 tells _ (says.touches tells)) says.faults says.cause

pub returns-clause-frame : goal.returns-clause-frame
returns-clause-frame g c =
    let at = (goal.at.returns-clause-frame g c).After-index_mut in
    let runs = c.requires.runs in
    let says = c.publish.ensures in
    let change = returns-clause-changes g c runs.0 in
    let by = c.index_mut.result.now in
    commit_frame g.D.Disk.tells (publishing c.args.place runs.0) (seen_all g.D.Disk c.args.self.now) _ (end_of_disk c.publish.result) refl runs.1 runs.2 (change.ends runs.1 runs.2 runs.3) (goes_on c.args.place g.D.Disk.tells (seen_all g.D.Disk c.args.self.now) runs.1 runs.0 runs.3.ahead by (here g at) runs.2) (spares_then c.args.place g.D.Disk.tells (seen_all g.D.Disk c.args.self.now) runs.1 runs.0 runs.3.ahead by (here g at) runs.2)
    by.journal.name Anything (keeps_same c.args.self.now.catalogue.rows) change.costs.granularity (zero_store g at) (λ tells n apart. (says.touches tells).elsewhere n apart) (λ tells. (says.touches tells).no_more) (λ tells. (says.touches tells).frame)

pub returns-clause-tidy : goal.returns-clause-tidy
returns-clause-tidy g c =
    let at = (goal.at.returns-clause-tidy g c).After-index_mut in
    let runs = c.requires.runs in
    let ends = (returns-clause-changes g c runs.0).ends runs.1 runs.2 runs.3 in
    ok_both c.publish.result _ _ (ok_settled g.D.Disk.tells (publishing c.args.place runs.0) _ runs.1 (λ r. end_of_disk r) c.publish.result (λ a. refl) ends)
    (published_strays g.D.Disk.tells (seen_all g.D.Disk c.args.self.now) _ c.args.place c.args.moving.now runs.0 runs.1 c.publish.result (let three = runs.2.known.three in let low = low g at in omega (arith, low, three)) refl runs.2 runs.3
    (λ n h. ends_held g.D.Disk.tells (publishing c.args.place runs.0) (seen g.D.Disk c.args.self.now) _ runs.1 (end_of_disk c.publish.result) n 0 runs.2 (goes_on c.args.place g.D.Disk.tells (seen_all g.D.Disk c.args.self.now) runs.1 runs.0 runs.3.ahead c.index_mut.result.now (here g at) runs.2) ends h)
    (λ tells n own. (c.publish.ensures.touches tells).elsewhere n (file_apart c.index_mut.result.now.journal.name n (zero_store g at tells) own)) ends)
