use Rattle.std.proofs.Common.{◌+◌, List, refl, arith}
use Rattle.gate_journal.specs.DiskShown.{shown_by}
use Rattle.gate_journal.proofs.Results.{on_ok_both}
use Rattle.store_manifest.proofs.Written.{batch_length}
use Rattle.durable_write.specs.Flush.{put_all}
use Rattle.durable_write.specs.Held.{Filed}
use Rattle.durable_write.specs.Three.{Anything}
use Rattle.tier_store.specs.Change.{CanList, Has}
use Rattle.tier_store.specs.Moving.{publishing}
use Rattle.tier_store.specs.Stores.{Stores, list_at, tier}
use Rattle.tier_store.proofs.Places.{manifest_here, holding}
use Rattle.tier_store.proofs.OnePlace.{can_relist, call_ends}
use Rattle.store_reopen.specs.Loading.{Manifest}
use Rattle.store_reopen.specs.Reopen.{loaded}
use Rattle.store_reopen.proofs.Swept.{files_ready, own_spares}
use Rattle.store_reopen.proofs.stepping.add_files.Goals as goal

pub relist-requires-clause-sound : goal.relist-requires-clause-sound
relist-requires-clause-sound g c = c.requires.sound c.index_mut.result.now (manifest_here c.args.manifests.now.items c.args.place c.index_mut.result.now c.index_mut.ensures.value c.requires.within)

pub relist-requires-clause-follow : goal.relist-requires-clause-follow
relist-requires-clause-follow g c = c.requires.follow c.index_mut.result.now (manifest_here c.args.manifests.now.items c.args.place c.index_mut.result.now c.index_mut.ensures.value c.requires.within)

pub relist-requires-clause-few : goal.relist-requires-clause-few
relist-requires-clause-few g c = omega (arith, batch_length c.args.changes.now, c.requires.few)

pub relist-requires-clause-can : goal.relist-requires-clause-can
relist-requires-clause-can g c tells =
    let disk = g.D.Disk in
    let was = c.requires.has tells in
    let m = c.index_mut.result.now in
    let ms = c.args.manifests.now.items in
    let here = manifest_here ms c.args.place m c.index_mut.ensures.value c.requires.within in
    let files = (c.requires.can tells).0 in
    let can : (held : Stores) → Has g.D.Disk.tells (loaded g.D.Disk c.args.catalogue.now c.args.manifests.now.items c.args.disk.now) held → (fs : List Filed) × CanList c.args.place g.D.Disk.tells (loaded g.D.Disk c.args.catalogue.now c.args.manifests.now.items c.args.disk.now) c.args.changes.now held fs = λ held has. (put_all (list_at c.args.place held) files, (c.requires.can tells).1 held has) in (
      c.args.catalogue.now.journal,
      (c.args.place + 1, c.args.catalogue.now.rows),
      tier c.args.place was.0,
      holding c.args.place was.0 (put_all (list_at c.args.place was.0) files),
      can_relist (shown_by disk) disk.faults disk.tells c.args.catalogue.now ms c.args.place m m here c.args.disk.now c.args.disk.now c.args.changes.now can was.0 was.1 tells,
    )

pub returns-clause-changes : goal.returns-clause-changes
returns-clause-changes g c files may =
    let disk = g.D.Disk in
    let m = c.index_mut.result.now in
    let ms = c.args.manifests.now.items in
    let here = manifest_here ms c.args.place m c.index_mut.ensures.value c.requires.within in
    let says = c.relist.ensures in
    let can : (held : Stores) → Has g.D.Disk.tells (loaded g.D.Disk c.args.catalogue.now c.args.manifests.now.items c.args.disk.now) held → (fs : List Filed) × CanList c.args.place g.D.Disk.tells (loaded g.D.Disk c.args.catalogue.now c.args.manifests.now.items c.args.disk.now) c.args.changes.now held fs = λ held has. (put_all (list_at c.args.place held) files, may held has) in
    call_ends (shown_by disk) disk.faults disk.tells c.args.catalogue.now ms c.args.place m c.relist.new.manifest here c.args.disk.now c.relist.new.disk c.args.changes.now can
    says.touches c.requires.has says.faults (publishing c.args.place files) (λ held has. refl) (λ a held has. tt) c.relist.result says.ends says.lists says.cause

pub returns-clause-spares : goal.returns-clause-spares
returns-clause-spares g c tells =
    let here = manifest_here c.args.manifests.now.items c.args.place c.index_mut.result.now c.index_mut.ensures.value c.requires.within in
    let touches = c.relist.ensures.touches tells in
    own_spares g.D.Disk Anything c.index_mut.result.now.journal.name (Manifest c.args.place) (((c.requires.has tells).1.disk tells).each c.args.place c.index_mut.result.now here).named c.args.disk.now c.relist.new.disk touches.frame touches.elsewhere touches.no_more

pub returns-clause-ready : goal.returns-clause-ready
returns-clause-ready g c gs entries ready sets rows =
    let m = c.index_mut.result.now in
    let ms = c.args.manifests.now.items in
    let here = manifest_here ms c.args.place m c.index_mut.ensures.value c.requires.within in
    let ends = c.relist.ensures.ends in
    on_ok_both c.relist.result (λ sound listed. files_ready gs c.args.catalogue.now ms c.args.place m c.relist.new.manifest here c.args.changes.now entries ready ends.granularity sound listed (c.requires.follow m here) sets rows) ends.sound ends.entries
