use Rattle.durable_write.proofs.Staying.{get_set_same}
use Rattle.std.proofs.Common.{◌≡◌, Err, Result, ℕ, ◌<◌, List, length, refl, ◌∙◌, ap, sym, subst}
use Rattle.std.proofs.lemmas.Result.{err_from_is_err_and}
use Rattle.disk_model.specs.Files.{Name}
use Rattle.disk_model.specs.declared.disk.DiskErr.{DiskErr}
use Rattle.gate_journal.specs.DiskShown.{shown_by}
use Rattle.partition_names.specs.Part.{IsPart}
use Rattle.store_manifest.specs.Manifest.{ManifestState}
use Rattle.durable_write.specs.declared.file_write.FileWrite.{FileWrite}
use Rattle.durable_write.specs.Ends.{End, Done, Spent, end_of_disk}
use Rattle.durable_write.specs.Flush.{Flushes, HoldsBoth, with_files}
use Rattle.durable_write.specs.Held.{Held}
use Rattle.durable_write.proofs.Places.{parts_listed}
use Rattle.tier_store.specs.Revival.{AreUnlistedIn, flushing_over}
use Rattle.tier_store.specs.Stores.{Stores, tier}
use Rattle.tier_store.specs.Seen.{seen, seen_by}
use Rattle.tier_store.specs.Change.{Changes, IsKnown}
use Rattle.tier_store.proofs.OnePlace.{changes_given, nothing_changes, planned, on_store}
use Rattle.tier_store.proofs.Frames.{flush_frame, frame_same}
use Rattle.tier_store.proofs.Places.{manifest_here, one_manifest, first_of_three, same_granularities}
use Rattle.tier_store.proofs.Revival.{ToRevive, is_ahead, limbo_parts, listed_as, over_cut, over_done, to}
use Rattle.durable_write.specs.Ahead.{HasCopied}
use Rattle.std.specs.Prelude.{All, IsTrue, Some, slice_get}
use Rattle.tier_store.proofs.Removals.{lists_in_order}
use Rattle.tier_store.proofs.Strays.{file_apart, fronts_strays, write_listed}
use Rattle.tier_store.proofs.store.TierStore.flush_lent.Goals.{After-deref-4}
use Rattle.tier_store.proofs.store.TierStore.flush_lent.Goals as goal

pub returns-in_err-limbo-clause-changes : goal.returns-in_err-limbo-clause-changes
returns-in_err-limbo-clause-changes g c files =
    let self = c.args.self.now in
    let s = seen_by g.D.Disk self.catalogue self.manifests.items self.disk in
    let call = flushing_over self.limbo.items files c.args.batch.now in
    let p = err_from_is_err_and c.from_residual.result c.from_residual.ensures.1 in
    let is = ap (λ (r : Result ℕ DiskErr). end_of_disk r) (p.1 ∙ ap (λ (x : DiskErr). Err x) p.2) in
    changes_given _ g.D.Disk.tells call s s _ (subst (λ (e : End ℕ ⊥). Changes g.D.Disk.tells call s s e) (sym is) (nothing_changes g.D.Disk.tells call s Spent (λ held has. has) (λ failed. failed)))

pub returns-in_err-plan-clause-changes : goal.returns-in_err-plan-clause-changes
returns-in_err-plan-clause-changes g c files =
    let self = c.args.self.now in
    let s = seen_by g.D.Disk self.catalogue self.manifests.items self.disk in
    let call = flushing_over self.limbo.items files c.args.batch.now in
    let p = err_from_is_err_and c.from_residual-in_err-plan.result c.from_residual-in_err-plan.ensures.1 in
    let is = ap (λ (r : Result ℕ DiskErr). end_of_disk r) (p.1 ∙ ap (λ (x : DiskErr). Err x) p.2) in
    changes_given _ g.D.Disk.tells call s s _ (subst (λ (e : End ℕ ⊥). Changes g.D.Disk.tells call s s e) (sym is) (nothing_changes g.D.Disk.tells call s Spent (λ held has. has) (λ failed. failed)))

pub plan_flush-requires-clause-listed : goal.plan_flush-requires-clause-listed
plan_flush-requires-clause-listed g c =
    let known = c.requires.has.2.known in
    let m = c.index.result.now in
    let here = manifest_here c.args.self.now.manifests.items 0 m c.index.ensures (first_of_three _ known.three) in
    let at = known.each 0 m here in
    parts_listed m.granularity m.entries (tier 0 c.requires.has.0) at.entries at.valid.filed.listed

pub plan_flush-requires-clause-limbo : goal.plan_flush-requires-clause-limbo
plan_flush-requires-clause-limbo g c =
    let self = c.args.self.now in
    let was = c.requires.has in
    let ms = self.manifests.items in
    let m = c.index.result.now in
    let here = manifest_here ms 0 m c.index.ensures (first_of_three ms was.2.known.three) in
    limbo_parts g.D.Disk.tells (seen_by g.D.Disk self.catalogue self.manifests.items self.disk) self.limbo.items c.deref-3.result.now m here c.requires.stands (listed_as ms c.deref.result.now self.limbo.items c.deref-2.result.now c.in_ok-limbo.limbo.items c.deref-3.result.now c.deref.ensures.value c.deref-2.ensures.value c.deref-3.ensures.value c.in_ok-limbo.ensures (lists_in_order self.catalogue ms was.0 was.2.known)) was.1 was.0 was.2 was.3

-- WHAT IT STARTS FROM

first : (g : _) (c : After-deref-4 g) → slice_get c.args.self.now.manifests.items 0 ≡ Some c.index_mut.result.now
first g c = manifest_here c.args.self.now.manifests.items 0 c.index_mut.result.now c.index_mut.ensures.value (first_of_three _ c.requires.has.2.known.three)

entries_listed : (g : _) (c : After-deref-4 g) (held : Stores) → IsKnown c.args.self.now.catalogue c.args.self.now.manifests.items held → AreUnlistedIn c.args.self.now.manifests.items 1 c.args.self.now.limbo.items c.deref-3.result.now
entries_listed g c held known =
    let self = c.args.self.now in
    let ms = self.manifests.items in
    listed_as ms c.deref.result.now self.limbo.items c.deref-2.result.now c.in_ok-limbo.limbo.items c.deref-3.result.now c.deref.ensures.value c.deref-2.ensures.value c.deref-3.ensures.value c.in_ok-limbo.ensures (lists_in_order self.catalogue ms held known)

plan : (g : _) (c : After-deref-4 g) (held : Held) → HoldsBoth c.index_mut.result.now.granularity c.rows-rows.result.now c.index_mut.result.now.entries c.deref-3.result.now held → Flushes c.index_mut.result.now.granularity held c.args.batch.now c.in_ok-plan.plan.writes.items c.in_ok-plan.plan.count
plan g c =
    let ms = c.args.self.now.manifests.items in
    planned ms c.index.result.now c.index_mut.result.now (manifest_here ms 0 c.index.result.now c.index.ensures (first_of_three ms c.requires.has.2.known.three)) (first g c) _ _ c.args.batch.now _ _ c.in_ok-plan.ensures.flushes

revives : (g : _) (c : After-deref-4 g) → ToRevive g.D.Disk.tells (seen g.D.Disk c.args.self.now) c.index_mut.result.now c.args.self.now.limbo.items c.deref-3.result.now c.requires.has.1 c.args.batch.now c.deref-4.result.now c.in_ok-plan.plan.count c.requires.has.0
revives g c =
    let self = c.args.self.now in
    let was = c.requires.has in
    let m = c.index_mut.result.now in
    to (shown_by g.D.Disk) g.D.Disk.faults g.D.Disk.tells self.catalogue self.manifests.items m m (first g c) self.disk self.disk _ c.rows-rows.ensures.value c.args.batch.now _ _ c.deref-4.ensures.value _ self.limbo.items c.requires.stands c.deref-3.result.now (entries_listed g c) was.1 (plan g c) was.0 was.3 was.2

abbrev both : (g : _) → After-deref-4 g → Held
both g c = with_files (tier 0 c.requires.has.0) (revives g c).by.back

ahead : (g : _) (c : After-deref-4 g) → IsTrue g.D.Disk.tells → HasCopied c.args.self.now.catalogue.journal c.index_mut.result.now (1, c.rows-rows.result.now) (shown_by g.D.Disk c.args.self.now.disk) (tier 0 c.requires.has.0) (both g c)
unfolding revives
ahead g c tells =
    let self = c.args.self.now in
    let was = c.requires.has in
    let m = c.index_mut.result.now in
    is_ahead (shown_by g.D.Disk) g.D.Disk.faults g.D.Disk.tells self.catalogue self.manifests.items m m (first g c) self.disk self.disk _ c.rows-rows.ensures.value c.args.batch.now _ _ c.deref-4.ensures.value _ self.limbo.items c.requires.stands c.deref-3.result.now (entries_listed g c) was.1 (plan g c) was.0 was.3 was.2 tells

pub flush_files-requires-clause-rows : goal.flush_files-requires-clause-rows
flush_files-requires-clause-rows g c =
    let P : List FileWrite → Type 0 = λ l. All (λ (p : FileWrite). p.entry.series < length c.rows-rows.result.now) l in
    subst P (sym c.deref-4.ensures.value) c.in_ok-plan.ensures.rows

pub flush_files-requires-clause-sound : goal.flush_files-requires-clause-sound
flush_files-requires-clause-sound g c =
    c.requires.has.2.settled.manifests 0 c.index_mut.result.now (first g (goal.at.flush_files-requires-clause-sound g c).After-deref-4)

pub flush_files-requires-clause-parts : goal.flush_files-requires-clause-parts
flush_files-requires-clause-parts g c =
    let ms = c.args.self.now.manifests.items in
    let here = first g (goal.at.flush_files-requires-clause-parts g c).After-deref-4 in
    let same : c.index.result.now ≡ c.index_mut.result.now = one_manifest ms 0 0 c.index_mut.result.now c.index.result.now refl here (manifest_here ms 0 c.index.result.now c.index.ensures (first_of_three ms c.requires.has.2.known.three)) in
    let P : ManifestState → Type 0 = λ m. All (λ (p : FileWrite). IsPart m.granularity p.entry.part) c.deref-4.result.now in
    let Q : List FileWrite → Type 0 = λ l. All (λ (p : FileWrite). IsPart c.index.result.now.granularity p.entry.part) l in
    subst P same (subst Q (sym c.deref-4.ensures.value) c.in_ok-plan.ensures.parts)

pub flush_files-requires-clause-stored : goal.flush_files-requires-clause-stored
flush_files-requires-clause-stored g c tells =
    let at = (goal.at.flush_files-requires-clause-stored g c).After-deref-4 in
    let t = revives g at in
    (c.args.self.now.catalogue.journal, tier 0 c.requires.has.0, both g at, t.filed, ahead g at tells, t.makes)

-- WHAT IT LEAVES

pub returns-in_err-flush_files-clause-changes : goal.returns-in_err-flush_files-clause-changes
returns-in_err-flush_files-clause-changes g c files =
    let at = (goal.at.returns-in_err-flush_files-clause-changes g c).After-deref-4 in
    let self = c.args.self.now in
    let was = c.requires.has in
    let m = c.index_mut.result.now in
    let says = c.flush_files.ensures in
    let failed = c.in_err-flush_files in
    let p = err_from_is_err_and c.from_residual-in_err-flush_files.result c.from_residual-in_err-flush_files.ensures.1 in
    over_cut (shown_by g.D.Disk) g.D.Disk.faults g.D.Disk.tells self.catalogue self.manifests.items m c.flush_files.new.manifest (first g at) self.disk c.flush_files.new.disk _ c.rows-rows.ensures.value c.args.batch.now _ _ c.deref-4.ensures.value _ self.limbo.items c.requires.stands c.deref-3.result.now (entries_listed g at) files (plan g at)
    (λ tells. on_store g.D.Disk.tells _ was.0 0 m (first g at) was.2 tells _ (says.stays tells).frame (says.stays tells).elsewhere (says.stays tells).no_more) says.faults
    failed.field-0.0 failed.ensures.ends failed.ensures.flushes _ (ap (λ (r : Result ℕ DiskErr). end_of_disk r) (p.1 ∙ ap (λ (x : DiskErr). Err x) p.2)) (λ is. says.cause (failed.was ∙ ap (λ (x : DiskErr). Err x) is))

pub returns-clause-changes : goal.returns-clause-changes
returns-clause-changes g c files =
    let at = (goal.at.returns-clause-changes g c).After-deref-4 in
    let self = c.args.self.now in
    let was = c.requires.has in
    let m = c.index_mut.result.now in
    let says = c.flush_files.ensures in
    over_done (shown_by g.D.Disk) g.D.Disk.faults g.D.Disk.tells self.catalogue self.manifests.items m c.flush_files.new.manifest (first g at) self.disk c.flush_files.new.disk _ c.rows-rows.ensures.value c.args.batch.now _ _ c.deref-4.ensures.value _ self.limbo.items c.requires.stands c.deref-3.result.now (entries_listed g at) files (plan g at)
    (λ tells. on_store g.D.Disk.tells _ was.0 0 m (first g at) was.2 tells _ (says.stays tells).frame (says.stays tells).elsewhere (says.stays tells).no_more) says.faults
    _ c.in_ok-flush_files.ensures.ends c.in_ok-flush_files.ensures.flushes

pub returns-in_err-limbo-clause-frame : goal.returns-in_err-limbo-clause-frame
returns-in_err-limbo-clause-frame g c = frame_same g.D.Disk.tells _

pub returns-in_err-plan-clause-frame : goal.returns-in_err-plan-clause-frame
returns-in_err-plan-clause-frame g c = frame_same g.D.Disk.tells _

pub returns-in_err-flush_files-clause-frame : goal.returns-in_err-flush_files-clause-frame
returns-in_err-flush_files-clause-frame g c =
    let at = (goal.at.returns-in_err-flush_files-clause-frame g c).After-deref-4 in
    let was = c.requires.has in
    let t = revives g at in
    let says = c.flush_files.ensures in
    let m = c.index_mut.result.now in
    let flushed = λ (tells : IsTrue g.D.Disk.tells). says.flushes tells c.args.self.now.catalogue.journal (tier 0 was.0) (both g at) t.filed (ahead g at tells) t.makes in
    flush_frame g.D.Disk.tells was.1 c.args.batch.now _ _ (end_of_disk c.from_residual-in_err-flush_files.result) refl refl c.requires.stands was.0 was.2 was.3 ((returns-in_err-flush_files-clause-changes g c was.1).ends was.0 was.2 was.3) m (first g at) c.deref-3.result.now (entries_listed g at was.0 was.2.known) _ _ t
    (same_granularities c.args.self.now.manifests.items 0 m c.flush_files.new.manifest (first g at) says.ends.granularity)
    (λ tells. (flushed tells).leaves) (λ tells. (flushed tells).long) (λ tells. (says.stays tells).elsewhere) (λ tells. (says.stays tells).no_more) (λ tells. (says.stays tells).frame)

pub returns-clause-frame : goal.returns-clause-frame
returns-clause-frame g c =
    let at = (goal.at.returns-clause-frame g c).After-deref-4 in
    let was = c.requires.has in
    let t = revives g at in
    let says = c.flush_files.ensures in
    let m = c.index_mut.result.now in
    let flushed = λ (tells : IsTrue g.D.Disk.tells). says.flushes tells c.args.self.now.catalogue.journal (tier 0 was.0) (both g at) t.filed (ahead g at tells) t.makes in
    flush_frame g.D.Disk.tells was.1 c.args.batch.now _ _ (Done c.in_ok-plan.plan.count) refl refl c.requires.stands was.0 was.2 was.3 ((returns-clause-changes g c was.1).ends was.0 was.2 was.3) m (first g at) c.deref-3.result.now (entries_listed g at was.0 was.2.known) _ _ t
    (same_granularities c.args.self.now.manifests.items 0 m c.flush_files.new.manifest (first g at) says.ends.granularity)
    (λ tells. (flushed tells).leaves) (λ tells. (flushed tells).long) (λ tells. (says.stays tells).elsewhere) (λ tells. (says.stays tells).no_more) (λ tells. (says.stays tells).frame)

pub returns-clause-tidy : goal.returns-clause-tidy
returns-clause-tidy g c =
    let at = (goal.at.returns-clause-tidy g c).After-deref-4 in
    let was = c.requires.has in
    let m = c.index_mut.result.now in
    let made = c.flush_files.new.manifest in
    let t = revives g at in (
      ((returns-clause-changes g c was.1).ends was.0 was.2 was.3).3.settled,
      fronts_strays g.D.Disk.tells _ _ was.2.settled (λ n there. (returns-clause-frame g c).fronts.there n 0 there)
          (λ tells n own unlisted. (c.flush_files.ensures.stays tells).others n
          (write_listed _ c.rows-rows.result.now made m.granularity _ c.deref-4.result.now t.filed was.0.short (get_set_same c.args.self.now.manifests.items 0 made m (first g at)) c.rows-rows.ensures.value (c.in_ok-flush_files.ensures.ends.entries ∙ t.lists) t.makes n unlisted)
          (file_apart m.journal.name n (ap (λ (x : Name). x.0) ((was.2.disk tells).each 0 m (first g at)).named) own)),
    )
