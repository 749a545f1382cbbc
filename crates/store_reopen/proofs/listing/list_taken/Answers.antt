use Rattle.std.proofs.Common.{ℕ, List, length, map, sym, ◌∙◌, ap, subst, arith}
use Rattle.std.specs.Prelude.{All}
use Rattle.std.proofs.lemmas.List.{length-map}
use Rattle.std.proofs.lemmas.List.Elements.{All-take}
use Rattle.std.proofs.lemmas.Result.{err_from_is_err_and}
use Rattle.disk_model.specs.Files.{Name}
use Rattle.etl_mover.specs.Move.{set_entry}
use Rattle.partition_names.specs.Part.{IsPart}
use Rattle.store_manifest.specs.Entries.{AllCanFollow}
use Rattle.store_manifest.specs.declared.entry.Change.{Change}
use Rattle.tier_store.proofs.Places.{manifest_at}
use Rattle.store_reopen.specs.Adoption.{entry_as}
use Rattle.store_reopen.specs.Listing.{AreUnopened, entries_as}
use Rattle.store_reopen.specs.declared.finding.TakenFile.{TakenFile}
use Rattle.store_reopen.proofs.Swept.{spares_read, spares_then}
use Rattle.store_reopen.proofs.Having.{count_of}
use Rattle.store_reopen.proofs.Marking.{has_marked, marks_read}
use Rattle.store_reopen.proofs.Stages.{steps_read}
use Rattle.store_reopen.proofs.TakenFiles.{can_list, files_as, have_row, lists_nothing, may_follow, none_there, sets_as, some_there, stops_before, takes_by}
use Rattle.store_reopen.proofs.listing.list_taken.Goals as goal

pub returns-then-is_empty-clause-lists : goal.returns-then-is_empty-clause-lists
returns-then-is_empty-clause-lists g c tells = lists_nothing g.D.Disk c.args.catalogue.now c.args.place c.args.series c.args.taken.now c.args.manifests.now.items c.args.disk.now (none_there c.args.taken.now c.is_empty.result c.is_empty.ensures c.if-is_empty.true)

pub returns-in_err-sync_taken-clause-stops : goal.returns-in_err-sync_taken-clause-stops
returns-in_err-sync_taken-clause-stops g c tells =
    let ms = c.args.manifests.now.items in
    let m = manifest_at ms c.args.place (omega (arith, c.requires.place, count_of c.requires.ready.0 ms c.requires.ready.1 c.requires.ready.2.granularity)) in
    let read = c.sync_taken.ensures.read in
    let p = err_from_is_err_and c.from_residual.result c.from_residual.ensures.1 in
    rw p.1 (stops_before g.D.Disk c.args.catalogue.now c.args.place c.args.series c.args.taken.now ms c.args.disk.now m.0 m.1 (c.requires.may tells m.0 m.1) c.sync_taken.new.disk (steps_read g.D.Disk c.args.catalogue.now ms c.args.disk.now c.sync_taken.new.disk read.files read.opened read.any_moment read.faults))

pub returns-in_err-changes-clause-stops : goal.returns-in_err-changes-clause-stops
returns-in_err-changes-clause-stops g c tells =
    let ms = c.args.manifests.now.items in
    let m = manifest_at ms c.args.place (omega (arith, c.requires.place, count_of c.requires.ready.0 ms c.requires.ready.1 c.requires.ready.2.granularity)) in
    let read = c.sync_taken.ensures.read in
    let p = err_from_is_err_and c.from_residual-in_err-changes.result c.from_residual-in_err-changes.ensures.1 in
    rw p.1 (stops_before g.D.Disk c.args.catalogue.now c.args.place c.args.series c.args.taken.now ms c.args.disk.now m.0 m.1 (c.requires.may tells m.0 m.1) c.sync_taken.new.disk (steps_read g.D.Disk c.args.catalogue.now ms c.args.disk.now c.sync_taken.new.disk read.files read.opened read.any_moment read.faults))

pub add_files-requires-clause-follow : goal.add_files-requires-clause-follow
add_files-requires-clause-follow g c m here =
    let front = c.batch_of.ensures.front in
    let parts = subst (λ (xs : List TakenFile). All (λ (x : TakenFile). IsPart m.granularity x.candidate.part) xs) (sym front.1) (All-take (λ (x : TakenFile). IsPart m.granularity x.candidate.part) front.0 c.args.taken.now (c.requires.parts m here)) in
    subst (λ (cs : List Change). AllCanFollow m.granularity m.entries cs) (sym (c.deref.ensures.value ∙ c.in_ok-changes.ensures ∙ sets_as c.args.series c.batch_of.result.now)) (may_follow m.granularity c.args.series c.batch_of.result.now m.entries parts)

pub add_files-requires-clause-few : goal.add_files-requires-clause-few
add_files-requires-clause-few g c =
    let is = ap (λ (cs : List Change). length cs) (c.deref.ensures.value ∙ c.in_ok-changes.ensures) in
    let same = length-map c.batch_of.result.now (λ (x : TakenFile). set_entry (entry_as c.args.series x.candidate)) in
    omega (arith, is, same, c.batch_of.ensures.few)

pub add_files-requires-clause-has : goal.add_files-requires-clause-has
add_files-requires-clause-has g c tells =
    let was = c.requires.has tells in
    let read = c.sync_taken.ensures.read in
    (was.0, has_marked g.D.Disk c.args.catalogue.now c.args.manifests.now.items c.args.disk.now c.sync_taken.new.disk (λ told. marks_read g.D.Disk c.args.disk.now c.sync_taken.new.disk (read.files told) (read.opened told) (read.any_moment told)) was.0 was.1)

pub add_files-requires-clause-can : goal.add_files-requires-clause-can
add_files-requires-clause-can g c tells =
    let ms = c.args.manifests.now.items in
    let m = manifest_at ms c.args.place (omega (arith, c.requires.place, count_of c.requires.ready.0 ms c.requires.ready.1 c.requires.ready.2.granularity)) in
    let read = c.sync_taken.ensures.read in
    let may = c.requires.may tells m.0 m.1 in (
      files_as g.D.Disk c.args.catalogue.now c.args.place c.args.series c.args.taken.now ms c.args.disk.now m.0 m.1 may,
      can_list g.D.Disk c.args.catalogue.now c.args.place c.args.series c.args.taken.now ms c.args.disk.now m.0 m.1 may c.sync_taken.new.disk (read.files tells)
          (subst (λ (o : Name → ℕ). AreUnopened o c.args.taken.now) (sym (read.opened tells)) (c.requires.unopened tells)) (c.in_ok-sync_taken.ensures.durable tells) c.deref.result.now (c.deref.ensures.value ∙ c.in_ok-changes.ensures ∙ ap (λ (xs : List TakenFile). map (λ (x : TakenFile). set_entry (entry_as c.args.series x.candidate)) xs) (c.batch_of.ensures.all (c.requires.few tells)) ∙ sets_as c.args.series c.args.taken.now),
    )

pub returns-clause-lists : goal.returns-clause-lists
returns-clause-lists g c tells =
    let ms = c.args.manifests.now.items in
    let m = manifest_at ms c.args.place (omega (arith, c.requires.place, count_of c.requires.ready.0 ms c.requires.ready.1 c.requires.ready.2.granularity)) in
    let read = c.sync_taken.ensures.read in
    let may = c.requires.may tells m.0 m.1 in
    let unopened : AreUnopened (g.D.Disk.opened c.sync_taken.new.disk) c.args.taken.now = subst (λ (o : Name → ℕ). AreUnopened o c.args.taken.now) (sym (read.opened tells)) (c.requires.unopened tells) in
    let sets = c.deref.ensures.value ∙ c.in_ok-changes.ensures ∙ ap (λ (xs : List TakenFile). map (λ (x : TakenFile). set_entry (entry_as c.args.series x.candidate)) xs) (c.batch_of.ensures.all (c.requires.few tells)) ∙ sets_as c.args.series c.args.taken.now in
    let files = files_as g.D.Disk c.args.catalogue.now c.args.place c.args.series c.args.taken.now ms c.args.disk.now m.0 m.1 may in
    (takes_by g.D.Disk c.args.catalogue.now c.args.place c.args.series c.args.taken.now ms c.args.disk.now m.0 m.1 may c.sync_taken.new.disk (read.files tells) unopened (c.in_ok-sync_taken.ensures.durable tells) c.deref.result.now sets (some_there c.args.taken.now c.is_empty.result c.is_empty.ensures c.if-is_empty.false)
    (steps_read g.D.Disk c.args.catalogue.now ms c.args.disk.now c.sync_taken.new.disk read.files read.opened read.any_moment read.faults) c.add_files.new.manifests.items c.add_files.new.disk c.add_files.result
    (c.add_files.ensures.changes files (can_list g.D.Disk c.args.catalogue.now c.args.place c.args.series c.args.taken.now ms c.args.disk.now m.0 m.1 may c.sync_taken.new.disk (read.files tells) unopened (c.in_ok-sync_taken.ensures.durable tells) c.deref.result.now sets))).0

pub returns-clause-stops : goal.returns-clause-stops
returns-clause-stops g c tells =
    let ms = c.args.manifests.now.items in
    let m = manifest_at ms c.args.place (omega (arith, c.requires.place, count_of c.requires.ready.0 ms c.requires.ready.1 c.requires.ready.2.granularity)) in
    let read = c.sync_taken.ensures.read in
    let may = c.requires.may tells m.0 m.1 in
    let unopened : AreUnopened (g.D.Disk.opened c.sync_taken.new.disk) c.args.taken.now = subst (λ (o : Name → ℕ). AreUnopened o c.args.taken.now) (sym (read.opened tells)) (c.requires.unopened tells) in
    let sets = c.deref.ensures.value ∙ c.in_ok-changes.ensures ∙ ap (λ (xs : List TakenFile). map (λ (x : TakenFile). set_entry (entry_as c.args.series x.candidate)) xs) (c.batch_of.ensures.all (c.requires.few tells)) ∙ sets_as c.args.series c.args.taken.now in
    let files = files_as g.D.Disk c.args.catalogue.now c.args.place c.args.series c.args.taken.now ms c.args.disk.now m.0 m.1 may in
    (takes_by g.D.Disk c.args.catalogue.now c.args.place c.args.series c.args.taken.now ms c.args.disk.now m.0 m.1 may c.sync_taken.new.disk (read.files tells) unopened (c.in_ok-sync_taken.ensures.durable tells) c.deref.result.now sets (some_there c.args.taken.now c.is_empty.result c.is_empty.ensures c.if-is_empty.false)
    (steps_read g.D.Disk c.args.catalogue.now ms c.args.disk.now c.sync_taken.new.disk read.files read.opened read.any_moment read.faults) c.add_files.new.manifests.items c.add_files.new.disk c.add_files.result
    (c.add_files.ensures.changes files (can_list g.D.Disk c.args.catalogue.now c.args.place c.args.series c.args.taken.now ms c.args.disk.now m.0 m.1 may c.sync_taken.new.disk (read.files tells) unopened (c.in_ok-sync_taken.ensures.durable tells) c.deref.result.now sets))).1

pub returns-clause-ready : goal.returns-clause-ready
returns-clause-ready g c gs ready =
    c.add_files.ensures.ready gs (entries_as c.args.series c.batch_of.result.now) ready (c.deref.ensures.value ∙ c.in_ok-changes.ensures ∙ sets_as c.args.series c.batch_of.result.now) (have_row c.args.catalogue.now.rows c.args.series c.batch_of.result.now c.requires.series)

pub returns-clause-spares : goal.returns-clause-spares
returns-clause-spares g c tells =
    let read = c.sync_taken.ensures.read in
    spares_then g.D.Disk c.args.disk.now c.sync_taken.new.disk c.add_files.new.disk (spares_read g.D.Disk c.args.disk.now c.sync_taken.new.disk (read.files tells) (read.opened tells) (read.any_moment tells)) (c.add_files.ensures.spares tells)
