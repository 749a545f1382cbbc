use Rattle.std.proofs.Common.{◌≡◌, ◌≤◌, ◌+◌, zero, suc, List, [], ◌∷◌, Err, Result, refl, sym, ◌∙◌, ap, subst, arith}
use Rattle.std.specs.FinMap.{FinMap}
use Rattle.std.specs.Ordering.{nat_cmp}
use Rattle.std.specs.Prelude.{All, Contains}
use Rattle.std.proofs.lemmas.List.Elements.{All-contains}
use Rattle.std.proofs.lemmas.Result.{err_from_is_err_and}
use Rattle.disk_model.specs.Files.{Name}
use Rattle.disk_model.specs.declared.disk.DiskErr.{DiskErr}
use Rattle.pins.specs.Pieces.{PinOf}
use Rattle.durable_write.specs.Ends.{Done, end_of_disk}
use Rattle.pv_catalog.specs.Catalogue.{CatalogueState}
use Rattle.store_manifest.specs.Manifest.{ManifestState}
use Rattle.tier_store.specs.Change.{Changes, IsKnown}
use Rattle.tier_store.specs.Limbo.{AreRemovable, IsUseless}
use Rattle.tier_store.specs.Retiring.{dropping, retired_of}
use Rattle.tier_store.specs.Seen.{seen}
use Rattle.tier_store.specs.declared.limbo.Retired.{Retired}
use Rattle.tier_store.proofs.ReadCalls.{drop_done, drop_fails, look_fails, look_then_call}
use Rattle.tier_store.proofs.CopySteps.{looks_err}
use Rattle.tier_store.proofs.RunningMoves.{names_then}
use Rattle.tier_store.proofs.Removals.{found_still}
use Rattle.tier_store.proofs.store.TierStore.drop_asked.Goals as goal

pub drop_oldest-requires-clause-has : goal.drop_oldest-requires-clause-has
drop_oldest-requires-clause-has g c = (c.requires.has.0, c.in_ok-removable.ensures.looks.kept c.requires.has.0 c.requires.has.1)

pub drop_oldest-requires-clause-handed : goal.drop_oldest-requires-clause-handed
drop_oldest-requires-clause-handed g c held f known part =
    let self = c.args.self.now in
    let mid = c.find_leaving.new.self in
    let same = c.find_leaving.ensures.same in
    let lists : IsKnown self.catalogue self.manifests.items held = subst (λ (ms : List ManifestState). IsKnown self.catalogue ms held) (ap (λ v. v.items) same.1) (subst (λ (x : CatalogueState). IsKnown x mid.manifests.items held) same.0 known) in
    subst (λ (x : CatalogueState). Contains mid.limbo.items (retired_of (c.args.place + 1, x.rows) f.entry)) (sym same.0)
    (subst (λ (l : List Retired). Contains l (retired_of (c.args.place + 1, self.catalogue.rows) f.entry)) (sym (ap (λ v. v.items) same.3)) (c.requires.handed held f lists part))

pub returns-in_err-removable-clause-changes : goal.returns-in_err-removable-clause-changes
returns-in_err-removable-clause-changes g c =
    let p = err_from_is_err_and c.from_residual.result c.from_residual.ensures.1 in
    look_fails g.D.Disk.tells (dropping c.args.place c.args.row c.args.n) _ _ c.from_residual.result c.in_err-removable.field-0.0 (p.1 ∙ ap (λ (x : DiskErr). Err x) p.2)
    (looks_err g.D.Disk.tells _ _ c.find_leaving.result c.from_residual.result c.in_err-removable.field-0.0 c.in_err-removable.was (p.1 ∙ ap (λ (x : DiskErr). Err x) p.2) c.find_leaving.ensures.looks)

pub returns-in_err-drop_oldest-clause-changes : goal.returns-in_err-drop_oldest-clause-changes
returns-in_err-drop_oldest-clause-changes g c =
    let p = err_from_is_err_and c.from_residual-in_err-drop_oldest.result c.from_residual-in_err-drop_oldest.ensures.1 in
    look_then_call g.D.Disk.tells (dropping c.args.place c.args.row c.args.n) _ _ _ _ (end_of_disk c.from_residual-in_err-drop_oldest.result) c.find_leaving.ensures.looks
    (drop_fails g.D.Disk.tells c.args.place c.args.row c.args.n _ _ c.drop_oldest.result c.from_residual-in_err-drop_oldest.result c.in_err-drop_oldest.field-0.0 c.in_err-drop_oldest.was (p.1 ∙ ap (λ (x : DiskErr). Err x) p.2) c.drop_oldest.ensures.changes)

pub returns-in_err-drop_oldest-clause-shown : goal.returns-in_err-drop_oldest-clause-shown
returns-in_err-drop_oldest-clause-shown g c name bytes was = c.drop_oldest.ensures.shown name bytes (c.find_leaving.ensures.looks.shown name bytes was)

pub returns-in_err-drop_oldest-clause-leaves : goal.returns-in_err-drop_oldest-clause-leaves
returns-in_err-drop_oldest-clause-leaves g c names numbered = names_then names g.D.Disk.tells _ _ _ (c.find_leaving.ensures.later names numbered) (c.drop_oldest.ensures.leaves names numbered)

pub returns-clause-removable : goal.returns-clause-removable
returns-clause-removable g c tells =
    let disk = g.D.Disk in
    let self = c.args.self.now in
    let mid = c.find_leaving.new.self in
    let new = c.drop_oldest.new.self in
    let files = c.args.leaving.now.files.items in
    let names = c.in_ok-removable.removable.items in
    let found = subst (λ (l : List Retired). AreRemovable (IsUseless mid.pinned []) l (disk.files mid.disk) names) c.deref.ensures.value (c.in_ok-removable.ensures.found tells) in
    let same : (r : Retired) → Contains files r → disk.files new.disk r.name ≡ disk.files mid.disk r.name = λ r within. (c.drop_oldest.ensures.leaves (r.name ∷ []) (one r (All-contains (λ (x : Retired). 1 ≤ x.name.0) files r c.requires.numbered within))).files tells r.name (0, omega arith, refl) in
    found_still (IsUseless self.pinned []) files (disk.files mid.disk) (disk.files new.disk) names same (subst (λ (p : FinMap nat_cmp PinOf). AreRemovable (IsUseless p []) files (disk.files mid.disk) names) c.find_leaving.ensures.same.2 found)
  where
    one : (r : Retired) → 1 ≤ r.name.0 → All (λ (n : Name). 1 ≤ n.0) (r.name ∷ [])
    one r low zero d lt = low
    one r low (suc k) d lt = absurd (omega (arith, lt))

pub returns-clause-changes : goal.returns-clause-changes
returns-clause-changes g c =
    let done : Changes g.D.Disk.tells (dropping c.args.place c.args.row c.args.n) (seen g.D.Disk c.find_leaving.new.self) (seen g.D.Disk c.drop_oldest.new.self) (Done tt) = subst (λ (r : Result (Unit {0}) DiskErr). Changes g.D.Disk.tells (dropping c.args.place c.args.row c.args.n) (seen g.D.Disk c.find_leaving.new.self) (seen g.D.Disk c.drop_oldest.new.self) (end_of_disk r)) c.in_ok-drop_oldest.was c.drop_oldest.ensures.changes in
    look_then_call g.D.Disk.tells (dropping c.args.place c.args.row c.args.n) _ _ _ _ (Done c.in_ok-removable.removable) c.find_leaving.ensures.looks (drop_done g.D.Disk.tells c.args.place c.args.row c.args.n _ _ c.in_ok-removable.removable done)

pub returns-clause-shown : goal.returns-clause-shown
returns-clause-shown g c name bytes was = c.drop_oldest.ensures.shown name bytes (c.find_leaving.ensures.looks.shown name bytes was)

pub returns-clause-leaves : goal.returns-clause-leaves
returns-clause-leaves g c names numbered = names_then names g.D.Disk.tells _ _ _ (c.find_leaving.ensures.later names numbered) (c.drop_oldest.ensures.leaves names numbered)
