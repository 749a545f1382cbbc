use Rattle.std.proofs.Common.{◌≡◌, ◌≤◌, ℕ, Ok, inl, inr, ◌+◌, ◌++◌, List, [], length, map, take, Err, None, Some, refl, sym, ◌∙◌, ap, subst, arith, length-take}
use Rattle.std.specs.Prelude.{All, filter, ◌==◌, Contains, IsErr, OnOk, Result, slice_get}
use Rattle.std.specs.FinMap.{FinMap}
use Rattle.std.specs.Ordering.{nat_cmp}
use Rattle.std.proofs.lemmas.List.{length-map}
use Rattle.std.proofs.lemmas.Result.{err_from_is_err_and}
use Rattle.std.proofs.lemmas.List.Elements.{Contains-append_right}
use Rattle.disk_model.specs.Files.{Name}
use Rattle.disk_model.specs.declared.disk.DiskErr.{DiskErr}
use Rattle.disk_model.specs.declared.disk.DiskErr.TheVariants.{Fault, Memory}
use Rattle.pins.specs.Pieces.{PinOf}
use Rattle.store_manifest.specs.declared.entry.Entry.{Entry}
use Rattle.durable_write.specs.Ends.{Done, end_of_disk}
use Rattle.durable_write.specs.Held.{entry_of}
use Rattle.durable_write.proofs.Staying.{rose_after}
use Rattle.tier_store.specs.Change.{Changes, Has}
use Rattle.tier_store.specs.Limbo.{LimboStands, NamesDiffer, AreRemovable, IsUseless, IsListedName, IsKeptName, LeaveListed, Stay, AreFree}
use Rattle.disk_model.specs.Past.{Only}
use Rattle.gate_journal.specs.DiskShown.{shown_by}
use Rattle.tier_store.specs.Retiring.{AreApart, HandedOver, HasNotGrown, oldest, oldest_entries, drop_entry, retired_of, dropping, without_oldest, Remain, Stays, IsFree, names_in}
use Rattle.tier_store.specs.Revival.{KeepsWholeOf}
use Rattle.tier_store.specs.Seen.{Seen, seen}
use Rattle.tier_store.specs.Stores.{Stores}
use Rattle.tier_store.specs.declared.limbo.Retired.{Retired}
use Rattle.tier_store.specs.declared.retirement.RetireEnd.{RetireEnd}
use Rattle.tier_store.specs.declared.retirement.RetireEnd.TheVariants as ends
use Rattle.tier_store.proofs.OnePlace.{nothing_changes}
use Rattle.tier_store.proofs.Retirements.{entries_leave, leaving_differ, leaving_numbered, stands_then, unlisted_then, among_then, has_then, enters, of_held, none_grown, has_grown, fewer_stand, nothing_retired, stays_then, cut_handed, retired_done, retired_cut, retired_doubt, same_seen, entered_from, leaving_apart}
use Rattle.tier_store.proofs.Places.{manifest_here}
use Rattle.pv_catalog.specs.Catalogue.{CatalogueState}
use Rattle.pv_catalog.specs.Rows.{KeepsRows}
use Rattle.pv_catalog.proofs.Standing.{keeps_same}
use Rattle.tier_store.specs.Moving.{LeavesFiles, LeavesNames}
use Rattle.tier_store.specs.Pinned.{beside, seen_all}
use Rattle.tier_store.proofs.Frames.{handed_whole}
use Rattle.tier_store.proofs.RunningMoves.{limbo_leaves, names_then, nothing_names}
use Rattle.tier_store.proofs.Removals.{stay_from}
use Rattle.tier_store.proofs.Strays.{no_strays, retired_strays}
use Rattle.tier_store.proofs.store.TierStore.retire.Goals.{After-drop_asked, After-grown, After-hand_over, After-oldest-entries}
use Rattle.tier_store.proofs.store.TierStore.retire.Goals as goal

-- THE FILES THAT LEAVE

here : (g : _) (c : After-oldest-entries g) → slice_get c.args.self.now.manifests.items c.args.place ≡ Some c.index.result.now
here g c = let three = c.requires.has.1.known.three in manifest_here c.args.self.now.manifests.items c.args.place c.index.result.now c.index.ensures (omega (arith, three, c.requires.within))

oldest_are : (g : _) (c : After-oldest-entries g) → c.oldest-entries.result.now ≡ oldest_entries c.args.row (length c.args.published.now) c.index.result.now.entries
oldest_are g c = c.oldest-entries.ensures ∙ ap (λ (l : List Entry). take (length c.args.published.now) l) c.entries.ensures

none_longer : (g : _) (c : After-grown g) → ((k : ℕ) → HasNotGrown c.args.published.now c.oldest-entries.result.now k) → (held : Stores) → Has g.D.Disk.tells (seen g.D.Disk c.args.self.now) held → (k : ℕ) → HasNotGrown c.args.published.now (map entry_of (oldest c.args.place c.args.row (length c.args.published.now) held)) k
none_longer g c =
    let three = c.requires.has.1.known.three in
    let here = manifest_here c.args.self.now.manifests.items c.args.place c.index.result.now c.index.ensures (omega (arith, three, c.requires.within)) in
    none_grown g.D.Disk.tells c.args.place c.args.row c.args.published.now (seen g.D.Disk c.args.self.now) c.index.result.now c.oldest-entries.result.now here (c.oldest-entries.ensures ∙ ap (λ (l : List Entry). take (length c.args.published.now) l) c.entries.ensures)

-- WHEN THEY ARE HANDED OVER

handed : (g : _) (c : After-hand_over g) → (seen g.D.Disk c.args.self.now) ≡ seen g.D.Disk c.hand_over.new.self
handed g c =
    let self = c.args.self.now in
    let hand = c.hand_over.new.self in
    let same = c.hand_over.ensures.same in
    same_seen (shown_by g.D.Disk) g.D.Disk.faults self.catalogue hand.catalogue self.manifests.items hand.manifests.items self.disk hand.disk same.0 (ap (λ v. v.items) same.1) same.2

-- WHEN THEY ARE DROPPED

there : (g : _) (c : After-drop_asked g) → slice_get c.args.self.now.manifests.items c.args.place ≡ Some c.index.result.now
there g c = let three = c.requires.has.1.known.three in manifest_here c.args.self.now.manifests.items c.args.place c.index.result.now c.index.ensures (omega (arith, three, c.requires.within))

memory_is : (g : _) (c : After-drop_asked g) → seen g.D.Disk c.args.self.now ≡ seen g.D.Disk c.hand_over.new.self
memory_is g c =
    let self = c.args.self.now in
    let hand = c.hand_over.new.self in
    let same = c.hand_over.ensures.same in
    same_seen (shown_by g.D.Disk) g.D.Disk.faults self.catalogue hand.catalogue self.manifests.items hand.manifests.items self.disk hand.disk same.0 (ap (λ v. v.items) same.1) same.2

leaving_are : (g : _) (c : After-drop_asked g) → c.in_ok-leaving.leaving.files.items ≡ map (retired_of (c.args.place + 1, c.args.self.now.catalogue.rows)) (oldest_entries c.args.row (length c.args.published.now) c.index.result.now.entries)
leaving_are g c = c.in_ok-leaving.ensures.files c.index.result.now (there g c)

same_rows : (g : _) (c : After-drop_asked g) → c.drop_asked.new.self.catalogue ≡ c.args.self.now.catalogue
same_rows g c = c.drop_asked.ensures.catalogue ∙ c.hand_over.ensures.same.0

same_pins : (g : _) (c : After-drop_asked g) → c.drop_asked.new.self.pinned ≡ c.args.self.now.pinned
same_pins g c = c.drop_asked.ensures.pins ∙ c.hand_over.ensures.same.3

limbo_is : (g : _) (c : After-drop_asked g) → c.drop_asked.new.self.limbo.items ≡ c.in_ok-leaving.ensures.entered.0 ++ c.in_ok-leaving.leaving.files.items
limbo_is g c = ap (λ v. v.items) c.drop_asked.ensures.limbo ∙ c.in_ok-leaving.ensures.entered.2

drops : (g : _) (c : After-drop_asked g) → Changes g.D.Disk.tells (dropping c.args.place c.args.row (length c.args.published.now)) (seen g.D.Disk c.args.self.now) (seen g.D.Disk c.drop_asked.new.self) (end_of_disk c.drop_asked.result)
drops g c = subst (λ (s : Seen). Changes g.D.Disk.tells (dropping c.args.place c.args.row (length c.args.published.now)) s (seen g.D.Disk c.drop_asked.new.self) (end_of_disk c.drop_asked.result)) (sym (memory_is g c)) c.drop_asked.ensures.changes

dropped : (g : _) (c : After-drop_asked g) (a : _) → c.drop_asked.result ≡ Ok a → Changes g.D.Disk.tells (dropping c.args.place c.args.row (length c.args.published.now)) (seen g.D.Disk c.args.self.now) (seen g.D.Disk c.drop_asked.new.self) (Done a)
dropped g c a is = subst (λ (r : Result _ DiskErr). Changes g.D.Disk.tells (dropping c.args.place c.args.row (length c.args.published.now)) (seen g.D.Disk c.args.self.now) (seen g.D.Disk c.drop_asked.new.self) (end_of_disk r)) is (drops g c)

limbo_stands : (g : _) (c : After-drop_asked g) → LimboStands (seen g.D.Disk c.drop_asked.new.self) c.drop_asked.new.self.limbo.items
limbo_stands g c =
    let held = c.requires.has in
    let entered = c.in_ok-leaving.ensures.entered in
    subst (LimboStands (seen g.D.Disk c.drop_asked.new.self)) (sym (limbo_is g c)) (stands_then g.D.Disk.tells c.args.place c.args.row (length c.args.published.now) (seen g.D.Disk c.args.self.now) (seen g.D.Disk c.drop_asked.new.self) c.index.result.now (there g c) held.0 held.1 c.args.self.now.limbo.items entered.0 c.in_ok-leaving.leaving.files.items c.requires.stands entered.1 (leaving_are g c) (same_rows g c) (drops g c).costs.granularity)

handed_over : (g : _) (c : After-drop_asked g) (e : DiskErr) → c.drop_asked.result ≡ Err e → HandedOver (seen g.D.Disk c.drop_asked.new.self) c.args.place c.args.row (length c.args.published.now) c.args.self.now.limbo.items c.drop_asked.new.self.limbo.items
handed_over g c e is =
    let held = c.requires.has in
    let entered = c.in_ok-leaving.ensures.entered in
    cut_handed g.D.Disk.tells c.args.place c.args.row (length c.args.published.now) (seen g.D.Disk c.args.self.now) (seen g.D.Disk c.drop_asked.new.self) c.index.result.now (there g c) held.0 e (end_of_disk c.drop_asked.result) (ap (λ (r : Result _ DiskErr). end_of_disk r) is) held.1 (drops g c) c.args.self.now.limbo.items entered.0 c.in_ok-leaving.leaving.files.items c.drop_asked.new.self.limbo.items entered.1 (leaving_are g c) (limbo_is g c)

limbo_whole : (g : _) (c : After-drop_asked g) (held : Stores) → Has g.D.Disk.tells (seen g.D.Disk c.args.self.now) held → KeepsWholeOf g.D.Disk.tells (seen_all g.D.Disk c.args.self.now) (seen_all g.D.Disk c.drop_asked.new.self) held
limbo_whole g c held has i were low whole =
    let self = c.args.self.now in
    let now = c.drop_asked.new.self in
    let hand = c.hand_over.new.self in
    let entered = c.in_ok-leaving.ensures.entered in
    handed_whole g.D.Disk.tells c.args.place c.args.row (length c.args.published.now) (seen_all g.D.Disk self) (seen_all g.D.Disk now) c.index.result.now (there g c) held has entered.0 c.in_ok-leaving.leaving.files.items c.requires.stands entered.1 (leaving_are g c) (limbo_is g c)
    (subst (λ (s : CatalogueState). KeepsRows self.catalogue.rows s.rows) (sym (same_rows g c)) (keeps_same self.catalogue.rows)) (drops g c).costs.granularity hand.limbo.items
    (subst (λ (s : Seen). LeavesFiles g.D.Disk.tells (beside s hand.limbo.items) (seen_all g.D.Disk now)) (sym (memory_is g c)) c.drop_asked.ensures.leaves) i low were whole

names_apart : (g : _) (c : After-drop_asked g) (held : Stores) (names : List Name) → Has g.D.Disk.tells (seen g.D.Disk c.args.self.now) held → AreApart c.args.place c.args.row (length c.args.published.now) held names → All (λ (r : Retired). Contains names r.name → ⊥) c.in_ok-leaving.leaving.files.items
names_apart g c held names has apart = subst (λ (l : List Retired). All (λ (r : Retired). Contains names r.name → ⊥) l) (sym (leaving_are g c)) (leaving_apart g.D.Disk.tells c.args.place c.args.row (length c.args.published.now) (seen g.D.Disk c.args.self.now) c.index.result.now (there g c) held has names apart)

names_left : (g : _) (c : After-drop_asked g) (held : Stores) (names : List Name) → Has g.D.Disk.tells (seen g.D.Disk c.args.self.now) held → All (λ (n : Name). 1 ≤ n.0) names → AreApart c.args.place c.args.row (length c.args.published.now) held names → LeavesNames names g.D.Disk.tells (seen_all g.D.Disk c.args.self.now) (seen_all g.D.Disk c.drop_asked.new.self)
names_left g c held names has later apart =
    let self = c.args.self.now in
    let hand = c.hand_over.new.self in
    let entered = c.in_ok-leaving.ensures.entered in
    names_then names g.D.Disk.tells _ _ _
    (subst (λ (s : Seen). LeavesNames names g.D.Disk.tells (seen_all g.D.Disk self) (beside s hand.limbo.items)) (memory_is g c)
    (limbo_leaves names g.D.Disk.tells (seen g.D.Disk c.args.self.now) self.limbo.items hand.limbo.items (entered_from names (seen g.D.Disk c.args.self.now) self.limbo.items entered.0 c.in_ok-leaving.leaving.files.items hand.limbo.items entered.1 (names_apart g c held names has apart) entered.2)))
    (c.drop_asked.ensures.leaves names later)

-- WHERE A FILE HAS GROWN

pub returns-in-Some-clause-changes : goal.returns-in-Some-clause-changes
returns-in-Some-clause-changes g c =
    let at = (goal.at.returns-in-Some-clause-changes g c).After-oldest-entries in
    nothing_changes g.D.Disk.tells _ (seen g.D.Disk c.args.self.now) (Done _) (λ held has. (held, inl refl, (refl, has_grown g.D.Disk.tells c.args.place c.args.row c.args.published.now (seen g.D.Disk c.args.self.now) c.index.result.now c.oldest-entries.result.now c.in-Some.len c.in-Some.copied (here g at) (oldest_are g at) (c.in-Some.ensures.grown c.in-Some.len c.in-Some.copied refl) held has), has)) (λ failed. failed)

pub returns-in-Some-clause-whole : goal.returns-in-Some-clause-whole
returns-in-Some-clause-whole g c held has i were low whole =
    (were, whole)

pub returns-in-Some-clause-leaves : goal.returns-in-Some-clause-leaves
returns-in-Some-clause-leaves g c held names has later apart =
    nothing_names names g.D.Disk.tells _

pub returns-in-Some-clause-tidy : goal.returns-in-Some-clause-tidy
returns-in-Some-clause-tidy g c =
    (c.requires.has.1.settled, λ fine. no_strays g.D.Disk.tells _ [])

-- THE CALLS

pub drop_asked-requires-clause-few : goal.drop_asked-requires-clause-few
drop_asked-requires-clause-few g c =
    let es = oldest_entries c.args.row (length c.args.published.now) c.index.result.now.entries in
    let long : length c.in_ok-leaving.leaving.drops.items ≡ length es = ap length (c.in_ok-leaving.ensures.drops c.index.result.now (here g (goal.at.drop_asked-requires-clause-few g c).After-oldest-entries)) ∙ length-map es drop_entry in
    let most = length-take (length c.args.published.now) (filter (λ (e : Entry). e.series == c.args.row) c.index.result.now.entries) in
    omega (arith, long, most, c.requires.few)

pub drop_asked-requires-clause-handed : goal.drop_asked-requires-clause-handed
drop_asked-requires-clause-handed g c s f known part =
    let self = c.args.self.now in
    let hand = c.hand_over.new.self in
    let same = c.hand_over.ensures.same in
    let files = c.in_ok-leaving.leaving.files.items in
    let entered = c.in_ok-leaving.ensures.entered in
    let is_here = here g (goal.at.drop_asked-requires-clause-handed g c).After-oldest-entries in
    let still : slice_get hand.manifests.items c.args.place ≡ Some c.index.result.now = ap (λ v. slice_get v.items c.args.place) same.1 ∙ is_here in
    subst (λ (l : List Retired). Contains l (retired_of (c.args.place + 1, hand.catalogue.rows) f.entry)) (sym entered.2)
    (Contains-append_right entered.0 files (retired_of (c.args.place + 1, hand.catalogue.rows) f.entry) (subst (λ (x : CatalogueState). Contains files (retired_of (c.args.place + 1, x.rows) f.entry)) (sym same.0)
    (subst (λ (l : List Retired). Contains l (retired_of (c.args.place + 1, self.catalogue.rows) f.entry)) (sym (c.in_ok-leaving.ensures.files c.index.result.now is_here)) (entries_leave c.args.place c.args.row (length c.args.published.now) self.catalogue.rows c.index.result.now s (known.each c.args.place c.index.result.now still).entries f part))))

pub drop_asked-requires-clause-differ : goal.drop_asked-requires-clause-differ
drop_asked-requires-clause-differ g c =
    let is_here = here g (goal.at.drop_asked-requires-clause-differ g c).After-oldest-entries in
    let held = c.requires.has in
    subst NamesDiffer (sym (c.in_ok-leaving.ensures.files c.index.result.now is_here)) (leaving_differ g.D.Disk.tells c.args.place c.args.row (length c.args.published.now) (seen g.D.Disk c.args.self.now) c.index.result.now is_here held.0 held.1)

pub drop_asked-requires-clause-numbered : goal.drop_asked-requires-clause-numbered
drop_asked-requires-clause-numbered g c =
    let is_here = here g (goal.at.drop_asked-requires-clause-numbered g c).After-oldest-entries in
    let held = c.requires.has in
    subst (All (λ (r : Retired). 1 ≤ r.name.0)) (sym (c.in_ok-leaving.ensures.files c.index.result.now is_here)) (leaving_numbered g.D.Disk.tells c.args.place c.args.row (length c.args.published.now) (seen g.D.Disk c.args.self.now) c.index.result.now is_here held.0 held.1)

pub remove_handed-removed-requires-clause-removable : goal.remove_handed-removed-requires-clause-removable
remove_handed-removed-requires-clause-removable g c tells =
    let disk = g.D.Disk in
    let dropped = c.drop_asked.new.self in
    let names = c.in_ok-removable.removable.items in
    subst (λ (ns : List Name). AreRemovable (IsUseless dropped.pinned []) c.deref.result.now (disk.files dropped.disk) ns) (sym c.deref-2.ensures.value)
    (subst (λ (rs : List Retired). AreRemovable (IsUseless dropped.pinned []) rs (disk.files dropped.disk) names) (sym c.deref.ensures.value)
    (subst (λ (p : FinMap nat_cmp PinOf). AreRemovable (IsUseless p []) c.in_ok-leaving.leaving.files.items (disk.files dropped.disk) names) (sym c.drop_asked.ensures.pins) (c.in_ok-removable.ensures.removable tells)))

pub remove_handed-removed-requires-clause-has : goal.remove_handed-removed-requires-clause-has
remove_handed-removed-requires-clause-has g c =
    let held = c.requires.has in
    (without_oldest c.args.place c.args.row (length c.args.published.now) held.0, has_then g.D.Disk.tells c.args.place c.args.row (length c.args.published.now) (seen g.D.Disk c.args.self.now) (seen g.D.Disk c.drop_asked.new.self) held.0 c.in_ok-removable.removable held.1 (dropped g (goal.at.remove_handed-removed-requires-clause-has g c).After-drop_asked c.in_ok-removable.removable c.in_ok-removable.was))

pub remove_handed-removed-requires-clause-stands : goal.remove_handed-removed-requires-clause-stands
remove_handed-removed-requires-clause-stands g c =
    limbo_stands g (goal.at.remove_handed-removed-requires-clause-stands g c).After-drop_asked

pub remove_handed-removed-requires-clause-unlisted : goal.remove_handed-removed-requires-clause-unlisted
remove_handed-removed-requires-clause-unlisted g c =
    let held = c.requires.has in
    let at = (goal.at.remove_handed-removed-requires-clause-unlisted g c).After-drop_asked in
    let entered = c.in_ok-leaving.ensures.entered in
    subst (λ (l : List Retired). All (λ (r : Retired). IsListedName (seen g.D.Disk c.drop_asked.new.self) r.name → ⊥) l) (sym (limbo_is g at)) (unlisted_then g.D.Disk.tells c.args.place c.args.row (length c.args.published.now) (seen g.D.Disk c.args.self.now) (seen g.D.Disk c.drop_asked.new.self) c.index.result.now (there g at) held.0 held.1 (has_then g.D.Disk.tells c.args.place c.args.row (length c.args.published.now) (seen g.D.Disk c.args.self.now) (seen g.D.Disk c.drop_asked.new.self) held.0 c.in_ok-removable.removable held.1 (dropped g (goal.at.remove_handed-removed-requires-clause-unlisted g c).After-drop_asked c.in_ok-removable.removable c.in_ok-removable.was)) c.args.self.now.limbo.items entered.0 c.in_ok-leaving.leaving.files.items entered.1 (leaving_are g at))

pub remove_handed-removed-requires-clause-among : goal.remove_handed-removed-requires-clause-among
remove_handed-removed-requires-clause-among g c =
    let kept = c.in_ok-leaving.ensures.entered.0 in
    let files = c.in_ok-leaving.leaving.files.items in
    subst (λ (l : List Retired). All (Contains l) c.deref.result.now) (sym (limbo_is g (goal.at.remove_handed-removed-requires-clause-among g c).After-drop_asked)) (subst (λ (l : List Retired). All (Contains (kept ++ files)) l) (sym c.deref.ensures.value) (among_then kept files))

-- WHERE MEMORY IS WANTING FOR THE HANDING OVER

pub returns-in_err-leaving-clause-stands : goal.returns-in_err-leaving-clause-stands
returns-in_err-leaving-clause-stands g c =
    subst (λ (s : Seen). LimboStands s c.hand_over.new.self.limbo.items) (handed g (goal.at.returns-in_err-leaving-clause-stands g c).After-hand_over) (fewer_stand (seen g.D.Disk c.args.self.now) c.args.self.now.limbo.items c.hand_over.new.self.limbo.items c.requires.stands c.in_err-leaving.ensures.failed)

pub returns-in_err-leaving-clause-changes : goal.returns-in_err-leaving-clause-changes
returns-in_err-leaving-clause-changes g c =
    let p = err_from_is_err_and c.from_residual.result c.from_residual.ensures.1 in
    nothing_retired g.D.Disk.tells _ (seen g.D.Disk c.args.self.now) (seen g.D.Disk c.hand_over.new.self) (end_of_disk c.from_residual.result) (handed g (goal.at.returns-in_err-leaving-clause-changes g c).After-hand_over) (ap (λ (r : Result RetireEnd DiskErr). end_of_disk r) (p.1 ∙ ap (λ (x : DiskErr). Err x) p.2))

pub returns-in_err-leaving-clause-fails : goal.returns-in_err-leaving-clause-fails
returns-in_err-leaving-clause-fails g c =
    let p = err_from_is_err_and c.from_residual.result c.from_residual.ensures.1 in
    rw p.1 (record {
      failed = inl (subst (λ (s : Seen). LeaveListed s c.args.self.now.limbo.items c.hand_over.new.self.limbo.items) (handed g (goal.at.returns-in_err-leaving-clause-fails g c).After-hand_over) c.in_err-leaving.ensures.failed);
      handed = λ fault. let both : ◌≡◌ {A = DiskErr} Fault Memory = sym fault ∙ p.2 in absurd (cc (both));
      doubted = λ held has fault. let both : ◌≡◌ {A = DiskErr} Fault Memory = sym fault ∙ p.2 in absurd (cc (both));
    })

pub returns-in_err-leaving-clause-whole : goal.returns-in_err-leaving-clause-whole
returns-in_err-leaving-clause-whole g c held has i were low whole =
    c.in_err-leaving.ensures.whole i held.stands were low whole

pub returns-in_err-leaving-clause-leaves : goal.returns-in_err-leaving-clause-leaves
returns-in_err-leaving-clause-leaves g c held names has later apart =
    let was = c.args.self.now.limbo.items in
    let left = c.hand_over.new.self.limbo.items in
    subst (λ (s : Seen). LeavesNames names g.D.Disk.tells (seen_all g.D.Disk c.args.self.now) (beside s left)) (handed g (goal.at.returns-in_err-leaving-clause-leaves g c).After-hand_over)
    (limbo_leaves names g.D.Disk.tells (seen g.D.Disk c.args.self.now) was left (λ r within there. (stay_from (λ x. Unit {0}) (λ x. IsListedName (seen g.D.Disk c.args.self.now) x.name) was left r c.in_err-leaving.ensures.failed there).0))

-- AFTER A FAILURE OF THE COMMIT

pub returns-in_err-removable-clause-changes : goal.returns-in_err-removable-clause-changes
returns-in_err-removable-clause-changes g c =
    let p = err_from_is_err_and c.from_residual-in_err-removable.result c.from_residual-in_err-removable.ensures.1 in
    retired_cut g.D.Disk.tells c.args.place c.args.row c.args.published.now _ (seen g.D.Disk c.args.self.now) (seen g.D.Disk c.drop_asked.new.self) (none_longer g (goal.at.returns-in_err-removable-clause-changes g c).After-grown (c.grown.ensures.none c.in_default.is)) c.in_err-removable.field-0.0 (end_of_disk c.drop_asked.result) (end_of_disk c.from_residual-in_err-removable.result)
    (ap (λ (r : Result _ DiskErr). end_of_disk r) c.in_err-removable.was) (ap (λ (r : Result RetireEnd DiskErr). end_of_disk r) (p.1 ∙ ap (λ (x : DiskErr). Err x) p.2)) (drops g (goal.at.returns-in_err-removable-clause-changes g c).After-drop_asked)

pub returns-in_err-removable-clause-shown : goal.returns-in_err-removable-clause-shown
returns-in_err-removable-clause-shown g c name bytes kept was =
    c.drop_asked.ensures.shown name bytes (c.hand_over.ensures.shown name bytes was)

pub returns-in_err-removable-clause-stands : goal.returns-in_err-removable-clause-stands
returns-in_err-removable-clause-stands g c =
    limbo_stands g (goal.at.returns-in_err-removable-clause-stands g c).After-drop_asked

pub returns-in_err-removable-clause-fails : goal.returns-in_err-removable-clause-fails
returns-in_err-removable-clause-fails g c =
    let p = err_from_is_err_and c.from_residual-in_err-removable.result c.from_residual-in_err-removable.ensures.1 in
    let e = c.in_err-removable.field-0.0 in
    let at = (goal.at.returns-in_err-removable-clause-fails g c).After-drop_asked in
    let over = handed_over g at e c.in_err-removable.was in
    rw p.1 (record {
      failed = inr over;
      handed = λ fault. over;
      doubted = λ s has fault.
          retired_doubt g.D.Disk.tells c.args.place c.args.row c.args.published.now (λ r l. Unit {0}) (seen g.D.Disk c.args.self.now) (seen g.D.Disk c.drop_asked.new.self) (none_longer g (goal.at.returns-in_err-removable-clause-fails g c).After-grown (c.grown.ensures.none c.in_default.is)) e (end_of_disk c.drop_asked.result) (ap (λ (r : Result _ DiskErr). end_of_disk r) c.in_err-removable.was) (sym p.2 ∙ fault) (drops g at) s has;
    })

pub returns-in_err-removable-clause-whole : goal.returns-in_err-removable-clause-whole
returns-in_err-removable-clause-whole g c held has i were low whole =
    limbo_whole g (goal.at.returns-in_err-removable-clause-whole g c).After-drop_asked held has i were low whole

pub returns-in_err-removable-clause-leaves : goal.returns-in_err-removable-clause-leaves
returns-in_err-removable-clause-leaves g c held names has later apart =
    names_left g (goal.at.returns-in_err-removable-clause-leaves g c).After-drop_asked held names has later apart

-- WHEN THEY ARE LISTED NO MORE

pub returns-clause-shown : goal.returns-clause-shown
returns-clause-shown g c name bytes kept was =
    let removed = c.remove_handed-removed.new.self in
    c.remove_handed-removed.ensures.leaves.shown name bytes (subst (λ (p : FinMap nat_cmp PinOf). IsKeptName (seen g.D.Disk removed) p (names_in removed.limbo.items) name) (sym (same_pins g (goal.at.returns-clause-shown g c).After-drop_asked)) kept)
    (c.drop_asked.ensures.shown name bytes (c.hand_over.ensures.shown name bytes was))

pub returns-clause-changes : goal.returns-clause-changes
returns-clause-changes g c =
    let at = (goal.at.returns-clause-changes g c).After-drop_asked in
    let self = c.args.self.now in
    let dropped_now = c.drop_asked.new.self in
    let removed = c.remove_handed-removed.new.self in
    let now = seen g.D.Disk removed in
    let names = c.in_ok-removable.removable in
    let files = c.in_ok-leaving.leaving.files.items in
    let entered = c.in_ok-leaving.ensures.entered in
    let done_too = c.remove_handed-removed.result in
    let rest = c.remove_handed-removed.ensures.changes in
    let Limbo : Result (Unit {0}) DiskErr → List Retired → Type 0 = Remain g.D.Disk.tells now self.pinned self.limbo.items removed.limbo.items in
    retired_done g.D.Disk.tells c.args.place c.args.row c.args.published.now Limbo (seen g.D.Disk c.args.self.now) (seen g.D.Disk c.drop_asked.new.self) (none_longer g (goal.at.returns-clause-changes g c).After-grown (c.grown.ensures.none c.in_default.is)) now (ends.Retired done_too) names done_too (dropped g at names c.in_ok-removable.was) rest (λ was made has retires.
    let later = stays_then g.D.Disk.tells (seen g.D.Disk c.drop_asked.new.self) now (without_oldest c.args.place c.args.row (length c.args.published.now) was) done_too (has_then g.D.Disk.tells c.args.place c.args.row (length c.args.published.now) (seen g.D.Disk c.args.self.now) (seen g.D.Disk c.drop_asked.new.self) was names has (dropped g at names c.in_ok-removable.was)) rest in
    record {
      retires = retires;
      limbo = of_held g.D.Disk.tells c.args.place c.args.row (length c.args.published.now) (seen g.D.Disk c.args.self.now) now c.index.result.now (there g at) was has later self.limbo.items entered.0 files entered.1 (leaving_are g at) (Limbo done_too) (record {
        both = dropped_now.limbo.items;
        enter = enters g.D.Disk.tells c.args.place c.args.row (length c.args.published.now) (seen g.D.Disk c.args.self.now) now c.index.result.now (there g at) was has later self.limbo.items entered.0 files entered.1 (leaving_are g at) dropped_now.limbo.items (limbo_is g at);
        stay = subst (λ (p : FinMap nat_cmp PinOf). Stay (λ r. Stays p files r.name) (λ r. IsFree p files r.name) dropped_now.limbo.items removed.limbo.items) (same_pins g at)
            (subst (λ (l : List Retired). Stay (λ r. Stays dropped_now.pinned l r.name) (λ r. IsFree dropped_now.pinned l r.name) dropped_now.limbo.items removed.limbo.items) c.deref.ensures.value c.remove_handed-removed.ensures.left);
        gone = λ told. subst (λ (p : FinMap nat_cmp PinOf). OnOk done_too (AreFree p [] (λ x. Only (g.D.Disk.past removed.disk) x None) files)) (same_pins g at)
            (subst (λ (l : List Retired). OnOk done_too (AreFree dropped_now.pinned [] (λ x. Only (g.D.Disk.past removed.disk) x None) l)) c.deref.ensures.value (c.remove_handed-removed.ensures.gone told));
      });
    })

pub returns-clause-cause : goal.returns-clause-cause
returns-clause-cause g c told is failed =
    let faults = g.D.Disk.faults in
    let self = c.args.self.now in
    let same : c.hand_over.new.self.disk ≡ self.disk = c.hand_over.ensures.same.2 in
    let more : faults c.hand_over.new.self.disk ≤ faults c.drop_asked.new.self.disk = c.drop_asked.ensures.changes.costs.faults in
    let own : c.remove_handed-removed.result ≡ told = cc (is) in
    rose_after (faults self.disk) (faults c.drop_asked.new.self.disk) (faults c.remove_handed-removed.new.self.disk) (subst (λ d. faults d ≤ faults c.drop_asked.new.self.disk) same more) (c.remove_handed-removed.ensures.cause (subst (λ (r : Result (Unit {0}) DiskErr). IsErr r) (sym own) failed))

pub returns-clause-whole : goal.returns-clause-whole
returns-clause-whole g c held has i were low whole =
    let then = limbo_whole g (goal.at.returns-clause-whole g c).After-drop_asked held has i were low whole in
    c.remove_handed-removed.ensures.whole i held.stands then.0 low then.1

pub returns-clause-leaves : goal.returns-clause-leaves
returns-clause-leaves g c held names has later apart =
    let at = (goal.at.returns-clause-leaves g c).After-drop_asked in
    names_then names g.D.Disk.tells _ _ _ (names_left g at held names has later apart) (c.remove_handed-removed.ensures.others names (subst (λ (l : List Retired). All (λ (r : Retired). Contains names r.name → ⊥) l) (sym c.deref.ensures.value) (names_apart g at held names has apart)))

pub returns-clause-tidy : goal.returns-clause-tidy
returns-clause-tidy g c =
    let held = c.requires.has in
    let new = c.remove_handed-removed.new.self in
    let ends = (returns-clause-changes g c).ends held.0 held.1 in (
      ends.3.settled,
      λ fine. retired_strays g.D.Disk.tells _ _ c.args.self.now.pinned c.args.place c.args.row c.args.published.now c.remove_handed-removed.result held.0 (let low = c.requires.within in omega (arith, low)) (λ tells. g.met.D.Disk.seen new.disk tells) held.1 fine ends
          (λ names own apart. returns-clause-leaves g c held.0 names held.1 own apart),
    )
