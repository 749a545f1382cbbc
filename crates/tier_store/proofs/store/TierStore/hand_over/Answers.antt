use Rattle.std.proofs.Common.{◌≡◌, ◌+◌, ◌<◌, ◌++◌, inl, inr, List, map, take, length, refl, sym, ◌∙◌, ap, subst, arith}
use Rattle.std.specs.Prelude.{All, Some, slice_get}
use Rattle.std.proofs.lemmas.Result.{err_from_is_err_and}
use Rattle.pv_catalog.specs.declared.row.Row.{Row}
use Rattle.store_manifest.specs.Entries.{InOrder}
use Rattle.store_manifest.specs.Manifest.{ManifestState}
use Rattle.store_manifest.specs.declared.entry.Entry.{Entry}
use Rattle.tier_store.specs.Limbo.{ListsPlace, Stay, StayUnlisted, LeaveListed}
use Rattle.tier_store.specs.Retiring.{oldest_entries, drop_entry, retired_of}
use Rattle.tier_store.specs.Seen.{AtEach, seen}
use Rattle.tier_store.specs.declared.limbo.Retired.{Retired}
use Rattle.tier_store.proofs.Retirements.{entries_rows, leave_by_list, entered_shown}
use Rattle.tier_store.proofs.Places.{manifest_here, one_manifest}
use Rattle.tier_store.proofs.Removals.{lists_in_order, none_left, stay_unlisted}
use Rattle.tier_store.specs.Pinned.{beside}
use Rattle.tier_store.specs.Revival.{KeepsWhole}
use Rattle.tier_store.proofs.Frames.{unlisted_whole}
use Rattle.tier_store.proofs.store.TierStore.hand_over.Goals.{After-leave_listed, After-oldest-entries}
use Rattle.tier_store.proofs.store.TierStore.hand_over.Goals as goal

here : (g : _) (c : After-oldest-entries g) → slice_get c.args.self.now.manifests.items c.args.place ≡ Some c.index.result.now
here g c = let three = c.requires.has.1.known.three in manifest_here c.args.self.now.manifests.items c.args.place c.index.result.now c.index.ensures (omega (arith, three, c.requires.within))

oldest_are : (g : _) (c : After-oldest-entries g) (m : ManifestState) → slice_get c.args.self.now.manifests.items c.args.place ≡ Some m → c.oldest-entries.result.now ≡ oldest_entries c.args.row c.args.n m.entries
oldest_are g c m there =
    c.oldest-entries.ensures ∙ (ap (λ (l : List Entry). take c.args.n l) c.entries.ensures
    ∙ ap (λ (x : ManifestState). oldest_entries c.args.row c.args.n x.entries) (one_manifest c.args.self.now.manifests.items c.args.place c.args.place m c.index.result.now refl there (here g c)))

within : (g : _) (c : After-oldest-entries g) → All (λ (e : Entry). e.series < length c.rows-rows.result.now) c.oldest-entries.result.now
within g c =
    let held = c.requires.has in
    let m = c.index.result.now in
    subst (λ (rs : List Row). All (λ (e : Entry). e.series < length rs) c.oldest-entries.result.now) (sym c.rows-rows.ensures.value)
    (subst (λ (l : List Entry). All (λ (e : Entry). e.series < length c.args.self.now.catalogue.rows) l) (sym (oldest_are g c m (here g c))) (entries_rows g.D.Disk.tells (seen g.D.Disk c.args.self.now) held.0 c.args.place m c.args.row c.args.n held.1 (here g c)))

stay : (g : _) (c : After-leave_listed g) → StayUnlisted (seen g.D.Disk c.args.self.now) c.args.self.now.limbo.items c.leave_listed.new.limbo.items
stay g c =
    let self = c.args.self.now in
    let kept = c.leave_listed.new.limbo.items in
    let held = c.requires.has in
    let known = subst (λ (xs : List ManifestState). AtEach xs (λ i m. InOrder m.entries) → Stay (λ r. ListsPlace xs r → ⊥) (ListsPlace xs) self.limbo.items kept) c.deref.ensures.value c.leave_listed.ensures in
    stay_unlisted (seen g.D.Disk c.args.self.now) held.0 self.limbo.items kept held.1.known c.requires.stands (known (lists_in_order self.catalogue self.manifests.items held.0 held.1.known))

pub all_retired-requires : goal.all_retired-requires
all_retired-requires g c = within g (goal.at.all_retired-requires g c).After-oldest-entries

pub all_retired-requires-2 : goal.all_retired-requires-2
all_retired-requires-2 g c = within g (goal.at.all_retired-requires-2 g c).After-oldest-entries

pub returns-in_err-files-clause-failed : goal.returns-in_err-files-clause-failed
returns-in_err-files-clause-failed g c = let p = err_from_is_err_and c.from_residual.result c.from_residual.ensures.1 in rw p.1 (none_left _ c.args.self.now.limbo.items c.args.self.now.limbo.items refl)

pub returns-in_err-entering-clause-failed : goal.returns-in_err-entering-clause-failed
returns-in_err-entering-clause-failed g c = let p = err_from_is_err_and c.from_residual-in_err-entering.result c.from_residual-in_err-entering.ensures.1 in rw p.1 (none_left _ c.args.self.now.limbo.items c.args.self.now.limbo.items refl)

pub returns-in_err-drops-clause-failed : goal.returns-in_err-drops-clause-failed
returns-in_err-drops-clause-failed g c = let p = err_from_is_err_and c.from_residual-in_err-drops.result c.from_residual-in_err-drops.ensures.1 in rw p.1 (none_left _ c.args.self.now.limbo.items c.args.self.now.limbo.items refl)

pub returns-in_err-append-clause-failed : goal.returns-in_err-append-clause-failed
returns-in_err-append-clause-failed g c =
    let p = err_from_is_err_and c.from_residual-in_err-append.result c.from_residual-in_err-append.ensures.1 in
    rw p.1 (subst (λ (l : List Retired). LeaveListed (seen g.D.Disk c.args.self.now) c.args.self.now.limbo.items l) (sym c.in_err-append.ensures.items) (leave_by_list (seen g.D.Disk c.args.self.now) c.args.self.now.limbo.items c.leave_listed.new.limbo.items (stay g (goal.at.returns-in_err-append-clause-failed g c).After-leave_listed)))

pub returns-in_err-append-clause-shown : goal.returns-in_err-append-clause-shown
returns-in_err-append-clause-shown g c = let held = c.requires.has in entered_shown g.D.Disk.tells (seen g.D.Disk c.args.self.now) c.args.self.now.limbo.items c.leave_listed.new.limbo.items c.in_ok-entering.entering.items c.append.new.self.items held.0 held.1 (stay g (goal.at.returns-in_err-append-clause-shown g c).After-leave_listed) (inr c.in_err-append.ensures.items)

pub returns-clause-shown : goal.returns-clause-shown
returns-clause-shown g c = let held = c.requires.has in entered_shown g.D.Disk.tells (seen g.D.Disk c.args.self.now) c.args.self.now.limbo.items c.leave_listed.new.limbo.items c.in_ok-entering.entering.items c.append.new.self.items held.0 held.1 (stay g (goal.at.returns-clause-shown g c).After-leave_listed) (inl c.in_ok-append.ensures.items)

pub returns-clause-files : goal.returns-clause-files
returns-clause-files g c m there =
    c.in_ok-files.ensures ∙ ap (λ (rs : List Row). map (retired_of (c.args.place + 1, rs)) c.oldest-entries.result.now) c.rows-rows.ensures.value
    ∙ ap (λ (l : List Entry). map (retired_of (c.args.place + 1, c.args.self.now.catalogue.rows)) l) (oldest_are g (goal.at.returns-clause-files g c).After-oldest-entries m there)

pub returns-clause-drops : goal.returns-clause-drops
returns-clause-drops g c m there = c.in_ok-drops.ensures ∙ ap (λ (l : List Entry). map drop_entry l) (oldest_are g (goal.at.returns-clause-drops g c).After-oldest-entries m there)

pub returns-clause-entered : goal.returns-clause-entered
returns-clause-entered g c = (c.leave_listed.new.limbo.items, stay g (goal.at.returns-clause-entered g c).After-leave_listed, c.in_ok-append.ensures.items ∙ ap (λ (l : List Retired). c.leave_listed.new.limbo.items ++ l) (c.in_ok-entering.ensures ∙ sym c.in_ok-files.ensures))

pub returns-in_err-files-clause-whole : goal.returns-in_err-files-clause-whole
returns-in_err-files-clause-whole g c = let p = err_from_is_err_and c.from_residual.result c.from_residual.ensures.1 in rw p.1 (λ i stands files low whole. (files, whole))

pub returns-in_err-entering-clause-whole : goal.returns-in_err-entering-clause-whole
returns-in_err-entering-clause-whole g c = let p = err_from_is_err_and c.from_residual-in_err-entering.result c.from_residual-in_err-entering.ensures.1 in rw p.1 (λ i stands files low whole. (files, whole))

pub returns-in_err-drops-clause-whole : goal.returns-in_err-drops-clause-whole
returns-in_err-drops-clause-whole g c = let p = err_from_is_err_and c.from_residual-in_err-drops.result c.from_residual-in_err-drops.ensures.1 in rw p.1 (λ i stands files low whole. (files, whole))

pub returns-in_err-append-clause-whole : goal.returns-in_err-append-clause-whole
returns-in_err-append-clause-whole g c =
    let limbo = c.args.self.now.limbo.items in
    let p = err_from_is_err_and c.from_residual-in_err-append.result c.from_residual-in_err-append.ensures.1 in
    rw p.1 (subst (λ (l : List Retired). KeepsWhole g.D.Disk.tells (beside (seen g.D.Disk c.args.self.now) limbo) (beside (seen g.D.Disk c.args.self.now) l)) (sym c.in_err-append.ensures.items) (unlisted_whole g.D.Disk.tells (seen g.D.Disk c.args.self.now) limbo c.leave_listed.new.limbo.items c.requires.stands (stay g (goal.at.returns-in_err-append-clause-whole g c).After-leave_listed) c.requires.has.1.known.three))
