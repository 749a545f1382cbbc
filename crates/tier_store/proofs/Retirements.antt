-- Files that leave a list: what they are in limbo, and what comes of the stores. These stay while files are removed that they don't list, and so do
-- pinned pieces.
use Rattle.std.proofs.Common.{◌≡◌, inl, inr, Bool, ℕ, zero, suc, ◌≤◌, ◌+◌, ◌++◌, List, [], ◌∷◌, length, map, get_or, None, Some, refl, sym, ◌∙◌, ap, subst, arith, ◌⊎◌, true, false, ◌==◌, filter, ◌<◌, ◌≢◌}
use Rattle.std.specs.Prelude.{All, Contains, IsTrue, slice_get, Result, nat_eq}
use Rattle.std.specs.FinMap.{FinMap}
use Rattle.std.specs.Ordering.{nat_cmp}
use Rattle.std.proofs.lemmas.List.Elements.{All-contains, Contains-get_or, Contains-append_left, All-filter, All-head, All-tail, All-take, All-append, Contains-append_cases, Contains-append_right, filter_passes}
use Rattle.std.proofs.lemmas.Option.{same_Some}
use Rattle.disk_model.specs.Files.{Name, Files, Rose}
use Rattle.disk_model.specs.Past.{Passes, Only}
use Rattle.disk_model.proofs.Passing.{passes_weaker, passes_then}
use Rattle.gate_journal.specs.Generations.{IsOwn}
use Rattle.gate_journal.specs.Journal.{JournalState}
use Rattle.gate_journal.specs.DiskShown.{DiskShown, shown_by}
use Rattle.gate_journal.proofs.Keeping.{says_stays}
use Rattle.gate_journal.proofs.Owning.{own_store}
use Rattle.partition_names.specs.declared.granularity.Granularity.{Granularity}
use Rattle.pins.specs.Pieces.{PinOf, file_of as piece_file}
use Rattle.pins.specs.declared.piece.PinnedFile.{PinnedFile}
use Rattle.pv_catalog.specs.declared.row.Row.{Row}
use Rattle.pv_catalog.specs.Catalogue.{CatalogueState, catalogue_name}
use Rattle.pv_catalog.specs.Rows.{IsCatalogue, KeepsRows}
use Rattle.store_files.specs.Fronts.{Begins}
use Rattle.store_manifest.specs.Batches.{Folds}
use Rattle.store_manifest.specs.Manifest.{ManifestState, manifest_name}
use Rattle.store_manifest.specs.declared.entry.Entry.{Entry}
use Rattle.durable_write.specs.Ends.{End, Done, Refused, Failed, Spent, IsFailed, end_of_error}
use Rattle.durable_write.specs.Held.{Filed, Held, AreIn, bytes_of, entry_of, file_of, shelf_of, IsListed, filed_at}
use Rattle.durable_write.specs.Stored.{Holds, AreLong, CatalogueStored, TierStored}
use Rattle.durable_write.proofs.Staying.{Untouched, catalogue_stays, tier_stays, safe_stays, same_place, contains_map, map_in, map_out, same_cases}
use Rattle.tier_store.specs.Stores.{Stores, list_at, tier}
use Rattle.tier_store.specs.Seen.{Seen, granularities, seen, seen_on, on_disk}
use Rattle.tier_store.specs.declared.store.TierStore.{TierStore}
use Rattle.disk_model.specs.declared.disk.Disk.{Ghosts}
use Rattle.tier_store.specs.Change.{IsKnown, Has, HoldsBy, EndsFrom, Changes, StoreCall}
use Rattle.tier_store.specs.Pinned.{SeenAll, beside, IsHeldTo, IsNoShorter, IsThereTo, KeepsShown, PinsStand, Shows}
use Rattle.tier_store.specs.Limbo.{IsOfPlace, LimboStands, NamesDiffer, IsListedName, IsPinnedFile, IsNeeded, IsKeptName, IsSwept, StayUnlisted, StayNeeded, AreGone, AreFree, Removes, Spares, SparesKept, LeavesKept, staying, Stay, LeaveListed}
use Rattle.tier_store.specs.declared.limbo.Retired.{Retired}
use Rattle.tier_store.proofs.Holding.{has_left}
use Rattle.tier_store.proofs.Showing.{shown, fronts_same, from_oldest, same_entries, stays_or}
use Rattle.tier_store.proofs.Places.{manifest_of, row_listed, granularity_at, list_other, list_set, manifest_at, within_three}
use Rattle.tier_store.proofs.Removals.{stay_by, stay_cases, stay_from, names_apart, pairs_both, rise_take, stay_differ, limbo_kept}
use Rattle.durable_write.proofs.Written.{contains_entry}
use Rattle.std.specs.List.{list_any}
use Rattle.std.proofs.lemmas.List.Folds.{Any-from_list_any, list_any-from_Any}
use Rattle.disk_model.specs.Record.{is_same}
use Rattle.tier_store.specs.Retiring.{IsFree, Leaves, Stays, names_in, oldest_entries, FailsRetired, AreApart, oldest, without_oldest, retired_of, Enter, HandedOver, HasGrown, HasNotGrown, Retires, SaysRetired, retiring, dropping}
use Rattle.disk_model.proofs.Lookups.{is_same-true, is_same-same}
use Rattle.disk_model.specs.declared.disk.DiskErr.{DiskErr}
use Rattle.disk_model.specs.declared.disk.DiskErr.TheVariants.{Fault, Memory}
use Rattle.pv_catalog.proofs.Standing.{keeps_same}
use Rattle.store_manifest.specs.Entries.{comes_before, without}
use Rattle.durable_write.specs.Ahead.{without_all}
use Rattle.durable_write.specs.Plan.{of_row}
use Rattle.durable_write.proofs.Places.{before_apart, rise_filter}
use Rattle.durable_write.proofs.Commits.{all_without_all}
use Rattle.tier_store.specs.Stored.{HoldsAll}
use Rattle.tier_store.specs.declared.retirement.RetireEnd.{RetireEnd}
use Rattle.tier_store.proofs.OnePlace.{nothing_changes}

-- THE STORES STAY

module _ (Spared : Name → Type 0) (journals : (n : Name) → n.0 ≡ 0 → Spared n) where
  abbrev Step : Files → Files → Type 0
  Step a c = (n : Name) → Spared n → c n ≡ a n

  -- none of a store's files is touched
  abbrev AreSpared : Held → Type 0
  AreSpared t = All (λ (f : Filed). Spared (file_of (shelf_of t) f.entry)) t.files

  in_spared : (t : Held) (a c : Files) → AreSpared t → Step a c → AreIn t a → AreIn t c
  in_spared t a c spared step was stands k d lt =
      let f : Filed = get_or t.files k d in subst (Begins (bytes_of f)) (sym (step (file_of (shelf_of t) f.entry) (spared k d lt))) (was stands k d lt)

  long_spared : (t : Held) (a c : Files) → AreSpared t → Step a c → AreLong t a → AreLong t c
  long_spared t a c spared step long k d lt =
      let was = long k d lt in record { bytes = was.bytes; file = step (file_of (shelf_of t) (get_or t.files k d).entry) (spared k d lt) ∙ was.file; holds = was.holds }

  holds_spared : (g : Granularity) (t : Held) (a c : Files) → AreSpared t → Step a c → Holds g a t → Holds g c t
  holds_spared g t a c spared step holds = record {
    rows = says_stays IsCatalogue t.rows catalogue_name a c (λ n own. step n (journals n (own_store catalogue_name n own))) holds.rows;
    lists = says_stays (Folds g) (map entry_of t.files) (manifest_name t.store) a c (λ n own. step n (journals n (own_store (manifest_name t.store) n own))) holds.lists;
    filed = holds.filed;
    files = in_spared t a c spared step holds.files;
  }

  module _ (old new : DiskShown) (passes : Passes Step old.past new.past) (same : Step old.files new.files) (fewer : (n : Name) → new.opened n ≤ old.opened n) where
    untouched : (journal : JournalState) (own : Name) → journal.name ≡ own → own.0 ≡ 0 → Untouched Step journal old.files new.files old.opened new.opened
    untouched journal own is zero_store =
        let spared : (n : Name) → IsOwn journal.name n → Spared n = λ n own. journals n (own_store journal.name n own ∙ ap (λ (m : Name). m.0) is ∙ zero_store) in
        record { step = λ a c step n own. step n (spared n own); same = λ n own. same n (spared n own); fewer = λ n own. fewer n }

    rows_spared : (c : JournalState) (rows : List Row) → CatalogueStored c old rows → CatalogueStored c new rows
    rows_spared c rows stored = catalogue_stays Step c old new passes (untouched c catalogue_name stored.named refl) rows stored

    tier_spared : (g : Granularity) (m : JournalState) (t : Held) → AreSpared t → TierStored g m old t → TierStored g m new t
    tier_spared g m t spared stored =
        tier_stays Step m old new passes (untouched m (manifest_name t.store) stored.named refl) g t stored
        (safe_stays t Step old new stored.safe passes (λ a c step. in_spared t a c spared step) (long_spared t old.files new.files spared same stored.safe.long) fewer)

-- THE MEMORY IS THE SAME

abbrev pub after_disk : Seen → DiskShown → ℕ → Seen
after_disk at disk faults = record { catalogue = at.catalogue; manifests = at.manifests; files = disk.files; opened = disk.opened; past = disk.past; faults = faults }

pub same_memory : (old new : Seen) → new.catalogue ≡ old.catalogue → new.manifests ≡ old.manifests → after_disk old (on_disk new) new.faults ≡ new
same_memory old new rows lists i = record { catalogue = sym rows i; manifests = sym lists i; files = new.files; opened = new.opened; past = new.past; faults = new.faults }

-- the memory and what reads give are the same
pub same_shown : (tells : Bool) (old new : SeenAll) → new.stores.catalogue ≡ old.stores.catalogue → new.stores.manifests ≡ old.stores.manifests → new.limbo ≡ old.limbo → (IsTrue tells → new.stores.files ≡ old.stores.files) → KeepsShown tells old new
same_shown tells old new rows lists limbo same = subst (λ (s : Seen). KeepsShown tells old (beside s new.limbo)) (same_memory old.stores new.stores rows lists)
    (shown tells old mid limbo (λ name len h. record { place = h.place; manifest = h.manifest; here = h.here; listed = h.listed; in_doubt = h.in_doubt; rows_in_doubt = h.rows_in_doubt })
    (λ name len r. record { listed = r.no_shorter.listed; in_doubt = r.no_shorter.in_doubt; rows_in_doubt = r.no_shorter.rows_in_doubt })
    (λ told. fronts_same old mid (same told)))
  where
    mid : SeenAll
    mid = beside (after_disk old.stores (on_disk new.stores) new.stores.faults) new.limbo

-- more files are in limbo
pub more_shown : (tells : Bool) (old new : SeenAll) (more : List Retired) → new.stores ≡ old.stores → new.limbo ≡ old.limbo ++ more → KeepsShown tells old new
more_shown tells old new more same limbo = subst (λ (all : SeenAll). KeepsShown tells old all) (λ i. beside (sym same i) (sym limbo i)) (λ name bytes was. record {
  held = elim was.held [
    | inl h ↦ inl h
    | inr r ↦ inr (record { file = r.file; within = Contains-append_left old.limbo more r.file r.within; named = r.named; longer = r.longer; numbered = r.numbered; no_shorter = r.no_shorter })
  ];
  some = was.some;
  front = was.front;
})

-- stores of these parts
pub seen_new : {D R : Type 0} (disk : Ghosts D R) (store : TierStore D R) (catalogue : CatalogueState) (manifests : List ManifestState) (d : D) → store.catalogue ≡ catalogue → store.manifests.items ≡ manifests → store.disk ≡ d → seen disk store ≡ seen_on (shown_by disk) disk.faults catalogue manifests d
seen_new {D} {R} disk store catalogue manifests d rows lists is i = seen_on (shown_by disk) disk.faults (rows i) (lists i) (is i)

-- NAMES THAT ARE LISTED

pub listed_name : (at : Seen) (s : Stores) (k : ℕ) (m : ManifestState) (f : Filed) → IsKnown at.catalogue at.manifests s → slice_get at.manifests k ≡ Some m → Contains (list_at k s) f → IsListedName at (file_of (k + 1, s.rows) f.entry)
listed_name at s k m f known here within = record {
  place = k;
  manifest = m;
  here = here;
  entry = f.entry;
  within = subst (λ (es : List Entry). Contains es f.entry) (sym (known.each k m here).entries) (contains_entry (list_at k s) f within);
  named = ap (λ (r : List Row). file_of (k + 1, r) f.entry) known.rows;
}

-- THE SWEEP

module _ (tells : Bool) (at : Seen) (pins : FinMap nat_cmp PinOf) (copied : List Name) (limbo retired : List Retired) (stands : LimboStands at limbo) (unlisted : StayUnlisted at limbo retired) (seen : DiskShown) (faults : ℕ)
    (removes : IsTrue tells → Removes pins copied retired (on_disk at) seen) where
  abbrev Spared : Name → Type 0
  Spared n = (r : Retired) → Contains retired r → r.name ≡ n → IsNeeded pins copied n

  abbrev swept : Seen
  swept = after_disk at seen faults

  journals : (n : Name) → n.0 ≡ 0 → Spared n
  journals n zero_store r within is =
      let of = All-contains (IsOfPlace at) limbo r stands.0 (stay_from (λ x. IsListedName at x.name → ⊥) (λ x. IsListedName at x.name) limbo retired r unlisted within).0 in
      let number : of.place + 1 ≡ r.name.0 = ap (λ (x : Name). x.0) of.named in
      let here : r.name.0 ≡ n.0 = ap (λ (x : Name). x.0) is in absurd (omega (arith, number, here, zero_store))

  listed_spared : (held : Stores) (k : ℕ) (m : ManifestState) → IsKnown at.catalogue at.manifests held → slice_get at.manifests k ≡ Some m → All (λ (f : Filed). Spared (file_of (shelf_of (tier k held)) f.entry)) (list_at k held)
  listed_spared held k m known here j d lt r within is =
      let f : Filed = get_or (list_at k held) j d in
      let listed = listed_name at held k m f known here (Contains-get_or (list_at k held) j d lt) in
      absurd ((stay_from (λ x. IsListedName at x.name → ⊥) (λ x. IsListedName at x.name) limbo retired r unlisted within).1 (subst (IsListedName at) (sym is) listed))

  pub has_swept : (held : Stores) → Has tells at held → Has tells swept held
  has_swept held has = record {
    known = record { three = has.known.three; rows = has.known.rows; each = has.known.each };
    settled = record { catalogue = has.settled.catalogue; manifests = has.settled.manifests };
    disk = λ told.
        let stored = has.disk told in
        record {
          rows = rows_spared Spared journals (on_disk at) seen (removes told).any_moment (removes told).spares (removes told).fewer at.catalogue.journal held.rows stored.rows;
          each = λ k m here. tier_spared Spared journals (on_disk at) seen (removes told).any_moment (removes told).spares (removes told).fewer m.granularity m.journal (tier k held) (listed_spared held k m has.known here) (stored.each k m here);
        };
  }

  pub swept_holds : (held : Stores) → Has tells at held → IsTrue tells → Passes (HoldsBy (granularities at.manifests) (λ old made. made ≡ old) held) at.past seen.past
  swept_holds held has told = passes_weaker (Spares pins copied retired) (HoldsBy (granularities at.manifests) (λ old made. made ≡ old) held) at.past seen.past (removes told).any_moment (λ a c left step.
      let was = has_left tells at held has told a left in
      inl (λ k g here. let m = manifest_of at.manifests k g here in holds_spared Spared journals g (tier k held) a c (listed_spared held k m.0 has.known m.1) step (was k g here)))

  -- whatever it answers
  pub swept_changes : {A : Type 0} (end : End A ⊥) → at.faults ≤ faults → (IsFailed end → Rose at.faults faults) → Changes tells staying at swept end
  swept_changes {A} end more cause = record {
    ends = λ held has. go end held (has_swept held has);
    any_moment = λ told held has. swept_holds held has told;
    costs = record { granularity = refl; faults = more; cause = cause };
  }
    where
      go : (end : End A ⊥) (held : Stores) → Has tells swept held → EndsFrom tells staying swept held end
      go (Done a) held has = (held, refl, tt, has)
      go (Refused e) held has = absurd e
      go Failed held has = inl has
      go Spent held has = has

  -- WHAT IS KEPT

  abbrev Unlisted : Retired → Type 0
  Unlisted x = IsListedName at x.name → ⊥

  abbrev Listed : Retired → Type 0
  Listed x = IsListedName at x.name

  listed_unswept : (n : Name) → IsListedName swept n → IsListedName at n
  listed_unswept n l = record { place = l.place; manifest = l.manifest; here = l.here; entry = l.entry; within = l.within; named = l.named }

  listed_now : (n : Name) → IsListedName at n → IsListedName swept n
  listed_now n l = record { place = l.place; manifest = l.manifest; here = l.here; entry = l.entry; within = l.within; named = l.named }

  -- one that is kept and isn't listed is needed
  kept_needed : (n : Name) (r : Retired) → Contains retired r → r.name ≡ n → IsKeptName swept pins copied n → IsNeeded pins copied n
  kept_needed n r within is (inl listed) = absurd ((stay_from Unlisted Listed limbo retired r unlisted within).1 (subst (IsListedName at) (sym is) (listed_unswept n listed)))
  kept_needed n r within is (inr needed) = needed

  spares_kept : (a c : Files) → Spares pins copied retired a c → SparesKept swept pins copied limbo a c
  spares_kept a c spares n kept = spares n (λ r within is. kept_needed n r within is (kept r (stay_from Unlisted Listed limbo retired r unlisted within).0 is))

  held_still : (name : Name) (len : ℕ) → IsHeldTo at name len → IsHeldTo swept name len
  held_still name len h = record { place = h.place; manifest = h.manifest; here = h.here; listed = h.listed; in_doubt = h.in_doubt; rows_in_doubt = h.rows_in_doubt }

  -- one that is listed again
  listed_again : (held : Stores) (name : Name) (len : ℕ) → Has tells at held → IsNoShorter at name len → IsListedName at name → IsHeldTo swept name len
  listed_again held name len has short l = record {
    place = l.place;
    manifest = l.manifest;
    here = l.here;
    listed = record { entry = l.entry; within = l.within; named = l.named; longer = All-contains (λ (e : Entry). file_of (l.place + 1, at.catalogue.rows) e ≡ name → len ≤ e.len) l.manifest.entries l.entry (short.listed l.place l.manifest l.here) l.within l.named };
    in_doubt = λ unsound. absurd (cc (unsound, has.settled.manifests l.place l.manifest l.here));
    rows_in_doubt = λ unsound. absurd (cc (unsound, has.settled.catalogue));
  }

  there_kept : (held : Stores) (left : List Retired) (name : Name) (len : ℕ) → Has tells at held → ((r : Retired) → Contains retired r → IsNeeded pins copied r.name → Contains left r) → IsKeptName swept pins copied name → IsThereTo (beside at limbo) name len → IsThereTo (beside swept left) name len
  there_kept held left name len has stays kept (inl h) = inl (held_still name len h)
  there_kept held left name len has stays kept (inr r) = elim (stay_cases Unlisted Listed limbo retired r.file unlisted r.within) [
    | inl within ↦ inr (record {
      file = r.file;
      within = stays r.file within (subst (IsNeeded pins copied) (sym r.named) (kept_needed name r.file within r.named kept));
      named = r.named;
      longer = r.longer;
      numbered = r.numbered;
      no_shorter = record { listed = r.no_shorter.listed; in_doubt = r.no_shorter.in_doubt; rows_in_doubt = r.no_shorter.rows_in_doubt };
    })
    | inr listed ↦ inl (listed_again held name len has r.no_shorter (subst (IsListedName at) r.named listed))
  ]

  pub swept_leaves : (held : Stores) (left : List Retired) → Has tells at held → ((r : Retired) → Contains retired r → IsNeeded pins copied r.name → Contains left r) → LeavesKept tells pins copied (beside at limbo) (beside swept left)
  swept_leaves held left has stays = record {
    shown = λ name bytes kept was. record {
      held = there_kept held left name (length bytes) has stays kept was.held;
      some = was.some;
      front = λ told. subst (Begins bytes) (sym ((removes told).spares name (λ r within is. kept_needed name r within is kept))) (was.front told);
    };
    files = λ told. spares_kept at.files seen.files (removes told).spares;
    any_moment = λ told. passes_weaker (Spares pins copied retired) (SparesKept swept pins copied limbo) at.past seen.past (removes told).any_moment (λ a c left step. spares_kept a c step);
  }

  -- WHAT LEAVES LIMBO

  nothing_known : (xs : List Retired) → All (λ (r : Retired). Unit {0}) xs
  nothing_known xs k d lt = tt

  pub swept_files : (left : List Retired) (files : ℕ) → StayNeeded pins copied retired left → files + length left ≡ length retired → IsSwept swept pins copied limbo left files
  swept_files left files needed count = record {
    retired = retired;
    unlisted = stay_by Unlisted Listed (λ x. IsListedName swept x.name → ⊥) (λ x. IsListedName swept x.name) (λ r. Unit {0}) (λ r known not_listed listed. not_listed (listed_unswept r.name listed)) (λ r known listed. listed_now r.name listed) limbo retired (nothing_known limbo) unlisted;
    needed = needed;
    count = count;
  }

  pub are_gone : AreFree pins copied (λ n. Only seen.past n None) retired → AreGone swept pins copied limbo
  are_gone free k d lt unneeded =
      let r : Retired = get_or limbo k d in
      elim (stay_cases Unlisted Listed limbo retired r unlisted (Contains-get_or limbo k d lt)) [
        | inl within ↦ All-contains (λ (x : Retired). (IsNeeded pins copied x.name → ⊥) → Only seen.past x.name None) retired r free within unneeded.1
        | inr listed ↦ absurd (unneeded.0 (listed_now r.name listed))
      ]

  pub still_stands : (left : List Retired) → ((r : Retired) → Contains left r → Contains retired r) → NamesDiffer left → LimboStands swept left
  still_stands left among differ = (
    λ k d lt.
        let r : Retired = get_or left k d in
        let of = All-contains (IsOfPlace at) limbo r stands.0 (stay_from Unlisted Listed limbo retired r unlisted (among r (Contains-get_or left k d lt))).0 in
        record { place = of.place; granularity = of.granularity; here = of.here; row = of.row; stands = of.stands; part = of.part; named = of.named },
    differ,
  )

-- what is pinned is kept
pub slice_contains : (xs : List PinnedFile) (i : ℕ) (x : PinnedFile) → slice_get xs i ≡ Some x → Contains (map piece_file xs) x.name
slice_contains [] i x is = absurd (cc (is))
slice_contains (y ∷ xs) zero x is = (zero, omega arith, ap piece_file (same_Some y x is))
slice_contains (y ∷ xs) (suc i) x is =
    let rest = slice_contains xs i x is in (suc rest.0, omega (arith, rest.1), rest.2)

pub pins_kept : (tells : Bool) (pins : FinMap nat_cmp PinOf) (copied : List Name) (old new : SeenAll) → LeavesKept tells pins copied old new → PinsStand tells old pins → PinsStand tells new pins
pins_kept tells pins copied old new leaves stand n i pin piece here there =
    let was = stand n i pin piece here there in
    let pinned : IsPinnedFile pins piece.name = record { number = n; pin = pin; stands = here; names = slice_contains pin.pieces i piece there } in
    record { bytes = was.bytes; len = was.len; shown = leaves.shown piece.name was.bytes (inr (inl pinned)) was.shown }

-- Stores whose memory and disk are the same

-- the memory and the disk are the same
pub same_seen : {S : Type 0} (shows : S → DiskShown) (faults_of : S → ℕ) (c later : CatalogueState) (ms ns : List ManifestState) (d after : S) → later ≡ c → ns ≡ ms → after ≡ d
    → seen_on shows faults_of c ms d ≡ seen_on shows faults_of later ns after
same_seen {S} shows faults_of c later ms ns d after is is₂ is₃ = λ i. seen_on shows faults_of (sym is i) (sym is₂ i) (sym is₃ i)

-- and what is in limbo too
pub same_all : (at later : Seen) (limbo rest : List Retired) → at ≡ later → rest ≡ limbo → beside at limbo ≡ beside later rest
same_all at later limbo rest is same = λ i. beside (is i) (sym same i)

-- IN LIMBO AND OFF THE DISK

-- NAMES

leaves_from : (files : List Retired) (name : Name) → list_any (λ (r : Retired). is_same r.name name) files ≡ true → Leaves files name
leaves_from files name any =
    let found = Any-from_list_any (λ (r : Retired). is_same r.name name) files any in
    (found.1, (found.0, found.2, found.3), is_same-true found.1.name name found.4)

leaves_to : (files : List Retired) (name : Name) → Leaves files name → list_any (λ (r : Retired). is_same r.name name) files ≡ true
leaves_to files name l = list_any-from_Any (λ (r : Retired). is_same r.name name) files (l.1.0, l.0, l.1.1, l.1.2, subst (λ (n : Name). is_same l.0.name n ≡ true) l.2 (is_same-same l.0.name))

no_name : (name : Name) → Contains [] name → ⊥
no_name name (k, lt, is) = omega (arith, lt)

pub pinned_by : (pins : FinMap nat_cmp PinOf) (name : Name) → IsNeeded pins [] name → IsPinnedFile pins name
pinned_by pins name (inl pinned) = pinned
pinned_by pins name (inr among) = absurd (no_name name among)

-- one that doesn't leave stays
pub stays_there : (pins : FinMap nat_cmp PinOf) (files : List Retired) (name : Name) (b : Bool) → b ≡ list_any (λ (r : Retired). is_same r.name name) files → b ≡ false → Stays pins files name
stays_there pins files name b is t = inl (λ leaves. let yes : b ≡ true = is ∙ leaves_to files name leaves in cc (yes, t))

-- one that leaves is free where no pin names it
pub free_leaves : (pins : FinMap nat_cmp PinOf) (files : List Retired) (name : Name) (b p : Bool) → b ≡ list_any (λ (r : Retired). is_same r.name name) files → b ≡ true → (IsNeeded pins [] name → p ≡ true) → p ≡ false → IsFree pins files name
free_leaves pins files name b p is t says none = record {
  leaves = leaves_from files name (sym is ∙ t);
  free = λ pinned. let yes : p ≡ true = says (inl pinned) in absurd (cc (yes, none));
}

-- LISTS

pub all_stay : (P Q : Retired → Type 0) (xs : List Retired) → All P xs → Stay P Q xs xs
all_stay P Q [] all = refl
all_stay P Q (x ∷ xs) all = inl (xs, All-head P x xs all, refl, all_stay P Q xs (All-tail P x xs all))

-- the file in limbo that has the name
pub named_in : (left : List Retired) (n : Name) → Contains (names_in left) n → (r : Retired) × Contains left r × (r.name ≡ n)
named_in [] n (k, lt, is) = absurd (omega (arith, lt))
named_in (r ∷ left) n (zero, lt, is) = (r, (zero, omega arith, refl), is)
named_in (r ∷ left) n (suc k, lt, is) = let rest = named_in left n (k, omega (arith, lt), is) in (rest.0, (suc rest.1.0, omega (arith, rest.1.1), rest.1.2), rest.2)

pub name_left : (left : List Retired) (r : Retired) → Contains left r → Contains (names_in left) r.name
name_left [] r (k, lt, is) = absurd (omega (arith, lt))
name_left (x ∷ left) r (zero, lt, is) = (zero, omega arith, ap (λ (y : Retired). y.name) is)
name_left (x ∷ left) r (suc k, lt, is) = let rest = name_left left r (k, omega (arith, lt), is) in (suc rest.0, omega (arith, rest.1), rest.2)

module _ (pins : FinMap nat_cmp PinOf) (files limbo left : List Retired) (stay : Stay (λ r. Stays pins files r.name) (λ r. IsFree pins files r.name) limbo left) where
  pub none_more : (x : Retired) → Contains left x → Contains limbo x
  none_more x within = (stay_from (λ r. Stays pins files r.name) (λ r. IsFree pins files r.name) limbo left x stay within).0

  -- a name that leaves, and that is pinned or in limbo still, is pinned
  left_pinned : (n : Name) → Leaves files n → IsNeeded pins (names_in left) n → IsPinnedFile pins n
  left_pinned n leaves (inl pinned) = pinned
  left_pinned n leaves (inr among) =
      let r = named_in left n among in
      let stays = subst (Stays pins files) r.2 (stay_from (λ x. Stays pins files x.name) (λ x. IsFree pins files x.name) limbo left r.0 stay r.1).1 in
      elim stays [ inl none ↦ absurd (none leaves) | inr pinned ↦ pinned ]

  -- what a pin names is in limbo still
  pub left_stays : (x : Retired) → Contains limbo x → IsNeeded pins (names_in left) x.name → Contains left x
  left_stays x within needed = elim (stay_cases (λ r. Stays pins files r.name) (λ r. IsFree pins files r.name) limbo left x stay within) [
    | inl here ↦ here
    | inr free ↦ absurd (free.free (left_pinned x.name free.leaves needed))
  ]

  -- a removal of these files spares whatever is in limbo still
  spares_left : All (Contains limbo) files → (a b : Files) → Spares pins [] files a b → Spares pins (names_in left) limbo a b
  spares_left among a b spares n other = spares n (λ r within is. inl (left_pinned n (r, within, is) (other r (All-contains (Contains limbo) files r among within) is)))

  pub removes_left : All (Contains limbo) files → (old new : DiskShown) → Removes pins [] files old new → Removes pins (names_in left) limbo old new
  removes_left among old new removes = record {
    any_moment = passes_weaker (Spares pins [] files) (Spares pins (names_in left) limbo) old.past new.past removes.any_moment (λ a c there step. spares_left among a c step);
    spares = spares_left among old.files new.files removes.spares;
    fewer = removes.fewer;
  }

-- ENTERING

-- what is listed leaves limbo: it is shown by its list
pub unlisted_shown : (tells : Bool) (at : Seen) (limbo kept : List Retired) (held : Stores) → Has tells at held → StayUnlisted at limbo kept → KeepsShown tells (beside at limbo) (beside at kept)
unlisted_shown tells at limbo kept held has stay name bytes was = record {
  held = elim was.held [
    | inl h ↦ inl h
    | inr r ↦ elim (stay_cases (λ x. IsListedName at x.name → ⊥) (λ x. IsListedName at x.name) limbo kept r.file stay r.within) [
      | inl within ↦ inr (record { file = r.file; within = within; named = r.named; longer = r.longer; numbered = r.numbered; no_shorter = r.no_shorter })
      | inr l ↦
          let is : file_of (l.place + 1, at.catalogue.rows) l.entry ≡ name = l.named ∙ r.named in
          inl (record {
            place = l.place;
            manifest = l.manifest;
            here = l.here;
            listed = record { entry = l.entry; within = l.within; named = is; longer = All-contains (λ (e : Entry). file_of (l.place + 1, at.catalogue.rows) e ≡ name → length bytes ≤ e.len) l.manifest.entries l.entry (r.no_shorter.listed l.place l.manifest l.here) l.within is };
            in_doubt = λ unsound. absurd (cc (unsound, has.settled.manifests l.place l.manifest l.here));
            rows_in_doubt = λ unsound. absurd (cc (unsound, has.settled.catalogue));
          })
    ]
  ];
  some = was.some;
  front = was.front;
}

-- then others come into it
pub entered_shown : (tells : Bool) (at : Seen) (limbo kept more new : List Retired) (held : Stores) → Has tells at held → StayUnlisted at limbo kept → (new ≡ kept ++ more) ⊎ (new ≡ kept) → KeepsShown tells (beside at limbo) (beside at new)
entered_shown tells at limbo kept more new held has stay (inl is) name bytes was = more_shown tells (beside at kept) (beside at new) more refl is name bytes (unlisted_shown tells at limbo kept held has stay name bytes was)
entered_shown tells at limbo kept more new held has stay (inr is) name bytes was = subst (λ (l : List Retired). Shows tells (beside at l) name bytes) (sym is) (unlisted_shown tells at limbo kept held has stay name bytes was)

pub leave_by_list : (at : Seen) (limbo kept : List Retired) → StayUnlisted at limbo kept → LeaveListed at limbo kept
leave_by_list at limbo kept stay = stay_by (λ x. IsListedName at x.name → ⊥) (λ x. IsListedName at x.name) (λ x. Unit {0}) (λ x. IsListedName at x.name) (λ r. Unit {0}) (λ r known not_listed. tt) (λ r known listed. listed) limbo kept (λ k d lt. tt) stay

-- each entry of a series is of a row
pub entries_rows : (tells : Bool) (at : Seen) (held : Stores) (i : ℕ) (m : ManifestState) (row n : ℕ) → Has tells at held → slice_get at.manifests i ≡ Some m → All (λ (e : Entry). e.series < length at.catalogue.rows) (oldest_entries row n m.entries)
entries_rows tells at held i m row n has here =
    All-take (λ (e : Entry). e.series < length at.catalogue.rows) n (filter (λ (e : Entry). e.series == row) m.entries)
    (All-filter (λ (e : Entry). e.series == row) (λ (e : Entry). e.series < length at.catalogue.rows) m.entries (λ k d lt. row_listed tells at held (i + 1) (get_or m.entries k d) has (record { place = i; manifest = m; is = refl; here = here; listed = Contains-get_or m.entries k d lt })))

-- WHAT COMES OF THE STORES

-- LISTS

map_filed : (rows : List Row) (i : ℕ) (fs : List Filed) → map (retired_of (i + 1, rows)) (map entry_of fs) ≡ map (λ (f : Filed). retired_of (i + 1, rows) f.entry) fs
map_filed rows i [] = refl
map_filed rows i (f ∷ fs) = ap (λ (l : List Retired). retired_of (i + 1, rows) f.entry ∷ l) (map_filed rows i fs)

apart_from : (f : Filed) (files : List Filed) → All (λ (h : Filed). filed_at h ≢ filed_at f) (without filed_at (filed_at f) files)
apart_from f files =
    All-append (λ (h : Filed). filed_at h ≢ filed_at f) (filter (λ y. comes_before (filed_at y) (filed_at f)) files) (filter (λ y. comes_before (filed_at f) (filed_at y)) files)
    (λ k d lt. before_apart (filed_at (get_or (filter (λ y. comes_before (filed_at y) (filed_at f)) files) k d)) (filed_at f) (filter_passes (λ y. comes_before (filed_at y) (filed_at f)) files k d lt))
    (λ k d lt is. before_apart (filed_at f) (filed_at (get_or (filter (λ y. comes_before (filed_at f) (filed_at y)) files) k d)) (filter_passes (λ y. comes_before (filed_at f) (filed_at y)) files k d lt) (sym is))

-- each of a row's oldest files is among those that leave
pub entries_leave : (place row n : ℕ) (rows : List Row) (m : ManifestState) (held : Stores) → m.entries ≡ map entry_of (list_at place held) → (f : Filed) → Contains (oldest place row n held) f → Contains (map (retired_of (place + 1, rows)) (oldest_entries row n m.entries)) (retired_of (place + 1, rows) f.entry)
entries_leave place row n rows m held are f within =
    map_in (retired_of (place + 1, rows)) (oldest_entries row n m.entries) f.entry (subst (λ (l : List Entry). Contains l f.entry) (sym (same_entries place row n held m.entries are)) (contains_entry (oldest place row n held) f within))

-- no file that is left has the place of a part
apart_all : (fs files : List Filed) (f : Filed) → Contains fs f → All (λ (h : Filed). filed_at h ≢ filed_at f) (without_all files fs)
apart_all [] files f (k, low, is) = absurd (omega (arith, low))
apart_all (x ∷ fs) files f (zero, low, is) = subst (λ (y : Filed). All (λ (h : Filed). filed_at h ≢ filed_at y) (without_all files (x ∷ fs))) is (all_without_all (λ (h : Filed). filed_at h ≢ filed_at x) (without filed_at (filed_at x) files) fs (apart_from x files))
apart_all (x ∷ fs) files f (suc k, low, is) = apart_all fs (without filed_at (filed_at x) files) f (k, omega (arith, low), is)

-- THE FILES THAT LEAVE

module _ (tells : Bool) (i row n : ℕ) (at : Seen) (m : ManifestState) (here : slice_get at.manifests i ≡ Some m) (held : Stores) (has : Has tells at held) where
  abbrev parts : List Filed
  parts = oldest i row n held

  abbrev less : Stores
  less = without_oldest i row n held

  abbrev pub leaving : List Retired
  leaving = map (retired_of (i + 1, at.catalogue.rows)) (oldest_entries row n m.entries)

  low : i < 3
  low = within_three at.manifests i m has.known.three here

  files_are : list_at i less ≡ without_all (list_at i held) parts
  files_are = list_set i (without_all (list_at i held) parts) held low

  pub leaving_is : leaving ≡ map (λ (f : Filed). retired_of (i + 1, held.rows) f.entry) parts
  leaving_is =
      ap (λ (l : List Entry). map (retired_of (i + 1, at.catalogue.rows)) l) (same_entries i row n held m.entries (has.known.each i m here).entries)
      ∙ map_filed at.catalogue.rows i parts
      ∙ ap (λ (r : List Row). map (λ (f : Filed). retired_of (i + 1, r) f.entry) parts) has.known.rows

  pub part_leaves : (f : Filed) → Contains parts f → Contains leaving (retired_of (i + 1, at.catalogue.rows) f.entry)
  part_leaves f within =
      map_in (retired_of (i + 1, at.catalogue.rows)) (oldest_entries row n m.entries) f.entry
      (subst (λ (l : List Entry). Contains l f.entry) (sym (same_entries i row n held m.entries (has.known.each i m here).entries)) (contains_entry parts f within))

  pub part_of : (r : Retired) → Contains leaving r → (f : Filed) × Contains parts f × (retired_of (i + 1, at.catalogue.rows) f.entry ≡ r)
  part_of r within =
      let e = map_out (retired_of (i + 1, at.catalogue.rows)) (oldest_entries row n m.entries) r within in
      let f = contains_map parts e.0 (subst (λ (l : List Entry). Contains l e.0) (same_entries i row n held m.entries (has.known.each i m here).entries) e.1) in
      (f.0, f.1, ap (retired_of (i + 1, at.catalogue.rows)) f.2 ∙ e.2)

  -- they have none of the names that their files don't have
  pub leaving_apart : (names : List Name) → AreApart i row n held names → All (λ (r : Retired). Contains names r.name → ⊥) leaving
  leaving_apart names apart k d lt within =
      let f = part_of (get_or leaving k d) (Contains-get_or leaving k d lt) in
      let named : file_of (i + 1, held.rows) f.0.entry ≡ (get_or leaving k d).name = ap (λ (rows : List Row). file_of (i + 1, rows) f.0.entry) (sym has.known.rows) ∙ ap (λ (r : Retired). r.name) f.2 in
      apart f.0 f.1 (subst (Contains names) (sym named) within)

  -- they are listed
  leaving_listed : (r : Retired) → Contains leaving r → IsListedName at r.name
  leaving_listed r within =
      let f = part_of r within in
      let listed = listed_name at held i m f.0 has.known here (from_oldest i row n held f.0 f.1) in
      subst (IsListedName at) (ap (λ (rows : List Row). file_of (i + 1, rows) f.0.entry) (sym has.known.rows) ∙ ap (λ (x : Retired). x.name) f.2) listed

  -- so what was in limbo and isn't listed is apart from them
  pub kept_apart : (limbo kept files : List Retired) → StayUnlisted at limbo kept → files ≡ leaving → (r : Retired) → Contains kept r → Leaves files r.name → ⊥
  kept_apart limbo kept files stay are r there (file, within, same) =
      (stay_from (λ x. IsListedName at x.name → ⊥) (λ x. IsListedName at x.name) limbo kept r stay there).1 (subst (IsListedName at) same (leaving_listed file (subst (λ (l : List Retired). Contains l file) are within)))

  -- they are named as they were listed
  leaving_placed : All (IsOfPlace at) leaving
  leaving_placed k d lt =
      let f = part_of (get_or leaving k d) (Contains-get_or leaving k d lt) in
      let is = All-contains (IsListed m.granularity held.rows) (list_at i held) f.0 (has.known.each i m here).valid.filed.listed (from_oldest i row n held f.0 f.1) in
      subst (IsOfPlace at) f.2 (record { place = i; granularity = m.granularity; here = granularity_at at.manifests i m here; row = is.row; stands = ap (λ (x : List Row). slice_get x f.0.entry.series) has.known.rows ∙ is.stands; part = is.part; named = refl })

  -- and no two of them have one name
  pub leaving_differ : NamesDiffer leaving
  leaving_differ =
      let valid = (has.known.each i m here).valid in
      let own = of_row row (list_at i held) in
      let test : Filed → Bool = λ f. nat_eq f.entry.series row in
      subst NamesDiffer (sym leaving_is)
      (names_apart m.granularity (i + 1) held.rows parts valid.keys (All-take (IsListed m.granularity held.rows) n own (All-filter test (IsListed m.granularity held.rows) (list_at i held) valid.filed.listed)) (rise_take n own (rise_filter test (list_at i held) valid.apart)))

  pub leaving_stands : LimboStands at leaving
  leaving_stands = (leaving_placed, leaving_differ)

  -- they are files of the stores
  pub leaving_numbered : All (λ (r : Retired). 1 ≤ r.name.0) leaving
  leaving_numbered k d lt =
      let of = leaving_placed k d lt in
      let number : of.place + 1 ≡ (get_or leaving k d).name.0 = ap (λ (x : Name). x.0) of.named in
      omega (arith, number)

  less_in : (k : ℕ) → k < 3 → (f : Filed) → Contains (list_at k less) f → Contains (list_at k held) f
  less_in k lo f within = elim (same_cases k i) [
    | inl is ↦
        let there : Contains (without_all (list_at i held) parts) f = subst (λ (l : List Filed). Contains l f) (ap (λ (j : ℕ). list_at j less) is ∙ files_are) within in
        let all = all_without_all (Contains (list_at i held)) (list_at i held) parts (λ j d lt. Contains-get_or (list_at i held) j d lt) in
        subst (λ (j : ℕ). Contains (list_at j held) f) (sym is) (All-contains (Contains (list_at i held)) (without_all (list_at i held) parts) f all there)
    | inr apart ↦ subst (λ (l : List Filed). Contains l f) (list_other i k (without_all (list_at i held) parts) held low lo apart) within
  ]

  module _ (later : Seen) (now : Has tells later (without_oldest i row n held)) where
    -- what is listed then was listed
    pub listed_before : (name : Name) → IsListedName later name → IsListedName at name
    listed_before name l =
        let lo = within_three later.manifests l.place l.manifest now.known.three l.here in
        let f = contains_map (list_at l.place less) l.entry (subst (λ (es : List Entry). Contains es l.entry) (now.known.each l.place l.manifest l.here).entries l.within) in
        let there = manifest_at at.manifests l.place (let three = has.known.three in omega (arith, lo, three)) in
        let named : file_of (l.place + 1, held.rows) f.0.entry ≡ name = ap (λ (e : Entry). file_of (l.place + 1, held.rows) e) f.2 ∙ ap (λ (r : List Row). file_of (l.place + 1, r) l.entry) (sym now.known.rows) ∙ l.named in
        subst (IsListedName at) named (listed_name at held l.place there.0 f.0 has.known there.1 (less_in l.place lo f.0 f.1))

    -- what was listed is so still, or leaves
    pub listed_after : (name : Name) → IsListedName at name → IsListedName later name ⊎ Leaves leaving name
    listed_after name l =
        let lo = within_three at.manifests l.place l.manifest has.known.three l.here in
        let f = contains_map (list_at l.place held) l.entry (subst (λ (es : List Entry). Contains es l.entry) (has.known.each l.place l.manifest l.here).entries l.within) in
        let there = manifest_at later.manifests l.place (let three = now.known.three in omega (arith, lo, three)) in
        let named : file_of (l.place + 1, held.rows) f.0.entry ≡ name = ap (λ (e : Entry). file_of (l.place + 1, held.rows) e) f.2 ∙ ap (λ (r : List Row). file_of (l.place + 1, r) l.entry) (sym has.known.rows) ∙ l.named in
        elim (same_cases l.place i) [
          | inr apart ↦ inl (subst (IsListedName later) named (listed_name later less l.place there.0 f.0 now.known there.1 (subst (λ (x : List Filed). Contains x f.0) (sym (list_other i l.place (without_all (list_at i held) parts) held low lo apart)) f.1)))
          | inl is ↦
              let in_list : Contains (list_at i held) f.0 = subst (λ (k : ℕ). Contains (list_at k held) f.0) is f.1 in
              elim (stays_or parts (list_at i held) f.0 (has.known.each i m here).valid.apart (from_oldest i row n held) in_list) [
                | inl stay ↦ inl (subst (IsListedName later) named (listed_name later less l.place there.0 f.0 now.known there.1 (subst (λ (x : List Filed). Contains x f.0) (sym (ap (λ (j : ℕ). list_at j less) is ∙ files_are)) stay)))
                | inr part ↦ inr (retired_of (i + 1, at.catalogue.rows) f.0.entry, part_leaves f.0 part, ap (λ (r : List Row). file_of (i + 1, r) f.0.entry) has.known.rows ∙ ap (λ (k : ℕ). file_of (k + 1, held.rows) f.0.entry) (sym is) ∙ named)
              ]
        ]

    -- what leaves isn't listed
    pub not_listed : (r : Retired) → Contains leaving r → IsListedName later r.name → ⊥
    not_listed r within l =
        let f = part_of r within in
        let h = contains_map (list_at l.place less) l.entry (subst (λ (es : List Entry). Contains es l.entry) (now.known.each l.place l.manifest l.here).entries l.within) in
        let named : file_of (l.place + 1, held.rows) h.0.entry ≡ file_of (i + 1, held.rows) f.0.entry =
        ap (λ (e : Entry). file_of (l.place + 1, held.rows) e) h.2 ∙ ap (λ (x : List Row). file_of (l.place + 1, x) l.entry) (sym now.known.rows) ∙ l.named ∙ sym (ap (λ (x : Retired). x.name) f.2) ∙ ap (λ (x : List Row). file_of (i + 1, x) f.0.entry) has.known.rows in
        let number : l.place + 1 ≡ i + 1 = ap (λ (x : Name). x.0) named in
        let is : l.place ≡ i = omega (arith, number) in
        let left : Contains (without_all (list_at i held) parts) h.0 = subst (λ (x : List Filed). Contains x h.0) (ap (λ (j : ℕ). list_at j less) is ∙ files_are) h.1 in
        let valid = (has.known.each i m here).valid in
        let in_h = less_in i low h.0 (subst (λ (j : ℕ). Contains (list_at j less) h.0) is h.1) in
        let h_is = All-contains (IsListed m.granularity held.rows) (list_at i held) h.0 valid.filed.listed in_h in
        let f_is = All-contains (IsListed m.granularity held.rows) (list_at i held) f.0 valid.filed.listed (from_oldest i row n held f.0 f.1) in
        let one = same_place m.granularity (i + 1) held.rows h.0 f.0 valid.keys h_is f_is (ap (λ (k : ℕ). file_of (k + 1, held.rows) h.0.entry) (sym is) ∙ named) in
        All-contains (λ (x : Filed). filed_at x ≢ filed_at f.0) (without_all (list_at i held) parts) h.0 (apart_all parts (list_at i held) f.0 f.1) left one

-- what is in limbo then under other names was so before
pub entered_from : (names : List Name) (at : Seen) (limbo kept files new : List Retired) → StayUnlisted at limbo kept → All (λ (r : Retired). Contains names r.name → ⊥) files → new ≡ kept ++ files → (r : Retired) → Contains names r.name → Contains new r → Contains limbo r
entered_from names at limbo kept files new stay apart is r within there = elim (Contains-append_cases kept files r (subst (λ (l : List Retired). Contains l r) is there)) [
  | inl was ↦ (stay_from (λ x. IsListedName at x.name → ⊥) (λ x. IsListedName at x.name) limbo kept r stay was).0
  | inr leaves ↦ absurd (All-contains (λ (x : Retired). Contains names x.name → ⊥) files r apart leaves within)
]

-- WHAT COMES OF THE STORES

module _ (tells : Bool) (i row : ℕ) (published : List ℕ) (Limbo : Result (Unit {0}) DiskErr → List Retired → Type 0) (at mid : Seen) (grown : (held : Stores) → Has tells at held → (k : ℕ) → HasNotGrown published (map entry_of (oldest i row (length published) held)) k) where
  abbrev By : Stores → Stores → Type 0
  By old new = (new ≡ old) ⊎ Retires i row published old new

  holds_then : (held : Stores) → Has tells at held → (a c : Files) → HoldsBy (granularities at.manifests) (λ old new. new ≡ without_oldest i row (length published) old) held a c → HoldsBy (granularities at.manifests) By held a c
  holds_then held has a c (inl holds) = inl holds
  holds_then held has a c (inr made) = inr (made.0, inr (record { none_grown = grown held has; same = made.1 }), made.2)

  pub retired_done : {A B : Type 0} (new : Seen) (end : RetireEnd) (a : A) (b : B) → Changes tells (dropping i row (length published)) at mid (Done a) → Changes tells (staying {A = B}) mid new (Done b)
      → ((held made : Stores) → Has tells at held → Retires i row published held made → SaysRetired i row published Limbo end held made) → Changes tells (retiring i row published Limbo) at new (Done end)
  retired_done {A} {B} new end a b drop rest says = record {
    ends = λ held has.
        let d = drop.ends held has in
        let r = rest.ends d.0 d.3 in
        let retires : Retires i row published held r.0 = record { none_grown = grown held has; same = r.1 ∙ d.1 } in (r.0, inr retires, says held r.0 has retires, r.3);
    any_moment = λ told held has.
        let d = drop.ends held has in
        passes_then (HoldsBy (granularities at.manifests) By held) (HoldsBy (granularities mid.manifests) (λ old made. made ≡ old) d.0) at.past mid.past new.past
        (passes_weaker (HoldsBy (granularities at.manifests) (λ old made. made ≡ without_oldest i row (length published) old) held) (HoldsBy (granularities at.manifests) By held) at.past mid.past (drop.any_moment told held has) (λ a c left step. holds_then held has a c step))
        (rest.any_moment told d.0 d.3) (λ a b c was one left two. go held has d.0 d.1 c two);
    costs = record { granularity = rest.costs.granularity ∙ drop.costs.granularity; faults = let one = drop.costs.faults in let two = rest.costs.faults in omega (arith, one, two); cause = λ failed. absurd failed };
  }
    where
      go : (held : Stores) → Has tells at held → (made : Stores) → made ≡ without_oldest i row (length published) held → (c : Files) → HoldsAll (granularities mid.manifests) c made ⊎ ((s : Stores) × (s ≡ made) × HoldsAll (granularities mid.manifests) c s) → HoldsAll (granularities at.manifests) c held ⊎ ((s : Stores) × By held s × HoldsAll (granularities at.manifests) c s)
      go held has made is c (inl holds) = inr (made, inr (record { none_grown = grown held has; same = is }), subst (λ (gs : List Granularity). HoldsAll gs c made) drop.costs.granularity holds)
      go held has made is c (inr s) = inr (s.0, inr (record { none_grown = grown held has; same = s.1 ∙ is }), subst (λ (gs : List Granularity). HoldsAll gs c s.0) drop.costs.granularity s.2)

  pub retired_cut : {A : Type 0} (e : DiskErr) (end : End A ⊥) (last : End RetireEnd ⊥) → end ≡ end_of_error e → last ≡ end_of_error e → Changes tells (dropping i row (length published)) at mid end → Changes tells (retiring i row published Limbo) at mid last
  retired_cut {A} e end last is is_too drop = subst (λ (x : End RetireEnd ⊥). Changes tells (retiring i row published Limbo) at mid x) (sym is_too) (go e (subst (λ (x : End A ⊥). Changes tells (dropping i row (length published)) at mid x) is drop))
    where
      moment : {x : End A ⊥} → Changes tells (dropping i row (length published)) at mid x → IsTrue tells → (held : Stores) → Has tells at held → Passes (HoldsBy (granularities at.manifests) By held) at.past mid.past
      moment {x} d told held has = passes_weaker (HoldsBy (granularities at.manifests) (λ old made. made ≡ without_oldest i row (length published) old) held) (HoldsBy (granularities at.manifests) By held) at.past mid.past (d.any_moment told held has) (λ a c left step. holds_then held has a c step)

      go : (e : DiskErr) → Changes tells (dropping {A = A} i row (length published)) at mid (end_of_error e) → Changes tells (retiring i row published Limbo) at mid (end_of_error e)
      go Fault d = record {
        ends = λ held has. elim (d.ends held has) [
          | inl still ↦ inl still
          | inr made ↦ inr (made.0, inr (record { none_grown = grown held has; same = made.1 }), made.2)
        ];
        any_moment = λ told held has. moment d told held has;
        costs = record { granularity = d.costs.granularity; faults = d.costs.faults; cause = d.costs.cause };
      }
      go Memory d = record {
        ends = λ held has. d.ends held has;
        any_moment = λ told held has. moment d told held has;
        costs = record { granularity = d.costs.granularity; faults = d.costs.faults; cause = λ failed. absurd failed };
      }

  -- and after a fault all is as it was, or the files may be listed no more
  pub retired_doubt : {A : Type 0} (e : DiskErr) (end : End A ⊥) → end ≡ end_of_error e → e ≡ Fault → Changes tells (dropping i row (length published)) at mid end → (held : Stores) → Has tells at held → FailsRetired i row published tells mid held
  retired_doubt {A} e end is fault drop held has =
      let ends = (subst (λ (x : End A ⊥). Changes tells (dropping i row (length published)) at mid x) (is ∙ ap end_of_error fault) drop).ends held has in
      elim ends [
        | inl still ↦ inl still
        | inr made ↦ inr (made.0, record { none_grown = grown held has; same = made.1 }, made.2)
      ]

-- BETWEEN THE COMMIT AND THE REMOVAL

-- limbo stands while the rows stay
pub stands_then : (tells : Bool) (i row n : ℕ) (at mid : Seen) (m : ManifestState) (here : slice_get at.manifests i ≡ Some m) (held : Stores) (has : Has tells at held) (limbo kept files : List Retired) → LimboStands at limbo → StayUnlisted at limbo kept → files ≡ map (retired_of (i + 1, at.catalogue.rows)) (oldest_entries row n m.entries)
    → mid.catalogue ≡ at.catalogue → granularities mid.manifests ≡ granularities at.manifests → LimboStands mid (kept ++ files)
stands_then tells i row n at mid m here held has limbo kept files stands stay are rows same =
    limbo_kept at mid (kept ++ files) (subst (λ (c : CatalogueState). KeepsRows at.catalogue.rows c.rows) (sym rows) (keeps_same at.catalogue.rows)) same (
      All-append (IsOfPlace at) kept files (λ k d lt. All-contains (IsOfPlace at) limbo (get_or kept k d) stands.0 (stay_from (λ x. IsListedName at x.name → ⊥) (λ x. IsListedName at x.name) limbo kept (get_or kept k d) stay (Contains-get_or kept k d lt)).0) leave.0,
      pairs_both (λ (a b : Retired). a.name ≢ b.name) kept files (stay_differ (λ x. IsListedName at x.name → ⊥) (λ x. IsListedName at x.name) limbo kept stay stands.1) leave.1
          (λ x y in_x in_y same. kept_apart tells i row n at m here held has limbo kept files stay are x in_x (y, in_y, sym same)),
    )
  where
    leave : LimboStands at files
    leave = subst (LimboStands at) (sym are) (leaving_stands tells i row n at m here held has)

-- no store lists what is in it
pub unlisted_then : (tells : Bool) (i row n : ℕ) (at mid : Seen) (m : ManifestState) (here : slice_get at.manifests i ≡ Some m) (held : Stores) (has : Has tells at held) (now : Has tells mid (without_oldest i row n held)) (limbo kept files : List Retired) → StayUnlisted at limbo kept
    → files ≡ map (retired_of (i + 1, at.catalogue.rows)) (oldest_entries row n m.entries) → All (λ (r : Retired). IsListedName mid r.name → ⊥) (kept ++ files)
unlisted_then tells i row n at mid m here held has now limbo kept files stay are =
    All-append (λ (r : Retired). IsListedName mid r.name → ⊥) kept files
    (λ k d lt listed. (stay_from (λ x. IsListedName at x.name → ⊥) (λ x. IsListedName at x.name) limbo kept (get_or kept k d) stay (Contains-get_or kept k d lt)).1 (listed_before tells i row n at m here held has mid now (get_or kept k d).name listed))
    (λ k d lt listed. not_listed tells i row n at m here held has mid now (get_or files k d) (subst (λ (l : List Retired). Contains l (get_or files k d)) are (Contains-get_or files k d lt)) listed)

pub among_then : (kept files : List Retired) → All (Contains (kept ++ files)) files
among_then kept files k d lt = Contains-append_right kept files (get_or files k d) (Contains-get_or files k d lt)

pub has_then : {A : Type 0} (tells : Bool) (i row n : ℕ) (at mid : Seen) (held : Stores) (a : A) → Has tells at held → Changes tells (dropping i row n) at mid (Done a) → Has tells mid (without_oldest i row n held)
has_then {A} tells i row n at mid held a has drop = let d = drop.ends held has in subst (Has tells mid) d.1 d.3

-- WHAT LIMBO IS THEN

module _ (tells : Bool) (i row n : ℕ) (at new : Seen) (m : ManifestState) (here : slice_get at.manifests i ≡ Some m) (held : Stores) (has : Has tells at held) (now : Has tells new (without_oldest i row n held)) (limbo kept files : List Retired) (stay : StayUnlisted at limbo kept)
    (are : files ≡ map (retired_of (i + 1, at.catalogue.rows)) (oldest_entries row n m.entries)) where
  pub enters : (both : List Retired) → both ≡ kept ++ files → Enter new limbo both files
  enters both is = record {
    kept = kept;
    stay = stay_by (λ x. IsListedName at x.name → ⊥) (λ x. IsListedName at x.name) (λ x. Unit {0}) (λ x. IsListedName new x.name ⊎ Leaves files x.name) (λ r. Unit {0}) (λ r known not_listed. tt)
        (λ r known listed. subst (λ (l : List Retired). IsListedName new r.name ⊎ Leaves l r.name) (sym are) (listed_after tells i row n at m here held has new now r.name listed)) limbo kept (λ k d lt. tt) stay;
    apart = kept_apart tells i row n at m here held has limbo kept files stay are;
    are = is;
  }

  -- by the files that are held
  pub of_held : (P : List Retired → Type 0) → P files → P (map (λ (f : Filed). retired_of (i + 1, held.rows) f.entry) (oldest i row n held))
  of_held P is = subst P (are ∙ leaving_is tells i row n at m here held has) is

-- the entries that none of the held files exceeds
pub none_grown : (tells : Bool) (i row : ℕ) (published : List ℕ) (at : Seen) (m : ManifestState) (es : List Entry) → slice_get at.manifests i ≡ Some m → es ≡ oldest_entries row (length published) m.entries → ((k : ℕ) → HasNotGrown published es k) → (held : Stores) → Has tells at held → (k : ℕ) → HasNotGrown published (map entry_of (oldest i row (length published) held)) k
none_grown tells i row published at m es here are none held has k = subst (λ (l : List Entry). HasNotGrown published l k) (are ∙ same_entries i row (length published) held m.entries (has.known.each i m here).entries) (none k)

pub has_grown : (tells : Bool) (i row : ℕ) (published : List ℕ) (at : Seen) (m : ManifestState) (es : List Entry) (len copied : ℕ) → slice_get at.manifests i ≡ Some m → es ≡ oldest_entries row (length published) m.entries → HasGrown published es len copied → (held : Stores) → Has tells at held → HasGrown published (map entry_of (oldest i row (length published) held)) len copied
has_grown tells i row published at m es len copied here are grown held has = subst (λ (l : List Entry). HasGrown published l len copied) (are ∙ same_entries i row (length published) held m.entries (has.known.each i m here).entries) grown

pub fewer_stand : (at : Seen) (limbo left : List Retired) → LimboStands at limbo → LeaveListed at limbo left → LimboStands at left
fewer_stand at limbo left stands stay = (
  λ k d lt. All-contains (IsOfPlace at) limbo (get_or left k d) stands.0 (stay_from (λ x. Unit {0}) (λ x. IsListedName at x.name) limbo left (get_or left k d) stay (Contains-get_or left k d lt)).0,
  stay_differ (λ x. Unit {0}) (λ x. IsListedName at x.name) limbo left stay stands.1,
)

-- nothing was done
pub nothing_retired : (tells : Bool) (call : StoreCall RetireEnd ⊥) (at new : Seen) (end : End RetireEnd ⊥) → at ≡ new → end ≡ Spent → Changes tells call at new end
nothing_retired tells call at new end same spent =
    subst (λ (s : Seen). Changes tells call at s end) same (subst (λ (e : End RetireEnd ⊥). Changes tells call at at e) (sym spent) (nothing_changes tells call at Spent (λ held has. has) (λ failed. failed)))

pub stays_then : {A : Type 0} (tells : Bool) (at new : Seen) (held : Stores) (a : A) → Has tells at held → Changes tells (staying {A = A}) at new (Done a) → Has tells new held
stays_then {A} tells at new held a has rest = let r = rest.ends held has in subst (Has tells new) r.1 r.3

-- AFTER AN ERROR

-- what is listed before a change that failed is so behind it
known_listed : (at new : Seen) (held : Stores) (name : Name) → IsKnown at.catalogue at.manifests held → IsKnown new.catalogue new.manifests held → IsListedName at name → IsListedName new name
known_listed at new held name known later l =
    let f = contains_map (list_at l.place held) l.entry (subst (λ (es : List Entry). Contains es l.entry) (known.each l.place l.manifest l.here).entries l.within) in
    let lo = within_three at.manifests l.place l.manifest known.three l.here in
    let there = manifest_at new.manifests l.place (let three = later.three in omega (arith, lo, three)) in
    let named : file_of (l.place + 1, held.rows) f.0.entry ≡ name = ap (λ (e : Entry). file_of (l.place + 1, held.rows) e) f.2 ∙ ap (λ (r : List Row). file_of (l.place + 1, r) l.entry) (sym known.rows) ∙ l.named in
    subst (IsListedName new) named (listed_name new held l.place there.0 f.0 later there.1 f.1)

cut_known : {A : Type 0} (tells : Bool) (i row n : ℕ) (at new : Seen) (held : Stores) (e : DiskErr) → Has tells at held → Changes tells (dropping {A = A} i row n) at new (end_of_error e) → IsKnown new.catalogue new.manifests held
cut_known {A} tells i row n at new held Fault has drop = elim (drop.ends held has) [ inl now ↦ now.known | inr made ↦ made.2.known ]
cut_known {A} tells i row n at new held Memory has drop = (drop.ends held has).known

-- what was in limbo and isn't listed is in it still, and the files that were to leave
pub cut_handed : {A : Type 0} (tells : Bool) (i row n : ℕ) (at new : Seen) (m : ManifestState) (here : slice_get at.manifests i ≡ Some m) (held : Stores) (e : DiskErr) (end : End A ⊥) → end ≡ end_of_error e → Has tells at held → Changes tells (dropping i row n) at new end → (limbo kept files left : List Retired) → StayUnlisted at limbo kept
    → files ≡ map (retired_of (i + 1, at.catalogue.rows)) (oldest_entries row n m.entries) → left ≡ kept ++ files → HandedOver new i row n limbo left
cut_handed {A} tells i row n at new m here held e end is has drop limbo kept files left stay are left_is =
    let known : IsKnown new.catalogue new.manifests held = cut_known {A = A} tells i row n at new held e has (subst (λ (x : End A ⊥). Changes tells (dropping i row n) at new x) is drop) in
    let low = within_three at.manifests i m has.known.three here in
    let there = manifest_at new.manifests i (let three = known.three in omega (arith, low, three)) in
    let same_rows : at.catalogue.rows ≡ new.catalogue.rows = has.known.rows ∙ sym known.rows in
    let same_entries : m.entries ≡ there.0.entries = (has.known.each i m here).entries ∙ sym (known.each i there.0 there.1).entries in (
      files,
      record {
        manifest = there.0;
        here = there.1;
        are = are ∙ (ap (λ (rows : List Row). map (retired_of (i + 1, rows)) (oldest_entries row n m.entries)) same_rows ∙ ap (λ (es : List Entry). map (retired_of (i + 1, new.catalogue.rows)) (oldest_entries row n es)) same_entries);
      },
      record {
        kept = kept;
        stay = stay_by (λ x. IsListedName at x.name → ⊥) (λ x. IsListedName at x.name) (λ x. Unit {0}) (λ x. IsListedName new x.name ⊎ Leaves files x.name) (λ r. Unit {0}) (λ r nothing not_listed. tt) (λ r nothing listed. inl (known_listed at new held r.name has.known known listed)) limbo kept (λ k d lt. tt) stay;
        apart = kept_apart tells i row n at m here held has limbo kept files stay are;
        are = left_is;
      },
    )
