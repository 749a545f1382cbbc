-- What the stores have once strays are swept and files are listed, and that the disk that they hand back may be opened again.
use Rattle.std.proofs.Common.{◌≡◌, inl, inr, ◌<◌, [], Bool, ℕ, List, length, map, Some, refl, sym, ◌∙◌, ap, subst, arith, ◌⊎◌, ◌≤◌, ◌∷◌, true, ◌+◌, ◌++◌, Result, Ok, Err, length-append, suc, false, get_or, Option, None}
use Rattle.std.specs.Prelude.{All, IsTrue, slice_get, OnOk, slice_set, Contains, IsSome, ◌↔◌}
use Rattle.disk_model.specs.Files.{Name, Files, Content}
use Rattle.partition_names.specs.declared.granularity.Granularity.{Granularity}
use Rattle.pv_catalog.specs.declared.row.Row.{Row}
use Rattle.store_manifest.specs.declared.entry.Entry.{Entry}
use Rattle.store_manifest.specs.Manifest.{ManifestState, manifest_name}
use Rattle.durable_write.specs.Held.{entry_of, Filed, Held, file_of, AreFiled, IsFiled, IsListed, AreIn}
use Rattle.tier_store.specs.Change.{Has, CanList, Doubts, IsOpen, PlaceInDoubt}
use Rattle.tier_store.specs.Stores.{Stores, list_at, tier, with_list}
use Rattle.std.proofs.lemmas.Option.{same_Some, slice_get_within}
use Rattle.disk_model.specs.Past.{Passes, MayLeave}
use Rattle.disk_model.specs.declared.disk.Disk.{Ghosts}
use Rattle.disk_model.proofs.Passing.{passes_weaker, passes_then}
use Rattle.gate_journal.specs.Generations.{IsOwn, AtOwn}
use Rattle.gate_journal.specs.DiskShown.{shown_by}
use Rattle.pv_catalog.specs.Catalogue.{CatalogueState, catalogue_name, Refuses, registered}
use Rattle.tier_store.specs.Seen.{Seen, granularities, AtEach, on_disk}
use Rattle.tier_store.proofs.Places.{within_three, manifest_at, holding, same_granularities, set_cases, tier_set, tier_other, manifest_of}
use Rattle.store_reopen.specs.Reopen.{AreLoaded, IsOpenedAs, IsReady, SameStores, IsUnopened, Opens, OpensEither, ChangesJournals, ChangesSite, IsNoJournals, OnlyJournals, OnlySite, AllIn, HasRead, HoldsEither, IsSwept, OpensRead, Reopens, StillHolds, Sweeps, entries_in, lists_of, loaded}
use Rattle.store_reopen.specs.Verdict.{HasRow, AreSaid, IsThere, IsWhole, Listings}
use Rattle.store_manifest.proofs.Committing.{one_listing}
use Rattle.tier_store.specs.Stored.{HoldsAll, IsStoredAt, PlaceUnsure, RowsUnsure}
use Rattle.tier_store.proofs.Holding.{has_left, open_left}
use Rattle.store_reopen.proofs.Having.{one_list_of_rows, no_journal, kept_reading, said_of, listing, granularity_here, IsLoaded, count_of, has_read, has_some, listed_at, loaded_again, own_granularity, reads_one, reopened}
use Rattle.std.proofs.lemmas.Bool.{cases_lt}
use Rattle.std.proofs.lemmas.List.Elements.{All-head, All-tail, All-weaker, All-map, All-nil, Contains-get_or}
use Rattle.series_model.specs.Limits.{most_rows}
use Rattle.disk_model.specs.declared.disk.DiskErr.TheVariants.{Memory}
use Rattle.pb_messages.specs.declared.about.About.{About}
use Rattle.pv_name.specs.Name.{IsName}
use Rattle.pv_name.specs.Key.{key_of}
use Rattle.pv_catalog.specs.Rows.{AreRows, HasKey, MayFollow, IsCatalogue}
use Rattle.pv_catalog.specs.declared.error.RegisterErr.{RegisterErr}
use Rattle.pv_catalog.proofs.Standing.{pushed_are, unfounded}
use Rattle.store_manifest.specs.declared.entry.Change.{Change}
use Rattle.store_manifest.specs.Entries.{AllCanFollow, AreEntries, all_changed, changed, place}
use Rattle.store_manifest.proofs.Order.{changes_keep}
use Rattle.etl_mover.specs.Move.{set_entry}
use Rattle.etl_mover.proofs.Written.{entries_with}
use Rattle.durable_write.specs.Flush.{put_all}
use Rattle.durable_write.specs.Stored.{AreHeld, AreSafe, AreUnopened, CatalogueStored, TierStored}
use Rattle.durable_write.proofs.Places.{all_put, all_put_all, rise_put_all}
use Rattle.durable_write.proofs.Staying.{safe_both, same_cases}
use Rattle.tier_store.specs.Moving.{of_files}
use Rattle.store_reopen.specs.Marking.{LeavesOthers, Marks}
use Rattle.store_reopen.specs.Loading.{WhichJournal, name_of, KeepsSaid, StillSay}
use Rattle.store_reopen.proofs.Marking.{leaves_by, leaves_none, leaves_read, leaves_then, AreSpared, has_spared, holds_spared}
use Rattle.pv_catalog.specs.declared.error.RegisterErr.TheVariants as of_register
use Rattle.gate_journal.proofs.Keeping.{kept_unopened, unsure_unopened}
use Rattle.store_manifest.specs.Batches.{Configured}
use Rattle.store_reopen.specs.OneJournal.{NoneOpened}
use Rattle.gate_journal.proofs.Owning.{own_store}
use Rattle.store_reopen.specs.Strays.{AreGone, IsStray, IsStrayBelow, IsStrayOf, OnlyGo, Removes, SweptStores, adoption_name}
use Rattle.durable_write.proofs.Written.{contains_entry}

-- Files that are listed beside what a store lists, and what changes of journals leave of the stores.

-- files of rows, safe on the disk, may be listed beside what a store lists
pub can_add : (i : ℕ) (tells : Bool) (at : Seen) (held : Stores) (files : List Filed) (m : ManifestState) (here : slice_get at.manifests i ≡ Some m) (has : Has tells at held) → AreFiled m.granularity (of_files i held files) → (IsTrue tells → AreSafe (of_files i held files) (on_disk at))
    → CanList i tells at (map set_entry (map entry_of files)) held (put_all (list_at i held) files)
can_add i tells at held files m here has filed safe = record {
  lists = entries_with (list_at i held) files;
  valid = λ n there. subst (λ (k : ManifestState). AreHeld k.granularity (tier i (with_list i (put_all (list_at i held) files) held))) (same_Some m n (sym here ∙ there)) (subst (AreHeld m.granularity) (sym are) valid);
  safe = λ told. subst (λ (t : Held). AreSafe t (on_disk at)) (sym are) (safe_both (tier i held) files (on_disk at) ((has.disk told).each i m here).safe (safe told));
}
  where
    known : AreHeld m.granularity (tier i held)
    known = (has.known.each i m here).valid

    are : tier i (with_list i (put_all (list_at i held) files) held) ≡ holding i held (put_all (list_at i held) files)
    are = tier_set i (put_all (list_at i held) files) held (within_three at.manifests i m has.known.three here)

    valid : AreHeld m.granularity (holding i held (put_all (list_at i held) files))
    valid = record {
      keys = known.keys;
      filed = record {
        numbered = known.filed.numbered;
        listed = all_put_all (IsListed m.granularity held.rows) (list_at i held) files known.filed.listed filed.listed;
        filed = λ stands. all_put_all (IsFiled m.granularity held.rows) (list_at i held) files (known.filed.filed stands) (filed.filed stands);
      };
      apart = rise_put_all (list_at i held) files known.apart;
    }

-- WHAT IS LEFT OF THE OTHER FILES

module _ {D R : Type 0} (disk : Ghosts D R) where
  pub spares_none : (d : D) → ChangesJournals disk d d
  spares_none d = leaves_none disk OnlyJournals (λ a n other. refl) d

  pub spares_read : (old new : D) → disk.files new ≡ disk.files old → disk.opened new ≡ disk.opened old → Passes (λ a b. b ≡ a) (disk.past old) (disk.past new) → ChangesJournals disk old new
  spares_read old new files opened passes = leaves_read disk OnlyJournals (λ a n other. refl) old new files opened passes

  pub spares_then : (old mid new : D) → ChangesJournals disk old mid → ChangesJournals disk mid new → ChangesJournals disk old new
  spares_then old mid new one two = leaves_then disk OnlyJournals (λ a b c first second n other. second n other ∙ first n other) old mid new one two

  -- what changes one journal's files
  pub own_spares : (R : Files → Files → Type 0) (name : Name) (j : WhichJournal) → name ≡ name_of j → (old new : D) → Passes (AtOwn name R) (disk.past old) (disk.past new) → ((n : Name) → (IsOwn name n → ⊥) → disk.files new n ≡ disk.files old n)
      → ((n : Name) → disk.opened new n ≤ disk.opened old n) → ChangesJournals disk old new
  own_spares R name j is old new passes elsewhere fewer = record {
    any_moment = passes_weaker (AtOwn name R) OnlyJournals (disk.past old) (disk.past new) passes (λ a c left step n apart. step.elsewhere n (none n apart));
    now = λ n apart. elsewhere n (none n apart);
    fewer = fewer;
  }
    where
      none : (n : Name) → IsNoJournals n → IsOwn name n → ⊥
      none n apart its = apart j (subst (λ (m : Name). IsOwn m n) is its)

  pub journals_site : (old new : D) → ChangesJournals disk old new → ChangesSite disk old new
  journals_site old new changes = leaves_by disk OnlyJournals OnlySite (λ a b step n apart other. step n apart) old new changes

  pub marks_site : (old new : D) → Marks disk old new → ChangesSite disk old new
  marks_site old new marks = leaves_by disk LeavesOthers OnlySite (λ a b step n apart other. step n other) old new marks

  pub site_then : (old mid new : D) → ChangesSite disk old mid → ChangesSite disk mid new → ChangesSite disk old new
  site_then old mid new one two = leaves_then disk OnlySite (λ a b c first second n apart other. second n apart other ∙ first n apart other) old mid new one two

  -- the journals and the file `adopt` are of store 0, so stores 1 to 3 are spared
  pub journals_same : (a c : Files) → OnlyJournals a c → SameStores a c
  journals_same a c step n other = step n (λ j. no_journal n j other)

  pub marks_same : (a c : Files) → LeavesOthers a c → SameStores a c
  marks_same a c step n other = step n (λ is. other (ap (λ (m : Name). m.0) is))

  pub site_same : (a c : Files) → OnlySite a c → SameStores a c
  site_same a c step n other = step n (λ j. no_journal n j other) (λ is. other (ap (λ (m : Name). m.0) is))

-- STORES THAT MAY BE CHANGED STILL

-- with a row more
module _ (gs : List Granularity) (c made : CatalogueState) (ms : List ManifestState) (name : List ℕ) (about : About) (ready : IsReady gs c ms) (named : IsName name) where
  may_follow : ((e : RegisterErr) → Refuses c.rows name e → ⊥) → MayFollow c.rows (registered c.rows name about)
  may_follow free = record { id = refl; room = room (cases_lt (length c.rows) most_rows); name = named; free = keys }
    where
      keys : (i : ℕ) → HasKey c.rows i (key_of name) → ⊥
      keys i has = free (of_register.KeyTaken i) (has, λ taken. free (of_register.NameTaken i) taken)

      room : (length c.rows < most_rows) ⊎ (most_rows ≤ length c.rows) → length c.rows < most_rows
      room (inl low) = low
      room (inr le) = let few = ready.rows.few in absurd (free of_register.Full (keys, omega (arith, le, few)))

  row_ready : ((e : RegisterErr) → Refuses c.rows name e → ⊥) → made.rows ≡ c.rows ++ registered c.rows name about ∷ [] → made.journal.sound ≡ true → IsReady gs made ms
  row_ready free is sound = record {
    sound = sound;
    sound_lists = ready.sound_lists;
    granularity = ready.granularity;
    nested = ready.nested;
    rows = subst AreRows (sym is) (pushed_are c.rows (registered c.rows name about) ready.rows (may_follow free) (unfounded c.rows (registered c.rows name about) refl));
    entries = ready.entries;
    of_rows = λ i m here. All-weaker (HasRow c.rows) (HasRow made.rows) (λ e low. subst (HasRowOf e) (sym is) (further e low)) m.entries (ready.of_rows i m here);
  }
    where
      HasRowOf : Entry → List Row → Type 0
      HasRowOf e rows = HasRow rows e

      further : (e : Entry) → HasRow c.rows e → HasRow (c.rows ++ registered c.rows name about ∷ []) e
      further e low = omega (arith, low, length-append c.rows (registered c.rows name about ∷ []))

  pub registered_ready : (r : Result ℕ RegisterErr) → ((e : RegisterErr) → Refuses c.rows name e → (r ≡ Err e) ⊎ (r ≡ Err (of_register.Disk Memory))) → OnOk r (made.rows ≡ c.rows ++ registered c.rows name about ∷ []) → OnOk r (made.journal.sound ≡ true) → OnOk r (IsReady gs made ms)
  registered_ready (Ok id) exactly is sound = row_ready (λ e refuses. elim (exactly e refuses) [ inl never ↦ absurd (cc (never)) | inr never ↦ absurd (cc (never)) ]) is sound
  registered_ready (Err e) exactly is sound = tt

-- with files more of rows
all_set : (P : Entry → Type 0) (xs es : List Entry) → All P xs → All P es → All P (all_changed xs (map set_entry es))
all_set P xs [] was more = was
all_set P xs (e ∷ es) was more = all_set P (changed xs (set_entry e)) es (all_put P place e xs was (All-head P e es more)) (All-tail P e es more)

pub files_ready : (gs : List Granularity) (c : CatalogueState) (ms : List ManifestState) (i : ℕ) (m made : ManifestState) → slice_get ms i ≡ Some m → (changes : List Change) (es : List Entry) → IsReady gs c ms → made.granularity ≡ m.granularity → made.journal.sound ≡ true → made.entries ≡ all_changed m.entries changes
    → AllCanFollow m.granularity m.entries changes → changes ≡ map set_entry es → All (HasRow c.rows) es → IsReady gs c (slice_set ms i made)
files_ready gs c ms i m made here changes es ready same sound entries follow sets rows = record {
  sound = ready.sound;
  sound_lists = each (λ (n : ManifestState). n.journal.sound ≡ true) ready.sound_lists sound;
  granularity = same_granularities ms i m made here same ∙ ready.granularity;
  nested = ready.nested;
  rows = ready.rows;
  entries = each (λ (n : ManifestState). AreEntries n.granularity n.entries) ready.entries (subst (λ (g : Granularity). AreEntries g made.entries) (sym same) (subst (AreEntries m.granularity) (sym entries) (changes_keep m.granularity m.entries changes (ready.entries i m here) follow)));
  of_rows = each (λ (n : ManifestState). All (HasRow c.rows) n.entries) ready.of_rows (subst (λ (l : List Entry). All (HasRow c.rows) l) (sym (entries ∙ ap (λ (cs : List Change). all_changed m.entries cs) sets)) (all_set (HasRow c.rows) m.entries es (ready.of_rows i m here) rows));
}
  where
    each : (P : ManifestState → Type 0) → ((k : ℕ) (n : ManifestState) → slice_get ms k ≡ Some n → P n) → P made → (k : ℕ) (n : ManifestState) → slice_get (slice_set ms i made) k ≡ Some n → P n
    each P others own k n is = elim (set_cases ms i k m made n here is) [ inl set ↦ subst P (sym set.1) own | inr other ↦ others k n other.1 ]

-- The disk that three stores hand back may be opened again.

count : (ms : List ManifestState) → length (granularities ms) ≡ length ms
count [] = refl
count (m ∷ ms) = ap suc (count ms)

-- the manifest of a place
here_of : (s : Seen) (i : ℕ) → length s.manifests ≡ 3 → i < 3 → (m : ManifestState) × (slice_get s.manifests i ≡ Some m)
here_of s i three low = manifest_at s.manifests i (omega (arith, three, low))

-- WHAT IMAGES HOLD

pub has_opens : (tells : Bool) (s : Seen) (held : Stores) → IsTrue tells → Has tells s held → Opens (granularities s.manifests) s.past held
has_opens tells s held told has = record {
  one_change = inl refl;
  holds = λ image left. inl (has_left tells s held has told image left);
  files = λ image left. (all_in image left, all_in image left);
}
  where
    all_in : (image : Files) → MayLeave s.past image → AllIn held image
    all_in image left i low =
        let m = here_of s i has.known.three low in
        ((has.disk told).each i m.0 m.1).safe.left image left

-- the listed files of a change of one list
module _ (tells : Bool) (s : Seen) (before after : Stores) (i : ℕ) (d : PlaceInDoubt i tells s before after) (three : length s.manifests ≡ 3) (unsure : PlaceUnsure i d.manifest s before after) where
  -- what is true of every list, of that from before and of that after the change
  at_each : (P : Held → Type 0) → P (tier i before) × P (tier i after) → ((k : ℕ) (m : ManifestState) → IsStoredAt s m (tier k before) → P (tier k before)) → (k : ℕ) → k < 3 → P (tier k before) × P (tier k after)
  at_each P both stored k low = elim (same_cases k i) [
    | inl same ↦ subst (λ (j : ℕ). P (tier j before) × P (tier j after)) (sym same) both
    | inr apart ↦
        let m = here_of s k three low in
        let one = stored k m.0 (unsure.others k m.0 m.1 apart) in
        (one, subst P (sym (ap (tier k) d.same ∙ tier_other i k (list_at i after) before (within_three s.manifests i d.manifest three d.here) low apart)) one)
  ]

  place_in : (image : Files) → MayLeave s.past image → AllIn before image × AllIn after image
  place_in image left =
      let each = at_each (λ (t : Held). AreIn t image) (unsure.list.safe.left image left, unsure.list.safe_after.left image left) (λ k m stored. stored.safe.left image left) in
      (λ k low. (each k low).0, λ k low. (each k low).1)

  place_unopened : (k : ℕ) → k < 3 → AreUnopened (tier k before) s.opened × AreUnopened (tier k after) s.opened
  place_unopened = at_each (λ (t : Held). AreUnopened t s.opened) (unsure.list.safe.unopened, unsure.list.safe_after.unopened) (λ k m stored. stored.safe.unopened)

pub doubt_opens : (tells : Bool) (s : Seen) (before after : Stores) → IsTrue tells → Doubts tells s before after → OpensEither (granularities s.manifests) s.past before after
doubt_opens tells s before after told doubt = record {
  one_change = elim doubt.change [
    | inl rows ↦ inl rows.same
    | inr place ↦ inr (place.0, within_three s.manifests place.0 place.1.manifest doubt.known.three place.1.here, place.1.same)
  ];
  holds = λ image left. open_left tells s before after (inr doubt) told image left;
  files = λ image left. both image left;
}
  where
    rows_in : (image : Files) → MayLeave s.past image → RowsUnsure s before after → AllIn before image × AllIn after image
    rows_in image left unsure = (
      λ i low. let m = here_of s i doubt.known.three low in (unsure.each i m.0 m.1).safe.left image left,
      λ i low. let m = here_of s i doubt.known.three low in (unsure.each_after i m.0 m.1).safe.left image left,
    )

    both : (image : Files) → MayLeave s.past image → AllIn before image × AllIn after image
    both image left = elim doubt.change [
      | inl rows ↦ rows_in image left (rows.disk told)
      | inr place ↦ place_in tells s before after place.0 place.1 doubt.known.three (place.1.disk told) image left
    ]

-- WHAT IS OPENED

-- the journals and the listed files of what reads give
unopened_of : (gs : List Granularity) (files : Files) (opened : Name → ℕ) (held : Stores) → length gs ≡ 3 → HoldsAll gs files held → ((i : ℕ) → i < 3 → AreUnopened (tier i held) opened) → NoneOpened catalogue_name opened → ((i : ℕ) → i < 3 → NoneOpened (manifest_name (i + 1)) opened) → IsUnopened files opened
unopened_of gs files opened held three holds within catalogue manifests = record {
  catalogue = catalogue;
  manifests = manifests;
  listed = λ rows rows_said i low h entries said.
      let own = said_of gs files held three holds in
      let g = granularity_here gs i (omega (arith, low, three)) in
      let of_rows : rows ≡ held.rows = one_list_of_rows files rows held.rows rows_said own.rows_said in
      let listed : entries ≡ listing held i = one_listing h g.0 (manifest_name (i + 1)) files entries (listing held i) said (own.lists_said i g.0 g.1) in
      let P : List Row → List Entry → Type 0 = λ rs es. All (λ (e : Entry). opened (file_of (i + 1, rs) e) ≤ e.len) es in
      let known : P held.rows (listing held i) = All-map (λ (e : Entry). opened (file_of (i + 1, held.rows) e) ≤ e.len) entry_of (list_at i held) (within i low) in
      subst (λ (rs : List Row). P rs entries) (sym of_rows) (subst (P held.rows) (sym listed) known);
}

at_name : (opened : Name → ℕ) (own name : Name) → own ≡ name → NoneOpened own opened → NoneOpened name opened
at_name opened own name is none = subst (λ (n : Name). NoneOpened n opened) is none

rows_none : (s : Seen) (rows : List Row) → CatalogueStored s.catalogue.journal (on_disk s) rows → NoneOpened s.catalogue.journal.name s.opened
rows_none s rows stored = kept_unopened IsCatalogue s.catalogue.journal (on_disk s) rows stored.kept

lists_none : (s : Seen) (m : ManifestState) (t : Held) → TierStored m.granularity m.journal (on_disk s) t → NoneOpened m.journal.name s.opened
lists_none s m t stored = kept_unopened (Configured m.granularity) m.journal (on_disk s) (map entry_of t.files) stored.kept

three_of : (s : Seen) → length s.manifests ≡ 3 → length (granularities s.manifests) ≡ 3
three_of s three = count s.manifests ∙ three

has_unopened : (tells : Bool) (s : Seen) (held : Stores) → IsTrue tells → MayLeave s.past s.files → Has tells s held → IsUnopened s.files s.opened
has_unopened tells s held told here has =
    let on = has.disk told in
    unopened_of (granularities s.manifests) s.files s.opened held (three_of s has.known.three) (has_left tells s held has told s.files here)
    (λ i low. let m = here_of s i has.known.three low in (on.each i m.0 m.1).safe.unopened)
    (at_name s.opened s.catalogue.journal.name catalogue_name on.rows.named (rows_none s held.rows on.rows))
    (λ i low. let m = here_of s i has.known.three low in at_name s.opened m.0.journal.name (manifest_name (i + 1)) (on.each i m.0 m.1).named (lists_none s m.0 (tier i held) (on.each i m.0 m.1)))

-- what is known of the files of a doubt
record IsClosed (s : Seen) (before after : Stores) : Type 0 where
  catalogue : NoneOpened catalogue_name s.opened
  manifests : (i : ℕ) → i < 3 → NoneOpened (manifest_name (i + 1)) s.opened
  files : (i : ℕ) → i < 3 → AreUnopened (tier i before) s.opened
  files_after : (i : ℕ) → i < 3 → AreUnopened (tier i after) s.opened

rows_closed : (s : Seen) (before after : Stores) → length s.manifests ≡ 3 → RowsUnsure s before after → IsClosed s before after
rows_closed s before after three unsure = record {
  catalogue = at_name s.opened s.catalogue.journal.name catalogue_name unsure.rows.named (unsure_unopened IsCatalogue s.catalogue.journal (on_disk s) before.rows after.rows unsure.rows.unsure);
  manifests = λ i low. let m = here_of s i three low in at_name s.opened m.0.journal.name (manifest_name (i + 1)) (unsure.each i m.0 m.1).named (lists_none s m.0 (tier i before) (unsure.each i m.0 m.1));
  files = λ i low. let m = here_of s i three low in (unsure.each i m.0 m.1).safe.unopened;
  files_after = λ i low. let m = here_of s i three low in (unsure.each_after i m.0 m.1).safe.unopened;
}

place_closed : (tells : Bool) (s : Seen) (before after : Stores) (i : ℕ) (d : PlaceInDoubt i tells s before after) → length s.manifests ≡ 3 → PlaceUnsure i d.manifest s before after → IsClosed s before after
place_closed tells s before after i d three unsure = record {
  catalogue = at_name s.opened s.catalogue.journal.name catalogue_name unsure.rows.named (rows_none s before.rows unsure.rows);
  manifests = λ k low. elim (same_cases k i) [
    | inl same ↦ subst (λ (j : ℕ). NoneOpened (manifest_name (j + 1)) s.opened) (sym same) (at_name s.opened d.manifest.journal.name (manifest_name (i + 1)) unsure.list.named (unsure_unopened (Configured d.manifest.granularity) d.manifest.journal (on_disk s) (map entry_of (list_at i before)) (map entry_of (list_at i after)) unsure.list.unsure))
    | inr apart ↦
        let m = here_of s k three low in
        let stored = unsure.others k m.0 m.1 apart in
        at_name s.opened m.0.journal.name (manifest_name (k + 1)) stored.named (lists_none s m.0 (tier k before) stored)
  ];
  files = λ k low. (place_unopened tells s before after i d three unsure k low).0;
  files_after = λ k low. (place_unopened tells s before after i d three unsure k low).1;
}

closed : (tells : Bool) (s : Seen) (before after : Stores) → IsTrue tells → Doubts tells s before after → IsClosed s before after
closed tells s before after told doubt = elim doubt.change [
  | inl rows ↦ rows_closed s before after doubt.known.three (rows.disk told)
  | inr place ↦ place_closed tells s before after place.0 place.1 doubt.known.three (place.1.disk told)
]

doubt_unopened : (tells : Bool) (s : Seen) (before after : Stores) → IsTrue tells → MayLeave s.past s.files → Doubts tells s before after → IsUnopened s.files s.opened
doubt_unopened tells s before after told here doubt =
    let known = closed tells s before after told doubt in
    let three = three_of s doubt.known.three in
    elim ((doubt_opens tells s before after told doubt).holds s.files here) [
      | inl holds ↦ unopened_of (granularities s.manifests) s.files s.opened before three holds known.files known.catalogue known.manifests
      | inr holds ↦ unopened_of (granularities s.manifests) s.files s.opened after three holds known.files_after known.catalogue known.manifests
    ]

pub open_unopened : (tells : Bool) (s : Seen) (before after : Stores) → IsTrue tells → MayLeave s.past s.files → IsOpen tells s before after → IsUnopened s.files s.opened
open_unopened tells s before after told here (inl has) = has_unopened tells s before told here has
open_unopened tells s before after told here (inr doubt) = doubt_unopened tells s before after told here doubt

-- What the stores have once the strays are swept that their manifests don't list.

-- WHOLE IMAGES

-- the entries of a place are those of its manifest, or there are none
at_place : (P : Entry → Type 0) (ms : List ManifestState) (i : ℕ) → ((m : ManifestState) → slice_get ms i ≡ Some m → All P m.entries) → All P (lists_of ms i)
at_place P ms i each = go (slice_get ms i) refl
  where
    go : (o : Option ManifestState) → slice_get ms i ≡ o → All P (entries_in o)
    go None is = All-nil P
    go (Some m) is = each m is

-- an image that says these rows and these lists, each entry of which is of a row and has its file
record IsWholeBy (gs : List Granularity) (files : Files) (rows : List Row) (ms : List ManifestState) : Type 0 where
  whole : IsWhole gs files
  of_rows : whole.rows ≡ rows
  of_lists : whole.lists ≡ lists_of ms

whole_by : (gs : List Granularity) (files : Files) (rows : List Row) (ms : List ManifestState) → AreSaid gs files rows (lists_of ms) → AtEach ms (λ i m. All (HasRow rows) m.entries) → AtEach ms (λ i m. All (IsThere i files rows) m.entries) → IsWholeBy gs files rows ms
whole_by gs files rows ms said of_rows there = record {
  whole = record {
    rows = rows;
    lists = lists_of ms;
    said = said;
    of_rows = λ i low. at_place (HasRow rows) ms i (of_rows i);
    there = λ i low. at_place (IsThere i files rows) ms i (there i);
  };
  of_rows = refl;
  of_lists = refl;
}

-- WHAT IS LISTED IS NO STRAY

module _ (catalogue : CatalogueState) (ms : List ManifestState) where
  abbrev Goes : Name → Type 0
  Goes n = IsStrayBelow 3 catalogue.rows ms n

  abbrev Spared : Name → Type 0
  Spared n = Goes n → ⊥

  spared_same : (a c : Files) (n : Name) → OnlyGo Goes a c → Spared n → c n ≡ a n
  spared_same a c n step spared = elim (step n) [ inl same ↦ same | inr gone ↦ absurd (spared gone.0) ]

  journals : (n : Name) → n.0 ≡ 0 → Spared n
  journals n zero_store s = let store = s.stray.store in absurd (omega (arith, store, zero_store))

  rows_spared : (n : Name) → IsOwn catalogue_name n → Spared n
  rows_spared n own = journals n (own_store catalogue_name n own)

  lists_spared : (store : ℕ) (n : Name) → IsOwn (manifest_name store) n → Spared n
  lists_spared store n own = journals n (own_store (manifest_name store) n own)

  listed_spared : (k : ℕ) (m : ManifestState) (e : Entry) → slice_get ms k ≡ Some m → Contains m.entries e → Spared (file_of (k + 1, catalogue.rows) e)
  listed_spared k m e here within s =
      let store : k + 1 ≡ s.place + 1 = s.stray.store in
      let place : s.place ≡ k = omega (arith, store) in
      let own : s.manifest ≡ m = same_Some s.manifest m (sym s.here ∙ ap (slice_get ms) place ∙ here) in
      s.stray.unlisted e (subst (λ (x : ManifestState). Contains x.entries e) (sym own) within) (ap (λ (p : ℕ). file_of (p + 1, catalogue.rows) e) place)

  -- none of the files of a store goes that has just what its manifest lists
  all_spared : (k : ℕ) (m : ManifestState) (held : Stores) → slice_get ms k ≡ Some m → held.rows ≡ catalogue.rows → map entry_of (list_at k held) ≡ m.entries → AreSpared Spared (tier k held)
  all_spared k m held here of_rows are j d lt =
      let f : Filed = get_or (list_at k held) j d in
      let within : Contains m.entries f.entry = subst (λ (es : List Entry). Contains es f.entry) are (contains_entry (list_at k held) f (Contains-get_or (list_at k held) j d lt)) in
      subst (λ (rows : List Row). Spared (file_of (k + 1, rows) f.entry)) (sym of_rows) (listed_spared k m f.entry here within)

-- THE STORES BEHIND IT

module _ {D R : Type 0} (disk : Ghosts D R) (catalogue : CatalogueState) (ms : List ManifestState) (mid new : D) (removes : IsTrue disk.tells → Removes disk (Goes catalogue ms) mid new) where
  -- they have what they had
  pub has_swept : (held : Stores) → Has disk.tells (loaded disk catalogue ms mid) held → Has disk.tells (loaded disk catalogue ms new) held
  has_swept held has =
      has_spared (OnlyGo (Goes catalogue ms)) (Spared catalogue ms) (spared_same catalogue ms) (rows_spared catalogue ms) (lists_spared catalogue ms) disk mid new catalogue ms removes held
      (λ k m here. all_spared catalogue ms k m held here (sym has.known.rows) (sym (has.known.each k m here).entries)) has

  -- whatever an image held that a crash might leave then, it holds still
  one_holds : (some : Stores) → Has disk.tells (loaded disk catalogue ms mid) some → IsTrue disk.tells → (a c : Files) → MayLeave (disk.past mid) a → OnlyGo (Goes catalogue ms) a c → StillHolds (granularities ms) a c
  one_holds some has told a c left step held holds i g here =
      let m = manifest_of ms i g here in
      let own = has_left disk.tells (loaded disk catalogue ms mid) some has told a left in
      let was = holds i g here in
      let of_rows : held.rows ≡ catalogue.rows = one_list_of_rows a held.rows some.rows was.rows (own i g here).rows ∙ sym has.known.rows in
      let lists : map entry_of (list_at i held) ≡ m.0.entries = one_listing g g (manifest_name (i + 1)) a (map entry_of (list_at i held)) (map entry_of (list_at i some)) was.lists (own i g here).lists ∙ sym (has.known.each i m.0 m.1).entries in
      holds_spared (OnlyGo (Goes catalogue ms)) (Spared catalogue ms) (spared_same catalogue ms) (rows_spared catalogue ms) (lists_spared catalogue ms) g (tier i held) a c (all_spared catalogue ms i m.0 held m.1 of_rows lists) step was

  pub moments_hold : (some : Stores) → Has disk.tells (loaded disk catalogue ms mid) some → IsTrue disk.tells → Passes (StillHolds (granularities ms)) (disk.past mid) (disk.past new)
  moments_hold some has told = passes_weaker (OnlyGo (Goes catalogue ms)) (StillHolds (granularities ms)) (disk.past mid) (disk.past new) (removes told).any_moment (λ a c left step. one_holds some has told a c left step)

-- STRAYS OF THE IMAGE

module _ (gs : List Granularity) (files : Files) (catalogue : CatalogueState) (ms : List ManifestState) (three : length gs ≡ 3) (same : granularities ms ≡ gs) (three_manifests : length ms ≡ 3) (whole : IsWhole gs files) (of_rows : whole.rows ≡ catalogue.rows) (of_lists : whole.lists ≡ lists_of ms) where
  pub stray_of : files adoption_name ≡ None → (n : Name) → IsStrayBelow 3 catalogue.rows ms n → IsStray gs files n
  stray_of finished n s = record {
    whole = whole;
    finished = finished;
    place = s.place;
    granularity = s.manifest.granularity;
    here = own_granularity gs ms s.place s.manifest same s.here;
    stray = subst (λ (rows : List Row). IsStrayOf s.place s.manifest.granularity rows (whole.lists s.place) n) (sym of_rows)
        (subst (λ (es : List Entry). IsStrayOf s.place s.manifest.granularity catalogue.rows es n) (sym (ap (λ (ls : Listings). ls s.place) of_lists ∙ listed_at ms s.place s.manifest s.here)) s.stray);
  }

  pub stray_in : (n : Name) → IsStray gs files n → IsStrayBelow 3 catalogue.rows ms n
  stray_in n x =
      let low : x.place < length gs = slice_low gs x.place x.granularity x.here in
      let m = manifest_at ms x.place (omega (arith, low, three, three_manifests)) in
      let g : x.granularity ≡ m.0.granularity = same_Some x.granularity m.0.granularity (sym x.here ∙ own_granularity gs ms x.place m.0 same m.1) in
      let rows : x.whole.rows ≡ catalogue.rows = one_list_of_rows files x.whole.rows whole.rows x.whole.said.rows_said whole.said.rows_said ∙ of_rows in
      let lists : x.whole.lists x.place ≡ m.0.entries =
      one_listing x.granularity x.granularity (manifest_name (x.place + 1)) files (x.whole.lists x.place) (whole.lists x.place) (x.whole.said.lists_said x.place x.granularity x.here) (whole.said.lists_said x.place x.granularity x.here)
      ∙ ap (λ (ls : Listings). ls x.place) of_lists ∙ listed_at ms x.place m.0 m.1 in
      record {
        place = x.place;
        low = omega (arith, low, three);
        manifest = m.0;
        here = m.1;
        stray = subst (λ (h : Granularity). IsStrayOf x.place h catalogue.rows m.0.entries n) g
            (subst (λ (rs : List Row). IsStrayOf x.place x.granularity rs m.0.entries n) rows (subst (λ (es : List Entry). IsStrayOf x.place x.granularity x.whole.rows es n) lists x.stray));
      }
    where
      slice_low : (xs : List Granularity) (i : ℕ) (g : Granularity) → slice_get xs i ≡ Some g → i < length xs
      slice_low xs i g is = slice_get_within xs i g is

-- THE WHOLE OPENING

module _ {D R : Type 0} (disk : Ghosts D R) (gs : List Granularity) (old mid new : D) (catalogue : CatalogueState) (ms : List ManifestState) (three : length gs ≡ 3) (same : granularities ms ≡ gs) (three_manifests : length ms ≡ 3) (told : IsTrue disk.tells)
    (unopened : IsUnopened (disk.files old) (disk.opened old)) (keeps : KeepsSaid gs (shown_by disk old) (shown_by disk mid))
    (removes : Removes disk (Goes catalogue ms) mid new) (some : Stores) (has : Has disk.tells (loaded disk catalogue ms mid) some)
    (whole : IsWhole gs (disk.files old)) (of_rows : whole.rows ≡ catalogue.rows) (of_lists : whole.lists ≡ lists_of ms)
    (read : (before after : Stores) → OpensEither gs (disk.past old) before after → HasRead disk gs old (loaded disk catalogue ms mid) before after) (seen : MayLeave (disk.past new) (disk.files new)) where
  begun : Reopens disk gs old mid
  begun = reopened disk gs old mid unopened keeps

  holds : Passes (StillHolds gs) (disk.past mid) (disk.past new)
  holds = subst (λ (g : List Granularity). Passes (StillHolds g) (disk.past mid) (disk.past new)) same (moments_hold disk catalogue ms mid new (λ t. removes) some has told)

  swept_from : disk.files old adoption_name ≡ None → (a b c : Files) → SweptStores gs (disk.files old) a b → OnlyGo (Goes catalogue ms) b c → SweptStores gs (disk.files old) a c
  swept_from finished a b c one two n other = elim (two n) [
    | inl is ↦ elim (one n other) [ inl was ↦ inl (is ∙ was) | inr gone ↦ inr (gone.0, is ∙ gone.1) ]
    | inr gone ↦ inr (stray_of gs (disk.files old) catalogue ms three same three_manifests whole of_rows of_lists finished n gone.0, gone.1)
  ]

  pub opening_sweeps : disk.files old adoption_name ≡ None → Sweeps disk gs old new
  opening_sweeps finished = record {
    any_moment = passes_then (StillHolds gs) (StillHolds gs) (disk.past old) (disk.past mid) (disk.past new) begun.any_moment holds (λ a b c was one now two held holds. two held (one held holds));
    either = λ before after opens. passes_then (λ a b. HoldsEither gs before after b) (StillHolds gs) (disk.past old) (disk.past mid) (disk.past new) (begun.either before after opens) holds
        (λ a b c was one now two. elim one [ inl h ↦ inl (two before h) | inr h ↦ inr (two after h) ]);
    opens = λ before after opens.
        let r = read before after opens in
        inr (record {
          held = r.held;
          either = r.either;
          read = r.read;
          whole = whole;
          opens = subst (λ (g : List Granularity). Opens g (disk.past new) r.held) same (has_opens disk.tells (loaded disk catalogue ms new) r.held told (has_swept disk catalogue ms mid new (λ t. removes) r.held r.has));
        });
    elsewhere = λ n other. swept_from finished (disk.files old) (disk.files mid) (disk.files new) (λ m apart. inl (keeps.now.elsewhere m apart)) removes.now n other;
    stores = passes_then (SweptStores gs (disk.files old)) (OnlyGo (Goes catalogue ms)) (disk.past old) (disk.past mid) (disk.past new)
        (passes_weaker (StillSay gs) (SweptStores gs (disk.files old)) (disk.past old) (disk.past mid) keeps.passes (λ a c left step n other. inl (step.elsewhere n other))) removes.any_moment (λ a b c was one now two. swept_from finished a b c one two);
    unopened = open_unopened disk.tells (loaded disk catalogue ms new) some some told seen (inl (has_swept disk catalogue ms mid new (λ t. removes) some has));
  }

  pub opening_swept : AreGone (Goes catalogue ms) (disk.files mid) (disk.files new) (disk.past new) → IsSwept gs (disk.files old) (disk.files new) (disk.past new)
  opening_swept gone n stray =
      let is = gone n (stray_in gs (disk.files old) catalogue ms three same three_manifests whole of_rows of_lists n stray) in
      let store = stray.stray.store in
      let kept : disk.files mid n ≡ disk.files old n = keeps.now.elsewhere n (λ zero_store. absurd (omega (arith, store, zero_store))) in
      (is.0, λ some. is.1 (subst IsSome (sym kept) some))

-- nothing was swept
pub sweeps_none : {D R : Type 0} (disk : Ghosts D R) (gs : List Granularity) (old new : D) → Reopens disk gs old new → Sweeps disk gs old new
sweeps_none {D} {R} disk gs old new reopens = record {
  any_moment = reopens.any_moment;
  either = reopens.either;
  opens = λ before after opens. inl (reopens.opens before after opens);
  elsewhere = λ n other. inl (reopens.elsewhere n other);
  stores = passes_weaker SameStores (SweptStores gs (disk.files old)) (disk.past old) (disk.past new) reopens.stores (λ a c left step n other. inl (step n other));
  unopened = reopens.unopened;
}

-- WHETHER AN ADOPTION IS UNFINISHED

-- the answer false says that the file isn't there
pub no_file : (unfinished : Bool) (content : Content) → (IsTrue unfinished ↔ IsSome content) → unfinished ≡ false → content ≡ None
no_file unfinished None says is = refl
no_file unfinished (Some bytes) says is = let yes : unfinished ≡ true = says.1 refl in absurd (cc (yes, is))

pub is_finished : (unfinished : Bool) (content : Content) → (IsTrue unfinished ↔ IsSome content) → content ≡ None → unfinished ≡ false
is_finished false content says none = refl
is_finished true content says none = let some = subst IsSome none (says.0 refl) in absurd (cc (some))

-- it swept where none was, and else it left all
pub sweeps_or_none : {D R : Type 0} (disk : Ghosts D R) (gs : List Granularity) (old mid new : D) (unfinished : Bool) → (IsTrue unfinished → new ≡ mid) → Reopens disk gs old mid → (unfinished ≡ false → Sweeps disk gs old new) → Sweeps disk gs old new
sweeps_or_none {D} {R} disk gs old mid new true left reopens swept = subst (λ (d : D). Sweeps disk gs old d) (sym (left refl)) (sweeps_none disk gs old mid reopens)
sweeps_or_none {D} {R} disk gs old mid new false left reopens swept = swept refl

-- A LOAD BEHIND A CALL THAT ONLY READ

pub read_reopens : {D R : Type 0} (disk : Ghosts D R) (gs : List Granularity) (old now : D) → IsUnopened (disk.files old) (disk.opened old) → disk.files now ≡ disk.files old → Passes (λ a b. b ≡ a) (disk.past old) (disk.past now) → disk.opened now ≡ disk.opened old → Reopens disk gs old now
read_reopens {D} {R} disk gs old now unopened same passes opened = reopened disk gs old now unopened (kept_reading gs (shown_by disk old) (shown_by disk now) same passes opened)

pub opened_behind : {D R : Type 0} (disk : Ghosts D R) (gs : List Granularity) (old now : D) (s : Seen) → (IsTrue disk.tells → disk.files now ≡ disk.files old) → (IsTrue disk.tells → Reopens disk gs old now) → IsOpenedAs disk gs now s → IsOpenedAs disk gs old s
opened_behind {D} {R} disk gs old now s same reopens opened = record {
  stands = λ told before after opens.
      let read = opened.stands told before after ((reopens told).opens before after opens) in
      record { held = read.held; either = read.either; read = subst (λ (f : Files). HoldsAll gs f read.held) (same told) read.read; has = read.has };
  has = opened.has;
  said = λ told. subst (λ (f : Files). AreSaid gs f s.catalogue.rows (lists_of s.manifests)) (same told) (opened.said told);
  whole = λ told. subst (IsWhole gs) (same told) (opened.whole told);
  ready = opened.ready;
}

-- a sweep behind a call that only read is one from before it on
pub sweeps_behind : {D R : Type 0} (disk : Ghosts D R) (gs : List Granularity) (old now new : D) → Reopens disk gs old now → disk.files now ≡ disk.files old → Sweeps disk gs now new → Sweeps disk gs old new
sweeps_behind {D} {R} disk gs old now new reopens same sweeps = record {
  any_moment = passes_then (StillHolds gs) (StillHolds gs) (disk.past old) (disk.past now) (disk.past new) reopens.any_moment sweeps.any_moment (λ a b c was one left two held holds. two held (one held holds));
  either = λ before after opens. passes_then (λ a b. HoldsEither gs before after b) (λ a b. HoldsEither gs before after b) (disk.past old) (disk.past now) (disk.past new) (reopens.either before after opens) (sweeps.either before after (reopens.opens before after opens)) (λ a b c was one left two. two);
  opens = λ before after opens. subst (λ (f : Files). OpensEither gs (disk.past new) before after ⊎ OpensRead gs f (disk.past new) before after) same (sweeps.opens before after (reopens.opens before after opens));
  elsewhere = subst (λ (f : Files). SweptStores gs f f (disk.files new)) same sweeps.elsewhere;
  stores = passes_then (SweptStores gs (disk.files old)) (SweptStores gs (disk.files old)) (disk.past old) (disk.past now) (disk.past new) (passes_weaker SameStores (SweptStores gs (disk.files old)) (disk.past old) (disk.past now) reopens.stores (λ a c left step n other. inl (step n other)))
      (subst (λ (f : Files). Passes (SweptStores gs f) (disk.past now) (disk.past new)) same sweeps.stores)
      (λ a b c was one left two n other. elim (two n other) [
        | inl is ↦ elim (one n other) [ inl was ↦ inl (is ∙ was) | inr gone ↦ inr (gone.0, is ∙ gone.1) ]
        | inr gone ↦ inr gone
      ]);
  unopened = sweeps.unopened;
}

-- A LOAD, AND A SWEEP BEHIND IT

module _ {D R : Type 0} (disk : Ghosts D R) (gs : List Granularity) (old mid new : D) (catalogue : CatalogueState) (ms : List ManifestState) (three : length gs ≡ 3) (load : AreLoaded disk gs old catalogue ms mid)
    (unopened : IsTrue disk.tells → IsUnopened (disk.files old) (disk.opened old)) (keeps : IsTrue disk.tells → KeepsSaid gs (shown_by disk old) (shown_by disk mid)) (left : (d : D) → IsTrue disk.tells → MayLeave (disk.past d) (disk.files d))
    (removes : IsTrue disk.tells → Removes disk (Goes catalogue ms) mid new) where
  three_manifests : length ms ≡ 3
  three_manifests = count_of gs ms three load.ready.granularity

  again : IsTrue disk.tells → IsLoaded (loaded disk catalogue ms mid)
  again told = loaded_again disk gs old mid catalogue ms three (keeps told) (unopened told) load told

  some : (held : Stores) × Has disk.tells (loaded disk catalogue ms mid) held
  some = has_some disk.tells gs (loaded disk catalogue ms mid) three load.ready three_manifests again

  reads : IsTrue disk.tells → (before after : Stores) → OpensEither gs (disk.past old) before after → HasRead disk gs old (loaded disk catalogue ms mid) before after
  reads told before after opens =
      let one = reads_one gs (disk.files old) (disk.past old) before after (left old told) opens in
      record {
        held = one.0;
        either = one.1;
        read = one.2;
        has = has_read disk.tells gs (loaded disk catalogue ms mid) (disk.files old) (disk.past old) before after one.0 three load.ready opens one.1 one.2 (λ t. (again t, (keeps t).passes)) (load.said told);
      }

  by : IsTrue disk.tells → IsWholeBy gs (disk.files old) catalogue.rows ms
  by told = whole_by gs (disk.files old) catalogue.rows ms (load.said told) load.ready.of_rows (load.there told)

  pub load_opens : IsOpenedAs disk gs old (loaded disk catalogue ms new)
  load_opens = record {
    stands = λ told before after opens.
        let r = reads told before after opens in record { held = r.held; either = r.either; read = r.read; has = has_swept disk catalogue ms mid new removes r.held r.has };
    has = (some.0, has_swept disk catalogue ms mid new removes some.0 some.1);
    said = load.said;
    whole = λ told. (by told).whole;
    ready = load.ready;
  }

  pub load_sweeps : IsTrue disk.tells → disk.files old adoption_name ≡ None → Sweeps disk gs old new
  load_sweeps told = opening_sweeps disk gs old mid new catalogue ms three load.ready.granularity three_manifests told (unopened told) (keeps told) (removes told) some.0 some.1 (by told).whole (by told).of_rows (by told).of_lists (reads told) (left new told)

  pub load_swept : IsTrue disk.tells → AreGone (Goes catalogue ms) (disk.files mid) (disk.files new) (disk.past new) → IsSwept gs (disk.files old) (disk.files new) (disk.past new)
  load_swept told gone = opening_swept disk gs old mid new catalogue ms three load.ready.granularity three_manifests told (unopened told) (keeps told) (removes told) some.0 some.1 (by told).whole (by told).of_rows (by told).of_lists (reads told) (left new told) gone
