-- A flush beside files in limbo: what it makes of the store, and that what is listed or in limbo stays so, through it and while a doubt is settled.
use Rattle.std.proofs.Common.{◌≡◌, inl, inr, true, Bool, ℕ, ◌≤◌, List, [], ◌∷◌, map, length, get_or, None, Some, refl, sym, ◌∙◌, ap, subst, arith, ◌<◌, ◌+◌, Ok, Err, Option}
use Rattle.std.specs.Prelude.{All, Contains, IsTrue, slice_get, slice_set, OnErr, OnOk, Result}
use Rattle.std.proofs.lemmas.List.Elements.{All-nil, All-cons, All-contains, All-head, All-tail, Contains-get_or, All-filter, filter_passes}
use Rattle.disk_model.specs.Files.{Name, Files, HasFile, Rose}
use Rattle.disk_model.specs.Past.{Passes}
use Rattle.disk_model.specs.declared.disk.DiskErr.{DiskErr}
use Rattle.disk_model.specs.declared.disk.DiskErr.TheVariants.{Fault}
use Rattle.gate_journal.specs.Journal.{JournalState}
use Rattle.gate_journal.specs.DiskShown.{DiskShown}
use Rattle.partition_names.specs.Part.{IsPart}
use Rattle.pv_catalog.specs.Catalogue.{CatalogueState}
use Rattle.pv_catalog.specs.declared.row.Row.{Row}
use Rattle.series_model.specs.declared.batch.RowSamples.{RowSamples}
use Rattle.store_manifest.specs.declared.entry.Entry.{Entry}
use Rattle.store_manifest.specs.Entries.{Place, place, all_changed, InOrder}
use Rattle.store_manifest.specs.Manifest.{ManifestState}
use Rattle.durable_write.specs.declared.file_write.FileWrite.{FileWrite}
use Rattle.durable_write.specs.Ahead.{HasCopied}
use Rattle.durable_write.specs.Ends.{End, Done, end_of_error}
use Rattle.durable_write.specs.Flush.{HoldsBoth, MakesFiles, PlacesRise, file_at, put_all, with_files}
use Rattle.durable_write.specs.Held.{Filed, Held, IsFiled, IsIn, IsListed, entry_of, file_of, filed_at, shelf_of, AreFiled, ListsStill, listing_of, bytes_of}
use Rattle.durable_write.specs.Relisting.{FlushesFiles, ManifestEnds, Relists}
use Rattle.durable_write.specs.Revival.{having, AreUnlisted, ListsNoShorter}
use Rattle.durable_write.specs.Stored.{AreHeld, AreSafe, AreLong}
use Rattle.durable_write.specs.Writing.{IsStoredAs, set_of, LeavesListed}
use Rattle.durable_write.proofs.Written.{contains_entry, copied_beside, entries_over, flushes_over, holds_both, leads_beside, one_of_place, valid_over, listed_stays, put_all_one, limbo_stays}
use Rattle.durable_write.proofs.Places.{found, listed_at, rise_filter}
use Rattle.durable_write.proofs.Staying.{contains_map, filed_still, safe_grows, same_file, safe_stays, same_cases}
use Rattle.tier_store.specs.Stores.{Stores, tier, with_list, list_at}
use Rattle.tier_store.specs.Seen.{AtEach, Seen, seen_on, granularities, on_disk}
use Rattle.tier_store.specs.Change.{IsKnown, Has, IsOpen, HasEither, SameFiles, EndsFrom}
use Rattle.tier_store.specs.Given.{ChangesGiven}
use Rattle.tier_store.specs.Limbo.{IsOfPlace, IsListedName, LimboStands, ListsPlace}
use Rattle.tier_store.specs.Pinned.{IsHeldTo, SeenAll, NoneShorter}
use Rattle.tier_store.specs.Revival.{IsOfUnlisted, AreUnlistedIn, IsAmong, AreWhole, AreInLimbo, FlushesOver, CountsOver, flushing_over, store_with, KeepsWhole, IsOfLimbo}
use Rattle.tier_store.specs.declared.limbo.Retired.{Retired}
use Rattle.tier_store.proofs.OnePlace.{OnStore, in_out, long_out, list_unsure, stored_as, given_done, given_cut}
use Rattle.tier_store.proofs.Places.{one_manifest, granularity_at, manifest_at, manifest_of, tier_other}
use Rattle.tier_store.proofs.Removals.{listed_place, as_filed, retired_listed}
use Rattle.disk_model.proofs.Passing.{passes_weaker}
use Rattle.partition_names.specs.declared.granularity.Granularity.{Granularity}
use Rattle.pv_catalog.specs.Rows.{KeepsRows}
use Rattle.tier_store.proofs.RunningMoves.{none_further}
use Rattle.tier_store.proofs.Showing.{GoesOn, Spares, settled_held, still_held, still_itself, ends_held, has_held, contains_filter}
use Rattle.std.proofs.lemmas.List.{length-append}
use Rattle.std.proofs.lemmas.Option.{same_Some}
use Rattle.pb_lines.specs.File.{lines_of}
use Rattle.store_files.specs.Fronts.{Keeps}
use Rattle.tier_store.specs.Reviving.{free_of, is_free, is_nothing}
use Rattle.durable_write.specs.Flush as flush
use Rattle.durable_write.specs.Revival as one_store

-- LISTED OR NOT

pub listed_by : (at : Seen) (name : Name) (len : ℕ) → IsHeldTo at name len → IsListedName at name
listed_by at name len h = record { place = h.place; manifest = h.manifest; here = h.here; entry = h.listed.entry; within = h.listed.within; named = h.listed.named }

-- what store 1 doesn't list at a file's place
unlisted_place : (ms : List ManifestState) (m : ManifestState) (short : List Filed) (r : Retired) → slice_get ms 0 ≡ Some m → m.entries ≡ map entry_of short → r.name.0 ≡ 1 → (ListsPlace ms r → ⊥) → file_at (place r.entry) short ≡ None
unlisted_place ms m short r here entries number unlisted = elim (listed_at short (place r.entry)) [
  | inl none ↦ none
  | inr (h, within, is, there) ↦ absurd (unlisted (record {
    place = 0;
    manifest = m;
    store = number;
    here = here;
    entry = h.entry;
    within = subst (λ (es : List Entry). Contains es h.entry) (sym entries) (contains_entry short h within);
    series = ap (λ (p : Place). p.0) is;
    start = ap (λ (p : Place). p.1) is;
  }))
]

pub listed_there : (ms : List ManifestState) (m : ManifestState) (short : List Filed) (r : Retired) → slice_get ms 0 ≡ Some m → m.entries ≡ map entry_of short → PlacesRise short → r.name.0 ≡ 1 → file_at (place r.entry) short ≡ None → ListsPlace ms r → ⊥
listed_there ms m short r here entries rise number none lists =
    let is : lists.place ≡ 0 = (let store = lists.store in omega (arith, store, number)) in
    let own : lists.manifest ≡ m = one_manifest ms 0 lists.place m lists.manifest is here lists.here in
    let within : Contains (map entry_of short) lists.entry = subst (λ (es : List Entry). Contains es lists.entry) entries (subst (λ (x : ManifestState). Contains x.entries lists.entry) own lists.within) in
    let f = contains_map short lists.entry within in
    let series : f.0.entry.series ≡ r.entry.series = ap (λ (e : Entry). e.series) f.2 ∙ lists.series in
    let start : f.0.entry.part.start ≡ r.entry.part.start = ap (λ (e : Entry). e.part.start) f.2 ∙ lists.start in
    let same : filed_at f.0 ≡ place r.entry = λ i. (series i, start i) in
    let there : file_at (filed_at f.0) short ≡ Some f.0 = All-contains (λ (x : Filed). file_at (filed_at x) short ≡ Some x) short f.0 (found short rise) f.1 in
    let there_too : file_at (place r.entry) short ≡ Some f.0 = ap (λ (p : Place). file_at p short) (sym same) ∙ there in
    cc (there_too, none)

-- FILES OF ENTRIES

pub pick : (files : List Filed) (es : List Entry) → All (Contains (map entry_of files)) es → (back : List Filed) × (map entry_of back ≡ es) × All (Contains files) back
pick files [] all = ([], refl, All-nil (Contains files))
pick files (e ∷ es) all =
    let one = contains_map files e (All-head (Contains (map entry_of files)) e es all) in
    let more = pick files es (All-tail (Contains (map entry_of files)) e es all) in
    (one.0 ∷ more.0, ap (λ (x : Entry). x ∷ map entry_of more.0) one.2 ∙ ap (λ (l : List Entry). e ∷ l) more.1, All-cons (Contains files) one.0 more.0 one.1 more.2)

-- some of the files that are safe
safe_some : (t : Held) (back : List Filed) (disk : DiskShown) → All (Contains t.files) back → AreSafe t disk → AreSafe (having t back) disk
safe_some t back disk known safe = record {
  long = λ k d lt. All-contains (λ (f : Filed). HasFile disk.files (file_of (shelf_of t) f.entry) (λ b. f.entry.len ≤ length b)) t.files (get_or back k d) safe.long (known k d lt);
  unopened = λ k d lt. All-contains (λ (f : Filed). disk.opened (file_of (shelf_of t) f.entry) ≤ f.entry.len) t.files (get_or back k d) safe.unopened (known k d lt);
  left = λ image left stands k d lt. All-contains (IsIn (shelf_of t) image) t.files (get_or back k d) (safe.left image left stands) (known k d lt);
}

-- WHAT IS IN LIMBO

module _ (tells : Bool) (at : Seen) (limbo : List Retired) (stands : LimboStands at limbo) (entries : List Entry) (listed : AreUnlistedIn at.manifests 1 limbo entries) (files : List Filed) (held : Stores) (has : Has tells at held) (whole : AreWhole 0 tells at limbo held.stands files) where
  pub each_known : All (Contains (map entry_of files)) entries
  each_known k d lt =
      let from = listed.from k d lt in
      let r = from.file in
      let of = All-contains (IsOfPlace at) limbo r stands.0 from.within in
      let there : Contains (map entry_of files) r.entry = elim (All-contains (IsAmong 0 at files) limbo r whole.each from.within from.unlisted.0) [
        | inl h ↦ absurd (from.unlisted.1 (listed_place at held r has.known of (listed_by at r.name 0 h)))
        | inr there ↦ there
      ] in
      subst (Contains (map entry_of files)) from.is there

  abbrev pub back : List Filed
  back = (pick files entries each_known).0

  pub back_are : map entry_of back ≡ entries
  back_are = (pick files entries each_known).1

  pub back_known : All (Contains files) back
  back_known = (pick files entries each_known).2

  back_from : All (λ (f : Filed). IsOfUnlisted at.manifests 1 limbo f.entry) back
  back_from k d lt =
      let f : Filed = get_or back k d in
      All-contains (IsOfUnlisted at.manifests 1 limbo) entries f.entry listed.from (subst (λ (es : List Entry). Contains es f.entry) back_are (contains_entry back f (Contains-get_or back k d lt)))

  module _ (m : ManifestState) (here : slice_get at.manifests 0 ≡ Some m) where
    back_unlisted : AreUnlisted held.short back
    back_unlisted k d lt =
        let from = back_from k d lt in
        subst (λ (e : Entry). file_at (place e) held.short ≡ None) from.is (unlisted_place at.manifests m held.short from.file here (has.known.each 0 m here).entries from.unlisted.0 from.unlisted.1)

    pub in_one_store : one_store.AreInLimbo m.granularity (tier 0 held) back
    in_one_store = record {
      listed = λ k d lt. subst (λ (rows : List Row). IsListed m.granularity rows (get_or back k d)) has.known.rows (All-contains (IsListed m.granularity at.catalogue.rows) files (get_or back k d) (whole.filed m here).listed (back_known k d lt));
      filed = λ is k d lt. subst (λ (rows : List Row). IsFiled m.granularity rows (get_or back k d)) has.known.rows (All-contains (IsFiled m.granularity at.catalogue.rows) files (get_or back k d) ((whole.filed m here).filed is) (back_known k d lt));
      unlisted = back_unlisted;
      one = λ k d lt i e low same. one_of_place files (get_or back k d) (get_or back i e) whole.rise (back_known k d lt) (back_known i e low) same;
    }

    pub back_in_limbo : AreInLimbo limbo files held back
    back_in_limbo = record {
      known = back_known;
      unlisted = back_unlisted;
      from = λ k d lt. let from = back_from k d lt in record { file = from.file; within = from.within; store = from.unlisted.0; is = from.is };
      every = λ r within number none.
          let known_at = has.known.each 0 m here in
          subst (λ (es : List Entry). Contains es r.entry) (sym back_are) (listed.every r within (number, λ lists. listed_there at.manifests m held.short r here known_at.entries known_at.valid.apart number none lists));
    }

  pub back_safe : IsTrue tells → AreSafe (having (tier 0 held) back) (on_disk at)
  back_safe told =
      let T : List Row → Held = λ rows. record { store = 1; rows = rows; files = back; stands = held.stands } in
      subst (λ (rows : List Row). AreSafe (T rows) (on_disk at)) has.known.rows (safe_some (store_with 0 at held.stands files) back (on_disk at) back_known (whole.safe told))

-- what the flush makes of what is held
pub record ToRevive (tells : Bool) (at : Seen) (m : ManifestState) (limbo : List Retired) (entries : List Entry) (files : List Filed) (batch : List RowSamples) (writes : List FileWrite) (count : ℕ) (held : Stores) : Type 0 where
  pub filed : List Filed
  pub by : FlushesOver limbo files batch held (with_list 0 (put_all held.short filed) held)
  pub counts : IsTrue held.stands → CountsOver limbo files batch count held (with_list 0 (put_all held.short filed) held)
  pub are : map entry_of by.back ≡ entries
  pub in_limbo : one_store.AreInLimbo m.granularity (tier 0 held) by.back
  pub safe : IsTrue tells → AreSafe (having (tier 0 held) by.back) (on_disk at)
  pub makes : MakesFiles m.granularity (with_files (tier 0 held) by.back) writes filed
  pub valid : AreHeld m.granularity (with_files (tier 0 held) filed)
  pub lists : all_changed m.entries (map set_of writes) ≡ map entry_of (put_all held.short filed)

-- the entries of files in limbo are of partitions
pub limbo_parts : (tells : Bool) (at : Seen) (limbo : List Retired) (entries : List Entry) (m : ManifestState) → slice_get at.manifests 0 ≡ Some m → LimboStands at limbo → AreUnlistedIn at.manifests 1 limbo entries → (files : List Filed) (held : Stores) → Has tells at held → AreWhole 0 tells at limbo held.stands files
    → All (λ (e : Entry). IsPart m.granularity e.part) entries
limbo_parts tells at limbo entries m here stands listed files held has whole k d lt =
    let f = contains_map files (get_or entries k d) (each_known tells at limbo stands entries listed files held has whole k d lt) in
    subst (λ (e : Entry). IsPart m.granularity e.part) f.2 (All-contains (IsListed m.granularity at.catalogue.rows) files f.0 (whole.filed m here).listed f.1).part

-- what is found of the lists as they are in memory
pub listed_as : (ms list : List ManifestState) (limbo found : List Retired) (es entries : List Entry) → list ≡ ms → found ≡ limbo → entries ≡ es → (AtEach list (λ i m. InOrder m.entries) → AreUnlistedIn list 1 found es) → AtEach ms (λ i m. InOrder m.entries) → AreUnlistedIn ms 1 limbo entries
listed_as ms list limbo found es entries list_is found_is entries_are says order =
    subst (λ (l : List Entry). AreUnlistedIn ms 1 limbo l) (sym entries_are)
    (subst (λ (l : List Retired). AreUnlistedIn ms 1 l es) found_is
    (subst (λ (l : List ManifestState). AreUnlistedIn l 1 found es) list_is (says (subst (λ (l : List ManifestState). AtEach l (λ i m. InOrder m.entries)) (sym list_is) order))))

-- THE CALL

module _ {S : Type 0} (shows : S → DiskShown) (faults_of : S → ℕ) (tells : Bool) (c : CatalogueState) (ms : List ManifestState) (m made : ManifestState) (here : slice_get ms 0 ≡ Some m) (d after : S) (rows : List Row) (same_rows : rows ≡ c.rows) (batch : List RowSamples) (planned writes : List FileWrite) (are : writes ≡ planned) (count : ℕ)
    (limbo : List Retired) (stands : LimboStands (seen_on shows faults_of c ms d) limbo) (entries : List Entry) (listed : (held : Stores) → IsKnown c ms held → AreUnlistedIn ms 1 limbo entries) (files : List Filed)
    (flushes : (held : Held) → HoldsBoth m.granularity rows m.entries entries held → flush.Flushes m.granularity held batch planned count) where
  abbrev before : Seen
  before = seen_on shows faults_of c ms d

  abbrev Whole : Stores → Type 0
  Whole held = AreWhole 0 tells before limbo held.stands files

  abbrev IsAheadOf : JournalState → Held → Held → Type 0
  IsAheadOf catalogue held ahead = HasCopied catalogue m (1, rows) (shows d) held ahead

  pub to : (held : Stores) → Whole held → Has tells before held → ToRevive tells before m limbo entries files batch writes count held
  to held whole has =
      let is = listed held has.known in
      let back = back tells before limbo stands entries is files held has whole in
      let in_limbo = in_one_store tells before limbo stands entries is files held has whole m here in
      let known = has.known.each 0 m here in
      let both = subst (λ (es : List Entry). HoldsBoth m.granularity rows m.entries es (with_files (tier 0 held) back)) (back_are tells before limbo stands entries is files held has whole) (holds_both m.granularity rows m.entries (tier 0 held) back (sym (same_rows ∙ has.known.rows)) known.entries known.valid in_limbo) in
      let plan = flushes (with_files (tier 0 held) back) both in
      let makes : MakesFiles m.granularity (with_files (tier 0 held) back) writes plan.files = subst (λ (ps : List FileWrite). MakesFiles m.granularity (with_files (tier 0 held) back) ps plan.files) (sym are) plan.makes in
      let by : FlushesOver limbo files batch held (with_list 0 (put_all held.short plan.files) held) = record {
        back = back;
        in_limbo = back_in_limbo tells before limbo stands entries is files held has whole m here;
        same = refl;
        flushed = flushes_over m.granularity (tier 0 held) back batch planned count known.valid in_limbo plan;
      } in
      record {
        filed = plan.files;
        by = by;
        counts = λ stand. record { over = by; count = plan.more stand };
        are = back_are tells before limbo stands entries is files held has whole;
        in_limbo = in_limbo;
        safe = back_safe tells before limbo stands entries is files held has whole;
        makes = makes;
        valid = valid_over m.granularity (tier 0 held) (with_files (tier 0 held) back) writes plan.files (leads_beside (tier 0 held) back known.valid.apart in_limbo.unlisted) known.valid makes;
        lists = entries_over m (tier 0 held) (with_files (tier 0 held) back) writes plan.files (map set_of writes) known.entries refl makes;
      }

  pub is_ahead : (held : Stores) (whole : Whole held) (has : Has tells before held) → IsTrue tells → IsAheadOf c.journal (tier 0 held) (with_files (tier 0 held) (to held whole has).by.back)
  is_ahead held whole has told =
      let t = to held whole has in
      let store = subst (λ (r : List Row). IsStoredAs c.journal m (1, r) (shows d) (tier 0 held)) (sym same_rows) (stored_as tells before held 0 m here has told) in
      copied_beside c.journal m (1, rows) (shows d) (tier 0 held) t.by.back store t.in_limbo (t.safe told)

  abbrev files_then : (held : Stores) → Has tells before held → Whole held → List Filed
  files_then held has whole = put_all held.short (to held whole has).filed

  abbrev Flushed : Result (Unit {0}) DiskErr → Type 0
  Flushed r = (catalogue : JournalState) (held ahead : Held) (fs : List Filed) → IsAheadOf catalogue held ahead → MakesFiles m.granularity ahead writes fs → FlushesFiles catalogue m made (1, rows) r (shows d) (shows after) held ahead fs

  lists_here : (r : Result (Unit {0}) DiskErr) → (IsTrue tells → Flushed r) → IsTrue tells → (held : Stores) (has : Has tells before held) (whole : Whole held) → Relists c.journal m made (1, rows) r (shows d) (shows after) (tier 0 held) (with_files (tier 0 held) (to held whole has).filed)
  lists_here r flushed told held has whole = let t = to held whole has in (flushed told c.journal (tier 0 held) (with_files (tier 0 held) t.by.back) t.filed (is_ahead held whole has told) t.makes).lists

  module _ (on_store : IsTrue tells → OnStore 1 m.journal.name (shows d) (shows after)) (faults : faults_of d ≤ faults_of after) where
    pub over_done : (a : Unit {0}) → ManifestEnds m made (all_changed m.entries (map set_of writes)) (Ok a) → (IsTrue tells → Flushed (Ok a)) → ChangesGiven Whole tells (flushing_over limbo files batch) before (seen_on shows faults_of c (slice_set ms 0 made) after) (Done count)
    over_done a ends flushed =
        given_done shows faults_of tells c ms 0 m made here d after ends.granularity on_store faults Whole (flushing_over limbo files batch) files_then (λ held has whole. (to held whole has).by) (λ held has whole. (to held whole has).valid)
        (λ told held has whole. (lists_here (Ok a) flushed told held has whole).any_moment) count (λ held has whole. (to held whole has).counts) ends.sound (λ held has whole. ends.entries ∙ (to held whole has).lists)
        (λ told held has whole. (lists_here (Ok a) flushed told held has whole).made.stored.tier)

    pub over_cut : (e : DiskErr) → ManifestEnds m made (all_changed m.entries (map set_of writes)) (Err e) → (IsTrue tells → Flushed (Err e)) → (end : End ℕ ⊥) → end ≡ end_of_error e → (e ≡ Fault → Rose (faults_of d) (faults_of after))
        → ChangesGiven Whole tells (flushing_over limbo files batch) before (seen_on shows faults_of c (slice_set ms 0 made) after) end
    over_cut e ends flushed end is cause =
        given_cut shows faults_of tells c ms 0 m made here d after ends.granularity on_store faults Whole (flushing_over limbo files batch) files_then (λ held has whole. (to held whole has).by) (λ held has whole. (to held whole has).valid)
        (λ told held has whole. (lists_here (Err e) flushed told held has whole).any_moment) ends.unchanged (λ held has whole unsound. ends.next unsound ∙ (to held whole has).lists)
        (λ told held has whole sound. ((lists_here (Err e) flushed told held has whole).unmade sound).stored.tier)
        (λ told held has whole unsound. list_unsure c.journal made (1, rows) (shows after) (tier 0 held) (with_files (tier 0 held) (to held whole has).filed) ((lists_here (Err e) flushed told held has whole).in_doubt unsound) unsound)
        e end is (λ memory. ends.memory (ap (λ (x : DiskErr). Err x) memory)) cause

-- WHAT IS LISTED

pub over_on : (limbo : List Retired) (files : List Filed) (batch : List RowSamples) (held made : Stores) → FlushesOver limbo files batch held made → GoesOn held made
over_on limbo files batch held made by = inl (ap (λ (s : Stores). s.rows) by.same, go)
  where
    go : (place : ℕ) → place < 3 → ListsStill (listing_of (tier place held)) (listing_of (tier place made))
    go place low = elim (same_cases place 0) [
      | inl is ↦ subst (λ (k : ℕ). ListsStill (listing_of (tier k held)) (listing_of (tier k made))) (sym is) by.flushed.still
      | inr apart ↦
          let same : tier place made ≡ tier place held = ap (tier place) by.same ∙ tier_other 0 place made.short held (omega arith) low apart in
          subst (λ (t : Held). ListsStill (listing_of (tier place held)) (listing_of t)) (sym same) (still_itself (listing_of (tier place held)))
    ]

-- a name that store 1 lists or has in limbo to this length
pub record IsHere (held : Stores) (back : List Filed) (name : Name) (len : ℕ) : Type 0 where
  pub file : Filed
  pub within : Contains (put_all held.short back) file
  pub named : file_of (1, held.rows) file.entry ≡ name
  pub longer : len ≤ file.entry.len

-- such a one isn't listed shorter then, and one of another store stays
pub over_spares : (limbo : List Retired) (files : List Filed) (batch : List RowSamples) (held made : Stores) (name : Name) (len : ℕ) (by : FlushesOver limbo files batch held made) → (name.0 ≡ 1 → IsHere held by.back name len) → Spares held name len → Spares made name len
over_spares limbo files batch held made name len by is_here spares k low = elim (same_cases k 0) [
  | inl is ↦ subst (λ (j : ℕ). NoneShorter (listing_of (tier j made)) name len) (sym is) here
  | inr apart ↦
      let same : tier k made ≡ tier k held = ap (tier k) by.same ∙ tier_other 0 k made.short held (omega arith) low apart in
      subst (λ (t : Held). NoneShorter (listing_of t) name len) (sym same) (spares k low)
]
  where
    rows : made.rows ≡ held.rows
    rows = ap (λ (s : Stores). s.rows) by.same

    here : NoneShorter (listing_of (tier 0 made)) name len
    here i e lt named =
        let number : 1 ≡ name.0 = ap (λ (n : Name). n.0) named in
        let h = is_here (sym number) in
        let x : Entry = get_or (map entry_of made.short) i e in
        let same : file_of (1, held.rows) x ≡ file_of (1, held.rows) h.file.entry = ap (λ (r : List Row). file_of (1, r) x) (sym rows) ∙ (named ∙ sym h.named) in
        let le = All-contains (ListsNoShorter (shelf_of (tier 0 held)) (map entry_of made.short)) (put_all held.short by.back) h.file by.flushed.no_shorter h.within i e lt same in
        let longer = h.longer in
        omega (arith, le, longer)

-- a store is at the place of its number less one
own_place : (i : ℕ) (at : Seen) (r : Retired) (of : IsOfPlace at r) → r.name.0 ≡ i + 1 → of.place ≡ i
own_place i at r of number = let own : of.place + 1 ≡ r.name.0 = ap (λ (n : Name). n.0) of.named in omega (arith, own, number)

-- a file in limbo is named as that of its store, row and partition
pub limbo_name : (i : ℕ) (at : Seen) (limbo : List Retired) → LimboStands at limbo → (r : Retired) → Contains limbo r → r.name.0 ≡ i + 1 → file_of (i + 1, at.catalogue.rows) r.entry ≡ r.name
limbo_name i at limbo stands r within number =
    let of = All-contains (IsOfPlace at) limbo r stands.0 within in
    ap (λ (k : ℕ). file_of (k + 1, at.catalogue.rows) r.entry) (sym (own_place i at r of number)) ∙ of.named

own_name : (i : ℕ) (tells : Bool) (at : Seen) (limbo : List Retired) (held : Stores) → LimboStands at limbo → Has tells at held → (r : Retired) → Contains limbo r → r.name.0 ≡ i + 1 → file_of (i + 1, held.rows) r.entry ≡ r.name
own_name i tells at limbo held stands has r within number = ap (λ (rows : List Row). file_of (i + 1, rows) r.entry) (sym has.known.rows) ∙ limbo_name i at limbo stands r within number

-- and so is what is listed of these
pub place_named : (i : ℕ) (tells : Bool) (at : Seen) (limbo : List Retired) (held : Stores) (m : ManifestState) → slice_get at.manifests i ≡ Some m → LimboStands at limbo → (has : Has tells at held) → (r : Retired) → Contains limbo r → r.name.0 ≡ i + 1 → (h : Filed) → Contains (list_at i held) h → filed_at h ≡ place r.entry → file_of (i + 1, held.rows) h.entry ≡ r.name
place_named i tells at limbo held m here stands has r within number h there same =
    let of = All-contains (IsOfPlace at) limbo r stands.0 within in
    let own = own_place i at r of number in
    let h_is : IsListed m.granularity held.rows h = All-contains (IsListed m.granularity held.rows) (list_at i held) h (has.known.each i m here).valid.filed.listed there in
    let r_is : IsListed m.granularity held.rows (as_filed r) = subst (λ (rows : List Row). IsListed m.granularity rows (as_filed r)) has.known.rows (retired_listed at r of m (ap (slice_get at.manifests) own ∙ here)) in
    same_file m.granularity (i + 1) held.rows h (as_filed r) h_is r_is same ∙ own_name i tells at limbo held stands has r within number

-- what is in limbo of store 1 is here
pub is_here : (tells : Bool) (at : Seen) (limbo : List Retired) (files : List Filed) (held : Stores) (m : ManifestState) → slice_get at.manifests 0 ≡ Some m → LimboStands at limbo → Has tells at held → PlacesRise files → (back : List Filed) → AreInLimbo limbo files held back
    → (name : Name) (len : ℕ) (r : Retired) → Contains limbo r → r.name ≡ name → len ≤ r.entry.len → Spares held name len → name.0 ≡ 1 → IsHere held back name len
is_here tells at limbo files held m here stands has rise back in_limbo name len r within named longer spares number =
    let own : r.name.0 ≡ 1 = ap (λ (n : Name). n.0) named ∙ number in
    elim (listed_at held.short (place r.entry)) [
      | inl none ↦
          let f = contains_map back r.entry (in_limbo.every r within own none) in
          let one : All (λ (h : Filed). filed_at h ≡ filed_at f.0 → h ≡ f.0) back = λ k d lt same. one_of_place files f.0 (get_or back k d) rise (All-contains (Contains files) back f.0 in_limbo.known f.1) (in_limbo.known k d lt) same in
          let len_is = ap (λ (e : Entry). e.len) f.2 in
          record {
            file = f.0;
            within = put_all_one back held.short f.0 one (inr f.1);
            named = ap (λ (e : Entry). file_of (1, held.rows) e) f.2 ∙ (own_name 0 tells at limbo held stands has r within own ∙ named);
            longer = omega (arith, longer, len_is);
          }
      | inr (h, there, same, found_is) ↦
          let name_is : file_of (1, held.rows) h.entry ≡ name = place_named 0 tells at limbo held m here stands has r within own h there same ∙ named in
          let le = All-contains (λ (e : Entry). file_of (1, held.rows) e ≡ name → len ≤ e.len) (map entry_of held.short) h.entry (spares 0 (omega arith)) (contains_entry held.short h there) name_is in
          record { file = h; within = listed_stays held.short back h (has.known.each 0 m here).valid.apart in_limbo.unlisted there; named = name_is; longer = le }
    ]

-- WHOLE

-- the manifests that are there, whatever stands in doubt
pub known_open : (tells : Bool) (at : Seen) (before after : Stores) → IsOpen tells at before after → IsKnown at.catalogue at.manifests before
known_open tells at before after (inl has) = has.known
known_open tells at before after (inr doubt) = doubt.known

-- files in limbo stay whole while calls change files of store 0 alone
pub whole_out : (tells : Bool) (old new : Seen) (limbo : List Retired) → length old.manifests ≡ 3 → ((name : Name) → IsHeldTo old name 0 → IsHeldTo new name 0) → KeepsRows old.catalogue.rows new.catalogue.rows → granularities new.manifests ≡ granularities old.manifests
    → (IsTrue tells → SameFiles old.files new.files) → (IsTrue tells → (n : Name) → new.opened n ≤ old.opened n) → (IsTrue tells → Passes SameFiles old.past new.past) → (i : ℕ) (stands : Bool) (files : List Filed) → i < 3 → AreWhole i tells old limbo stands files → AreWhole i tells new limbo stands files
whole_out tells old new limbo three held keeps same_g same fewer passes i stands files low whole = record {
  each = λ k d lt number. elim (whole.each k d lt number) [
    | inl h ↦ inl (held (get_or limbo k d).name h)
    | inr there ↦ inr there
  ];
  from = whole.from;
  rise = whole.rise;
  filed = λ m here.
      let is = manifest_of old.manifests i m.granularity (ap (λ (gs : List Granularity). slice_get gs i) (sym same_g) ∙ granularity_at new.manifests i m here) in
      subst (λ (g : Granularity). AreFiled g (store_with i new stands files)) is.2 (filed_still is.0.granularity (store_with i old stands files) new.catalogue.rows keeps (whole.filed is.0 is.1));
  safe = λ told.
      let own = manifest_at old.manifests i (omega (arith, three, low)) in
      safe_grows own.0.granularity (store_with i old stands files) new.catalogue.rows (on_disk new) keeps (whole.filed own.0 own.1)
      (safe_stays (store_with i old stands files) SameFiles (on_disk old) (on_disk new) (whole.safe told) (passes told) (λ a c step. in_out a c (store_with i old stands files) (omega arith) step)
      (long_out old.files new.files (store_with i old stands files) (omega arith) (same told) (whole.safe told).long) (fewer told));
}

-- and so while calls only read
pub read_whole : (tells : Bool) (old new : Seen) (limbo : List Retired) → length old.manifests ≡ 3 → ((name : Name) → IsHeldTo old name 0 → IsHeldTo new name 0) → KeepsRows old.catalogue.rows new.catalogue.rows → granularities new.manifests ≡ granularities old.manifests
    → (IsTrue tells → new.files ≡ old.files) → (IsTrue tells → new.opened ≡ old.opened) → (IsTrue tells → Passes (λ a b. b ≡ a) old.past new.past) → (i : ℕ) (stands : Bool) (files : List Filed) → i < 3 → AreWhole i tells old limbo stands files → AreWhole i tells new limbo stands files
read_whole tells old new limbo three held keeps same_g same opened passes =
    whole_out tells old new limbo three held keeps same_g (λ told n other. ap (λ (f : Files). f n) (same told)) (λ told. none_further old.opened new.opened (opened told))
    (λ told. passes_weaker (λ a b. b ≡ a) SameFiles old.past new.past (passes told) (λ a c was is n other. ap (λ (f : Files). f n) is))

-- so they do while a doubt is settled
pub settled_whole : (tells : Bool) (old new : Seen) (limbo : List Retired) (before after : Stores) → IsOpen tells old before after → ((x y : Stores) → IsOpen tells old x y → HasEither tells new x y) → KeepsRows old.catalogue.rows new.catalogue.rows → granularities new.manifests ≡ granularities old.manifests
    → (IsTrue tells → SameFiles old.files new.files) → (IsTrue tells → (n : Name) → new.opened n ≤ old.opened n) → (IsTrue tells → Passes SameFiles old.past new.past) → (i : ℕ) (stands : Bool) (files : List Filed) → i < 3 → AreWhole i tells old limbo stands files → AreWhole i tells new limbo stands files
settled_whole tells old new limbo before after was settled keeps same_g same fewer passes =
    whole_out tells old new limbo (known_open tells old before after was).three (λ name h. settled_held tells old new before after name 0 was settled h) keeps same_g same fewer passes

-- so they do whatever comes of the settling
pub review_whole : {B : Type 0} (tells : Bool) (old new : SeenAll) (r : Result B DiskErr) → new.limbo ≡ old.limbo → (before : Stores) × (after : Stores) × IsOpen tells old.stores before after → ((x y : Stores) → IsOpen tells old.stores x y → OnOk r (HasEither tells new.stores x y))
    → ((x y : Stores) → IsOpen tells old.stores x y → OnErr r (IsOpen tells new.stores x y)) → KeepsRows old.stores.catalogue.rows new.stores.catalogue.rows → granularities new.stores.manifests ≡ granularities old.stores.manifests → (IsTrue tells → SameFiles old.stores.files new.stores.files) → (IsTrue tells → (n : Name) → new.stores.opened n ≤ old.stores.opened n)
    → (IsTrue tells → Passes SameFiles old.stores.past new.stores.past) → KeepsWhole tells old new
review_whole {B} tells old new r limbo begun settled still keeps same_g same fewer passes i stands files low whole = (files, subst (λ (l : List Retired). AreWhole i tells new.stores l stands files) (sym limbo) (go r settled still))
  where
    go : (r : Result B DiskErr) → ((x y : Stores) → IsOpen tells old.stores x y → OnOk r (HasEither tells new.stores x y)) → ((x y : Stores) → IsOpen tells old.stores x y → OnErr r (IsOpen tells new.stores x y)) → AreWhole i tells new.stores old.limbo stands files
    go (Ok a) settled still = settled_whole tells old.stores new.stores old.limbo begun.0 begun.1 begun.2 settled keeps same_g same fewer passes i stands files low whole
    go (Err e) settled still = whole_out tells old.stores new.stores old.limbo (known_open tells old.stores begun.0 begun.1 begun.2).three (λ name h. still_held tells old.stores new.stores begun.0 begun.1 name 0 begun.2 still h) keeps same_g same fewer passes i stands files low whole

-- WHICH FILES ARE LEFT

pub none_is : (o : Option Filed) → is_nothing o ≡ true → o ≡ None
none_is None is = refl
none_is (Some f) is = absurd (cc (is))

-- the store at a place, of these rows, with these files
abbrev pub store_of : ℕ → List Row → List Filed → Bool → Held
store_of i rows files stands = record { store = i + 1; rows = rows; files = files; stands = stands }

module _ (tells : Bool) (files : List Filed) (batch : List RowSamples) (old new : SeenAll) (end : End ℕ ⊥) (limbo : new.limbo ≡ old.limbo) (catalogue : new.stores.catalogue ≡ old.stores.catalogue) (same_g : granularities new.stores.manifests ≡ granularities old.stores.manifests) (stands : LimboStands old.stores old.limbo)
    (held : Stores) (has : Has tells old.stores held) (ends : EndsFrom tells (flushing_over old.limbo files batch) new.stores held end) (m : ManifestState) (here : slice_get old.stores.manifests 0 ≡ Some m)
    (entries : List Entry) (listed : AreUnlistedIn old.stores.manifests 1 old.limbo entries) (back : List Filed) (back_are : map entry_of back ≡ entries) (in_limbo : one_store.AreInLimbo m.granularity (tier 0 held) back)
    (leaves : IsTrue tells → LeavesListed (listing_of (with_files (tier 0 held) back)) old.stores.files new.stores.files old.stores.past new.stores.past) (long : IsTrue tells → AreLong (with_files (tier 0 held) back) new.stores.files) (fewer : IsTrue tells → (n : Name) → new.stores.opened n ≤ old.stores.opened n)
    (stand : Bool) (were : List Filed) (whole : AreWhole 0 tells old.stores old.limbo stand were) where
  abbrev left : List Filed
  left = free_of held.short were

  abbrev both : List Filed
  both = put_all held.short back

  was_in : (k : ℕ) (d : Filed) → k < length left → Contains were (get_or left k d)
  was_in k d lt = All-filter (is_free held.short) (Contains were) were (λ i e low. Contains-get_or were i e low) k d lt

  -- each that is left was planned with
  back_has : (k : ℕ) (d : Filed) → k < length left → (f : Filed) × Contains both f × (f.entry ≡ (get_or left k d).entry)
  back_has k d lt =
      let f : Filed = get_or left k d in
      let none : file_at (filed_at f) held.short ≡ None = none_is (file_at (filed_at f) held.short) (filter_passes (is_free held.short) were k d lt) in
      let of = All-contains (λ (x : Filed). IsOfLimbo 0 old.limbo x.entry) were f whole.from (was_in k d lt) in
      let none_of : file_at (place of.file.entry) held.short ≡ None = ap (λ (e : Entry). file_at (place e) held.short) of.is ∙ none in
      let known = has.known.each 0 m here in
      let there = listed.every of.file of.within (of.store, λ lists. listed_there old.stores.manifests m held.short of.file here known.entries known.valid.apart of.store none_of lists) in
      let found = contains_map back of.file.entry (subst (λ (es : List Entry). Contains es of.file.entry) (sym back_are) there) in
      (found.0, limbo_stays m.granularity (tier 0 held) back found.0 in_limbo found.1, found.2 ∙ of.is)

  each_left : All (IsAmong 0 new.stores left) old.limbo
  each_left k d lt number =
      let r : Retired = get_or old.limbo k d in
      let goes : IsHeldTo old.stores r.name 0 → IsHeldTo new.stores r.name 0 = λ h. ends_held tells (flushing_over old.limbo files batch) old.stores new.stores held end r.name 0 has (λ made by. over_on old.limbo files batch held made by) ends h in
      elim (whole.each k d lt number) [
        | inl h ↦ inl (goes h)
        | inr there ↦ elim (listed_at held.short (place r.entry)) [
          | inl none ↦
              let f = contains_map were r.entry there in
              let free : is_free held.short f.0 ≡ true = ap (λ (e : Entry). is_nothing (file_at (place e) held.short)) f.2 ∙ ap is_nothing none in
              inr (subst (Contains (map entry_of left)) f.2 (contains_entry left f.0 (contains_filter (is_free held.short) were f.0 f.1 free)))
          | inr (h, within, same, found_is) ↦
              let name_is = place_named 0 tells old.stores old.limbo held m here stands has r (Contains-get_or old.limbo k d lt) number h within same in
              inl (goes (has_held tells old.stores held 0 r.name 0 has (omega arith) (record { entry = h.entry; within = contains_entry held.short h within; named = name_is; longer = omega arith })))
        ]
      ]

  rows_are : new.stores.catalogue.rows ≡ held.rows
  rows_are = ap (λ (c : CatalogueState). c.rows) catalogue ∙ has.known.rows

  filed_were : AreFiled m.granularity (store_of 0 held.rows were stand)
  filed_were = subst (λ (rows : List Row). AreFiled m.granularity (store_of 0 rows were stand)) has.known.rows (whole.filed m here)

  safe_were : IsTrue tells → AreSafe (store_of 0 held.rows were stand) (on_disk old.stores)
  safe_were told = subst (λ (rows : List Row). AreSafe (store_of 0 rows were stand) (on_disk old.stores)) has.known.rows (whole.safe told)

  filed_left : AreFiled m.granularity (store_of 0 held.rows left stand)
  filed_left = record {
    numbered = filed_were.numbered;
    listed = λ k d lt. All-contains (IsListed m.granularity held.rows) were (get_or left k d) filed_were.listed (was_in k d lt);
    filed = λ is k d lt. All-contains (IsFiled m.granularity held.rows) were (get_or left k d) (filed_were.filed is) (was_in k d lt);
  }

  safe_left : IsTrue tells → AreSafe (store_of 0 held.rows left stand) (on_disk new.stores)
  safe_left told = record {
    long = λ k d lt.
        let f = back_has k d lt in
        subst (λ (e : Entry). HasFile new.stores.files (file_of (1, held.rows) e) (λ b. e.len ≤ length b)) f.2
        (All-contains (λ (x : Filed). HasFile new.stores.files (file_of (1, held.rows) x.entry) (λ b. x.entry.len ≤ length b)) both f.0 (long told) f.1);
    unopened = λ k d lt.
        let x : Filed = get_or left k d in
        let was = All-contains (λ (y : Filed). old.stores.opened (file_of (1, held.rows) y.entry) ≤ y.entry.len) were x (safe_were told).unopened (was_in k d lt) in
        let less = fewer told (file_of (1, held.rows) x.entry) in
        omega (arith, was, less);
    left = λ image leaves_it is k d lt.
        let x : Filed = get_or left k d in
        let passes = (leaves told).any_moment in
        let come = passes.each new.stores.past.now image passes.later (omega arith) leaves_it in
        let f = back_has k d lt in
        let was : IsIn (1, held.rows) come.0 x = All-contains (IsIn (1, held.rows) come.0) were x ((safe_were told).left come.0 come.1 is) (was_in k d lt) in
        let within = subst (Contains (map entry_of both)) f.2 (contains_entry both f.0 f.1) in
        let kept = All-contains (λ (e : Entry). Keeps e.len (come.0 (file_of (1, held.rows) e)) (image (file_of (1, held.rows) e))) (map entry_of both) x.entry come.2 within in
        let len = (filed_left.filed is k d lt).len in
        kept (bytes_of x) (omega (arith, length-append x.head (10 ∷ lines_of x.samples))) (omega (arith, len)) was;
  }

  pub whole_left : AreWhole 0 tells new.stores new.limbo stand left
  whole_left = record {
    each = subst (λ (l : List Retired). All (IsAmong 0 new.stores left) l) (sym limbo) each_left;
    from = λ k d lt. subst (λ (l : List Retired). IsOfLimbo 0 l (get_or left k d).entry) (sym limbo) (All-contains (λ (x : Filed). IsOfLimbo 0 old.limbo x.entry) were (get_or left k d) whole.from (was_in k d lt));
    rise = rise_filter (is_free held.short) were whole.rise;
    filed = λ n there.
        let same : n.granularity ≡ m.granularity = same_Some n.granularity m.granularity (sym (granularity_at new.stores.manifests 0 n there) ∙ (ap (λ (gs : List Granularity). slice_get gs 0) same_g ∙ granularity_at old.stores.manifests 0 m here)) in
        subst (λ (g : Granularity). AreFiled g (store_with 0 new.stores stand left)) (sym same) (subst (λ (rows : List Row). AreFiled m.granularity (store_of 0 rows left stand)) (sym rows_are) filed_left);
    safe = λ told. subst (λ (rows : List Row). AreSafe (store_of 0 rows left stand) (on_disk new.stores)) (sym rows_are) (safe_left told);
  }
