-- A change of the list at one place where nothing stands in doubt: what stands beside it, what the call on that store says, and how a flush and a
-- commit of other files end. And calls that change nothing.
use Rattle.std.proofs.Common.{◌≡◌, ◌≢◌, ℕ, ◌≤◌, List, map, get_or, refl, sym, ◌∙◌, subst, arith, ◌⊎◌, inl, Bool, ap, inr, true, false, ◌<◌, ◌+◌, Some}
use Rattle.disk_model.specs.Files.{Name, Files, Rose}
use Rattle.disk_model.specs.Past.{Passes, MayLeave}
use Rattle.gate_journal.specs.Generations.{IsOwn, AtOwn}
use Rattle.gate_journal.specs.Journal.{JournalState}
use Rattle.gate_journal.specs.DiskShown.{DiskShown}
use Rattle.gate_journal.proofs.Keeping.{says_stays}
use Rattle.partition_names.specs.declared.granularity.Granularity.{Granularity}
use Rattle.pv_catalog.specs.declared.row.Row.{Row}
use Rattle.pv_catalog.specs.Rows.{IsCatalogue}
use Rattle.pv_catalog.specs.Catalogue.{catalogue_name, CatalogueState}
use Rattle.store_files.specs.Fronts.{Begins}
use Rattle.store_manifest.specs.Batches.{Folds}
use Rattle.store_manifest.specs.Manifest.{manifest_name, ManifestState}
use Rattle.durable_write.specs.Held.{Filed, Held, AreIn, bytes_of, entry_of, file_of, shelf_of, Shelf}
use Rattle.durable_write.specs.Stored.{Holds, AreLong, AreSafe, CatalogueStored, TierStored, HoldsEither, AreHeld, TierUnsure}
use Rattle.durable_write.specs.Three.{Beside, Anything}
use Rattle.durable_write.proofs.Commits.{other_journal}
use Rattle.durable_write.proofs.Staying.{Untouched, catalogue_stays, tier_stays, not_own_in, safe_stays, manifests_differ, same_cases, set_long, get_set_same}
use Rattle.tier_store.specs.Change.{SameFiles, Has, HoldsBy, HoldsEither as StoresEither, StoreCall, EndsFrom, OnlyReads, OnlySettles, Changes, IsKnownAt, IsKnown, Doubts, CanList}
use Rattle.std.specs.Prelude.{IsTrue, Result, Ok, Err, slice_get, slice_set}
use Rattle.disk_model.specs.declared.disk.DiskErr.{DiskErr}
use Rattle.disk_model.specs.declared.disk.DiskErr.TheVariants.{Fault, Memory}
use Rattle.disk_model.proofs.Passing.{passes_weaker, passes_none}
use Rattle.durable_write.specs.Ends.{End, end_of_disk, IsFailed, Done, end_of_error}
use Rattle.tier_store.specs.Stores.{Stores, list_at, tier, with_list}
use Rattle.tier_store.specs.Seen.{Seen, granularities, seen_on, AtEach, on_disk}
use Rattle.tier_store.specs.Stored.{HoldsAll}
use Rattle.tier_store.specs.Given.{ChangesGiven}
use Rattle.tier_store.proofs.Holding.{has_left, open_left, all_hold, all_left, hold_at}
use Rattle.tier_store.proofs.Places.{within_three, one_manifest, set_cases, same_granularities, holding, list_set, tier_set, tier_other}
use Rattle.series_model.specs.declared.batch.RowSamples.{RowSamples}
use Rattle.durable_write.specs.declared.file_write.FileWrite.{FileWrite}
use Rattle.store_manifest.specs.declared.entry.Entry.{Entry}
use Rattle.durable_write.specs.Flush.{HoldsBoth}
use Rattle.durable_write.specs.Flush as flush
use Rattle.durable_write.specs.Relisting.{ManifestEnds, Relists, TouchesOwn}
use Rattle.durable_write.specs.Writing.{IsStoredAs, IsDoubtedAs}
use Rattle.store_manifest.specs.Entries.{all_changed}
use Rattle.store_manifest.specs.declared.entry.Change.{Change}
use Rattle.durable_write.specs.Ahead.{CanRelist}

-- WHAT STANDS BESIDE A CHANGE OF ONE STORE

-- no file of another store than this is its manifest's or one of its files
file_beside : (store : ℕ) (a c : Files) (t : Held) (f : Filed) → 1 ≤ t.store → t.store ≢ store → Beside store (manifest_name store) a c → c (file_of (shelf_of t) f.entry) ≡ a (file_of (shelf_of t) f.entry)
file_beside store a c t f numbered apart step =
    step (file_of (shelf_of t) f.entry) apart (λ own. not_own_in t.store (manifest_name store) (file_of (shelf_of t) f.entry) numbered refl own refl)

in_beside : (store : ℕ) (a c : Files) (t : Held) → 1 ≤ t.store → t.store ≢ store → Beside store (manifest_name store) a c → AreIn t a → AreIn t c
in_beside store a c t numbered apart step was stands k d lt =
    let f : Filed = get_or t.files k d in
    subst (Begins (bytes_of f)) (sym (file_beside store a c t f numbered apart step)) (was stands k d lt)

long_beside : (store : ℕ) (a c : Files) (t : Held) → 1 ≤ t.store → t.store ≢ store → Beside store (manifest_name store) a c → AreLong t a → AreLong t c
long_beside store a c t numbered apart step long k d lt =
    let was = long k d lt in
    record { bytes = was.bytes; file = file_beside store a c t (get_or t.files k d) numbered apart step ∙ was.file; holds = was.holds }

-- the journals are of store 0, and have no file in common
journal_beside : (store : ℕ) (journal : Name) (a c : Files) → 1 ≤ store → journal.0 ≡ 0 → ((n : Name) → IsOwn journal n → IsOwn (manifest_name store) n → ⊥) → Beside store (manifest_name store) a c → (n : Name) → IsOwn journal n → c n ≡ a n
journal_beside store journal a c numbered zero_store other step n own = step n (not_own_in store journal n numbered zero_store own) (other n own)

-- an image holds another store still
pub holds_beside : (store : ℕ) (g : Granularity) (a c : Files) (t : Held) → 1 ≤ store → t.store ≢ store → Beside store (manifest_name store) a c → Holds g a t → Holds g c t
holds_beside store g a c t numbered apart step holds = record {
  rows = says_stays IsCatalogue t.rows catalogue_name a c (journal_beside store catalogue_name a c numbered refl (other_journal store) step) holds.rows;
  lists = says_stays (Folds g) (map entry_of t.files) (manifest_name t.store) a c (journal_beside store (manifest_name t.store) a c numbered refl (manifests_differ t.store store apart) step) holds.lists;
  filed = holds.filed;
  files = in_beside store a c t holds.filed.numbered apart step holds.files;
}

-- CHANGES OF STORE 0 ALONE

file_out : (a c : Files) (t : Held) (f : Filed) → 1 ≤ t.store → SameFiles a c → c (file_of (shelf_of t) f.entry) ≡ a (file_of (shelf_of t) f.entry)
file_out a c t f numbered same = same (file_of (shelf_of t) f.entry) (λ is. let zero_store : t.store ≡ 0 = is in absurd (omega (arith, numbered, zero_store)))

pub in_out : (a c : Files) (t : Held) → 1 ≤ t.store → SameFiles a c → AreIn t a → AreIn t c
in_out a c t numbered same was stands k d lt =
    let f : Filed = get_or t.files k d in
    subst (Begins (bytes_of f)) (sym (file_out a c t f numbered same)) (was stands k d lt)

pub long_out : (a c : Files) (t : Held) → 1 ≤ t.store → SameFiles a c → AreLong t a → AreLong t c
long_out a c t numbered same long k d lt =
    let was = long k d lt in
    record { bytes = was.bytes; file = file_out a c t (get_or t.files k d) numbered same ∙ was.file; holds = was.holds }

-- ONE STORE

-- a call on the files of one store and on its manifest
pub record OnStore (store : ℕ) (name : Name) (old new : DiskShown) : Type 0 where
  pub numbered : 1 ≤ store
  pub named : name ≡ manifest_name store
  pub passes : Passes (Beside store name) old.past new.past
  pub same : Beside store name old.files new.files
  pub fewer : (n : Name) → new.opened n ≤ old.opened n

module _ (store : ℕ) (name : Name) (old new : DiskShown) (call : OnStore store name old new) where
  by_name : (a c : Files) → Beside store name a c → Beside store (manifest_name store) a c
  by_name a c step = subst (λ (n : Name). Beside store n a c) call.named step

  untouched : (journal : JournalState) (own : Name) → journal.name ≡ own → own.0 ≡ 0 → ((n : Name) → IsOwn own n → IsOwn (manifest_name store) n → ⊥) → Untouched (Beside store name) journal old.files new.files old.opened new.opened
  untouched journal own is zero_store other =
      let mine : (n : Name) → IsOwn journal.name n → IsOwn own n = λ n its. subst (λ (m : Name). IsOwn m n) is its in
      record {
        step = λ a c step n its. journal_beside store own a c call.numbered zero_store other (by_name a c step) n (mine n its);
        same = λ n its. journal_beside store own old.files new.files call.numbered zero_store other (by_name old.files new.files call.same) n (mine n its);
        fewer = λ n its. call.fewer n;
      }

  pub rows_beside : (c : JournalState) (rows : List Row) → CatalogueStored c old rows → CatalogueStored c new rows
  rows_beside c rows stored = catalogue_stays (Beside store name) c old new call.passes (untouched c catalogue_name stored.named refl (other_journal store)) rows stored

  pub safe_beside : (t : Held) → 1 ≤ t.store → t.store ≢ store → AreSafe t old → AreSafe t new
  safe_beside t numbered apart safe =
      safe_stays t (Beside store name) old new safe call.passes (λ a c step. in_beside store a c t numbered apart (by_name a c step)) (long_beside store old.files new.files t numbered apart (by_name old.files new.files call.same) safe.long) call.fewer

  pub tier_beside : (g : Granularity) (m : JournalState) (t : Held) → t.store ≢ store → TierStored g m old t → TierStored g m new t
  tier_beside g m t apart stored =
      let numbered = stored.valid.filed.numbered in
      tier_stays (Beside store name) m old new call.passes (untouched m (manifest_name t.store) stored.named refl (manifests_differ t.store store apart)) g t stored
      (safe_beside t numbered apart stored.safe)

-- CALLS THAT CHANGE NOTHING

-- a call of the disk failed only where it counted a fault
pub failed_so : {B : Type 0} (before now : ℕ) (r : Result B DiskErr) → (r ≡ Err Fault → Rose before now) → IsFailed (end_of_disk r) → Rose before now
failed_so {B} before now (Ok a) cause none = absurd none
failed_so {B} before now (Err Fault) cause is = cause refl
failed_so {B} before now (Err Memory) cause none = absurd none

-- a call on the disk that only read it
pub only_reads : {B : Type 0} (tells : Bool) (old new : Seen) (r : Result B DiskErr) → (IsTrue tells → new.files ≡ old.files) → (IsTrue tells → Passes (λ a b. b ≡ a) old.past new.past) → old.faults ≤ new.faults → (r ≡ Err Fault → Rose old.faults new.faults) → OnlyReads tells old new (end_of_disk r)
only_reads {B} tells old new r files passes more cause = record { files = files; any_moment = passes; faults = more; cause = failed_so old.faults new.faults r cause }

-- nothing was read
pub nothing_read : {A E : Type 0} (tells : Bool) (s : Seen) (end : End A E) → (IsFailed end → ⊥) → OnlyReads tells s s end
nothing_read {A} {E} tells s end not_failed = record {
  files = λ told. refl;
  any_moment = λ told. passes_none (λ (a b : Files). b ≡ a) s.past (λ image left. refl);
  faults = omega arith;
  cause = λ failed. absurd (not_failed failed);
}

-- what is said of all stores is said of those of which this is true
pub changes_given : {A E : Type 0} (Is : Stores → Type 0) (tells : Bool) (call : StoreCall A E) (old new : Seen) (end : End A E) → Changes tells call old new end → ChangesGiven Is tells call old new end
changes_given {A} {E} Is tells call old new end change = record { ends = λ held has given. change.ends held has; any_moment = λ told held has given. change.any_moment told held has; costs = change.costs }

-- a call that only read settles nothing, and whatever was in doubt stays
pub reads_settle : {A E : Type 0} (tells : Bool) (old new : Seen) (end : End A E) → OnlyReads tells old new end → OnlySettles tells old new end
reads_settle {A} {E} tells old new end reads = record {
  files = λ told n other. ap (λ (f : Files). f n) (reads.files told);
  frame = λ told. passes_weaker (λ a b. b ≡ a) SameFiles old.past new.past (reads.any_moment told) (λ a b left is n other. ap (λ (f : Files). f n) is);
  any_moment = λ told before after was.
      passes_weaker (λ a b. b ≡ a) (StoresEither (granularities old.manifests) before after) old.past new.past (reads.any_moment told)
      (λ a b left is. subst (λ (f : Files). HoldsAll (granularities old.manifests) f before ⊎ HoldsAll (granularities old.manifests) f after) (sym is) (open_left tells old before after was told a left));
  quiet = λ settled told. (reads.files told, reads.any_moment told);
  faults = reads.faults;
  cause = reads.cause;
}

-- nothing was done
pub nothing_changes : {A E : Type 0} (tells : Bool) (call : StoreCall A E) (s : Seen) (end : End A E) → ((held : Stores) → Has tells s held → EndsFrom tells call s held end) → (IsFailed end → ⊥) → Changes tells call s s end
nothing_changes {A} {E} tells call s end ends not_failed = record {
  ends = ends;
  any_moment = λ told held has. passes_none (HoldsBy (granularities s.manifests) call.by held) s.past (λ image left. inl (has_left tells s held has told image left));
  costs = record { granularity = refl; faults = omega arith; cause = λ failed. absurd (not_failed failed) };
}

-- A CHANGE OF THE LIST AT ONE PLACE

-- what is said of stores of which anything is true is said of all
every : {A E : Type 0} (tells : Bool) (call : StoreCall A E) (old new : Seen) (end : End A E) → ChangesGiven (λ (s : Stores). Unit {0}) tells call old new end → Changes tells call old new end
every {A} {E} tells call old new end change = record { ends = λ held has. change.ends held has tt; any_moment = λ told held has. change.any_moment told held has tt; costs = change.costs }

places_apart : (i k : ℕ) → k ≢ i → k + 1 ≢ i + 1
places_apart i k apart is = apart (omega (arith, is))

module _ {S : Type 0} (shows : S → DiskShown) (faults_of : S → ℕ) (tells : Bool) (c : CatalogueState) (ms : List ManifestState) (i : ℕ) (m made : ManifestState) (here : slice_get ms i ≡ Some m) (d after : S) where
  abbrev set : List ManifestState
  set = slice_set ms i made

  abbrev before : Seen
  before = seen_on shows faults_of c ms d

  abbrev behind : Seen
  behind = seen_on shows faults_of c set after

  -- what the call says of its own store's journal, of all that stands beside it, and of its faults
  module _ (same_g : made.granularity ≡ m.granularity) (on_store : IsTrue tells → OnStore (i + 1) m.journal.name (shows d) (shows after)) (faults : faults_of d ≤ faults_of after) where
    -- the stores at other places
    known_beside : (held s : Stores) → IsKnown c ms held → ((k : ℕ) → k < 3 → k ≢ i → tier k s ≡ tier k held) → AtEach ms (λ k n. k ≢ i → IsKnownAt n (tier k s))
    known_beside held s known same k n there apart = subst (IsKnownAt n) (sym (same k (within_three ms k n known.three there) apart)) (known.each k n there)

    stored_beside : (held s : Stores) → Has tells before held → IsTrue tells → ((k : ℕ) → k < 3 → k ≢ i → tier k s ≡ tier k held) → AtEach ms (λ k n. k ≢ i → TierStored n.granularity n.journal (shows after) (tier k s))
    stored_beside held s has told same k n there apart =
        subst (TierStored n.granularity n.journal (shows after)) (sym (same k (within_three ms k n has.known.three there) apart))
        (tier_beside (i + 1) m.journal.name (shows d) (shows after) (on_store told) n.granularity n.journal (tier k held) (places_apart i k apart) ((has.disk told).each k n there))

    rows_stored : (held : Stores) → Has tells before held → IsTrue tells → CatalogueStored c.journal (shows after) held.rows
    rows_stored held has told = rows_beside (i + 1) m.journal.name (shows d) (shows after) (on_store told) c.journal held.rows (has.disk told).rows

    -- the place has this list, and nothing stands in doubt
    has_list : (held s : Stores) → Has tells before held → s.rows ≡ held.rows → ((k : ℕ) → k < 3 → k ≢ i → tier k s ≡ tier k held) → made.journal.sound ≡ true → made.entries ≡ map entry_of (list_at i s) → AreHeld m.granularity (tier i s)
        → (IsTrue tells → TierStored made.granularity made.journal (shows after) (tier i s)) → Has tells behind s
    has_list held s has rows same sound entries valid stored = record {
      known = record {
        three = set_long ms i made ∙ has.known.three;
        rows = has.known.rows ∙ sym rows;
        each = λ k n there. elim (set_cases ms i k m made n here there) [
          | inl is ↦ subst (λ (j : ℕ). IsKnownAt n (tier j s)) (sym is.0) (subst (λ (x : ManifestState). IsKnownAt x (tier i s)) (sym is.1) (record { entries = entries; valid = subst (λ (g : Granularity). AreHeld g (tier i s)) (sym same_g) valid }))
          | inr is ↦ known_beside held s has.known same k n is.1 is.0
        ];
      };
      settled = record {
        catalogue = has.settled.catalogue;
        manifests = λ k n there. elim (set_cases ms i k m made n here there) [
          | inl is ↦ subst (λ (x : ManifestState). x.journal.sound ≡ true) (sym is.1) sound
          | inr is ↦ has.settled.manifests k n is.1
        ];
      };
      disk = λ told. record {
        rows = subst (CatalogueStored c.journal (shows after)) (sym rows) (rows_stored held has told);
        each = λ k n there. elim (set_cases ms i k m made n here there) [
          | inl is ↦ subst (λ (j : ℕ). TierStored n.granularity n.journal (shows after) (tier j s)) (sym is.0)
              (subst (λ (x : ManifestState). TierStored x.granularity x.journal (shows after) (tier i s)) (sym is.1) (stored told))
          | inr is ↦ stored_beside held s has told same k n is.1 is.0
        ];
      };
    }

    low_at : (held : Stores) → Has tells before held → i < 3
    low_at held has = within_three ms i m has.known.three here

    beside : (held : Stores) → Has tells before held → (fs : List Filed) → (k : ℕ) → k < 3 → k ≢ i → tier k (with_list i fs held) ≡ tier k held
    beside held has fs k low apart = tier_other i k fs held (low_at held has) low apart

    still_has : (held : Stores) → Has tells before held → made.entries ≡ m.entries → made.journal.sound ≡ true → (IsTrue tells → TierStored made.granularity made.journal (shows after) (tier i held)) → Has tells behind held
    still_has held has unchanged sound stored = has_list held held has refl (λ k low apart. refl) sound (unchanged ∙ (has.known.each i m here).entries) (has.known.each i m here).valid stored

    -- what the place is to list of stores of which this is true
    module _ {A E : Type 0} (Is : Stores → Type 0) (call : StoreCall A E) (next : (held : Stores) → Has tells before held → Is held → List Filed) (by : (held : Stores) (has : Has tells before held) (is : Is held) → call.by held (with_list i (next held has is) held))
        (valid : (held : Stores) (has : Has tells before held) (is : Is held) → AreHeld m.granularity (holding i held (next held has is)))
        (moment : IsTrue tells → (held : Stores) (has : Has tells before held) (is : Is held) → Passes (HoldsEither m.granularity (tier i held) (holding i held (next held has is))) (shows d).past (shows after).past) where
      abbrev then : (held : Stores) → Has tells before held → Is held → Stores
      then held has is = with_list i (next held has is) held

      is_then : (held : Stores) (has : Has tells before held) (is : Is held) → tier i (then held has is) ≡ holding i held (next held has is)
      is_then held has is = tier_set i (next held has is) held (low_at held has)

      any_moment : IsTrue tells → (held : Stores) → Has tells before held → Is held → Passes (HoldsBy (granularities ms) call.by held) (shows d).past (shows after).past
      any_moment told held has given = record {
        later = own.later;
        kept = own.kept;
        nothing_else = own.nothing_else;
        each = λ k image from to left.
            let come = frame.passes.each k image from to left in
            let mine = own.each k image from to left in (come.0, come.1, go come.0 image come.1 (subst (λ (n : Name). Beside (i + 1) n come.0 image) frame.named come.2) mine.2);
      }
        where
          own : Passes (HoldsEither m.granularity (tier i held) (holding i held (next held has given))) (shows d).past (shows after).past
          own = moment told held has given

          frame : OnStore (i + 1) m.journal.name (shows d) (shows after)
          frame = on_store told

          all : (s : Stores) (a image : Files) → MayLeave (shows d).past a → Beside (i + 1) (manifest_name (i + 1)) a image → ((k : ℕ) → k < 3 → k ≢ i → tier k s ≡ tier k held) → Holds m.granularity image (tier i s) → HoldsAll (granularities ms) image s
          all s a image left step same holds = all_hold ms image s (λ k n there. elim (same_cases k i) [
            | inl is ↦ subst (λ (j : ℕ). Holds n.granularity image (tier j s)) (sym is) (subst (λ (x : ManifestState). Holds x.granularity image (tier i s)) (sym (one_manifest ms i k m n is here there)) holds)
            | inr apart ↦ subst (Holds n.granularity image) (sym (same k (within_three ms k n has.known.three there) apart))
                (holds_beside (i + 1) n.granularity a image (tier k held) frame.numbered (places_apart i k apart) step (held_at k n there a left))
          ])
            where
              held_at : (k : ℕ) (n : ManifestState) → slice_get ms k ≡ Some n → (a : Files) → MayLeave (shows d).past a → Holds n.granularity a (tier k held)
              held_at k n there a left = hold_at ms a held (all_left before held a (has.disk told) left) k n there

          go : (a image : Files) → MayLeave (shows d).past a → Beside (i + 1) (manifest_name (i + 1)) a image → Holds m.granularity image (tier i held) ⊎ Holds m.granularity image (holding i held (next held has given))
              → HoldsAll (granularities ms) image held ⊎ ((made : Stores) × call.by held made × HoldsAll (granularities ms) image made)
          go a image left step (inl holds) = inl (all held a image left step (λ k low apart. refl) holds)
          go a image left step (inr holds) = inr (then held has given, by held has given, all (then held has given) a image left step (beside held has (next held has given)) (subst (Holds m.granularity image) (sym (is_then held has given)) holds))

      granularity : granularities set ≡ granularities ms
      granularity = same_granularities ms i m made here same_g

      pub given_done : (a : A) → ((held : Stores) (has : Has tells before held) (given : Is held) → call.says a held (then held has given)) → made.journal.sound ≡ true → ((held : Stores) (has : Has tells before held) (given : Is held) → made.entries ≡ map entry_of (next held has given))
          → (IsTrue tells → (held : Stores) (has : Has tells before held) (given : Is held) → TierStored made.granularity made.journal (shows after) (holding i held (next held has given))) → ChangesGiven Is tells call before behind (Done a)
      given_done a says sound entries stored = record {
        ends = λ held has given. (
          then held has given,
          by held has given,
          says held has given,
          has_list held (then held has given) has refl (beside held has (next held has given)) sound (entries held has given ∙ ap (λ (t : Held). map entry_of t.files) (sym (is_then held has given))) (subst (AreHeld m.granularity) (sym (is_then held has given)) (valid held has given))
              (λ told. subst (TierStored made.granularity made.journal (shows after)) (sym (is_then held has given)) (stored told held has given)),
        );
        any_moment = any_moment;
        costs = record { granularity = granularity; faults = faults; cause = λ failed. absurd failed };
      }

      -- it failed: what was held is stored still, or the manifest is in doubt
      module _ (unchanged : made.entries ≡ m.entries) (will : (held : Stores) (has : Has tells before held) (given : Is held) → made.journal.sound ≡ false → made.next ≡ map entry_of (next held has given))
          (unmade : IsTrue tells → (held : Stores) (has : Has tells before held) (given : Is held) → made.journal.sound ≡ true → TierStored made.granularity made.journal (shows after) (tier i held))
          (in_doubt : IsTrue tells → (held : Stores) (has : Has tells before held) (given : Is held) → made.journal.sound ≡ false → TierUnsure made.granularity made.journal (shows after) (tier i held) (holding i held (next held has given))) where
        doubts : (held : Stores) (has : Has tells before held) (given : Is held) → made.journal.sound ≡ false → Doubts tells behind held (then held has given)
        doubts held has given unsound = record {
          known = record {
            three = set_long ms i made ∙ has.known.three;
            rows = has.known.rows;
            each = λ k n there. elim (set_cases ms i k m made n here there) [
              | inl is ↦ subst (λ (j : ℕ). IsKnownAt n (tier j held)) (sym is.0)
                  (subst (λ (x : ManifestState). IsKnownAt x (tier i held)) (sym is.1) (record { entries = unchanged ∙ (has.known.each i m here).entries; valid = subst (λ (g : Granularity). AreHeld g (tier i held)) (sym same_g) (has.known.each i m here).valid }))
              | inr is ↦ has.known.each k n is.1
            ];
          };
          valid_after = λ k n there. elim (set_cases ms i k m made n here there) [
            | inl is ↦ subst (λ (j : ℕ). AreHeld n.granularity (tier j (then held has given))) (sym is.0)
                (subst (λ (x : ManifestState). AreHeld x.granularity (tier i (then held has given))) (sym is.1) (subst (λ (g : Granularity). AreHeld g (tier i (then held has given))) (sym same_g) (subst (AreHeld m.granularity) (sym (is_then held has given)) (valid held has given))))
            | inr is ↦ subst (AreHeld n.granularity) (sym (beside held has (next held has given) k (within_three ms k n has.known.three is.1) is.0)) (has.known.each k n is.1).valid
          ];
          change = inr (
            i,
            record {
              manifest = made;
              here = get_set_same ms i made m here;
              unsound = unsound;
              sound = has.settled.catalogue;
              others = λ k n there apart. elim (set_cases ms i k m made n here there) [ inl is ↦ absurd (apart is.0) | inr is ↦ has.settled.manifests k n is.1 ];
              next = will held has given unsound ∙ ap (λ (t : Held). map entry_of t.files) (sym (is_then held has given));
              same = ap (λ (fs : List Filed). with_list i fs held) (sym (list_set i (next held has given) held (low_at held has)));
              disk = λ told. record {
                rows = rows_stored held has told;
                list = subst (λ (t : Held). TierUnsure made.granularity made.journal (shows after) (tier i held) t) (sym (is_then held has given)) (in_doubt told held has given unsound);
                others = λ k n there apart. elim (set_cases ms i k m made n here there) [ inl is ↦ absurd (apart is.0) | inr is ↦ stored_beside held held has told (λ j low other. refl) k n is.1 is.0 ];
              };
            },
          );
        }

        left : (held : Stores) (has : Has tells before held) (given : Is held) (sound : Bool) → made.journal.sound ≡ sound → Has tells behind held ⊎ ((s : Stores) × call.by held s × Doubts tells behind held s)
        left held has given true sound = inl (still_has held has unchanged sound (λ told. unmade told held has given sound))
        left held has given false unsound = inr (then held has given, by held has given, doubts held has given unsound)

        pub given_cut : (e : DiskErr) (end : End A E) → end ≡ end_of_error e → (e ≡ Memory → made.journal.sound ≡ true) → (e ≡ Fault → Rose (faults_of d) (faults_of after)) → ChangesGiven Is tells call before behind end
        given_cut e end is memory cause = subst (λ (x : End A E). ChangesGiven Is tells call before behind x) (sym is) (go e memory cause)
          where
            go : (e : DiskErr) → (e ≡ Memory → made.journal.sound ≡ true) → (e ≡ Fault → Rose (faults_of d) (faults_of after)) → ChangesGiven Is tells call before behind (end_of_error {A = A} {E = E} e)
            go Fault memory cause = record {
              ends = λ held has given. left held has given made.journal.sound refl;
              any_moment = any_moment;
              costs = record { granularity = granularity; faults = faults; cause = λ failed. cause refl };
            }
            go Memory memory cause =
                let sound : (held : Stores) → Has tells before held → made.journal.sound ≡ true = λ held has. memory refl in
                record {
                  ends = λ held has given. still_has held has unchanged (sound held has) (λ told. unmade told held has given (sound held has));
                  any_moment = any_moment;
                  costs = record { granularity = granularity; faults = faults; cause = λ failed. absurd failed };
                }

    -- and of all stores
    module _ {A E : Type 0} (call : StoreCall A E) (next : (held : Stores) → Has tells before held → List Filed) (by : (held : Stores) (has : Has tells before held) → call.by held (with_list i (next held has) held))
        (valid : (held : Stores) (has : Has tells before held) → AreHeld m.granularity (holding i held (next held has)))
        (moment : IsTrue tells → (held : Stores) (has : Has tells before held) → Passes (HoldsEither m.granularity (tier i held) (holding i held (next held has))) (shows d).past (shows after).past) where
      abbrev Any : Stores → Type 0
      Any s = Unit {0}

      pub place_done : (a : A) → ((held : Stores) (has : Has tells before held) → call.says a held (with_list i (next held has) held)) → made.journal.sound ≡ true → ((held : Stores) (has : Has tells before held) → made.entries ≡ map entry_of (next held has))
          → (IsTrue tells → (held : Stores) (has : Has tells before held) → TierStored made.granularity made.journal (shows after) (holding i held (next held has))) → Changes tells call before behind (Done a)
      place_done a says sound entries stored = every tells call before behind (Done a)
          (given_done Any call (λ held has given. next held has) (λ held has given. by held has) (λ held has given. valid held has) (λ told held has given. moment told held has) a (λ held has given. says held has) sound (λ held has given. entries held has) (λ told held has given. stored told held has))

      pub place_cut : made.entries ≡ m.entries → ((held : Stores) (has : Has tells before held) → made.journal.sound ≡ false → made.next ≡ map entry_of (next held has))
          → (IsTrue tells → (held : Stores) (has : Has tells before held) → made.journal.sound ≡ true → TierStored made.granularity made.journal (shows after) (tier i held))
          → (IsTrue tells → (held : Stores) (has : Has tells before held) → made.journal.sound ≡ false → TierUnsure made.granularity made.journal (shows after) (tier i held) (holding i held (next held has)))
          → (e : DiskErr) (end : End A E) → end ≡ end_of_error e → (e ≡ Memory → made.journal.sound ≡ true) → (e ≡ Fault → Rose (faults_of d) (faults_of after)) → Changes tells call before behind end
      place_cut unchanged will unmade in_doubt e end is memory cause = every tells call before behind end
          (given_cut Any call (λ held has given. next held has) (λ held has given. by held has) (λ held has given. valid held has) (λ told held has given. moment told held has)
          unchanged (λ held has given. will held has) (λ told held has given. unmade told held has) (λ told held has given. in_doubt told held has) e end is memory cause)

-- A FLUSH INTO STORE 1

-- a store of which the list is in doubt, out of what is said of it with the catalogue
pub list_unsure : (catalogue : JournalState) (m : ManifestState) (shelf : Shelf) (disk : DiskShown) (before after : Held) → IsDoubtedAs catalogue m shelf disk before after → m.journal.sound ≡ false → TierUnsure m.granularity m.journal disk before after
list_unsure catalogue m shelf disk before after doubted unsound = elim doubted.in_doubt.doubt [
  | inl r ↦ absurd (cc (unsound, r.tier.sound))
  | inr l ↦ l.tier
]

-- one store as it is stored with the rows
pub stored_as : (tells : Bool) (at : Seen) (held : Stores) (i : ℕ) (m : ManifestState) → slice_get at.manifests i ≡ Some m → Has tells at held → IsTrue tells → IsStoredAs at.catalogue.journal m (i + 1, at.catalogue.rows) (on_disk at) (tier i held)
stored_as tells at held i m here has told = record {
  stored = record { rows = (has.disk told).rows; tier = (has.disk told).each i m here };
  of_rows = ap (λ (r : List Row). let s : Shelf = (i + 1, r) in s) (sym has.known.rows);
  entries = (has.known.each i m here).entries;
}

-- the plan of a manifest that is the same
pub planned : (ms : List ManifestState) (n m : ManifestState) → slice_get ms 0 ≡ Some n → slice_get ms 0 ≡ Some m → (rows : List Row) (limbo : List Entry) (batch : List RowSamples) (writes : List FileWrite) (count : ℕ) → ((held : Held) → HoldsBoth n.granularity rows n.entries limbo held → flush.Flushes n.granularity held batch writes count)
    → (held : Held) → HoldsBoth m.granularity rows m.entries limbo held → flush.Flushes m.granularity held batch writes count
planned ms n m there here rows limbo batch writes count plan =
    subst (λ (x : ManifestState). (held : Held) → HoldsBoth x.granularity rows x.entries limbo held → flush.Flushes x.granularity held batch writes count) (one_manifest ms 0 0 m n refl here there) plan

-- what the writing of the writes says of all that stands beside store 1
pub on_store : (tells : Bool) (at : Seen) (held : Stores) (i : ℕ) (m : ManifestState) → slice_get at.manifests i ≡ Some m → Has tells at held → (tells_it : IsTrue tells) → (new : DiskShown) → Passes (Beside (i + 1) m.journal.name) at.past new.past → ((n : Name) → n.0 ≢ i + 1 → (IsOwn m.journal.name n → ⊥) → new.files n ≡ at.files n) → ((n : Name) → new.opened n ≤ at.opened n) → OnStore (i + 1) m.journal.name (on_disk at) new
on_store tells at held i m here has told new passes same fewer = record { numbered = omega arith; named = ((has.disk told).each i m here).named; passes = passes; same = same; fewer = fewer }

-- and what a commit of its manifest alone does
pub own_store : (tells : Bool) (at : Seen) (held : Stores) (i : ℕ) (m : ManifestState) → slice_get at.manifests i ≡ Some m → Has tells at held → (tells_it : IsTrue tells) → (new : DiskShown) → TouchesOwn m.journal.name (on_disk at) new → OnStore (i + 1) m.journal.name (on_disk at) new
own_store tells at held i m here has told new touches =
    on_store tells at held i m here has told new (passes_weaker (AtOwn m.journal.name Anything) (Beside (i + 1) m.journal.name) at.past new.past touches.frame (λ a x was step n other apart. step.elsewhere n apart))
    (λ n other apart. touches.elsewhere n apart) touches.no_more

-- OTHER FILES AT ONE PLACE

module _ {S : Type 0} (shows : S → DiskShown) (faults_of : S → ℕ) (tells : Bool) (c : CatalogueState) (ms : List ManifestState) (i : ℕ) (m made : ManifestState) (here : slice_get ms i ≡ Some m) (d after : S) (changes : List Change)
    (can : (held : Stores) → Has tells (seen_on shows faults_of c ms d) held → (fs : List Filed) × CanList i tells (seen_on shows faults_of c ms d) changes held fs) where
  abbrev list_before : Seen
  list_before = seen_on shows faults_of c ms d

  abbrev list_behind : Seen
  list_behind = seen_on shows faults_of c (slice_set ms i made) after

  abbrev shelf : Shelf
  shelf = (i + 1, c.rows)

  abbrev Can : JournalState → Shelf → Held → Held → Type 0
  Can catalogue s held next = CanRelist catalogue m s (shows d) held next changes

  abbrev pub files : (held : Stores) → Has tells list_before held → List Filed
  files held has = (can held has).0

  are : (held : Stores) (has : Has tells list_before held) → tier i (with_list i (files held has) held) ≡ holding i held (files held has)
  are held has = tier_set i (files held has) held (within_three ms i m has.known.three here)

  valid : (held : Stores) (has : Has tells list_before held) → AreHeld m.granularity (holding i held (files held has))
  valid held has = subst (AreHeld m.granularity) (are held has) ((can held has).1.valid m here)

  entries_next : (held : Stores) (has : Has tells list_before held) → all_changed m.entries changes ≡ map entry_of (files held has)
  entries_next held has = ap (λ (es : List Entry). all_changed es changes) (has.known.each i m here).entries ∙ (can held has).1.lists

  pub can_relist : (held : Stores) (has : Has tells list_before held) → IsTrue tells → Can c.journal shelf (tier i held) (holding i held (files held has))
  can_relist held has told = record {
    stored = stored_as tells list_before held i m here has told;
    same_shelf = refl;
    same_stands = refl;
    valid = valid held has;
    safe = subst (λ (t : Held). AreSafe t (shows d)) (are held has) ((can held has).1.safe told);
    lists = entries_next held has;
  }

  -- the call says so of any stores that are held
  abbrev Lists : Result (Unit {0}) DiskErr → Type 0
  Lists r = (catalogue : JournalState) (s : Shelf) (held next : Held) → Can catalogue s held next → Relists catalogue m made s r (shows d) (shows after) held next

  lists_here : (r : Result (Unit {0}) DiskErr) → (IsTrue tells → Lists r) → IsTrue tells → (held : Stores) (has : Has tells list_before held) → Relists c.journal m made shelf r (shows d) (shows after) (tier i held) (holding i held (files held has))
  lists_here r lists told held has = lists told c.journal shelf (tier i held) (holding i held (files held has)) (can_relist held has told)

  -- whatever call it is that lists these files
  module _ (touches : IsTrue tells → TouchesOwn m.journal.name (shows d) (shows after)) (was : IsTrue tells → (held : Stores) × Has tells list_before held) (faults : faults_of d ≤ faults_of after)
      (call : StoreCall (Unit {0}) ⊥) (by : (held : Stores) (has : Has tells list_before held) → call.by held (with_list i (files held has) held)) (says : (a : Unit {0}) (held : Stores) (has : Has tells list_before held) → call.says a held (with_list i (files held has) held)) where
    on_own : IsTrue tells → OnStore (i + 1) m.journal.name (shows d) (shows after)
    on_own told = own_store tells list_before (was told).0 i m here (was told).1 told (shows after) (touches told)

    pub call_ends : (r : Result (Unit {0}) DiskErr) → ManifestEnds m made (all_changed m.entries changes) r → (IsTrue tells → Lists r) → (r ≡ Err Fault → Rose (faults_of d) (faults_of after)) → Changes tells call list_before list_behind (end_of_disk r)
    call_ends (Ok a) ends lists cause =
        place_done shows faults_of tells c ms i m made here d after ends.granularity on_own faults call files by valid (λ told held has. (lists_here (Ok a) lists told held has).any_moment) a (says a) ends.sound
        (λ held has. ends.entries ∙ entries_next held has) (λ told held has. (lists_here (Ok a) lists told held has).made.stored.tier)
    call_ends (Err e) ends lists cause =
        place_cut shows faults_of tells c ms i m made here d after ends.granularity on_own faults call files by valid (λ told held has. (lists_here (Err e) lists told held has).any_moment) ends.unchanged
        (λ held has unsound. ends.next unsound ∙ entries_next held has) (λ told held has sound. ((lists_here (Err e) lists told held has).unmade sound).stored.tier)
        (λ told held has unsound. list_unsure c.journal made shelf (shows after) (tier i held) (holding i held (files held has)) ((lists_here (Err e) lists told held has).in_doubt unsound) unsound)
        e (end_of_error e) refl (λ memory. ends.memory (ap (λ (x : DiskErr). Err x) memory)) (λ fault. cause (ap (λ (x : DiskErr). Err x) fault))
