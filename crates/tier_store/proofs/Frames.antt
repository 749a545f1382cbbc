-- What calls leave beside them. Files that are listed or in limbo are so still, and reads and crashes give their bytes as they did; and files in
-- limbo stay whole, also where some leave limbo or others come to it.
use Rattle.std.proofs.Common.{◌≡◌, ◌≢◌, inl, inr, Bool, ℕ, ◌+◌, List, map, length, Some, Ok, Err, refl, sym, ◌∙◌, ap, subst, arith, true, false, zero, suc, ◌<◌, ◌≤◌, ◌++◌, ◌&&◌, filter, get_or, nat_eq, None}
use Rattle.std.specs.Prelude.{Contains, IsTrue, OnErr, OnOk, Result, slice_get, All}
use Rattle.std.proofs.lemmas.List.Elements.{All-contains, All-map, Contains-append_cases, Contains-get_or, filter_passes}
use Rattle.disk_model.specs.Files.{Name, Content, Files, HasFile}
use Rattle.disk_model.specs.Past.{Passes}
use Rattle.disk_model.specs.declared.disk.DiskErr.{DiskErr}
use Rattle.disk_model.proofs.Passing.{passes_none, passes_then, passes_weaker}
use Rattle.gate_journal.specs.Generations.{IsOwn, AtOwn}
use Rattle.gate_journal.specs.DiskShown.{DiskShown}
use Rattle.pv_catalog.specs.declared.row.Row.{Row}
use Rattle.series_model.specs.declared.batch.RowSamples.{RowSamples}
use Rattle.store_files.specs.Fronts.{Begins, Keeps}
use Rattle.store_manifest.specs.declared.entry.Entry.{Entry}
use Rattle.store_manifest.specs.Manifest.{ManifestState}
use Rattle.durable_write.specs.Ends.{End, Done}
use Rattle.durable_write.specs.Flush.{PlacesRise, put_all, with_files, file_at, is_place}
use Rattle.durable_write.specs.Held.{Filed, Listing, KeepsListed, entry_of, file_of, listing_of, Held, AreFiled, AreIn, IsFiled, IsIn, IsListed, bytes_of, filed_at}
use Rattle.durable_write.specs.Three.{Beside}
use Rattle.durable_write.specs.Writing.{LeavesListed}
use Rattle.durable_write.proofs.Written.{contains_entry, listed_stays, put_all_new, one_of_place}
use Rattle.durable_write.proofs.Staying.{contains_map, same_cases, filed_still, safe_grows, safe_both}
use Rattle.tier_store.specs.Stores.{Stores, tier, list_at, with_rows}
use Rattle.tier_store.specs.Seen.{Seen, granularities, on_disk}
use Rattle.tier_store.specs.Change.{IsKnownAt, Has, IsOpen, HasEither, SameFiles, EndsFrom, StoreCall, Changes}
use Rattle.tier_store.specs.Limbo.{LimboStands, IsListedName, IsNeeded, Removes, StayUnlisted}
use Rattle.tier_store.specs.Pinned.{SeenAll, beside, IsThereTo, KeepsShown, LeavesFronts, IsHeldTo, IsRetiredTo}
use Rattle.tier_store.specs.Revival.{AreInLimbo, flushing_over, AreWhole, IsAmong, IsOfLimbo, KeepsWhole, store_with, AreUnlistedIn}
use Rattle.tier_store.proofs.Places.{one_manifest, granularity_at, manifest_at, manifest_of}
use Rattle.tier_store.proofs.Revival.{IsHere, is_here, over_on, over_spares, limbo_name, none_is, place_named, store_of, ToRevive, whole_left}
use Rattle.tier_store.proofs.Showing.{ends_held, ends_spares, fronts_beside, known_spares, name_listed, not_own, numbered, settled_held, settled_spares, still_held, still_spares, there_still, contains_filter, from_filter, from_oldest, GoesOn, Spares, grown_spares, rows_keep}
use Rattle.tier_store.proofs.Retirements.{after_disk, same_memory, part_of, listed_name}
use Rattle.std.specs.FinMap.{FinMap}
use Rattle.std.specs.List.{list_any}
use Rattle.std.specs.Ordering.{nat_cmp}
use Rattle.std.proofs.lemmas.Bool.Decides.{Decides-eqb}
use Rattle.std.proofs.lemmas.List.Folds.{Any-from_list_any, list_any-from_Any}
use Rattle.pins.specs.Pieces.{PinOf}
use Rattle.partition_names.specs.declared.granularity.Granularity.{Granularity}
use Rattle.pv_catalog.specs.Rows.{KeepsRows}
use Rattle.pv_catalog.proofs.Standing.{keeps_same}
use Rattle.store_manifest.specs.Entries.{place}
use Rattle.durable_write.specs.Stored.{AreSafe, AreLong}
use Rattle.durable_write.proofs.Places.{all_put_all, is_place-same, is_place-true, listed_at, rise_filter, rise_put_all}
use Rattle.tier_store.specs.Moving.{LeavesFiles, LeavesLater, LeavesNames, names_of}
use Rattle.tier_store.specs.Retiring.{oldest_entries, retired_of}
use Rattle.tier_store.specs.declared.limbo.Retired.{Retired}
use Rattle.tier_store.specs.Reviving.{free_of, is_free, is_nothing}
use Rattle.tier_store.proofs.RunningMoves.{later_names, name_in, read_names, commit_leaves, commit_leaves_files, first_leaves, none_further, nothing_leaves, read_leaves}
use Rattle.tier_store.proofs.Removals.{stay_from}
use Rattle.pv_catalog.specs.Catalogue.{CatalogueState}
use Rattle.durable_write.specs.declared.file_write.FileWrite.{FileWrite}
use Rattle.tier_store.specs.Frame.{Frame}
use Rattle.tier_store.specs.Strays.{LeavesTidy}
use Rattle.tier_store.proofs.Strays.{file_apart, fronts_strays, ok_always, ok_both, ok_settled}

-- FRONTS

-- the files of a store that are listed or in limbo begin as they did
abbrev KeepsOf : SeenAll → ℕ → Files → Files → Type 0
KeepsOf all store a b = (name : Name) (len : ℕ) → name.0 ≡ store → IsThereTo all name len → Keeps len (a name) (b name)

keeps_if_same : (len : ℕ) (a b : Content) → b ≡ a → Keeps len a b
keeps_if_same len a b same front some within begins = subst (Begins front) (sym same) begins

-- so what is shown is shown still
pub fronts_shown : (tells : Bool) (old new : SeenAll) → LeavesFronts tells old new → KeepsShown tells old new
fronts_shown tells old new fronts name bytes was = record {
  held = fronts.there name (length bytes) was.held;
  some = was.some;
  front = λ told. fronts.now told name (length bytes) was.held bytes was.some (omega arith) (was.front told);
}

-- one call after another
pub fronts_on : (tells : Bool) (old mid new : SeenAll) → LeavesFronts tells old mid → LeavesFronts tells mid new → LeavesFronts tells old new
fronts_on tells old mid new first second = record {
  there = λ name len was. second.there name len (first.there name len was);
  now = λ told name len was front some within begins. second.now told name len (first.there name len was) front some within (first.now told name len was front some within begins);
  any_moment = λ told store numbered. passes_then (KeepsOf old store) (KeepsOf mid store) old.stores.past mid.stores.past new.stores.past (first.any_moment told store numbered) (second.any_moment told store numbered)
      (λ a b c left step between on name len of was front some within begins. on name len of (first.there name len was) front some within (step name len of was front some within begins));
}

-- READS

-- only files of store 0 were changed
only_settled : (tells : Bool) (old new : SeenAll) → ((name : Name) (len : ℕ) → IsThereTo old name len → IsThereTo new name len) → (IsTrue tells → SameFiles old.stores.files new.stores.files) → (IsTrue tells → Passes SameFiles old.stores.past new.stores.past) → LeavesFronts tells old new
only_settled tells old new there same passes = record {
  there = there;
  now = λ told name len was. keeps_if_same len (old.stores.files name) (new.stores.files name) (same told name (not_first name len was));
  any_moment = λ told store numbered. passes_weaker SameFiles (KeepsOf old store) old.stores.past new.stores.past (passes told) (λ a c left step name len of was. keeps_if_same len (a name) (c name) (step name (not_first name len was)));
}
  where
    not_first : (name : Name) (len : ℕ) → IsThereTo old name len → name.0 ≢ 0
    not_first name len was is = let number = numbered old name len was in omega (arith, is, number)

-- the disk was only read
only_read : (tells : Bool) (old new : SeenAll) → ((name : Name) (len : ℕ) → IsThereTo old name len → IsThereTo new name len) → (IsTrue tells → new.stores.files ≡ old.stores.files) → (IsTrue tells → Passes (λ a b. b ≡ a) old.stores.past new.stores.past) → LeavesFronts tells old new
only_read tells old new there same passes =
    only_settled tells old new there (λ told n other. ap (λ (f : Files). f n) (same told))
    (λ told. passes_weaker (λ a b. b ≡ a) SameFiles old.stores.past new.stores.past (passes told) (λ a c left is n other. ap (λ (f : Files). f n) is))

-- and the memory is the same
pub fronts_read : (tells : Bool) (old new : SeenAll) → new.stores.catalogue ≡ old.stores.catalogue → new.stores.manifests ≡ old.stores.manifests → new.limbo ≡ old.limbo → (IsTrue tells → new.stores.files ≡ old.stores.files) → (IsTrue tells → Passes (λ a b. b ≡ a) old.stores.past new.stores.past) → LeavesFronts tells old new
fronts_read tells old new rows lists limbo same passes =
    only_read tells old new (λ name len was. subst (λ (s : Seen). IsThereTo (beside s new.limbo) name len) (same_memory old.stores new.stores rows lists) (there_still old mid limbo
    (λ n l h. record { place = h.place; manifest = h.manifest; here = h.here; listed = h.listed; in_doubt = h.in_doubt; rows_in_doubt = h.rows_in_doubt })
    (λ n l r. record { listed = r.no_shorter.listed; in_doubt = r.no_shorter.in_doubt; rows_in_doubt = r.no_shorter.rows_in_doubt }) name len was)) same passes
  where
    mid : SeenAll
    mid = beside (after_disk old.stores (on_disk new.stores) new.stores.faults) new.limbo

-- nothing was done
pub nothing_fronts : (tells : Bool) (all : SeenAll) → LeavesFronts tells all all
nothing_fronts tells all = fronts_read tells all all refl refl refl (λ told. refl) (λ told. passes_none (λ a b. b ≡ a) all.stores.past (λ a left. refl))

-- the settling of a doubt
pub review_fronts : {B : Type 0} (tells : Bool) (old new : SeenAll) (r : Result B DiskErr) → new.limbo ≡ old.limbo → (before : Stores) × (after : Stores) × IsOpen tells old.stores before after → ((x y : Stores) → IsOpen tells old.stores x y → OnOk r (HasEither tells new.stores x y)) → ((x y : Stores) → IsOpen tells old.stores x y → OnErr r (IsOpen tells new.stores x y))
    → (IsTrue tells → SameFiles old.stores.files new.stores.files) → (IsTrue tells → Passes SameFiles old.stores.past new.stores.past) → LeavesFronts tells old new
review_fronts {B} tells old new r limbo begun settled still = only_settled tells old new (go r settled still)
  where
    go : (r : Result B DiskErr) → ((x y : Stores) → IsOpen tells old.stores x y → OnOk r (HasEither tells new.stores x y)) → ((x y : Stores) → IsOpen tells old.stores x y → OnErr r (IsOpen tells new.stores x y)) → (name : Name) (len : ℕ) → IsThereTo old name len → IsThereTo new name len
    go (Ok a) settled still = there_still old new limbo (λ name len h. settled_held tells old.stores new.stores begun.0 begun.1 name len begun.2 settled h) (λ name len r. settled_spares tells old.stores new.stores begun.0 begun.1 name len begun.2 settled r.no_shorter)
    go (Err e) settled still = there_still old new limbo (λ name len h. still_held tells old.stores new.stores begun.0 begun.1 name len begun.2 still h) (λ name len r. still_spares tells old.stores new.stores begun.0 begun.1 name len begun.2 still r.no_shorter)

-- A COMMIT

-- only a journal's files are written
pub commit_fronts : (tells : Bool) (old new : SeenAll) (journal : Name) (R : Files → Files → Type 0) → (IsTrue tells → journal.0 ≡ 0) → ((name : Name) (len : ℕ) → IsThereTo old name len → IsThereTo new name len) → (IsTrue tells → (n : Name) → (IsOwn journal n → ⊥) → new.stores.files n ≡ old.stores.files n)
    → (IsTrue tells → Passes (AtOwn journal R) old.stores.past new.stores.past) → LeavesFronts tells old new
commit_fronts tells old new journal R zero_store there elsewhere passes = record {
  there = there;
  now = λ told. fronts_beside old new journal (zero_store told) (elsewhere told);
  any_moment = λ told store numbered. passes_weaker (AtOwn journal R) (KeepsOf old store) old.stores.past new.stores.past (passes told)
      (λ a c left step name len of was. keeps_if_same len (a name) (c name) (step.elsewhere name (not_own old journal (zero_store told) name len was)));
}

-- A FLUSH

-- files of store 1 are kept with those in limbo beside them, and of the other stores none is written
pub over_fronts : (tells : Bool) (files : List Filed) (batch : List RowSamples) (old new : SeenAll) (end : End ℕ ⊥) → new.limbo ≡ old.limbo → LimboStands old.stores old.limbo → (held : Stores) → Has tells old.stores held → PlacesRise files → EndsFrom tells (flushing_over old.limbo files batch) new.stores held end
    → (m : ManifestState) → slice_get old.stores.manifests 0 ≡ Some m → (back : List Filed) → AreInLimbo old.limbo files held back → (IsTrue tells → LeavesListed (listing_of (with_files (tier 0 held) back)) old.stores.files new.stores.files old.stores.past new.stores.past)
    → (IsTrue tells → Beside 1 m.journal.name old.stores.files new.stores.files) → (IsTrue tells → Passes (Beside 1 m.journal.name) old.stores.past new.stores.past) → LeavesFronts tells old new
over_fronts tells files batch old new end limbo stands held has rise ends m here back in_limbo leaves elsewhere frame = record {
  there = there_still old new limbo (λ name len h. ends_held tells (flushing_over old.limbo files batch) old.stores new.stores held end name len has (λ made by. over_on old.limbo files batch held made by) ends h)
      (λ name len r. ends_spares tells (flushing_over old.limbo files batch) old.stores new.stores held end name len has
      (λ made by spares. over_spares old.limbo files batch held made name len by (is_here tells old.stores old.limbo files held m here stands has rise by.back by.in_limbo name len r.file r.within r.named r.longer spares) spares)
      ends r.no_shorter);
  now = λ told name len was. elim (same_cases name.0 1) [
    | inl own ↦ of_first old.stores.files new.stores.files (leaves told).now name len own was
    | inr apart ↦ of_other told old.stores.files new.stores.files (elsewhere told) name len apart was
  ];
  any_moment = λ told store numbered. elim (same_cases store 1) [
    | inl first ↦ passes_weaker (KeepsListed both) (KeepsOf old store) old.stores.past new.stores.past (leaves told).any_moment (λ a c left step name len of was. of_first a c step name len (of ∙ first) was)
    | inr apart ↦ passes_weaker (Beside 1 m.journal.name) (KeepsOf old store) old.stores.past new.stores.past (frame told) (λ a c left step name len of was. of_other told a c step name len (λ is. apart (sym of ∙ is)) was)
  ];
}
  where
    both : Listing
    both = listing_of (with_files (tier 0 held) back)

    -- another store's file
    of_other : IsTrue tells → (a c : Files) → Beside 1 m.journal.name a c → (name : Name) (len : ℕ) → name.0 ≢ 1 → IsThereTo old name len → Keeps len (a name) (c name)
    of_other told a c step name len apart was = keeps_if_same len (a name) (c name) (step name apart (not_own old m.journal.name (ap (λ (n : Name). n.0) ((has.disk told).each 0 m here).named) name len was))

    -- what store 1 lists or has in limbo is here
    first_here : (name : Name) (len : ℕ) → name.0 ≡ 1 → IsThereTo old name len → IsHere held back name len
    first_here name len own (inr r) = is_here tells old.stores old.limbo files held m here stands has rise back in_limbo name len r.file r.within r.named r.longer (known_spares old.stores held name len has.known r.no_shorter) own
    first_here name len own (inl h) =
        let number = name_listed old.stores name len h in
        let is : h.place ≡ 0 = omega (arith, own, number) in
        let known : IsKnownAt m (tier 0 held) = has.known.each 0 m here in
        let e = h.listed.entry in
        let listed : Contains m.entries e = subst (λ (x : ManifestState). Contains x.entries e) (one_manifest old.stores.manifests 0 h.place m h.manifest is here h.here) h.listed.within in
        let f = contains_map held.short e (subst (λ (es : List Entry). Contains es e) known.entries listed) in
        let named : file_of (1, held.rows) e ≡ name = ap (λ (r : List Row). file_of (1, r) e) (sym has.known.rows) ∙ (ap (λ (k : ℕ). file_of (k + 1, old.stores.catalogue.rows) e) (sym is) ∙ h.listed.named) in
        let longer = h.listed.longer in
        let len_is = ap (λ (x : Entry). x.len) f.2 in
        record { file = f.0; within = listed_stays held.short back f.0 known.valid.apart in_limbo.unlisted f.1; named = ap (λ (x : Entry). file_of (1, held.rows) x) f.2 ∙ named; longer = omega (arith, longer, len_is) }

    -- it begins as it did
    of_first : (a c : Files) → KeepsListed both a c → (name : Name) (len : ℕ) → name.0 ≡ 1 → IsThereTo old name len → Keeps len (a name) (c name)
    of_first a c keeps name len own was front some within begins =
        let h = first_here name len own was in
        let f = h.file in
        let kept = All-contains (λ (e : Entry). Keeps e.len (a (file_of (1, held.rows) e)) (c (file_of (1, held.rows) e))) (map entry_of (put_all held.short back)) f.entry keeps (contains_entry (put_all held.short back) f h.within) in
        let longer = h.longer in
        subst (λ (n : Name). Begins front (c n)) h.named (kept front some (omega (arith, within, longer)) (subst (λ (n : Name). Begins front (a n)) (sym h.named) begins))

-- FILES IN LIMBO

-- where files of the store at a place are
abbrev pub name_at : ℕ → List Row → Filed → Name
name_at i rows f = file_of (i + 1, rows) f.entry

-- some of these files
module _ (i : ℕ) (rows : List Row) (all left : List Filed) (stands : Bool) (within : (k : ℕ) (d : Filed) → k < length left → Contains all (get_or left k d)) where
  pub filed_fewer : (g : Granularity) → AreFiled g (store_of i rows all stands) → AreFiled g (store_of i rows left stands)
  filed_fewer g was = record {
    numbered = was.numbered;
    listed = λ k d lt. All-contains (IsListed g rows) all (get_or left k d) was.listed (within k d lt);
    filed = λ is k d lt. All-contains (IsFiled g rows) all (get_or left k d) (was.filed is) (within k d lt);
  }

  pub safe_fewer : (disk : DiskShown) → AreSafe (store_of i rows all stands) disk → AreSafe (store_of i rows left stands) disk
  safe_fewer disk was = record {
    long = λ k d lt. All-contains (λ (f : Filed). HasFile disk.files (name_at i rows f) (λ b. f.entry.len ≤ length b)) all (get_or left k d) was.long (within k d lt);
    unopened = λ k d lt. All-contains (λ (f : Filed). disk.opened (name_at i rows f) ≤ f.entry.len) all (get_or left k d) was.unopened (within k d lt);
    left = λ image leaves is k d lt. All-contains (IsIn (i + 1, rows) image) all (get_or left k d) (was.left image leaves is) (within k d lt);
  }

-- FILES THAT STAY

module _ (i : ℕ) (low : i < 3) (tells : Bool) (old new : SeenAll) (three : length old.stores.manifests ≡ 3) (keeps : KeepsRows old.stores.catalogue.rows new.stores.catalogue.rows) (same_g : granularities new.stores.manifests ≡ granularities old.stores.manifests) (Spared : Name → Type 0)
    (files : IsTrue tells → (n : Name) → Spared n → new.stores.files n ≡ old.stores.files n) (passes : IsTrue tells → Passes (λ a b. (n : Name) → Spared n → b n ≡ a n) old.stores.past new.stores.past) (stands : Bool) where
  -- files of which the names are spared are as safe as before
  pub spared_whole : (left : List Filed) → All (IsAmong i new.stores left) new.limbo → All (λ (f : Filed). IsOfLimbo i new.limbo f.entry) left → PlacesRise left
      → ((m : ManifestState) → slice_get old.stores.manifests i ≡ Some m → AreFiled m.granularity (store_with i old.stores stands left)) → (IsTrue tells → AreSafe (store_with i old.stores stands left) (on_disk old.stores))
      → All (λ (f : Filed). Spared (name_at i old.stores.catalogue.rows f)) left → (IsTrue tells → All (λ (f : Filed). new.stores.opened (name_at i old.stores.catalogue.rows f) ≤ f.entry.len) left) → AreWhole i tells new.stores new.limbo stands left
  spared_whole left each from rise filed safe spared opened = record {
    each = each;
    from = from;
    rise = rise;
    filed = λ m here.
        let is = manifest_of old.stores.manifests i m.granularity (ap (λ (gs : List Granularity). slice_get gs i) (sym same_g) ∙ granularity_at new.stores.manifests i m here) in
        subst (λ (g : Granularity). AreFiled g (store_with i new.stores stands left)) is.2 (filed_still is.0.granularity t new.stores.catalogue.rows keeps (filed is.0 is.1));
    safe = λ told.
        let own = manifest_at old.stores.manifests i (omega (arith, three, low)) in
        safe_grows own.0.granularity t new.stores.catalogue.rows (on_disk new.stores) keeps (filed own.0 own.1) (still told);
  }
    where
      t : Held
      t = store_with i old.stores stands left

      in_still : (a c : Files) → ((n : Name) → Spared n → c n ≡ a n) → AreIn t a → AreIn t c
      in_still a c step was stand k d lt =
          let f : Filed = get_or left k d in
          subst (Begins (bytes_of f)) (sym (step (name_at i old.stores.catalogue.rows f) (spared k d lt))) (was stand k d lt)

      still : IsTrue tells → AreSafe t (on_disk new.stores)
      still told = record {
        long = λ k d lt.
            let was = (safe told).long k d lt in
            record { bytes = was.bytes; file = files told (name_at i old.stores.catalogue.rows (get_or left k d)) (spared k d lt) ∙ was.file; holds = was.holds };
        unopened = opened told;
        left = λ image leaves.
            let come = (passes told).each new.stores.past.now image (passes told).later (omega arith) leaves in
            in_still come.0 image come.2 ((safe told).left come.0 come.1);
      }

  -- WHICH FILES STAY

  -- a file of the store in limbo is of this row and partition
  abbrev is_limbo_at : Filed → Retired → Bool
  is_limbo_at f r = nat_eq r.name.0 (i + 1) && is_place (place r.entry) (filed_at f)

  abbrev is_left : Filed → Bool
  is_left f = list_any (is_limbo_at f) new.limbo

  limbo_at_is : (f : Filed) (r : Retired) → is_limbo_at f r ≡ true → (r.name.0 ≡ i + 1) × (is_place (place r.entry) (filed_at f) ≡ true)
  limbo_at_is f r is = go (nat_eq r.name.0 (i + 1)) refl is
    where
      go : (b : Bool) → nat_eq r.name.0 (i + 1) ≡ b → (b && is_place (place r.entry) (filed_at f)) ≡ true → (r.name.0 ≡ i + 1) × (is_place (place r.entry) (filed_at f) ≡ true)
      go true eq both = ((Decides-eqb r.name.0 (i + 1)).0 eq, both)
      go false eq both = absurd (cc (both))

  limbo_at : (f : Filed) (r : Retired) → r.name.0 ≡ i + 1 → place r.entry ≡ filed_at f → is_limbo_at f r ≡ true
  limbo_at f r number same = go (nat_eq r.name.0 (i + 1)) ((Decides-eqb r.name.0 (i + 1)).1 number)
    where
      go : (b : Bool) → b ≡ true → (b && is_place (place r.entry) (filed_at f)) ≡ true
      go true is = ap (is_place (place r.entry)) (sym same) ∙ is_place-same (place r.entry)
      go false is = absurd (cc (is))

  module _ (all : List Filed) (rise : PlacesRise all) (filed : (m : ManifestState) → slice_get old.stores.manifests i ≡ Some m → AreFiled m.granularity (store_with i old.stores stands all)) (safe : IsTrue tells → AreSafe (store_with i old.stores stands all) (on_disk old.stores))
      (each : (r : Retired) → Contains new.limbo r → r.name.0 ≡ i + 1 → Contains (map entry_of all) r.entry) (spared : (f : Filed) → Contains all f → IsOfLimbo i new.limbo f.entry → Spared (name_at i old.stores.catalogue.rows f)) (fewer : IsTrue tells → (f : Filed) → Contains all f → new.stores.opened (name_at i old.stores.catalogue.rows f) ≤ old.stores.opened (name_at i old.stores.catalogue.rows f)) where
    abbrev pub left_of : List Filed
    left_of = filter is_left all

    within : (k : ℕ) (d : Filed) → k < length left_of → Contains all (get_or left_of k d)
    within k d lt = from_filter is_left all (get_or left_of k d) (Contains-get_or left_of k d lt)

    -- each that stays is that of a file in limbo
    of_limbo : (k : ℕ) (d : Filed) → k < length left_of → IsOfLimbo i new.limbo (get_or left_of k d).entry
    of_limbo k d lt =
        let f : Filed = get_or left_of k d in
        let found = Any-from_list_any (is_limbo_at f) new.limbo (filter_passes is_left all k d lt) in
        let r : Retired = found.1 in
        let r_in : Contains new.limbo r = (found.0, found.2, found.3) in
        let is = limbo_at_is f r found.4 in
        let u = contains_map all r.entry (each r r_in is.0) in
        let at : filed_at u.0 ≡ filed_at f = ap (λ (e : Entry). place e) u.2 ∙ is_place-true (place r.entry) (filed_at f) is.1 in
        let one : u.0 ≡ f = one_of_place all f u.0 rise (within k d lt) u.1 at in
        record { file = r; within = r_in; store = is.0; is = sym u.2 ∙ ap (λ (x : Filed). x.entry) one }

    among : All (IsAmong i new.stores left_of) new.limbo
    among k d lt number =
        let r : Retired = get_or new.limbo k d in
        let r_in = Contains-get_or new.limbo k d lt in
        let u = contains_map all r.entry (each r r_in number) in
        let test : is_left u.0 ≡ true = list_any-from_Any (is_limbo_at u.0) new.limbo (r_in.0, r, r_in.1, r_in.2, limbo_at u.0 r number (ap (λ (e : Entry). place e) (sym u.2))) in
        inr (subst (Contains (map entry_of left_of)) u.2 (contains_entry left_of u.0 (contains_filter is_left all u.0 u.1 test)))

    -- those of the files stay that are in limbo then
    pub left_whole : AreWhole i tells new.stores new.limbo stands left_of
    left_whole = spared_whole left_of among of_limbo (rise_filter is_left all rise)
        (λ m here. filed_fewer i old.stores.catalogue.rows all left_of stands within m.granularity (filed m here))
        (λ told. safe_fewer i old.stores.catalogue.rows all left_of stands within (on_disk old.stores) (safe told))
        (λ k d lt. spared (get_or left_of k d) (within k d lt) (of_limbo k d lt))
        (λ told k d lt.
        let f : Filed = get_or left_of k d in
        let was = All-contains (λ (x : Filed). old.stores.opened (name_at i old.stores.catalogue.rows x) ≤ x.entry.len) all f (safe told).unopened (within k d lt) in
        let less = fewer told f (within k d lt) in
        omega (arith, was, less))

-- CALLS THAT LEAVE LIMBO

-- a call that leaves limbo and the names of its files, and of which each listed file is listed still
names_whole : (tells : Bool) (old new : SeenAll) → length old.stores.manifests ≡ 3 → new.limbo ≡ old.limbo → ((name : Name) → IsHeldTo old.stores name 0 → IsHeldTo new.stores name 0) → KeepsRows old.stores.catalogue.rows new.stores.catalogue.rows → granularities new.stores.manifests ≡ granularities old.stores.manifests
    → (i : ℕ) (stands : Bool) (files : List Filed) → i < 3 → LeavesNames (names_of (i + 1, old.stores.catalogue.rows) files) tells old new → AreWhole i tells old.stores old.limbo stands files → AreWhole i tells new.stores new.limbo stands files
names_whole tells old new three limbo held keeps same_g i stands files low leaves whole =
    spared_whole i low tells old new three keeps same_g (Contains (names_of (i + 1, old.stores.catalogue.rows) files)) leaves.files leaves.any_moment stands files
    (subst (λ (l : List Retired). All (IsAmong i new.stores files) l) (sym limbo) (λ k d lt number. elim (whole.each k d lt number) [
      | inl h ↦ inl (held (get_or old.limbo k d).name h)
      | inr there ↦ inr there
    ]))
    (subst (λ (l : List Retired). All (λ (f : Filed). IsOfLimbo i l f.entry) files) (sym limbo) whole.from) whole.rise whole.filed whole.safe named
    (λ told k d lt.
    let f : Filed = get_or files k d in
    let was = (whole.safe told).unopened k d lt in
    let less = leaves.fewer told (name_at i old.stores.catalogue.rows f) (named k d lt) in
    omega (arith, was, less))
  where
    named : All (λ (f : Filed). Contains (names_of (i + 1, old.stores.catalogue.rows) files) (name_at i old.stores.catalogue.rows f)) files
    named k d lt = name_in (i + 1, old.stores.catalogue.rows) files (get_or files k d) (Contains-get_or files k d lt)

-- a call that leaves all files
pub call_whole : (tells : Bool) (old new : SeenAll) → length old.stores.manifests ≡ 3 → new.limbo ≡ old.limbo → ((name : Name) → IsHeldTo old.stores name 0 → IsHeldTo new.stores name 0) → KeepsRows old.stores.catalogue.rows new.stores.catalogue.rows → granularities new.stores.manifests ≡ granularities old.stores.manifests
    → LeavesFiles tells old new → KeepsWhole tells old new
call_whole tells old new three limbo held keeps same_g leaves i stands files low whole = (
  files,
  names_whole tells old new three limbo held keeps same_g i stands files low (leaves (names_of (i + 1, old.stores.catalogue.rows) files) (All-map (λ (n : Name). 1 ≤ n.0) (name_at i old.stores.catalogue.rows) files (λ k d lt. omega arith))) whole,
)

-- a call that leaves the files of stores 2 and 3, and of store 1 does what is said
pub first_whole : (tells : Bool) (old new : SeenAll) → length old.stores.manifests ≡ 3 → new.limbo ≡ old.limbo → ((name : Name) → IsHeldTo old.stores name 0 → IsHeldTo new.stores name 0) → KeepsRows old.stores.catalogue.rows new.stores.catalogue.rows → granularities new.stores.manifests ≡ granularities old.stores.manifests
    → LeavesLater tells old new → ((stands : Bool) (files : List Filed) → AreWhole 0 tells old.stores old.limbo stands files → (left : List Filed) × AreWhole 0 tells new.stores new.limbo stands left) → KeepsWhole tells old new
first_whole tells old new three limbo held keeps same_g leaves first zero stands files low whole = first stands files whole
first_whole tells old new three limbo held keeps same_g leaves first (suc i) stands files low whole = (
  files,
  names_whole tells old new three limbo held keeps same_g (suc i) stands files low (leaves (names_of (suc i + 1, old.stores.catalogue.rows) files) (later_names (suc i) (suc i + 1, old.stores.catalogue.rows) files refl (omega arith))) whole,
)

-- one call after another
pub whole_then : (tells : Bool) (old mid new : SeenAll) → KeepsWhole tells old mid → KeepsWhole tells mid new → KeepsWhole tells old new
whole_then tells old mid new first second i stands files low whole = let then = first i stands files low whole in second i stands then.0 low then.1

-- the disk was only read, and the memory is the same
pub same_whole : (tells : Bool) (old new : SeenAll) → length old.stores.manifests ≡ 3 → new.stores.catalogue ≡ old.stores.catalogue → new.stores.manifests ≡ old.stores.manifests → new.limbo ≡ old.limbo → (IsTrue tells → new.stores.files ≡ old.stores.files) → (IsTrue tells → new.stores.opened ≡ old.stores.opened)
    → (IsTrue tells → Passes (λ a b. b ≡ a) old.stores.past new.stores.past) → KeepsWhole tells old new
same_whole tells old new three rows lists limbo files opened passes =
    subst (λ (s : Seen). KeepsWhole tells old (beside s new.limbo)) (same_memory old.stores new.stores rows lists)
    (call_whole tells old mid three limbo (λ name h. record { place = h.place; manifest = h.manifest; here = h.here; listed = h.listed; in_doubt = h.in_doubt; rows_in_doubt = h.rows_in_doubt }) (keeps_same old.stores.catalogue.rows) refl (λ names later. read_names names tells old mid limbo files opened passes))
  where
    mid : SeenAll
    mid = beside (after_disk old.stores (on_disk new.stores) new.stores.faults) new.limbo

-- CALLS THAT TAKE FILES FROM LIMBO

held_listed : (at : Seen) (name : Name) → IsHeldTo at name 0 → IsListedName at name
held_listed at name h = record { place = h.place; manifest = h.manifest; here = h.here; entry = h.listed.entry; within = h.listed.within; named = h.listed.named }

-- files that are listed leave limbo, and then those that aren't needed, of which some are removed
pub swept_whole : (tells : Bool) (old new : SeenAll) (pins : FinMap nat_cmp PinOf) (copied : List Name) (retired : List Retired) → LimboStands old.stores old.limbo → StayUnlisted old.stores old.limbo retired → ((r : Retired) → Contains new.limbo r → Contains retired r × IsNeeded pins copied r.name) → length old.stores.manifests ≡ 3
    → KeepsRows old.stores.catalogue.rows new.stores.catalogue.rows → granularities new.stores.manifests ≡ granularities old.stores.manifests → (IsTrue tells → Removes pins copied retired (on_disk old.stores) (on_disk new.stores)) → KeepsWhole tells old new
swept_whole tells old new pins copied retired stand unlisted needed three keeps same_g removes i stands files low whole = (
  _,
  left_whole i low tells old new three keeps same_g (λ n. (r : Retired) → Contains retired r → r.name ≡ n → IsNeeded pins copied n) (λ told n spared. (removes told).spares n spared) (λ told. (removes told).any_moment) stands files whole.rise whole.filed whole.safe
      (λ r there number. elim (All-contains (IsAmong i old.stores files) old.limbo r whole.each (was r there).0 number) [
        | inl h ↦ absurd ((was r there).1 (held_listed old.stores r.name h))
        | inr within ↦ within
      ])
      (λ f within of r there is.
      let name : name_at i old.stores.catalogue.rows f ≡ of.file.name = ap (λ (e : Entry). file_of (i + 1, old.stores.catalogue.rows) e) (sym of.is) ∙ limbo_name i old.stores old.limbo stand of.file (was of.file of.within).0 of.store in
      subst (IsNeeded pins copied) (sym name) (needed of.file of.within).1)
      (λ told f within. (removes told).fewer (name_at i old.stores.catalogue.rows f)),
)
  where
    was : (r : Retired) → Contains new.limbo r → Contains old.limbo r × (IsListedName old.stores r.name → ⊥)
    was r there = stay_from (λ x. IsListedName old.stores x.name → ⊥) (λ x. IsListedName old.stores x.name) old.limbo retired r unlisted (needed r there).0

-- files that are listed leave limbo, and the disk is as it was
pub unlisted_whole : (tells : Bool) (at : Seen) (limbo kept : List Retired) → LimboStands at limbo → StayUnlisted at limbo kept → length at.manifests ≡ 3 → KeepsWhole tells (beside at limbo) (beside at kept)
unlisted_whole tells at limbo kept stand unlisted three i stands files low whole = (
  _,
  left_whole i low tells (beside at limbo) (beside at kept) three (keeps_same at.catalogue.rows) refl (λ n. Unit {0}) (λ told n spared. refl) (λ told. passes_none (λ a b. (n : Name) → Unit {0} → b n ≡ a n) at.past (λ a left n spared. refl)) stands files whole.rise whole.filed whole.safe
      (λ r there number.
      let was = stay_from (λ x. IsListedName at x.name → ⊥) (λ x. IsListedName at x.name) limbo kept r unlisted there in
      elim (All-contains (IsAmong i at files) limbo r whole.each was.0 number) [
        | inl h ↦ absurd (was.1 (held_listed at r.name h))
        | inr within ↦ within
      ])
      (λ f within of. tt)
      (λ told f within. omega arith),
)

-- A RETIREMENT

-- files that leave a list have come to limbo, and their list may have dropped them
module _ (tells : Bool) (i row n : ℕ) (old new : SeenAll) (m : ManifestState) (here : slice_get old.stores.manifests i ≡ Some m) (held : Stores) (has : Has tells old.stores held) (kept leaving : List Retired) (stand : LimboStands old.stores old.limbo) (unlisted : StayUnlisted old.stores old.limbo kept)
    (are : leaving ≡ map (retired_of (i + 1, old.stores.catalogue.rows)) (oldest_entries row n m.entries)) (limbo : new.limbo ≡ kept ++ leaving) (keeps : KeepsRows old.stores.catalogue.rows new.stores.catalogue.rows) (same_g : granularities new.stores.manifests ≡ granularities old.stores.manifests) (between : List Retired) (leaves : LeavesFiles tells (beside old.stores between) new)
    (j : ℕ) (low : j < 3) (were : List Filed) (whole : AreWhole j tells old.stores old.limbo held.stands were) where
  abbrev own_manifest : (x : ManifestState) × (slice_get old.stores.manifests j ≡ Some x)
  own_manifest = manifest_at old.stores.manifests j (let three = has.known.three in omega (arith, three, low))

  abbrev list : List Filed
  list = list_at j held

  -- those of limbo that aren't listed
  abbrev free : List Filed
  free = free_of list were

  abbrev all : List Filed
  all = put_all list free

  was_in : (k : ℕ) (d : Filed) → k < length free → Contains were (get_or free k d)
  was_in k d lt = from_filter (is_free list) were (get_or free k d) (Contains-get_or free k d lt)

  filed_all : (x : ManifestState) → slice_get old.stores.manifests j ≡ Some x → AreFiled x.granularity (store_of j held.rows all held.stands)
  filed_all x there =
      let known = has.known.each j x there in
      let own : AreFiled x.granularity (store_of j held.rows were held.stands) = subst (λ (rows : List Row). AreFiled x.granularity (store_of j rows were held.stands)) has.known.rows (whole.filed x there) in
      let others = filed_fewer j held.rows were free held.stands was_in x.granularity own in
      record {
        numbered = omega arith;
        listed = all_put_all (IsListed x.granularity held.rows) list free known.valid.filed.listed others.listed;
        filed = λ is. all_put_all (IsFiled x.granularity held.rows) list free (known.valid.filed.filed is) (others.filed is);
      }

  safe_all : IsTrue tells → AreSafe (store_of j held.rows all held.stands) (on_disk old.stores)
  safe_all told =
      let own : AreSafe (store_of j held.rows were held.stands) (on_disk old.stores) = subst (λ (rows : List Row). AreSafe (store_of j rows were held.stands) (on_disk old.stores)) has.known.rows (whole.safe told) in
      safe_both (tier j held) free (on_disk old.stores) ((has.disk told).each j own_manifest.0 own_manifest.1).safe (safe_fewer j held.rows were free held.stands was_in (on_disk old.stores) own)

  none_listed : All (λ (f : Filed). file_at (filed_at f) list ≡ None) free
  none_listed k d lt = none_is (file_at (filed_at (get_or free k d)) list) (filter_passes (is_free list) were k d lt)

  -- one that was in limbo and isn't listed is among those files
  from_kept : (r : Retired) → Contains kept r → r.name.0 ≡ j + 1 → Contains (map entry_of all) r.entry
  from_kept r there number =
      let was = stay_from (λ x. IsListedName old.stores x.name → ⊥) (λ x. IsListedName old.stores x.name) old.limbo kept r unlisted there in
      elim (All-contains (IsAmong j old.stores were) old.limbo r whole.each was.0 number) [
        | inl h ↦ absurd (was.1 (held_listed old.stores r.name h))
        | inr within ↦ elim (listed_at list (place r.entry)) [
          | inl none ↦
              let u = contains_map were r.entry within in
              let is : is_free list u.0 ≡ true = ap (λ (e : Entry). is_nothing (file_at (place e) list)) u.2 ∙ ap is_nothing none in
              let in_all = put_all_new free list u.0 (rise_filter (is_free list) were whole.rise) (contains_filter (is_free list) were u.0 u.1 is) in
              subst (Contains (map entry_of all)) u.2 (contains_entry all u.0 in_all)
          | inr (h, in_list, same, found_is) ↦
              let name = place_named j tells old.stores old.limbo held own_manifest.0 own_manifest.1 stand has r was.0 number h in_list same in
              absurd (was.1 (subst (IsListedName old.stores) name (listed_name old.stores held j own_manifest.0 h has.known own_manifest.1 in_list)))
        ]
      ]

  -- so is one that leaves the list of that store
  from_leaving : (r : Retired) → Contains leaving r → r.name.0 ≡ j + 1 → Contains (map entry_of all) r.entry
  from_leaving r there number =
      let f = part_of tells i row n old.stores m here held has r (subst (λ (l : List Retired). Contains l r) are there) in
      let store : i + 1 ≡ r.name.0 = ap (λ (x : Retired). x.name.0) f.2 in
      let same_place : i ≡ j = omega (arith, store, number) in
      let in_list : Contains list f.0 = subst (λ (k : ℕ). Contains (list_at k held) f.0) same_place (from_oldest i row n held f.0 f.1) in
      let in_all = listed_stays list free f.0 (has.known.each j own_manifest.0 own_manifest.1).valid.apart none_listed in_list in
      subst (Contains (map entry_of all)) (ap (λ (x : Retired). x.entry) f.2) (contains_entry all f.0 in_all)

  abbrev names : List Name
  names = names_of (j + 1, old.stores.catalogue.rows) all

  own_names : All (λ (x : Name). 1 ≤ x.0) names
  own_names = All-map (λ (x : Name). 1 ≤ x.0) (name_at j old.stores.catalogue.rows) all (λ k d lt. omega arith)

  pub handed_whole : (left : List Filed) × AreWhole j tells new.stores new.limbo held.stands left
  handed_whole = (
    _,
    left_whole j low tells old new has.known.three keeps same_g (Contains names) (leaves names own_names).files (leaves names own_names).any_moment held.stands all
        (rise_put_all list free (has.known.each j own_manifest.0 own_manifest.1).valid.apart)
        (λ x there. subst (λ (rows : List Row). AreFiled x.granularity (store_of j rows all held.stands)) (sym has.known.rows) (filed_all x there))
        (λ told. subst (λ (rows : List Row). AreSafe (store_of j rows all held.stands) (on_disk old.stores)) (sym has.known.rows) (safe_all told))
        (λ r there number. elim (Contains-append_cases kept leaving r (subst (λ (l : List Retired). Contains l r) limbo there)) [
          | inl was ↦ from_kept r was number
          | inr leaves_it ↦ from_leaving r leaves_it number
        ])
        (λ f within of. name_in (j + 1, old.stores.catalogue.rows) all f within)
        (λ told f within. (leaves names own_names).fewer told (name_at j old.stores.catalogue.rows f) (name_in (j + 1, old.stores.catalogue.rows) all f within)),
  )

-- EACH KIND OF CALL

-- what begins as it did is shown still
pub framed : (tells : Bool) (old new : SeenAll) → LeavesFronts tells old new → LeavesLater tells old new → KeepsWhole tells old new → Frame tells old new
framed tells old new fronts leaves whole = record { shown = fronts_shown tells old new fronts; fronts = fronts; leaves = leaves; whole = whole }

-- nothing was done
pub frame_same : (tells : Bool) (all : SeenAll) → Frame tells all all
frame_same tells all = framed tells all all (nothing_fronts tells all) (nothing_leaves tells all) (λ i stands files low whole. (files, whole))

-- the disk was only read, and the memory is the same
pub read_frame : (tells : Bool) (old new : SeenAll) → length old.stores.manifests ≡ 3 → new.stores.catalogue ≡ old.stores.catalogue → new.stores.manifests ≡ old.stores.manifests → new.limbo ≡ old.limbo → (IsTrue tells → new.stores.files ≡ old.stores.files)
    → (IsTrue tells → new.stores.opened ≡ old.stores.opened) → (IsTrue tells → Passes (λ a b. b ≡ a) old.stores.past new.stores.past) → Frame tells old new
read_frame tells old new three rows lists limbo files opened passes =
    framed tells old new (fronts_read tells old new rows lists limbo files passes) (read_leaves tells old new limbo files opened passes) (same_whole tells old new three rows lists limbo files opened passes)

-- A COMMIT OF ONE JOURNAL

-- a call by which the stores go on, and which writes no files but those of one journal
module _ {A E : Type 0} (tells : Bool) (call : StoreCall A E) (old new : SeenAll) (end : End A E) (limbo : new.limbo ≡ old.limbo) (held : Stores) (has : Has tells old.stores held) (ends : EndsFrom tells call new.stores held end)
    (goes : (made : Stores) → call.by held made → GoesOn held made) (spares : (made : Stores) → call.by held made → (name : Name) (len : ℕ) → IsRetiredTo old name len → Spares held name len → Spares made name len) where
  listed_still : (name : Name) (len : ℕ) → IsHeldTo old.stores name len → IsHeldTo new.stores name len
  listed_still name len h = ends_held tells call old.stores new.stores held end name len has goes ends h

  there_ended : (name : Name) (len : ℕ) → IsThereTo old name len → IsThereTo new name len
  there_ended = there_still old new limbo listed_still (λ name len r. ends_spares tells call old.stores new.stores held end name len has (λ made by. spares made by name len r) ends r.no_shorter)

  pub commit_frame : (journal : Name) (R : Files → Files → Type 0) → KeepsRows old.stores.catalogue.rows new.stores.catalogue.rows → granularities new.stores.manifests ≡ granularities old.stores.manifests → (IsTrue tells → journal.0 ≡ 0)
      → (IsTrue tells → (n : Name) → (IsOwn journal n → ⊥) → new.stores.files n ≡ old.stores.files n) → (IsTrue tells → (n : Name) → new.stores.opened n ≤ old.stores.opened n) → (IsTrue tells → Passes (AtOwn journal R) old.stores.past new.stores.past) → Frame tells old new
  commit_frame journal R keeps same_g zero_store elsewhere fewer passes =
      framed tells old new (commit_fronts tells old new journal R zero_store there_ended elsewhere passes) (commit_leaves tells old new journal R limbo zero_store elsewhere fewer passes)
      (call_whole tells old new has.known.three limbo (λ name h. listed_still name 0 h) keeps same_g (commit_leaves_files tells old new journal R limbo zero_store elsewhere fewer passes))

-- the rows go on, and only the catalogue's files are written
pub rows_frame : {A E : Type 0} (tells : Bool) (call : StoreCall A E) (old new : SeenAll) (end : End A E) (R : Files → Files → Type 0) → new.limbo ≡ old.limbo → (held : Stores) × Has tells old.stores held → ((held made : Stores) → call.by held made → (made ≡ with_rows held made.rows) × KeepsRows held.rows made.rows) → Changes tells call old.stores new.stores end
    → (IsTrue tells → (n : Name) → (IsOwn old.stores.catalogue.journal.name n → ⊥) → new.stores.files n ≡ old.stores.files n) → (IsTrue tells → new.stores.opened ≡ old.stores.opened) → (IsTrue tells → Passes (AtOwn old.stores.catalogue.journal.name R) old.stores.past new.stores.past) → Frame tells old new
rows_frame {A} {E} tells call old new end R limbo has goes change elsewhere opened passes =
    commit_frame tells call old new end limbo has.0 has.1 (change.ends has.0 has.1) (λ made by. inr (goes has.0 made by))
    (λ made by name len r spares. let on = goes has.0 made by in subst (λ (s : Stores). Spares s name len) (sym on.0) (grown_spares old.stores has.0 made.rows name len has.1.known on.1 spares))
    old.stores.catalogue.journal.name R (rows_keep tells call old.stores new.stores end has goes change) change.costs.granularity (λ told. ap (λ (n : Name). n.0) (has.1.disk told).rows.named) elsewhere (λ told. none_further old.stores.opened new.stores.opened (opened told)) passes

-- and then no file is a stray that was none
pub rows_tidy : {A B E : Type 0} (tells : Bool) (call : StoreCall A E) (old new : SeenAll) (end_by : Result A B → End A E) (r : Result A B) → ((a : A) → end_by (Ok a) ≡ Done a) → (held : Stores) × Has tells old.stores held → Changes tells call old.stores new.stores (end_by r) → Frame tells old new
    → (IsTrue tells → (n : Name) → (IsOwn old.stores.catalogue.journal.name n → ⊥) → new.stores.files n ≡ old.stores.files n) → OnOk r (LeavesTidy tells old new)
rows_tidy {A} {B} {E} tells call old new end_by r done has change frame elsewhere =
    ok_both r _ _ (ok_settled tells call new.stores has.0 end_by r done (change.ends has.0 has.1)) (ok_always r _
    (fronts_strays tells old new has.1.settled (λ n was. frame.fronts.there n 0 was) (λ told n own unlisted. elsewhere told n (file_apart old.stores.catalogue.journal.name n (ap (λ (x : Name). x.0) (has.1.disk told).rows.named) own))))

-- A FLUSH

-- store 1 has the batch too, and of the other stores none is written
module _ (tells : Bool) (files : List Filed) (batch : List RowSamples) (old new : SeenAll) (end : End ℕ ⊥) (limbo : new.limbo ≡ old.limbo) (catalogue : new.stores.catalogue ≡ old.stores.catalogue) (stands : LimboStands old.stores old.limbo)
    (held : Stores) (has : Has tells old.stores held) (whole : AreWhole 0 tells old.stores old.limbo held.stands files) (ends : EndsFrom tells (flushing_over old.limbo files batch) new.stores held end) (m : ManifestState) (here : slice_get old.stores.manifests 0 ≡ Some m)
    (entries : List Entry) (listed : AreUnlistedIn old.stores.manifests 1 old.limbo entries) (writes : List FileWrite) (count : ℕ) (revives : ToRevive tells old.stores m old.limbo entries files batch writes count held) where
  pub flush_frame : granularities new.stores.manifests ≡ granularities old.stores.manifests → (IsTrue tells → LeavesListed (listing_of (with_files (tier 0 held) revives.by.back)) old.stores.files new.stores.files old.stores.past new.stores.past) → (IsTrue tells → AreLong (with_files (tier 0 held) revives.by.back) new.stores.files)
      → (IsTrue tells → Beside 1 m.journal.name old.stores.files new.stores.files) → (IsTrue tells → (n : Name) → new.stores.opened n ≤ old.stores.opened n) → (IsTrue tells → Passes (Beside 1 m.journal.name) old.stores.past new.stores.past) → Frame tells old new
  flush_frame same_g leaves long elsewhere fewer passes =
      let later = first_leaves tells old new m.journal.name limbo (λ told. ap (λ (n : Name). n.0) ((has.disk told).each 0 m here).named) elsewhere fewer passes in
      framed tells old new (over_fronts tells files batch old new end limbo stands held has whole.rise ends m here revives.by.back revives.by.in_limbo leaves elsewhere passes) later
      (first_whole tells old new has.known.three limbo
      (λ name h. ends_held tells (flushing_over old.limbo files batch) old.stores new.stores held end name 0 has (λ made by. over_on old.limbo files batch held made by) ends h)
      (subst (λ (c : CatalogueState). KeepsRows old.stores.catalogue.rows c.rows) (sym catalogue) (keeps_same old.stores.catalogue.rows)) same_g later
      (λ stand were was. (_, whole_left tells files batch old new end limbo catalogue same_g stands held has ends m here entries listed revives.by.back revives.are revives.in_limbo leaves long fewer stand were was)))
