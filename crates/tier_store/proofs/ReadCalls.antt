-- Calls that only read: files are opened and read, or it is asked which are there. What stands beside the stores stays so: running moves, and limbo.
use Rattle.std.proofs.Common.{◌≡◌, ◌≢◌, inl, inr, Bool, true, false, cond, nat_eq, ℕ, ◌≤◌, ◌<◌, ◌+◌, max, List, [], length, map, take, get_or, Some, None, Ok, Err, refl, sym, ◌∙◌, ap, subst, arith, ◌⊎◌, not, ◌&&◌, filter}
use Rattle.std.specs.Prelude.{IsTrue, Option, Result, slice_get, IfOk, All, Contains}
use Rattle.std.specs.FinMap.{FinMap, get, get-empty, get-remove, empty, remove}
use Rattle.std.specs.Ordering.{nat_cmp, eq_by_cmp}
use Rattle.std.proofs.lemmas.Cmp.{nat_cmp_total}
use Rattle.std.proofs.lemmas.List.{length-map, get_or-map}
use Rattle.std.proofs.lemmas.Option.{same_Some, slice_get-get_or}
use Rattle.disk_model.specs.Files.{Name, Files, HasFile, Rose}
use Rattle.disk_model.specs.Past.{Passes}
use Rattle.partition_names.specs.declared.granularity.Granularity.{Granularity}
use Rattle.pv_catalog.specs.Catalogue.{CatalogueState, catalogue_name}
use Rattle.pins.specs.declared.table.PinErr.{PinErr}
use Rattle.pins.specs.declared.table.PinErr.TheVariants.{NotYours}
use Rattle.pins.specs.Pieces.{PinOf, asked}
use Rattle.pins.specs.declared.piece.PinnedFile.{PinnedFile}
use Rattle.store_manifest.specs.Manifest.{ManifestState, manifest_name}
use Rattle.store_manifest.specs.declared.entry.Entry.{Entry}
use Rattle.durable_write.specs.Held.{entry_of, file_of, shelf_of, Filed, Listing, IsListed, IsListedTo, filed_at}
use Rattle.durable_write.specs.Stored.{AreHeld, AreSafe, AreUnopened, KeysDiffer}
use Rattle.durable_write.proofs.Staying.{catalogue_unsure_stays, tier_unsure_stays, Reads, catalogue_read, tier_read, safe_read, quietly, unopened_listed, contains_map, same_cases, name_cases, same_file, same_place, rose_after}
use Rattle.tier_store.specs.Stores.{Stores, list_at, tier}
use Rattle.tier_store.specs.Seen.{Seen, seen_on, granularities}
use Rattle.tier_store.specs.Stored.{IsStoredAt, AllStored, RowsUnsure, PlaceUnsure, HoldsAll}
use Rattle.tier_store.specs.Change.{Has, Doubts, IsOpen, StoreCall, Changes, HoldsBy, IsKnown, IsListedIn}
use Rattle.tier_store.specs.Pinned.{SeenAll, beside, IsThereTo, KeepsShown, IsShown, PinsStand, IsHeldTo, IsNoShorter}
use Rattle.tier_store.specs.declared.limbo.Retired.{Retired}
use Rattle.tier_store.specs.Opening.{IsReaderOf, answer_of, end_of_answer}
use Rattle.tier_store.proofs.Showing.{ListsTo, known_to, after_to, Spares, known_spares, after_spares, read_shown, Longer, by_files, contains_filter, from_filter, doubts_held, has_held, name_listed}
use Rattle.tier_store.proofs.Places.{within_three, manifest_at, manifest_of}
use Rattle.store_files.proofs.Stays.{front_file}
use Rattle.act_model.specs.declared.acts.Answer.{Answer}
use Rattle.disk_model.specs.declared.disk.DiskErr.{DiskErr}
use Rattle.disk_model.specs.declared.disk.DiskErr.TheVariants.{Fault, Memory}
use Rattle.series_model.specs.declared.sample.Sample.{Sample}
use Rattle.durable_write.specs.Ends.{IsFailed, End, Done, end_of_disk}
use Rattle.tier_store.specs.Details.{SaysDescribed, is_described, none_has}
use Rattle.tier_store.specs.Telling.{ReadsOf}
use Rattle.disk_model.proofs.Passing.{passes_then, passes_weaker}
use Rattle.tier_store.specs.Copying.{OnlyLooks}
use Rattle.tier_store.specs.Given.{ChangesGiven}
use Rattle.tier_store.specs.Limbo.{LeavesKept, SparesKept, LimboStands}
use Rattle.tier_store.specs.Retiring.{dropping}
use Rattle.tier_store.proofs.OnePlace.{only_reads}
use Rattle.tier_store.proofs.Holding.{all_left}
use Rattle.tier_store.proofs.RunningMoves.{read_leaves}
use Rattle.std.specs.List.{list_any}
use Rattle.std.proofs.lemmas.List.Elements.{All-contains, Contains-get_or, filter_passes}
use Rattle.std.proofs.lemmas.List.Folds.{Any-from_list_any, list_any-from_Any}
use Rattle.disk_model.specs.Record.{is_same}
use Rattle.etl_mover.specs.Move.{Moving}
use Rattle.pv_catalog.specs.declared.row.Row.{Row}
use Rattle.pv_catalog.proofs.Standing.{keeps_same}
use Rattle.durable_write.proofs.Places.{listed_at, rise_filter}
use Rattle.tier_store.specs.Moving.{of_files, KeepsBeside, MayHold, RunsBeside}
use Rattle.tier_store.specs.Revival.{AreWhole, IsAmong, IsOfLimbo}
use Rattle.tier_store.proofs.Revival.{known_open, limbo_name}
use Rattle.tier_store.proofs.Frames.{filed_fewer, name_at, safe_fewer, spared_whole}
use Rattle.disk_model.proofs.Lookups.{is_same-true, is_same-same}
use Rattle.gate_journal.specs.DiskShown.{DiskShown, ReadsDisk}
use Rattle.durable_write.proofs.Written.{contains_entry, one_of_place}

-- OPENING A FILE AT ITS PINNED LENGTH

-- WHAT IS PINNED

-- a pin that is granted is there
pub asked_some : (owner : ℕ) (found : Option PinOf) (p : PinOf) → asked owner found ≡ Ok p → found ≡ Some p
asked_some owner None p is = absurd (cc (is))
asked_some owner (Some pin) p is = by_test (nat_eq pin.owner owner) is
  where
    by_test : (b : Bool) → ◌≡◌ {A = Result PinOf PinErr} (cond b (Ok pin) (Err (NotYours pin.owner))) (Ok p) → Some pin ≡ Some p
    by_test true is = let same : pin ≡ p = cc in ap (λ (x : PinOf). Some x) same
    by_test false is = absurd (cc (is))

same_pin : (r : Result PinOf PinErr) (p q : PinOf) → r ≡ Ok p → r ≡ Ok q → p ≡ q
same_pin r p q is is₂ = let both : ◌≡◌ {A = Result PinOf PinErr} (Ok p) (Ok q) = sym is ∙ is₂ in cc (both)

-- each piece of a pin that is granted is shown
pub granted_shown : (tells : Bool) (all : SeenAll) (pins : FinMap nat_cmp PinOf) (who n i : ℕ) (p : PinOf) (piece : PinnedFile) → PinsStand tells all pins → asked who (get pins n) ≡ Ok p → slice_get p.pieces i ≡ Some piece → IsShown tells all piece
granted_shown tells all pins who n i p piece stand granted here = stand n i p piece (asked_some who (get pins n) p granted) here

-- the piece that was found is the one
pub one_piece : (r : Result PinOf PinErr) (p q : PinOf) (i : ℕ) (piece other : PinnedFile) → r ≡ Ok p → r ≡ Ok q → slice_get p.pieces i ≡ Some piece → slice_get q.pieces i ≡ Some other → piece ≡ other
one_piece r p q i piece other is is₂ here there = same_Some piece other (sym here ∙ ap (λ (x : PinOf). slice_get x.pieces i) (same_pin r p q is is₂) ∙ there)

pub some_piece : (r : Result PinOf PinErr) (p q : PinOf) (i : ℕ) (piece : PinnedFile) → r ≡ Ok p → r ≡ Ok q → slice_get p.pieces i ≡ Some piece → slice_get q.pieces i ≡ None → ⊥
some_piece r p q i piece is is₂ here none = let both : Some piece ≡ None = sym here ∙ ap (λ (x : PinOf). slice_get x.pieces i) (same_pin r p q is is₂) ∙ none in cc (both)

-- an element that was looked up
pub found_at : (xs : List PinnedFile) (i : ℕ) (x : PinnedFile) → i < length xs → x ≡ get_or xs i x → slice_get xs i ≡ Some x
found_at xs i x low is = slice_get-get_or xs i x low ∙ ap (λ (y : PinnedFile). Some y) (sym is)

pub shown_long : (tells : Bool) (all : SeenAll) (piece : PinnedFile) (name : Name) → name ≡ piece.name → IsShown tells all piece → IsTrue tells → HasFile all.stores.files name (λ b. piece.len ≤ length b)
shown_long tells all piece name named s told =
    let there = front_file all.stores.files piece.name s.bytes (s.shown.front told) in
    let long = there.holds.0 in
    let len = s.len in
    record { bytes = there.bytes; file = ap all.stores.files named ∙ there.file; holds = omega (arith, long, len) }

pub shown_held : (tells : Bool) (all : SeenAll) (piece : PinnedFile) (name : Name) → name ≡ piece.name → IsShown tells all piece → IsThereTo all name piece.len
shown_held tells all piece name named s = subst (λ (n : ℕ). IsThereTo all name n) s.len (subst (λ (n : Name). IsThereTo all n (length s.bytes)) (sym named) s.shown.held)

-- what was opened has the bytes that are shown
pub reader_of : {R : Type 0} (tells reader_tells : Bool) (bytes : R → List ℕ) (faults : R → ℕ) (all : SeenAll) (piece : PinnedFile) (reader : R) (name : Name) → name ≡ piece.name → faults reader ≡ 0 → (IsTrue tells → IsTrue reader_tells × HasFile all.stores.files name (λ b. bytes reader ≡ take piece.len b)) → IsReaderOf tells reader_tells bytes faults all piece reader
reader_of {R} tells reader_tells bytes faults all piece reader name named fresh read = record {
  fresh = fresh;
  shows = λ told pinned len shown.
      let was = read told in
      let there = front_file all.stores.files piece.name pinned (shown.front told) in
      let same : was.1.bytes ≡ there.bytes = same_Some was.1.bytes there.bytes (sym was.1.file ∙ ap all.stores.files named ∙ there.file) in
      (was.0, was.1.holds ∙ ap (take piece.len) same ∙ ap (λ (n : ℕ). take n there.bytes) (sym len) ∙ there.holds.1);
}

-- PINS THAT STAND

pub stand_none : (tells : Bool) (all : SeenAll) → PinsStand tells all empty
stand_none tells all n i pin piece here there = let both : ◌≡◌ {A = Option PinOf} None (Some pin) = sym (get-empty nat_cmp n) ∙ here in absurd (cc (both))

pub stand_kept : (tells : Bool) (old new : SeenAll) (pins : FinMap nat_cmp PinOf) → KeepsShown tells old new → PinsStand tells old pins → PinsStand tells new pins
stand_kept tells old new pins keeps stand n i pin piece here there =
    let was = stand n i pin piece here there in record { bytes = was.bytes; len = was.len; shown = keeps piece.name was.bytes was.shown }

pub stand_fewer : (tells : Bool) (all : SeenAll) (pins : FinMap nat_cmp PinOf) (gone : ℕ) → PinsStand tells all pins → PinsStand tells all (remove pins gone)
stand_fewer tells all pins gone stand n i pin piece here there = stand n i pin piece (go (eq_by_cmp nat_cmp n gone) (sym (get-remove nat_cmp_total pins gone n) ∙ here)) there
  where
    go : (b : Bool) → cond b None (get pins n) ≡ Some pin → get pins n ≡ Some pin
    go true is = absurd (cc (is))
    go false is = is

-- OPENING

module _ {S : Type 0} (shows : S → DiskShown) (faults_of : S → ℕ) (tells : Bool) (c : CatalogueState) (ms : List ManifestState) (d after : S) (name : Name) (len : ℕ) (numbered : 1 ≤ name.0) (passes : IsTrue tells → Passes (λ a b. b ≡ a) (shows d).past (shows after).past)
    (same : IsTrue tells → (shows after).files ≡ (shows d).files) (here : IsTrue tells → (shows after).opened name ≤ max ((shows d).opened name) len) (others : IsTrue tells → (n : Name) → n ≢ name → (shows after).opened n ≡ (shows d).opened n) where
  abbrev old : Seen
  old = seen_on shows faults_of c ms d

  abbrev new : Seen
  new = seen_on shows faults_of c ms after

  -- no journal is opened
  reads : IsTrue tells → Reads (shows d) (shows after)
  reads told = record {
    passes = passes told;
    same = same told;
    journals = λ n zero_store. let is : (shows after).opened n ≡ (shows d).opened n = others told n (λ is. let at_zero : n.0 ≡ name.0 = ap (λ (x : Name). x.0) is in absurd (omega (arith, at_zero, zero_store, numbered))) in omega (arith, is);
  }

  -- no file is opened beyond its listed length
  abbrev Stays : Stores → Type 0
  Stays s = (g : Granularity) (k : ℕ) → k < 3 → AreHeld g (tier k s) → AreSafe (tier k s) (shows d) → AreUnopened (tier k s) (shows after).opened

  listed_stays : IsTrue tells → (s : Stores) (place : ℕ) → ListsTo place s name len → Stays s
  listed_stays told s place to g k low valid safe = elim (same_cases k place) [
    | inl is ↦ mine (subst (λ (j : ℕ). ListsTo j s name len) (sym is) to)
    | inr apart ↦ λ j f lt.
        let n = file_of (shelf_of (tier k s)) (get_or (list_at k s) j f).entry in
        let number : name.0 ≡ place + 1 = sym (ap (λ (x : Name). x.0) to.named) in
        let is : (shows after).opened n ≡ (shows d).opened n = others told n (λ is. apart (let at : k + 1 ≡ name.0 = ap (λ (x : Name). x.0) is in omega (arith, at, number))) in
        let le = safe.unopened j f lt in omega (arith, is, le)
  ]
    where
      mine : ListsTo k s name len → AreUnopened (tier k s) (shows after).opened
      mine to =
          let f = contains_map (list_at k s) to.entry to.within in
          let named : file_of (shelf_of (tier k s)) f.0.entry ≡ name = ap (λ (e : Entry). file_of (shelf_of (tier k s)) e) f.2 ∙ to.named in
          let longer : len ≤ f.0.entry.len = subst (λ (e : Entry). len ≤ e.len) (sym f.2) to.longer in
          let le = here told in
          unopened_listed g (tier k s) f.0 (shows d) (shows after).opened valid safe f.1
          (subst (λ (n : Name). (shows after).opened n ≤ max ((shows d).opened n) f.0.entry.len) (sym named) (omega (arith, le, longer)))
          (λ n apart. others told n (λ is. apart (is ∙ sym named)))

  -- a name that is listed nowhere shorter
  spared_stays : IsTrue tells → (s : Stores) → Spares s name len → Stays s
  spared_stays told s spares g k low valid safe j f lt =
      let h = get_or (list_at k s) j f in
      let n = file_of (shelf_of (tier k s)) h.entry in
      let was = safe.unopened j f lt in
      elim (name_cases n name) [
        | inl is ↦
            let same : get_or (map entry_of (list_at k s)) j f.entry ≡ h.entry = get_or-map entry_of (list_at k s) j f f.entry lt in
            let short = subst (λ (e : Entry). file_of (shelf_of (tier k s)) e ≡ name → len ≤ e.len) same (spares k low j f.entry (let long = length-map (list_at k s) entry_of in omega (arith, lt, long))) in
            let long = short is in
            let le = here told in
            let is_new : (shows after).opened n ≡ (shows after).opened name = ap (shows after).opened is in
            let is_old : (shows d).opened n ≡ (shows d).opened name = ap (shows d).opened is in omega (arith, le, long, was, is_new, is_old)
        | inr apart ↦ let is : (shows after).opened n ≡ (shows d).opened n = others told n apart in omega (arith, is, was)
      ]

  stored_still : IsTrue tells → (s : Stores) → Stays s → (k : ℕ) → k < 3 → (m : ManifestState) → IsStoredAt old m (tier k s) → IsStoredAt new m (tier k s)
  stored_still told s stays k low m stored = tier_read (shows d) (shows after) (reads told) m.granularity m.journal (tier k s) stored (stays m.granularity k low stored.valid stored.safe)

  module _ (three : length ms ≡ 3) where
    low_at : (k : ℕ) (m : ManifestState) → slice_get ms k ≡ Some m → k < 3
    low_at k m there = within_three ms k m three there

    all_still : IsTrue tells → (s : Stores) → Stays s → AllStored old s → AllStored new s
    all_still told s stays stored = record {
      rows = catalogue_read (shows d) (shows after) (reads told) c.journal s.rows stored.rows;
      each = λ k m there. stored_still told s stays k (low_at k m there) m (stored.each k m there);
    }

    rows_unsure : IsTrue tells → (one other : Stores) → Stays one → Stays other → RowsUnsure old one other → RowsUnsure new one other
    rows_unsure told one other stays stays_other unsure =
        let quiet = reads told in
        record {
          rows = catalogue_unsure_stays (λ a b. b ≡ a) c.journal (shows d) (shows after) quiet.passes (quietly _ _ quiet c.journal catalogue_name unsure.rows.named refl) one.rows other.rows unsure.rows;
          each = λ k m there. stored_still told one stays k (low_at k m there) m (unsure.each k m there);
          each_after = λ k m there. stored_still told other stays_other k (low_at k m there) m (unsure.each_after k m there);
        }

    place_unsure : IsTrue tells → (i : ℕ) (m : ManifestState) (one other : Stores) → i < 3 → Stays one → Stays other → PlaceUnsure i m old one other → PlaceUnsure i m new one other
    place_unsure told i m one other low stays stays_other unsure =
        let quiet = reads told in
        record {
          rows = catalogue_read (shows d) (shows after) quiet c.journal one.rows unsure.rows;
          list = tier_unsure_stays (λ a b. b ≡ a) m.journal (shows d) (shows after) quiet.passes (quietly _ _ quiet m.journal (manifest_name (i + 1)) unsure.list.named refl) m.granularity (tier i one) (tier i other) unsure.list
              (safe_read (tier i one) (shows d) (shows after) unsure.list.safe quiet.passes quiet.same (stays m.granularity i low unsure.list.valid unsure.list.safe))
              (safe_read (tier i other) (shows d) (shows after) unsure.list.safe_after quiet.passes quiet.same (stays_other m.granularity i low unsure.list.valid_after unsure.list.safe_after));
          others = λ k n there apart. stored_still told one stays k (low_at k n there) n (unsure.others k n there apart);
        }

  has_still : (one : Stores) → (IsTrue tells → Stays one) → Has tells old one → Has tells new one
  has_still one stays has = record {
    known = has.known;
    settled = record { catalogue = has.settled.catalogue; manifests = has.settled.manifests };
    disk = λ told. all_still has.known.three told one (stays told) (has.disk told);
  }

  doubts_still : (one other : Stores) → (IsTrue tells → Stays one) → (IsTrue tells → Stays other) → Doubts tells old one other → Doubts tells new one other
  doubts_still one other stays stays_other doubt = record {
    known = doubt.known;
    valid_after = doubt.valid_after;
    change = elim doubt.change [
      | inl r ↦ inl (record { unsound = r.unsound; sound = r.sound; next = r.next; same = r.same; disk = λ told. rows_unsure doubt.known.three told one other (stays told) (stays_other told) (r.disk told) })
      | inr p ↦ inr (
        p.0,
        record {
          manifest = p.1.manifest;
          here = p.1.here;
          unsound = p.1.unsound;
          sound = p.1.sound;
          others = p.1.others;
          next = p.1.next;
          same = p.1.same;
          disk = λ told. place_unsure doubt.known.three told p.0 p.1.manifest one other (within_three ms p.0 p.1.manifest doubt.known.three p.1.here) (stays told) (stays_other told) (p.1.disk told);
        },
      )
    ];
  }

  pub has_opened : (limbo : List Retired) (one : Stores) → IsThereTo (beside old limbo) name len → Has tells old one → Has tells new one
  has_opened limbo one (inl h) has = has_still one (λ told. listed_stays told one h.place (known_to old one h.place h.manifest name len has.known h.here h.listed)) has
  has_opened limbo one (inr r) has = has_still one (λ told. spared_stays told one (known_spares old one name len has.known r.no_shorter)) has

  pub piece_opened : (limbo : List Retired) (one other : Stores) → IsThereTo (beside old limbo) name len → IsOpen tells old one other → IsOpen tells new one other
  piece_opened limbo one other there (inl has) = inl (has_opened limbo one there has)
  piece_opened limbo one other (inl h) (inr doubt) = inr (doubts_still one other (λ told. listed_stays told one h.place (known_to old one h.place h.manifest name len doubt.known h.here h.listed)) (λ told. listed_stays told other h.place (after_to tells old one other name len doubt h)) doubt)
  piece_opened limbo one other (inr r) (inr doubt) = inr (doubts_still one other (λ told. spared_stays told one (known_spares old one name len doubt.known r.no_shorter)) (λ told. spared_stays told other (after_spares tells old one other name len doubt r.no_shorter)) doubt)

-- HOW FAR

pub unopened_most : (opened after : Name → ℕ) (name : Name) (len : ℕ) → after ≡ opened → after name ≤ max (opened name) len
unopened_most opened after name len is = let here : after name ≡ opened name = ap (λ (o : Name → ℕ). o name) is in omega (arith, here)

pub opened_most : (was now len : ℕ) → now ≡ max was len → now ≤ max was len
opened_most was now len is = omega (arith, is)

-- CALLS THAT ONLY READ

-- whatever stood so does so still
module _ {S : Type 0} (shows : S → DiskShown) (faults_of : S → ℕ) (tells : Bool) (c : CatalogueState) (ms : List ManifestState) (d after : S) (passes : IsTrue tells → Passes (λ a b. b ≡ a) (shows d).past (shows after).past) (same : IsTrue tells → (shows after).files ≡ (shows d).files) (unopened : IsTrue tells → (shows after).opened ≡ (shows d).opened) where
  abbrev any : Name
  any = (1, [])

  unopened_at : IsTrue tells → (n : Name) → (shows after).opened n ≡ (shows d).opened n
  unopened_at told n = ap (λ (o : Name → ℕ). o n) (unopened told)

  all_stay : (s : Stores) → IsTrue tells → (g : Granularity) (k : ℕ) → k < 3 → AreHeld g (tier k s) → AreSafe (tier k s) (shows d) → AreUnopened (tier k s) (shows after).opened
  all_stay s told g k low valid safe j f lt =
      let is = unopened_at told (file_of (shelf_of (tier k s)) (get_or (list_at k s) j f).entry) in
      let le = safe.unopened j f lt in omega (arith, is, le)

  pub read_has : (one : Stores) → Has tells (seen_on shows faults_of c ms d) one → Has tells (seen_on shows faults_of c ms after) one
  read_has one has = has_still shows faults_of tells c ms d after any 0 (omega arith) passes same (λ told. unopened_most (shows d).opened (shows after).opened any 0 (unopened told)) (λ told n apart. unopened_at told n) one (all_stay one) has

  pub read_open : (one other : Stores) → IsOpen tells (seen_on shows faults_of c ms d) one other → IsOpen tells (seen_on shows faults_of c ms after) one other
  read_open one other (inl has) = inl (read_has one has)
  read_open one other (inr doubt) = inr (doubts_still shows faults_of tells c ms d after any 0 (omega arith) passes same (λ told. unopened_most (shows d).opened (shows after).opened any 0 (unopened told)) (λ told n apart. unopened_at told n) one other (all_stay one) (all_stay other) doubt)

-- READING FILES

-- what is held is so still when files were read
module _ {S : Type 0} (shows : S → DiskShown) (faults_of : S → ℕ) (tells : Bool) (c : CatalogueState) (ms : List ManifestState) (d after : S) (reads : IsTrue tells → ReadsDisk (shows d) (shows after)) where
  pub has_read : (held : Stores) → Has tells (seen_on shows faults_of c ms d) held → Has tells (seen_on shows faults_of c ms after) held
  has_read held has = read_has shows faults_of tells c ms d after (λ told. (reads told).any_moment) (λ told. (reads told).same) (λ told. (reads told).same_opened) held has

-- what is told of a variable is so
module _ {R : Type 0} (tells : Bool) (name : List ℕ) (tail : List Sample) (held : Stores) where
  abbrev Says : Answer R → Type 0
  Says a = SaysDescribed tells name tail a held

  says_answer : (a : Answer R) → Says a → ReadsOf (SaysDescribed tells name tail) (end_of_answer a) held
  says_answer _ (none_has none) = none_has none
  says_answer _ (is_described i d named told) = is_described i d named told

  pub says_described : (r : Result (Answer R) DiskErr) → IfOk r Says → ReadsOf (SaysDescribed tells name tail) (end_of_answer (answer_of r)) held
  says_described (Ok a) ok = says_answer a ok
  says_described (Err Fault) ok = tt
  says_described (Err Memory) ok = tt

  not_failed : (a : Answer R) → Says a → IsFailed (end_of_answer a) → ⊥
  not_failed _ (none_has none) failed = failed
  not_failed _ (is_described i d named told) failed = failed

  pub described_cause : (was now : ℕ) (r : Result (Answer R) DiskErr) → IfOk r Says → (r ≡ Err Fault → Rose was now) → IsFailed (end_of_answer (answer_of r)) → Rose was now
  described_cause was now (Ok a) ok cause failed = absurd (not_failed a ok failed)
  described_cause was now (Err Fault) ok cause failed = cause refl
  described_cause was now (Err Memory) ok cause failed = absurd failed

-- ASKING WHICH FILES ARE THERE

-- a call that only read
pub reads_look : {S A : Type 0} (shows : S → DiskShown) (faults_of : S → ℕ) (tells : Bool) (c : CatalogueState) (ms : List ManifestState) (limbo : List Retired) (d after : S) (r : Result A DiskErr)
    → (IsTrue tells → ReadsDisk (shows d) (shows after)) → faults_of d ≤ faults_of after → (r ≡ Err Fault → Rose (faults_of d) (faults_of after))
    → OnlyLooks tells (beside (seen_on shows faults_of c ms d) limbo) (beside (seen_on shows faults_of c ms after) limbo) (end_of_disk {A = A} r)
reads_look {S} {A} shows faults_of tells c ms limbo d after r reads more cause = record {
  kept = λ held was. has_read shows faults_of tells c ms d after reads held was;
  catalogue = refl;
  manifests = refl;
  limbo = refl;
  shown = read_shown shows faults_of tells c ms limbo d after (λ told. (reads told).same);
  leaves = read_leaves tells _ _ refl (λ told. (reads told).same) (λ told. (reads told).same_opened) (λ told. (reads told).any_moment);
  opened = λ told. (reads told).same_opened;
  reads = only_reads tells _ _ r (λ told. (reads told).same) (λ told. (reads told).any_moment) more cause;
}

-- of all stores
pub given_changes : {A E : Type 0} (tells : Bool) (call : StoreCall A E) (old new : Seen) (end : End A E) → ChangesGiven (λ (s : Stores). Unit {0}) tells call old new end → Changes tells call old new end
given_changes {A} {E} tells call old new end change = record {
  ends = λ held has. change.ends held has tt;
  any_moment = λ told held has. change.any_moment told held has tt;
  costs = change.costs;
}

-- what is kept, where files were read, and where a sweep follows
pub look_leaves : {A E : Type 0} (tells : Bool) (pins : FinMap nat_cmp PinOf) (copied : List Name) (old new : SeenAll) (end : End A E) → OnlyLooks tells old new end → LeavesKept tells pins copied old new
look_leaves {A} {E} tells pins copied old new end looks = record {
  shown = λ name bytes kept was. looks.shown name bytes was;
  files = λ told n kept. ap (λ (f : Files). f n) (looks.reads.files told);
  any_moment = λ told. passes_weaker (λ a b. b ≡ a) (SparesKept new.stores pins copied old.limbo) old.stores.past new.stores.past (looks.reads.any_moment told) (λ a c left same n kept. ap (λ (f : Files). f n) same);
}

pub look_then_leaves : {A E : Type 0} (tells : Bool) (pins : FinMap nat_cmp PinOf) (copied : List Name) (old mid new : SeenAll) (end : End A E) → OnlyLooks tells old mid end → LeavesKept tells pins copied mid new → LeavesKept tells pins copied old new
look_then_leaves {A} {E} tells pins copied old mid new end looks leaves = record {
  shown = λ name bytes kept was. leaves.shown name bytes kept (looks.shown name bytes was);
  files = λ told n kept. subst (λ (l : List Retired). SparesKept new.stores pins copied l mid.stores.files new.stores.files) looks.limbo (leaves.files told) n kept ∙ ap (λ (f : Files). f n) (looks.reads.files told);
  any_moment = λ told.
      passes_then (SparesKept new.stores pins copied old.limbo) (SparesKept new.stores pins copied old.limbo) old.stores.past mid.stores.past new.stores.past
      (passes_weaker (λ a b. b ≡ a) (SparesKept new.stores pins copied old.limbo) old.stores.past mid.stores.past (looks.reads.any_moment told) (λ a c left same n kept. ap (λ (f : Files). f n) same))
      (subst (λ (l : List Retired). Passes (SparesKept new.stores pins copied l) mid.stores.past new.stores.past) looks.limbo (leaves.any_moment told)) (λ a b c was one left two n kept. two n kept ∙ one n kept);
}

pub if_ok_to : {A : Type 0} (r : Result A DiskErr) (P Q : A → Type 0) → ((a : A) → P a → Q a) → IfOk r P → IfOk r Q
if_ok_to {A} (Ok a) P Q to was = to a was
if_ok_to {A} (Err e) P Q to was = tt

-- any call: where the asking failed, and where it follows
asked_moments : {A E B F : Type 0} (tells : Bool) (call : StoreCall A E) (old new : SeenAll) (end : End B F) → OnlyLooks tells old new end → IsTrue tells → (held : Stores) → Has tells old.stores held → Passes (HoldsBy (granularities old.stores.manifests) call.by held) old.stores.past new.stores.past
asked_moments {A} {E} {B} {F} tells call old new end looks told held has =
    passes_weaker (λ a b. b ≡ a) (HoldsBy (granularities old.stores.manifests) call.by held) old.stores.past new.stores.past (looks.reads.any_moment told)
    (λ a x left same. inl (subst (λ (f : Files). HoldsAll (granularities old.stores.manifests) f held) (sym same) (all_left old.stores held a (has.disk told) left)))

look_cut : {A : Type 0} (tells : Bool) (call : StoreCall A ⊥) (old new : SeenAll) (e : DiskErr) → OnlyLooks tells old new (end_of_disk {A = A} (Err e)) → Changes tells call old.stores new.stores (end_of_disk {A = A} (Err e))
look_cut {A} tells call old new Fault looks = record {
  ends = λ held has. inl (looks.kept held has);
  any_moment = λ told held has. asked_moments tells call old new _ looks told held has;
  costs = record { granularity = ap granularities looks.manifests; faults = looks.reads.faults; cause = looks.reads.cause };
}
look_cut {A} tells call old new Memory looks = record {
  ends = λ held has. looks.kept held has;
  any_moment = λ told held has. asked_moments tells call old new _ looks told held has;
  costs = record { granularity = ap granularities looks.manifests; faults = looks.reads.faults; cause = looks.reads.cause };
}

pub look_fails : {A : Type 0} (tells : Bool) (call : StoreCall A ⊥) (old new : SeenAll) (r : Result A DiskErr) (e : DiskErr) → r ≡ Err e → OnlyLooks tells old new (end_of_disk r) → Changes tells call old.stores new.stores (end_of_disk r)
look_fails {A} tells call old new r e is looks =
    subst (λ (x : Result A DiskErr). Changes tells call old.stores new.stores (end_of_disk x)) (sym is) (look_cut tells call old new e (subst (λ (x : Result A DiskErr). OnlyLooks tells old new (end_of_disk x)) is looks))

pub look_then_call : {A E B F : Type 0} (tells : Bool) (call : StoreCall A E) (old mid : SeenAll) (new : Seen) (first : End B F) (end : End A E) → OnlyLooks tells old mid first → Changes tells call mid.stores new end → Changes tells call old.stores new end
look_then_call {A} {E} {B} {F} tells call old mid new first end looks change = record {
  ends = λ held has. change.ends held (looks.kept held has);
  any_moment = λ told held has.
      passes_then (HoldsBy (granularities old.stores.manifests) call.by held) (HoldsBy (granularities old.stores.manifests) call.by held) old.stores.past mid.stores.past new.past (asked_moments tells call old mid first looks told held has)
      (subst (λ (gs : List Granularity). Passes (HoldsBy gs call.by held) mid.stores.past new.past) (ap granularities looks.manifests) (change.any_moment told held (looks.kept held has))) (λ a b c was one left two. two);
  costs = record {
    granularity = change.costs.granularity ∙ ap granularities looks.manifests;
    faults = let one = looks.reads.faults in let two = change.costs.faults in omega (arith, one, two);
    cause = λ failed. rose_after old.stores.faults mid.stores.faults new.faults looks.reads.faults (change.costs.cause failed);
  };
}

-- the drop of files, whatever else is answered
pub drop_done : {A : Type 0} (tells : Bool) (i row n : ℕ) (old new : Seen) (a : A) → Changes tells (dropping {A = Unit {0}} i row n) old new (Done (tt {0})) → Changes tells (dropping {A = A} i row n) old new (Done a)
drop_done {A} tells i row n old new a change = record { ends = change.ends; any_moment = change.any_moment; costs = record { granularity = change.costs.granularity; faults = change.costs.faults; cause = λ failed. absurd failed } }

drop_cut : {A : Type 0} (tells : Bool) (i row n : ℕ) (old new : Seen) (e : DiskErr) → Changes tells (dropping {A = Unit {0}} i row n) old new (end_of_disk {A = Unit {0}} (Err e)) → Changes tells (dropping {A = A} i row n) old new (end_of_disk {A = A} (Err e))
drop_cut {A} tells i row n old new Fault change = record { ends = change.ends; any_moment = change.any_moment; costs = record { granularity = change.costs.granularity; faults = change.costs.faults; cause = change.costs.cause } }
drop_cut {A} tells i row n old new Memory change = record { ends = change.ends; any_moment = change.any_moment; costs = record { granularity = change.costs.granularity; faults = change.costs.faults; cause = λ failed. absurd failed } }

pub drop_fails : {A : Type 0} (tells : Bool) (i row n : ℕ) (old new : Seen) (r : Result (Unit {0}) DiskErr) (s : Result A DiskErr) (e : DiskErr) → r ≡ Err e → s ≡ Err e → Changes tells (dropping {A = Unit {0}} i row n) old new (end_of_disk r) → Changes tells (dropping {A = A} i row n) old new (end_of_disk s)
drop_fails {A} tells i row n old new r s e is also change =
    subst (λ (x : Result A DiskErr). Changes tells (dropping {A = A} i row n) old new (end_of_disk x)) (sym also) (drop_cut tells i row n old new e (subst (λ (x : Result (Unit {0}) DiskErr). Changes tells (dropping {A = Unit {0}} i row n) old new (end_of_disk x)) is change))

-- WHAT STANDS BESIDE THE STORES

-- NAMES THAT ARE LISTED

-- whether a store lists the name
abbrev lists_name : ℕ → Stores → Name → Bool
lists_name place s n = list_any (λ (e : Entry). is_same (file_of (place + 1, s.rows) e) n) (map entry_of (list_at place s))

lists_so : (place : ℕ) (s : Stores) (n : Name) → lists_name place s n ≡ true → ListsTo place s n 0
lists_so place s n is =
    let found = Any-from_list_any (λ (e : Entry). is_same (file_of (place + 1, s.rows) e) n) (map entry_of (list_at place s)) is in
    record { entry = found.1; within = (found.0, found.2, found.3); named = is_same-true (file_of (place + 1, s.rows) found.1) n found.4; longer = omega arith }

so_lists : (place : ℕ) (s : Stores) (n : Name) → ListsTo place s n 0 → lists_name place s n ≡ true
so_lists place s n to =
    list_any-from_Any (λ (e : Entry). is_same (file_of (place + 1, s.rows) e) n) (map entry_of (list_at place s)) (to.within.0, to.entry, to.within.1, to.within.2, subst (λ (x : Name). is_same x n ≡ true) (sym to.named) (is_same-same n))

both_true : (a b : Bool) → not (a && b) ≡ false → (a ≡ true) × (b ≡ true)
both_true true true is = (refl, refl)
both_true true false is = absurd (cc (is))
both_true false b is = absurd (cc (is))

not_both_true : (a b : Bool) → not (a && b) ≡ true → a ≡ true → b ≡ true → ⊥
not_both_true true true is one two = absurd (cc (is))
not_both_true true false is one two = absurd (cc (two))
not_both_true false b is one two = absurd (cc (one))

-- listed to any length
less_to : (l : Listing) (n : Name) (len : ℕ) → IsListedTo l n len → IsListedTo l n 0
less_to l n len to = record { entry = to.entry; within = to.within; named = to.named; longer = omega arith }

held_less : (at : Seen) (n : Name) (len : ℕ) → IsHeldTo at n len → IsHeldTo at n 0
held_less at n len h = record {
  place = h.place;
  manifest = h.manifest;
  here = h.here;
  listed = less_to _ n len h.listed;
  in_doubt = λ unsound. less_to _ n len (h.in_doubt unsound);
  rows_in_doubt = λ unsound. less_to _ n len (h.rows_in_doubt unsound);
}

module _ {S : Type 0} (shows : S → DiskShown) (faults_of : S → ℕ) (tells : Bool) (c : CatalogueState) (ms : List ManifestState) (limbo : List Retired) (d after : S) (name : Name) (len : ℕ) (there : IsThereTo (beside (seen_on shows faults_of c ms d) limbo) name len)
    (passes : IsTrue tells → Passes (λ a b. b ≡ a) (shows d).past (shows after).past) (same : IsTrue tells → (shows after).files ≡ (shows d).files) (here : IsTrue tells → (shows after).opened name ≤ max ((shows d).opened name) len) (others : IsTrue tells → (n : Name) → n ≢ name → (shows after).opened n ≡ (shows d).opened n) where
  abbrev at : Seen
  at = seen_on shows faults_of c ms d

  abbrev later : Seen
  later = seen_on shows faults_of c ms after

  -- LIMBO

  module _ (before next : Stores) (open_to : IsOpen tells at before next) (stand : LimboStands at limbo) (i : ℕ) (low : i < 3) where
    abbrev second_of : IsOpen tells at before next → Stores
    second_of (inl has) = before
    second_of (inr doubt) = next

    abbrev second : Stores
    second = second_of open_to

    to_held : (o : IsOpen tells at before next) (n : Name) → ListsTo i before n 0 → ListsTo i (second_of o) n 0 → IsHeldTo at n 0
    to_held (inl has) n to to_too = has_held tells at before i n 0 has low to
    to_held (inr doubt) n to to_too = doubts_held tells at before next i n 0 doubt low to to_too

    from_held : (o : IsOpen tells at before next) (n : Name) → n.0 ≡ i + 1 → IsHeldTo at n 0 → ListsTo i before n 0 × ListsTo i (second_of o) n 0
    from_held o n number h = go o
      where
        at_place : h.place ≡ i
        at_place = let own = name_listed at n 0 h in omega (arith, own, number)

        go : (o : IsOpen tells at before next) → ListsTo i before n 0 × ListsTo i (second_of o) n 0
        go (inl has) = let to = subst (λ (k : ℕ). ListsTo k before n 0) at_place (known_to at before h.place h.manifest n 0 has.known h.here h.listed) in (to, to)
        go (inr doubt) = (subst (λ (k : ℕ). ListsTo k before n 0) at_place (known_to at before h.place h.manifest n 0 doubt.known h.here h.listed), subst (λ (k : ℕ). ListsTo k next n 0) at_place (after_to tells at before next n 0 doubt h))

    -- those of which the list isn't known to have one of the name
    abbrev keep : Filed → Bool
    keep f = not (lists_name i before (name_at i c.rows f) && lists_name i second (name_at i c.rows f))

    not_kept : (f : Filed) → keep f ≡ false → IsHeldTo at (name_at i c.rows f) 0
    not_kept f is =
        let n = name_at i c.rows f in
        let both = both_true (lists_name i before n) (lists_name i second n) is in
        to_held open_to n (lists_so i before n both.0) (lists_so i second n both.1)

    kept : (f : Filed) → keep f ≡ true → IsHeldTo at (name_at i c.rows f) 0 → ⊥
    kept f is h =
        let n = name_at i c.rows f in
        let both = from_held open_to n refl h in
        not_both_true (lists_name i before n) (lists_name i second n) is (so_lists i before n both.0) (so_lists i second n both.1)

    held_later : (n : Name) → IsHeldTo at n 0 → IsHeldTo later n 0
    held_later n h = record { place = h.place; manifest = h.manifest; here = h.here; listed = h.listed; in_doubt = h.in_doubt; rows_in_doubt = h.rows_in_doubt }

    known : IsKnown c ms before
    known = known_open tells at before next open_to

    abbrev manifest : (m : ManifestState) × (slice_get ms i ≡ Some m)
    manifest = manifest_at ms i (let three = known.three in omega (arith, three, low))

    keys : KeysDiffer c.rows
    keys = subst (λ (rows : List Row). KeysDiffer rows) (sym known.rows) (known.each i manifest.0 manifest.1).valid.keys

    -- limbo of the store stays whole
    pub opened_whole : (stands : Bool) (files : List Filed) → AreWhole i tells at limbo stands files → (left : List Filed) × AreWhole i tells later limbo stands left
    opened_whole stands files whole = (
      left,
      spared_whole i low tells (beside at limbo) (beside later limbo) known.three (keeps_same c.rows) refl (λ n. Unit {0}) (λ told n spared. ap (λ (f : Files). f n) (same told)) (λ told. passes_weaker (λ a b. b ≡ a) (λ a b. (n : Name) → Unit {0} → b n ≡ a n) (shows d).past (shows after).past (passes told) (λ a b was is n spared. ap (λ (f : Files). f n) is)) stands left
          among (λ k x lt. All-contains (λ (f : Filed). IsOfLimbo i limbo f.entry) files (get_or left k x) whole.from (within k x lt)) (rise_filter keep files whole.rise)
          (λ m there. filed_fewer i c.rows files left stands within m.granularity (whole.filed m there))
          (λ told. safe_fewer i c.rows files left stands within (shows d) (whole.safe told))
          (λ k x lt. tt) unopened,
    )
      where
        left : List Filed
        left = filter keep files

        within : (k : ℕ) (x : Filed) → k < length left → Contains files (get_or left k x)
        within k x lt = from_filter keep files (get_or left k x) (Contains-get_or left k x lt)

        among : All (IsAmong i later left) limbo
        among k x lt number = elim (whole.each k x lt number) [
          | inl h ↦ inl (held_later (get_or limbo k x).name h)
          | inr in_files ↦
              let r : Retired = get_or limbo k x in
              let u = contains_map files r.entry in_files in
              let named : name_at i c.rows u.0 ≡ r.name = ap (λ (e : Entry). file_of (i + 1, c.rows) e) u.2 ∙ limbo_name i at limbo stand r (Contains-get_or limbo k x lt) number in
              by_test u.0 u.1 r u.2 named (keep u.0) refl
        ]
          where
            by_test : (u : Filed) → Contains files u → (r : Retired) → u.entry ≡ r.entry → name_at i c.rows u ≡ r.name → (b : Bool) → keep u ≡ b → IsHeldTo later r.name 0 ⊎ Contains (map entry_of left) r.entry
            by_test u u_in r same_entry named true is = inr (subst (Contains (map entry_of left)) same_entry (contains_entry left u (contains_filter keep files u u_in is)))
            by_test u u_in r same_entry named false is = inl (held_later r.name (subst (λ (n : Name). IsHeldTo at n 0) named (not_kept u is)))

        unopened : IsTrue tells → All (λ (f : Filed). (shows after).opened (name_at i c.rows f) ≤ f.entry.len) left
        unopened told k x lt = elim (name_cases (name_at i c.rows f) name) [
          | inr apart ↦ let is : (shows after).opened (name_at i c.rows f) ≡ (shows d).opened (name_at i c.rows f) = others told (name_at i c.rows f) apart in omega (arith, is, was)
          | inl is ↦
              let long = long_enough is in
              let is_after : (shows after).opened (name_at i c.rows f) ≡ (shows after).opened name = ap (shows after).opened is in
              let is_before : (shows d).opened (name_at i c.rows f) ≡ (shows d).opened name = ap (shows d).opened is in
              let le = here told in
              omega (arith, is_after, is_before, le, was, long)
        ]
          where
            f : Filed
            f = get_or left k x

            f_in : Contains files f
            f_in = within k x lt

            was : (shows d).opened (name_at i c.rows f) ≤ f.entry.len
            was = All-contains (λ (y : Filed). (shows d).opened (name_at i c.rows y) ≤ y.entry.len) files f (whole.safe told).unopened f_in

            not_held : (n : Name) (k : ℕ) → name_at i c.rows f ≡ n → IsHeldTo at n k → ⊥
            not_held n l is h = kept f (filter_passes keep files k x lt) (subst (λ (m : Name). IsHeldTo at m 0) (sym is) (held_less at n l h))

            long_enough : name_at i c.rows f ≡ name → len ≤ f.entry.len
            long_enough is = elim there [
              | inl h ↦ absurd (not_held name len is h)
              | inr r ↦
                  let number : r.file.name.0 ≡ i + 1 = ap (λ (n : Name). n.0) (r.named ∙ sym is) in
                  elim (All-contains (IsAmong i at files) limbo r.file whole.each r.within number) [
                    | inl h ↦ absurd (not_held r.file.name 0 (is ∙ sym r.named) h)
                    | inr in_files ↦
                        let u = contains_map files r.file.entry in_files in
                        let named : name_at i c.rows u.0 ≡ name_at i c.rows f = ap (λ (e : Entry). file_of (i + 1, c.rows) e) u.2 ∙ limbo_name i at limbo stand r.file r.within number ∙ r.named ∙ sym is in
                        let listed = (whole.filed manifest.0 manifest.1).listed in
                        let place = same_place manifest.0.granularity (i + 1) c.rows u.0 f keys (All-contains (IsListed manifest.0.granularity c.rows) files u.0 listed u.1) (All-contains (IsListed manifest.0.granularity c.rows) files f listed f_in) named in
                        let one : u.0 ≡ f = one_of_place files f u.0 whole.rise f_in u.1 place in
                        let same_len : r.file.entry.len ≡ f.entry.len = ap (λ (e : Entry). e.len) (sym u.2) ∙ ap (λ (y : Filed). y.entry.len) one in
                        let longer = r.longer in
                        omega (arith, same_len, longer)
                  ]
            ]

  -- RUNNING MOVES

  -- what may be held lists the name too, and is valid
  may_list : (held : Stores) → MayHold tells at held → (h : IsHeldTo at name len) → ListsTo h.place held name len
  may_list held (inl has) h = known_to at held h.place h.manifest name len has.known h.here h.listed
  may_list held (inr (other, inl doubt)) h = known_to at held h.place h.manifest name len doubt.known h.here h.listed
  may_list held (inr (other, inr doubt)) h = after_to tells at other held name len doubt h

  may_valid : (held : Stores) → MayHold tells at held → (i : ℕ) (m : ManifestState) → slice_get ms i ≡ Some m → AreHeld m.granularity (tier i held)
  may_valid held (inl has) i m at_place = (has.known.each i m at_place).valid
  may_valid held (inr (other, inl doubt)) i m at_place = (doubt.known.each i m at_place).valid
  may_valid held (inr (other, inr doubt)) i m at_place = doubt.valid_after i m at_place

  may_three : (held : Stores) → MayHold tells at held → length ms ≡ 3
  may_three held (inl has) = has.known.three
  may_three held (inr (other, inl doubt)) = doubt.known.three
  may_three held (inr (other, inr doubt)) = doubt.known.three

  -- and where it lists the name, it does so no shorter
  may_spares : (held : Stores) → MayHold tells at held → IsNoShorter at name len → Spares held name len
  may_spares held (inl has) short = known_spares at held name len has.known short
  may_spares held (inr (other, inl doubt)) short = known_spares at held name len doubt.known short
  may_spares held (inr (other, inr doubt)) short = after_spares tells at other held name len doubt short

  module _ (held : Stores) (may : MayHold tells at held) (i : ℕ) (move : Moving) (files : List Filed) (runs : RunsBeside i tells (beside at limbo) move files held) where
    -- a file that is opened so far is to be listed at least so far
    reaches : (f : Filed) → Contains files f → file_of (i + 1, held.rows) f.entry ≡ name → len ≤ f.entry.len
    reaches f within is = elim there [
      | inr r ↦ elim (listed_at (list_at i held) (filed_at f)) [
        | inl none ↦
            let longer = r.longer in
            let more = runs.ahead.longer_retired r.file f r.within within (r.named ∙ sym is) none in
            omega (arith, longer, more)
        | inr (h, h_in, h_at, there) ↦
            let m = manifest_of ms i move.granularity runs.to_coarse in
            let valid = subst (λ (g : Granularity). AreHeld g (tier i held)) m.2 (may_valid held may i m.0 m.1) in
            let h_is = All-contains (IsListed move.granularity held.rows) (list_at i held) h valid.filed.listed h_in in
            let f_is = All-contains (IsListed move.granularity held.rows) files f (runs.ahead.filed move.granularity runs.to_coarse).listed within in
            let named : file_of (i + 1, held.rows) h.entry ≡ name = same_file move.granularity (i + 1) held.rows h f h_is f_is h_at ∙ is in
            let short = may_spares held may r.no_shorter i (within_three ms i m.0 (may_three held may) m.1) in
            let long = All-contains (Longer i held.rows name len) (list_at i held) h (by_files i held.rows (list_at i held) name len short) h_in named in
            let more = runs.ahead.longer h f h_in within h_at in
            omega (arith, long, more)
      ]
      | inl h ↦
          let own = name_listed at name len h in
          let number : i + 1 ≡ name.0 = ap (λ (n : Name). n.0) is in
          let to = subst (λ (k : ℕ). ListsTo k held name len) (omega (arith, own, number)) (may_list held may h) in
          let x = contains_map (list_at i held) to.entry to.within in
          let m = manifest_of ms i move.granularity runs.to_coarse in
          let valid = subst (λ (g : Granularity). AreHeld g (tier i held)) m.2 (may_valid held may i m.0 m.1) in
          let x_is = All-contains (IsListed move.granularity held.rows) (list_at i held) x.0 valid.filed.listed x.1 in
          let f_is = All-contains (IsListed move.granularity held.rows) files f (runs.ahead.filed move.granularity runs.to_coarse).listed within in
          let named : file_of (i + 1, held.rows) x.0.entry ≡ file_of (i + 1, held.rows) f.entry = ap (λ (e : Entry). file_of (i + 1, held.rows) e) x.2 ∙ (to.named ∙ sym is) in
          let more = runs.ahead.longer x.0 f x.1 within (same_place move.granularity (i + 1) held.rows x.0 f valid.keys x_is f_is named) in
          let same_len = ap (λ (e : Entry). e.len) x.2 in
          let longer = to.longer in
          omega (arith, more, same_len, longer)
    ]

    unopened_files : IsTrue tells → AreUnopened (of_files i held files) (shows after).opened
    unopened_files told k x lt =
        let f : Filed = get_or files k x in
        let n = file_of (i + 1, held.rows) f.entry in
        let was = (runs.ahead.safe told).unopened k x lt in
        elim (name_cases n name) [
          | inr apart ↦ let is : (shows after).opened n ≡ (shows d).opened n = others told n apart in omega (arith, is, was)
          | inl is ↦
              let long = reaches f (Contains-get_or files k x lt) is in
              let is_after : (shows after).opened n ≡ (shows after).opened name = ap (shows after).opened is in
              let is_before : (shows d).opened n ≡ (shows d).opened name = ap (shows d).opened is in
              let le = here told in
              omega (arith, is_after, is_before, le, was, long)
        ]

    runs_opened : RunsBeside i tells (beside later limbo) move files held
    runs_opened = record {
      from = runs.from;
      next = runs.next;
      fine = runs.fine;
      from_fine = runs.from_fine;
      to_coarse = runs.to_coarse;
      running = runs.running;
      numbers = runs.numbers;
      row = runs.row;
      stands = runs.stands;
      name = runs.name;
      parts = runs.parts;
      last = runs.last;
      pending = runs.pending;
      ahead = record {
        rise = runs.ahead.rise;
        filed = runs.ahead.filed;
        safe = λ told. safe_read (of_files i held files) (shows d) (shows after) (runs.ahead.safe told) (passes told) (same told) (unopened_files told);
        longer = runs.ahead.longer;
        longer_retired = runs.ahead.longer_retired;
      };
    }

  -- each move that ran beside the stores does so still
  pub opened_beside : KeepsBeside tells (beside at limbo) (beside later limbo)
  opened_beside held may i move files runs = runs_opened held may i move files runs

-- where nothing stands in doubt a listed file is listed to its length
pub listed_to : (tells : Bool) (at : Seen) (held : Stores) (store : ℕ) (e : Entry) (name : Name) → Has tells at held → IsListedIn at.manifests store e → name ≡ file_of (store, at.catalogue.rows) e → IsHeldTo at name e.len
listed_to tells at held store e name has l named = record {
  place = l.place;
  manifest = l.manifest;
  here = l.here;
  listed = record { entry = e; within = l.listed; named = ap (λ (k : ℕ). file_of (k, at.catalogue.rows) e) (sym l.is) ∙ sym named; longer = omega arith };
  in_doubt = λ unsound. absurd (cc (unsound, has.settled.manifests l.place l.manifest l.here));
  rows_in_doubt = λ unsound. absurd (cc (unsound, has.settled.catalogue));
}
