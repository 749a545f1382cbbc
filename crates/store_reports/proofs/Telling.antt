-- What calls leave, what the stores list, and what a check has told, file by file.
use Rattle.std.proofs.Common.{◌∙◌, refl, arith, ◌≡◌, ℕ, List, sym, ap, subst, ◌≤◌, ◌++◌, ◌+◌, ◌<◌, Bool, length, Option, Some, append_assoc, inl, inr, Result, Ok, Err, ◌-◌, get_or, None, [], ◌∷◌, map, true, false, take, drop}
use Rattle.pv_catalog.specs.declared.row.Row.{Row}
use Rattle.std.specs.Prelude.{All, Contains, slice_get, filter, nat_eq, IsTrue, IfErr, nat_lt, IfOk}
use Rattle.std.proofs.lemmas.List.Elements.{All-contains_itself, All-map, All-nil, All-weaker, All-head, All-tail, All-append, All-filter, All-contains, All-push, filter_map-append, recursion_from_All}
use Rattle.pins.specs.declared.choosing.Listed.{Listed}
use Rattle.store_manifest.specs.declared.entry.Entry.{Entry}
use Rattle.tier_store.specs.Change.{Has, IsListedIn}
use Rattle.tier_store.specs.Seen.{Seen, seen}
use Rattle.tier_store.specs.Stores.{Stores, list_at}
use Rattle.disk_model.specs.declared.disk.Disk.{Ghosts}
use Rattle.durable_write.specs.Ends.{IsFailed, End, end_of_disk}
use Rattle.tier_store.specs.declared.store.TierStore.{TierStore}
use Rattle.store_reports.specs.Keeping.{KeepsStores}
use Rattle.disk_model.specs.Files.{Files, Rose, HasFile}
use Rattle.edge_io.specs.declared.buffer.PutErr.{PutErr}
use Rattle.store_reports.specs.declared.inspection.CheckErr.{CheckErr}
use Rattle.store_reports.specs.declared.inspection.CheckErr.TheVariants.{SinkFault, DiskFault, ReadFault, OutOfMemory}
use Rattle.store_reports.specs.Telling.{Shows, err_of_put, EndsAs, IsCounted, Leaves, end_of, err_of_disk, AreTold, Remains}
use Rattle.edge_io.specs.declared.buffer.PutErr.TheVariants as put
use Rattle.pins.specs.Choosing.{listed}
use Rattle.store_manifest.specs.Manifest.{ManifestState}
use Rattle.durable_write.specs.Held.{entry_of, Filed, IsListed, filed_at, IsFiled, bytes_of}
use Rattle.tier_store.specs.Pinning.{entries_of}
use Rattle.store_reports.specs.Listing.{all_entries, files_listed, files_at, entries_at, name_of}
use Rattle.std.proofs.lemmas.List.{append-nil, get_or-map, length-map, map-append, length-take-le, map_push, flat_map_more, take_all, take_more, take-append-drop}
use Rattle.partition_names.specs.declared.granularity.Granularity.{Granularity}
use Rattle.edge_io.specs.Stream.{AppendsFront}
use Rattle.edge_io.specs.Sent.{Sends}
use Rattle.durable_write.proofs.Staying.{rose_after, same_then}
use Rattle.tier_store.proofs.OnePlace.{nothing_read}
use Rattle.disk_model.specs.declared.disk.DiskErr.{DiskErr}
use Rattle.disk_model.specs.declared.disk.DiskErr.TheVariants.{Fault, Memory}
use Rattle.pv_catalog.specs.Catalogue.{CatalogueState}
use Rattle.durable_write.specs.Plan.{of_row}
use Rattle.tier_store.proofs.Tallies.{own_files}
use Rattle.std.proofs.lemmas.Bool.{cases_lt}
use Rattle.std.proofs.lemmas.Option.{none-some, slice_get_cases}
use Rattle.std.proofs.lemmas.Bool.Decides.{nat_tests}
use Rattle.store_manifest.specs.Entries.{comes_before}
use Rattle.durable_write.specs.Flush.{PlacesRise}
use Rattle.tier_store.proofs.Places.{manifest_at, listed_file, front_there}
use Rattle.std.proofs.KnownBytes.{Appends-trans}
use Rattle.edge_io.proofs.Sending as sending
use Rattle.std.specs.List.{cons_option, filter_map}
use Rattle.std.specs.Option.{option_or}
use Rattle.disk_model.specs.Past.{MayLeave}
use Rattle.partition_names.specs.Part.{HoldsMoment}
use Rattle.pb_file.specs.declared.check.Verdict.{Verdict}
use Rattle.pb_file.specs.Verdict.{IsGood, IsDamaged}
use Rattle.pb_file.proofs.Verdicts.{one_verdict}
use Rattle.series_model.specs.declared.sample.Sample.{Sample}
use Rattle.edge_io.proofs.Sending.{sends_none, sends_then, front_out}
use Rattle.store_reports.specs.declared.report.Damage.{Damage}
use Rattle.store_reports.specs.declared.report.Finding.{Finding}
use Rattle.store_reports.specs.Check.{Inspected, file_in, Finds, IsFound, file_line, lines_of, damage_of, first_damage, Checks, Inspects, InspectsSome}
use Rattle.pb_file.specs.declared.check.Verdict.TheVariants as verdict
use Rattle.store_reports.specs.declared.report.Finding.TheVariants as found

-- What is left of the stores, call by call.

module _ {D R : Type 0} (disk : Ghosts D R) where
  -- nothing was done
  pub keeps_none : {A E : Type 0} (s : TierStore D R) (end : End A E) → (IsFailed end → ⊥) → KeepsStores disk s s end
  keeps_none s end not_failed = record {
    has = λ held has. has;
    catalogue = refl;
    manifests = refl;
    pinned = refl;
    limbo = refl;
    shown = λ name bytes shows. shows;
    reads = nothing_read disk.tells (seen disk s) end not_failed;
  }

  -- it ended otherwise, and failed only where it did
  pub keeps_as : {A B E F : Type 0} (old new : TierStore D R) (e : End A E) (f : End B F) → (IsFailed f → IsFailed e) → KeepsStores disk old new e → KeepsStores disk old new f
  keeps_as old new e f failed kept = record {
    has = kept.has;
    catalogue = kept.catalogue;
    manifests = kept.manifests;
    pinned = kept.pinned;
    limbo = kept.limbo;
    shown = kept.shown;
    reads = record { files = kept.reads.files; any_moment = kept.reads.any_moment; faults = kept.reads.faults; cause = λ is. kept.reads.cause (failed is) };
  }

  pub keeps_then : {A B E F : Type 0} (old mid new : TierStore D R) (e : End A E) (f : End B F) → KeepsStores disk old mid e → KeepsStores disk mid new f → KeepsStores disk old new f
  keeps_then old mid new e f first second = record {
    has = λ held has. second.has held (first.has held has);
    catalogue = second.catalogue ∙ first.catalogue;
    manifests = second.manifests ∙ first.manifests;
    pinned = second.pinned ∙ first.pinned;
    limbo = second.limbo ∙ first.limbo;
    shown = λ name bytes shows. second.shown name bytes (first.shown name bytes shows);
    reads = record {
      files = λ told. second.reads.files told ∙ first.reads.files told;
      any_moment = λ told. same_then (disk.past old.disk) (disk.past mid.disk) (disk.past new.disk) (first.reads.any_moment told) (second.reads.any_moment told);
      faults = let low = first.reads.faults in let high = second.reads.faults in omega (arith, low, high);
      cause = λ failed. rose_after (disk.faults old.disk) (disk.faults mid.disk) (disk.faults new.disk) first.reads.faults (second.reads.cause failed);
    };
  }

-- What a check leaves, call by call.

rose_within : (a b c d : ℕ) → a ≤ b → c ≤ d → Rose b c → Rose a d
rose_within a b c d low high rose = grind arith

-- a fault that was counted in a part of the time was counted
counted_within : {R : Type 0} (faults : R → ℕ) (a b c d : ℕ) (e : CheckErr R) → a ≤ b → c ≤ d → IsCounted faults b c e → IsCounted faults a d e
counted_within faults a b c d SinkFault low high rose = rose_within a b c d low high rose
counted_within faults a b c d DiskFault low high counted = tt
counted_within faults a b c d (ReadFault file) low high counted = counted
counted_within faults a b c d OutOfMemory low high counted = tt

-- no write was counted where none was made
pub unwritten : {R : Type 0} (faults : R → ℕ) (e : CheckErr R) → IsCounted faults 0 0 e → e ≡ SinkFault → ⊥
unwritten faults e counted is = let rose : Rose 0 0 = subst (IsCounted faults 0 0) is counted in absurd (omega (arith, rose))

pub counted_first : (before now : ℕ) → before ≡ 0 → Rose before now → 1 ≤ now
counted_first before now none rose = grind arith

module _ {D R : Type 0} (disk : Ghosts D R) (faults : R → ℕ) where
  pub leaves_none : (s : TierStore D R) (writes : ℕ) → Leaves {X = Unit {0}} disk s s faults writes writes (Ok tt)
  leaves_none s writes = record { stores = keeps_none disk s _ (λ failed. failed); writes = omega arith; cause = tt }

  pub leaves_then : {X Y : Type 0} (old mid new : TierStore D R) (a b c : ℕ) (first : Result X (CheckErr R)) (r : Result Y (CheckErr R)) → Leaves disk old mid faults a b first → Leaves disk mid new faults b c r → Leaves disk old new faults a c r
  leaves_then {X} {Y} old mid new a b c first r one two = record { stores = keeps_then disk old mid new _ _ one.stores two.stores; writes = let low = one.writes in let high = two.writes in omega (arith, low, high); cause = by_result r two.cause }
    where
      by_result : (r : Result Y (CheckErr R)) → IfErr r (IsCounted faults b c) → IfErr r (IsCounted faults a c)
      by_result (Ok y) counted = tt
      by_result (Err e) counted = counted_within faults a b c c e one.writes (omega arith) counted

  -- a file was opened, and then no more was done to the stores
  pub leaves_opened : {X Y : Type 0} (old new : TierStore D R) (writes : ℕ) (opened : Result Y DiskErr) (r : Result X (CheckErr R)) → KeepsStores disk old new (end_of_disk opened) → (IsFailed (end_of r) → IsFailed (end_of_disk opened)) → IfErr r (IsCounted faults writes writes)
      → Leaves disk old new faults writes writes r
  leaves_opened old new writes opened r kept failed counted = record { stores = keeps_as disk old new _ _ failed kept; writes = omega arith; cause = counted }

  -- none was opened
  pub leaves_unopened : {X Y : Type 0} (old new : TierStore D R) (writes : ℕ) (opened : Result Y DiskErr) (d : DiskErr) → opened ≡ Err d → KeepsStores disk old new (end_of_disk opened) → Leaves {X = X} disk old new faults writes writes (Err (err_of_disk d))
  leaves_unopened {X} {Y} old new writes opened d is kept = by_err d (subst (λ (r : Result Y DiskErr). KeepsStores disk old new (end_of_disk r)) is kept)
    where
      by_err : (d : DiskErr) → KeepsStores disk old new (end_of_disk {A = Y} (Err d)) → Leaves {X = X} disk old new faults writes writes (Err (err_of_disk d))
      by_err Fault kept = let r : Result Y DiskErr = Err Fault in leaves_opened old new writes r (Err DiskFault) kept (λ failed. failed) tt
      by_err Memory kept = let r : Result Y DiskErr = Err Memory in leaves_opened old new writes r (Err OutOfMemory) kept (λ failed. failed) tt

  -- the sink was written to, and it ended for a reason that isn't the disk's
  pub leaves_written : {X Y : Type 0} (old new : TierStore D R) (a b c : ℕ) (first : Result X (CheckErr R)) (r : Result Y (CheckErr R)) → Leaves disk old new faults a b first → b ≤ c → (IsFailed (end_of r) → ⊥) → IfErr r (IsCounted faults a c) → Leaves disk old new faults a c r
  leaves_written old new a b c first r was more other counted = record { stores = keeps_as disk old new _ _ (λ failed. absurd (other failed)) was.stores; writes = let low = was.writes in omega (arith, low, more); cause = counted }

  -- a line wasn't taken
  pub leaves_put : {X Y : Type 0} (old new : TierStore D R) (a b c : ℕ) (first : Result X (CheckErr R)) (e : PutErr) → Leaves disk old new faults a b first → b ≤ c → (e ≡ put.SinkFault → Rose b c) → Leaves {X = Y} disk old new faults a c (Err (err_of_put e))
  leaves_put old new a b c first put.SinkFault was more rose = leaves_written old new a b c first (Err SinkFault) was more (λ failed. failed) (rose_within a b c c was.writes (omega arith) (rose refl))
  leaves_put old new a b c first put.Memory was more rose = leaves_written old new a b c first (Err OutOfMemory) was more (λ failed. failed) tt

  -- what is gathered is written at the end
  pub leaves_ended : {X Y : Type 0} (old new : TierStore D R) (a b c : ℕ) (told : Result X (CheckErr R)) (r : Result Y (CheckErr R)) → Leaves disk old new faults a b told → b ≤ c → EndsAs b c told r → Leaves disk old new faults a c r
  leaves_ended old new a b c (Ok x) (Ok y) was more ends = leaves_written old new a b c (Ok x) (Ok y) was more (λ failed. failed) tt
  leaves_ended old new a b c (Err e) (Ok y) was more ends = absurd ends
  leaves_ended {X} {Y} old new a b c told (Err e) was more (inl is) =
      let same = subst (λ (r : Result X (CheckErr R)). Leaves disk old new faults a b r) is was in
      record { stores = keeps_as disk old new _ _ (λ failed. failed) same.stores; writes = let low = was.writes in omega (arith, low, more); cause = counted_within faults a a b c e (omega arith) more same.cause }
  leaves_ended {X} {Y} old new a b c told (Err e) was more (inr (is, rose)) =
      let P : CheckErr R → Type 0 = λ x. Leaves {X = Y} disk old new faults a c (Err x) in
      subst P (sym is) (leaves_written old new a b c told (Err SinkFault) was more (λ failed. failed) (rose_within a b c c was.writes (omega arith) rose))

  -- the stores show still what they showed
  pub shows_still : {X : Type 0} (old new : TierStore D R) (a b : ℕ) (r : Result X (CheckErr R)) (rows : List Row) (files : Files) → Leaves disk old new faults a b r → Shows disk.tells (seen disk old) rows files → Shows disk.tells (seen disk new) rows files
  shows_still old new a b r rows files leaves shows = record { rows = ap (λ (c : CatalogueState). c.rows) leaves.stores.catalogue ∙ shows.rows; files = λ told. leaves.stores.reads.files told ∙ shows.files told }

-- What the stores list, place by place.

-- what a row's entries are of all
pub own_of_all : (row : ℕ) (o : Option ManifestState) → entries_of row o ≡ filter (λ (e : Entry). nat_eq e.series row) (all_entries o)
own_of_all row None = refl
own_of_all row (Some m) = refl

-- the manifest of a store, by its number
pub manifest_there : (ms : List ManifestState) (store : ℕ) (m : ManifestState) → 1 ≤ store → ((i : ℕ) → store ≡ i + 1 → slice_get ms i ≡ Some m) → slice_get ms (store - 1) ≡ Some m
manifest_there ms store m low here = here (store - 1) (omega (arith, low))

-- so what is seen of its list of a row
pub own_there : (ms : List ManifestState) (store row : ℕ) (m : ManifestState) (entries : List Entry) → 1 ≤ store → ((i : ℕ) → store ≡ i + 1 → slice_get ms i ≡ Some m) → entries ≡ filter (λ (e : Entry). nat_eq e.series row) m.entries → entries ≡ entries_of row (slice_get ms (store - 1))
own_there ms store row m entries low here are = are ∙ sym (ap (entries_of row) (manifest_there ms store m low here))

-- the listed file at a place of a list
pub listed_at : (store : ℕ) (es : List Entry) (i : ℕ) (e : Entry) → i < length es → e ≡ get_or es i e → ◌≡◌ {A = Listed} (record { store = store; entry = e }) (get_or (listed store es) i (record { store = store; entry = e }))
listed_at store es i e within is =
    let f : Entry → Listed = λ x. record { store = store; entry = x } in
    ap f is ∙ sym (get_or-map f es i e (f e) within)

pub listed_length : (store : ℕ) (es : List Entry) → length (listed store es) ≡ length es
listed_length store es = let f : Entry → Listed = λ x. record { store = store; entry = x } in length-map es f

-- each listed file is listed in its store
abbrev pub Lists : List ManifestState → Listed → Type 0
Lists ms l = IsListedIn ms l.store l.entry

place_lists : (ms : List ManifestState) (store place : ℕ) → store ≡ place + 1 → store - 1 ≡ place → All (Lists ms) (files_at store ms)
place_lists ms store place is at = subst (λ (p : ℕ). All (Lists ms) (listed store (all_entries (slice_get ms p)))) (sym at) (go (slice_get ms place) refl)
  where
    go : (o : Option ManifestState) → o ≡ slice_get ms place → All (Lists ms) (listed store (all_entries o))
    go None same = All-nil (Lists ms)
    go (Some m) same =
        let f : Entry → Listed = λ x. record { store = store; entry = x } in
        All-map (Lists ms) f m.entries (All-weaker (Contains m.entries) (λ (e : Entry). Lists ms (f e)) (λ e has. record { place = place; manifest = m; is = is; here = sym same; listed = has }) m.entries (All-contains_itself m.entries))

pub all_lists : (ms : List ManifestState) → All (Lists ms) (files_listed ms)
all_lists ms = All-append (Lists ms) (files_at 1 ms ++ files_at 2 ms) (files_at 3 ms) (All-append (Lists ms) (files_at 1 ms) (files_at 2 ms) (place_lists ms 1 0 refl refl) (place_lists ms 2 1 refl refl)) (place_lists ms 3 2 refl refl)

-- how many files a store lists of a row is how many it has
pub own_number : (tells : Bool) (at : Seen) (held : Stores) → Has tells at held → (k row : ℕ) → k < 3 → length (entries_of row (slice_get at.manifests k)) ≡ length (of_row row (list_at k held))
own_number tells at held has k row low = ap length (own_files tells at held has k row low) ∙ length-map (of_row row (list_at k held)) entry_of

-- Entries in the order of series are those of each series, one after another.

-- the entries of a series
abbrev pub own : List Entry → ℕ → List Entry
own entries n = filter (λ (e : Entry). nat_eq e.series n) entries

-- the entries of series below this one
abbrev pub below : ℕ → List Entry → List Entry
below n entries = filter (λ (e : Entry). nat_lt e.series n) entries

-- each series is no less than those before it
abbrev pub SeriesRise : List Entry → Type 0
SeriesRise [] = Unit {0}
SeriesRise (e ∷ es) = All (λ (d : Entry). e.series ≤ d.series) es × SeriesRise es

-- none of these is
none_passes : (p : Entry → Bool) (es : List Entry) → All (λ (e : Entry). p e ≡ false) es → filter p es ≡ []
none_passes p [] all = refl
none_passes p (e ∷ es) all = rw (All-head (λ (x : Entry). p x ≡ false) e es all) (none_passes p es (All-tail (λ (x : Entry). p x ≡ false) e es all))

not_below : (n m : ℕ) → n ≤ m → nat_lt m n ≡ false
not_below n m le = grind arith

is_below : (n m : ℕ) → m < n → nat_lt m n ≡ true
is_below n m lt = grind arith

is_same : (n m : ℕ) → m ≡ n → nat_eq m n ≡ true
is_same n m is = grind arith

is_other : (n m : ℕ) → n < m → nat_eq m n ≡ false
is_other n m lt = grind arith

is_less : (n m : ℕ) → m < n → nat_eq m n ≡ false
is_less n m lt = grind arith

-- one series more
pub below_more : (n : ℕ) (es : List Entry) → SeriesRise es → below (n + 1) es ≡ below n es ++ own es n
below_more n [] rise = refl
below_more n (e ∷ es) rise = elim (cases_lt e.series n) [
  | inl less ↦
      let now : nat_lt e.series (n + 1) ≡ true = is_below (n + 1) e.series (omega arith) in
      rw (now, is_below n e.series less, is_less n e.series less) (ap (λ (l : List Entry). e ∷ l) (below_more n es rise.1))
  | inr from ↦ elim (cases_lt n e.series) [
    | inl greater ↦
        let all_low : below n es ≡ [] = none_passes _ es (All-weaker (λ (d : Entry). e.series ≤ d.series) (λ (d : Entry). nat_lt d.series n ≡ false) (λ d le. not_below n d.series (omega (arith, le))) es rise.0) in
        let all_now : below (n + 1) es ≡ [] = none_passes _ es (All-weaker (λ (d : Entry). e.series ≤ d.series) (λ (d : Entry). nat_lt d.series (n + 1) ≡ false) (λ d le. not_below (n + 1) d.series (omega (arith, le))) es rise.0) in
        let mine : own es n ≡ [] = none_passes _ es (All-weaker (λ (d : Entry). e.series ≤ d.series) (λ (d : Entry). nat_eq d.series n ≡ false) (λ d le. is_other n d.series (omega (arith, le))) es rise.0) in
        rw (not_below (n + 1) e.series (omega arith), not_below n e.series from, is_other n e.series greater) (rw (all_low, all_now, mine) refl)
    | inr till ↦
        let same : e.series ≡ n = omega arith in
        let all_low : below n es ≡ [] = none_passes _ es (All-weaker (λ (d : Entry). e.series ≤ d.series) (λ (d : Entry). nat_lt d.series n ≡ false) (λ d le. not_below n d.series (omega (arith, le))) es rise.0) in
        let more = below_more n es rise.1 in
        let now : below (n + 1) es ≡ own es n = more ∙ ap (λ (l : List Entry). l ++ own es n) all_low in
        rw (is_below (n + 1) e.series (omega arith), not_below n e.series from, is_same n e.series same) (rw all_low (ap (λ (l : List Entry). e ∷ l) now))
  ]
]

pub below_none : (es : List Entry) → below 0 es ≡ []
below_none es = none_passes _ es (All-weaker (Contains es) (λ (e : Entry). nat_lt e.series 0 ≡ false) (λ e has. not_below 0 e.series (omega arith)) es (All-contains_itself es))

pub below_all : (n : ℕ) (es : List Entry) → All (λ (e : Entry). e.series < n) es → below n es ≡ es
below_all n [] all = refl
below_all n (e ∷ es) all = rw (is_below n e.series (All-head (λ (x : Entry). x.series < n) e es all)) (ap (λ (l : List Entry). e ∷ l) (below_all n es (All-tail (λ (x : Entry). x.series < n) e es all)))

-- those of series from this one on stand behind
pub below_rest : (n : ℕ) (es : List Entry) → SeriesRise es → (rest : List Entry) × (es ≡ below n es ++ rest)
below_rest n [] rise = ([], refl)
below_rest n (e ∷ es) rise = elim (cases_lt e.series n) [
  | inl less ↦ let r = below_rest n es rise.1 in (r.0, rw (is_below n e.series less) (ap (λ (l : List Entry). e ∷ l) r.1))
  | inr from ↦
      let all_low : below n es ≡ [] = none_passes _ es (All-weaker (λ (d : Entry). e.series ≤ d.series) (λ (d : Entry). nat_lt d.series n ≡ false) (λ d le. not_below n d.series (omega (arith, le))) es rise.0) in
      (e ∷ es, rw (not_below n e.series from) (rw all_low refl))
]

-- each series' entries are listed
pub own_listed : (es : List Entry) (n : ℕ) → All (Contains es) (own es n)
own_listed es n = All-filter (λ (e : Entry). nat_eq e.series n) (Contains es) es (All-contains_itself es)

-- listed files are in the order of series
pub series_rise : (fs : List Filed) → PlacesRise fs → SeriesRise (map entry_of fs)
series_rise [] rise = tt
series_rise (f ∷ fs) rise = (
  All-map (λ (d : Entry). f.entry.series ≤ d.series) entry_of fs (All-weaker (λ (h : Filed). IsTrue (comes_before (filed_at f) (filed_at h))) (λ (h : Filed). f.entry.series ≤ h.entry.series) (λ h lt. no_less f.entry.series f.entry.part.start h.entry.series h.entry.part.start lt) fs rise.0),
  series_rise fs rise.1,
)
  where
    no_less : (a b c d : ℕ) → IsTrue (comes_before (a, b) (c, d)) → a ≤ c
    no_less a b c d lt = grind (arith, nat_tests, lt)

-- and each is of a row
pub of_rows : (g : Granularity) (rows : List Row) (fs : List Filed) → All (IsListed g rows) fs → All (λ (e : Entry). e.series < length rows) (map entry_of fs)
of_rows g rows fs all = All-map (λ (e : Entry). e.series < length rows) entry_of fs (All-weaker (IsListed g rows) (λ (f : Filed). f.entry.series < length rows) (λ f is. within rows f.entry.series is.row is.stands) fs all)
  where
    within : (rows : List Row) (i : ℕ) (row : Row) → slice_get rows i ≡ Some row → i < length rows
    within rows i row here = elim (slice_get_cases rows i).1 [ inl some ↦ some.1 | inr none ↦ absurd (none-some row (sym none.1 ∙ here)) ]

-- what is known of the entries that a store lists
pub record AreOrdered (rows : List Row) (entries : List Entry) : Type 0 where
  pub rise : SeriesRise entries
  pub within : All (λ (e : Entry). e.series < length rows) entries

pub ordered : (tells : Bool) (at : Seen) (held : Stores) (store : ℕ) → Has tells at held → 1 ≤ store → store ≤ 3 → AreOrdered at.catalogue.rows (entries_at store at.manifests)
ordered tells at held store has low high =
    let place = store - 1 in
    let three = has.known.three in
    let m = manifest_at at.manifests place (omega (arith, low, high, three)) in
    let known = has.known.each place m.0 m.1 in
    let files = list_at place held in
    let of : All (λ (e : Entry). e.series < length held.rows) (map entry_of files) = of_rows m.0.granularity held.rows files known.valid.filed.listed in
    let within : All (λ (e : Entry). e.series < length at.catalogue.rows) (map entry_of files) = subst (λ (r : List Row). All (λ (e : Entry). e.series < length r) (map entry_of files)) (sym has.known.rows) of in
    let same : entries_at store at.manifests ≡ map entry_of files = ap all_entries m.1 ∙ known.entries in
    subst (AreOrdered at.catalogue.rows) (sym same) (record { rise = series_rise files known.valid.apart; within = within })

-- ONE ROW MORE

module _ (store : ℕ) (before : List Listed) (ms mid : List ManifestState) (same : mid ≡ ms) (rise : SeriesRise (entries_at store ms)) where
  abbrev pub place : Entry → Listed
  place e = record { store = store; entry = e }

  abbrev pub till : ℕ → List Listed
  till n = before ++ listed store (below n (entries_at store ms))

  abbrev pub mine : ℕ → List Listed
  mine n = listed store (entries_of n (slice_get mid (store - 1)))

  pub rows_more : (n : ℕ) → till n ++ mine n ≡ till (n + 1)
  rows_more n =
      let es = entries_at store ms in
      let is : entries_of n (slice_get mid (store - 1)) ≡ own es n = ap (λ (l : List ManifestState). entries_of n (slice_get l (store - 1))) same ∙ own_of_all n (slice_get ms (store - 1)) in
      let both : listed store (below n es) ++ mine n ≡ listed store (below (n + 1) es) = ap (λ (l : List Entry). listed store (below n es) ++ listed store l) is ∙ (sym (map-append place (below n es) (own es n)) ∙ ap (listed store) (sym (below_more n es rise))) in
      append_assoc before (listed store (below n es)) (mine n) ∙ ap (λ (l : List Listed). before ++ l) both

  pub rows_rest : (n : ℕ) → (rest : List Listed) × ((till n ++ mine n) ++ rest ≡ before ++ listed store (entries_at store ms))
  rows_rest n =
      let es = entries_at store ms in
      let behind = below_rest (n + 1) es rise in
      let split : listed store es ≡ listed store (below (n + 1) es) ++ listed store behind.0 = ap (listed store) behind.1 ∙ map-append place (below (n + 1) es) behind.0 in
      (listed store behind.0, ap (λ (l : List Listed). l ++ listed store behind.0) (rows_more n) ∙ (append_assoc before (listed store (below (n + 1) es)) (listed store behind.0) ∙ ap (λ (l : List Listed). before ++ l) (sym split)))

  pub rows_none : till 0 ≡ before
  rows_none = ap (λ (l : List Entry). before ++ listed store l) (below_none (entries_at store ms)) ∙ append-nil before

  pub rows_all : (n : ℕ) → All (λ (e : Entry). e.series < n) (entries_at store ms) → till n ≡ before ++ listed store (entries_at store ms)
  rows_all n within = ap (λ (l : List Entry). before ++ listed store l) (below_all n (entries_at store ms) within)

-- What goes out of gathered bytes, piece by piece.

pub sends_still : (a b c : Option (List ℕ)) (text left new : List ℕ) → Sends a b text left → Sends b c left new → Sends a c text new
sends_still a b c text left new old next =
    let is : text ≡ (old.0 ++ next.0) ++ new = old.1 ∙ (ap (λ (u : List ℕ). old.0 ++ u) next.1 ∙ sym (append_assoc old.0 next.0 new)) in
    (old.0 ++ next.0, is, Appends-trans a b c old.0 next.0 old.2 next.2)

pub front_then : (a b c : Option (List ℕ)) (text left more : List ℕ) → Sends a b text left → AppendsFront b c (left ++ more) → AppendsFront a c (text ++ more)
front_then a b c text left more old front =
    let joined : text ++ more ≡ old.0 ++ (left ++ more) = ap (λ (u : List ℕ). u ++ more) old.1 ∙ append_assoc old.0 left more in
    subst (AppendsFront a c) (sym joined) (sending.front_then a b c old.0 (left ++ more) old.2 front)

-- What a check has told, file by file.

-- WHAT IS FOUND

-- what is found of the bytes that a reader has
pub front_found : (tells : Bool) (rows : List Row) (files : Files) (i : Inspected) (bytes : List ℕ) → (IsTrue tells → HasFile files (name_of rows i.file) (λ b. (i.file.entry.len ≤ length b) × (bytes ≡ take i.file.entry.len b)) × Finds i.file.entry.part (take i.file.entry.len bytes) i.finding) → IsFound tells rows files i
front_found tells rows files i bytes read = λ told.
    let has = (read told).0 in
    let short : length bytes ≡ i.file.entry.len = ap length has.holds.1 ∙ length-take-le i.file.entry.len has.bytes has.holds.0 in
    let same : take i.file.entry.len bytes ≡ take i.file.entry.len has.bytes = take_all i.file.entry.len bytes (omega (arith, short)) ∙ has.holds.1 in
    record { bytes = has.bytes; file = has.file; holds = subst (λ (b : List ℕ). Finds i.file.entry.part b i.finding) same (read told).1 }

-- it is found of what the store showed before
pub found_before : (tells : Bool) (s : Seen) (rows : List Row) (files : Files) (i : Inspected) → Shows tells s rows files → IsFound tells s.catalogue.rows s.files i → IsFound tells rows files i
found_before tells s rows files i shows is = λ told.
    let P : List ℕ → Type 0 = λ b. Finds i.file.entry.part (take i.file.entry.len b) i.finding in
    subst (λ (f : Files). HasFile f (name_of rows i.file) P) (shows.files told) (subst (λ (r : List Row). HasFile s.files (name_of r i.file) P) shows.rows (is told))

-- THE FIRST DAMAGE

first_of_both : (xs ys : List Damage) → slice_get (xs ++ ys) 0 ≡ option_or (slice_get xs 0) (slice_get ys 0)
first_of_both [] ys = refl
first_of_both (x ∷ xs) ys = refl

first_of_one : (o : Option Damage) → slice_get (cons_option o []) 0 ≡ o
first_of_one None = refl
first_of_one (Some d) = refl

first_more : (rows : List Row) (is : List Inspected) (i : Inspected) → first_damage rows (is ++ i ∷ []) ≡ option_or (first_damage rows is) (damage_of (name_of rows i.file) i.finding)
first_more rows is i =
    let h : Inspected → Option Damage = λ x. damage_of (name_of rows x.file) x.finding in
    ap (λ (l : List Damage). slice_get l 0) (filter_map-append h is (i ∷ [])) ∙ first_of_both (filter_map h is) (cons_option (h i) []) ∙ ap (option_or (first_damage rows is)) (first_of_one (h i))

none_damaged : (tells : Bool) (rows : List Row) (files : Files) (all : List Listed) (is : List Inspected) → ((i : Inspected) → Contains all i.file → IsFound tells rows files i → damage_of (name_of rows i.file) i.finding ≡ None)
    → All (Contains all) (map file_in is) → All (IsFound tells rows files) is → first_damage rows is ≡ None
none_damaged tells rows files all [] good within found = refl
none_damaged tells rows files all (i ∷ is) good within found =
    let here = good i (All-head (Contains all) i.file (map file_in is) within) (All-head (IsFound tells rows files) i is found) in
    rw here (none_damaged tells rows files all is good (All-tail (Contains all) i.file (map file_in is) within) (All-tail (IsFound tells rows files) i is found))

-- TELLING

module _ (tells : Bool) (rows : List Row) (files : Files) where
  become : (es : List Listed) (first : Option Damage) (P Q : List ℕ → Type 0) → ((text : List ℕ) → P text → Q text) → Inspects tells rows files es first P → Inspects tells rows files es first Q
  become es first P Q step told = record { inspected = told.inspected; are = told.are; found = told.found; damage = told.damage; lines = step (lines_of rows told.inspected) told.lines }

  some_as : (es : List Listed) (P Q : List ℕ → Type 0) → ((text : List ℕ) → P text → Q text) → InspectsSome tells rows files es P → InspectsSome tells rows files es Q
  some_as es P Q step some = record { done = some.done; rest = some.rest; split = some.split; first = some.first; inspects = become some.done some.first P Q step some.inspects }

  -- some first ones of more files
  pub some_longer : (xs ys : List Listed) (P : List ℕ → Type 0) → InspectsSome tells rows files xs P → InspectsSome tells rows files (xs ++ ys) P
  some_longer xs ys P some = record { done = some.done; rest = some.rest ++ ys; split = ap (λ (l : List Listed). l ++ ys) some.split ∙ append_assoc some.done some.rest ys; first = some.first; inspects = some.inspects }

  all_some : (es : List Listed) (first : Option Damage) (P : List ℕ → Type 0) → Inspects tells rows files es first P → InspectsSome tells rows files es P
  all_some es first P told = record { done = es; rest = []; split = sym (append-nil es); first = first; inspects = told }

  pub told_none : (a : Option (List ℕ)) (left : List ℕ) (first : Option Damage) → left ≡ [] → first ≡ None → AreTold tells rows files [] a a left first
  told_none a left first empty none = record { inspected = []; are = refl; found = All-nil (IsFound tells rows files); damage = none; lines = subst (Sends a a []) (sym empty) (sends_none a) }

  -- one file more
  more : (es : List Listed) (first then : Option Damage) (P Q : List ℕ → Type 0) (i : Inspected) → Inspects tells rows files es first P → IsFound tells rows files i → then ≡ option_or first (damage_of (name_of rows i.file) i.finding)
      → ((text : List ℕ) → P text → Q (text ++ file_line (name_of rows i.file) i.finding)) → Inspects tells rows files (es ++ i.file ∷ []) then Q
  more es first then P Q i told is now step = record {
    inspected = told.inspected ++ i ∷ [];
    are = ap (λ (l : List Listed). l ++ i.file ∷ []) told.are ∙ sym (map_push file_in told.inspected i);
    found = All-push (IsFound tells rows files) told.inspected i told.found is;
    damage = now ∙ ap (λ (o : Option Damage). option_or o (damage_of (name_of rows i.file) i.finding)) told.damage ∙ sym (first_more rows told.inspected i);
    lines = subst Q (flat_map_more (λ (x : Inspected). file_line (name_of rows x.file) x.finding) [] told.inspected i) (step (lines_of rows told.inspected) told.lines);
  }

  pub told_more : (before : List Listed) (a b c : Option (List ℕ)) (left new : List ℕ) (first then : Option Damage) (i : Inspected) (shown : List Row) → shown ≡ rows → AreTold tells rows files before a b left first → IsFound tells rows files i
      → Sends b c (left ++ file_line (name_of shown i.file) i.finding) new → then ≡ option_or first (damage_of (name_of shown i.file) i.finding) → AreTold tells rows files (before ++ i.file ∷ []) a c new then
  told_more before a b c left new first then i shown same told is sent now =
      let line = subst (λ (r : List Row). Sends b c (left ++ file_line (name_of r i.file) i.finding) new) same sent in
      more before first then _ _ i told is (subst (λ (r : List Row). then ≡ option_or first (damage_of (name_of r i.file) i.finding)) same now) (λ text sends. sends_then a b c text left (file_line (name_of rows i.file) i.finding) new sends line)

  -- its line wasn't taken
  pub told_err : (R : Type 0) (before : List Listed) (a b c : Option (List ℕ)) (left new : List ℕ) (first : Option Damage) (i : Inspected) (shown : List Row) (e : PutErr) → shown ≡ rows → AreTold tells rows files before a b left first → IsFound tells rows files i
      → (e ≡ put.Memory → Sends b c left new) → (e ≡ put.SinkFault → AppendsFront b c (left ++ file_line (name_of shown i.file) i.finding)) → InspectsSome tells rows files (before ++ i.file ∷ []) (Remains {R = R} (err_of_put e) a c new)
  told_err R before a b c left new first i shown put.Memory same told is still front = some_longer before (i.file ∷ []) _ (all_some before first _ (become before first _ _ (λ text sends. sends_still a b c text left new sends (still refl)) told))
  told_err R before a b c left new first i shown put.SinkFault same told is still front =
      let line = subst (λ (r : List Row). AppendsFront b c (left ++ file_line (name_of r i.file) i.finding)) same (front refl) in
      all_some (before ++ i.file ∷ []) (option_or first (damage_of (name_of rows i.file) i.finding)) _ (more before first (option_or first (damage_of (name_of rows i.file) i.finding)) _ _ i told is refl (λ text sends. front_then a b c text left (file_line (name_of rows i.file) i.finding) sends line))

  -- it stopped before a line was written
  pub untold : {R : Type 0} (before rest : List Listed) (a b : Option (List ℕ)) (left : List ℕ) (first : Option Damage) (e : CheckErr R) → (e ≡ SinkFault → ⊥) → AreTold tells rows files before a b left first → InspectsSome tells rows files (before ++ rest) (Remains e a b left)
  untold {R} before rest a b left first e other told = some_longer before rest _ (all_some before first _ (become before first _ _ (λ text sends. remains e other text sends) told))
    where
      remains : (e : CheckErr R) → (e ≡ SinkFault → ⊥) → (text : List ℕ) → Sends a b text left → Remains e a b left text
      remains SinkFault other text sends = absurd (other refl)
      remains DiskFault other text sends = sends
      remains (ReadFault file) other text sends = sends
      remains OutOfMemory other text sends = sends

  pub told_front : (es : List Listed) (a b c : Option (List ℕ)) (left : List ℕ) (first : Option Damage) → AreTold tells rows files es a b left first → AppendsFront b c left → InspectsSome tells rows files es (AppendsFront a c)
  told_front es a b c left first told front = all_some es first _ (become es first _ _ (λ text sends. front_out a b c text left sends front) told)

  pub stopped_front : {R : Type 0} (es : List Listed) (a b c : Option (List ℕ)) (left : List ℕ) (e : CheckErr R) → (e ≡ SinkFault → ⊥) → InspectsSome tells rows files es (Remains e a b left) → AppendsFront b c left → InspectsSome tells rows files es (AppendsFront a c)
  stopped_front {R} es a b c left e other some front = some_as es _ _ (λ text remains. out e other text remains) some
    where
      out : (e : CheckErr R) → (e ≡ SinkFault → ⊥) → (text : List ℕ) → Remains e a b left text → AppendsFront a c text
      out SinkFault other text remains = absurd (other refl)
      out DiskFault other text remains = front_out a b c text left remains front
      out (ReadFault file) other text remains = front_out a b c text left remains front
      out OutOfMemory other text remains = front_out a b c text left remains front

-- FILE BY FILE

pub one_taken : (before es : List Listed) (i : ℕ) (e : Listed) → i < length es → e ≡ get_or es i e → (before ++ take i es) ++ e ∷ [] ≡ before ++ take (i + 1) es
one_taken before es i e within is =
    let more : take (i + 1) es ≡ take i es ++ e ∷ [] = take_more es i e within ∙ ap (λ (x : Listed). take i es ++ x ∷ []) (sym is) in
    append_assoc before (take i es) (e ∷ []) ∙ ap (λ (l : List Listed). before ++ l) (sym more)

pub rest_taken : (before es : List Listed) (i : ℕ) (e : Listed) → i < length es → e ≡ get_or es i e → ((before ++ take i es) ++ e ∷ []) ++ drop (i + 1) es ≡ before ++ es
rest_taken before es i e within is =
    ap (λ (l : List Listed). l ++ drop (i + 1) es) (one_taken before es i e within is) ∙ (append_assoc before (take (i + 1) es) (drop (i + 1) es) ∙ ap (λ (l : List Listed). before ++ l) (take-append-drop (i + 1) es))

-- WHERE WHAT IS HELD STANDS

last_of : (s : Sample) (rest : List Sample) → (front : List Sample) × (last : Sample) × (s ∷ rest ≡ front ++ last ∷ [])
last_of s [] = ([], s, refl)
last_of s (t ∷ rest) = let l = last_of t rest in (s ∷ l.0, l.1, ap (λ (xs : List Sample). s ∷ xs) l.2)

-- a listed file is a good one
filed_good : (g : Granularity) (rows : List Row) (f : Filed) → IsFiled g rows f → (first : ℕ) × (last : ℕ) × IsGood f.entry.part (bytes_of f) (length f.samples) first last
filed_good g rows f filed =
    let end = last_of filed.first filed.others in (
      filed.first.t,
      end.1.t,
      record {
        head = f.head;
        info = filed.info;
        samples = f.samples;
        file = filed.file;
        inside = recursion_from_All (λ (s : Sample). HoldsMoment f.entry.part s.t) f.samples filed.inside;
        number = refl;
        span = record { begins = (filed.first, filed.others, filed.some, refl); ends = (end.0, end.1, filed.some ∙ end.2, refl) };
      },
    )

-- so what is found of one is no damage
undamaged : (tells : Bool) (s : Seen) (held : Stores) → Has tells s held → IsTrue held.stands → IsTrue tells → MayLeave s.past s.files → (i : Inspected) → Contains (files_listed s.manifests) i.file → IsFound tells s.catalogue.rows s.files i → damage_of (name_of s.catalogue.rows i.file) i.finding ≡ None
undamaged tells s held has stands told seen i listed is = by_finding i.finding is
  where
    by_finding : (f : Finding) → IsFound tells s.catalogue.rows s.files (record { file = i.file; finding = f }) → damage_of (name_of s.catalogue.rows i.file) f ≡ None
    by_finding (found.Good count) is = refl
    by_finding (found.Damaged at) is =
        let e = i.file.entry in
        let name = name_of s.catalogue.rows i.file in
        let there : IsListedIn s.manifests i.file.store e = All-contains (Lists s.manifests) (files_listed s.manifests) i.file (all_lists s.manifests) listed in
        let l = listed_file tells s held i.file.store e name has there refl in
        let f = l.file in
        let known = has.known.each l.place l.manifest l.here in
        let filed : IsFiled l.manifest.granularity held.rows f = All-contains (IsFiled l.manifest.granularity held.rows) (list_at l.place held) f (known.valid.filed.filed stands) l.listed in
        let front : take e.len (is told).bytes ≡ bytes_of f = front_there tells s held i.file.store e name l (is told).bytes has told stands seen (is told).file in
        let damaged : IsDamaged e.part (bytes_of f) at = subst (λ (b : List ℕ). IsDamaged e.part b at) front (is told).holds in
        let good = filed_good l.manifest.granularity held.rows f filed in
        let is_good : IsGood e.part (bytes_of f) (length f.samples) good.0 good.1 = subst (λ (x : Entry). IsGood x.part (bytes_of f) (length f.samples) good.0 good.1) l.entry good.2 in
        let is : ◌≡◌ {A = Verdict} (verdict.Good (length f.samples) good.0 good.1) (verdict.Damaged at) = one_verdict e.part (bytes_of f) (verdict.Good (length f.samples) good.0 good.1) (verdict.Damaged at) tt tt is_good damaged in
        absurd (cc is)

pub all_stand : {R : Type 0} (tells : Bool) (s : Seen) (held : Stores) (a b : Option (List ℕ)) (r : Result (Option Damage) (CheckErr R)) → Has tells s held → IsTrue held.stands → IsTrue tells → MayLeave s.past s.files → Checks tells s.catalogue.rows s.files (files_listed s.manifests) a b r → IfOk r (λ damage. damage ≡ None)
all_stand tells s held a b (Ok first) has stands told seen all =
    let every = files_listed s.manifests in
    let within : All (Contains every) (map file_in all.inspected) = subst (All (Contains every)) all.are (All-contains_itself every) in
    all.damage ∙ none_damaged tells s.catalogue.rows s.files every all.inspected (undamaged tells s held has stands told seen) within all.found
all_stand tells s held a b (Err e) has stands told seen some = tt
