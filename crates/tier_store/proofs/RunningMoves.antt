-- Running moves beside the stores: names that a call leaves as they are, how a move begins and copies beside the stores and does so still behind
-- other calls, and what it has written, which stands ahead of what its destination lists, and may be listed.
use Rattle.std.proofs.Common.{◌≡◌, ◌≢◌, inr, Bool, ℕ, ◌≤◌, ◌+◌, List, zero, suc, [], ◌∷◌, refl, sym, ap, subst, ◌∙◌, arith, inl, ◌<◌, ◌++◌, ◌==◌, Option, None, Some, length, map, filter, get_or, take, drop, append-nil, Ok, Err}
use Rattle.std.specs.FinMap.{FinMap}
use Rattle.std.specs.Ordering.{nat_cmp}
use Rattle.std.specs.Prelude.{All, Contains, IsTrue, nat_eq, slice_get, Result, slice_set}
use Rattle.std.proofs.lemmas.List.Elements.{All-contains, All-map, All-nil, Contains-get_or, All-head, All-tail}
use Rattle.disk_model.specs.Files.{Name, Files, HasFile, Content, Rose}
use Rattle.disk_model.specs.Past.{Passes, MayLeave}
use Rattle.disk_model.proofs.Passing.{passes_none, passes_then, passes_weaker}
use Rattle.gate_journal.specs.Generations.{IsOwn, AtOwn}
use Rattle.gate_journal.proofs.Owning.{own_store}
use Rattle.pins.specs.Pieces.{PinOf}
use Rattle.durable_write.specs.Held.{Filed, Shelf, file_of, Held, AreFiled, IsFiled, IsIn, IsListed, bytes_of, entry_of, filed_at, IsListedTo, ListsStill, listing_of}
use Rattle.durable_write.specs.Three.{Beside}
use Rattle.tier_store.specs.Limbo.{IsNeeded, Removes, Spares}
use Rattle.tier_store.specs.Moving.{LeavesNames, LeavesLater, LeavesFiles, names_of, of_files, ListsParts, RunsBeside, GoesBeside, parts_in, MayBeListed, ListsAlso, publishing}
use Rattle.tier_store.specs.Pinned.{SeenAll, beside, NoneShorter, IsRetiredTo}
use Rattle.tier_store.specs.Seen.{Seen, granularities, seen_on, on_disk}
use Rattle.tier_store.specs.declared.limbo.Retired.{Retired}
use Rattle.std.proofs.lemmas.Bool.Decides.{Decides-eqb}
use Rattle.std.proofs.lemmas.List.{append_assoc, length-map, map-append, take_at, take-append-drop, take-map, take-take, take_all}
use Rattle.etl_mover.specs.Move.{Moving, HasBegun, IsMove, StillLists, of_series, IsAhead, set_entry}
use Rattle.partition_names.specs.declared.granularity.Granularity.{Granularity}
use Rattle.partition_names.specs.declared.part.Part.{Part}
use Rattle.partition_names.specs.Part.{IsPart}
use Rattle.pv_catalog.specs.declared.row.Row.{Row}
use Rattle.pv_catalog.proofs.Standing.{keeps_same}
use Rattle.store_files.specs.Fronts.{Begins}
use Rattle.store_manifest.specs.Entries.{Place, all_changed, put}
use Rattle.store_manifest.specs.Manifest.{ManifestState, manifest_name}
use Rattle.store_manifest.specs.declared.entry.Entry.{Entry}
use Rattle.durable_write.specs.Flush.{file_at, put_all, with_files}
use Rattle.durable_write.specs.Plan.{IsLastOf, of_row}
use Rattle.durable_write.specs.Stored.{AreSafe, AreHeld}
use Rattle.durable_write.proofs.Commits.{filter-map}
use Rattle.durable_write.proofs.Staying.{file_grows, filed_still, same_file, safe_both, same_cases}
use Rattle.durable_write.proofs.Places.{all_put_all, listed_at, rise_put_all, later, put_own, sooner}
use Rattle.tier_store.specs.Stores.{Stores, list_at, with_list, tier}
use Rattle.tier_store.specs.Change.{Has, IsKnownAt}
use Rattle.tier_store.proofs.Showing.{contains_filter, from_filter, none_at, Longer, by_files, to_files, GoesOn, Spares as SparesLength, still_itself}
use Rattle.tier_store.proofs.Places.{granularity_at, list_other, list_set, within_three, manifest_of, tier_other, tier_set}
use Rattle.durable_write.proofs.Written.{contains_entry, put_all_has, put_all_new, one_of_place}
use Rattle.std.proofs.lemmas.Option.{same_Some, slice_get_within}
use Rattle.durable_write.specs.Ahead.{Leads, HasCopied}
use Rattle.tier_store.proofs.OnePlace.{stored_as, list_unsure, OnStore, given_done, given_cut}
use Rattle.disk_model.specs.declared.disk.DiskErr.{DiskErr}
use Rattle.disk_model.specs.declared.disk.DiskErr.TheVariants.{Fault}
use Rattle.durable_write.specs.Relisting.{ManifestEnds, Relists}
use Rattle.etl_mover.proofs.Written.{entries_with}
use Rattle.gate_journal.specs.Journal.{JournalState}
use Rattle.gate_journal.specs.DiskShown.{DiskShown}
use Rattle.pv_catalog.specs.Catalogue.{CatalogueState}
use Rattle.durable_write.specs.Ends.{end_of_disk, end_of_error}
use Rattle.tier_store.specs.Given.{ChangesGiven}
use Rattle.etl_mover.specs.Copying.{last_of}
use Rattle.series_model.specs.Series.{end_of, since}
use Rattle.durable_write.proofs.Planning.{of_files as of_parts}
use Rattle.tier_store.specs.Copying.{CopiesBeside, KnowsHeads, left_of, samples_ahead}
use Rattle.tier_store.specs.Retiring.{oldest}

-- NAMES THAT STAY

-- every one of these names has what it had
abbrev Same : List Name → Files → Files → Type 0
Same names a b = (n : Name) → Contains names n → b n ≡ a n

-- the disk was only read
pub read_names : (names : List Name) (tells : Bool) (old new : SeenAll) → new.limbo ≡ old.limbo → (IsTrue tells → new.stores.files ≡ old.stores.files) → (IsTrue tells → new.stores.opened ≡ old.stores.opened) → (IsTrue tells → Passes (λ a b. b ≡ a) old.stores.past new.stores.past) → LeavesNames names tells old new
read_names names tells old new limbo files opened passes = record {
  files = λ told n within. ap (λ (f : Files). f n) (files told);
  fewer = λ told n within. let same : new.stores.opened n ≡ old.stores.opened n = ap (λ (o : Name → ℕ). o n) (opened told) in omega (arith, same);
  any_moment = λ told. passes_weaker (λ a b. b ≡ a) (Same names) old.stores.past new.stores.past (passes told) (λ a c was is n within. ap (λ (f : Files). f n) is);
  limbo = λ r within there. subst (λ (l : List Retired). Contains l r) limbo there;
}

pub read_leaves : (tells : Bool) (old new : SeenAll) → new.limbo ≡ old.limbo → (IsTrue tells → new.stores.files ≡ old.stores.files) → (IsTrue tells → new.stores.opened ≡ old.stores.opened) → (IsTrue tells → Passes (λ a b. b ≡ a) old.stores.past new.stores.past) → LeavesLater tells old new
read_leaves tells old new limbo files opened passes names later = read_names names tells old new limbo files opened passes

-- nothing was done
pub nothing_names : (names : List Name) (tells : Bool) (all : SeenAll) → LeavesNames names tells all all
nothing_names names tells all = read_names names tells all all refl (λ told. refl) (λ told. refl) (λ told. passes_none (λ a b. b ≡ a) all.stores.past (λ a left. refl))

pub nothing_leaves : (tells : Bool) (all : SeenAll) → LeavesLater tells all all
nothing_leaves tells all = read_leaves tells all all refl (λ told. refl) (λ told. refl) (λ told. passes_none (λ a b. b ≡ a) all.stores.past (λ a left. refl))

-- one call after another
pub names_then : (names : List Name) (tells : Bool) (old mid new : SeenAll) → LeavesNames names tells old mid → LeavesNames names tells mid new → LeavesNames names tells old new
names_then names tells old mid new one two = record {
  files = λ told n within. two.files told n within ∙ one.files told n within;
  fewer = λ told n within. let a = one.fewer told n within in let b = two.fewer told n within in omega (arith, a, b);
  any_moment = λ told. passes_then (Same names) (Same names) old.stores.past mid.stores.past new.stores.past (one.any_moment told) (two.any_moment told) (λ a b c was step now on n within. on n within ∙ step n within);
  limbo = λ r within there. one.limbo r within (two.limbo r within there);
}

pub leaves_then : (tells : Bool) (old mid new : SeenAll) → LeavesLater tells old mid → LeavesLater tells mid new → LeavesLater tells old new
leaves_then tells old mid new first second names later = names_then names tells old mid new (first names later) (second names later)

-- some of the names
pub fewer_names : (names more : List Name) (tells : Bool) (old new : SeenAll) → ((n : Name) → Contains names n → Contains more n) → LeavesNames more tells old new → LeavesNames names tells old new
fewer_names names more tells old new among leaves = record {
  files = λ told n within. leaves.files told n (among n within);
  fewer = λ told n within. leaves.fewer told n (among n within);
  any_moment = λ told. passes_weaker (Same more) (Same names) old.stores.past new.stores.past (leaves.any_moment told) (λ a c was step n within. step n (among n within));
  limbo = λ r within there. leaves.limbo r (among r.name within) there;
}

-- a removal of files in limbo that leaves those into which moves have copied
pub removal_leaves : (tells : Bool) (old new : SeenAll) (pins : FinMap nat_cmp PinOf) (copied : List Name) (retired : List Retired) → ((r : Retired) → Contains new.limbo r → Contains old.limbo r)
    → (IsTrue tells → Removes pins copied retired (on_disk old.stores) (on_disk new.stores)) → LeavesNames copied tells old new
removal_leaves tells old new pins copied retired limbo removes = record {
  files = λ told n within. (removes told).spares n (λ r there is. inr within);
  fewer = λ told n within. (removes told).fewer n;
  any_moment = λ told. passes_weaker (Spares pins copied retired) (Same copied) old.stores.past new.stores.past (removes told).any_moment (λ a c was step n within. step n (λ r there is. inr within));
  limbo = λ r within there. limbo r there;
}

-- a removal of files that have none of the names
pub removal_apart : (names : List Name) (tells : Bool) (old new : SeenAll) (pins : FinMap nat_cmp PinOf) (files : List Retired) → ((r : Retired) → Contains new.limbo r → Contains old.limbo r) → All (λ (r : Retired). Contains names r.name → ⊥) files
    → (IsTrue tells → Removes pins [] files (on_disk old.stores) (on_disk new.stores)) → LeavesNames names tells old new
removal_apart names tells old new pins files limbo apart removes = record {
  files = λ told n within. (removes told).spares n (other n within);
  fewer = λ told n within. (removes told).fewer n;
  any_moment = λ told. passes_weaker (Spares pins [] files) (Same names) old.stores.past new.stores.past (removes told).any_moment (λ a c was step n within. step n (other n within));
  limbo = λ r within there. limbo r there;
}
  where
    other : (n : Name) → Contains names n → (r : Retired) → Contains files r → r.name ≡ n → IsNeeded pins [] n
    other n within r there is = absurd (All-contains (λ (x : Retired). Contains names x.name → ⊥) files r apart there (subst (Contains names) (sym is) within))

-- nothing comes to limbo under these names, and the disk is as it was
pub limbo_leaves : (names : List Name) (tells : Bool) (at : Seen) (limbo left : List Retired) → ((r : Retired) → Contains names r.name → Contains left r → Contains limbo r) → LeavesNames names tells (beside at limbo) (beside at left)
limbo_leaves names tells at limbo left from = record {
  files = λ told n within. refl;
  fewer = λ told n within. omega arith;
  any_moment = λ told. passes_none (Same names) at.past (λ a left n within. refl);
  limbo = from;
}

-- no name of a store's file is a journal's
apart_from : (names : List Name) (journal n : Name) → All (λ (x : Name). 1 ≤ x.0) names → Contains names n → journal.0 ≡ 0 → IsOwn journal n → ⊥
apart_from names journal n own within zero_store its =
    let one = All-contains (λ (x : Name). 1 ≤ x.0) names n own within in
    let same = own_store journal n its in
    omega (arith, one, same, zero_store)

pub later_own : (names : List Name) → All (λ (x : Name). 2 ≤ x.0) names → All (λ (x : Name). 1 ≤ x.0) names
later_own names later k d lt = let two = later k d lt in omega (arith, two)

-- where nothing was opened, nothing was opened further
pub none_further : (opened after : Name → ℕ) → after ≡ opened → (n : Name) → after n ≤ opened n
none_further opened after is n = let same : after n ≡ opened n = ap (λ (o : Name → ℕ). o n) is in omega (arith, same)

-- a commit of a journal alone
pub commit_leaves_files : (tells : Bool) (old new : SeenAll) (journal : Name) (R : Files → Files → Type 0) → new.limbo ≡ old.limbo → (IsTrue tells → journal.0 ≡ 0) → (IsTrue tells → (n : Name) → (IsOwn journal n → ⊥) → new.stores.files n ≡ old.stores.files n) → (IsTrue tells → (n : Name) → new.stores.opened n ≤ old.stores.opened n)
    → (IsTrue tells → Passes (AtOwn journal R) old.stores.past new.stores.past) → LeavesFiles tells old new
commit_leaves_files tells old new journal R limbo zero_store elsewhere fewer passes names own = record {
  files = λ told n within. elsewhere told n (apart_from names journal n own within (zero_store told));
  fewer = λ told n within. fewer told n;
  any_moment = λ told. passes_weaker (AtOwn journal R) (Same names) old.stores.past new.stores.past (passes told) (λ a c was step n within. step.elsewhere n (apart_from names journal n own within (zero_store told)));
  limbo = λ r within there. subst (λ (l : List Retired). Contains l r) limbo there;
}

pub commit_leaves : (tells : Bool) (old new : SeenAll) (journal : Name) (R : Files → Files → Type 0) → new.limbo ≡ old.limbo → (IsTrue tells → journal.0 ≡ 0) → (IsTrue tells → (n : Name) → (IsOwn journal n → ⊥) → new.stores.files n ≡ old.stores.files n) → (IsTrue tells → (n : Name) → new.stores.opened n ≤ old.stores.opened n)
    → (IsTrue tells → Passes (AtOwn journal R) old.stores.past new.stores.past) → LeavesLater tells old new
commit_leaves tells old new journal R limbo zero_store elsewhere fewer passes names later = commit_leaves_files tells old new journal R limbo zero_store elsewhere fewer passes names (later_own names later)

-- a call on the files of store 1 and its journal
pub first_leaves : (tells : Bool) (old new : SeenAll) (journal : Name) → new.limbo ≡ old.limbo → (IsTrue tells → journal.0 ≡ 0) → (IsTrue tells → (n : Name) → n.0 ≢ 1 → (IsOwn journal n → ⊥) → new.stores.files n ≡ old.stores.files n) → (IsTrue tells → (n : Name) → new.stores.opened n ≤ old.stores.opened n)
    → (IsTrue tells → Passes (Beside 1 journal) old.stores.past new.stores.past) → LeavesLater tells old new
first_leaves tells old new journal limbo zero_store elsewhere fewer passes names later = record {
  files = λ told n within. elsewhere told n (not_first n within) (apart_from names journal n (later_own names later) within (zero_store told));
  fewer = λ told n within. fewer told n;
  any_moment = λ told. passes_weaker (Beside 1 journal) (Same names) old.stores.past new.stores.past (passes told) (λ a c was step n within. step n (not_first n within) (apart_from names journal n (later_own names later) within (zero_store told)));
  limbo = λ r within there. subst (λ (l : List Retired). Contains l r) limbo there;
}
  where
    not_first : (n : Name) → Contains names n → n.0 ≢ 1
    not_first n within is = let two = All-contains (λ (x : Name). 2 ≤ x.0) names n later within in omega (arith, two, is)

-- the name of a file is among those of the files
pub name_in : (shelf : Shelf) (files : List Filed) (f : Filed) → Contains files f → Contains (names_of shelf files) (file_of shelf f.entry)
name_in shelf [] f (k, low, is) = absurd (omega (arith, low))
name_in shelf (x ∷ xs) f (zero, low, is) = (zero, omega arith, ap (λ (y : Filed). file_of shelf y.entry) is)
name_in shelf (x ∷ xs) f (suc k, low, is) = let rest = name_in shelf xs f (k, omega (arith, low), is) in (suc rest.0, omega (arith, rest.1), rest.2)

-- those of a later store's files are of that
pub later_names : (i : ℕ) (shelf : Shelf) (files : List Filed) → shelf.0 ≡ i + 1 → 1 ≤ i → All (λ (n : Name). 2 ≤ n.0) (names_of shelf files)
later_names i shelf files is low = All-map (λ (n : Name). 2 ≤ n.0) (λ (f : Filed). file_of shelf f.entry) files (λ k d lt. omega (arith, is, low))

-- A MOVE RUNS BESIDE THE STORES

-- LISTS OF A ROW

-- a list of the same entries of a row ends the same
pub last_same : (xs ys : List Entry) (row : ℕ) (o : Option Entry) → filter (λ (e : Entry). nat_eq e.series row) xs ≡ filter (λ (e : Entry). nat_eq e.series row) ys → IsLastOf ys row o → IsLastOf xs row o
last_same xs ys row None same is = same ∙ is
last_same xs ys row (Some e) same is = (is.0, same ∙ is.1)

pub row_entries : (row : ℕ) (xs ys : List Filed) → of_row row xs ≡ of_row row ys → filter (λ (e : Entry). nat_eq e.series row) (map entry_of xs) ≡ filter (λ (e : Entry). nat_eq e.series row) (map entry_of ys)
row_entries row xs ys same = filter-map (λ (e : Entry). nat_eq e.series row) xs ∙ ap (map entry_of) same ∙ sym (filter-map (λ (e : Entry). nat_eq e.series row) ys)

parts_map : (xs : List Filed) → map (λ (e : Entry). e.part) (map entry_of xs) ≡ map (λ (f : Filed). f.entry.part) xs
parts_map [] = refl
parts_map (x ∷ xs) = ap (λ (l : List Part). x.entry.part ∷ l) (parts_map xs)

-- the partitions that entries of a row are of
entry_parts : (row : ℕ) (files : List Filed) → map (λ (e : Entry). e.part) (of_series row (map entry_of files)) ≡ parts_in row files
entry_parts row files = ap (map (λ (e : Entry). e.part)) (filter-map (λ (e : Entry). e.series == row) files) ∙ parts_map (of_row row files)

-- a list whose partitions go on has the first ones still
module _ (move : Moving) (old new : List Filed) (more : List Part) (goes : parts_in move.series new ≡ parts_in move.series old ++ more) (lists : ListsParts old move) (m : ManifestState) (are : m.entries ≡ map entry_of new) where
  abbrev part : Entry → Part
  part e = e.part

  abbrev listed : List Entry
  listed = of_series move.series m.entries

  was : StillLists move (record m { entries = map entry_of old })
  was = lists (record m { entries = map entry_of old }) refl

  parts_are : map part listed ≡ parts_in move.series old ++ more
  parts_are = ap (λ (es : List Entry). map part (of_series move.series es)) are ∙ entry_parts move.series new ∙ goes

  split : parts_in move.series old ++ more ≡ map part was.now ++ (map part was.others ++ more)
  split = ap (λ (ps : List Part). ps ++ more) (sym (entry_parts move.series old) ∙ ap (map part) was.entries ∙ map-append part was.now was.others) ∙ append_assoc (map part was.now) (map part was.others) more

  front : map part (take (length was.now) listed) ≡ map part was.now
  front = sym (take-map part (length was.now) listed) ∙ ap (take (length was.now)) (parts_are ∙ split) ∙ take_at (map part was.now) (map part was.others ++ more) (length was.now) (length-map was.now part)

  still_lists : StillLists move m
  still_lists = record { now = take (length was.now) listed; others = drop (length was.now) listed; entries = sym (take-append-drop (length was.now) listed); parts = front ∙ was.parts }

parts_stay : (move : Moving) (old new : List Filed) (more : List Part) → parts_in move.series new ≡ parts_in move.series old ++ more → ListsParts old move → ListsParts new move
parts_stay move old new more goes lists m are = still_lists move old new more goes lists m are

-- THROUGH OTHER CALLS

-- all stays
pub beside_itself : (i row : ℕ) (held : Stores) → GoesBeside i row held held
beside_itself i row held = record { rows = keeps_same held.rows; stands = refl; listed = refl; parts = λ from next. ([], sym (append-nil (parts_in row (list_at from held)))) }

module _ (i : ℕ) (tells : Bool) (old new : SeenAll) (move : Moving) (files : List Filed) (held made : Stores) (same : granularities new.stores.manifests ≡ granularities old.stores.manifests) (goes : GoesBeside i move.series held made) (leaves : LeavesNames (names_of (i + 1, held.rows) files) tells old new)
    (runs : RunsBeside i tells old move files held) where
  are_listed : All (IsListed move.granularity held.rows) files
  are_listed = (runs.ahead.filed move.granularity runs.to_coarse).listed

  -- the files have the names that they had
  name_stays : (f : Filed) → Contains files f → file_of (i + 1, made.rows) f.entry ≡ file_of (i + 1, held.rows) f.entry
  name_stays f within = file_grows move.granularity (i + 1) held.rows made.rows f goes.rows (All-contains (IsListed move.granularity held.rows) files f are_listed within)

  safe_still : (told : IsTrue tells) → AreSafe (of_files i made files) (on_disk new.stores)
  safe_still told = record {
    long = λ k d lt.
        let f : Filed = get_or files k d in
        let within = Contains-get_or files k d lt in
        let was = was_safe.long k d lt in
        record { bytes = was.bytes; file = ap new.stores.files (name_stays f within) ∙ leaves.files told (file_of (i + 1, held.rows) f.entry) (name_in (i + 1, held.rows) files f within) ∙ was.file; holds = was.holds };
    unopened = λ k d lt.
        let f : Filed = get_or files k d in
        let within = Contains-get_or files k d lt in
        let low = was_safe.unopened k d lt in
        let fewer = leaves.fewer told (file_of (i + 1, held.rows) f.entry) (name_in (i + 1, held.rows) files f within) in
        let is = ap new.stores.opened (name_stays f within) in
        omega (arith, low, fewer, is);
    left = λ image left stands k d lt.
        let f : Filed = get_or files k d in
        let within = Contains-get_or files k d lt in
        let passes = leaves.any_moment told in
        let come = passes.each new.stores.past.now image passes.later (omega arith) left in
        let was : Begins (bytes_of f) (come.0 (file_of (i + 1, held.rows) f.entry)) = was_safe.left come.0 come.1 (subst IsTrue goes.stands stands) k d lt in
        let is : image (file_of (i + 1, made.rows) f.entry) ≡ come.0 (file_of (i + 1, held.rows) f.entry) = ap image (name_stays f within) ∙ come.2 (file_of (i + 1, held.rows) f.entry) (name_in (i + 1, held.rows) files f within) in
        subst (Begins (bytes_of f)) (sym is) was;
  }
    where
      was_safe : AreSafe (of_files i held files) (on_disk old.stores)
      was_safe = runs.ahead.safe told

  -- they are of the move's row
  of_move : (f : Filed) → Contains files f → f.entry.series ≡ move.series
  of_move f within = (All-contains (λ (e : Entry). IsPart move.granularity e.part × (e.series ≡ move.series)) move.pending f.entry runs.running.pending (subst (λ (l : List Entry). Contains l f.entry) (sym runs.pending) (contains_entry files f within))).1

  -- what is listed in the place of one was listed there
  listed_before : (h f : Filed) → Contains (list_at i made) h → Contains files f → filed_at h ≡ filed_at f → Contains (list_at i held) h
  listed_before h f there within at =
      let series : h.entry.series ≡ move.series = ap (λ (p : Place). p.0) at ∙ of_move f within in
      let in_row = contains_filter (λ (x : Filed). nat_eq x.entry.series move.series) (list_at i made) h there ((Decides-eqb h.entry.series move.series).1 series) in
      from_filter (λ (x : Filed). nat_eq x.entry.series move.series) (list_at i held) h (subst (λ (l : List Filed). Contains l h) goes.listed in_row)

  -- and where nothing is listed then, nothing was
  none_before : (f : Filed) → Contains files f → file_at (filed_at f) (list_at i made) ≡ None → file_at (filed_at f) (list_at i held) ≡ None
  none_before f within none = elim (listed_at (list_at i held) (filed_at f)) [
    | inl before ↦ before
    | inr (h, there, at, is) ↦
        let series : h.entry.series ≡ move.series = ap (λ (p : Place). p.0) at ∙ of_move f within in
        let in_row = contains_filter (λ (x : Filed). nat_eq x.entry.series move.series) (list_at i held) h there ((Decides-eqb h.entry.series move.series).1 series) in
        let now = from_filter (λ (x : Filed). nat_eq x.entry.series move.series) (list_at i made) h (subst (λ (l : List Filed). Contains l h) (sym goes.listed) in_row) in
        absurd (none_at (list_at i made) (filed_at f) h none now at)
  ]

  pub runs_still : RunsBeside i tells new move files made
  runs_still =
      let row = goes.rows move.series runs.row runs.stands in
      let on = goes.parts runs.from runs.next in
      record {
        from = runs.from;
        next = runs.next;
        fine = runs.fine;
        from_fine = ap (λ (gs : List Granularity). slice_get gs runs.from) same ∙ runs.from_fine;
        to_coarse = ap (λ (gs : List Granularity). slice_get gs i) same ∙ runs.to_coarse;
        running = runs.running;
        numbers = runs.numbers;
        row = row.0;
        stands = row.1;
        name = row.2.name ∙ runs.name;
        parts = parts_stay move (list_at runs.from held) (list_at runs.from made) on.0 on.1 runs.parts;
        last = λ left. last_same (map entry_of (list_at i made)) (map entry_of (list_at i held)) move.series move.listed (row_entries move.series (list_at i made) (list_at i held) goes.listed) (runs.last left);
        pending = runs.pending;
        ahead = record {
          rise = runs.ahead.rise;
          filed = λ g here. subst (λ (b : Bool). let t : Held = record { store = i + 1; rows = made.rows; files = files; stands = b } in AreFiled g t) (sym goes.stands)
              (filed_still g (of_files i held files) made.rows goes.rows (runs.ahead.filed g (ap (λ (gs : List Granularity). slice_get gs i) (sym same) ∙ here)));
          safe = safe_still;
          longer = λ h f there within at. runs.ahead.longer h f (listed_before h f there within at) within at;
          longer_retired = λ r f there within named none.
              let named_before : r.name ≡ file_of (i + 1, held.rows) f.entry = named ∙ name_stays f within in
              runs.ahead.longer_retired r f (leaves.limbo r (subst (Contains (names_of (i + 1, held.rows) files)) (sym named_before) (name_in (i + 1, held.rows) files f within)) there) within named_before (none_before f within none);
        };
      }

-- THE BEGINNING

-- a move that has just begun has written nothing
pub runs_begun : (i from : ℕ) (tells : Bool) (all : SeenAll) (held : Stores) (source dest : ManifestState) (row : Row) (n : ℕ) (move : Moving) → Has tells all.stores held → i ≡ from + 1 → slice_get all.stores.manifests from ≡ Some source → slice_get all.stores.manifests i ≡ Some dest → slice_get held.rows move.series ≡ Some row
    → HasBegun source dest move.series row.name n move → IsMove source.granularity move → StillLists move source → RunsBeside i tells all move [] held
runs_begun i from tells all held source dest row n move has next here there stands begun running lists = record {
  from = from;
  next = next;
  fine = source.granularity;
  from_fine = granularity_at all.stores.manifests from source here;
  to_coarse = granularity_at all.stores.manifests i dest there ∙ ap (λ (g : Granularity). Some g) (sym begun.granularity);
  running = running;
  numbers = λ told. (
    begun.from i (omega (arith, low)) (((has.disk told).each from source here).named ∙ ap manifest_name (sym next)),
    begun.to (i + 1) (omega (arith, low)) ((has.disk told).each i dest there).named,
  );
  row = row;
  stands = stands;
  name = sym begun.name;
  parts = λ m are. record { now = lists.now; others = lists.others; entries = ap (of_series move.series) (are ∙ sym (has.known.each from source here).entries) ∙ lists.entries; parts = lists.parts };
  last = λ left. subst (λ (es : List Entry). IsLastOf es move.series move.listed) (has.known.each i dest there).entries begun.listed;
  pending = begun.pending;
  ahead = record {
    rise = tt;
    filed = λ g at. record { numbered = omega arith; listed = All-nil (IsListed g held.rows); filed = λ stand. All-nil (IsFiled g held.rows) };
    safe = λ told. record {
      long = All-nil (λ (f : Filed). HasFile all.stores.files (file_of (i + 1, held.rows) f.entry) (λ b. f.entry.len ≤ length b));
      unopened = All-nil (λ (f : Filed). all.stores.opened (file_of (i + 1, held.rows) f.entry) ≤ f.entry.len);
      left = λ image left stand. All-nil (IsIn (i + 1, held.rows) image);
    };
    longer = λ h f in_list in_none at. absurd (none f in_none);
    longer_retired = λ r f in_limbo in_none named unlisted. absurd (none f in_none);
  };
}
  where
    none : (f : Filed) → Contains [] f → ⊥
    none f (k, lt, is) = omega (arith, lt)

    low : i < 3
    low = within_three all.stores.manifests i dest has.known.three there

-- THE PUBLICATION

-- none of the files in its place is shorter than this one
abbrev IsShort : List Filed → Filed → Type 0
IsShort files h = (f : Filed) → Contains files f → filed_at h ≡ filed_at f → h.entry.len ≤ f.entry.len

-- once its files are listed they are beside the stores as before
pub runs_listed : (i : ℕ) (tells : Bool) (old new : SeenAll) (move : Moving) (files : List Filed) (held : Stores) → granularities new.stores.manifests ≡ granularities old.stores.manifests → i < 3 → move.at ≡ length move.parts → LeavesNames (names_of (i + 1, held.rows) files) tells old new → RunsBeside i tells old move files held
    → RunsBeside i tells new move files (with_list i (put_all (list_at i held) files) held)
runs_listed i tells old new move files held same low copied leaves runs =
    let still = runs_still i tells old new move files held held same (beside_itself i move.series held) leaves runs in
    record {
      from = still.from;
      next = still.next;
      fine = still.fine;
      from_fine = still.from_fine;
      to_coarse = still.to_coarse;
      running = still.running;
      numbers = still.numbers;
      row = still.row;
      stands = still.stands;
      name = still.name;
      parts = let next = still.next in subst (λ (l : List Filed). ListsParts l move) (sym (list_other i still.from (put_all (list_at i held) files) held low (omega (arith, next, low)) (λ is. omega (arith, next, is)))) still.parts;
      last = λ left. absurd (left copied);
      pending = still.pending;
      ahead = record {
        rise = still.ahead.rise;
        filed = still.ahead.filed;
        safe = still.ahead.safe;
        longer = λ h f there within at. longer_then h (subst (λ (l : List Filed). Contains l h) (list_set i (put_all (list_at i held) files) held low) there) f within at;
        longer_retired = λ r f in_limbo within named unlisted.
            absurd (none_at (put_all (list_at i held) files) (filed_at f) f (subst (λ (l : List Filed). file_at (filed_at f) l ≡ None) (list_set i (put_all (list_at i held) files) held low) unlisted) (put_all_new files (list_at i held) f runs.ahead.rise within) refl);
      };
    }
  where
    longer_then : (h : Filed) → Contains (put_all (list_at i held) files) h → IsShort files h
    longer_then h there = All-contains (IsShort files) (put_all (list_at i held) files) h
        (all_put_all (IsShort files) (list_at i held) files (λ k d lt f within at. runs.ahead.longer (get_or (list_at i held) k d) f (Contains-get_or (list_at i held) k d lt) within at)
        (λ k d lt f within at. let one : get_or files k d ≡ f = one_of_place files f (get_or files k d) runs.ahead.rise within (Contains-get_or files k d lt) at in let len = ap (λ (x : Filed). x.entry.len) one in omega (arith, len))) there

-- WHAT IT HAS WRITTEN

-- of two fronts of one file the shorter begins the longer
one_front : (short long : List ℕ) (c : Content) → length short ≤ length long → Begins short c → Begins long c → take (length short) long ≡ short
one_front short long None less began whole = absurd began
one_front short long (Some b) less began whole = ap (take (length short)) (sym whole) ∙ take-take (length short) (length long) b less ∙ began

-- FILES THAT MAY BE LISTED

module _ (i : ℕ) (tells : Bool) (all : SeenAll) (held : Stores) (files : List Filed) (ahead : MayBeListed i tells all held files) (m : ManifestState) (here : slice_get all.stores.manifests i ≡ Some m) (has : Has tells all.stores held) where
  abbrev ahead_of : Held
  ahead_of = with_files (tier i held) files

  known : IsKnownAt m (tier i held)
  known = has.known.each i m here

  filed : AreFiled m.granularity (of_files i held files)
  filed = ahead.filed m.granularity (granularity_at all.stores.manifests i m here)

  low : i < 3
  low = within_three all.stores.manifests i m has.known.three here

  -- the store is valid with them
  pub valid_with : AreHeld m.granularity (with_files (tier i held) files)
  valid_with = record {
    keys = known.valid.keys;
    filed = record {
      numbered = known.valid.filed.numbered;
      listed = all_put_all (IsListed m.granularity held.rows) (list_at i held) files known.valid.filed.listed filed.listed;
      filed = λ stands. all_put_all (IsFiled m.granularity held.rows) (list_at i held) files (known.valid.filed.filed stands) (filed.filed stands);
    };
    apart = rise_put_all (list_at i held) files known.valid.apart;
  }

  one_name : (h f : Filed) → IsListed m.granularity held.rows h → Contains files f → filed_at h ≡ filed_at f → file_of (i + 1, held.rows) f.entry ≡ file_of (i + 1, held.rows) h.entry
  one_name h f is within same = sym (same_file m.granularity (i + 1) held.rows h f is (All-contains (IsListed m.granularity held.rows) files f filed.listed within) same)

  -- what is listed is so still, and no shorter
  lists_still : ListsStill (listing_of (tier i held)) (listing_of ahead_of)
  lists_still =
      All-map (λ (e : Entry). IsListedTo (listing_of ahead_of) (file_of (i + 1, held.rows) e) e.len) entry_of (list_at i held) (λ k d lt.
      let h : Filed = get_or (list_at i held) k d in
      let within_held = Contains-get_or (list_at i held) k d lt in
      elim (put_all_has files (list_at i held) h ahead.rise within_held) [
        | inl there ↦ record { entry = h.entry; within = contains_entry (put_all (list_at i held) files) h there; named = refl; longer = omega arith }
        | inr (f, within, same, there) ↦ record { entry = f.entry; within = contains_entry (put_all (list_at i held) files) f there; named = one_name h f (known.valid.filed.listed k d lt) within same; longer = ahead.longer h f within_held within same }
      ])

  -- a file in limbo that is listed nowhere shorter isn't then
  spares_with : (name : Name) (len : ℕ) (r : Retired) → Contains all.limbo r → r.name ≡ name → len ≤ r.entry.len → NoneShorter (listing_of (tier i held)) name len → NoneShorter (listing_of ahead_of) name len
  spares_with name len r within named longer short =
      to_files i held.rows (put_all (list_at i held) files) name len
      (all_put_all (Longer i held.rows name len) (list_at i held) files (by_files i held.rows (list_at i held) name len short)
      (λ k d lt same.
      let f : Filed = get_or files k d in
      let f_in = Contains-get_or files k d lt in
      elim (listed_at (list_at i held) (filed_at f)) [
        | inl none ↦ let more = ahead.longer_retired r f within f_in (named ∙ sym same) none in omega (arith, more, longer)
        | inr (h, h_in, h_at, there) ↦
            let at_h : file_of (i + 1, held.rows) h.entry ≡ name = sym (one_name h f (All-contains (IsListed m.granularity held.rows) (list_at i held) h known.valid.filed.listed h_in) f_in h_at) ∙ same in
            let long = All-contains (Longer i held.rows name len) (list_at i held) h (by_files i held.rows (list_at i held) name len short) h_in at_h in
            let more = ahead.longer h f h_in f_in h_at in
            omega (arith, more, long)
      ]))

  -- THE DISK

  pub leads : IsTrue tells → MayLeave all.stores.past all.stores.files → Leads (tier i held) (with_files (tier i held) files)
  leads told left = record {
    same_shelf = refl;
    same_stands = refl;
    each = λ k d lt.
        let h : Filed = get_or (list_at i held) k d in
        let within_held = Contains-get_or (list_at i held) k d lt in
        elim (put_all_has files (list_at i held) h ahead.rise within_held) [
          | inl there ↦ record { file = h; within = there; name = refl; longer = omega arith; front = λ stands. (omega arith, take_all (length (bytes_of h)) (bytes_of h) (omega arith)) }
          | inr (f, within, same, there) ↦
              let name = one_name h f (known.valid.filed.listed k d lt) within same in
              let longer = ahead.longer h f within_held within same in
              record {
                file = f;
                within = there;
                name = name;
                longer = longer;
                front = λ stands.
                    let short = (known.valid.filed.filed stands k d lt).len in
                    let long = (All-contains (IsFiled m.granularity held.rows) files f (filed.filed stands) within).len in
                    let less : length (bytes_of h) ≤ length (bytes_of f) = omega (arith, short, long, longer) in
                    let began : Begins (bytes_of h) (all.stores.files (file_of (i + 1, held.rows) h.entry)) = ((has.disk told).each i m here).safe.left all.stores.files left stands k d lt in
                    let whole : IsIn (i + 1, held.rows) all.stores.files f = All-contains (IsIn (i + 1, held.rows) all.stores.files) files f ((ahead.safe told).left all.stores.files left stands) within in
                    let at_h : Begins (bytes_of f) (all.stores.files (file_of (i + 1, held.rows) h.entry)) = subst (λ (n : Name). Begins (bytes_of f) (all.stores.files n)) name whole in
                    (less, one_front (bytes_of h) (bytes_of f) (all.stores.files (file_of (i + 1, held.rows) h.entry)) less began at_h);
              }
        ];
  }

  pub has_copied : IsTrue tells → MayLeave all.stores.past all.stores.files → HasCopied all.stores.catalogue.journal m (i + 1, all.stores.catalogue.rows) (on_disk all.stores) (tier i held) (with_files (tier i held) files)
  has_copied told left = record {
    stored = stored_as tells all.stores held i m here has told;
    leads = leads told left;
    safe = record {
      of_rows = ap (λ (r : List Row). let s : Shelf = (i + 1, r) in s) (sym has.known.rows);
      valid = valid_with;
      safe = safe_both (tier i held) files (on_disk all.stores) ((has.disk told).each i m here).safe (ahead.safe told);
    };
  }

  -- ONCE THEY ARE LISTED

  then_is : (made : Stores) → ListsAlso i files held made → tier i made ≡ ahead_of
  then_is made by = ap (tier i) by ∙ tier_set i (put_all (list_at i held) files) held low

  others_are : (made : Stores) → ListsAlso i files held made → (k : ℕ) → k < 3 → (k ≡ i → ⊥) → tier k made ≡ tier k held
  others_are made by k lo apart = ap (tier k) by ∙ tier_other i k (put_all (list_at i held) files) held low lo apart

  pub goes_on : (made : Stores) → ListsAlso i files held made → GoesOn held made
  goes_on made by = inl (
    ap (λ (s : Stores). s.rows) by,
    λ place lo. elim (same_cases place i) [
      | inl is ↦ subst (λ (k : ℕ). ListsStill (listing_of (tier k held)) (listing_of (tier k made))) (sym is) (subst (λ (t : Held). ListsStill (listing_of (tier i held)) (listing_of t)) (sym (then_is made by)) lists_still)
      | inr apart ↦ subst (λ (t : Held). ListsStill (listing_of (tier place held)) (listing_of t)) (sym (others_are made by place lo apart)) (still_itself (listing_of (tier place held)))
    ],
  )

  pub spares_then : (made : Stores) → ListsAlso i files held made → (name : Name) (len : ℕ) → IsRetiredTo all name len → SparesLength held name len → SparesLength made name len
  spares_then made by name len r spares k lo = elim (same_cases k i) [
    | inl is ↦ subst (λ (j : ℕ). NoneShorter (listing_of (tier j made)) name len) (sym is) (subst (λ (t : Held). NoneShorter (listing_of t) name len) (sym (then_is made by)) (spares_with name len r.file r.within r.named r.longer (spares i low)))
    | inr apart ↦ subst (λ (t : Held). NoneShorter (listing_of t) name len) (sym (others_are made by k lo apart)) (spares k lo)
  ]

-- THE MOVE

-- it runs to one of the three places
pub place_low : (i : ℕ) (tells : Bool) (all : SeenAll) (move : Moving) (files : List Filed) (held : Stores) → RunsBeside i tells all move files held → i < length all.stores.manifests
place_low i tells all move files held runs = let m = manifest_of all.stores.manifests i move.granularity runs.to_coarse in slice_get_within all.stores.manifests i m.0 m.1

pub same_size : (i : ℕ) (tells : Bool) (all : SeenAll) (move : Moving) (files : List Filed) (held : Stores) (m : ManifestState) → slice_get all.stores.manifests i ≡ Some m → RunsBeside i tells all move files held → m.granularity ≡ move.granularity
same_size i tells all move files held m here runs = same_Some m.granularity move.granularity (sym (granularity_at all.stores.manifests i m here) ∙ runs.to_coarse)

pub is_ahead : (i : ℕ) (tells : Bool) (all : SeenAll) (move : Moving) (files : List Filed) (held : Stores) → RunsBeside i tells all move files held → IsAhead move (tier i held) (with_files (tier i held) files)
is_ahead i tells all move files held runs = record { files = files; are = refl; pending = runs.pending }

-- A publication where nothing stands in doubt, by what the move's commit says

-- THE CALL

module _ {S : Type 0} (shows : S → DiskShown) (faults_of : S → ℕ) (tells : Bool) (c : CatalogueState) (ms : List ManifestState) (limbo : List Retired) (i : ℕ) (m made : ManifestState) (here : slice_get ms i ≡ Some m) (d after : S)
    (seen_it : IsTrue tells → MayLeave (shows d).past (shows d).files) (move : Moving) (fs : List Filed) where
  abbrev before : Seen
  before = seen_on shows faults_of c ms d

  abbrev behind : Seen
  behind = seen_on shows faults_of c (slice_set ms i made) after

  abbrev Is : Stores → Type 0
  Is held = RunsBeside i tells (beside before limbo) move fs held

  abbrev shelf : Shelf
  shelf = (i + 1, c.rows)

  abbrev next : (held : Stores) → Has tells before held → Is held → List Filed
  next held has is = put_all (list_at i held) fs

  abbrev then : Stores → Held
  then held = with_files (tier i held) fs

  copied : (held : Stores) → Has tells before held → Is held → IsTrue tells → HasCopied c.journal m shelf (shows d) (tier i held) (then held)
  copied held has is told = has_copied i tells (beside before limbo) held fs is.ahead m here has told (seen_it told)

  lists : (held : Stores) → Has tells before held → Is held → all_changed m.entries (map set_entry move.pending) ≡ map entry_of (put_all (list_at i held) fs)
  lists held has is =
      ap (λ (es : List Entry). all_changed es (map set_entry move.pending)) (has.known.each i m here).entries
      ∙ ap (λ (es : List Entry). all_changed (map entry_of (list_at i held)) (map set_entry es)) is.pending
      ∙ entries_with (list_at i held) fs

  abbrev Relisted : Result (Unit {0}) DiskErr → Type 0
  Relisted r = (catalogue : JournalState) (s : Shelf) (held ahead : Held) → HasCopied catalogue m s (shows d) held ahead → IsAhead move held ahead → Relists catalogue m made s r (shows d) (shows after) held ahead

  lists_here : (r : Result (Unit {0}) DiskErr) → (IsTrue tells → Relisted r) → IsTrue tells → (held : Stores) (has : Has tells before held) (is : Is held) → Relists c.journal m made shelf r (shows d) (shows after) (tier i held) (then held)
  lists_here r relisted told held has is = relisted told c.journal shelf (tier i held) (then held) (copied held has is told) (is_ahead i tells (beside before limbo) move fs held is)

  pub publish_ends : (r : Result (Unit {0}) DiskErr) → ManifestEnds m made (all_changed m.entries (map set_entry move.pending)) r → (IsTrue tells → Relisted r)
      → (IsTrue tells → OnStore (i + 1) m.journal.name (shows d) (shows after)) → faults_of d ≤ faults_of after → (r ≡ Err Fault → Rose (faults_of d) (faults_of after)) → ChangesGiven Is tells (publishing i fs) before behind (end_of_disk r)
  publish_ends (Ok a) ends relisted on_store faults cause =
      given_done shows faults_of tells c ms i m made here d after ends.granularity on_store faults Is (publishing i fs) next (λ held has is. refl) (λ held has is. valid_with i tells (beside before limbo) held fs is.ahead m here has)
      (λ told held has is. (lists_here (Ok a) relisted told held has is).any_moment) a (λ held has is. tt) ends.sound (λ held has is. ends.entries ∙ lists held has is)
      (λ told held has is. (lists_here (Ok a) relisted told held has is).made.stored.tier)
  publish_ends (Err e) ends relisted on_store faults cause =
      given_cut shows faults_of tells c ms i m made here d after ends.granularity on_store faults Is (publishing i fs) next (λ held has is. refl) (λ held has is. valid_with i tells (beside before limbo) held fs is.ahead m here has)
      (λ told held has is. (lists_here (Err e) relisted told held has is).any_moment) ends.unchanged (λ held has is unsound. ends.next unsound ∙ lists held has is)
      (λ told held has is sound. ((lists_here (Err e) relisted told held has is).unmade sound).stored.tier)
      (λ told held has is unsound. list_unsure c.journal made shelf (shows after) (tier i held) (then held) ((lists_here (Err e) relisted told held has is).in_doubt unsound) unsound)
      e (end_of_error e) refl (λ memory. ends.memory (ap (λ (x : DiskErr). Err x) memory)) (λ fault. cause (ap (λ (x : DiskErr). Err x) fault))

-- IT COPIES BESIDE THEM

-- THE BEGINNING

take_same : (n : ℕ) (fs : List Filed) → take (length (take n fs)) fs ≡ take n fs
take_same zero fs = refl
take_same (suc n) [] = refl
take_same (suc n) (f ∷ fs) = ap (λ (l : List Filed). f ∷ l) (take_same n fs)

take_entries : (n : ℕ) (fs : List Filed) → take n (map entry_of fs) ≡ map entry_of (take n fs)
take_entries zero fs = refl
take_entries (suc n) [] = refl
take_entries (suc n) (f ∷ fs) = ap (λ (l : List Entry). f.entry ∷ l) (take_entries n fs)

long_entries : (fs : List Filed) → length (map entry_of fs) ≡ length fs
long_entries [] = refl
long_entries (f ∷ fs) = ap suc (long_entries fs)

heads_entries : (fs : List Filed) → map (λ (f : Filed). f.entry.head_len) fs ≡ map (λ (e : Entry). e.head_len) (map entry_of fs)
heads_entries [] = refl
heads_entries (f ∷ fs) = ap (λ (l : List ℕ). f.entry.head_len ∷ l) (heads_entries fs)

pub copies_begun : (from : ℕ) (tells : Bool) (all : SeenAll) (held : Stores) (source dest : ManifestState) (row : Row) (n : ℕ) (move : Moving) → (IsTrue held.stands → IsTrue tells) → Has tells all.stores held → slice_get all.stores.manifests from ≡ Some source → slice_get all.stores.manifests (from + 1) ≡ Some dest → slice_get held.rows move.series ≡ Some row
    → HasBegun source dest move.series row.name n move → IsMove source.granularity move → StillLists move source → 1 ≤ length move.parts → CopiesBeside from tells all move [] held
copies_begun from tells all held source dest row n move told has here there stands begun running lists some = record {
  runs = runs_begun (from + 1) from tells all held source dest row n move has refl here there stands begun running lists;
  stage = begun.stage;
  left = λ same. let at = begun.at in absurd (omega (arith, at, same, some));
  heads = heads_are;
  lengths = subst (λ (k : ℕ). map (λ (f : Filed). f.entry.len) (take k (of_row move.series (list_at from held))) ≡ map (λ (e : Entry). e.len) (take k move.parts)) (sym begun.at) refl;
  last = subst (λ (l : List Entry). IsLastOf (map entry_of (list_at (from + 1) held)) move.series (last_of l move.listed)) (sym begun.pending) (subst (λ (es : List Entry). IsLastOf es move.series move.listed) (has.known.each (from + 1) dest there).entries begun.listed);
  passed = λ stand. ap (λ (k : ℕ). left_of from move k [] held) begun.at;
  told = told;
}
  where
    parts_are : move.parts ≡ map entry_of (take n (of_row move.series (list_at from held)))
    parts_are =
        begun.parts
        ∙ (ap (λ (es : List Entry). take n (of_series move.series es)) (has.known.each from source here).entries
        ∙ (ap (take n) (filter-map (λ (e : Entry). nat_eq e.series move.series) (list_at from held)) ∙ take_entries n (of_row move.series (list_at from held))))

    heads_are : KnowsHeads from move held
    heads_are =
        ap (λ (k : ℕ). map (λ (f : Filed). f.entry.head_len) (take k (of_row move.series (list_at from held)))) (ap length parts_are ∙ long_entries (take n (of_row move.series (list_at from held))))
        ∙ (ap (map (λ (f : Filed). f.entry.head_len)) (take_same n (of_row move.series (list_at from held))) ∙ (heads_entries (take n (of_row move.series (list_at from held))) ∙ ap (map (λ (e : Entry). e.head_len)) (sym parts_are)))

-- BEHIND OTHER CALLS

-- files put among those of one row depend on that row alone
rows_put : (row : ℕ) (xs ys fs : List Filed) → All (λ (f : Filed). f.entry.series ≡ row) fs → of_row row xs ≡ of_row row ys → of_row row (put_all xs fs) ≡ of_row row (put_all ys fs)
rows_put row xs ys [] own same = same
rows_put row xs ys (f ∷ fs) own same =
    let own_f = All-head (λ (x : Filed). x.entry.series ≡ row) f fs own in
    let one : of_row row (put filed_at f xs) ≡ of_row row (put filed_at f ys) = put_own row f xs own_f ∙ (ap (λ (l : List Filed). sooner f.entry.part.start l ++ (f ∷ later f.entry.part.start l)) same ∙ sym (put_own row f ys own_f)) in
    rows_put row (put filed_at f xs) (put filed_at f ys) fs (All-tail (λ (x : Filed). x.entry.series ≡ row) f fs own) one

pub copies_still : (from : ℕ) (tells : Bool) (old new : SeenAll) (move : Moving) (files : List Filed) (held made : Stores) → granularities new.stores.manifests ≡ granularities old.stores.manifests → GoesBeside (from + 1) move.series held made → LeavesNames (names_of ((from + 1) + 1, held.rows) files) tells old new → KnowsHeads from move made
    → oldest from move.series move.at made ≡ oldest from move.series move.at held → CopiesBeside from tells old move files held → CopiesBeside from tells new move files made
copies_still from tells old new move files held made same goes leaves heads firsts is = record {
  runs = runs_still (from + 1) tells old new move files held made same goes leaves is.runs;
  stage = is.stage;
  left = is.left;
  heads = heads;
  lengths = ap (map (λ (f : Filed). f.entry.len)) firsts ∙ is.lengths;
  last = last_same (map entry_of (put_all (list_at (from + 1) made) files)) (map entry_of (put_all (list_at (from + 1) held) files)) move.series (last_of move.pending move.listed)
      (row_entries move.series (put_all (list_at (from + 1) made) files) (put_all (list_at (from + 1) held) files) rows) is.last;
  passed = λ stand.
      ap (λ (l : List Filed). since (end_of (of_parts l)) (of_parts (oldest from move.series move.at made))) rows
      ∙ (ap (λ (l : List Filed). since (end_of (samples_ahead (from + 1) move files held)) (of_parts l)) firsts ∙ is.passed (sym goes.stands ∙ stand));
  told = λ stand. is.told (sym goes.stands ∙ stand);
}
  where
    own : All (λ (f : Filed). f.entry.series ≡ move.series) files
    own = λ k x lt. (All-contains (λ (e : Entry). IsPart move.granularity e.part × (e.series ≡ move.series)) move.pending (get_or files k x).entry is.runs.running.pending (subst (λ (l : List Entry). Contains l (get_or files k x).entry) (sym is.runs.pending) (contains_entry files (get_or files k x) (Contains-get_or files k x lt)))).1

    rows : of_row move.series (put_all (list_at (from + 1) made) files) ≡ of_row move.series (put_all (list_at (from + 1) held) files)
    rows = rows_put move.series (list_at (from + 1) made) (list_at (from + 1) held) files own goes.listed
