-- A sweep of limbo: what pins name stays, what enters is a file of the machine, and how a pin is made.
use Rattle.std.proofs.Common.{◌≡◌, ℕ, List, Bool, Some, ◌+◌, ◌∷◌, length, true, false, Option, refl, sym, ◌∙◌, ap, subst, arith, zero, suc, [], map, cond, None, inl, ◌++◌, ◌≢◌, ◌⊎◌, inr}
use Rattle.std.specs.Prelude.{slice_get, IsTrue, nat_eq, Contains, All, ◌==◌, ◌↔◌, filter, not}
use Rattle.disk_model.specs.Files.{Name}
use Rattle.act_model.specs.Limbo.{RowFile, PlacesDiffer, IsElsewhere}
use Rattle.act_model.specs.Rows.{RowState, Store, Short, Medium, Long, same_store}
use Rattle.std.specs.FinMap.{FinMap, get, insert, get-insert}
use Rattle.std.specs.Ordering.{nat_cmp, eq_by_cmp}
use Rattle.partition_names.specs.Path.{path_of}
use Rattle.pins.specs.Pieces.{PinOf, file_of as piece_file}
use Rattle.pins.specs.declared.piece.PinnedFile.{PinnedFile}
use Rattle.tier_store.specs.Pinned.{SeenAll, Shows, IsShown, PinsStand, beside}
use Rattle.act_model.specs.Machine.{Machine, PinState}
use Rattle.act_model.specs.OpenPiece.{bytes_of, name_of, lines_of}
use Rattle.act_model.specs.Rule.{index_of, IsPartition}
use Rattle.archive_core.specs.Pins.{ArePinsOf, HasFileOf, IsPieceOf, IsPinOf, HasPinOf}
use Rattle.std.specs.List.{AllByRecursion, flat_map, list_any}
use Rattle.std.proofs.lemmas.Bool.Decides.{nat_tests, Decides-eqb}
use Rattle.std.proofs.lemmas.Option.{same_Some, slice_get_within, get_or_from_slice_get}
use Rattle.disk_model.specs.Past.{MayLeave}
use Rattle.partition_names.specs.declared.granularity.Granularity.{Granularity}
use Rattle.pv_catalog.specs.declared.row.Row.{Row}
use Rattle.store_files.specs.Fronts.{Begins}
use Rattle.durable_write.specs.Held.{Filed, IsFiled, IsIn, file_of}
use Rattle.durable_write.specs.Plan.{of_row}
use Rattle.tier_store.specs.Change.{Has, IsKnownAt}
use Rattle.tier_store.specs.Seen.{Seen}
use Rattle.tier_store.specs.Stores.{Stores, list_at, tier}
use Rattle.tier_store.proofs.Places.{manifest_at, granularity_at}
use Rattle.act_model.specs.Crash.{kept_of}
use Rattle.archive_core.specs.LimboTies.{row_file, IsRetiredOf, HasRetired, IsOneOf, AreRetired, AreUnlisted, NamesDiffer}
use Rattle.archive_core.specs.Stands.{HoldsDurable}
use Rattle.archive_core.proofs.Lists.{element, get_map, read_at, map_out, get_all, all_of, of_all, no_longer}
use Rattle.archive_core.proofs.Windows.{kept_to, index_low}
use Rattle.durable_write.specs.Held as held
use Rattle.tier_store.specs.declared.limbo.Retired.{Retired}
use Rattle.archive_core.proofs.LimboTying.{from_filter, contains_filter, KeepsFiles, retired_stays, ListsSame}
use Rattle.tier_store.specs.Limbo.{IsPinnedFile, IsListedName, IsNeeded, Stay, IsSwept as StoresSwept}
use Rattle.tier_store.proofs.Retirements.{slice_contains, name_left}
use Rattle.std.proofs.lemmas.Cmp.{nat_cmp_total}
use Rattle.std.proofs.lemmas.List.{length-map, length-append}
use Rattle.std.proofs.lemmas.List.Elements.{All-head, All-tail, All-filter, All-contains}
use Rattle.pv_catalog.specs.Lines.{line}
use Rattle.series_model.specs.declared.sample.Sample.{Sample}
use Rattle.tier_store.specs.Pinning.{Placed, placed_at, placed, files_in, files_of_line, state_of, listed_of, piece_of}
use Rattle.durable_write.proofs.Staying.{same_front}
use Rattle.pb_lines.specs.File as lines
use Rattle.store_manifest.specs.Manifest.{ManifestState}
use Rattle.store_manifest.specs.declared.entry.Entry.{Entry}
use Rattle.durable_write.proofs.Written.{contains_entry}
use Rattle.tier_store.specs.Retiring.{retired_of, names_in}
use Rattle.std.proofs.lemmas.List.Folds.{Any-from_list_any, list_any_at}
use Rattle.partition_names.specs.declared.part.Part.{Part}
use Rattle.partition_names.specs.Part.{IsPart}
use Rattle.partition_names.proofs.PartLemmas.{one_name, one_part, within}
use Rattle.partition_names.proofs.PathLemmas.{one_path}
use Rattle.act_model.specs.Sound.{IsSound, PieceSound, LimboSound}
use Rattle.act_model.specs.Sweep.{is_at, IsPinned, IsSwept, IsCopiedInto}
use Rattle.act_model.proofs.Rows.{same_store_is, of_filter}
use Rattle.std.proofs.lemmas.List.Filters.{length-filter_both}
use Rattle.tier_store.proofs.Removals.{stay_cases, stay_from, among_is, is_among}
use Rattle.disk_model.specs.Record.{is_same}

-- A pin is made: the stores' new pin is the machine's.

-- ONE PIN MORE

pub more_pins : (tells : Bool) (all : SeenAll) (told : Bool) (rows : List RowState) (pins : FinMap nat_cmp PinState) (pinned : FinMap nat_cmp PinOf) (n : ℕ) (state : PinState) (own : PinOf) → ArePinsOf tells all told rows pins pinned → IsPinOf tells all told rows state own → PinsStand tells all (insert pinned n own) → ArePinsOf tells all told rows (insert pins n state) (insert pinned n own)
more_pins tells all told rows pins pinned n state own are is stand = record {
  none = λ k none. get-insert nat_cmp_total pinned n own k ∙ by_test k (eq_by_cmp nat_cmp k n) (sym (get-insert nat_cmp_total pins n state k) ∙ none);
  each = λ k pin here. by_each k pin (eq_by_cmp nat_cmp k n) refl (sym (get-insert nat_cmp_total pins n state k) ∙ here);
  stand = stand;
}
  where
    by_test : (k : ℕ) (b : Bool) → cond b (Some state) (get pins k) ≡ None → cond b (Some own) (get pinned k) ≡ None
    by_test k true none = absurd (cc (none))
    by_test k false none = are.none k none

    by_each : (k : ℕ) (pin : PinState) (b : Bool) → eq_by_cmp nat_cmp k n ≡ b → cond b (Some state) (get pins k) ≡ Some pin → HasPinOf tells all told rows (insert pinned n own) k pin
    by_each k pin true test here = record { own = own; there = get-insert nat_cmp_total pinned n own k ∙ ap (λ (b : Bool). cond b (Some own) (get pinned k)) test; is = subst (λ (x : PinState). IsPinOf tells all told rows x own) (same_Some state pin here) is }
    by_each k pin false test here = let has = are.each k pin here in record { own = has.own; there = get-insert nat_cmp_total pinned n own k ∙ (ap (λ (b : Bool). cond b (Some own) (get pinned k)) test ∙ has.there); is = has.is }

pub get_inserted : (pinned : FinMap nat_cmp PinOf) (n : ℕ) (own : PinOf) → get (insert pinned n own) n ≡ Some own
get_inserted pinned n own = let same : eq_by_cmp nat_cmp n n ≡ true = grind (arith, nat_tests) in get-insert nat_cmp_total pinned n own n ∙ ap (λ (b : Bool). cond b (Some own) (get pinned n)) same

-- ITS PIECES

pub lines_same : (xs : List Sample) → lines_of xs ≡ lines.lines_of xs
lines_same [] = refl
lines_same (x ∷ xs) = ap (λ (rest : List ℕ). x.line ++ (10 ∷ rest)) (lines_same xs)

pub bytes_same : (i : ℕ) (store : Store) (f : Filed) → bytes_of (row_file i store f) ≡ held.bytes_of f
bytes_same i store f = ap (λ (rest : List ℕ). f.head ++ (10 ∷ rest)) (lines_same f.samples)

all_get : (P : Placed → Type 0) (xs : List Placed) (j : ℕ) (x : Placed) → AllByRecursion P xs → slice_get xs j ≡ Some x → P x
all_get P [] j x all here = absurd (cc (here))
all_get P (y ∷ xs) zero x all here = subst P (same_Some y x here) all.0
all_get P (y ∷ xs) (suc j) x all here = all_get P xs j x all.1 here

all_last : (P : Placed → Type 0) (xs ys : List Placed) → AllByRecursion P (xs ++ ys) → AllByRecursion P ys
all_last P [] ys all = all
all_last P (x ∷ xs) ys all = all_last P xs ys all.1

all_before : (P : Placed → Type 0) (xs ys : List Placed) → AllByRecursion P (xs ++ ys) → AllByRecursion P xs
all_before P [] ys all = tt
all_before P (x ∷ xs) ys all = (all.0, all_before P xs ys all.1)

all_joined : (P : Placed → Type 0) (xs ys : List Placed) → AllByRecursion P xs → AllByRecursion P ys → AllByRecursion P (xs ++ ys)
all_joined P [] ys one two = two
all_joined P (x ∷ xs) ys one two = (one.0, all_joined P xs ys one.1 two)

-- a file that a store lists, as it is on the disk
record IsOwn (at : Seen) (s : Stores) (p : Placed) : Type 0 where
  unit : Granularity
  filed : IsFiled unit s.rows p.file
  there : Begins (held.bytes_of p.file) (at.files (file_of (index_of p.store + 1, s.rows) p.file.entry))

module _ (tells : Bool) (all : SeenAll) (m : Machine) (s : Stores) (has : Has tells all.stores s) (seen_now : IsTrue tells → MayLeave all.stores.past all.stores.files) (holds : HoldsDurable s m) (tells_it : IsTrue tells) (stands : IsTrue s.stands) where
  store_own : (i : ℕ) (store : Store) → AllByRecursion (IsOwn all.stores s) (placed store i (list_at (index_of store) s))
  store_own i store =
      let three = has.known.three in
      let low = index_low store in
      let n = manifest_at all.stores.manifests (index_of store) (omega (arith, low, three)) in
      let known = has.known.each (index_of store) n.0 n.1 in
      let stored = (has.disk tells_it).each (index_of store) n.0 n.1 in
      let files = list_at (index_of store) s in
      let test : Filed → Bool = λ f. nat_eq f.entry.series i in
      let shelf : held.Shelf = (index_of store + 1, s.rows) in
      go n.0.granularity (of_row i files) (All-filter test (IsFiled n.0.granularity s.rows) files (known.valid.filed.filed stands)) (All-filter test (IsIn shelf all.stores.files) files (stored.safe.left all.stores.files (seen_now tells_it) stands))
    where
      go : (g : Granularity) (fs : List Filed) → All (IsFiled g s.rows) fs → All (IsIn (index_of store + 1, s.rows) all.stores.files) fs → AllByRecursion (IsOwn all.stores s) (map (placed_at store) fs)
      go g [] filed there = tt
      go g (f ∷ fs) filed there = (
        record { unit = g; filed = All-head (IsFiled g s.rows) f fs filed; there = All-head (IsIn (index_of store + 1, s.rows) all.stores.files) f fs there },
        go g fs (All-tail (IsFiled g s.rows) f fs filed) (All-tail (IsIn (index_of store + 1, s.rows) all.stores.files) f fs there),
      )

  line_own : (ks : List ℕ) → AllByRecursion (IsOwn all.stores s) (flat_map (λ (k : ℕ). files_in k s) ks)
  line_own [] = tt
  line_own (k ∷ ks) =
      let P = IsOwn all.stores s in
      let deep = all_joined P (placed Long k s.long) (placed Medium k s.medium) (store_own k Long) (store_own k Medium) in
      all_joined P (files_in k s) (flat_map (λ (j : ℕ). files_in j s) ks) (all_joined P (placed Long k s.long ++ placed Medium k s.medium) (placed Short k s.short) deep (store_own k Short)) (line_own ks)

  -- what is pinned of a file is its piece
  piece_is : (p : Placed) → IsOwn all.stores s p → IsShown tells all (piece_of all.stores.catalogue.rows (listed_of p)) → IsPieceOf tells all m.rows (state_of p) (piece_of all.stores.catalogue.rows (listed_of p))
  piece_is p is shown =
      let e = p.file.entry in
      let count = holds.count in
      let same_count = length-map m.rows kept_of in
      let low = slice_get_within s.rows e.series is.filed.row is.filed.stands in
      let r = element m.rows e.series (omega (arith, low, count, same_count)) in
      let row = holds.each e.series (kept_of r.0) (kept_to m.rows e.series r.0 r.1) in
      let rows : all.stores.catalogue.rows ≡ s.rows = has.known.rows in
      let name : file_of (index_of p.store + 1, all.stores.catalogue.rows) e ≡ file_of (index_of p.store + 1, s.rows) e = ap (λ (rs : List Row). file_of (index_of p.store + 1, rs) e) rows in
      let own_name : file_of (index_of p.store + 1, s.rows) e ≡ name_of r.0 (state_of p) = ap (λ (o : Option Row). (index_of p.store + 1, path_of (held.name_of o) e.part.name)) row.here ∙ ap (λ (t : List ℕ). (index_of p.store + 1, path_of t e.part.name)) (sym row.is.name) in
      let bytes : bytes_of (state_of p) ≡ held.bytes_of p.file = bytes_same e.series p.store p.file in
      let size : e.len ≡ length (bytes_of (state_of p)) = is.filed.len ∙ ap length (sym bytes) in
      let front : Begins shown.bytes (all.stores.files (file_of (index_of p.store + 1, all.stores.catalogue.rows) e)) = shown.shown.front tells_it in
      let own_front = subst (λ (n : Name). Begins (held.bytes_of p.file) (all.stores.files n)) (sym name) is.there in
      let same : shown.bytes ≡ held.bytes_of p.file = same_front shown.bytes (held.bytes_of p.file) (all.stores.files (file_of (index_of p.store + 1, all.stores.catalogue.rows) e)) (shown.len ∙ is.filed.len) front own_front in
      record {
        row = r.0;
        here = r.1;
        named = name ∙ own_name;
        head_len = is.filed.head_len;
        len = size;
        shows = subst (λ (b : List ℕ). Shows tells all (file_of (index_of p.store + 1, all.stores.catalogue.rows) e) b) (same ∙ sym bytes) shown.shown;
      }

  pub pieces_are : (i : ℕ) (closed files behind : List Placed) (pinned : FinMap nat_cmp PinOf) (pin : ℕ) (own : PinOf) → files_of_line i s ≡ closed ++ (files ++ behind) → own.pieces ≡ map (piece_of all.stores.catalogue.rows) (map listed_of files) → get pinned pin ≡ Some own → PinsStand tells all pinned
      → (j : ℕ) (piece : RowFile) → slice_get (map state_of files) j ≡ Some piece → HasFileOf tells all m.rows own j piece
  pieces_are i closed files behind pinned pin own split are there stand j piece got =
      let low = slice_get_within (map state_of files) j piece got in
      let count = length-map files state_of in
      let p = element files j (omega (arith, low, count)) in
      let file = piece_of all.stores.catalogue.rows (listed_of p.0) in
      let at : slice_get own.pieces j ≡ Some file = ap (λ (fs : List PinnedFile). slice_get fs j) are ∙ get_map (piece_of all.stores.catalogue.rows) (map listed_of files) j (listed_of p.0) (get_map listed_of files j p.0 p.1) in
      let is_own = all_get (IsOwn all.stores s) files j p.0 (all_before (IsOwn all.stores s) files behind (all_last (IsOwn all.stores s) closed (files ++ behind) (subst (λ (xs : List Placed). AllByRecursion (IsOwn all.stores s) xs) split (line_own (line s.rows i))))) p.1 in
      let same : state_of p.0 ≡ piece = same_Some (state_of p.0) piece (sym (get_map state_of files j p.0 p.1) ∙ got) in
      record { file = file; there = at; is = subst (λ (x : RowFile). IsPieceOf tells all m.rows x file) same (piece_is p.0 is_own (stand pin j own file there at)) }

-- A file that a store lists is, as one to be retired, a file of the machine.

module _ (tells : Bool) (at : Seen) (limbo : List Retired) (m : Machine) (s : Stores) (has : Has tells at s) (seen_now : IsTrue tells → MayLeave at.past at.files) (holds : HoldsDurable s m) (stands : IsTrue s.stands)
    (i : ℕ) (r : RowState) (here : slice_get m.rows i ≡ Some r) (store : Store) (h : Filed) (there : Contains (of_row i (list_at (index_of store) s)) h) where
  abbrev listed : List Filed
  listed = list_at (index_of store) s

  -- the file of the machine, and the retired one
  abbrev pub own : RowFile
  own = row_file i store h

  abbrev pub file : Retired
  file = retired_of (index_of store + 1, at.catalogue.rows) h.entry

  from : Contains listed h × (nat_eq h.entry.series i ≡ true)
  from = from_filter (λ (f : Filed). nat_eq f.entry.series i) listed h there

  series : h.entry.series ≡ i
  series = (Decides-eqb h.entry.series i).0 from.1

  manifest : (m : ManifestState) × (slice_get at.manifests (index_of store) ≡ Some m)
  manifest = manifest_at at.manifests (index_of store) (let three = has.known.three in let low = index_low store in omega (arith, low, three))

  known : IsKnownAt manifest.0 (tier (index_of store) s)
  known = has.known.each (index_of store) manifest.0 manifest.1

  filed : IsFiled manifest.0.granularity s.rows h
  filed = All-contains (IsFiled manifest.0.granularity s.rows) listed h (known.valid.filed.filed stands) from.0

  -- it has the name of the machine's file
  is_named : file.name ≡ name_of r own
  is_named =
      let row = holds.each i (kept_of r) (kept_to m.rows i r here) in
      let name : file.name ≡ file_of (index_of store + 1, s.rows) h.entry = ap (λ (rows : List Row). file_of (index_of store + 1, rows) h.entry) has.known.rows in
      let row_there : slice_get s.rows h.entry.series ≡ Some row.row = ap (slice_get s.rows) series ∙ row.here in
      name ∙ (ap (λ (o : Option Row). (index_of store + 1, path_of (held.name_of o) h.entry.part.name)) row_there ∙ ap (λ (t : List ℕ). (index_of store + 1, path_of t h.entry.part.name)) (sym row.is.name))

  size : h.entry.len ≡ length (bytes_of own)
  size = filed.len ∙ ap length (sym (bytes_same i store h))

  -- as long as it is listed it is shown
  shown : Shows tells (beside at limbo) file.name (bytes_of own)
  shown = record {
    held = inl (record {
      place = index_of store;
      manifest = manifest.0;
      here = manifest.1;
      listed = record { entry = h.entry; within = subst (λ (es : List Entry). Contains es h.entry) (sym known.entries) (contains_entry listed h from.0); named = refl; longer = omega (arith, size) };
      in_doubt = λ unsound. absurd (let sound = has.settled.manifests (index_of store) manifest.0 manifest.1 in let both : true ≡ false = sym sound ∙ unsound in cc (both));
      rows_in_doubt = λ unsound. absurd (let sound = has.settled.catalogue in let both : true ≡ false = sym sound ∙ unsound in cc (both));
    });
    some = let long = length-append h.head (10 ∷ lines_of h.samples) in omega (arith, long);
    front = λ told.
        let stored = (has.disk told).each (index_of store) manifest.0 manifest.1 in
        let is_in = All-contains (IsIn (index_of store + 1, s.rows) at.files) listed h (stored.safe.left at.files (seen_now told) stands) from.0 in
        let name : file_of (index_of store + 1, s.rows) h.entry ≡ file.name = ap (λ (rows : List Row). file_of (index_of store + 1, rows) h.entry) (sym has.known.rows) in
        subst (λ (bytes : List ℕ). Begins bytes (at.files file.name)) (sym (bytes_same i store h)) (subst (λ (n : Name). Begins (held.bytes_of h) (at.files n)) name is_in);
  }

  pub listed_is : IsRetiredOf tells (beside at limbo) m.rows own file
  listed_is = record {
    row = r;
    here = here;
    named = is_named;
    series = series;
    part = refl;
    unit = manifest.0.granularity;
    of_store = granularity_at at.manifests (index_of store) manifest.0 manifest.1;
    filed = subst (λ (rows : List Row). IsFiled manifest.0.granularity rows h) (sym has.known.rows) filed;
    shows = shown;
  }

-- A sweep of the stores' limbo is one of the machine's: the stores' pins name a file of limbo just where the machine's do.

-- NAMES

pub one_store : (a b : Store) → index_of a ≡ index_of b → a ≡ b
one_store Short Short is = refl
one_store Short Medium is = absurd (omega (arith, is))
one_store Short Long is = absurd (omega (arith, is))
one_store Medium Short is = absurd (omega (arith, is))
one_store Medium Medium is = refl
one_store Medium Long is = absurd (omega (arith, is))
one_store Long Short is = absurd (omega (arith, is))
one_store Long Medium is = absurd (omega (arith, is))
one_store Long Long is = refl

pub store_itself : (a : Store) → same_store a a ≡ true
store_itself Short = refl
store_itself Medium = refl
store_itself Long = refl

-- a place is a row, a store and a partition
pub record IsSamePlace (g f : RowFile) : Type 0 where
  pub row : g.row ≡ f.row
  pub store : g.store ≡ f.store
  pub part : g.part ≡ f.part

module _ (m : Machine) (sound : IsSound m) (f g : RowFile) (r q : RowState) (here : slice_get m.rows f.row ≡ Some r) (there : slice_get m.rows g.row ≡ Some q) (part : IsPartition m.rule f.store f.part) (other : IsPartition m.rule g.store g.part) where
  same_unit : g.store ≡ f.store → other.unit ≡ part.unit
  same_unit store = same_Some other.unit part.unit (sym other.of_store ∙ (ap (λ (s : Store). slice_get m.rule.granularity (index_of s)) store ∙ part.of_store))

  -- files that have one name are of one place
  pub place_named : name_of q g ≡ name_of r f → IsSamePlace g f
  place_named same =
      let number : index_of g.store + 1 ≡ index_of f.store + 1 = ap (λ (n : Name). n.0) same in
      let store = one_store g.store f.store (omega (arith, number)) in
      let cut = one_path q.name r.name g.part.name f.part.name (ap (λ (n : Name). n.1) same) in
      record {
        row = sound.keys g.row f.row q r there here cut.0;
        store = store;
        part = one_name part.unit g.part f.part (subst (λ (u : Granularity). IsPart u g.part) (same_unit store) other.is) part.is cut.1;
      }

  -- and files of one place have one name
  pub named_place : IsSamePlace g f → name_of q g ≡ name_of r f
  named_place same =
      let one : q ≡ r = same_Some q r (sym there ∙ (ap (slice_get m.rows) same.row ∙ here)) in
      let stores : name_of q g ≡ (index_of f.store + 1, path_of q.name g.part.name) = ap (λ (s : Store). (let n : Name = (index_of s + 1, path_of q.name g.part.name) in n)) same.store in
      let rows : (let n : Name = (index_of f.store + 1, path_of q.name g.part.name) in n) ≡ (index_of f.store + 1, path_of r.name g.part.name) = ap (λ (x : RowState). (let n : Name = (index_of f.store + 1, path_of x.name g.part.name) in n)) one in
      let parts : (let n : Name = (index_of f.store + 1, path_of r.name g.part.name) in n) ≡ name_of r f = ap (λ (p : Part). (let n : Name = (index_of f.store + 1, path_of r.name p.name) in n)) same.part in
      stores ∙ (rows ∙ parts)

  -- the test says so
  pub at_place : IsSamePlace g f → is_at f g ≡ true
  at_place same =
      let row = same.row in
      let start : g.part.start ≡ f.part.start = ap (λ (p : Part). p.start) same.part in
      let rows : (g.row == f.row) ≡ true = grind (arith, nat_tests) in
      let stores : same_store g.store f.store ≡ true = ap (λ (s : Store). same_store s f.store) same.store ∙ store_itself f.store in
      let starts : (g.part.start == f.part.start) ≡ true = grind (arith, nat_tests) in
      rw (rows, stores, starts) refl

  pub place_at : is_at f g ≡ true → IsSamePlace g f
  place_at is = by_tests (g.row == f.row) refl (same_store g.store f.store) refl (g.part.start == f.part.start) refl
    where
      by_tests : (a : Bool) → (g.row == f.row) ≡ a → (b : Bool) → same_store g.store f.store ≡ b → (c : Bool) → (g.part.start == f.part.start) ≡ c → IsSamePlace g f
      by_tests true rows true stores true starts =
          let start : g.part.start ≡ f.part.start = grind (arith, nat_tests) in
          let store = same_store_is g.store f.store stores in
          let is_part = subst (λ (u : Granularity). IsPart u g.part) (same_unit store) other.is in
          let mine = (within part.unit g.part is_part).1 in
          let theirs = (within part.unit f.part part.is).1 in
          record { row = grind (arith, nat_tests); store = store; part = one_part part.unit g.part f.part f.part.start is_part part.is (omega (arith, start), omega (arith, start, mine)) (omega arith, theirs) }
      by_tests true rows true stores false starts = absurd (let bad = rw (rows, stores, starts) at is in cc (bad))
      by_tests true rows false stores c starts = absurd (let bad = rw (rows, stores) at is in cc (bad))
      by_tests false rows b stores c starts = absurd (let bad = rw rows at is in cc (bad))

-- PIECES

-- a piece that has the name
named_at : (files : List PinnedFile) (name : Name) → Contains (map piece_file files) name → (k : ℕ) × (file : PinnedFile) × (slice_get files k ≡ Some file) × (file.name ≡ name)
named_at [] name (k, low, is) = absurd (omega (arith, low))
named_at (file ∷ files) name (zero, low, is) = (0, file, refl, is)
named_at (file ∷ files) name (suc k, low, is) = let rest = named_at files name (k, omega (arith, low), is) in (suc rest.0, rest.1, rest.2, rest.3)

module _ (tells : Bool) (all : SeenAll) (m : Machine) (sound : IsSound m) (told : m.told ≡ true) (pinned : FinMap nat_cmp PinOf) (pins : ArePinsOf tells all m.told m.rows m.pins pinned) (f : RowFile) (r : RowState) (here : slice_get m.rows f.row ≡ Some r) (part : IsPartition m.rule f.store f.part) where
  piece_sound : (n : ℕ) (state : PinState) (k : ℕ) (piece : RowFile) → get m.pins n ≡ Some state → slice_get state.pieces k ≡ Some piece → PieceSound m.rule m.rows m.limbo piece
  piece_sound n state k piece there got = get_all (PieceSound m.rule m.rows m.limbo) state.pieces k piece (sound.pinned told n state there) got

  pub pinned_there : IsPinnedFile pinned (name_of r f) → IsPinned m f
  pinned_there is = by_pin (get m.pins is.number) refl
    where
      by_pin : (o : Option PinState) → get m.pins is.number ≡ o → IsPinned m f
      by_pin None none = absurd (let lacks = pins.none is.number none in let both : ◌≡◌ {A = Option PinOf} None (Some is.pin) = sym lacks ∙ is.stands in cc (both))
      by_pin (Some state) there =
          let has = pins.each is.number state there in
          let one : has.own ≡ is.pin = same_Some has.own is.pin (sym has.there ∙ is.stands) in
          let at = named_at is.pin.pieces (name_of r f) is.names in
          let own_at : slice_get has.own.pieces at.0 ≡ Some at.1 = ap (λ (p : PinOf). slice_get p.pieces at.0) one ∙ at.2 in
          let low = slice_get_within has.own.pieces at.0 at.1 own_at in
          let number : length has.own.pieces ≡ length state.pieces = has.is.number in
          let piece = element state.pieces at.0 (omega (arith, low, number)) in
          let file = has.is.pieces told at.0 piece.0 piece.1 in
          let same : file.file ≡ at.1 = same_Some file.file at.1 (sym file.there ∙ own_at) in
          let named : name_of file.is.row piece.0 ≡ name_of r f = sym file.is.named ∙ (ap (λ (p : PinnedFile). p.name) same ∙ at.3) in
          let s = piece_sound is.number state at.0 piece.0 there piece.1 in
          let place = place_named m sound f piece.0 r file.is.row here file.is.here part s.partition named in
          let test : is_at f piece.0 ≡ true = at_place m sound f piece.0 r file.is.row here file.is.here part s.partition place in
          let found = get_or_from_slice_get state.pieces at.0 piece.0 piece.0 piece.1 in
          record { number = is.number; pin = state; here = there; names = list_any_at (is_at f) state.pieces at.0 piece.0 (omega (arith, low, number)) (ap (is_at f) found ∙ test) }

  pub there_pinned : IsPinned m f → IsPinnedFile pinned (name_of r f)
  there_pinned is =
      let has = pins.each is.number is.pin is.here in
      let some = Any-from_list_any (is_at f) is.pin.pieces is.names in
      let got : slice_get is.pin.pieces some.0 ≡ Some some.1 = read_at is.pin.pieces some.0 some.1 (sym some.3) some.2 in
      let file = has.is.pieces told some.0 some.1 got in
      let s = piece_sound is.number is.pin some.0 some.1 is.here got in
      let place = place_at m sound f some.1 r file.is.row here file.is.here part s.partition some.4 in
      let named : file.file.name ≡ name_of r f = file.is.named ∙ named_place m sound f some.1 r file.is.row here file.is.here part s.partition place in
      record { number = is.number; pin = has.own; stands = has.there; names = subst (λ (n : Name). Contains (map piece_file has.own.pieces) n) named (slice_contains has.own.pieces some.0 file.file file.there) }

-- WHAT STAYS OF A LIST

stay_all : (T P Q : Retired → Type 0) (xs ys : List Retired) → Stay P Q xs ys → AllByRecursion T xs → AllByRecursion T ys
stay_all T P Q [] ys stay all = subst (λ (l : List Retired). AllByRecursion T l) (sym stay) tt
stay_all T P Q (x ∷ xs) ys (inl s) all = subst (λ (l : List Retired). AllByRecursion T l) (sym s.2) (all.0, stay_all T P Q xs s.0 s.3 all.1)
stay_all T P Q (x ∷ xs) ys (inr s) all = stay_all T P Q xs ys s.1 all.1

abbrev named : Retired → Name
named file = file.name

pub stay_differ : (P Q : Retired → Type 0) (xs ys : List Retired) → Stay P Q xs ys → NamesDiffer named xs → NamesDiffer named ys
stay_differ P Q [] ys stay differ = subst (λ (l : List Retired). NamesDiffer named l) (sym stay) tt
stay_differ P Q (x ∷ xs) ys (inl s) differ = subst (λ (l : List Retired). NamesDiffer named l) (sym s.2) (stay_all (λ (y : Retired). y.name ≢ x.name) P Q xs s.0 s.3 differ.0, stay_differ P Q xs s.0 s.3 differ.1)
stay_differ P Q (x ∷ xs) ys (inr s) differ = stay_differ P Q xs ys s.1 differ.1

-- NAMES

-- the names of files have this one where one of them does
named_in : (files : List Retired) (name : Name) (file : Retired) → Contains files file → file.name ≡ name → list_any (λ (other : Name). is_same other name) (names_in files) ≡ true
named_in files name file there same = is_among (names_in files) name (subst (λ (n : Name). Contains (names_in files) n) same (name_left files file there))

-- the name of a file of the machine
abbrev name_in : List RowState → RowFile → Name
name_in rows f = of (slice_get rows f.row) f
  where
    of : Option RowState → RowFile → Name
    of None f = (0, [])
    of (Some row) f = name_of row f

name_there : (rows : List RowState) (f : RowFile) (row : RowState) → slice_get rows f.row ≡ Some row → name_in rows f ≡ name_of row f
name_there rows f row here = rw here refl

-- those of the machine's limbo that have one name are of one place, so each name stands once there
names_once : (m : Machine) → IsSound m → m.told ≡ true → (files : List RowFile) → AllByRecursion (LimboSound m.rule m.told m.rows) files → AllByRecursion (λ (f : RowFile). (row : RowState) × (slice_get m.rows f.row ≡ Some row)) files → PlacesDiffer files → NamesDiffer (name_in m.rows) files
names_once m sound told [] each rows places = tt
names_once m sound told (f ∷ files) each rows places = (behind files each.1 rows.1 places.0, names_once m sound told files each.1 rows.1 places.1)
  where
    behind : (gs : List RowFile) → AllByRecursion (LimboSound m.rule m.told m.rows) gs → AllByRecursion (λ (g : RowFile). (row : RowState) × (slice_get m.rows g.row ≡ Some row)) gs → AllByRecursion (IsElsewhere f) gs → AllByRecursion (λ (g : RowFile). name_in m.rows g ≢ name_in m.rows f) gs
    behind [] each_g rows_g apart = tt
    behind (g ∷ gs) each_g rows_g apart = (
      λ same.
          let named : name_of rows_g.0.0 g ≡ name_of rows.0.0 f = sym (name_there m.rows g rows_g.0.0 rows_g.0.1) ∙ (same ∙ name_there m.rows f rows.0.0 rows.0.1) in
          let place = place_named m sound f g rows.0.0 rows_g.0.0 rows.0.1 rows_g.0.1 (each.0.partition told) (each_g.0.partition told) named in
          apart.0 place.row place.store place.part,
      behind gs each_g.1 rows_g.1 apart.1,
    )

filter_differ : (name : RowFile → Name) (test : RowFile → Bool) (xs : List RowFile) → NamesDiffer name xs → NamesDiffer name (filter test xs)
filter_differ name test [] differ = tt
filter_differ name test (x ∷ xs) differ = by_test (test x) (filter_differ name test xs differ.1)
  where
    by_test : (b : Bool) → NamesDiffer name (filter test xs) → NamesDiffer name (cond b (x ∷ filter test xs) (filter test xs))
    by_test true rest = (of_filter (λ (y : RowFile). name y ≢ name x) test xs differ.0, rest)
    by_test false rest = rest

-- THE SWEEP

module _ (tells : Bool) (old new : SeenAll) (m : Machine) (sound : IsSound m) (told : m.told ≡ true) (ties : AreRetired tells old m.rows m.limbo) (free : AreUnlisted old m.rows m.limbo) (differ : NamesDiffer named old.limbo) (pinned : FinMap nat_cmp PinOf) (pins : ArePinsOf tells old m.told m.rows m.pins pinned)
    (lists : ListsSame old.stores new.stores old.limbo) (copied : List Name) (copied_is : (f : RowFile) (row : RowState) → Contains m.limbo f → slice_get m.rows f.row ≡ Some row → Contains copied (name_of row f) ↔ IsCopiedInto m f) (files : ℕ) (swept : StoresSwept new.stores pinned copied old.limbo new.limbo files) where
  -- a file stays where one of its name does
  abbrev pub stays : RowFile → Bool
  stays f = list_any (λ (other : Name). is_same other (name_in m.rows f)) (names_in new.limbo)

  -- a file that the stores leave in limbo is needed, and was there
  pub left_is : (file : Retired) → Contains new.limbo file → Contains old.limbo file × IsNeeded pinned copied file.name × (IsListedName new.stores file.name → ⊥)
  left_is file there =
      let in_retired = stay_from (λ r. IsNeeded pinned copied r.name) (λ r. IsNeeded pinned copied r.name → ⊥) swept.retired new.limbo file swept.needed there in
      let in_old = stay_from (λ r. IsListedName new.stores r.name → ⊥) (λ r. IsListedName new.stores r.name) old.limbo swept.retired file swept.unlisted in_retired.0 in
      (in_old.0, in_retired.1, in_old.1)

  -- a file of the machine is among those that aren't listed
  retired_there : (f : RowFile) (there : Contains m.limbo f) → Contains swept.retired (ties.each f there).file
  retired_there f there =
      let own = ties.each f there in
      elim (stay_cases (λ r. IsListedName new.stores r.name → ⊥) (λ r. IsListedName new.stores r.name) old.limbo swept.retired own.file swept.unlisted own.within) [
        | inl stays_there ↦ stays_there
        | inr listed ↦ absurd (free f own.is.row there own.is.here (subst (λ (n : Name). IsListedName old.stores n) own.is.named ((lists own.file own.within).0 listed)))
      ]

  own_name : (f : RowFile) (there : Contains m.limbo f) → (ties.each f there).file.name ≡ name_in m.rows f
  own_name f there = let own = ties.each f there in own.is.named ∙ sym (name_there m.rows f own.is.row own.is.here)

  -- it stays where it is needed
  pub stays_where : (f : RowFile) (there : Contains m.limbo f) → (stays f ≡ true) ↔ IsNeeded pinned copied (ties.each f there).file.name
  stays_where f there = (
    λ test.
        let some = map_out named new.limbo (name_in m.rows f) (among_is (names_in new.limbo) (name_in m.rows f) test) in
        subst (λ (n : Name). IsNeeded pinned copied n) (some.2 ∙ sym (own_name f there)) (left_is some.0 some.1).1,
    λ needed. elim (stay_cases (λ r. IsNeeded pinned copied r.name) (λ r. IsNeeded pinned copied r.name → ⊥) swept.retired new.limbo (ties.each f there).file swept.needed (retired_there f there)) [
      | inl at ↦ named_in new.limbo (name_in m.rows f) (ties.each f there).file at (own_name f there)
      | inr gone ↦ absurd (gone needed)
    ],
  )

  limbo_sound : (f : RowFile) → Contains m.limbo f → LimboSound m.rule m.told m.rows f
  limbo_sound f there = of_all (LimboSound m.rule m.told m.rows) m.limbo f sound.each_file there

  -- just those that a pin names, or into whose partition a move has copied
  pub just : IsSwept m stays m.limbo
  just = all_of (λ (f : RowFile). (stays f ≡ true) ↔ (IsPinned m f ⊎ IsCopiedInto m f)) m.limbo (λ f there. (λ test. forth f there ((stays_where f there).0 test), λ needed. (stays_where f there).1 (back f there needed)))
    where
      forth : (f : RowFile) (there : Contains m.limbo f) → IsNeeded pinned copied (ties.each f there).file.name → IsPinned m f ⊎ IsCopiedInto m f
      forth f there (inl is) = let own = ties.each f there in inl (pinned_there tells old m sound told pinned pins f own.is.row own.is.here ((limbo_sound f there).partition told) (subst (λ (n : Name). IsPinnedFile pinned n) own.is.named is))
      forth f there (inr is) = let own = ties.each f there in inr ((copied_is f own.is.row there own.is.here).0 (subst (λ (n : Name). Contains copied n) own.is.named is))

      back : (f : RowFile) (there : Contains m.limbo f) → IsPinned m f ⊎ IsCopiedInto m f → IsNeeded pinned copied (ties.each f there).file.name
      back f there (inl is) = let own = ties.each f there in inl (subst (λ (n : Name). IsPinnedFile pinned n) (sym own.is.named) (there_pinned tells old m sound told pinned pins f own.is.row own.is.here ((limbo_sound f there).partition told) is))
      back f there (inr is) = let own = ties.each f there in inr (subst (λ (n : Name). Contains copied n) (sym own.is.named) ((copied_is f own.is.row there own.is.here).1 is))

  -- a file that isn't listed is one of the machine's
  of_machine : (file : Retired) → Contains old.limbo file → (IsListedName new.stores file.name → ⊥) → IsOneOf tells old m.rows m.limbo file
  of_machine file there none = ties.others file there (λ listed. none ((lists file there).1 listed))

  name_of_one : (file : Retired) (one : IsOneOf tells old m.rows m.limbo file) → name_in m.rows one.f ≡ file.name
  name_of_one file one = name_there m.rows one.f one.is.row one.is.here ∙ sym one.is.named

  -- one whose name stays in limbo stays
  left_stays : (file : Retired) → Contains new.limbo file → (one : IsOneOf tells old m.rows m.limbo file) → stays one.f ≡ true
  left_stays file there one = named_in new.limbo (name_in m.rows one.f) file there (sym (name_of_one file one))

  once : NamesDiffer (name_in m.rows) m.limbo
  once = names_once m sound told m.limbo sound.each_file (all_of (λ (f : RowFile). (row : RowState) × (slice_get m.rows f.row ≡ Some row)) m.limbo (λ f there. ((ties.each f there).is.row, (ties.each f there).is.here))) (sound.places told)

  in_retired : (file : Retired) → Contains swept.retired file → Contains old.limbo file × (IsListedName new.stores file.name → ⊥)
  in_retired file there = stay_from (λ r. IsListedName new.stores r.name → ⊥) (λ r. IsListedName new.stores r.name) old.limbo swept.retired file swept.unlisted there

  retired_differ : NamesDiffer named swept.retired
  retired_differ = stay_differ (λ r. IsListedName new.stores r.name → ⊥) (λ r. IsListedName new.stores r.name) old.limbo swept.retired swept.unlisted differ

  pub left_differ : NamesDiffer named new.limbo
  left_differ = stay_differ (λ r. IsNeeded pinned copied r.name) (λ r. IsNeeded pinned copied r.name → ⊥) swept.retired new.limbo swept.needed retired_differ

  -- as many are in the machine's limbo as aren't listed of the stores', and as many stay
  all_count : length m.limbo ≡ length swept.retired
  all_count =
      let low = no_longer (name_in m.rows) named m.limbo swept.retired once (λ f there. ((ties.each f there).file, retired_there f there, own_name f there)) in
      let high = no_longer named (name_in m.rows) swept.retired m.limbo retired_differ (λ file there. (let from = in_retired file there in let one = of_machine file from.0 from.1 in (one.f, one.within, name_of_one file one))) in
      omega (arith, low, high)

  left_count : length (filter stays m.limbo) ≡ length new.limbo
  left_count =
      let low = no_longer (name_in m.rows) named (filter stays m.limbo) new.limbo (filter_differ (name_in m.rows) stays m.limbo once) (λ f there. (let from = from_filter stays m.limbo f there in still f from.0 ((stays_where f from.0).0 from.1))) in
      let high = no_longer named (name_in m.rows) new.limbo (filter stays m.limbo) left_differ (λ file there. (let from = left_is file there in let one = of_machine file from.0 from.2 in (one.f, contains_filter stays m.limbo one.f one.within (left_stays file there one), name_of_one file one))) in
      omega (arith, low, high)
    where
      still : (f : RowFile) (there : Contains m.limbo f) → IsNeeded pinned copied (ties.each f there).file.name → (file : Retired) × Contains new.limbo file × (file.name ≡ name_in m.rows f)
      still f there needed = elim (stay_cases (λ r. IsNeeded pinned copied r.name) (λ r. IsNeeded pinned copied r.name → ⊥) swept.retired new.limbo (ties.each f there).file swept.needed (retired_there f there)) [
        | inl at ↦ ((ties.each f there).file, at, own_name f there)
        | inr gone ↦ absurd (gone needed)
      ]

  -- the number that the stores tell is the machine's
  pub swept_count : files ≡ length (filter (λ (f : RowFile). not (stays f)) m.limbo)
  swept_count =
      let told_count = swept.count in
      let all = all_count in
      let left = left_count in
      let both = length-filter_both stays (λ (f : RowFile). not (stays f)) (λ f. refl) m.limbo in
      omega (arith, told_count, all, left, both)

  -- and the stores' limbo is the machine's then
  pub swept_ties : KeepsFiles tells old new m.rows m.rows → AreRetired tells new m.rows (filter stays m.limbo) × AreUnlisted new m.rows (filter stays m.limbo)
  swept_ties keeps = (
    record {
      each = λ f there. (let from = from_filter stays m.limbo f there in still f from.0 ((stays_where f from.0).0 from.1));
      others = λ file there none. (let from = left_is file there in let one = of_machine file from.0 from.2 in record { f = one.f; within = contains_filter stays m.limbo one.f one.within (left_stays file there one); is = retired_stays tells old new m.rows m.rows one.f file keeps there one.is });
    },
    λ f row there here listed. (
        let from = from_filter stays m.limbo f there in
        let own = ties.each f from.0 in
        let one : own.is.row ≡ row = same_Some own.is.row row (sym own.is.here ∙ here) in
        let name : own.file.name ≡ name_of row f = own.is.named ∙ ap (λ (r : RowState). name_of r f) one in
        free f row from.0 here (subst (λ (n : Name). IsListedName old.stores n) name ((lists own.file own.within).0 (subst (λ (n : Name). IsListedName new.stores n) (sym name) listed)))
        ),
  )
    where
      still : (f : RowFile) (there : Contains m.limbo f) → IsNeeded pinned copied (ties.each f there).file.name → HasRetired tells new m.rows f
      still f there needed = elim (stay_cases (λ r. IsNeeded pinned copied r.name) (λ r. IsNeeded pinned copied r.name → ⊥) swept.retired new.limbo (ties.each f there).file swept.needed (retired_there f there)) [
        | inl at ↦ record { file = (ties.each f there).file; within = at; is = retired_stays tells old new m.rows m.rows f (ties.each f there).file keeps at (ties.each f there).is }
        | inr gone ↦ absurd (gone needed)
      ]

-- The stores' pins stay the machine's while all that is pinned is shown.

-- whatever is pinned, and was shown, is so still
abbrev pub KeepsPinned : Bool → FinMap nat_cmp PinOf → SeenAll → SeenAll → Type 0
KeepsPinned tells pinned old new = (name : Name) (bytes : List ℕ) → IsPinnedFile pinned name → Shows tells old name bytes → Shows tells new name bytes

pinned_at : (pinned : FinMap nat_cmp PinOf) (n i : ℕ) (own : PinOf) (file : PinnedFile) → get pinned n ≡ Some own → slice_get own.pieces i ≡ Some file → IsPinnedFile pinned file.name
pinned_at pinned n i own file here there = record { number = n; pin = own; stands = here; names = slice_contains own.pieces i file there }

pub pinned_stay : (tells : Bool) (old new : SeenAll) (told : Bool) (rows : List RowState) (pins : FinMap nat_cmp PinState) (pinned : FinMap nat_cmp PinOf) → KeepsPinned tells pinned old new → ArePinsOf tells old told rows pins pinned → ArePinsOf tells new told rows pins pinned
pinned_stay tells old new told rows pins pinned keeps are = record {
  none = are.none;
  each = λ n pin here. let has = are.each n pin here in record { own = has.own; there = has.there; is = record { owner = has.is.owner; number = has.is.number; pieces = λ t i piece got. by_piece n has.own i piece has.there (has.is.pieces t i piece got) } };
  stand = λ n i own file here there. let was = are.stand n i own file here there in record { bytes = was.bytes; len = was.len; shown = keeps file.name was.bytes (pinned_at pinned n i own file here there) was.shown };
}
  where
    by_piece : (n : ℕ) (own : PinOf) (i : ℕ) (piece : RowFile) → get pinned n ≡ Some own → HasFileOf tells old rows own i piece → HasFileOf tells new rows own i piece
    by_piece n own i piece here has =
        let is = has.is in
        record { file = has.file; there = has.there; is = record { row = is.row; here = is.here; named = is.named; head_len = is.head_len; len = is.len; shows = keeps has.file.name (bytes_of piece) (pinned_at pinned n i own has.file here has.there) is.shows } }
