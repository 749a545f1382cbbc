-- Limbo is tied to the machine's: pins stay while what they name is shown, and files in limbo where partitions are listed or not.
use Rattle.std.proofs.Common.{◌≡◌, ℕ, ◌+◌, List, [], Bool, true, false, Some, refl, sym, ◌∙◌, ap, ◌⊎◌, inl, inr, ◌∷◌, ◌++◌, subst, arith, ◌≢◌, suc, ◌≤◌, cond, Option, None}
use Rattle.std.specs.Prelude.{slice_get, ◌==◌, Contains, IsTrue, All, filter, nat_eq, ◌↔◌}
use Rattle.act_model.specs.Limbo.{RowFile, tier_at, IsThere, files_of, unlisted}
use Rattle.act_model.specs.Machine.{Machine, Change, SetsState, PinState, AddsRow, Renames, Appends, Publishes, Unlists}
use Rattle.act_model.specs.Rows.{RowState, tier, window, is_empty, fresh_row, renamed_row, Store, Short, Medium, Long}
use Rattle.tier_store.specs.Pinned.{SeenAll, KeepsShown, beside, Shows}
use Rattle.pb_messages.specs.declared.about.State.{State}
use Rattle.act_model.specs.Changes.{each, at, changed, added, made, without_held, changed_rows, Retires}
use Rattle.act_model.specs.Crash.{DurableRow, kept_of}
use Rattle.act_model.specs.OpenPiece.{name_of, bytes_of}
use Rattle.std.specs.List.{AllByRecursion}
use Rattle.std.proofs.lemmas.List.Elements.{All-contains, All-contains_itself, All-filter, All-from_recursion, All-head, All-tail, filter_passes, Contains-append_cases, Contains-append_left, Contains-append_right}
use Rattle.std.proofs.lemmas.Option.{same_Some}
use Rattle.partition_names.specs.declared.part.Part.{Part}
use Rattle.partition_names.specs.Part.{IsPart}
use Rattle.tier_store.specs.Change.{Has, IsKnown}
use Rattle.tier_store.specs.Seen.{Seen, granularities}
use Rattle.tier_store.specs.Stores.{Stores, list_at}
use Rattle.tier_store.specs.declared.limbo.Retired.{Retired}
use Rattle.act_model.specs.Rule.{index_of}
use Rattle.archive_core.specs.Stands.{TellsHeaders, HoldsDurable, IsRuleOf, StoresGrow}
use Rattle.std.specs.FinMap.{FinMap}
use Rattle.std.specs.Ordering.{nat_cmp}
use Rattle.pins.specs.Pieces.{PinOf}
use Rattle.tier_store.proofs.ReadCalls.{stand_kept}
use Rattle.archive_core.specs.Pins.{HasFileOf, ArePinsOf}
use Rattle.archive_core.proofs.Lists.{get_front, same_or_not, no_moves, stays_listed, rows_go_on, same_grow}
use Rattle.act_model.proofs.Rows.{each_forward, Came, from_row, is_new, came, each_get}
use Rattle.std.proofs.lemmas.Bool.Decides.{Decides-eqb}
use Rattle.partition_names.specs.declared.granularity.Granularity.{Granularity}
use Rattle.partition_names.proofs.PartLemmas.{one_part, within}
use Rattle.pv_catalog.specs.declared.row.Row.{Row}
use Rattle.series_model.specs.declared.sample.Sample.{Sample}
use Rattle.store_manifest.specs.declared.entry.Entry.{Entry}
use Rattle.durable_write.specs.Held.{Filed, IsFiled}
use Rattle.durable_write.specs.Plan.{of_row}
use Rattle.durable_write.proofs.Written.{contains_entry}
use Rattle.durable_write.proofs.Staying.{contains_map, filed_grows}
use Rattle.tier_store.specs.Limbo.{ListsPlace, IsListedName, IsOfPlace, LimboStands}
use Rattle.tier_store.proofs.Places.{manifest_at}
use Rattle.archive_core.proofs.Windows.{RowFiles, own_files, list_is, index_low, all_in, windows, window_apart}
use Rattle.act_model.proofs.Puts.{window-append}
use Rattle.pb_messages.specs.declared.about.About.{About}
use Rattle.disk_model.specs.Files.{Name}
use Rattle.pv_catalog.specs.Rows.{KeepsRows}
use Rattle.tier_store.proofs.Removals.{limbo_kept, listed_place, place_listed}
use Rattle.act_model.proofs.MadeLaws.{IsFresh, added_fresh, fresh, fresh_over}
use Rattle.archive_core.specs.LimboTies.{IsRetiredOf, filed_of, AreBare, IsLimboOf, HasRetired, IsOneOf, AreRetired, AreUnlisted, NamesDiffer}
use Rattle.pv_catalog.proofs.Standing.{keeps_same}
use Rattle.act_model.specs.Sound.{IsSound, IsUnlisted}
use Rattle.pb_messages.specs.declared.about.State.TheVariants.{Retired as RetiredState}
pub use Rattle.durable_write.proofs.Written.{contains_filter}

-- The stores' pins stay the machine's while what is pinned is shown and rows keep their names.

-- the row of this number has a row of the same name
pub record HasNamed (later : List RowState) (i : ℕ) (r : RowState) : Type 0 where
  pub row : RowState
  pub here : slice_get later i ≡ Some row
  pub name : row.name ≡ r.name

abbrev pub KeepsNames : List RowState → List RowState → Type 0
KeepsNames rows later = (i : ℕ) (r : RowState) → slice_get rows i ≡ Some r → HasNamed later i r

pub names_stay : (rows : List RowState) → KeepsNames rows rows
names_stay rows = λ i r here. record { row = r; here = here; name = refl }

-- all that keeps what is shown and rows' names keeps the pins
pub pins_stay : (tells : Bool) (old new : SeenAll) (told : Bool) (rows later : List RowState) (pins : FinMap nat_cmp PinState) (pinned : FinMap nat_cmp PinOf) → KeepsShown tells old new → KeepsNames rows later → ArePinsOf tells old told rows pins pinned → ArePinsOf tells new told later pins pinned
pins_stay tells old new told rows later pins pinned keeps names are = record {
  none = are.none;
  each = λ n pin here. let has = are.each n pin here in record { own = has.own; there = has.there; is = record { owner = has.is.owner; number = has.is.number; pieces = λ t i piece got. by_piece (has.is.pieces t i piece got) } };
  stand = stand_kept tells old new pinned keeps are.stand;
}
  where
    by_piece : {own : PinOf} {i : ℕ} {piece : RowFile} → HasFileOf tells old rows own i piece → HasFileOf tells new later own i piece
    by_piece {own} {i} {piece} has =
        let is = has.is in
        let named = names piece.row is.row is.here in
        let same : name_of is.row piece ≡ name_of named.row piece = ap (λ (n : List ℕ). name_of (record is.row { name = n }) piece) (sym named.name) in
        record { file = has.file; there = has.there; is = record { row = named.row; here = named.here; named = is.named ∙ same; head_len = is.head_len; len = is.len; shows = keeps has.file.name _ is.shows } }

-- rows that change by their numbers keep their names where each does
pub names_each : (f : ℕ → RowState → RowState) (rows : List RowState) → ((i : ℕ) (r : RowState) → (f i r).name ≡ r.name) → KeepsNames rows (each f 0 rows)
names_each f rows same = λ i r here. record { row = f (0 + i) r; here = each_forward f 0 rows i r here; name = same (0 + i) r }

at_name : (k : ℕ) (f : RowState → RowState) → ((r : RowState) → (f r).name ≡ r.name) → (i : ℕ) (r : RowState) → (at k f i r).name ≡ r.name
at_name k f same i r = by_test (i == k) refl
  where
    by_test : (b : Bool) → (i == k) ≡ b → (at k f i r).name ≡ r.name
    by_test true is = rw is (same r)
    by_test false is = rw is refl

pub names_at : (k : ℕ) (f : RowState → RowState) (rows : List RowState) → ((r : RowState) → kept_of (f r) ≡ kept_of r) → KeepsNames rows (each (at k f) 0 rows)
names_at k f rows stays = names_each (at k f) rows (at_name k f (λ r. ap (λ (d : DurableRow). d.name) (stays r)))

-- so do those of a change that an archive without moves makes
pub names_made : (m : Machine) (c : Change) → ((i : ℕ) (r : RowState) → (changed m.told m.limbo c i r).name ≡ r.name) → KeepsNames m.rows (made [] c m).rows
names_made m c same = λ i r here.
    let is = names_each (changed m.told m.limbo c) m.rows same i r here in
    record { row = is.row; here = get_front (each (changed m.told m.limbo c) 0 m.rows) (added c m.rows) i is.row is.here; name = is.name }

pub state_name : (m : Machine) (k : ℕ) (to : State) (i : ℕ) (r : RowState) → (changed m.told m.limbo (SetsState k to) i r).name ≡ r.name
state_name m k to i r = at_name k (without_held to) (λ q. refl) i r

-- A store lists a file of a row and a partition just where it has samples of that partition.

-- one of the files starts there
abbrev pub StartsAt : ℕ → List Filed → Type 0
StartsAt start files = (h : Filed) × Contains files h × (h.entry.part.start ≡ start)

-- one does, or none
starts_or_not : (start : ℕ) (files : List Filed) → StartsAt start files ⊎ AllByRecursion (λ (h : Filed). h.entry.part.start ≢ start) files
starts_or_not start [] = inr tt
starts_or_not start (h ∷ files) = elim (same_or_not h.entry.part.start start) [
  | inl same ↦ inl (h, (0, omega arith, refl), same)
  | inr apart ↦ elim (starts_or_not start files) [
    | inl later ↦ inl (later.0, (let at = later.1 in (suc at.0, (let low = at.1 in omega (arith, low)), at.2)), later.2)
    | inr none ↦ inr (apart, none)
  ]
]

-- where none does, there is no sample of the partition
pub none_starts : (g : Granularity) (rows : List Row) (p : Part) (files : List Filed) → IsPart g p → All (IsFiled g rows) files → AllByRecursion (λ (h : Filed). h.entry.part.start ≢ p.start) files → window p (all_in files) ≡ []
none_starts g rows p [] part filed none = refl
none_starts g rows p (h ∷ files) part filed none =
    window-append p h.samples (all_in files) ∙ (ap (λ (xs : List Sample). xs ++ window p (all_in files)) (window_apart g rows h p (All-head (IsFiled g rows) h files filed) part none.0) ∙ none_starts g rows p files part (All-tail (IsFiled g rows) h files filed) none.1)

-- what passes is there still
-- and what is there then was there, and passes
pub from_filter : {A : Type 0} (test : A → Bool) (xs : List A) (x : A) → Contains (filter test xs) x → Contains xs x × (test x ≡ true)
from_filter {A} test xs x there = (All-contains (λ (y : A). Contains xs y) (filter test xs) x (All-filter test (λ (y : A). Contains xs y) xs (All-contains_itself xs)) there, All-contains (λ (y : A). test y ≡ true) (filter test xs) x (filter_passes test xs) there)

module _ (tells : Bool) (at : Seen) (m : Machine) (held : Stores) (has : Has tells at held) (holds : HoldsDurable held m) (gran : m.rule.granularity ≡ granularities at.manifests) (heads : TellsHeaders m.rule) (told : m.told ≡ true) (stands : IsTrue held.stands)
    (f : RowFile) (r : RowState) (here : slice_get m.rows f.row ≡ Some r) (unit : Granularity) (of_store : slice_get (granularities at.manifests) (index_of f.store) ≡ Some unit) (part : IsPart unit f.part) where
  abbrev files : List Filed
  files = of_row f.row (list_at (index_of f.store) held)

  own : RowFiles m.rule held f.store f.row r
  own = own_files tells at m held has holds gran heads told stands f.row r here f.store

  filed : All (IsFiled unit held.rows) files
  filed = subst (λ (g : Granularity). All (IsFiled g held.rows) files) (same_Some own.unit unit (sym own.of_store ∙ (ap (λ (gs : List Granularity). slice_get gs (index_of f.store)) gran ∙ of_store))) own.filed

  tier_all : tier r f.store ≡ all_in files
  tier_all = sym (list_is m held f.row r holds told here f.store)

  -- where a file of the partition is listed, there are samples of it
  pub some_samples : StartsAt f.part.start files → is_empty (window f.part (tier r f.store)) ≡ false
  some_samples (h, there, start) =
      let is = All-contains (IsFiled unit held.rows) files h filed there in
      let mine = (within unit h.entry.part is.part).1 in
      let theirs = (within unit f.part part).1 in
      let same : h.entry.part ≡ f.part = one_part unit h.entry.part f.part f.part.start is.part part (omega (arith, start), omega (arith, start, mine)) (omega arith, theirs) in
      let W : Filed → Type 0 = λ x. window x.entry.part (all_in files) ≡ x.samples in
      let cut : window h.entry.part (all_in files) ≡ h.samples = All-contains W files h (All-from_recursion W files (windows unit held.rows files filed own.apart)) there in
      ap (λ (xs : List Sample). is_empty (window f.part xs)) tier_all ∙ (ap (λ (p : Part). is_empty (window p (all_in files))) (sym same) ∙ ap is_empty (cut ∙ is.some))

  -- and where there are samples of it, a file is listed
  pub some_file : is_empty (window f.part (tier r f.store)) ≡ false → StartsAt f.part.start files
  some_file some = elim (starts_or_not f.part.start files) [
    | inl one ↦ one
    | inr none ↦ absurd (
        let gone : is_empty (window f.part (tier r f.store)) ≡ true = ap is_empty (ap (window f.part) tier_all ∙ none_starts unit held.rows f.part files part filed none) in
        let both : true ≡ false = sym gone ∙ some in
        cc (both)
        )
  ]

  module _ (file : Retired) (series : file.entry.series ≡ f.row) (same : file.entry.part ≡ f.part) (number : file.name.0 ≡ index_of f.store + 1) where
    pub lists_file : StartsAt f.part.start files → ListsPlace at.manifests file
    lists_file (h, there, start) =
        let three = has.known.three in
        let low = index_low f.store in
        let n = manifest_at at.manifests (index_of f.store) (omega (arith, low, three)) in
        let known = has.known.each (index_of f.store) n.0 n.1 in
        let from = from_filter (λ (x : Filed). nat_eq x.entry.series f.row) (list_at (index_of f.store) held) h there in
        record {
          place = index_of f.store;
          manifest = n.0;
          store = number;
          here = n.1;
          entry = h.entry;
          within = subst (λ (es : List Entry). Contains es h.entry) (sym known.entries) (contains_entry (list_at (index_of f.store) held) h from.0);
          series = (Decides-eqb h.entry.series f.row).0 from.1 ∙ sym series;
          start = start ∙ ap (λ (p : Part). p.start) (sym same);
        }

    pub file_listed : ListsPlace at.manifests file → StartsAt f.part.start files
    file_listed lists =
        let store = lists.store in
        let place : lists.place ≡ index_of f.store = omega (arith, store, number) in
        let known = has.known.each lists.place lists.manifest lists.here in
        let h = contains_map (list_at lists.place held) lists.entry (subst (λ (es : List Entry). Contains es lists.entry) known.entries lists.within) in
        let there = subst (λ (k : ℕ). Contains (list_at k held) h.0) place h.1 in
        let row : h.0.entry.series ≡ f.row = ap (λ (e : Entry). e.series) h.2 ∙ (lists.series ∙ series) in
        let start : h.0.entry.part.start ≡ f.part.start = ap (λ (e : Entry). e.part.start) h.2 ∙ (lists.start ∙ ap (λ (p : Part). p.start) same) in
        (h.0, contains_filter (λ (x : Filed). nat_eq x.entry.series f.row) (list_at (index_of f.store) held) h.0 there ((Decides-eqb h.0.entry.series f.row).1 row), start)

-- The stores' limbo stays the machine's, in acts that leave limbo and after a change: what is listed again has left it.

-- WHAT STAYS

-- the lists have the same names of these files
abbrev pub ListsSame : Seen → Seen → List Retired → Type 0
ListsSame old new retired = (file : Retired) → Contains retired file → IsListedName new file.name ↔ IsListedName old file.name

-- all that is shown of the files of limbo stays so, and so do the rows' names and the partitions' lengths
pub record KeepsFiles (tells : Bool) (old new : SeenAll) (rows later : List RowState) : Type 0 where
  pub shown : (file : Retired) (bytes : List ℕ) → Contains new.limbo file → Shows tells old file.name bytes → Shows tells new file.name bytes
  pub variables : KeepsRows old.stores.catalogue.rows new.stores.catalogue.rows
  pub names : KeepsNames rows later
  pub granularity : granularities new.stores.manifests ≡ granularities old.stores.manifests

pub retired_stays : (tells : Bool) (old new : SeenAll) (rows later : List RowState) (f : RowFile) (file : Retired) → KeepsFiles tells old new rows later → Contains new.limbo file → IsRetiredOf tells old rows f file → IsRetiredOf tells new later f file
retired_stays tells old new rows later f file keeps there is =
    let now = keeps.names f.row is.row is.here in
    let same : name_of is.row f ≡ name_of now.row f = ap (λ (n : List ℕ). name_of (record is.row { name = n }) f) (sym now.name) in
    record {
      row = now.row;
      here = now.here;
      named = is.named ∙ same;
      series = is.series;
      part = is.part;
      unit = is.unit;
      of_store = ap (λ gs. slice_get gs (index_of f.store)) keeps.granularity ∙ is.of_store;
      filed = filed_grows is.unit old.stores.catalogue.rows new.stores.catalogue.rows (filed_of file.entry f) keeps.variables is.filed;
      shows = keeps.shown file (bytes_of f) there is.shows;
    }

pub limbo_stays : (tells : Bool) (old new : Seen) (retired : List Retired) (told : Bool) (rows later : List RowState) (limbo : List RowFile) → KeepsFiles tells (beside old retired) (beside new retired) rows later → ListsSame old new retired → (told ≡ false → AreBare later)
    → IsLimboOf tells (beside old retired) told rows limbo → IsLimboOf tells (beside new retired) told later limbo
limbo_stays tells old new retired told rows later limbo keeps lists bare tie = record {
  stands = limbo_kept old new retired keeps.variables keeps.granularity tie.stands;
  differ = tie.differ;
  retired = λ on. record {
    each = λ f there. let own = (tie.retired on).each f there in record { file = own.file; within = own.within; is = stays f own.file own.within own.is };
    others = λ file there none. let one = (tie.retired on).others file there (λ listed. none ((lists file there).1 listed)) in record { f = one.f; within = one.within; is = stays one.f file there one.is };
  };
  unlisted = λ on f row there here listed.
      let own = (tie.retired on).each f there in
      let now = stays f own.file own.within own.is in
      let one : now.row ≡ row = same_Some now.row row (sym now.here ∙ here) in
      let named : own.file.name ≡ name_of row f = now.named ∙ ap (λ (r : RowState). name_of r f) one in
      let before = (lists own.file own.within).0 (subst (λ (n : Name). IsListedName new n) (sym named) listed) in
      tie.unlisted on f own.is.row there own.is.here (subst (λ (n : Name). IsListedName old n) own.is.named before);
  none = tie.none;
  bare = bare;
}
  where
    stays : (f : RowFile) (file : Retired) → Contains retired file → IsRetiredOf tells (beside old retired) rows f file → IsRetiredOf tells (beside new retired) later f file
    stays f file there is = retired_stays tells (beside old retired) (beside new retired) rows later f file keeps there is

-- WHERE THE MACHINE ISN'T TOLD

-- no window has a sample
none_at : (rows : List RowState) (i : ℕ) (store : Store) (f : RowFile) → AreBare rows → is_empty (window f.part (tier_at rows i store)) ≡ true
none_at rows i store f bare = by_row (slice_get rows i) refl
  where
    by_row : (o : Option RowState) → slice_get rows i ≡ o → is_empty (window f.part (tier_at rows i store)) ≡ true
    by_row None here = rw here refl
    by_row (Some row) here = rw here (ap (λ xs. is_empty (window f.part xs)) (bare i row store here))

-- it may retire files without any going to limbo
pub untold_retires : (m : Machine) (c : Change) → m.told ≡ false → AreBare m.rows → Retires m c []
untold_retires m (AddsRow name about) off bare = refl
untold_retires m (SetsState k state) off bare = refl
untold_retires m (Renames k name) off bare = refl
untold_retires m (Appends batch) off bare = refl
untold_retires m (Publishes k store copied) off bare = refl
untold_retires m (Unlists k store to) off bare = (tt, record { stays = λ n p here. free p.pieces }, λ on. (let both : true ≡ false = sym on ∙ off in absurd (cc (both))))
  where
    free : (pieces : List RowFile) → AllByRecursion (λ (piece : RowFile). piece.row ≡ k → piece.store ≡ store → piece.part.end ≤ to → is_empty (window piece.part (tier_at m.rows k store)) ≡ false → IsThere piece.part (files_of k store [])) pieces
    free [] = tt
    free (piece ∷ pieces) = (λ own of_store ends some. (let none = none_at m.rows k store piece bare in let both : true ≡ false = sym none ∙ some in absurd (cc (both))), free pieces)

set_stays : (k : ℕ) (state : State) (i : ℕ) (row : RowState) (store : Store) → tier (at k (without_held state) i row) store ≡ tier row store
set_stays k state i row store = by_test (i == k) store
  where
    by_test : (b : Bool) (store : Store) → tier (cond b (without_held state row) row) store ≡ tier row store
    by_test true Short = refl
    by_test true Medium = refl
    by_test true Long = refl
    by_test false store = refl

-- no change gives a row samples
tier_stays : (limbo : List RowFile) (c : Change) (i : ℕ) (row : RowState) (store : Store) → tier (changed false limbo c i row) store ≡ tier row store
tier_stays limbo (AddsRow name about) i row store = refl
tier_stays limbo (SetsState k state) i row store = set_stays k state i row store
tier_stays limbo (Renames k name) i row store = set_stays k RetiredState i row store
tier_stays limbo (Appends batch) i row Short = refl
tier_stays limbo (Appends batch) i row Medium = refl
tier_stays limbo (Appends batch) i row Long = refl
tier_stays limbo (Publishes k from copied) i row store = by_test (i == k)
  where
    by_test : (b : Bool) → tier (cond b row row) store ≡ tier row store
    by_test true = refl
    by_test false = refl
tier_stays limbo (Unlists k from to) i row store = by_test (i == k)
  where
    by_test : (b : Bool) → tier (cond b row row) store ≡ tier row store
    by_test true = refl
    by_test false = refl

fresh_tier : (name : List ℕ) (about : About) (store : Store) → tier (fresh_row name about) store ≡ []
fresh_tier name about Short = refl
fresh_tier name about Medium = refl
fresh_tier name about Long = refl

renamed_tier : (name : List ℕ) (k : ℕ) (old : RowState) (store : Store) → tier (renamed_row name k old) store ≡ []
renamed_tier name k old Short = refl
renamed_tier name k old Medium = refl
renamed_tier name k old Long = refl

-- nor has a row that one adds
none_added : (c : Change) (rows : List RowState) (j : ℕ) (row : RowState) (store : Store) → slice_get (added c rows) j ≡ Some row → tier row store ≡ []
none_added c rows j row store here = by_fresh (added_fresh c rows j row here).0
  where
    by_fresh : IsFresh c rows row → tier row store ≡ []
    by_fresh (fresh name about is own) = ap (λ (r : RowState). tier r store) own ∙ fresh_tier name about store
    by_fresh (fresh_over k name old is there own) = ap (λ (r : RowState). tier r store) own ∙ renamed_tier name k old store

pub bare_made : (m : Machine) (c : Change) → m.told ≡ false → AreBare m.rows → AreBare (changed_rows m.told m.limbo c m.rows)
bare_made m c off bare = subst (λ (t : Bool). AreBare (changed_rows t m.limbo c m.rows)) (sym off) (λ i row store here. by_row i row store (came false m.limbo c m.rows i row here))
  where
    by_row : (i : ℕ) (row : RowState) (store : Store) → Came false m.limbo c m.rows i row → tier row store ≡ []
    by_row i row store (from_row was here made_is) = ap (λ (r : RowState). tier r store) made_is ∙ (tier_stays m.limbo c i was store ∙ bare i was store here)
    by_row i row store (is_new j at_is here) = none_added c m.rows j row store here

pub tier_there : (rows : List RowState) (i : ℕ) (row : RowState) (store : Store) → slice_get rows i ≡ Some row → tier_at rows i store ≡ tier row store
tier_there rows i row store here = rw here refl

-- whether it isn't listed, by the row's samples
abbrev is_gone : List RowState → RowFile → Bool
is_gone rows f = is_empty (window f.part (tier_at rows f.row f.store))

-- WHAT IS LISTED

module _ (tells : Bool) (all : SeenAll) (m : Machine) (held : Stores) (has : Has tells all.stores held) (holds : HoldsDurable held m) (gran : m.rule.granularity ≡ granularities all.stores.manifests) (heads : TellsHeaders m.rule) (told : m.told ≡ true) (stands : IsTrue held.stands) where
  module _ (f : RowFile) (file : Retired) (is : IsRetiredOf tells all m.rows f file) (of : IsOfPlace all.stores file) where
    number : file.name.0 ≡ index_of f.store + 1
    number = ap (λ (n : Name). n.0) is.named

    part : IsPart is.unit f.part
    part = subst (λ (p : Part). IsPart is.unit p) is.part is.filed.part

    gone_is : is_gone m.rows f ≡ is_empty (window f.part (tier is.row f.store))
    gone_is = ap (λ xs. is_empty (window f.part xs)) (tier_there m.rows f.row is.row f.store is.here)

    -- a file that a store lists has samples there
    listed_some : IsListedName all.stores file.name → is_gone m.rows f ≡ false
    listed_some listed =
        let lists = listed_place all.stores held file has.known of listed in
        let starts = file_listed tells all.stores m held has holds gran heads told stands f is.row is.here is.unit is.of_store part file is.series is.part number lists in
        gone_is ∙ some_samples tells all.stores m held has holds gran heads told stands f is.row is.here is.unit is.of_store part starts

    -- and one that has samples there is listed
    some_listed : is_gone m.rows f ≡ false → IsListedName all.stores file.name
    some_listed some =
        let starts = some_file tells all.stores m held has holds gran heads told stands f is.row is.here is.unit is.of_store part (sym gone_is ∙ some) in
        place_listed all.stores held file has.known of (lists_file tells all.stores m held has holds gran heads told stands f is.row is.here is.unit is.of_store part file is.series is.part number starts)

  -- of files of the machine those that aren't listed are those without samples in their stores
  pub unlisted_ties : (files : List RowFile) → LimboStands all.stores all.limbo → AreRetired tells all m.rows files → AreRetired tells all m.rows (unlisted m.rows files) × AreUnlisted all m.rows (unlisted m.rows files)
  unlisted_ties files limbo ties = (record { each = λ f there. ties.each f (from_filter (is_gone m.rows) files f there).0; others = others }, none_listed)
    where
      of : (file : Retired) → Contains all.limbo file → IsOfPlace all.stores file
      of file there = All-contains (IsOfPlace all.stores) all.limbo file limbo.0 there

      others : (file : Retired) → Contains all.limbo file → (IsListedName all.stores file.name → ⊥) → IsOneOf tells all m.rows (unlisted m.rows files) file
      others file there free =
          let one = ties.others file there free in
          record { f = one.f; within = contains_filter (is_gone m.rows) files one.f one.within (by_test one.f one.is (is_gone m.rows one.f) refl); is = one.is }
        where
          by_test : (f : RowFile) → IsRetiredOf tells all m.rows f file → (b : Bool) → is_gone m.rows f ≡ b → is_gone m.rows f ≡ true
          by_test f is true test = test
          by_test f is false test = absurd (free (some_listed f file is (of file there) test))

      none_listed : AreUnlisted all m.rows (unlisted m.rows files)
      none_listed f row there here listed =
          let from = from_filter (is_gone m.rows) files f there in
          let own = ties.each f from.0 in
          let one : own.is.row ≡ row = same_Some own.is.row row (sym own.is.here ∙ here) in
          let named : own.file.name ≡ name_of row f = own.is.named ∙ ap (λ (r : RowState). name_of r f) one in
          let some = listed_some f own.file own.is (of own.file own.within) (subst (λ (n : Name). IsListedName all.stores n) (sym named) listed) in
          let both : true ≡ false = sym from.1 ∙ some in
          cc (both)

-- CHANGES

-- What becomes of limbo with a change: what isn't listed stays in it, and of what comes into it these are the files of the machine.
pub record GoesOn (tells : Bool) (old new : SeenAll) (later : List RowState) (into : List RowFile) : Type 0 where
  pub stay : (file : Retired) → Contains old.limbo file → (IsListedName old.stores file.name → ⊥) → Contains new.limbo file
  pub come : (file : Retired) → Contains new.limbo file → (IsListedName new.stores file.name → ⊥) → (Contains old.limbo file × (IsListedName old.stores file.name → ⊥)) ⊎ IsOneOf tells new later into file
  pub into_is : (f : RowFile) → Contains into f → HasRetired tells new later f

-- limbo is as it was, and each of its files that was listed is so still
pub goes_on_same : (tells : Bool) (old new : Seen) (retired : List Retired) (later : List RowState) → ((file : Retired) → Contains retired file → IsListedName old file.name → IsListedName new file.name) → GoesOn tells (beside old retired) (beside new retired) later []
goes_on_same tells old new retired later lists = record {
  stay = λ file there free. there;
  come = λ file there free. inl (there, λ listed. free (lists file there listed));
  into_is = λ f there. absurd (let low = there.1 in omega (arith, low));
}

module _ (tells : Bool) (old new : SeenAll) (m : Machine) (into : List RowFile) (c : Change) (keeps : KeepsFiles tells old new m.rows (made into c m).rows) (goes : GoesOn tells old new (made into c m).rows into) where
  abbrev rows_then : List RowState
  rows_then = (made into c m).rows

  -- the machine's files have theirs, and the others are among them
  retired_on : AreRetired tells old m.rows m.limbo → AreUnlisted old m.rows m.limbo → AreRetired tells new rows_then (m.limbo ++ into)
  retired_on ties free = record {
    each = λ f there. elim (Contains-append_cases m.limbo into f there) [
      | inl was ↦ was_there f was
      | inr comes ↦ goes.into_is f comes
    ];
    others = λ file there none. elim (goes.come file there none) [
      | inl was ↦ (let one = ties.others file was.0 was.1 in record { f = one.f; within = Contains-append_left m.limbo into one.f one.within; is = retired_stays tells old new m.rows rows_then one.f file keeps there one.is })
      | inr one ↦ record { f = one.f; within = Contains-append_right m.limbo into one.f one.within; is = one.is }
    ];
  }
    where
      was_there : (f : RowFile) → Contains m.limbo f → HasRetired tells new rows_then f
      was_there f was =
          let own = ties.each f was in
          let there = goes.stay own.file own.within (λ listed. free f own.is.row was own.is.here (subst (λ (n : Name). IsListedName old.stores n) own.is.named listed)) in
          record { file = own.file; within = there; is = retired_stays tells old new m.rows rows_then f own.file keeps there own.is }

  -- the stores' limbo is then the machine's, which what is listed again has left
  pub limbo_made : (held : Stores) → Has tells new.stores held → HoldsDurable held (made into c m) → m.rule.granularity ≡ granularities new.stores.manifests → TellsHeaders m.rule → (m.told ≡ true → IsTrue held.stands) → LimboStands new.stores new.limbo → NamesDiffer (λ (file : Retired). file.name) new.limbo → (m.told ≡ false → into ≡ [])
      → IsLimboOf tells old m.told m.rows m.limbo → IsLimboOf tells new m.told rows_then (made into c m).limbo
  limbo_made held has holds gran heads stands limbo differ none_comes tie = record {
    stands = limbo;
    differ = differ;
    retired = λ on. (told_ties on).0;
    unlisted = λ on. (told_ties on).1;
    none = λ off. ap (unlisted rows_then) (ap (λ (files : List RowFile). files ++ into) (tie.none off) ∙ none_comes off);
    bare = λ off. bare_made m c off (tie.bare off);
  }
    where
      told_ties : m.told ≡ true → AreRetired tells new rows_then (made into c m).limbo × AreUnlisted new rows_then (made into c m).limbo
      told_ties on = unlisted_ties tells new (made into c m) held has holds gran heads on (stands on) (m.limbo ++ into) limbo (retired_on (tie.retired on) (tie.unlisted on))

-- NO FILE

-- where the machine has none, the stores may have none
pub empty_limbo : (tells : Bool) (at : Seen) (told : Bool) (rows : List RowState) → (told ≡ false → AreBare rows) → IsLimboOf tells (beside at []) told rows []
empty_limbo tells at told rows bare = record {
  stands = (λ k d low. absurd (omega (arith, low)), λ i j d less low. absurd (omega (arith, low)));
  differ = tt;
  retired = λ on. record { each = λ f there. absurd (omega (arith, there.1)); others = λ file there none. absurd (omega (arith, there.1)) };
  unlisted = λ on f row there here listed. absurd (omega (arith, there.1));
  none = λ off. refl;
  bare = bare;
}

-- ROWS CHANGE IN MEMORY

pub tier_kept : (a b : RowState) (store : Store) → kept_of a ≡ kept_of b → tier a store ≡ tier b store
tier_kept a b Short same = ap (λ (d : DurableRow). d.short) same
tier_kept a b Medium same = ap (λ (d : DurableRow). d.medium) same
tier_kept a b Long same = ap (λ (d : DurableRow). d.long) same

-- rows whose durable part stays show no more samples
pub bare_each : (g : ℕ → RowState → RowState) (rows : List RowState) → ((i : ℕ) (r : RowState) → kept_of (g i r) ≡ kept_of r) → AreBare rows → AreBare (each g 0 rows)
bare_each g rows stays bare = λ i row store here.
    let from = each_get g 0 rows i row here in
    ap (λ (r : RowState). tier r store) from.2 ∙ (tier_kept (g (0 + i) from.0) from.0 store (stays (0 + i) from.0) ∙ bare i from.0 store from.1)

pub limbo_rows : (tells : Bool) (at : Seen) (retired : List Retired) (told : Bool) (rows later : List RowState) (limbo : List RowFile) → KeepsNames rows later → (told ≡ false → AreBare later) → IsLimboOf tells (beside at retired) told rows limbo → IsLimboOf tells (beside at retired) told later limbo
limbo_rows tells at retired told rows later limbo names bare tie = limbo_stays tells at at retired told rows later limbo keeps (λ file there. (λ listed. listed, λ listed. listed)) bare tie
  where
    keeps : KeepsFiles tells (beside at retired) (beside at retired) rows later
    keeps = record { shown = λ file bytes there shown. shown; variables = keeps_same at.catalogue.rows; names = names; granularity = refl }

-- THE STORES STAY

pub limbo_beside : (tells : Bool) (old new : Seen) (retired : List Retired) (s : Stores) (told : Bool) (rows : List RowState) (limbo : List RowFile) → IsKnown old.catalogue old.manifests s → IsKnown new.catalogue new.manifests s → granularities new.manifests ≡ granularities old.manifests
    → KeepsShown tells (beside old retired) (beside new retired) → IsLimboOf tells (beside old retired) told rows limbo → IsLimboOf tells (beside new retired) told rows limbo
limbo_beside tells old new retired s told rows limbo was now same_g shown tie = limbo_stays tells old new retired told rows rows limbo keeps lists tie.bare tie
  where
    keeps : KeepsFiles tells (beside old retired) (beside new retired) rows rows
    keeps = record { shown = λ file bytes there. shown file.name bytes; variables = rows_go_on old new s s was now (same_grow no_moves s); names = names_stay rows; granularity = same_g }

    lists : ListsSame old new retired
    lists = λ file there. (λ listed. stays_listed new old s s file.name now was (same_grow no_moves s) listed, λ listed. stays_listed old new s s file.name was now (same_grow no_moves s) listed)

-- THE STORES GROW

-- of files that are all unlisted none goes
all_unlisted : (rows : List RowState) (files : List RowFile) → AllByRecursion (IsUnlisted rows) files → unlisted rows files ≡ files
all_unlisted rows [] all = refl
all_unlisted rows (f ∷ files) all = let own = all.0 in rw own (ap (λ (fs : List RowFile). f ∷ fs) (all_unlisted rows files all.1))

module _ (tells : Bool) (old new : Seen) (retired : List Retired) (m : Machine) (before held : Stores) (was : IsKnown old.catalogue old.manifests before) (has : Has tells new held) (grow : StoresGrow m.moves before held) (stands : m.told ≡ true → IsTrue held.stands)
    (same_g : granularities new.manifests ≡ granularities old.manifests) (rule : IsRuleOf old m.rule) (shown : KeepsShown tells (beside old retired) (beside new retired)) (tie : IsLimboOf tells (beside old retired) m.told m.rows m.limbo) where
  variables : KeepsRows old.catalogue.rows new.catalogue.rows
  variables = rows_go_on old new before held was has.known grow

  lists_on : (file : Retired) → Contains retired file → IsListedName old file.name → IsListedName new file.name
  lists_on file there = stays_listed old new before held file.name was has.known grow

  limbo_still : LimboStands new retired
  limbo_still = limbo_kept old new retired variables same_g tie.stands

  keeps_on : (later : List RowState) → KeepsNames m.rows later → KeepsFiles tells (beside old retired) (beside new retired) m.rows later
  keeps_on later names = record { shown = λ file bytes there. shown file.name bytes; variables = variables; names = names; granularity = same_g }

  -- they have what is durable of the machine with a change made
  pub limbo_changed : (c : Change) → KeepsNames m.rows (made [] c m).rows → HoldsDurable held (made [] c m) → IsLimboOf tells (beside new retired) m.told (made [] c m).rows (made [] c m).limbo
  limbo_changed c names holds =
      limbo_made tells (beside old retired) (beside new retired) m [] c (keeps_on (made [] c m).rows names) (goes_on_same tells old new retired (made [] c m).rows lists_on) held has holds (rule.granularity ∙ sym same_g) rule.headers stands limbo_still tie.differ (λ off. refl) tie

  -- or of the machine as it was
  pub limbo_held : IsSound m → HoldsDurable held m → IsLimboOf tells (beside new retired) m.told m.rows m.limbo
  limbo_held sound holds = record { stands = limbo_still; differ = tie.differ; retired = λ on. (told_ties on).0; unlisted = λ on. (told_ties on).1; none = tie.none; bare = tie.bare }
    where
      ties_on : m.told ≡ true → AreRetired tells (beside new retired) m.rows m.limbo
      ties_on on = record {
        each = λ f there. let own = (tie.retired on).each f there in record { file = own.file; within = own.within; is = retired_stays tells (beside old retired) (beside new retired) m.rows m.rows f own.file (keeps_on m.rows (names_stay m.rows)) own.within own.is };
        others = λ file there none.
            let one = (tie.retired on).others file there (λ listed. none (lists_on file there listed)) in
            record { f = one.f; within = one.within; is = retired_stays tells (beside old retired) (beside new retired) m.rows m.rows one.f file (keeps_on m.rows (names_stay m.rows)) there one.is };
      }

      told_ties : m.told ≡ true → AreRetired tells (beside new retired) m.rows m.limbo × AreUnlisted (beside new retired) m.rows m.limbo
      told_ties on =
          subst (λ (files : List RowFile). AreRetired tells (beside new retired) m.rows files × AreUnlisted (beside new retired) m.rows files) (all_unlisted m.rows m.limbo sound.each_unlisted)
          (unlisted_ties tells (beside new retired) m held has holds (rule.granularity ∙ sym same_g) rule.headers on (stands on) m.limbo limbo_still (ties_on on))
