-- What a retirement takes of a row: the files that leave its list, what is left of rows and stores, and what it brings to limbo.
use Rattle.std.proofs.Common.{◌≡◌, ◌≢◌, ◌⊎◌, inl, inr, ℕ, ◌+◌, ◌<◌, List, [], ◌++◌, map, Bool, refl, sym, ◌∙◌, ap, subst, ◌∷◌, arith, true, false, Some, length, suc, take, cond, ◌≤◌, Option, append-nil}
use Rattle.std.specs.List.{AllByRecursion, list_any}
use Rattle.std.specs.Prelude.{Contains, All, slice_get, IsTrue, nat_eq, ◌==◌, ◌&&◌, Result, filter}
use Rattle.disk_model.specs.Files.{Name}
use Rattle.pv_catalog.specs.declared.row.Row.{Row}
use Rattle.durable_write.specs.Held.{Filed, IsListed, file_of, filed_at, entry_of}
use Rattle.tier_store.specs.Retiring.{oldest, without_oldest, retired_of, Leaves, AreApart, IsFree, Stays, Remain, ShowsKept, names_in}
use Rattle.tier_store.specs.Seen.{Seen, granularities}
use Rattle.tier_store.specs.Stores.{Stores, list_at, samples_in}
use Rattle.tier_store.specs.declared.limbo.Retired.{Retired}
use Rattle.archive_core.proofs.Lists.{map_out, map_in, element, get_front, of_all, all_of, contains_cases}
use Rattle.std.proofs.lemmas.List.Elements.{All-contains, Contains-append_cases, All-contains_itself, All-filter, All-head, All-tail, All-take, Contains-append_left, Contains-append_right}
use Rattle.durable_write.specs.Ahead.{without_all}
use Rattle.durable_write.specs.Plan.{of_row}
use Rattle.durable_write.proofs.Staying.{same_place, same_cases, contains_map}
use Rattle.tier_store.specs.Change.{IsKnown, Has}
use Rattle.tier_store.specs.Limbo.{IsListedName, LimboStands, IsPinnedFile}
use Rattle.tier_store.proofs.Showing.{from_oldest, stays_or}
use Rattle.tier_store.proofs.Places.{list_other, list_set, manifest_at, within_three, granularity_at, own_series}
use Rattle.archive_core.specs.LimboTies.{NamesDiffer, IsRetiredOf, HasRetired, IsOneOf, IsLimboOf}
use Rattle.act_model.specs.Changes.{made, Retires, at, changed, published, retired, each, IsRetired, added, without_held}
use Rattle.act_model.specs.Limbo.{RowFile, unlisted, files_of, put, tier_at}
use Rattle.act_model.specs.Machine.{Machine, Unlists, Change, Publishes, AddsRow, SetsState, Renames, Appends, MoveState}
use Rattle.act_model.specs.Rows.{RowState, Store, Long, Short, Medium, next_store, tier, with_tier, period_of, same_store, window, is_empty}
use Rattle.act_model.specs.Sound.{IsSound, IsUnlisted, LimboSound}
use Rattle.std.specs.FinMap.{FinMap, get}
use Rattle.std.specs.Ordering.{nat_cmp}
use Rattle.pv_catalog.proofs.Standing.{keeps_same}
use Rattle.tier_store.specs.Pinned.{SeenAll, beside}
use Rattle.act_model.specs.Rule.{index_of, IsPartition}
use Rattle.archive_core.proofs.Windows.{index_low}
use Rattle.partition_names.specs.declared.granularity.Granularity.{Granularity}
use Rattle.store_manifest.specs.declared.entry.Entry.{Entry}
use Rattle.durable_write.specs.Flush.{PlacesRise}
use Rattle.durable_write.specs.Stored.{KeysDiffer}
use Rattle.durable_write.proofs.Places.{before_apart, rise_filter, Comes}
use Rattle.durable_write.proofs.Commits.{all_without_all}
use Rattle.tier_store.proofs.Retirements.{listed_name, name_left}
use Rattle.tier_store.proofs.Removals.{rise_take, among_is, is_among, stay_cases, stay_from}
use Rattle.series_model.specs.Series.{since, end_of}
use Rattle.series_model.specs.declared.sample.Sample.{Sample}
use Rattle.intake.specs.Tails.{TailState}
use Rattle.pb_messages.specs.declared.about.About.{About}
use Rattle.act_model.proofs.Rows.{Came, from_row, is_new, came, more_rows, same_store_is, each_forward}
use Rattle.intake_half.specs.declared.memory.RowMemory.{RowMemory}
use Rattle.archive_core.specs.Memory.{AreRowsOf}
use Rattle.std.proofs.lemmas.Bool.Decides.{nat_tests}
use Rattle.pb_messages.specs.declared.about.State.{State}
use Rattle.archive_core.proofs.MovesKept.{SameLater, goes_still, moves_stay, move_stays, same_put, SourceGoesOn, reach, source_stays, own, own_name, owns_differ, part_partition, retires_with}
use Rattle.moves.specs.declared.table.Running.{Running}
use Rattle.store_manifest.specs.Entries.{Place}
use Rattle.tier_store.specs.Moving.{GoesBeside, LeavesLater, LeavesNames, RunsBeside, names_of}
use Rattle.tier_store.proofs.RunningMoves.{later_names}
use Rattle.archive_core.specs.MoveTies.{AreMovesOf, IsMoveOf, ends_from}
use Rattle.archive_core.specs.Retiring.{AreOfOthers, IsRetiring, LimboRetires}
use Rattle.archive_core.proofs.MoveChoice.{ahead_own, next_high, next_low, row_without_all, without_others, retire_holds}
use Rattle.std.proofs.lemmas.Option.{slice_get_within}
use Rattle.disk_model.specs.Past.{MayLeave}
use Rattle.disk_model.specs.Record.{is_same}
use Rattle.disk_model.specs.declared.disk.DiskErr.{DiskErr}
use Rattle.pins.specs.Pieces.{PinOf}
use Rattle.pv_catalog.specs.Rows.{KeepsRows}
use Rattle.act_model.specs.OpenPiece.{name_of}
use Rattle.act_model.specs.Sweep.{IsPinned}
use Rattle.archive_core.specs.MoveChoice.{HaveDurable}
use Rattle.archive_core.specs.Pins.{ArePinsOf}
use Rattle.archive_core.specs.Stands.{IsRuleOf, HoldsDurable}
use Rattle.archive_core.proofs.LimboSwept.{listed_is, pinned_there, there_pinned, stay_differ, pinned_stay}
use Rattle.archive_core.proofs.LimboTying.{contains_filter, from_filter, GoesOn, limbo_made, KeepsFiles, bare_made, retired_stays, untold_retires, KeepsNames, names_made, pins_stay}
use Rattle.archive_core.proofs.MovedParts.{ends_move}
use Rattle.act_model.proofs.Places.{places_filter}
use Rattle.pb_messages.specs.declared.about.State.TheVariants.{Retired as RetiredState}
use Rattle.etl_mover.specs.Move.{Moving}

-- The oldest files of a row that leave a store's list, as files of limbo: which names are listed before and after, and that theirs differ.

-- LISTS

take_from : (n : ℕ) (xs : List Filed) (f : Filed) → Contains (take n xs) f → Contains xs f
take_from n xs f there = All-contains (Contains xs) (take n xs) f (All-take (Contains xs) n xs (All-contains_itself xs)) there

abbrev pub named : Retired → Name
named file = file.name

-- a name stands once, so it tells the file
pub one_named : (files : List Retired) (a b : Retired) → NamesDiffer named files → Contains files a → Contains files b → a.name ≡ b.name → a ≡ b
one_named [] a b differ (k, low, is) in_b same = absurd (omega (arith, low))
one_named (x ∷ files) a b differ in_a in_b same = elim (contains_cases x files a in_a) [
  | inl a_is ↦ elim (contains_cases x files b in_b) [
    | inl b_is ↦ sym a_is ∙ b_is
    | inr b_in ↦ absurd (of_all (λ (y : Retired). y.name ≢ x.name) files b differ.0 b_in (sym same ∙ ap named (sym a_is)))
  ]
  | inr a_in ↦ elim (contains_cases x files b in_b) [
    | inl b_is ↦ absurd (of_all (λ (y : Retired). y.name ≢ x.name) files a differ.0 a_in (same ∙ ap named (sym b_is)))
    | inr b_in ↦ one_named files a b differ.1 a_in b_in same
  ]
]

-- two lists whose names differ, and from one another, differ as one
pub differ_both : (xs ys : List Retired) → NamesDiffer named xs → NamesDiffer named ys → ((x y : Retired) → Contains xs x → Contains ys y → y.name ≢ x.name) → NamesDiffer named (xs ++ ys)
differ_both [] ys one two apart = two
differ_both (x ∷ xs) ys one two apart = (behind xs ys one.0 (λ y there. apart x y (0, omega arith, refl) there), differ_both xs ys one.1 two (λ w y there within. apart w y (let at = there in (suc at.0, (let low = at.1 in omega (arith, low)), at.2)) within))
  where
    over : (zs : List Retired) → ((y : Retired) → Contains zs y → y.name ≢ x.name) → AllByRecursion (λ (y : Retired). y.name ≢ x.name) zs
    over [] each = tt
    over (z ∷ zs) each = (each z (0, omega arith, refl), over zs (λ y there. each y (let at = there in (suc at.0, (let low = at.1 in omega (arith, low)), at.2))))

    behind : (ws zs : List Retired) → AllByRecursion (λ (y : Retired). y.name ≢ x.name) ws → ((y : Retired) → Contains zs y → y.name ≢ x.name) → AllByRecursion (λ (y : Retired). y.name ≢ x.name) (ws ++ zs)
    behind [] zs all each = over zs each
    behind (w ∷ ws) zs all each = (all.0, behind ws zs all.1 each)

-- files of different places have different names
names_apart : (g : Granularity) (store : ℕ) (rows : List Row) (fs : List Filed) → KeysDiffer rows → All (IsListed g rows) fs → PlacesRise fs → NamesDiffer named (map (λ (f : Filed). retired_of (store, rows) f.entry) fs)
names_apart g store rows [] keys listed rise = tt
names_apart g store rows (f ∷ fs) keys listed rise = (behind fs (All-tail (IsListed g rows) f fs listed) rise.0, names_apart g store rows fs keys (All-tail (IsListed g rows) f fs listed) rise.1)
  where
    is : IsListed g rows f
    is = All-head (IsListed g rows) f fs listed

    behind : (hs : List Filed) → All (IsListed g rows) hs → All (Comes f) hs → AllByRecursion (λ (r : Retired). r.name ≢ file_of (store, rows) f.entry) (map (λ (h : Filed). retired_of (store, rows) h.entry) hs)
    behind [] all comes = tt
    behind (h ∷ hs) all comes = (
      λ same. before_apart (filed_at f) (filed_at h) (All-head (Comes f) h hs comes) (sym (same_place g store rows h f keys (All-head (IsListed g rows) h hs all) is same)),
      behind hs (All-tail (IsListed g rows) h hs all) (All-tail (Comes f) h hs comes),
    )

-- THE FILES THAT LEAVE

module _ (place i n : ℕ) (low : place < 3) (held : Stores) where
  abbrev parts : List Filed
  parts = oldest place i n held

  abbrev less : Stores
  less = without_oldest place i n held

  -- they as files of limbo
  abbrev pub leaving : List Retired
  leaving = map (λ (f : Filed). retired_of (place + 1, held.rows) f.entry) (oldest place i n held)

  -- they are the row's, and the store's
  pub part_own : (f : Filed) → Contains parts f → Contains (of_row i (list_at place held)) f
  part_own f there = take_from n (of_row i (list_at place held)) f there

  pub part_leaves : (f : Filed) → Contains parts f → Contains leaving (retired_of (place + 1, held.rows) f.entry)
  part_leaves f there = map_in (λ (h : Filed). retired_of (place + 1, held.rows) h.entry) parts f there

  pub part_of : (r : Retired) → Contains leaving r → (f : Filed) × Contains parts f × (retired_of (place + 1, held.rows) f.entry ≡ r)
  part_of r there = map_out (λ (h : Filed). retired_of (place + 1, held.rows) h.entry) parts r there

  files_are : list_at place less ≡ without_all (list_at place held) parts
  files_are = list_set place (without_all (list_at place held) parts) held low

  less_in : (k : ℕ) → k < 3 → (f : Filed) → Contains (list_at k less) f → Contains (list_at k held) f
  less_in k lo f there = elim (same_cases k place) [
    | inl is ↦
        let left : Contains (without_all (list_at place held) parts) f = subst (λ (l : List Filed). Contains l f) (ap (λ (j : ℕ). list_at j less) is ∙ files_are) there in
        let all = all_without_all (Contains (list_at place held)) (list_at place held) parts (All-contains_itself (list_at place held)) in
        subst (λ (j : ℕ). Contains (list_at j held) f) (sym is) (All-contains (Contains (list_at place held)) (without_all (list_at place held) parts) f all left)
    | inr apart ↦ subst (λ (l : List Filed). Contains l f) (list_other place k (without_all (list_at place held) parts) held low lo apart) there
  ]

  -- a listed name is that of a file of the stores
  listed_file : (at : Seen) (s : Stores) → IsKnown at.catalogue at.manifests s → (name : Name) (l : IsListedName at name) → (f : Filed) × Contains (list_at l.place s) f × (file_of (l.place + 1, s.rows) f.entry ≡ name)
  listed_file at s known name l =
      let f = contains_map (list_at l.place s) l.entry (subst (λ (es : List Entry). Contains es l.entry) (known.each l.place l.manifest l.here).entries l.within) in
      (f.0, f.1, ap (λ (e : Entry). file_of (l.place + 1, s.rows) e) f.2 ∙ (ap (λ (rows : List Row). file_of (l.place + 1, rows) l.entry) (sym known.rows) ∙ l.named))

  file_listed : (at : Seen) (s : Stores) → IsKnown at.catalogue at.manifests s → (k : ℕ) → k < 3 → (f : Filed) → Contains (list_at k s) f → IsListedName at (file_of (k + 1, s.rows) f.entry)
  file_listed at s known k lo f there =
      let three = known.three in
      let m = manifest_at at.manifests k (omega (arith, lo, three)) in
      listed_name at s k m.0 f known m.1 there

  module _ (old : Seen) (was : IsKnown old.catalogue old.manifests held) where
    -- they are listed
    pub leaving_listed : (name : Name) → Leaves leaving name → IsListedName old name
    leaving_listed name (file, there, is) =
        let f = part_of file there in
        subst (IsListedName old) (ap named f.2 ∙ is) (file_listed old held was place low f.0 (from_oldest place i n held f.0 f.1))

    -- and no two of them have one name
    pub leaving_differ : NamesDiffer named leaving
    leaving_differ =
        let three = was.three in
        let m = manifest_at old.manifests place (omega (arith, low, three)) in
        let valid = (was.each place m.0 m.1).valid in
        let test : Filed → Bool = λ f. nat_eq f.entry.series i in
        let own = of_row i (list_at place held) in
        names_apart m.0.granularity (place + 1) held.rows parts valid.keys (All-take (IsListed m.0.granularity held.rows) n own (All-filter test (IsListed m.0.granularity held.rows) (list_at place held) valid.filed.listed)) (rise_take n own (rise_filter test (list_at place held) valid.apart))

    module _ (new : Seen) (now : IsKnown new.catalogue new.manifests (without_oldest place i n held)) where
      -- what is listed then was listed
      pub listed_before : (name : Name) → IsListedName new name → IsListedName old name
      listed_before name l =
          let lo = within_three new.manifests l.place l.manifest now.three l.here in
          let f = listed_file new less now name l in
          subst (IsListedName old) f.2 (file_listed old held was l.place lo f.0 (less_in l.place lo f.0 f.1))

      -- what was listed is so still, or leaves
      pub listed_after : (name : Name) → IsListedName old name → IsListedName new name ⊎ Leaves leaving name
      listed_after name l = elim (same_cases l.place place) [
        | inr apart ↦ inl (subst (IsListedName new) f.2 (file_listed new less now l.place lo f.0 (subst (λ (x : List Filed). Contains x f.0) (sym (list_other place l.place (without_all (list_at place held) parts) held low lo apart)) f.1)))
        | inl is ↦
            let within : Contains (list_at place held) f.0 = subst (λ (k : ℕ). Contains (list_at k held) f.0) is f.1 in
            let name_is : file_of (place + 1, held.rows) f.0.entry ≡ name = ap (λ (k : ℕ). file_of (k + 1, held.rows) f.0.entry) (sym is) ∙ f.2 in
            elim (stays_or parts (list_at place held) f.0 rise (from_oldest place i n held) within) [
              | inl stays ↦ inl (subst (IsListedName new) name_is (file_listed new less now place low f.0 (subst (λ (x : List Filed). Contains x f.0) (sym files_are) stays)))
              | inr part ↦ inr (retired_of (place + 1, held.rows) f.0.entry, part_leaves f.0 part, name_is)
            ]
      ]
        where
          lo : l.place < 3
          lo = within_three old.manifests l.place l.manifest was.three l.here

          f : (f : Filed) × Contains (list_at l.place held) f × (file_of (l.place + 1, held.rows) f.entry ≡ name)
          f = listed_file old held was name l

          rise : PlacesRise (list_at place held)
          rise =
              let three = was.three in
              let m = manifest_at old.manifests place (omega (arith, low, three)) in
              (was.each place m.0 m.1).valid.apart

-- What a change leaves of rows in memory, of the later stores, and of the moves that run beside it.

-- rows that differ in no more than what their stores list
pub record SameRow (a b : RowState) : Type 0 where
  pub name : a.name ≡ b.name
  pub about : a.about ≡ b.about
  pub state : a.state ≡ b.state
  pub base : a.base ≡ b.base
  pub next : a.next ≡ b.next
  pub tail : a.tail ≡ b.tail
  pub cell : a.cell ≡ b.cell

same_row : (r : RowState) → SameRow r r
same_row r = record { name = refl; about = refl; state = refl; base = refl; next = refl; tail = refl; cell = refl }

with_same : (r : RowState) (store : Store) (xs : List Sample) → SameRow (with_tier r store xs) r
with_same r Short xs = record { name = refl; about = refl; state = refl; base = refl; next = refl; tail = refl; cell = refl }
with_same r Medium xs = record { name = refl; about = refl; state = refl; base = refl; next = refl; tail = refl; cell = refl }
with_same r Long xs = record { name = refl; about = refl; state = refl; base = refl; next = refl; tail = refl; cell = refl }

published_same : (told : Bool) (limbo : List RowFile) (store : Store) (xs : List Sample) (r : RowState) → SameRow (published told limbo store xs r) r
published_same true limbo store xs r = with_same r store (put xs limbo (tier r store))
published_same false limbo store xs r = same_row r

-- what is before a moment leaves a store
pub retired_same : (told : Bool) (store : Store) (to : ℕ) (r : RowState) → SameRow (retired told store to r) r
retired_same true store to r = with_same r store (since to (tier r store))
retired_same false store to r = same_row r

pub at_same : (k : ℕ) (f : RowState → RowState) (i : ℕ) (r : RowState) → ((q : RowState) → SameRow (f q) q) → SameRow (at k f i r) r
at_same k f i r stays = by_test (i == k) refl
  where
    by_test : (b : Bool) → (i == k) ≡ b → SameRow (at k f i r) r
    by_test true is = rw is (stays r)
    by_test false is = rw is (same_row r)

pub listed_same : (m : Machine) (k : ℕ) (store : Store) (copied : List Sample) (i : ℕ) (r : RowState) → SameRow (changed m.told m.limbo (Publishes k store copied) i r) r
listed_same m k store copied i r = at_same k (published m.told (files_of k (next_store store) m.limbo) (next_store store) copied) i r (published_same m.told (files_of k (next_store store) m.limbo) (next_store store) copied)

-- IN MEMORY

pub unlisted_there : (m : Machine) (k : ℕ) (store : Store) (to i : ℕ) (r : RowState) → SameRow (changed m.told m.limbo (Unlists k store to) i r) r
unlisted_there m k store to i r = at_same k (retired m.told store to) i r (retired_same m.told store to)

-- each row comes from one that was there
pub row_came : (m : Machine) (k : ℕ) (store : Store) (to i : ℕ) (r : RowState) → slice_get (made [] (Unlists k store to) m).rows i ≡ Some r → (was : RowState) × (slice_get m.rows i ≡ Some was) × (r ≡ changed m.told m.limbo (Unlists k store to) i was)
row_came m k store to i r here = by_row (came m.told m.limbo (Unlists k store to) m.rows i r here)
  where
    by_row : Came m.told m.limbo (Unlists k store to) m.rows i r → (was : RowState) × (slice_get m.rows i ≡ Some was) × (r ≡ changed m.told m.limbo (Unlists k store to) i was)
    by_row (from_row was there made_is) = (was, there, made_is)
    by_row (is_new j at_is there) = absurd (cc (there))

-- the rows in memory are the machine's still
pub rows_unlisted : (rows : List Row) (kept : List RowMemory) (tails : List TailState) (m : Machine) (k : ℕ) (store : Store) (to : ℕ) → AreRowsOf rows kept tails m.rows → AreRowsOf rows kept tails (made [] (Unlists k store to) m).rows
rows_unlisted rows kept tails m k store to are = record {
  count = let more = more_rows m.told m.limbo (Unlists k store to) m.rows in let count = are.count in omega (arith, more, count);
  each = λ i r here. (
      let from = row_came m k store to i r here in
      let same = subst (λ (q : RowState). SameRow q from.0) (sym from.2) (unlisted_there m k store to i from.0) in
      let was = are.each i from.0 from.1 in
      record {
        row = was.row;
        memory = was.memory;
        here = was.here;
        there = was.there;
        is = record {
          name = same.name ∙ was.is.name;
          about = same.about ∙ was.is.about;
          state = same.state ∙ was.is.state;
          base = same.base ∙ was.is.base;
          next = same.next ∙ was.is.next;
          cell = same.cell ∙ was.is.cell;
          period = was.is.period ∙ ap (λ (a : About). period_of a.method) (sym same.about);
          tail = same.tail ∙ was.is.tail;
        };
      }
      );
  beyond = λ i high. are.beyond i (let more = more_rows m.told m.limbo (Unlists k store to) m.rows in omega (arith, high, more));
}

-- what goes to limbo is of the row
pub of_retired : (m : Machine) (k : ℕ) (store : Store) (to : ℕ) (into : List RowFile) → AllByRecursion (IsRetired m k store to) into → AllByRecursion (λ (f : RowFile). f.row ≡ k) into
of_retired m k store to [] all = tt
of_retired m k store to (f ∷ into) all = (all.0.row, of_retired m k store to into all.1)

-- the change is none of what the later stores have of these rows
abbrev pub IsEarly : (ℕ → Type 0) → Change → Type 0
IsEarly Of (AddsRow name about) = Unit {0}
IsEarly Of (SetsState i state) = Unit {0}
IsEarly Of (Renames i name) = Unit {0}
IsEarly Of (Appends batch) = Unit {0}
IsEarly Of (Publishes i store copied) = Of i → ⊥
IsEarly Of (Unlists i store to) = Of i → ⊥

set_there : (k : ℕ) (state : State) (i : ℕ) (r : RowState) (store : Store) → tier (at k (without_held state) i r) (next_store store) ≡ tier r (next_store store)
set_there k state i r store = by_test (i == k) refl store
  where
    by_test : (b : Bool) → (i == k) ≡ b → (s : Store) → tier (at k (without_held state) i r) (next_store s) ≡ tier r (next_store s)
    by_test true is Short = rw is refl
    by_test true is Medium = rw is refl
    by_test true is Long = rw is refl
    by_test false is s = rw is refl

-- another row stays
other_row : (k : ℕ) (f : RowState → RowState) (i : ℕ) (r : RowState) → i ≢ k → at k f i r ≡ r
other_row k f i r apart = let test : (i == k) ≡ false = grind (arith, nat_tests, apart) in rw test refl

tier_there : (Of : ℕ → Type 0) (told : Bool) (limbo : List RowFile) (c : Change) → IsEarly Of c → (i : ℕ) → Of i → (r : RowState) (store : Store) → tier (changed told limbo c i r) (next_store store) ≡ tier r (next_store store)
tier_there Of told limbo (AddsRow name about) early i of r store = refl
tier_there Of told limbo (SetsState k state) early i of r store = set_there k state i r store
tier_there Of told limbo (Renames k name) early i of r store = set_there k RetiredState i r store
tier_there Of told limbo (Appends batch) early i of r Short = refl
tier_there Of told limbo (Appends batch) early i of r Medium = refl
tier_there Of told limbo (Appends batch) early i of r Long = refl
tier_there Of told limbo (Publishes k store copied) early i of r s = ap (λ (x : RowState). tier x (next_store s)) (other_row k (published told (files_of k (next_store store) limbo) (next_store store) copied) i r (λ same. early (subst Of same of)))
tier_there Of told limbo (Unlists k store to) early i of r s = ap (λ (x : RowState). tier x (next_store s)) (other_row k (retired told store to) i r (λ same. early (subst Of same of)))

-- of limbo at a place where nothing comes to be listed nothing goes
unlisted_at : (after : List RowState) (i : ℕ) (store : Store) (limbo : List RowFile) → AllByRecursion (λ (f : RowFile). f.row ≡ i → f.store ≡ store → IsUnlisted after f) limbo → files_of i store (unlisted after limbo) ≡ files_of i store limbo
unlisted_at after i store [] all = refl
unlisted_at after i store (f ∷ limbo) all = by_tests (is_empty (window f.part (tier_at after f.row f.store))) (f.row == i) (same_store f.store store) refl refl refl (unlisted_at after i store limbo all.1)
  where
    by_tests : (a b c : Bool) → is_empty (window f.part (tier_at after f.row f.store)) ≡ a → (f.row == i) ≡ b → same_store f.store store ≡ c → files_of i store (unlisted after limbo) ≡ files_of i store limbo
        → files_of i store (cond a (f ∷ unlisted after limbo) (unlisted after limbo)) ≡ cond (b && c) (f ∷ files_of i store limbo) (files_of i store limbo)
    by_tests true true true is row place rest = rw (row, place) (ap (λ (fs : List RowFile). f ∷ fs) rest)
    by_tests true true false is row place rest = rw (row, place) rest
    by_tests true false c is row place rest = rw row rest
    by_tests false true true is row place rest = absurd (let same : f.row ≡ i = grind (arith, nat_tests, row) in let free : IsUnlisted after f = all.0 same (same_store_is f.store store place) in cc (is, free))
    by_tests false true false is row place rest = rest
    by_tests false false c is row place rest = rest

-- files of other rows count for nothing
files_front : (i : ℕ) (store : Store) (xs ys : List RowFile) → AllByRecursion (λ (f : RowFile). f.row ≢ i) ys → files_of i store (xs ++ ys) ≡ files_of i store xs
files_front i store [] [] apart = refl
files_front i store [] (f ∷ ys) apart = let test : (f.row == i) ≡ false = (let other = apart.0 in grind (arith, nat_tests, other)) in rw test (files_front i store [] ys apart.1)
files_front i store (f ∷ xs) ys apart = ap (λ (fs : List RowFile). cond (f.row == i && same_store f.store store) (f ∷ fs) fs) (files_front i store xs ys apart)

-- also with files of other rows in limbo
pub same_into : (Of : ℕ → Type 0) (m : Machine) (into : List RowFile) (c : Change) → IsSound m → IsEarly Of c → ((i : ℕ) → Of i → AllByRecursion (λ (f : RowFile). f.row ≢ i) into) → SameLater Of m.rows (made into c m).rows m.limbo (made into c m).limbo
same_into Of m into c sound early apart = record {
  rows_there = λ i store row of low here. by_row i store row of low (came m.told m.limbo c m.rows i row here);
  limbo_there = λ i store of.
      let P : RowFile → Type 0 = λ f. f.row ≡ i → f.store ≡ next_store store → IsUnlisted (made into c m).rows f in
      unlisted_at (made into c m).rows i (next_store store) (m.limbo ++ into) (all_of P (m.limbo ++ into) (λ f there row place. elim (Contains-append_cases m.limbo into f there) [
        | inl was ↦ still i store of f was row place
        | inr comes ↦ absurd (of_all (λ (g : RowFile). g.row ≢ i) into f (apart i of) comes row)
      ]))
      ∙ files_front i (next_store store) m.limbo into (apart i of);
}
  where
    by_row : (i : ℕ) (store : Store) (row : RowState) → Of i → i < length m.rows → Came m.told m.limbo c m.rows i row → (was : RowState) × (slice_get m.rows i ≡ Some was) × (tier row (next_store store) ≡ tier was (next_store store))
    by_row i store row of low (from_row was here made_is) = (was, here, ap (λ (r : RowState). tier r (next_store store)) made_is ∙ tier_there Of m.told m.limbo c early i of was store)
    by_row i store row of low (is_new j at_is here) = absurd (omega (arith, low, at_is))

    lists_same : (i : ℕ) (store : Store) → Of i → i < length m.rows → tier_at (made into c m).rows i (next_store store) ≡ tier_at m.rows i (next_store store)
    lists_same i store of low =
        let was = element m.rows i low in
        let own = was.1 in
        let now : slice_get (made into c m).rows i ≡ Some (changed m.told m.limbo c (0 + i) was.0) = get_front (each (changed m.told m.limbo c) 0 m.rows) (added c m.rows) i (changed m.told m.limbo c (0 + i) was.0) (each_forward (changed m.told m.limbo c) 0 m.rows i was.0 own) in
        let plain : 0 + i ≡ i = omega arith in
        rw (now, own) (tier_there Of m.told m.limbo c early (0 + i) (subst Of (sym plain) of) was.0 store)

    still : (i : ℕ) (store : Store) → Of i → (f : RowFile) → Contains m.limbo f → f.row ≡ i → f.store ≡ next_store store → IsUnlisted (made into c m).rows f
    still i store of f there row place =
        let is = of_all (LimboSound m.rule m.told m.rows) m.limbo f sound.each_file there in
        let same : tier_at (made into c m).rows f.row f.store ≡ tier_at m.rows f.row f.store = ap (tier_at (made into c m).rows f.row) place ∙ (lists_same f.row store (subst Of (sym row) of) is.here ∙ ap (tier_at m.rows f.row) (sym place)) in
        ap (λ (xs : _). is_empty (window f.part xs)) same ∙ of_all (IsUnlisted m.rows) m.limbo f sound.each_unlisted there

pub same_made : (Of : ℕ → Type 0) (m : Machine) (c : Change) → IsSound m → IsEarly Of c → SameLater Of m.rows (made [] c m).rows m.limbo (made [] c m).limbo
same_made Of m c sound early = same_into Of m [] c sound early (λ i of. tt)

-- FILES OF ANOTHER ROW

-- places of another row take none of them
other_without : (j : ℕ) (fs xs : List Filed) → AllByRecursion (λ (f : Filed). j ≢ f.entry.series) fs → of_row j (without_all xs fs) ≡ of_row j xs
other_without j fs xs apart = row_without_all j fs xs ∙ without_others j fs (of_row j xs) apart (own_series j xs)

-- THE STORES

module _ (place i n : ℕ) (low : place < 3) (held : Stores) where
  abbrev still_held : Stores
  still_held = without_oldest place i n held

  part_series : (f : Filed) → Contains (oldest place i n held) f → f.entry.series ≡ i
  part_series f there = of_all (λ (h : Filed). h.entry.series ≡ i) (of_row i (list_at place held)) f (own_series i (list_at place held)) (part_own place i n low held f there)

  -- each store lists of another row what it listed
  pub row_there : (k row : ℕ) → k < 3 → row ≢ i → of_row row (list_at k (without_oldest place i n held)) ≡ of_row row (list_at k held)
  row_there k row lo apart = elim (same_cases k place) [
    | inl is ↦
        ap (λ (j : ℕ). of_row row (list_at j still_held)) is
        ∙ (ap (λ (fs : List Filed). of_row row fs) (list_set place (without_all (list_at place held) (oldest place i n held)) held low)
        ∙ (other_without row (oldest place i n held) (list_at place held) (all_of (λ (f : Filed). row ≢ f.entry.series) (oldest place i n held) (λ f there same. apart (same ∙ part_series f there)))
        ∙ ap (λ (j : ℕ). of_row row (list_at j held)) (sym is)))
    | inr other ↦ ap (λ (fs : List Filed). of_row row fs) (list_other place k (without_all (list_at place held) (oldest place i n held)) held low lo other)
  ]

  pub beside_less : (k row : ℕ) → k < 3 → row ≢ i → GoesBeside k row held (without_oldest place i n held)
  beside_less k row lo apart = record {
    rows = keeps_same held.rows;
    stands = refl;
    listed = row_there k row lo apart;
    parts = λ from next. ([], ap (map (λ (f : Filed). f.entry.part)) (row_there from row (omega (arith, lo, next)) apart) ∙ sym (append-nil (map (λ (f : Filed). f.entry.part) (of_row row (list_at from held)))));
  }

  -- A MOVE OF ANOTHER ROW

  module _ (tells : Bool) (old : SeenAll) (known : IsKnown old.stores.catalogue old.stores.manifests held) (k : ℕ) (lo : k < 3) (moving : Moving) (files : List Filed) (runs : RunsBeside k tells old moving files held) where
    -- none of its files has the name of one that leaves, where it is of another row, or goes to another store
    pub files_apart : (moving.series ≢ i) ⊎ (k ≢ place) → AreApart place i n held (names_of (k + 1, held.rows) files)
    files_apart (inr other) f there within =
        let h = map_out (λ (x : Filed). file_of (k + 1, held.rows) x.entry) files (file_of (place + 1, held.rows) f.entry) within in
        let number : k + 1 ≡ place + 1 = ap (λ (n : Name). n.0) h.2 in
        other (omega (arith, number))
    files_apart (inl apart) f there within =
        let h = map_out (λ (x : Filed). file_of (k + 1, held.rows) x.entry) files (file_of (place + 1, held.rows) f.entry) within in
        let number : k + 1 ≡ place + 1 = ap (λ (n : Name). n.0) h.2 in
        let is : k ≡ place = omega (arith, number) in
        let three = known.three in
        let m = manifest_at old.stores.manifests place (omega (arith, low, three)) in
        let valid = (known.each place m.0 m.1).valid in
        let here : slice_get (granularities old.stores.manifests) k ≡ Some m.0.granularity = ap (slice_get (granularities old.stores.manifests)) is ∙ granularity_at old.stores.manifests place m.0 m.1 in
        let h_is = All-contains (IsListed m.0.granularity held.rows) files h.0 (runs.ahead.filed m.0.granularity here).listed h.1 in
        let f_is = All-contains (IsListed m.0.granularity held.rows) (list_at place held) f valid.filed.listed (from_oldest place i n held f there) in
        let named : file_of (place + 1, held.rows) h.0.entry ≡ file_of (place + 1, held.rows) f.entry = ap (λ (j : ℕ). file_of (j + 1, held.rows) h.0.entry) (sym is) ∙ h.2 in
        let one = same_place m.0.granularity (place + 1) held.rows h.0 f valid.keys h_is f_is named in
        let series : h.0.entry.series ≡ f.entry.series = ap (λ (p : Place). p.0) one in
        let own = of_all (λ (x : Filed). x.entry.series ≡ moving.series) files h.0 (ahead_own k tells old moving files held runs) h.1 in
        apart (sym own ∙ (series ∙ part_series f there))

-- THE MOVES

module _ (tells : Bool) (old new : SeenAll) (m : Machine) (i n : ℕ) (store : Store) (held : Stores) (stand : m.told ≡ true → IsTrue held.stands) (known : IsKnown old.stores.catalogue old.stores.manifests held) (same_g : granularities new.stores.manifests ≡ granularities old.stores.manifests)
    (leaves : (names : List Name) → All (λ (x : Name). 2 ≤ x.0) names → AreApart (index_of store) i n held names → LeavesNames names tells old new) where
  -- what a move has written stays that is of another row, or goes to another store
  files_left : (move : MoveState) (running : Running Moving) (is : IsMoveOf tells old m.told m.rows m.limbo held move running) → (move.row ≢ i) ⊎ (index_of (next_store move.store) ≢ index_of store) → LeavesNames (names_of (index_of (next_store move.store) + 1, held.rows) is.files) tells old new
  files_left move running is other =
      let place = index_of (next_store move.store) in
      let own : (running.moving.series ≢ i) ⊎ (place ≢ index_of store) = elim other [ inl row ↦ inl (λ same. row (sym is.own ∙ same)) | inr to ↦ inr to ] in
      leaves (names_of (place + 1, held.rows) is.files) (later_names place (place + 1, held.rows) is.files refl (next_low move.store)) (files_apart (index_of store) i n (index_low store) held tells old known place (next_high move.store) running.moving is.files is.beside own)

  -- where nothing leaves, such a move is the machine's still
  pub move_same : (move : MoveState) (running : Running Moving) → (move.row ≢ i) ⊎ (index_of (next_store move.store) ≢ index_of store) → IsMoveOf tells old m.told m.rows m.limbo held move running → IsMoveOf tells new m.told m.rows m.limbo held move running
  move_same move running other is = move_stays tells old new m.told m.rows m.rows m.limbo m.limbo held held same_g stand move running is
      (goes_still tells old new m.told m.rows m.rows m.limbo m.limbo held same_g stand move running is.files (λ on copying row got. (row, got, refl)) (files_left move running is other))

  module _ (left : FinMap nat_cmp MoveState) (slots : List (Option (Running Moving))) (apart : (k : ℕ) (move : MoveState) → get left k ≡ Some move → move.row ≢ i) (are : AreMovesOf tells old m.told m.rows m.limbo held left slots) where
    -- and so are all moves of other rows
    pub moves_same : AreMovesOf tells new m.told m.rows m.limbo held left slots
    moves_same = record { none = are.none; each = λ k move here. let has = are.each k move here in record { running = has.running; there = has.there; is = move_same move has.running (inl (apart k move here)) has.is } }

    -- also where the files leave
    pub moves_retired : IsSound m → (to : ℕ) (into : List RowFile) → AllByRecursion (λ (f : RowFile). f.row ≡ i) into
        → AreMovesOf tells new m.told (made into (Unlists i store to) m).rows (made into (Unlists i store to) m).limbo (without_oldest (index_of store) i n held) left slots
    moves_retired sound to into from =
        moves_stay tells old new m.told m.rows (made into (Unlists i store to) m).rows m.limbo (made into (Unlists i store to) m).limbo held (without_oldest (index_of store) i n held) same_g stand left slots
        (λ k move running here there is.
        let place = index_of (next_store move.store) in
        let other = apart k move here in
        let lists = row_there (index_of store) i n (index_low store) held (index_of move.store) move.row (index_low move.store) other in
        record {
          goes = beside_less (index_of store) i n (index_low store) held place move.row (next_high move.store) other;
          on = subst (λ (fs : List Filed). SourceGoesOn m.told held.stands (reach place is.files held running.moving move.stage) (end_of (samples_in move.row held)) (of_row move.row (list_at (index_of move.store) held)) fs) (sym lists)
              (source_stays m.told held.stands (reach place is.files held running.moving move.stage) (end_of (samples_in move.row held)) (of_row move.row (list_at (index_of move.store) held)));
          puts = λ on copying row got.
              let within = slice_get_within (made into (Unlists i store to) m).rows move.row row got in
              let count = more_rows m.told m.limbo (Unlists i store to) m.rows in
              same_put (λ (j : ℕ). j ≢ i) m.rows (made into (Unlists i store to) m).rows m.limbo (made into (Unlists i store to) m).limbo later move other (omega (arith, within, count)) row got;
          leaves = files_left move running is (inl other);
        })
        are
      where
        later : SameLater (λ (j : ℕ). j ≢ i) m.rows (made into (Unlists i store to) m).rows m.limbo (made into (Unlists i store to) m).limbo
        later = same_into (λ (j : ℕ). j ≢ i) m into (Unlists i store to) sound (λ same. same refl) (λ j away. all_of (λ (f : RowFile). f.row ≢ j) into (λ f there same. away (sym same ∙ of_all (λ (g : RowFile). g.row ≡ i) into f from there)))

-- THE DOUBT IS SETTLED

-- once a doubted retirement is settled as made, the moves that run are the machine's still
pub moves_settled : (tells : Bool) (old new : Seen) (limbo : List Retired) (m : Machine) → IsSound m → (before after : Stores) → (m.told ≡ true → IsTrue before.stands) → IsKnown old.catalogue old.manifests before → granularities new.manifests ≡ granularities old.manifests → LeavesLater tells (beside old limbo) (beside new limbo)
    → (i : ℕ) (store : Store) (to : ℕ) → IsRetiring tells (beside old limbo) m.told m.rows before after i store to → (into : List RowFile) → Retires m (Unlists i store to) into → AreOfOthers i m.moves → (slots : List (Option (Running Moving)))
    → AreMovesOf tells (beside old limbo) m.told m.rows m.limbo before m.moves slots → AreMovesOf tells (beside new limbo) m.told (made into (Unlists i store to) m).rows (made into (Unlists i store to) m).limbo after m.moves slots
moves_settled tells old new limbo m sound before after stand known same_g leaves i store to doubted into retires others slots are =
    subst (λ (s : Stores). AreMovesOf tells (beside new limbo) m.told (made into (Unlists i store to) m).rows (made into (Unlists i store to) m).limbo s m.moves slots) (sym doubted.same)
    (moves_retired tells (beside old limbo) (beside new limbo) m i doubted.number store before stand known same_g (λ names later apart. leaves names later) m.moves slots others are sound to into (of_retired m i store to into retires.0))

-- What a retirement of the stores brings to limbo is what the machine's brings.

-- ROWS KEEP THEIR NAMES

pub names_unlisted : (m : Machine) (k : ℕ) (store : Store) (to : ℕ) → KeepsNames m.rows (made [] (Unlists k store to) m).rows
names_unlisted m k store to = names_made m (Unlists k store to) (λ i r. (unlisted_there m k store to i r).name)

-- WHAT COMES OF LIMBO

-- of a machine that isn't told none comes
pub untold_limbo : (tells : Bool) (all : SeenAll) (m : Machine) (c : Change) → m.told ≡ false → LimboStands all.stores all.limbo → NamesDiffer named all.limbo → (was : SeenAll) → IsLimboOf tells was m.told m.rows m.limbo → IsLimboOf tells all m.told (made [] c m).rows (made [] c m).limbo
untold_limbo tells all m c off stands differ was tie = record {
  stands = stands;
  differ = differ;
  retired = λ on. absurd (let both : true ≡ false = sym on ∙ off in cc (both));
  unlisted = λ on. absurd (let both : true ≡ false = sym on ∙ off in cc (both));
  none = λ off. ap (λ (files : List RowFile). unlisted (made [] c m).rows (files ++ [])) (tie.none off);
  bare = λ off. bare_made m c off (tie.bare off);
}

module _ (tells : Bool) (old new : Seen) (limbo left : List Retired) (m : Machine) (sound : IsSound m) (held : Stores) (has : Has tells old held) (seen_now : IsTrue tells → MayLeave old.past old.files) (holds : HoldsDurable held m) (rule : IsRuleOf old m.rule) (stands : m.told ≡ true → IsTrue held.stands)
    (tie : IsLimboOf tells (beside old limbo) m.told m.rows m.limbo) (pinned : FinMap nat_cmp PinOf) (pins : ArePinsOf tells (beside old limbo) m.told m.rows m.pins pinned) (i : ℕ) (store : Store) (moves : store ≢ Long) (row_there : i < length m.rows) (n to : ℕ) (ends : m.told ≡ true → to ≡ ends_from 0 (map entry_of (oldest (index_of store) i n held)))
    (now : Has tells new (without_oldest (index_of store) i n held)) (same_g : granularities new.manifests ≡ granularities old.manifests) (shown : ShowsKept tells pinned (beside old limbo) (beside new left)) (still : LimboStands new left)
    (removed : Result (Unit {0}) DiskErr) (remain : Remain tells new pinned limbo left removed (map (λ (f : Filed). retired_of (index_of store + 1, held.rows) f.entry) (oldest (index_of store) i n held))) where
  abbrev place : ℕ
  place = index_of store

  low : place < 3
  low = index_low store

  abbrev leaving_parts : List Filed
  leaving_parts = oldest place i n held

  abbrev go : List Retired
  go = leaving place i n low held

  abbrev old_all : SeenAll
  old_all = beside old limbo

  abbrev new_all : SeenAll
  new_all = beside new left

  abbrev change : Change
  change = Unlists i store to

  abbrev file_at : Filed → Retired
  file_at h = retired_of (place + 1, held.rows) h.entry

  -- THE STORES' LIMBO

  abbrev kept : List Retired
  kept = remain.enter.kept

  -- what was in limbo and isn't listed stays in it
  kept_left : (r : Retired) → Contains kept r → Contains left r
  kept_left r there = elim (stay_cases (λ r. Stays pinned go r.name) (λ r. IsFree pinned go r.name) remain.both left r remain.stay (subst (λ (l : List Retired). Contains l r) (sym remain.enter.are) (Contains-append_left kept go r there))) [
    | inl is ↦ is
    | inr free ↦ absurd (remain.enter.apart r there free.leaves)
  ]

  -- and so does what leaves and is pinned
  pinned_left : (r : Retired) → Contains go r → IsPinnedFile pinned r.name → Contains left r
  pinned_left r there is_pinned = elim (stay_cases (λ r. Stays pinned go r.name) (λ r. IsFree pinned go r.name) remain.both left r remain.stay (subst (λ (l : List Retired). Contains l r) (sym remain.enter.are) (Contains-append_right kept go r there))) [
    | inl is ↦ is
    | inr free ↦ absurd (free.free is_pinned)
  ]

  -- there is nothing else
  left_from : (r : Retired) → Contains left r → Contains kept r ⊎ (Contains go r × IsPinnedFile pinned r.name)
  left_from r there =
      let from = stay_from (λ r. Stays pinned go r.name) (λ r. IsFree pinned go r.name) remain.both left r remain.stay there in
      elim (Contains-append_cases kept go r (subst (λ (l : List Retired). Contains l r) remain.enter.are from.0)) [
        | inl is ↦ inl is
        | inr leaves ↦ elim from.1 [
          | inl other ↦ absurd (other (r, leaves, refl))
          | inr is ↦ inr (leaves, is)
        ]
      ]

  stays_kept : (r : Retired) → Contains limbo r → (IsListedName old r.name → ⊥) → Contains kept r
  stays_kept r there free = elim (stay_cases (λ r. Unit {0}) (λ r. IsListedName new r.name ⊎ Leaves go r.name) limbo kept r remain.enter.stay there) [
    | inl is ↦ is
    | inr gone ↦ elim gone [
      | inl listed ↦ absurd (free (listed_before place i n low held old has.known new now.known r.name listed))
      | inr leaves ↦ absurd (free (leaving_listed place i n low held old has.known r.name leaves))
    ]
  ]

  kept_from : (r : Retired) → Contains kept r → (IsListedName new r.name → ⊥) → Contains limbo r × (IsListedName old r.name → ⊥)
  kept_from r there none = (
    (stay_from (λ r. Unit {0}) (λ r. IsListedName new r.name ⊎ Leaves go r.name) limbo kept r remain.enter.stay there).0,
    λ listed. elim (listed_after place i n low held old has.known new now.known r.name listed) [
      | inl is ↦ none is
      | inr leaves ↦ remain.enter.apart r there leaves
    ],
  )

  differ : NamesDiffer named left
  differ =
      let front = stay_differ (λ r. Unit {0}) (λ r. IsListedName new r.name ⊎ Leaves go r.name) limbo kept remain.enter.stay tie.differ in
      let both = differ_both kept go front (leaving_differ place i n low held old has.known) (λ x y in_x in_y same. remain.enter.apart x in_x (y, in_y, same)) in
      stay_differ (λ r. Stays pinned go r.name) (λ r. IsFree pinned go r.name) remain.both left remain.stay (subst (λ (l : List Retired). NamesDiffer named l) (sym remain.enter.are) both)

  -- WHAT STAYS

  variables : KeepsRows old.catalogue.rows new.catalogue.rows
  variables = subst (λ (rows : List Row). KeepsRows old.catalogue.rows rows) (has.known.rows ∙ sym now.known.rows) (keeps_same old.catalogue.rows)

  keeps : KeepsFiles tells old_all new_all m.rows (made [] change m).rows
  keeps = record { shown = λ file bytes there. shown file.name bytes (inr (inr (name_left left file there))); variables = variables; names = names_unlisted m i store to; granularity = same_g }

  -- the pins are those of the machine without the files
  pub pins_retired : ArePinsOf tells new_all m.told (made [] change m).rows m.pins pinned
  pins_retired =
      pins_stay tells new_all new_all m.told m.rows (made [] change m).rows m.pins pinned (λ name bytes is. is) (names_unlisted m i store to)
      (pinned_stay tells old_all new_all m.told m.rows m.pins pinned (λ name bytes is. shown name bytes (inr (inl is))) pins)

  -- A TOLD MACHINE

  module _ (told : m.told ≡ true) (r : RowState) (here : slice_get m.rows i ≡ Some r) where
    have : HaveDurable old.catalogue old.manifests held m
    have = record { known = has.known; holds = holds; rule = rule.granularity; stands = stands }

    abbrev all_owns : List RowFile
    all_owns = map (own i store) leaving_parts

    partition : (h : Filed) → Contains leaving_parts h → IsPartition m.rule store h.entry.part
    partition h there = part_partition old.catalogue old.manifests held m have sound told i r here store moves n to (ends told) h there

    -- the file of limbo is the machine's
    listed_one : (h : Filed) → Contains leaving_parts h → IsRetiredOf tells old_all m.rows (own i store h) (file_at h)
    listed_one h there =
        subst (λ (rows : List Row). IsRetiredOf tells old_all m.rows (own i store h) (retired_of (place + 1, rows) h.entry)) has.known.rows
        (listed_is tells old limbo m held has seen_now holds (stands told) i r here store h (part_own place i n low held h there))

    name_is : (h : Filed) → Contains leaving_parts h → (file_at h).name ≡ name_of r (own i store h)
    name_is h there = own_name held m holds i r here store h (part_own place i n low held h there)

    pinned_own : (h : Filed) → Contains leaving_parts h → IsPinnedFile pinned (file_at h).name → IsPinned m (own i store h)
    pinned_own h there is = pinned_there tells old_all m sound told pinned pins (own i store h) r here (partition h there) (subst (λ (name : Name). IsPinnedFile pinned name) (name_is h there) is)

    own_pinned : (h : Filed) → Contains leaving_parts h → IsPinned m (own i store h) → IsPinnedFile pinned (file_at h).name
    own_pinned h there is = subst (λ (name : Name). IsPinnedFile pinned name) (sym (name_is h there)) (there_pinned tells old_all m sound told pinned pins (own i store h) r here (partition h there) is)

    -- a file stays where limbo has its name
    abbrev stays : RowFile → Bool
    stays f = list_any (λ (other : Name). is_same other (name_of r f)) (names_in left)

    pinned_stays : (h : Filed) → Contains leaving_parts h → IsPinnedFile pinned (file_at h).name → stays (own i store h) ≡ true
    pinned_stays h there is = is_among (names_in left) (name_of r (own i store h)) (subst (λ (name : Name). Contains (names_in left) name) (name_is h there) (name_left left (file_at h) (pinned_left (file_at h) (part_leaves place i n low held h there) is)))

    stays_pinned : (h : Filed) → Contains leaving_parts h → stays (own i store h) ≡ true → IsPinnedFile pinned (file_at h).name
    stays_pinned h there test =
        let among = map_out named left (name_of r (own i store h)) (among_is (names_in left) (name_of r (own i store h)) test) in
        let same : among.0.name ≡ (file_at h).name = among.2 ∙ sym (name_is h there) in
        elim (left_from among.0 among.1) [
          | inl in_kept ↦ absurd (remain.enter.apart among.0 in_kept (file_at h, part_leaves place i n low held h there, sym same))
          | inr leaves ↦ subst (λ (name : Name). IsPinnedFile pinned name) same leaves.1
        ]

    abbrev into : List RowFile
    into = filter stays all_owns

    into_from : (f : RowFile) → Contains into f → (h : Filed) × Contains leaving_parts h × (own i store h ≡ f) × (stays f ≡ true)
    into_from f there =
        let from = from_filter stays all_owns f there in
        let one = map_out (own i store) leaving_parts f from.0 in
        (one.0, one.1, one.2, from.1)

    into_has : (h : Filed) → Contains leaving_parts h → IsPinnedFile pinned (file_at h).name → Contains into (own i store h)
    into_has h there is = contains_filter stays all_owns (own i store h) (map_in (own i store) leaving_parts h there) (pinned_stays h there is)

    told_retires : Retires m change into
    told_retires =
        retires_with old.catalogue old.manifests held m have sound told i r here store moves n to (ends told) into (λ f there. (let one = into_from f there in (one.0, one.1, one.2))) (λ h there is. into_has h there (own_pinned h there is))
        (places_filter stays all_owns (owns_differ old.catalogue old.manifests held m have sound told i r here store moves n to (ends told)))

    told_pinned : AllByRecursion (IsPinned m) into
    told_pinned = all_of (IsPinned m) into (λ f there. (let one = into_from f there in subst (λ (x : RowFile). IsPinned m x) one.2 (pinned_own one.0 one.1 (stays_pinned one.0 one.1 (subst (λ (x : RowFile). stays x ≡ true) (sym one.2) one.3)))))

    -- a file that stays is the machine's
    stays_one : (h : Filed) → Contains leaving_parts h → Contains left (file_at h) → IsRetiredOf tells new_all (made [] change m).rows (own i store h) (file_at h)
    stays_one h there in_left = retired_stays tells old_all new_all m.rows (made [] change m).rows (own i store h) (file_at h) keeps in_left (listed_one h there)

    goes : GoesOn tells old_all new_all (made [] change m).rows into
    goes = record {
      stay = λ file there free. kept_left file (stays_kept file there free);
      come = λ file there none. elim (left_from file there) [
        | inl in_kept ↦ inl (kept_from file in_kept none)
        | inr leaves ↦ inr (came file there leaves.0 leaves.1)
      ];
      into_is = λ f there. comes f (into_from f there);
    }
      where
        came : (file : Retired) → Contains left file → Contains go file → IsPinnedFile pinned file.name → IsOneOf tells new_all (made [] change m).rows into file
        came file there leaves is =
            let one = part_of place i n low held file leaves in
            let pin = subst (λ (x : Retired). IsPinnedFile pinned x.name) (sym one.2) is in
            record {
              f = own i store one.0;
              within = into_has one.0 one.1 pin;
              is = subst (λ (x : Retired). IsRetiredOf tells new_all (made [] change m).rows (own i store one.0) x) one.2 (stays_one one.0 one.1 (subst (λ (x : Retired). Contains left x) (sym one.2) there));
            }

        comes : (f : RowFile) → (h : Filed) × Contains leaving_parts h × (own i store h ≡ f) × (stays f ≡ true) → HasRetired tells new_all (made [] change m).rows f
        comes f (h, there, same, test) =
            let is = stays_pinned h there (subst (λ (x : RowFile). stays x ≡ true) (sym same) test) in
            let in_left = pinned_left (file_at h) (part_leaves place i n low held h there) is in
            subst (λ (x : RowFile). HasRetired tells new_all (made [] change m).rows x) same (record { file = file_at h; within = in_left; is = stays_one h there in_left })

    told_limbo : LimboRetires tells new_all m i store to
    told_limbo = record {
      into = into;
      retires = told_retires;
      pinned = λ on. told_pinned;
      limbo = limbo_made tells old_all new_all m into change keeps goes (without_oldest place i n held) now
          (retire_holds old.catalogue old.manifests i n to store held m have (λ on. ends on ∙ ends_move held store i n)) (rule.granularity ∙ sym same_g) rule.headers stands still differ (λ off. absurd (let both : true ≡ false = sym told ∙ off in cc (both))) tie;
    }

  -- a retirement of the stores brings to limbo what the machine's brings: the files that a pin names
  pub limbo_retires : LimboRetires tells new_all m i store to
  limbo_retires = by_told m.told refl
    where
      by_told : (b : Bool) → m.told ≡ b → LimboRetires tells new_all m i store to
      by_told true on = let row = element m.rows i row_there in told_limbo on row.0 row.1
      by_told false off = record {
        into = [];
        retires = untold_retires m change off (tie.bare off);
        pinned = λ on. absurd (let both : true ≡ false = sym on ∙ off in cc (both));
        limbo = untold_limbo tells new_all m change off still differ old_all tie;
      }
