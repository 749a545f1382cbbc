-- Windows: what the stores make of a change is the machine's, each file of a row is the window of its partition, and the whole of a row.
use Rattle.std.proofs.Common.{◌≡◌, ℕ, List, [], ◌∷◌, ◌++◌, Bool, true, refl, sym, ◌∙◌, ap, ◌<◌, Some, subst, arith, append-nil, map, ◌+◌, Option, None, zero, suc, inl, ◌≤◌, false, length, cond, append_assoc, length-append, ◌≢◌, ◌⊎◌, inr, ℤ}
use Rattle.std.specs.Prelude.{slice_get, IsTrue, nat_eq, All, ◌==◌}
use Rattle.std.proofs.lemmas.List.{map-append, length-map}
use Rattle.series_model.specs.declared.sample.Sample.{Sample}
use Rattle.series_model.specs.Series.{over, since, RisesFrom, end_of, end_from, before, IsRising}
use Rattle.act_model.specs.Rows.{RowState, durable, Store, Short, Medium, Long, next_store, fresh_row, renamed_row, window, tier, is_empty, accepted}
use Rattle.act_model.specs.Limbo.{RowFile, files_of, put}
use Rattle.act_model.specs.Machine.{Machine, Change, AddsRow, SetsState, Renames, Appends, Publishes, Unlists}
use Rattle.act_model.specs.Crash.{kept_of, DurableRow, kept}
use Rattle.std.proofs.lemmas.Option.{same_Some, slice_get_within}
use Rattle.pb_messages.specs.declared.about.About.{About}
use Rattle.tier_store.specs.Stores.{Stores, list_at, samples_in, with_rows, overs, whole_in}
use Rattle.archive_core.specs.Stands.{HoldsDurable, IsDurableAt, TellsHeaders, IsDurable}
use Rattle.std.proofs.lemmas.Bool.Decides.{nat_tests}
use Rattle.std.proofs.lemmas.List.Elements.{All-head, All-tail, All-filter}
use Rattle.pv_catalog.specs.Catalogue.{CatalogueState, registered, renamed}
use Rattle.pv_catalog.specs.declared.row.Row.{Row}
use Rattle.series_model.proofs.RisingLists.{RisesFrom-lower, since_all, end_from-append, RisesFrom-front, RisesFrom-rest, RisesFrom-append, since-append, since_none}
use Rattle.partition_names.specs.declared.granularity.Granularity.{Granularity}
use Rattle.store_manifest.specs.Manifest.{ManifestState}
use Rattle.durable_write.specs.Held.{Filed, samples_of, IsListed, IsFiled}
use Rattle.tier_store.proofs.Places.{manifest_at, parts_apart, own_series, rises_inside, ends_inside, granularity_at}
use Rattle.act_model.specs.Sound.{IsSound, MayMake}
use Rattle.std.specs.List.{AllByRecursion, flat_map}
use Rattle.tier_store.specs.Change.{Has, IsKnown, Registers, Switches, Flushes, Renames as Renaming}
use Rattle.tier_store.specs.Pinning.{files_in, state_of, placed_at, placed, Placed, files_of_line}
use Rattle.tier_store.specs.Seen.{Seen, granularities}
use Rattle.act_model.specs.Pin.{IsListedPiece, ComesBefore, InOrder, IsPieceOf}
use Rattle.act_model.proofs.Rows.{of_append, Came, from_row, is_new, came, more_rows, of_all}
use Rattle.act_model.specs.Changes.{each, at, changed, added, made, of_row, published, retired, without_held}
use Rattle.pb_messages.specs.declared.about.State.{State}
use Rattle.pb_messages.specs.declared.about.State.TheVariants.{Paused, Retired}
use Rattle.pv_catalog.specs.Rows.{switched, renamed_row as added_row}
use Rattle.pv_catalog.proofs.Standing.{length-switched}
use Rattle.series_model.specs.declared.batch.RowSamples.{RowSamples}
use Rattle.series_model.proofs.OverLemmas.{end_of-over, over_assoc, over_rising}
use Rattle.durable_write.specs.Flush.{with_batch, PlacesRise}
use Rattle.act_model.specs.Flush.{batch_of}
use Rattle.act_model.proofs.Puts.{put_plain, before-append}
use Rattle.act_model.proofs.RowActs.{flush_may}
use Rattle.archive_core.proofs.Lists.{all_first, all_rest, element, get_front, get_last}
use Rattle.std.proofs.lemmas.Bool.{cases_lt}
use Rattle.partition_names.specs.declared.part.Part.{Part}
use Rattle.partition_names.specs.Part.{IsPart}
use Rattle.partition_names.proofs.PartLemmas.{within}
use Rattle.durable_write.proofs.Places.{Comes, rise_filter}
use Rattle.act_model.proofs.RowLaws.{before_none}
use Rattle.act_model.proofs.Copies.{before_all}
use Rattle.pb_lines.specs.File.{IsSample, AreSamples}
use Rattle.pb_wire.specs.declared.payload.PayloadType.{PayloadType}
use Rattle.durable_write.specs.Plan.{of_row as filed_of_row}
use Rattle.act_model.specs.Files.{IsEventIn, IsFileOf}
use Rattle.act_model.specs.Rule.{Rule, index_of}
use Rattle.archive_core.specs.LimboTies.{row_file}
use Rattle.archive_core.specs.MoveChoice.{HaveDurable, row_files}
use Rattle.std.proofs.lemmas.Grind.{flat_map-append}
use Rattle.pv_catalog.specs.Lines.{line, line_known, lines}
use Rattle.pv_catalog.proofs.Lines.{line_is}
use Rattle.act_model.specs.Whole.{IsPartOf, itself, of_base, past, whole}
use Rattle.act_model.proofs.Bases.{before_of}
use Rattle.act_model.proofs.Wholes.{past_stays, whole_is}

-- What the stores make of a change is what the machine makes of it.

published_same : (told : Bool) (limbo : List RowFile) (store : Store) (xs : List Sample) (a b : RowState) → kept_of a ≡ kept_of b → kept_of (published told limbo store xs a) ≡ kept_of (published told limbo store xs b)
published_same true limbo Short xs a b same = ap (λ (d : DurableRow). record d { short = put xs limbo d.short }) same
published_same true limbo Medium xs a b same = ap (λ (d : DurableRow). record d { medium = put xs limbo d.medium }) same
published_same true limbo Long xs a b same = ap (λ (d : DurableRow). record d { long = put xs limbo d.long }) same
published_same false limbo store xs a b same = same

retired_same : (told : Bool) (store : Store) (to : ℕ) (a b : RowState) → kept_of a ≡ kept_of b → kept_of (retired told store to a) ≡ kept_of (retired told store to b)
retired_same true Short to a b same = ap (λ (d : DurableRow). record d { short = since to d.short }) same
retired_same true Medium to a b same = ap (λ (d : DurableRow). record d { medium = since to d.medium }) same
retired_same true Long to a b same = ap (λ (d : DurableRow). record d { long = since to d.long }) same
retired_same false store to a b same = same

at_same : (k : ℕ) (f : RowState → RowState) (i : ℕ) (a b : RowState) → kept_of a ≡ kept_of b → kept_of (f a) ≡ kept_of (f b) → kept_of (at k f i a) ≡ kept_of (at k f i b)
at_same k f i a b same there = by_test (i == k) refl
  where
    by_test : (t : Bool) → (i == k) ≡ t → kept_of (at k f i a) ≡ kept_of (at k f i b)
    by_test true is = rw is there
    by_test false is = rw is same

-- a change makes the same of what is durable of two rows of which the same is durable
pub changed_same : (told : Bool) (limbo : List RowFile) (c : Change) (i : ℕ) (a b : RowState) → kept_of a ≡ kept_of b → kept_of (changed told limbo c i a) ≡ kept_of (changed told limbo c i b)
changed_same told limbo (AddsRow name about) i a b same = same
changed_same told limbo (SetsState k state) i a b same = at_same k (without_held state) i a b same (ap (λ (d : DurableRow). record d { state = state }) same)
changed_same told limbo (Renames k name) i a b same = at_same k (without_held Retired) i a b same (ap (λ (d : DurableRow). record d { state = Retired }) same)
changed_same told limbo (Appends batch) i a b same = by_told told
  where
    by_told : (t : Bool) → kept_of (changed t limbo (Appends batch) i a) ≡ kept_of (changed t limbo (Appends batch) i b)
    by_told true = ap (λ (d : DurableRow). record d { short = put (of_row i batch) (files_of i Short limbo) d.short }) same
    by_told false = same
changed_same told limbo (Publishes k store copied) i a b same = at_same k (published told (files_of k (next_store store) limbo) (next_store store) copied) i a b same (published_same told (files_of k (next_store store) limbo) (next_store store) copied a b same)
changed_same told limbo (Unlists k store to) i a b same = at_same k (retired told store to) i a b same (retired_same told store to a b same)

-- ROWS OF WHICH THE SAME IS DURABLE

pub kept_from : (rs : List RowState) (i : ℕ) (d : DurableRow) → slice_get (map kept_of rs) i ≡ Some d → (r : RowState) × (slice_get rs i ≡ Some r) × (kept_of r ≡ d)
kept_from [] i d here = absurd (cc (here))
kept_from (r ∷ rs) zero d here = (r, refl, same_Some (kept_of r) d here)
kept_from (r ∷ rs) (suc i) d here = kept_from rs i d here

pub kept_to : (rs : List RowState) (i : ℕ) (r : RowState) → slice_get rs i ≡ Some r → slice_get (map kept_of rs) i ≡ Some (kept_of r)
kept_to [] i r here = absurd (cc (here))
kept_to (q ∷ rs) zero r here = ap (λ (x : RowState). Some (kept_of x)) (same_Some q r here)
kept_to (q ∷ rs) (suc i) r here = kept_to rs i r here

pub kept_each : (g : ℕ → RowState → RowState) (k : ℕ) (rows : List RowState) → ((i : ℕ) (r : RowState) → kept_of (g i r) ≡ kept_of r) → map kept_of (each g k rows) ≡ map kept_of rows
kept_each g k [] stays = refl
kept_each g k (r ∷ rows) stays = let head = stays k r in let tail = kept_each g (k + 1) rows stays in cc (head, tail)

-- one at a place has the other's durable part
pub alike_at : (rows news : List RowState) → map kept_of news ≡ map kept_of rows → (i : ℕ) (r : RowState) → slice_get rows i ≡ Some r → (new : RowState) × (slice_get news i ≡ Some new) × (kept_of new ≡ kept_of r)
alike_at rows news same i r here = kept_from news i (kept_of r) (ap (λ (ds : List DurableRow). slice_get ds i) same ∙ kept_to rows i r here)

pub length_alike : (rows news : List RowState) → map kept_of news ≡ map kept_of rows → length news ≡ length rows
length_alike rows news same = sym (length-map news kept_of) ∙ (ap length same ∙ length-map rows kept_of)

rows_alike : (told : Bool) (limbo : List RowFile) (c : Change) (k : ℕ) (rows news : List RowState) → map kept_of news ≡ map kept_of rows → map kept_of (each (changed told limbo c) k news) ≡ map kept_of (each (changed told limbo c) k rows)
rows_alike told limbo c k [] [] same = refl
rows_alike told limbo c k [] (new ∷ news) same = absurd (cc (same))
rows_alike told limbo c k (r ∷ rows) [] same = absurd (cc (same))
rows_alike told limbo c k (r ∷ rows) (new ∷ news) same =
    let one : kept_of new ≡ kept_of r = cc (same) in
    let others : map kept_of news ≡ map kept_of rows = cc (same) in
    let head = changed_same told limbo c k new r one in
    let tail = rows_alike told limbo c (k + 1) rows news others in
    cc (head, tail)

-- of a row that a change adds the same is durable
added_alike : (c : Change) (rows news : List RowState) → map kept_of news ≡ map kept_of rows → map kept_of (added c news) ≡ map kept_of (added c rows)
added_alike (AddsRow name about) rows news same = refl
added_alike (SetsState k state) rows news same = refl
added_alike (Renames k name) rows news same = by_row (slice_get rows k) refl (slice_get news k) refl
  where
    by_row : (o : Option RowState) → slice_get rows k ≡ o → (new : Option RowState) → slice_get news k ≡ new → map kept_of (added (Renames k name) news) ≡ map kept_of (added (Renames k name) rows)
    by_row None here None there = rw (here, there) refl
    by_row None here (Some q) there = absurd (let was = alike_at news rows (sym same) k q there in let both = sym here ∙ was.1 in cc (both))
    by_row (Some r) here new there =
        let set = alike_at rows news same k r here in
        rw (here, set.1) (ap (λ (d : DurableRow). record { name = name; about = d.about; state = Paused; base = Some k; short = []; medium = []; long = [] } ∷ []) set.2)
added_alike (Appends batch) rows news same = refl
added_alike (Publishes k store copied) rows news same = refl
added_alike (Unlists k store to) rows news same = refl

-- so it is once a change is made
pub made_alike : (m : Machine) (news : List RowState) (c : Change) → map kept_of news ≡ map kept_of m.rows → kept (made [] c (record m { rows = news })) ≡ kept (made [] c m)
made_alike m news c same =
    map-append kept_of (each (changed m.told m.limbo c) 0 news) (added c news)
    ∙ (ap (λ (ds : List DurableRow). ds ++ map kept_of (added c news)) (rows_alike m.told m.limbo c 0 m.rows news same)
    ∙ (ap (λ (ds : List DurableRow). map kept_of (each (changed m.told m.limbo c) 0 m.rows) ++ ds) (added_alike c m.rows news same)
    ∙ sym (map-append kept_of (each (changed m.told m.limbo c) 0 m.rows) (added c m.rows))))

-- A CHANGE IS MADE

-- the rows that a change makes are durable, where each is
pub durable_made : (m : Machine) (c : Change) (new : Stores) → length m.rows + length (added c m.rows) ≡ length new.rows → ((i : ℕ) (r : RowState) → slice_get m.rows i ≡ Some r → IsDurableAt m.told new i (kept_of (changed m.told m.limbo c i r)))
    → ((j : ℕ) (r : RowState) → slice_get (added c m.rows) j ≡ Some r → IsDurableAt m.told new (length m.rows + j) (kept_of r)) → HoldsDurable new (made [] c m)
durable_made m c new count old_rows new_rows = record {
  count = length-map (made [] c m).rows kept_of ∙ (more_rows m.told m.limbo c m.rows ∙ count);
  each = λ i d got. let from = kept_from (made [] c m).rows i d got in by_row i d from.0 from.2 (came m.told m.limbo c m.rows i from.0 from.1);
}
  where
    by_row : (i : ℕ) (d : DurableRow) (r : RowState) → kept_of r ≡ d → Came m.told m.limbo c m.rows i r → IsDurableAt m.told new i d
    by_row i d r is (from_row was here made_is) = subst (λ (x : DurableRow). IsDurableAt m.told new i x) (ap kept_of (sym made_is) ∙ is) (old_rows i was here)
    by_row i d r is (is_new j at_is here) = subst (λ (x : DurableRow). IsDurableAt m.told new i x) is (subst (λ (k : ℕ). IsDurableAt m.told new k (kept_of r)) (sym at_is) (new_rows j r here))

pub count_of : (old : Stores) (m : Machine) → HoldsDurable old m → length m.rows ≡ length old.rows
count_of old m holds = sym (length-map m.rows kept_of) ∙ holds.count

-- A ROW IS ADDED

-- no file is listed of a row that isn't there
samples_none : (g : Granularity) (rows : List Row) (files : List Filed) → All (IsListed g rows) files → samples_of (length rows) files ≡ []
samples_none g rows [] listed = refl
samples_none g rows (f ∷ files) listed =
    let head = All-head (IsListed g rows) f files listed in
    let low = slice_get_within rows f.entry.series head.row head.stands in
    let other : nat_eq f.entry.series (length rows) ≡ false = grind (arith, nat_tests) in
    rw other (samples_none g rows files (All-tail (IsListed g rows) f files listed))

known_none : (catalogue : CatalogueState) (ms : List ManifestState) (s : Stores) → IsKnown catalogue ms s → (i : ℕ) → i < 3 → samples_of (length s.rows) (list_at i s) ≡ []
known_none catalogue ms s known i low =
    let three = known.three in
    let m = manifest_at ms i (omega (arith, low, three)) in
    samples_none m.0.granularity s.rows (list_at i s) (known.each i m.0 m.1).valid.filed.listed

-- a row none of whose samples is listed
abbrev bare : Row → DurableRow
bare row = record { name = row.name; about = row.about; state = row.state; base = row.base; short = []; medium = []; long = [] }

-- the files are the same under other rows
beside_rows : (told : Bool) (s : Stores) (rows : List Row) (i : ℕ) (row : Row) (d : DurableRow) → IsDurable told s i row d → IsDurable told (with_rows s rows) i row d
beside_rows told s rows i row d is = record { name = is.name; about = is.about; state = is.state; base = is.base; short = is.short; medium = is.medium; long = is.long }

-- a row follows on so many others
front_durable : (told : Bool) (s : Stores) (row : Row) (i : ℕ) (d : DurableRow) → IsDurableAt told s i d → IsDurableAt told (with_rows s (s.rows ++ row ∷ [])) i d
front_durable told s row i d at = record { row = at.row; here = get_front s.rows (row ∷ []) i at.row at.here; is = beside_rows told s (s.rows ++ row ∷ []) i at.row d at.is }

last_durable : (catalogue : CatalogueState) (ms : List ManifestState) (old : Stores) (told : Bool) → IsKnown catalogue ms old → (rows : List Row) → length rows ≡ length old.rows → (row : Row) (n : ℕ) → n ≡ length old.rows → IsDurableAt told (with_rows old (rows ++ row ∷ [])) n (bare row)
last_durable catalogue ms old told known rows same row n place = record {
  row = row;
  here = ap (slice_get (rows ++ row ∷ [])) (place ∙ sym same) ∙ get_last rows row;
  is = record {
    name = refl;
    about = refl;
    state = refl;
    base = refl;
    short = λ t. sym (ap (λ (k : ℕ). samples_of k old.short) place ∙ known_none catalogue ms old known 0 (omega arith));
    medium = λ t. sym (ap (λ (k : ℕ). samples_of k old.medium) place ∙ known_none catalogue ms old known 1 (omega arith));
    long = λ t. sym (ap (λ (k : ℕ). samples_of k old.long) place ∙ known_none catalogue ms old known 2 (omega arith));
  };
}

pub register_holds : (catalogue : CatalogueState) (ms : List ManifestState) (name : List ℕ) (about : About) (old new : Stores) (m : Machine) → IsKnown catalogue ms old → Registers name about old new → HoldsDurable old m → HoldsDurable new (made [] (AddsRow name about) m)
register_holds catalogue ms name about old new m known registers holds = subst (λ (s : Stores). HoldsDurable s (made [] (AddsRow name about) m)) (sym registers.1)
    (durable_made m (AddsRow name about) (with_rows old (old.rows ++ row ∷ [])) (let more = length-append old.rows (row ∷ []) in omega (arith, count, more)) (λ i r here. front_durable m.told old row i (kept_of r) (holds.each i (kept_of r) (kept_to m.rows i r here))) own)
  where
    row : Row
    row = registered old.rows name about

    count : length m.rows ≡ length old.rows
    count = count_of old m holds

    own : (j : ℕ) (r : RowState) → slice_get (fresh_row name about ∷ []) j ≡ Some r → IsDurableAt m.told (with_rows old (old.rows ++ row ∷ [])) (length m.rows + j) (kept_of r)
    own zero r here = subst (λ (q : RowState). IsDurableAt m.told (with_rows old (old.rows ++ row ∷ [])) (length m.rows + 0) (kept_of q)) (same_Some (fresh_row name about) r here) (last_durable catalogue ms old m.told known old.rows refl row (length m.rows + 0) (omega (arith, count)))
    own (suc j) r here = absurd (cc (here))

-- A STATE IS SET

switched_get : (k : ℕ) (to : State) (rows : List Row) (i : ℕ) (row : Row) → slice_get rows i ≡ Some row → slice_get (switched k to rows) i ≡ Some (cond (i == k) (record row { state = to }) row)
switched_get k to [] i row here = absurd (cc (here))
switched_get zero to (x ∷ rows) zero row here = ap (λ (w : Row). Some (record w { state = to })) (same_Some x row here)
switched_get zero to (x ∷ rows) (suc i) row here = let other : (suc i == 0) ≡ false = grind (arith, nat_tests) in here ∙ ap (λ (b : Bool). Some (cond b (record row { state = to }) row)) (sym other)
switched_get (suc k) to (x ∷ rows) zero row here = let other : (0 == suc k) ≡ false = grind (arith, nat_tests) in here ∙ ap (λ (b : Bool). Some (cond b (record row { state = to }) row)) (sym other)
switched_get (suc k) to (x ∷ rows) (suc i) row here =
    let same : (suc i == suc k) ≡ (i == k) = grind (arith, nat_tests) in
    switched_get k to rows i row here ∙ ap (λ (b : Bool). Some (cond b (record row { state = to }) row)) (sym same)

set_durable : (m : Machine) (old : Stores) (k : ℕ) (to : State) → HoldsDurable old m → (i : ℕ) (r : RowState) → slice_get m.rows i ≡ Some r → IsDurableAt m.told (with_rows old (switched k to old.rows)) i (kept_of (at k (without_held to) i r))
set_durable m old k to holds i r there = by_test (holds.each i (kept_of r) (kept_to m.rows i r there)) (i == k) refl
  where
    by_test : IsDurableAt m.told old i (kept_of r) → (b : Bool) → (i == k) ≡ b → IsDurableAt m.told (with_rows old (switched k to old.rows)) i (kept_of (at k (without_held to) i r))
    by_test at true is = rw is (record {
      row = record at.row { state = to };
      here = switched_get k to old.rows i at.row at.here ∙ ap (λ (b : Bool). Some (cond b (record at.row { state = to }) at.row)) is;
      is = record { name = at.is.name; about = at.is.about; state = refl; base = at.is.base; short = at.is.short; medium = at.is.medium; long = at.is.long };
    })
    by_test at false is = rw is (record {
      row = at.row;
      here = switched_get k to old.rows i at.row at.here ∙ ap (λ (b : Bool). Some (cond b (record at.row { state = to }) at.row)) is;
      is = beside_rows m.told old (switched k to old.rows) i at.row (kept_of r) at.is;
    })

pub switch_holds : (row : ℕ) (from to : State) (old new : Stores) (m : Machine) → Switches row from to old new → HoldsDurable old m → HoldsDurable new (made [] (SetsState row to) m)
switch_holds k from to old new m switches holds = subst (λ (s : Stores). HoldsDurable s (made [] (SetsState k to) m)) (sym switches.1)
    (durable_made m (SetsState k to) (with_rows old (switched k to old.rows)) (let count = count_of old m holds in let same = length-switched k to old.rows in omega (arith, count, same)) (set_durable m old k to holds) (λ j r here. absurd (cc (here))))

-- A VARIABLE GETS A NEW NAME

pub rename_holds : (catalogue : CatalogueState) (ms : List ManifestState) (k : ℕ) (name : List ℕ) (old new : Stores) (m : Machine) → IsKnown catalogue ms old → Renaming k name old new → HoldsDurable old m → HoldsDurable new (made [] (Renames k name) m)
rename_holds catalogue ms k name old new m known renames holds = subst (λ (s : Stores). HoldsDurable s (made [] (Renames k name) m)) (sym (renames.2 ∙ ap (with_rows old) rows_are))
    (durable_made m (Renames k name) (with_rows old (rows ++ row ∷ [])) (let one = ap length added_is in let more = length-append rows (row ∷ []) in omega (arith, count, same, one, more))
    (λ i r here. front_durable m.told (with_rows old rows) row i (kept_of (at k (without_held Retired) i r)) (set_durable m old k Retired holds i r here)) own)
  where
    was : Row
    was = renames.0.row

    row : Row
    row = added_row k (length old.rows) name was

    rows : List Row
    rows = switched k Retired old.rows

    rows_are : renamed k name old.rows ≡ rows ++ row ∷ []
    rows_are = let here = renames.0.here in rw here refl

    count : length m.rows ≡ length old.rows
    count = count_of old m holds

    same : length rows ≡ length old.rows
    same = length-switched k Retired old.rows

    r : (q : RowState) × (slice_get m.rows k ≡ Some q)
    r = element m.rows k (let low = slice_get_within old.rows k was renames.0.here in omega (arith, low, count))

    added_is : added (Renames k name) m.rows ≡ renamed_row name k r.0 ∷ []
    added_is = let here = r.1 in rw here refl

    about : r.0.about ≡ was.about
    about = let durable = holds.each k (kept_of r.0) (kept_to m.rows k r.0 r.1) in durable.is.about ∙ ap (λ (w : Row). w.about) (same_Some durable.row was (sym durable.here ∙ renames.0.here))

    own_at : (j : ℕ) (q : RowState) → slice_get (renamed_row name k r.0 ∷ []) j ≡ Some q → IsDurableAt m.told (with_rows old (rows ++ row ∷ [])) (length m.rows + j) (kept_of q)
    own_at zero q here =
        let last = last_durable catalogue ms old m.told known rows same row (length m.rows + 0) (omega (arith, count)) in
        let bare_is : bare row ≡ kept_of (renamed_row name k r.0) = ap (λ (a : About). bare (record row { about = a })) (sym about) in
        subst (λ (q : RowState). IsDurableAt m.told (with_rows old (rows ++ row ∷ [])) (length m.rows + 0) (kept_of q)) (same_Some (renamed_row name k r.0) q here) (subst (λ (d : DurableRow). IsDurableAt m.told (with_rows old (rows ++ row ∷ [])) (length m.rows + 0) d) bare_is last)
    own_at (suc j) q here = absurd (cc (here))

    own : (j : ℕ) (q : RowState) → slice_get (added (Renames k name) m.rows) j ≡ Some q → IsDurableAt m.told (with_rows old (rows ++ row ∷ [])) (length m.rows + j) (kept_of q)
    own j q here = own_at j q (ap (λ (rs : List RowState). slice_get rs j) (sym added_is) ∙ here)

-- SAMPLES ARE FLUSHED

pub batch_behind : (batch : List RowSamples) (i : ℕ) (xs : List Sample) → RisesFrom (end_of xs) (of_row i batch) → with_batch i xs batch ≡ xs ++ of_row i batch
batch_behind [] i xs later = sym (append-nil xs)
batch_behind (p ∷ batch) i xs later = by_test (nat_eq p.row i) later (λ ys h. batch_behind batch i ys h)
  where
    by_test : (b : Bool) → RisesFrom (end_of xs) (cond b (p.samples ++ of_row i batch) (of_row i batch)) → ((ys : List Sample) → RisesFrom (end_of ys) (of_row i batch) → with_batch i ys batch ≡ ys ++ of_row i batch)
        → with_batch i (cond b (over xs p.samples) xs) batch ≡ xs ++ cond b (p.samples ++ of_row i batch) (of_row i batch)
    by_test true later more =
        let n = end_of xs in
        let plain : over xs p.samples ≡ xs ++ p.samples = ap (λ w. xs ++ w) (since_all n n p.samples (RisesFrom-front n p.samples (of_row i batch) later) (omega arith)) in
        let rest : RisesFrom (end_of (xs ++ p.samples)) (of_row i batch) = rw (end_from-append 0 xs p.samples) (RisesFrom-rest n p.samples (of_row i batch) later) in
        ap (λ w. with_batch i w batch) plain ∙ (more (xs ++ p.samples) rest ∙ append_assoc xs p.samples (of_row i batch))
    by_test false later more = more xs later

-- what a batch takes of the front of a row's tail is later than all that is durable
pub taken_durable : (m : Machine) (batch : List RowSamples) (i : ℕ) (r : RowState) → IsSound m → MayMake m.rule m.told m.rows m.limbo (Appends batch) → slice_get m.rows i ≡ Some r → RisesFrom (end_of (durable r)) (of_row i batch)
taken_durable m batch i r sound may_make here =
    let row = sound.each_row i r here in
    let may : (rest : List Sample) × (r.tail ≡ of_row i batch ++ rest) = may_make i r here in
    let later : RisesFrom (end_of (durable r)) (of_row i batch ++ may.0) = subst (λ (xs : List Sample). RisesFrom (end_of (durable r)) xs) may.1 row.later in
    RisesFrom-front (end_of (durable r)) (of_row i batch) may.0 later

-- and so than all that store 1 lists of the row
pub taken_later : (m : Machine) (batch : List RowSamples) (i : ℕ) (r : RowState) → IsSound m → MayMake m.rule m.told m.rows m.limbo (Appends batch) → slice_get m.rows i ≡ Some r → RisesFrom (end_of r.short) (of_row i batch)
taken_later m batch i r sound may_make here =
    let row = sound.each_row i r here in
    let end = end_of-over (over r.long r.medium) r.short row.short in
    RisesFrom-lower (end_of r.short) (end_of (durable r)) (of_row i batch) (taken_durable m batch i r sound may_make here) (omega (arith, end))

-- no file of store 1 is in the machine's limbo
abbrev pub NoneShort : Machine → Type 0
NoneShort m = (i : ℕ) → files_of i Short m.limbo ≡ []

-- what store 1 lists of a row once the batch is appended
pub short_with : (m : Machine) (batch : List RowSamples) (i : ℕ) (r : RowState) → m.told ≡ true → NoneShort m → (changed m.told m.limbo (Appends batch) i r).short ≡ r.short ++ of_row i batch
short_with m batch i r told none = let own = none i in rw (told, own) (put_plain (of_row i batch) r.short)

-- so far each row's samples in store 1 go where the batch was appended
pub samples_with : (batch : List RowSamples) (old new : Stores) (m : Machine) → IsSound m → MayMake m.rule m.told m.rows m.limbo (Appends batch) → (m.told ≡ true → IsTrue old.stands) → Flushes batch old new → HoldsDurable old m → m.told ≡ true
    → (i : ℕ) (r : RowState) → slice_get m.rows i ≡ Some r → samples_of i new.short ≡ samples_of i old.short ++ of_row i batch
samples_with batch old new m sound may stands flushes holds told i r here =
    let was : r.short ≡ samples_of i old.short = (holds.each i (kept_of r) (kept_to m.rows i r here)).is.short told in
    flushes.flushed.samples (stands told) i ∙ batch_behind batch i (samples_of i old.short) (subst (λ (xs : List Sample). RisesFrom (end_of xs) (of_row i batch)) was (taken_later m batch i r sound may here))

pub batch_holds : (batch : List RowSamples) (old new : Stores) (m : Machine) → IsSound m → MayMake m.rule m.told m.rows m.limbo (Appends batch) → NoneShort m → (m.told ≡ true → IsTrue old.stands) → Flushes batch old new → HoldsDurable old m → HoldsDurable new (made [] (Appends batch) m)
batch_holds batch old new m sound may none stands flushes holds = durable_made m (Appends batch) new
    (let count = count_of old m holds in let same = ap (λ (s : Stores). length s.rows) flushes.same in omega (arith, count, same))
    (λ i r here. by_row i r here (holds.each i (kept_of r) (kept_to m.rows i r here))) (λ j r here. absurd (cc (here)))
  where
    by_row : (i : ℕ) (r : RowState) → slice_get m.rows i ≡ Some r → IsDurableAt m.told old i (kept_of r) → IsDurableAt m.told new i (kept_of (changed m.told m.limbo (Appends batch) i r))
    by_row i r here at = record {
      row = at.row;
      here = ap (λ (s : Stores). slice_get s.rows i) flushes.same ∙ at.here;
      is = record {
        name = at.is.name;
        about = at.is.about;
        state = at.is.state;
        base = at.is.base;
        short = λ told. short_with m batch i r told none ∙ (ap (λ (xs : List Sample). xs ++ of_row i batch) (at.is.short told) ∙ sym (samples_with batch old new m sound may stands flushes holds told i r here));
        medium = λ told. at.is.medium told ∙ sym (ap (λ (s : Stores). samples_of i s.medium) flushes.same);
        long = λ told. at.is.long told ∙ sym (ap (λ (s : Stores). samples_of i s.long) flushes.same);
      };
    }

pub flush_holds : (limit : ℕ) (old new : Stores) (m : Machine) → IsSound m → NoneShort m → (m.told ≡ true → IsTrue old.stands) → Flushes (batch_of limit m) old new → HoldsDurable old m → HoldsDurable new (made [] (Appends (batch_of limit m)) m)
flush_holds limit old new m sound none stands flushes holds = batch_holds (batch_of limit m) old new m sound (flush_may limit m) none stands flushes holds

-- what is durable stays where an untold machine appends a batch, or any machine one of nothing
pub kept_untold : (m : Machine) (batch : List RowSamples) → m.told ≡ false → kept (made [] (Appends batch) m) ≡ kept m
kept_untold m batch untold = ap (map kept_of) (append-nil (each (changed m.told m.limbo (Appends batch)) 0 m.rows)) ∙ kept_each (changed m.told m.limbo (Appends batch)) 0 m.rows (λ i r. stays i r)
  where
    stays : (i : ℕ) (r : RowState) → kept_of (changed m.told m.limbo (Appends batch) i r) ≡ kept_of r
    stays i r = rw untold refl

pub kept_empty : (m : Machine) → kept (made [] (Appends []) m) ≡ kept m
kept_empty m = ap (map kept_of) (append-nil (each (changed m.told m.limbo (Appends [])) 0 m.rows)) ∙ kept_each (changed m.told m.limbo (Appends [])) 0 m.rows (λ i r. stays m.told i r)
  where
    stays : (told : Bool) (i : ℕ) (r : RowState) → kept_of (changed told m.limbo (Appends []) i r) ≡ kept_of r
    stays true i r = refl
    stays false i r = refl

-- The files of a row: each is the window of its partition of what the store lists, and a listed piece of the machine.

abbrev pub all_in : List Filed → List Sample
all_in files = flat_map (λ (f : Filed). f.samples) files

-- each file ends before the later ones start
abbrev pub AreApart : List Filed → Type 0
AreApart [] = Unit {0}
AreApart (f ∷ fs) = AllByRecursion (λ (h : Filed). f.entry.part.end ≤ h.entry.part.start) fs × AreApart fs

-- so it is of the files of one row, as they are listed
pub row_apart : (g : Granularity) (rows : List Row) (id : ℕ) (fs : List Filed) → All (IsFiled g rows) fs → PlacesRise fs → AllByRecursion (λ (f : Filed). f.entry.series ≡ id) fs → AreApart fs
row_apart g rows id [] filed rise own = tt
row_apart g rows id (f ∷ fs) filed rise own = (behind fs (All-tail (IsFiled g rows) f fs filed) own.1 rise.0, row_apart g rows id fs (All-tail (IsFiled g rows) f fs filed) rise.1 own.1)
  where
    is : IsFiled g rows f
    is = All-head (IsFiled g rows) f fs filed

    one : (h : Filed) → IsFiled g rows h → h.entry.series ≡ id → Comes f h → f.entry.part.end ≤ h.entry.part.start
    one h other own_h comes =
        let own_f : f.entry.series ≡ id = own.0 in
        let lt : f.entry.part.start < h.entry.part.start = grind (arith, nat_tests) in
        parts_apart g f.entry.part h.entry.part is.part other.part lt

    behind : (hs : List Filed) → All (IsFiled g rows) hs → AllByRecursion (λ (h : Filed). h.entry.series ≡ id) hs → All (Comes f) hs → AllByRecursion (λ (h : Filed). f.entry.part.end ≤ h.entry.part.start) hs
    behind [] filed_hs own_hs comes = tt
    behind (h ∷ hs) filed_hs own_hs comes = (one h (All-head (IsFiled g rows) h hs filed_hs) own_hs.0 (All-head (Comes f) h hs comes), behind hs (All-tail (IsFiled g rows) h hs filed_hs) own_hs.1 (All-tail (Comes f) h hs comes))

-- files that start at n or later have no sample before n
pub from_there : (g : Granularity) (rows : List Row) (n : ℕ) (fs : List Filed) → All (IsFiled g rows) fs → AreApart fs → AllByRecursion (λ (f : Filed). n ≤ f.entry.part.start) fs → RisesFrom n (all_in fs)
from_there g rows n [] filed apart low = tt
from_there g rows n (f ∷ fs) filed apart low =
    let is = All-head (IsFiled g rows) f fs filed in
    let p = f.entry.part in
    let range = within g p is.part in
    let start = low.0 in
    let wide = range.1 in
    let first = rises_inside n p f.samples start is.file.rising is.inside in
    let ends : end_from n f.samples ≤ p.end = ends_inside n p f.samples (omega (arith, start, wide)) is.inside in
    let rest = from_there g rows p.end fs (All-tail (IsFiled g rows) f fs filed) apart.1 apart.0 in
    RisesFrom-append n f.samples (all_in fs) first (RisesFrom-lower (end_from n f.samples) p.end (all_in fs) rest ends)

window_first : (g : Granularity) (rows : List Row) (f : Filed) (fs : List Filed) → IsFiled g rows f → All (IsFiled g rows) fs → AreApart (f ∷ fs) → window f.entry.part (f.samples ++ all_in fs) ≡ f.samples
window_first g rows f fs is filed apart =
    let p = f.entry.part in
    let own = rises_inside p.start p f.samples (omega arith) is.file.rising is.inside in
    let wide = (within g p is.part).1 in
    let ends = ends_inside p.start p f.samples (omega (arith, wide)) is.inside in
    let cut : before p.end (f.samples ++ all_in fs) ≡ f.samples = before-append p.end f.samples (all_in fs) ∙ (ap (λ (xs : List Sample). xs ++ before p.end (all_in fs)) (before_all p.end p.start f.samples own ends) ∙ (ap (λ (xs : List Sample). f.samples ++ xs) (before_none p.end p.end (all_in fs) (from_there g rows p.end fs filed apart.1 apart.0) (omega arith)) ∙ append-nil f.samples)) in
    ap (since p.start) cut ∙ since_all p.start p.start f.samples own (omega arith)

window_later : (g : Granularity) (rows : List Row) (f h : Filed) (xs : List Sample) → IsFiled g rows f → IsFiled g rows h → f.entry.part.end ≤ h.entry.part.start → window h.entry.part (f.samples ++ xs) ≡ window h.entry.part xs
window_later g rows f h xs is other apart =
    let p = f.entry.part in
    let q = h.entry.part in
    let own = rises_inside p.start p f.samples (omega arith) is.file.rising is.inside in
    let wide = (within g p is.part).1 in
    let wide_q = (within g q other.part).1 in
    let ends = ends_inside p.start p f.samples (omega (arith, wide)) is.inside in
    let cut : before q.end (f.samples ++ xs) ≡ f.samples ++ before q.end xs = before-append q.end f.samples xs ∙ ap (λ (ys : List Sample). ys ++ before q.end xs) (before_all q.end p.start f.samples own (omega (arith, ends, apart, wide_q))) in
    ap (since q.start) cut ∙ (since-append q.start f.samples (before q.end xs) ∙ ap (λ (ys : List Sample). ys ++ since q.start (before q.end xs)) (since_none q.start p.start f.samples own (omega (arith, ends, apart))))

-- each file is the window of its partition
pub windows : (g : Granularity) (rows : List Row) (fs : List Filed) → All (IsFiled g rows) fs → AreApart fs → AllByRecursion (λ (f : Filed). window f.entry.part (all_in fs) ≡ f.samples) fs
windows g rows [] filed apart = tt
windows g rows (f ∷ fs) filed apart = (window_first g rows f fs is others apart, later fs others apart.0 (windows g rows fs others apart.1))
  where
    is : IsFiled g rows f
    is = All-head (IsFiled g rows) f fs filed

    others : All (IsFiled g rows) fs
    others = All-tail (IsFiled g rows) f fs filed

    later : (hs : List Filed) → All (IsFiled g rows) hs → AllByRecursion (λ (h : Filed). f.entry.part.end ≤ h.entry.part.start) hs → AllByRecursion (λ (h : Filed). window h.entry.part (all_in fs) ≡ h.samples) hs → AllByRecursion (λ (h : Filed). window h.entry.part (f.samples ++ all_in fs) ≡ h.samples) hs
    later [] filed_hs behind so_far = tt
    later (h ∷ hs) filed_hs behind so_far = (window_later g rows f h (all_in fs) is (All-head (IsFiled g rows) h hs filed_hs) behind.0 ∙ so_far.0, later hs (All-tail (IsFiled g rows) h hs filed_hs) behind.1 so_far.1)

-- a file has no sample of another partition
pub window_apart : (g : Granularity) (rows : List Row) (f : Filed) (p : Part) → IsFiled g rows f → IsPart g p → f.entry.part.start ≢ p.start → window p f.samples ≡ []
window_apart g rows f p is part apart = by_side (cases_lt f.entry.part.start p.start)
  where
    own : RisesFrom f.entry.part.start f.samples
    own = rises_inside f.entry.part.start f.entry.part f.samples (omega arith) is.file.rising is.inside

    wide : f.entry.part.start < f.entry.part.end
    wide = (within g f.entry.part is.part).1

    ends : end_from f.entry.part.start f.samples ≤ f.entry.part.end
    ends = ends_inside f.entry.part.start f.entry.part f.samples (omega (arith, wide)) is.inside

    lower : p.start ≤ f.entry.part.start → p.start < f.entry.part.start
    lower le = elim (cases_lt p.start f.entry.part.start) [
      | inl lt ↦ lt
      | inr ge ↦ absurd (apart (omega (arith, le, ge)))
    ]

    by_side : (f.entry.part.start < p.start) ⊎ (p.start ≤ f.entry.part.start) → window p f.samples ≡ []
    by_side (inl before_it) =
        let behind : f.entry.part.end ≤ p.start = parts_apart g f.entry.part p is.part part before_it in
        let some = (within g p part).1 in
        ap (since p.start) (before_all p.end f.entry.part.start f.samples own (omega (arith, ends, behind, some))) ∙ since_none p.start f.entry.part.start f.samples own (omega (arith, ends, behind))
    by_side (inr not_before) =
        let later : p.start < f.entry.part.start = lower not_before in
        let behind : p.end ≤ f.entry.part.start = parts_apart g p f.entry.part part is.part later in
        ap (since p.start) (before_none p.end f.entry.part.start f.samples own behind)

-- LISTS

pub order_rest : (xs ys : List RowFile) → InOrder (xs ++ ys) → InOrder ys
order_rest [] ys order = order
order_rest (x ∷ xs) ys order = order_rest xs ys order.1

pub order_first : (xs ys : List RowFile) → InOrder (xs ++ ys) → InOrder xs
order_first [] ys order = tt
order_first (x ∷ xs) ys order = (all_first (ComesBefore x) xs ys order.0, order_first xs ys order.1)

pub order_both : (xs ys : List RowFile) → InOrder xs → InOrder ys → AllByRecursion (λ (x : RowFile). AllByRecursion (ComesBefore x) ys) xs → InOrder (xs ++ ys)
order_both [] ys one two across = two
order_both (x ∷ xs) ys one two across = (of_append (ComesBefore x) xs ys one.0 across.0, order_both xs ys one.1 two across.1)

-- FILES OF A STORE

events_in : (ty : PayloadType) (year : ℤ) (xs : List Sample) → AreSamples ty year xs → AllByRecursion (IsEventIn ty year) xs
events_in ty year [] all = tt
events_in ty year (x ∷ xs) all =
    let s : IsSample ty year x = all.0 in
    let line = s.meant in (
      record {
        event = record { whole = s.whole; message = line.stamp.0; means = line.stamp.1; secs = line.secs; nano = line.nano; stamp = line.stamp.2; year = year; sample_year = line.sample_year; in_year = line.in_year; at = line.at };
        year_is = refl;
      },
      events_in ty year xs all.1,
    )

-- a filed file's first line and samples are those of a file of the row
file_is : (rule : Rule) (g : Granularity) (rows : List Row) (f : Filed) (store : Store) (i : ℕ) (r : RowState) (row : Row) → TellsHeaders rule → (is : IsFiled g rows f) → is.row ≡ row → r.about ≡ row.about → IsFileOf rule r (row_file i store f)
file_is rule g rows f store i r row heads is same about = record {
  whole = is.file.whole;
  message = is.file.header.0;
  means = is.file.header.1;
  header = record { ty = is.info.ty; year = is.info.year };
  says = heads is.file.header.0 is.info is.file.header.2;
  ty = is.type ∙ (ap (λ (x : Row). x.about.ty) same ∙ sym (ap (λ (a : About). a.ty) about));
  lines = events_in is.info.ty is.info.year f.samples is.file.lines;
  rising = is.file.rising;
}

pub index_low : (store : Store) → index_of store < 3
index_low Short = omega arith
index_low Medium = omega arith
index_low Long = omega arith

-- the pieces of a store are in order
store_order : (i : ℕ) (store : Store) (fs : List Filed) → AreApart fs → InOrder (map (row_file i store) fs)
store_order i store [] apart = tt
store_order i store (f ∷ fs) apart = (behind fs apart.0, store_order i store fs apart.1)
  where
    behind : (hs : List Filed) → AllByRecursion (λ (h : Filed). f.entry.part.end ≤ h.entry.part.start) hs → AllByRecursion (ComesBefore (row_file i store f)) (map (row_file i store) hs)
    behind [] all = tt
    behind (h ∷ hs) all = (inr (refl, inr (refl, all.0)), behind hs all.1)

-- those of a deeper store come first
deeper_first : (i : ℕ) (deep other : Store) (fs hs : List Filed) → index_of other < index_of deep → AllByRecursion (λ (x : RowFile). AllByRecursion (ComesBefore x) (map (row_file i other) hs)) (map (row_file i deep) fs)
deeper_first i deep other [] hs low = tt
deeper_first i deep other (f ∷ fs) hs low = (one hs, deeper_first i deep other fs hs low)
  where
    one : (hs : List Filed) → AllByRecursion (ComesBefore (row_file i deep f)) (map (row_file i other) hs)
    one [] = tt
    one (h ∷ hs) = (inr (refl, inl low), one hs)

-- a row's files are of that row
own_states : (i : ℕ) (store : Store) (fs : List Filed) → AllByRecursion (λ (f : Filed). f.entry.series ≡ i) fs → map state_of (map (placed_at store) fs) ≡ map (row_file i store) fs
own_states i store [] own = refl
own_states i store (f ∷ fs) own =
    let head : state_of (placed_at store f) ≡ row_file i store f = ap (λ (n : ℕ). row_file n store f) own.0 in
    let rest = own_states i store fs own.1 in
    cc (head, rest)

-- what they hold of a row is what is durable of it
pub held_is : (m : Machine) (s : Stores) (i : ℕ) (r : RowState) → HoldsDurable s m → m.told ≡ true → slice_get m.rows i ≡ Some r → samples_in i s ≡ durable r
held_is m s i r holds told here =
    let is = (holds.each i (kept_of r) (kept_to m.rows i r here)).is in
    λ k. over (over (sym (is.long told) k) (sym (is.medium told) k)) (sym (is.short told) k)

pub list_is : (m : Machine) (s : Stores) (i : ℕ) (r : RowState) → HoldsDurable s m → m.told ≡ true → slice_get m.rows i ≡ Some r → (store : Store) → samples_of i (list_at (index_of store) s) ≡ tier r store
list_is m s i r holds told here Short = sym ((holds.each i (kept_of r) (kept_to m.rows i r here)).is.short told)
list_is m s i r holds told here Medium = sym ((holds.each i (kept_of r) (kept_to m.rows i r here)).is.medium told)
list_is m s i r holds told here Long = sym ((holds.each i (kept_of r) (kept_to m.rows i r here)).is.long told)

-- THE FILES OF A ROW

-- they are of the store's partitions, each ends before the next one starts, and together they have what the machine's store lists
pub record RowFiles (rule : Rule) (s : Stores) (store : Store) (i : ℕ) (row : RowState) : Type 0 where
  pub unit : Granularity
  pub of_store : slice_get rule.granularity (index_of store) ≡ Some unit
  pub filed : All (IsFiled unit s.rows) (row_files s store i)
  pub apart : AreApart (row_files s store i)
  pub samples : tier row store ≡ all_in (row_files s store i)

pub files_held : (catalogue : CatalogueState) (ms : List ManifestState) (s : Stores) (m : Machine) → HaveDurable catalogue ms s m → m.told ≡ true → (i : ℕ) (row : RowState) → slice_get m.rows i ≡ Some row → (store : Store) → RowFiles m.rule s store i row
files_held catalogue ms s m have told i row here store =
    let three = have.known.three in
    let low = index_low store in
    let n = manifest_at ms (index_of store) (omega (arith, low, three)) in
    let known = have.known.each (index_of store) n.0 n.1 in
    let files = list_at (index_of store) s in
    let own : Filed → Bool = λ f. nat_eq f.entry.series i in
    let filed = All-filter own (IsFiled n.0.granularity s.rows) files (known.valid.filed.filed (have.stands told)) in
    record {
      unit = n.0.granularity;
      of_store = ap (λ (gs : List Granularity). slice_get gs (index_of store)) have.rule ∙ granularity_at ms (index_of store) n.0 n.1;
      filed = filed;
      apart = row_apart n.0.granularity s.rows i (filed_of_row i files) filed (rise_filter own files known.valid.apart) (own_series i files);
      samples = sym (list_is m s i row have.holds told here store);
    }

module _ (tells : Bool) (at : Seen) (m : Machine) (held : Stores) (has : Has tells at held) (holds : HoldsDurable held m) (gran : m.rule.granularity ≡ granularities at.manifests) (heads : TellsHeaders m.rule) (told : m.told ≡ true) (stands : IsTrue held.stands) (i : ℕ) (r : RowState) (here : slice_get m.rows i ≡ Some r) where
  pub own_files : (store : Store) → RowFiles m.rule held store i r
  own_files store = files_held at.catalogue at.manifests held m (record { known = has.known; holds = holds; rule = gran; stands = λ on. stands }) told i r here store

  store_pieces : (store : Store) → AllByRecursion (IsListedPiece m.rule i r) (map (row_file i store) (row_files held store i))
  store_pieces store = go (row_files held store i) is.filed (own_series i (list_at (index_of store) held)) (windows is.unit held.rows (row_files held store i) is.filed is.apart)
    where
      is : RowFiles m.rule held store i r
      is = own_files store

      one : (f : Filed) → IsFiled is.unit held.rows f → f.entry.series ≡ i → window f.entry.part (samples_of i (list_at (index_of store) held)) ≡ f.samples → IsListedPiece m.rule i r (row_file i store f)
      one f filed own cut =
          let row = holds.each i (kept_of r) (kept_to m.rows i r here) in
          let same : filed.row ≡ row.row = same_Some filed.row row.row (sym filed.stands ∙ (ap (slice_get held.rows) own ∙ row.here)) in
          record {
            own = refl;
            partition = record { unit = is.unit; of_store = is.of_store; is = filed.part };
            samples = sym cut ∙ ap (window f.entry.part) ((list_is m held i r holds told here store));
            some = ap is_empty filed.some;
            file = file_is m.rule is.unit held.rows f store i r row.row heads filed same row.is.about;
          }

      go : (fs : List Filed) → All (IsFiled is.unit held.rows) fs → AllByRecursion (λ (f : Filed). f.entry.series ≡ i) fs → AllByRecursion (λ (f : Filed). window f.entry.part (samples_of i (list_at (index_of store) held)) ≡ f.samples) fs → AllByRecursion (IsListedPiece m.rule i r) (map (row_file i store) fs)
      go [] filed own cuts = tt
      go (f ∷ fs) filed own cuts = (one f (All-head (IsFiled is.unit held.rows) f fs filed) own.0 cuts.0, go fs (All-tail (IsFiled is.unit held.rows) f fs filed) own.1 cuts.1)

  -- ALL FILES OF THE ROW

  abbrev long : List RowFile
  long = map (row_file i Long) (row_files held Long i)

  abbrev medium : List RowFile
  medium = map (row_file i Medium) (row_files held Medium i)

  abbrev short : List RowFile
  short = map (row_file i Short) (row_files held Short i)

  all_states : map state_of (files_in i held) ≡ (long ++ medium) ++ short
  all_states =
      let one = own_states i Long (row_files held Long i) (own_series i held.long) in
      let two = own_states i Medium (row_files held Medium i) (own_series i held.medium) in
      let three = own_states i Short (row_files held Short i) (own_series i held.short) in
      map-append state_of (placed Long i held.long ++ placed Medium i held.medium) (placed Short i held.short)
      ∙ (ap (λ (xs : List RowFile). xs ++ map state_of (placed Short i held.short)) (map-append state_of (placed Long i held.long) (placed Medium i held.medium)) ∙ (λ k. (one k ++ two k) ++ three k))

  -- they are listed pieces, in order
  pub row_listed : AllByRecursion (IsListedPiece m.rule i r) (map state_of (files_in i held))
  row_listed =
      let P = IsListedPiece m.rule i r in
      subst (λ (xs : List RowFile). AllByRecursion P xs) (sym all_states) (of_append P (long ++ medium) short (of_append P long medium (store_pieces Long) (store_pieces Medium)) (store_pieces Short))

  pub row_ordered : InOrder (map state_of (files_in i held))
  row_ordered =
      let deep = order_both long medium (store_order i Long (row_files held Long i) (own_files Long).apart) (store_order i Medium (row_files held Medium i) (own_files Medium).apart) (deeper_first i Long Medium (row_files held Long i) (row_files held Medium i) (omega arith)) in
      let Q = λ (x : RowFile). AllByRecursion (ComesBefore x) short in
      let across = of_append Q long medium (deeper_first i Long Short (row_files held Long i) (row_files held Short i) (omega arith)) (deeper_first i Medium Short (row_files held Medium i) (row_files held Short i) (omega arith)) in
      subst (λ (xs : List RowFile). InOrder xs) (sym all_states) (order_both (long ++ medium) short deep (store_order i Short (row_files held Short i) (own_files Short).apart) across)

-- The whole of a row of the machine by what the stores hold of its line, and its tail over that; and the files of the line.

-- the last row goes over all before it
overs_last : (s : Stores) (xs : List Sample) (ks : List ℕ) (i : ℕ) → overs s xs (ks ++ i ∷ []) ≡ over (overs s xs ks) (samples_in i s)
overs_last s xs [] i = refl
overs_last s xs (k ∷ ks) i = overs_last s (over xs (samples_in k s)) ks i

module _ (m : Machine) (sound : IsSound m) where
  pub base_low : (i : ℕ) (r : RowState) → slice_get m.rows i ≡ Some r → (b : ℕ) → r.base ≡ Some b → b < i
  base_low i r here b is = (sound.bases.over i r b here is).below

  -- no base has a tail, so the whole of a row is its tail over all that is durable of its variable
  pub whole_tail : (i : ℕ) (r : RowState) → slice_get m.rows i ≡ Some r → whole accepted m.rows i ≡ over (whole durable m.rows i) r.tail
  whole_tail i r here =
      let row = sound.each_row i r here in
      let deep : IsRising (over r.long r.medium) = over_rising r.long r.medium row.long row.medium in
      whole_is accepted m.rows i r here (base_low i r here)
      ∙ (ap (λ (w : List Sample). over w (accepted r)) (past_stays durable accepted m.rows m.rows (before_of m.told m.rows sound.bases) (λ j base there. record { new = base; there = there; base = refl; still = none j base there }) i r here)
      ∙ (sym (over_assoc (past durable m.rows r.base) (durable r) r.tail (over_rising (over r.long r.medium) r.short deep row.short))
      ∙ ap (λ (w : List Sample). over w r.tail) (sym (whole_is durable m.rows i r here (base_low i r here)))))
    where
      none : (j : ℕ) (base : RowState) → slice_get m.rows j ≡ Some base → (k : ℕ) (above : RowState) → slice_get m.rows k ≡ Some above → above.base ≡ Some j → accepted base ≡ durable base
      none j base there k above here' is =
          let o = sound.bases.over k above j here' is in
          let same : o.base ≡ base = same_Some o.base base (sym o.here ∙ there) in
          ap (λ (w : List Sample). over (durable base) w) (ap (λ (q : RowState). q.tail) (sym same) ∙ o.none) ∙ append-nil (durable base)

  module _ (held : Stores) (holds : HoldsDurable held m) where
    -- the line of a row ends with the row, behind that of its base
    pub line_over : (i : ℕ) (r : RowState) → slice_get m.rows i ≡ Some r → line held.rows i ≡ line_known (lines [] held.rows) r.base ++ i ∷ []
    line_over i r here =
        let at : IsDurableAt m.told held i (kept_of r) = holds.each i (kept_of r) (kept_to m.rows i r here) in
        line_is held.rows i at.row at.here (λ b is. base_low i r here b (at.is.base ∙ is)) ∙ ap (λ (o : Option ℕ). line_known (lines [] held.rows) o ++ i ∷ []) (sym at.is.base)

    -- what the stores hold of the line is all that is durable
    whole_below : m.told ≡ true → (n i : ℕ) (r : RowState) → i < n → slice_get m.rows i ≡ Some r → whole_in i held ≡ whole durable m.rows i
    whole_below told zero i r low here = absurd (omega arith)
    whole_below told (suc n) i r low here =
        ap (overs held []) (line_over i r here)
        ∙ (overs_last held [] (line_known (lines [] held.rows) r.base) i
        ∙ (ap (λ (w : List Sample). over w (samples_in i held)) (by_base r.base refl (λ b base lower there. whole_below told n b base lower there))
        ∙ (ap (λ (w : List Sample). over (past durable m.rows r.base) w) (held_is m held i r holds told here)
        ∙ sym (whole_is durable m.rows i r here (base_low i r here)))))
      where
        by_base : (o : Option ℕ) → r.base ≡ o → ((b : ℕ) (base : RowState) → b < n → slice_get m.rows b ≡ Some base → whole_in b held ≡ whole durable m.rows b) → overs held [] (line_known (lines [] held.rows) o) ≡ past durable m.rows o
        by_base None is below = refl
        by_base (Some b) is below = let o = sound.bases.over i r b here is in let lower : b < i = o.below in below b o.base (omega arith) o.here

    pub whole_held : m.told ≡ true → (i : ℕ) (r : RowState) → slice_get m.rows i ≡ Some r → whole_in i held ≡ whole durable m.rows i
    whole_held told i r here = whole_below told (suc i) i r (omega arith) here

    -- so all that is accepted is the tail over that
    pub accepted_held : m.told ≡ true → (i : ℕ) (r : RowState) → slice_get m.rows i ≡ Some r → whole accepted m.rows i ≡ over (whole_in i held) r.tail
    accepted_held told i r here = whole_tail i r here ∙ ap (λ (w : List Sample). over w r.tail) (sym (whole_held told i r here))

-- THE FILES OF A LINE

-- what is earlier by its row comes before
earlier_rows : (i : ℕ) (xs ys : List RowFile) → AllByRecursion (λ (f : RowFile). f.row < i) xs → AllByRecursion (λ (g : RowFile). g.row ≡ i) ys → AllByRecursion (λ (f : RowFile). AllByRecursion (ComesBefore f) ys) xs
earlier_rows i xs ys low own = of_all (λ f. f.row < i) (λ f. AllByRecursion (ComesBefore f) ys) xs (λ f below. of_all (λ g. g.row ≡ i) (ComesBefore f) ys (λ g is. inl (omega arith)) own) low

module _ (m : Machine) (sound : IsSound m) where
  -- no part of a row has a greater number
  part_low : (k i : ℕ) → IsPartOf m.rows k i → k ≤ i
  part_low k _ itself = omega arith
  part_low k i (of_base {b = b} row here is part) =
      let low : b < i = base_low m sound i row here b is in
      let rest : k ≤ b = part_low k b part in
      omega arith

  -- a listed file of the row is a piece of it
  own_piece : (i : ℕ) (r : RowState) → slice_get m.rows i ≡ Some r → (f : RowFile) → IsListedPiece m.rule i r f → IsPieceOf m.rule m.rows i r f
  own_piece i r here f is = record {
    among = subst (λ n. IsPartOf m.rows n i) (sym is.own) itself;
    own = r;
    here = ap (slice_get m.rows) is.own ∙ here;
    listed = record { own = refl; partition = is.partition; samples = is.samples; some = is.some; file = is.file };
    ty = refl;
  }

  module _ (tells : Bool) (at : Seen) (held : Stores) (has : Has tells at held) (holds : HoldsDurable held m) (gran : m.rule.granularity ≡ granularities at.manifests) (heads : TellsHeaders m.rule) (told : m.told ≡ true) (stands : IsTrue held.stands) where
    abbrev AreInLine : ℕ → RowState → List RowFile → Type 0
    AreInLine i r files = AllByRecursion (IsPieceOf m.rule m.rows i r) files × InOrder files

    abbrev files_before : Option ℕ → List RowFile
    files_before o = map state_of (flat_map (λ (k : ℕ). files_in k held) (line_known (lines [] held.rows) o))

    -- those of the base come first
    states_over : (i : ℕ) (r : RowState) → slice_get m.rows i ≡ Some r → map state_of (files_of_line i held) ≡ files_before r.base ++ map state_of (files_in i held)
    states_over i r here =
        let own : flat_map (λ (k : ℕ). files_in k held) (i ∷ []) ≡ files_in i held = append-nil (files_in i held) in
        ap (λ (ks : List ℕ). map state_of (flat_map (λ (k : ℕ). files_in k held) ks)) (line_over m sound held holds i r here)
        ∙ (ap (map state_of) (flat_map-append (λ (k : ℕ). files_in k held) (line_known (lines [] held.rows) r.base) (i ∷ []))
        ∙ (map-append state_of (flat_map (λ (k : ℕ). files_in k held) (line_known (lines [] held.rows) r.base)) (flat_map (λ (k : ℕ). files_in k held) (i ∷ []))
        ∙ ap (λ (ps : List Placed). files_before r.base ++ map state_of ps) own))

    line_below : (n i : ℕ) (r : RowState) → i < n → slice_get m.rows i ≡ Some r → AreInLine i r (map state_of (files_of_line i held))
    line_below zero i r low here = absurd (omega arith)
    line_below (suc n) i r low here = subst (AreInLine i r) (sym (states_over i r here)) (by_base r.base refl (λ b base lower there. line_below n b base lower there))
      where
        own : List RowFile
        own = map state_of (files_in i held)

        own_listed : AllByRecursion (IsListedPiece m.rule i r) own
        own_listed = row_listed tells at m held has holds gran heads told stands i r here

        own_rows : AllByRecursion (λ (f : RowFile). f.row ≡ i) own
        own_rows = of_all (IsListedPiece m.rule i r) (λ f. f.row ≡ i) own (λ f is. is.own) own_listed

        joined : (files : List RowFile) → AllByRecursion (IsPieceOf m.rule m.rows i r) files → AllByRecursion (λ (f : RowFile). f.row < i) files → InOrder files → AreInLine i r (files ++ own)
        joined files pieces rows order = (
          of_append (IsPieceOf m.rule m.rows i r) files own pieces (of_all (IsListedPiece m.rule i r) (IsPieceOf m.rule m.rows i r) own (own_piece i r here) own_listed),
          order_both files own order (row_ordered tells at m held has holds gran heads told stands i r here) (earlier_rows i files own rows own_rows),
        )

        by_base : (o : Option ℕ) → r.base ≡ o → ((b : ℕ) (base : RowState) → b < n → slice_get m.rows b ≡ Some base → AreInLine b base (map state_of (files_of_line b held))) → AreInLine i r (files_before o ++ own)
        by_base None is below = joined [] tt tt tt
        by_base (Some b) is below =
            let o = sound.bases.over i r b here is in
            let lower : b < i = o.below in
            let of_base_row = below b o.base (omega arith) o.here in
            let P = IsPieceOf m.rule m.rows b o.base in
            joined (files_before (Some b))
            (of_all P (IsPieceOf m.rule m.rows i r) (files_before (Some b)) (λ f p. record { among = of_base r here is p.among; own = p.own; here = p.here; listed = p.listed; ty = p.ty ∙ ap (λ (a : About). a.ty) o.about }) of_base_row.0)
            (of_all P (λ f. f.row < i) (files_before (Some b)) (λ f p. (let le : f.row ≤ b = part_low f.row b p.among in omega arith)) of_base_row.0)
            of_base_row.1

    -- so are some of them, one behind another
    pub part_in_line : (i : ℕ) (r : RowState) → slice_get m.rows i ≡ Some r → (closed files behind : List Placed) → files_of_line i held ≡ closed ++ (files ++ behind) → AreInLine i r (map state_of files)
    part_in_line i r here closed files behind split =
        let P = IsPieceOf m.rule m.rows i r in
        let all = line_below (suc i) i r (omega arith) here in
        let parts : map state_of (files_of_line i held) ≡ map state_of closed ++ (map state_of files ++ map state_of behind) =
        ap (map state_of) split ∙ (map-append state_of closed (files ++ behind) ∙ ap (λ (xs : List RowFile). map state_of closed ++ xs) (map-append state_of files behind)) in (
          all_first P (map state_of files) (map state_of behind) (all_rest P (map state_of closed) (map state_of files ++ map state_of behind) (subst (λ (xs : List RowFile). AllByRecursion P xs) parts all.0)),
          order_first (map state_of files) (map state_of behind) (order_rest (map state_of closed) (map state_of files ++ map state_of behind) (subst (λ (xs : List RowFile). InOrder xs) parts all.1)),
        )
