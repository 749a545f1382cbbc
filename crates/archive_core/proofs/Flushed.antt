-- A batch is flushed: beside moves and files in limbo, as the machine has it, in memory, and as an act.
use Rattle.std.proofs.Common.{◌≡◌, ℕ, List, Some, sym, ◌∙◌, ap, subst, arith, get_or, Bool, true, ◌<◌, [], length, refl, ◌+◌, ◌≤◌, Option, inl, inr, zero, suc, ◌++◌, append-nil, ◌∷◌, None, Result, Ok, Err}
use Rattle.std.specs.Prelude.{All, slice_get, IsTrue, ◌&&◌, Contains, map, slice_set, IfOk, Vec}
use Rattle.partition_names.specs.declared.granularity.Granularity.{Granularity}
use Rattle.pv_catalog.specs.declared.row.Row.{Row}
use Rattle.series_model.specs.declared.batch.RowSamples.{RowSamples}
use Rattle.durable_write.specs.Flush.{put_all, PlacesRise, HasHeaderOf, file_at, EndsRow, CanFlush}
use Rattle.durable_write.specs.Held.{Filed, IsListed, Held, AreFiled, IsFiled, filed_at, entry_of, samples_of, count_of as count_samples}
use Rattle.tier_store.specs.Stores.{Stores, tier, samples_in, with_list, list_at}
use Rattle.tier_store.specs.declared.limbo.Retired.{Retired}
use Rattle.tier_store.proofs.Places.{manifest_at, granularity_at, manifest_of, same_granularities, set_cases, tier_other, list_other}
use Rattle.std.proofs.lemmas.List.Elements.{All-contains, Contains-get_or, recursion_from_All, All-from_recursion}
use Rattle.store_manifest.specs.Manifest.{ManifestState}
use Rattle.durable_write.proofs.Written.{put_all_new, listed_stays}
use Rattle.tier_store.specs.Revival.{AreWhole, FlushesOver, CountsOver, flushing_over}
use Rattle.tier_store.specs.Seen.{Seen, granularities, IsSettled}
use Rattle.act_model.specs.Machine.{Machine, Appends, Change, held_bytes}
use Rattle.act_model.specs.Sound.{MayMake, IsSound}
use Rattle.archive_core.proofs.Acting.{IsFiledAt, Called, called, called_given, Makes, IsAct, Went, acted, done_then, failed_then}
use Rattle.archive_core.proofs.MoveLimbo.{HaveMachine}
use Rattle.durable_write.specs.Plan.{of_row}
use Rattle.tier_store.specs.Change.{IsKnownAt, Has, IsKnown, Registers, Renames, Switches, EndsFrom, StoreCall}
use Rattle.act_model.specs.Changes.{of_row as own_of, made, changed}
use Rattle.act_model.specs.Rows.{RowState, Short}
use Rattle.archive_core.proofs.MoveCopying.{batch_over, short_over}
use Rattle.std.specs.List.{AllByRecursion}
use Rattle.std.proofs.lemmas.Option.{slice_get_within}
use Rattle.disk_model.specs.Past.{MayLeave}
use Rattle.pv_catalog.specs.Catalogue.{CatalogueState}
use Rattle.act_model.specs.Flush.{batch_of, count_in, Flushes}
use Rattle.act_model.proofs.RowActs.{flush_may}
use Rattle.series_model.specs.Series.{RisesFrom, end_of}
use Rattle.series_model.specs.declared.sample.Sample.{Sample}
use Rattle.archive_core.specs.Growing.{FilesGoOn}
use Rattle.archive_core.proofs.Lists.{FlushedTo, files_go_on, rows_beside, short_grows, parts_grow, element}
use Rattle.archive_core.proofs.Windows.{taken_durable, count_of, durable_made, kept_to, held_is}
use Rattle.durable_write.specs.Stored.{KeysDiffer}
use Rattle.durable_write.proofs.Places.{all_put_all, rise_put_all}
use Rattle.tier_store.specs.Pinned.{beside}
use Rattle.act_model.specs.Crash.{kept_of}
use Rattle.act_model.specs.Limbo.{files_of, put}
use Rattle.archive_core.specs.LimboTies.{IsLimboOf}
use Rattle.archive_core.specs.Stands.{IsDurableAt, HoldsDurable, Stands, Rests, IsPartOf}
use Rattle.durable_write.proofs.Staying.{set_long}
use Rattle.partition_names.specs.declared.part.Part.{Part}
use Rattle.partition_names.specs.Part.{IsPart}
use Rattle.pb_messages.specs.declared.about.About.{About}
use Rattle.pb_messages.specs.declared.about.State.{State}
use Rattle.pv_catalog.specs.Rows.{KeepsRows}
use Rattle.pv_catalog.proofs.Standing.{keeps_same}
use Rattle.tier_store.specs.Moving.{GoesBeside, parts_in}
use Rattle.tier_store.proofs.Showing.{registers_on, renames_on, switches_on}
use Rattle.std.specs.declared.alloc.Global.{Global}
use Rattle.disk_model.specs.declared.disk.DiskErr.{DiskErr}
use Rattle.disk_model.specs.declared.disk.DiskErr.TheVariants.{Fault, Memory}
use Rattle.durable_write.specs.Ends.{End, Done, end_of_disk}
use Rattle.tier_store.specs.Given.{ChangesGiven}
use Rattle.act_model.proofs.StepLaws.{with_doubt}
use Rattle.archive_core.specs.declared.memory.RowEnd.{RowEnd}
use Rattle.archive_core.specs.Ends.{SettlesTo}
use Rattle.archive_core.specs.Flushing.{flush_reply}
use Rattle.archive_core.specs.Memory.{IsCleared, row_ends}
use Rattle.archive_core.specs.Parts.{Parts}
use Rattle.archive_core.proofs.Batches.{parts_there, can_flush, told_stands, IsBefore, count_more}
use Rattle.archive_core.proofs.KeptRows.{batch_is, held_is as held_in_rows}
use Rattle.archive_core.proofs.Settled.{rests_has}
use Rattle.act_model.specs.Reply.{Reply}
use Rattle.archive_core.specs.Acting.{Acted, Changed, Settling}
use Rattle.act_model.specs.Step.{change_by}
use Rattle.act_model.specs.declared.acts.Act.TheVariants.{Flush}
use Rattle.archive_core.specs.Leaving.{files_of as disk_files}
use Rattle.intake.specs.Tails as tails
use Rattle.archive_core.specs.declared.memory.Doubt.TheVariants as kind
use Rattle.act_model.specs.declared.acts.Answer.TheVariants as answer

-- A flush goes on behind all that is held of a row, beside a move of it.

-- where the stores stand, and so the disk tells, the machine is told
pub stands_told : (tells told stands : Bool) → told ≡ (tells && stands) → (IsTrue stands → IsTrue tells) → IsTrue stands → told ≡ true
stands_told tells told stands is disk stand = is ∙ (λ k. disk stand k && stand k)

module _ (tells : Bool) (at : Seen) (limbo : List Retired) (m : Machine) (held : Stores) (have : HaveMachine tells at limbo m held) (disk : IsTrue held.stands → IsTrue tells)
    (files : List Filed) (whole : AreWhole 0 tells at limbo held.stands files) (batch : List RowSamples) (may : MayMake m.rule m.told m.rows m.limbo (Appends batch)) (after : Stores) (by : FlushesOver limbo files batch held after) (filed : IsFiledAt (granularities at.manifests) 0 (tier 0 after)) where
  first_now : (n : ManifestState) × (slice_get at.manifests 0 ≡ Some n)
  first_now = manifest_at at.manifests 0 (let three = have.has.known.three in omega (arith, three))

  abbrev g : Granularity
  g = first_now.0.granularity

  known : IsKnownAt first_now.0 (tier 0 held)
  known = have.has.known.each 0 first_now.0 first_now.1

  abbrev written : List Filed
  written = by.flushed.written

  abbrev both_lists : List Filed
  both_lists = put_all held.short by.back

  lists : after.short ≡ put_all held.short written
  lists = ap (λ (t : Held). t.files) by.flushed.lists

  same_rows : after.rows ≡ held.rows
  same_rows = ap (λ (s : Stores). s.rows) by.same

  after_is : AreFiled g (tier 0 after)
  after_is = filed g (granularity_at at.manifests 0 first_now.0 first_now.1)

  -- what is true of each file that is listed then is true of each that was written
  of_written : (P : Filed → Type 0) → All P after.short → All P written
  of_written P all k d lt = All-contains P (put_all held.short written) (get_or written k d) (subst (All P) lists all) (put_all_new written held.short (get_or written k d) by.flushed.rise (Contains-get_or written k d lt))

  written_of : All (IsListed g held.rows) written
  written_of = of_written (IsListed g held.rows) (subst (λ (rows : List Row). All (IsListed g rows) after.short) same_rows after_is.listed)

  pub flush_on : (i : ℕ) (r : RowState) → slice_get m.rows i ≡ Some r → FilesGoOn held.stands (end_of (samples_in i held)) (of_row i held.short) (of_row i after.short)
  flush_on i r here =
      subst (λ (fs : List Filed). FilesGoOn held.stands (end_of (samples_in i held)) (of_row i held.short) (of_row i fs)) (sym lists)
      (files_go_on g held.rows held.short by.back written i known.valid.apart by.in_limbo.unlisted by.flushed.rise by.flushed.ends by.flushed.longer by.flushed.heads known.valid.filed.listed written_of held.stands (end_of (samples_in i held)) (own_of i batch) later to)
    where
      told : IsTrue held.stands → m.told ≡ true
      told = stands_told tells m.told held.stands have.told_is disk

      later : IsTrue held.stands → RisesFrom (end_of (samples_in i held)) (own_of i batch)
      later stand = subst (λ (xs : List Sample). RisesFrom (end_of xs) (own_of i batch)) (sym (held_is m held i r have.holds (told stand) here)) (taken_durable m batch i r have.sound may here)

      to : IsTrue held.stands → FlushedTo g held.rows held.short by.back written i (own_of i batch)
      to stand = record {
        listed_are = known.valid.filed.filed stand;
        written_are = of_written (IsFiled g held.rows) (subst (λ (rows : List Row). All (IsFiled g rows) after.short) same_rows (after_is.filed (subst IsTrue (sym (ap (λ (s : Stores). s.stands) by.same)) stand)));
        heads = λ k d lt old there.
            let f : Filed = get_or written k d in
            let head = All-contains (λ (x : Filed). HasHeaderOf held.rows x (file_at (filed_at x) both_lists)) (put_all both_lists written) f (by.flushed.flushed.headers stand) (put_all_new written both_lists f by.flushed.rise (Contains-get_or written k d lt)) in
            subst (λ (o : Option Filed). HasHeaderOf held.rows f o) there head;
        samples = by.flushed.flushed.samples stand i ∙ batch_over tells at limbo m held have (told stand) files whole batch after by i r here may;
      }

-- What a flush beside files in limbo makes of the stores is what the machine makes of them.

-- WHAT IS LISTED THEN

module _ (at : Seen) (held after : Stores) (known : IsKnown at.catalogue at.manifests held) (same : after ≡ with_list 0 after.short held) (rise : PlacesRise after.short) (filed : IsFiledAt (granularities at.manifests) 0 (tier 0 after)) where
  pub first : (m : ManifestState) × (slice_get at.manifests 0 ≡ Some m)
  first = manifest_at at.manifests 0 (let three = known.three in omega (arith, three))

  abbrev pub now : ManifestState
  now = record first.0 { entries = map entry_of after.short }

  abbrev pub manifests_then : List ManifestState
  manifests_then = slice_set at.manifests 0 now

  rows : after.rows ≡ held.rows
  rows = ap (λ (s : Stores). s.rows) same

  -- manifests that list what is then listed
  pub known_then : IsKnown at.catalogue manifests_then after
  known_then = record {
    three = set_long at.manifests 0 now ∙ known.three;
    rows = known.rows ∙ sym rows;
    each = λ i m here. elim (set_cases at.manifests 0 i first.0 now m first.1 here) [
      | inl own ↦ subst (λ (k : ℕ). IsKnownAt m (tier k after)) (sym own.0) (subst (λ (n : ManifestState). IsKnownAt n (tier 0 after)) (sym own.1) (record {
        entries = refl;
        valid = record {
          keys = subst (λ (rs : List Row). KeysDiffer rs) (sym rows) (known.each 0 first.0 first.1).valid.keys;
          filed = filed first.0.granularity (granularity_at at.manifests 0 first.0 first.1);
          apart = rise;
        };
      }))
      | inr other ↦ (
          let low = slice_get_within at.manifests i m other.1 in
          let three = known.three in
          let stays : tier i after ≡ tier i held = ap (tier i) same ∙ tier_other 0 i after.short held (omega arith) (omega (arith, low, three)) other.0 in
          subst (λ (t : Held). IsKnownAt m t) (sym stays) (known.each i m other.1)
          )
    ];
  }

  pub same_then : granularities manifests_then ≡ granularities at.manifests
  same_then = same_granularities at.manifests 0 first.0 now first.1 refl

-- THE ROWS

put_short : (m : Machine) (batch : List RowSamples) (i : ℕ) (r : RowState) → m.told ≡ true → (changed m.told m.limbo (Appends batch) i r).short ≡ put (own_of i batch) (files_of i Short m.limbo) r.short
put_short m batch i r told = rw told refl

module _ (tells : Bool) (at : Seen) (limbo : List Retired) (m : Machine) (held : Stores) (have : HaveMachine tells at limbo m held)
    (files : List Filed) (whole : AreWhole 0 tells at limbo held.stands files) (batch : List RowSamples) (may : MayMake m.rule m.told m.rows m.limbo (Appends batch)) (after : Stores) (by : FlushesOver limbo files batch held after) where
  short_is : after.short ≡ put_all held.short by.flushed.written
  short_is = ap (λ (t : Held). t.files) by.flushed.lists

  rise : PlacesRise after.short
  rise = subst PlacesRise (sym short_is) (rise_put_all held.short by.flushed.written (let three = have.has.known.three in let first = manifest_at at.manifests 0 (omega (arith, three)) in (have.has.known.each 0 first.0 first.1).valid.apart))

  -- the stores then hold what is durable of the machine with the batch
  pub flush_over_holds : IsFiledAt (granularities at.manifests) 0 (tier 0 after) → HoldsDurable after (made [] (Appends batch) m)
  flush_over_holds filed = durable_made m (Appends batch) after
      (let count = count_of held m have.holds in let same = ap (λ (s : Stores). length s.rows) by.same in omega (arith, count, same))
      (λ i r here. by_row i r here (have.holds.each i (kept_of r) (kept_to m.rows i r here))) (λ j r here. absurd (cc (here)))
    where
      short : (i : ℕ) (r : RowState) → slice_get m.rows i ≡ Some r → m.told ≡ true → samples_of i after.short ≡ put (own_of i batch) (files_of i Short m.limbo) r.short
      short i r here told =
          short_over tells at limbo m held have told files whole batch after by i r here may at.catalogue (manifests_then at held after have.has.known by.same rise filed) (known_then at held after have.has.known by.same rise filed) (same_then at held after have.has.known by.same rise filed)

      by_row : (i : ℕ) (r : RowState) → slice_get m.rows i ≡ Some r → IsDurableAt m.told held i (kept_of r) → IsDurableAt m.told after i (kept_of (changed m.told m.limbo (Appends batch) i r))
      by_row i r here own = record {
        row = own.row;
        here = ap (λ (s : Stores). slice_get s.rows i) by.same ∙ own.here;
        is = record {
          name = own.is.name;
          about = own.is.about;
          state = own.is.state;
          base = own.is.base;
          short = λ told. put_short m batch i r told ∙ sym (short i r here told);
          medium = λ told. own.is.medium told ∙ sym (ap (λ (s : Stores). samples_of i s.medium) by.same);
          long = λ told. own.is.long told ∙ sym (ap (λ (s : Stores). samples_of i s.long) by.same);
        };
      }

  -- files that are listed or in limbo are of rows that are there
  abbrev IsBelow : ℕ → Filed → Type 0
  IsBelow n f = f.entry.series < n

  abbrev pub both : List Filed
  both = put_all held.short by.back

  below : (g : Granularity) (rows : List Row) (fs : List Filed) → All (IsListed g rows) fs → All (IsBelow (length rows)) fs
  below g rows fs listed k d lt = let is = listed k d lt in slice_get_within rows (get_or fs k d).entry.series is.row is.stands

  pub both_below : AllByRecursion (λ (f : Filed). f.entry.series < length held.rows) both
  both_below = recursion_from_All (IsBelow (length held.rows)) both (all_put_all (IsBelow (length held.rows)) held.short by.back (below first.0.granularity held.rows held.short known.valid.filed.listed) back)
    where
      first : (m : ManifestState) × (slice_get at.manifests 0 ≡ Some m)
      first = manifest_at at.manifests 0 (let three = have.has.known.three in omega (arith, three))

      known : IsKnownAt first.0 (tier 0 held)
      known = have.has.known.each 0 first.0 first.1

      in_files : All (IsBelow (length held.rows)) files
      in_files = subst (λ (rows : List Row). All (IsBelow (length rows)) files) have.has.known.rows (below first.0.granularity at.catalogue.rows files (whole.filed first.0 first.1).listed)

      back : All (IsBelow (length held.rows)) by.back
      back k d lt = All-contains (IsBelow (length held.rows)) files (get_or by.back k d) in_files (by.in_limbo.known k d lt)

  -- and so are those that are then
  pub then_below : AllByRecursion (λ (f : Filed). f.entry.series < length held.rows) after.short → AllByRecursion (λ (f : Filed). f.entry.series < length held.rows) (put_all both by.flushed.written)
  then_below all = recursion_from_All (IsBelow (length held.rows)) (put_all both by.flushed.written) (all_put_all (IsBelow (length held.rows)) both by.flushed.written (All-from_recursion (IsBelow (length held.rows)) both both_below) written)
    where
      written : All (IsBelow (length held.rows)) by.flushed.written
      written k d lt =
          let f : Filed = get_or by.flushed.written k d in
          All-contains (IsBelow (length held.rows)) after.short f (All-from_recursion (IsBelow (length held.rows)) after.short all) (subst (λ (fs : List Filed). Contains fs f) (sym short_is) (put_all_new by.flushed.written held.short f by.flushed.rise (Contains-get_or by.flushed.written k d lt)))

pub goes_on_in_limbo : (tells : Bool) (at : Seen) → (IsTrue tells → MayLeave at.past at.files) → (later : CatalogueState) (ns : List ManifestState) (limbo : List Retired) (files : List Filed) (limit : ℕ) (old new : Stores) (m : Machine) → IsSound m → m.told ≡ (tells && old.stands) → Has tells at old → HoldsDurable old m → IsLimboOf tells (beside at limbo) m.told m.rows m.limbo → AreWhole 0 tells at limbo old.stands files
    → FlushesOver limbo files (batch_of limit m) old new → IsKnown later ns new → granularities ns ≡ granularities at.manifests → HoldsDurable new (made [] (Appends (batch_of limit m)) m)
goes_on_in_limbo tells at seen_now later ns limbo files limit old new m sound told_is has holds tie whole by known same_g =
    flush_over_holds tells at limbo m old (record { has = has; seen_now = seen_now; holds = holds; told_is = told_is; sound = sound; tie = tie }) files whole (batch_of limit m) (flush_may limit m) new by (λ g here.
    let n = manifest_of ns 0 g (ap (λ (gs : List Granularity). slice_get gs 0) same_g ∙ here) in
    subst (λ (u : Granularity). AreFiled u (tier 0 new)) n.2 (known.each 0 n.0 n.1).valid.filed)

-- Changes go beside a running move: of its row the next store lists what it listed, and its own store the same partitions or further ones.

pub register_beside : (name : List ℕ) (about : About) (old new : Stores) (i row : ℕ) → Registers name about old new → GoesBeside i row old new
register_beside name about old new i row by = let on = registers_on name about old new by in rows_beside i row old new on.0 on.1

pub switch_beside : (k : ℕ) (from to : State) (old new : Stores) (i row : ℕ) → Switches k from to old new → GoesBeside i row old new
switch_beside k from to old new i row by = let on = switches_on k from to old new by in rows_beside i row old new on.0 on.1

pub rename_beside : (k : ℕ) (name : List ℕ) (old new : Stores) (i row : ℕ) → Renames k name old new → GoesBeside i row old new
rename_beside k name old new i row by = let on = renames_on k name old new by in rows_beside i row old new on.0 on.1

module _ (catalogue : CatalogueState) (ms : List ManifestState) (limbo : List Retired) (files : List Filed) (batch : List RowSamples) (held after : Stores) (known : IsKnown catalogue ms held) (by : FlushesOver limbo files batch held after) (filed : IsFiledAt (granularities ms) 0 (tier 0 after)) where
  first_of_all : (m : ManifestState) × (slice_get ms 0 ≡ Some m)
  first_of_all = manifest_at ms 0 (let three = known.three in omega (arith, three))

  abbrev unit : Granularity
  unit = first_of_all.0.granularity

  abbrev IsOf : Filed → Type 0
  IsOf f = IsPart unit f.entry.part

  short_after : after.short ≡ put_all held.short by.flushed.written
  short_after = ap (λ (t : Held). t.files) by.flushed.lists

  listed_of : (rows : List Row) (fs : List Filed) → All (IsListed unit rows) fs → All IsOf fs
  listed_of rows fs listed k d lt = (listed k d lt).part

  rise_before : PlacesRise held.short
  rise_before = (known.each 0 first_of_all.0 first_of_all.1).valid.apart

  all_written_of : All IsOf by.flushed.written
  all_written_of k d lt =
      let f : Filed = get_or by.flushed.written k d in
      All-contains IsOf after.short f (listed_of after.rows after.short (filed unit (granularity_at ms 0 first_of_all.0 first_of_all.1)).listed)
      (subst (λ (fs : List Filed). Contains fs f) (sym short_after) (put_all_new by.flushed.written held.short f by.flushed.rise (Contains-get_or by.flushed.written k d lt)))

  ends : All (EndsRow held.short) by.flushed.written
  ends k d lt j e low =
      let f : Filed = get_or by.flushed.written k d in
      let x : Filed = get_or held.short j e in
      All-contains (λ (y : Filed). y.entry.series ≡ f.entry.series → y.entry.part.start ≤ f.entry.part.start) (put_all held.short by.back) x (by.flushed.ends k d lt) (listed_stays held.short by.back x rise_before by.in_limbo.unlisted (Contains-get_or held.short j e low))

  pub more_parts : (row : ℕ) → (more : List Part) × (parts_in row after.short ≡ parts_in row held.short ++ more)
  more_parts row =
      let grown = parts_grow unit row by.flushed.written held.short by.flushed.rise all_written_of rise_before (listed_of held.rows held.short (known.each 0 first_of_all.0 first_of_all.1).valid.filed.listed) ends in
      (grown.0, ap (parts_in row) short_after ∙ grown.1)

  pub flush_beside : (i row : ℕ) → 1 ≤ i → i < 3 → GoesBeside i row held after
  flush_beside i row above low = record {
    rows = subst (λ (rows : List Row). KeepsRows held.rows rows) (sym (ap (λ (s : Stores). s.rows) by.same)) (keeps_same held.rows);
    stands = ap (λ (s : Stores). s.stands) by.same;
    listed = ap (of_row row) (other i above low);
    parts = by_source;
  }
    where
      other : (k : ℕ) → 1 ≤ k → k < 3 → list_at k after ≡ list_at k held
      other k above low = ap (list_at k) by.same ∙ list_other 0 k after.short held (omega arith) low (λ is. omega (arith, above, is))

      by_source : (from : ℕ) → i ≡ from + 1 → (more : List Part) × (parts_in row (list_at from after) ≡ parts_in row (list_at from held) ++ more)
      by_source zero next = more_parts row
      by_source (suc from) next = ([], ap (parts_in row) (other (suc from) (omega arith) (omega (arith, low, next))) ∙ sym (append-nil (parts_in row (list_at (suc from) held))))

-- so it is of stores that are known
pub flush_goes : (catalogue later : CatalogueState) (ms ns : List ManifestState) (limbo : List Retired) (files : List Filed) (batch : List RowSamples) (old new : Stores) (i row : ℕ) → IsKnown catalogue ms old → IsKnown later ns new → granularities ns ≡ granularities ms → FlushesOver limbo files batch old new → 1 ≤ i → i < 3 → GoesBeside i row old new
flush_goes catalogue later ms ns limbo files batch old new i row known known_new same_g by above low =
    flush_beside catalogue ms limbo files batch old new known by (λ g here.
    let n = manifest_of ns 0 g (ap (λ (gs : List Granularity). slice_get gs 0) same_g ∙ here) in
    subst (λ (u : Granularity). AreFiled u (tier 0 new)) n.2 (known_new.each 0 n.0 n.1).valid.filed) i row above low

-- A batch is flushed: as the machine has it, in memory, and as an act.

-- each file that a place lists is of a row
files_there : (g : Granularity) (rows : List Row) (files : List Filed) → All (IsListed g rows) files → AllByRecursion (IsBefore (length rows)) files
files_there g rows files listed = go files (recursion_from_All (IsListed g rows) files listed)
  where
    go : (fs : List Filed) → AllByRecursion (IsListed g rows) fs → AllByRecursion (IsBefore (length rows)) fs
    go [] all = tt
    go (f ∷ fs) all = (slice_get_within rows f.entry.series all.0.row all.0.stands, go fs all.1)

short_there : (tells : Bool) (at : Seen) (held : Stores) → Has tells at held → AllByRecursion (IsBefore (length held.rows)) held.short
short_there tells at held has =
    let three = has.known.three in
    let m = manifest_at at.manifests 0 (omega (arith, three)) in
    files_there m.0.granularity held.rows held.short (has.known.each 0 m.0 m.1).valid.filed.listed

-- store 1 is one of the three
pub first_low : 0 < 3
first_low = omega arith

-- what is told of the flush of a batch that is known
pub flush_as : (tells : Bool) (old : Seen) (limbo : List Retired) (files : List Filed) (new : Seen) (a b : List RowSamples) (r s : Result ℕ DiskErr) (Is : Stores → Type 0) → a ≡ b → r ≡ s → ChangesGiven Is tells (flushing_over limbo files a) old new (end_of_disk r) → ChangesGiven Is tells (flushing_over limbo files b) old new (end_of_disk s)
flush_as tells old limbo files new a b r s Is same is changes =
    subst (λ (x : Result ℕ DiskErr). ChangesGiven Is tells (flushing_over limbo files b) old new (end_of_disk x)) is (subst (λ (x : List RowSamples). ChangesGiven Is tells (flushing_over limbo files x) old new (end_of_disk r)) same changes)

module _ (tells : Bool) (p : Parts) (m : Machine) (r : Rests tells p m) (limit : ℕ) (some : 1 ≤ limit) (seen_now : IsTrue tells → MayLeave p.at.past p.at.files) where
  -- what the intake has for a flush
  abbrev pub batch : List RowSamples
  batch = tails.batch_of limit p.tails

  abbrev change : Change
  change = Appends batch

  abbrev held : Stores
  held = r.stands.store.before

  -- the files in limbo of store 1, which are whole
  abbrev pub files : List Filed
  files = (r.stands.store.whole 0 first_low).0

  whole : AreWhole 0 tells p.at p.limbo held.stands files
  whole = (r.stands.store.whole 0 first_low).1

  have : Has tells p.at held → HaveMachine tells p.at p.limbo m held
  have has = record { has = has; seen_now = seen_now; holds = r.stands.store.holds; told_is = r.stands.store.told; sound = r.stands.sound; tie = r.stands.limbo }

  own : batch_of limit m ≡ batch
  own = sym (batch_is limit p.at.catalogue.rows p.kept p.tails m some r.stands.rows)

  may : MayMake m.rule m.told m.rows m.limbo (Appends batch)
  may = subst (λ (b : List RowSamples). MayMake m.rule m.told m.rows m.limbo (Appends b)) own (flush_may limit m)

  there : AllByRecursion (IsPartOf (length m.rows)) batch
  there = subst (λ (b : List RowSamples). AllByRecursion (IsPartOf (length m.rows)) b) own (parts_there limit m)

  told_is : m.told ≡ true → IsTrue held.stands
  told_is = told_stands tells m.told held.stands r.stands.store.told

  pub can : CanFlush p.at.catalogue.rows batch
  can = subst (λ (b : List RowSamples). CanFlush p.at.catalogue.rows b) own (can_flush limit p.at.catalogue.rows p.kept p.tails m r.stands.sound r.stands.rows)

  has : Has tells p.at held
  has = rests_has tells p m r

  -- the stores' call
  abbrev pub flush_call : StoreCall ℕ ⊥
  flush_call = flushing_over p.limbo files batch

  pub flush_called : (new : Seen) (end : End ℕ ⊥) → ChangesGiven (λ (s : Stores). AreWhole 0 tells p.at p.limbo s.stands files) tells flush_call p.at new end → Called tells flush_call p.at new held end
  flush_called new end changes = called_given tells flush_call p.at new held end (λ (s : Stores). AreWhole 0 tells p.at p.limbo s.stands files) has whole changes

  -- where the archive keeps of it where its rows end
  pub makes_flush : (ends : Vec RowEnd Global) → row_ends batch ≡ ends.items → Makes tells flush_call change (kind.Flush ends) p.kept p m held
  makes_flush ends are = record {
    sound = with_doubt m.rule m.told m.rows m.limbo m.pins m.moves m.doubt change r.stands.sound (may, tt);
    rows = r.stands.rows;
    is = (batch, refl, are);
    ready = there;
    stand = λ after by. ap (λ (s : Stores). s.stands) by.same;
    grow = λ after by filed. short_grows m.moves held after by.same by.flushed.still (more_parts p.at.catalogue p.at.manifests p.limbo files batch held after has.known by (filed 0)) (λ row (k, move, here, own).
        let there = element m.rows move.row (r.stands.sound.each_move k move here).here in
        flush_on tells p.at p.limbo m held (have has) r.stands.store.disk files whole batch may after by (filed 0) row there.0 (ap (slice_get m.rows) (sym own) ∙ there.1));
    holds = λ after by filed. flush_over_holds tells p.at p.limbo m held (have has) files whole batch may after by (filed 0);
  }

  -- of that doubt nothing is cleared in memory
  pub flush_unclear : (ends : Vec RowEnd Global) (rows : List Row) → IsCleared rows (Some (kind.Flush ends)) p.kept p.kept
  flush_unclear ends rows = record { other = λ none. refl; own = λ k state is. absurd (cc (is)) }

  -- the answer tells how many samples the batch has
  pub flush_counts : (new : Seen) (samples : ℕ) → Called tells flush_call p.at new held (Done samples) → m.told ≡ true → samples ≡ count_in batch
  flush_counts new samples called told =
      let end : EndsFrom tells flush_call new held (Done samples) = called.ends in
      let counts : CountsOver p.limbo files batch samples held end.0 = end.2 (told_is told) in
      let over = counts.over in
      let listed = put_all held.short over.back in
      let rows : length m.rows ≡ length held.rows = r.stands.rows.count ∙ ap length has.known.rows in
      let same : length end.0.rows ≡ length held.rows = ap (λ (s : Stores). length s.rows) end.1.same in
      let short = subst (λ (n : ℕ). AllByRecursion (IsBefore n) end.0.short) same (short_there tells new end.0 end.3) in
      let old_there = subst (λ (n : ℕ). AllByRecursion (IsBefore n) listed) (sym rows) (both_below tells p.at p.limbo m held (have has) files whole batch may end.0 over) in
      let new_there = subst (λ (n : ℕ). AllByRecursion (IsBefore n) (put_all listed over.flushed.written)) (sym rows) (then_below tells p.at p.limbo m held (have has) files whole batch may end.0 over short) in
      let more = count_more (length m.rows) listed (put_all listed over.flushed.written) batch old_there new_there there (λ i low.
      let q = element m.rows i low in
      over.flushed.flushed.samples (told_is told) i ∙ batch_over tells p.at p.limbo m held (have has) told files whole batch end.0 over i q.0 q.1 may) in
      let says : count_samples (put_all listed over.flushed.written) ≡ count_samples listed + samples = counts.count in
      omega (arith, more, says)

-- THE ACT

-- what was flushed is told as no want of memory
flushes_tells : (limit : ℕ) (m : Machine) (given : Reply) (after : Machine) → Flushes limit m given after → given ≡ answer.Memory → ⊥
flushes_tells limit m given after ran told = let both = sym ran.0.2 ∙ told in cc (both)

pub flushes_act : (who limit : ℕ) → IsAct who (Flush limit) (Flushes limit)
flushes_act who limit = record { refuse = λ old m. None; passes = λ old m is. is; counts = λ old m f. refl; refuses = λ m f. refl; changes = λ m f. refl; goes = λ m f given new ran. ran; never = λ old m none. cc (none); tells_more = flushes_tells limit; steps = λ m given new acts. acts; wants = λ m n none. tt }

-- how it is answered
abbrev pub FlushEnds : Bool → ℕ → ℕ → Parts → Result ℕ DiskErr → Parts → Type 0
FlushEnds tells who limit p r q = Acted tells who (Flush limit) p (flush_reply q r) q

-- as the machine's act goes
pub flush_so : (tells : Bool) (who limit : ℕ) (p q : Parts) (r : Result ℕ DiskErr) → Went tells who (Flush limit) p (flush_reply q r) q → FlushEnds tells who limit p r q
flush_so tells who limit p q r went = acted tells who (Flush limit) p (flush_reply q r) q went went.fronts tt tt

module _ (tells : Bool) (who limit : ℕ) (some : 1 ≤ limit) (p q new : Parts) (done : Result (Unit {0}) DiskErr) (settling : Settling tells p q (end_of_disk done)) (same : IsSettled p.at → disk_files q ≡ disk_files p) (settles : SettlesTo tells p q) where
  -- what is flushed is what the intake has for it
  same_batch : (m : Machine) → Stands tells q m → tails.batch_of limit q.tails ≡ batch_of limit m
  same_batch m s = batch_is limit q.at.catalogue.rows q.kept q.tails m some s.rows

  abbrev change_then : Change
  change_then = Appends (tails.batch_of limit q.tails)

  owned : (m : Machine) → Stands tells q m → change_by (Flush limit) m ≡ Some change_then
  owned m s = ap (λ (b : List RowSamples). Some (Appends b)) (sym (same_batch m s))

  pub flush_ends : (r : Result ℕ DiskErr) → Changed tells change_then q new r → IfOk r (λ samples. (m : Machine) → Rests tells q m → m.told ≡ true → samples ≡ count_in (tails.batch_of limit q.tails)) → FlushEnds tells who limit p r new
  flush_ends (Ok samples) changed counts = flush_so tells who limit p new (Ok samples) (done_then tells who (Flush limit) (Flushes limit) (flushes_act who limit) p q done settling same (λ m s. refl) settles (λ m s. refl) new change_then owned samples (flush_reply new (Ok samples)) changed ran)
    where
      ran : (m : Machine) → Rests tells q m → Flushes limit m (flush_reply new (Ok samples)) (record (made [] change_then m) { faults = new.at.faults })
      ran m r =
          let same = same_batch m r.stands in
          let end : Stands tells new (record (made [] change_then m) { faults = new.at.faults }) = (changed.changes m r).ends in
          let left = sym (held_in_rows new.at.catalogue.rows new.kept new.tails (made [] change_then m).rows end.rows) in
          let doors = sym end.doors in (
            (samples, λ told. counts m r told ∙ ap count_in same, ap (λ (n : ℕ). answer.Flushed samples n new.doors) left ∙ ap (λ (n : ℕ). answer.Flushed samples (held_bytes (made [] change_then m).rows) n) doors),
            ap (λ (b : List RowSamples). record (made [] (Appends b) m) { faults = new.at.faults }) same,
          )
  flush_ends (Err Fault) changed counts = flush_so tells who limit p new (Err Fault) (failed_then tells who (Flush limit) (Flushes limit) (flushes_act who limit) p q done settling same (λ m s. refl) settles (λ m s. refl) new change_then owned Fault changed)
  flush_ends (Err Memory) changed counts = flush_so tells who limit p new (Err Memory) (failed_then tells who (Flush limit) (Flushes limit) (flushes_act who limit) p q done settling same (λ m s. refl) settles (λ m s. refl) new change_then owned Memory changed)
