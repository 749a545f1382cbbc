-- Running moves stay the machine's beside other acts: their copies, their parts, and which files of a retirement may leave.
use Rattle.std.proofs.Common.{◌≡◌, ℕ, ◌≤◌, List, [], ◌∷◌, ◌++◌, map, true, Some, refl, sym, ◌∙◌, ap, subst, inl, inr, zero, suc, ◌+◌, ◌<◌, take, Bool, arith, Option, false, ◌⊎◌, length, append-nil, append_assoc, max, ◌≢◌}
use Rattle.std.specs.Prelude.{slice_get, IsTrue, All, ◌==◌, ◌&&◌, Contains, nat_eq}
use Rattle.series_model.specs.declared.sample.Sample.{Sample}
use Rattle.durable_write.specs.Held.{Filed, entry_of, IsFiled, samples_of, file_of, name_of as held_name}
use Rattle.durable_write.specs.Plan.{of_row}
use Rattle.tier_store.specs.Stores.{Stores, list_at, samples_in}
use Rattle.act_model.specs.Machine.{Machine, Stage, Copies, HasCopied, HasPublished, MoveState, PinState, Unlists}
use Rattle.archive_core.proofs.Windows.{all_in, list_is, AreApart, windows, held_is, own_files, RowFiles, files_held, window_apart, kept_to}
use Rattle.std.specs.List.{AllByRecursion, flat_map}
use Rattle.act_model.specs.Rows.{RowState, Store, tier, Long, window, is_empty, next_store, Short, Medium, deep, durable, same_store}
use Rattle.act_model.specs.Rule.{index_of, IsPartition, Rule}
use Rattle.archive_core.specs.Stands.{HoldsDurable, TellsHeaders}
use Rattle.std.proofs.lemmas.Option.{same_Some, slice_get_within}
use Rattle.store_manifest.specs.declared.entry.Entry.{Entry}
use Rattle.tier_store.specs.Retiring.{oldest}
use Rattle.tier_store.specs.Seen.{granularities, Seen}
use Rattle.std.specs.FinMap.{get, FinMap}
use Rattle.act_model.specs.Limbo.{RowFile, files_of, put, tier_at, IsThere, IsElsewhere, PlacesDiffer}
use Rattle.act_model.specs.Sound.{IsSound, is_copying, RowSound, PieceSound}
use Rattle.std.proofs.lemmas.List.Elements.{All-head, All-tail, All-take}
use Rattle.partition_names.specs.declared.granularity.Granularity.{Granularity}
use Rattle.partition_names.specs.declared.part.Part.{Part}
use Rattle.partition_names.proofs.PartLemmas.{within, one_part}
use Rattle.pv_catalog.specs.declared.row.Row.{Row}
use Rattle.archive_core.proofs.MoveChoice.{from_zero, ahead_own, put_rows, into_same, next_low, next_place, own_entries, end_put, starts_from}
use Rattle.std.proofs.lemmas.List.{length-append, length-map, take-append-le, take-map}
use Rattle.std.proofs.lemmas.List.Concat.{flat_map-append}
use Rattle.etl_mover.specs.Move.{StillLists, Moving}
use Rattle.pb_lines.specs.File.{lines_of}
use Rattle.series_model.specs.Series.{end_from, end_of, over}
use Rattle.series_model.proofs.RisingLists.{RisesFrom-append, RisesFrom-lower, end_from-append}
use Rattle.tier_store.specs.Copying.{CopiesBeside, KnowsHeads}
use Rattle.tier_store.specs.Moving.{GoesBeside, LeavesNames, RunsBeside, names_of, LeavesLater}
use Rattle.tier_store.specs.Pinned.{SeenAll}
use Rattle.tier_store.proofs.RunningMoves.{copies_still, beside_itself, runs_still, later_names}
use Rattle.tier_store.proofs.Places.{manifest_of}
use Rattle.archive_core.specs.Growing.{FilesGoOn, GoesFurther, LastGoesOn, HasRunning}
use Rattle.archive_core.specs.MoveTies.{HasCopiedParts, IsAtStage, IsCopiedTo, end_ahead, listed_end, AreMovesOf, IsMoveOf, ends_from}
use Rattle.std.specs.Ordering.{nat_cmp}
use Rattle.moves.specs.Table.{at}
use Rattle.moves.specs.declared.table.Running.{Running}
use Rattle.series_model.proofs.OverLemmas.{end_of-over}
use Rattle.durable_write.specs.Flush.{put_all}
use Rattle.archive_core.proofs.Lists.{element, read_at, same_or_not, get_take, all_at, all_of, contains_cases, get_all, of_all}
use Rattle.tier_store.specs.Change.{Has}
use Rattle.act_model.specs.Parts.{PartsFrom, AreParts}
use Rattle.std.proofs.lemmas.Bool.Decides.{Decides-eqb, nat_tests}
use Rattle.std.proofs.lemmas.List.Folds.{list_any-from_Any}
use Rattle.disk_model.specs.Files.{Name}
use Rattle.partition_names.specs.Part.{IsPart}
use Rattle.partition_names.specs.Path.{path_of}
use Rattle.pv_catalog.specs.Catalogue.{CatalogueState}
use Rattle.store_manifest.specs.Manifest.{ManifestState}
use Rattle.act_model.specs.Changes.{IsRetired, StaysPinned, Retires}
use Rattle.act_model.specs.Crash.{kept_of}
use Rattle.act_model.specs.OpenPiece.{name_of}
use Rattle.act_model.specs.Sweep.{is_at, IsPinned}
use Rattle.archive_core.specs.LimboTies.{row_file}
use Rattle.archive_core.specs.MoveChoice.{HaveDurable, row_files}
use Rattle.archive_core.proofs.LimboTying.{contains_filter, from_filter, tier_there}
use Rattle.archive_core.proofs.LimboSwept.{IsSamePlace, at_place, store_itself}
use Rattle.archive_core.proofs.MovedParts.{apart_take, end_within}
use Rattle.act_model.proofs.Puts.{window-append}

-- Running moves stay the machine's through acts that go on beside them: how far a move is stays known while its source goes on, and what it has copied ends no later than all that is held of its row.

-- THE OLDEST FILES

-- of fewer than all nothing changes
oldest_same : (stands : Bool) (end n : ℕ) (old new : List Filed) → FilesGoOn stands end old new → n < length old → take n new ≡ take n old
oldest_same stands end n old new (inl on) low = ap (take n) on.1 ∙ take-append-le n old on.0 (omega (arith, low))
oldest_same stands end n old new (inr on) low =
    let long = ap length on.were in
    let within : n ≤ length on.front = omega (arith, low, long, length-append on.front (on.last ∷ [])) in
    ap (take n) on.are ∙ (take-append-le n on.front (on.grown ∷ on.more) within ∙ (sym (take-append-le n on.front (on.last ∷ []) within) ∙ ap (take n) (sym on.were)))

-- a list with one file for another, where n takes no file behind it
heads_go : (front : List Filed) (last grown : Filed) (more : List Filed) (n : ℕ) → n ≤ length front + 1 → grown.entry.head_len ≡ last.entry.head_len
    → map (λ (f : Filed). f.entry.head_len) (take n (front ++ grown ∷ more)) ≡ map (λ (f : Filed). f.entry.head_len) (take n (front ++ last ∷ []))
heads_go front last grown more zero low same = refl
heads_go [] last grown more (suc zero) low same = ap (λ (k : ℕ). k ∷ []) same
heads_go [] last grown more (suc (suc n)) low same = absurd (omega (arith, low))
heads_go (x ∷ front) last grown more (suc n) low same = ap (λ (l : List ℕ). x.entry.head_len ∷ l) (heads_go front last grown more n (omega (arith, low)) same)

-- the headers stay as long as they are
heads_same : (stands : Bool) (end n : ℕ) (old new : List Filed) → FilesGoOn stands end old new → n ≤ length old → map (λ (f : Filed). f.entry.head_len) (take n new) ≡ map (λ (f : Filed). f.entry.head_len) (take n old)
heads_same stands end n old new (inl on) low = ap (λ (l : List Filed). map (λ (f : Filed). f.entry.head_len) (take n l)) on.1 ∙ ap (map (λ (f : Filed). f.entry.head_len)) (take-append-le n old on.0 low)
heads_same stands end n old new (inr on) low =
    let long = ap length on.were in
    ap (λ (l : List Filed). map (λ (f : Filed). f.entry.head_len) (take n l)) on.are
    ∙ (heads_go on.front on.last on.grown on.more n (omega (arith, low, long, length-append on.front (on.last ∷ []))) on.further.head_len ∙ ap (λ (l : List Filed). map (λ (f : Filed). f.entry.head_len) (take n l)) (sym on.were))

-- a file that is taken of the one list is taken of the other, or is the one that stands for the last
got : (front : List Filed) (last grown : Filed) (more : List Filed) (n k : ℕ) (f : Filed) → n ≤ length front + 1 → slice_get (take n (front ++ grown ∷ more)) k ≡ Some f
    → (slice_get (take n (front ++ last ∷ [])) k ≡ Some f) ⊎ ((slice_get (take n (front ++ last ∷ [])) k ≡ Some last) × (f ≡ grown))
got front last grown more zero k f low here = absurd (cc (here))
got [] last grown more (suc zero) zero f low here = inr (refl, sym (same_Some grown f here))
got [] last grown more (suc zero) (suc k) f low here = absurd (cc (here))
got [] last grown more (suc (suc n)) k f low here = absurd (omega (arith, low))
got (x ∷ front) last grown more (suc n) zero f low here = inl here
got (x ∷ front) last grown more (suc n) (suc k) f low here = got front last grown more n k f (omega (arith, low)) here

-- A PART

-- samples that end by e from one moment do so from any other that is no later than e
end_any : (m n e : ℕ) (xs : List Sample) → end_from m xs ≤ e → n ≤ e → end_from n xs ≤ e
end_any m n e [] end low = low
end_any m n e (x ∷ xs) end low = end

-- it may go on behind all that was copied
copied_further : (stands : Bool) (end n : ℕ) (part : Entry) (last grown : Filed) → IsTrue stands → GoesFurther stands end last grown → n ≤ end → end_of last.samples ≤ end → IsCopiedTo n part last → IsCopiedTo n part grown
copied_further stands end n part last grown stand further low covers is =
    let more = further.more stand in
    let whole : end_from (end_of is.front) is.back ≤ end = subst (λ (k : ℕ). k ≤ end) (ap end_of is.samples ∙ end_from-append 0 is.front is.back) covers in
    record {
      of_part = further.part ∙ is.of_part;
      front = is.front;
      back = is.back ++ more.back;
      samples = more.samples ∙ (ap (λ (l : List Sample). l ++ more.back) is.samples ∙ append_assoc is.front is.back more.back);
      len = is.len ∙ ap (λ (k : ℕ). k + length (lines_of is.front)) (sym further.head_len);
      until = is.until;
      later = RisesFrom-append n is.back more.back is.later (RisesFrom-lower (end_from n is.back) end more.back more.later (end_any (end_of is.front) n end is.back whole low));
    }

-- the last of the files ends no later than all of them do
last_end : (old front : List Filed) (last : Filed) (end : ℕ) → old ≡ front ++ last ∷ [] → end_of (all_in old) ≤ end → end_of last.samples ≤ end
last_end old front last end were covers =
    let whole : all_in old ≡ all_in front ++ all_in (last ∷ []) = ap all_in were ∙ flat_map-append (λ (f : Filed). f.samples) front (last ∷ []) in
    let ends : end_of (all_in old) ≡ end_from (end_from (end_of (all_in front)) last.samples) [] = ap end_of whole ∙ (end_from-append 0 (all_in front) (last.samples ++ []) ∙ end_from-append (end_of (all_in front)) last.samples []) in
    end_any (end_of (all_in front)) 0 end last.samples (omega (arith, covers, ends)) (omega arith)

-- THE SOURCE

-- Files stay, and others may stand behind them. Or the last of them goes on with samples from a moment on, by which all that was there ends, and what
-- a move has copied of them.
abbrev pub SourceGoesOn : Bool → Bool → ℕ → ℕ → List Filed → List Filed → Type 0
SourceGoesOn told stands low end old new = ((more : List Filed) × (new ≡ old ++ more)) ⊎ (LastGoesOn stands end old new × (told ≡ true → (low ≤ end) × (end_of (all_in old) ≤ end)))

pub source_stays : (told stands : Bool) (low end : ℕ) (files : List Filed) → SourceGoesOn told stands low end files files
source_stays told stands low end files = inl ([], sym (append-nil files))

pub source_on : (told stands : Bool) (low end : ℕ) (old new : List Filed) → (told ≡ true → (low ≤ end) × (end_of (all_in old) ≤ end)) → FilesGoOn stands end old new → SourceGoesOn told stands low end old new
source_on told stands low end old new covers (inl on) = inl on
source_on told stands low end old new covers (inr on) = inr (on, covers)

files_on : (told stands : Bool) (low end : ℕ) (old new : List Filed) → SourceGoesOn told stands low end old new → FilesGoOn stands end old new
files_on told stands low end old new (inl on) = inl on
files_on told stands low end old new (inr on) = inr on.0

-- THE PARTS

-- as many files are listed as the move has parts
pub long_listed : (i from : ℕ) (tells : Bool) (all : SeenAll) (moving : Moving) (files : List Filed) (held : Stores) → i ≡ from + 1 → RunsBeside i tells all moving files held → length moving.parts ≤ length (of_row moving.series (list_at from held))
long_listed i from tells all moving files held next runs =
    let own : runs.from ≡ from = let other = runs.next in omega (arith, next, other) in
    let m = manifest_of all.stores.manifests runs.from runs.fine runs.from_fine in
    let lists : StillLists moving (record (m.0) { entries = map entry_of (list_at runs.from held) }) = runs.parts (record (m.0) { entries = map entry_of (list_at runs.from held) }) refl in
    let entries : map entry_of (of_row moving.series (list_at runs.from held)) ≡ lists.now ++ lists.others = own_entries moving.series (list_at runs.from held) ∙ lists.entries in
    let long = ap length lists.parts in
    let all_long = ap length entries in
    let at_from : length (of_row moving.series (list_at runs.from held)) ≡ length (of_row moving.series (list_at from held)) = ap (λ (k : ℕ). length (of_row moving.series (list_at k held))) own in
    omega (arith, long, all_long, at_from, length-map lists.now (λ (e : Entry). e.part), length-map moving.parts (λ (e : Entry). e.part), length-append lists.now lists.others, length-map (of_row moving.series (list_at runs.from held)) entry_of)

-- what was copied of them stays so
pub parts_still : (from : ℕ) (moving : Moving) (n end : ℕ) (told : Bool) (before made : Stores) → (told ≡ true → IsTrue before.stands) → SourceGoesOn told before.stands n end (of_row moving.series (list_at from before)) (of_row moving.series (list_at from made)) → length moving.parts ≤ length (of_row moving.series (list_at from before))
    → told ≡ true → HasCopiedParts from moving n before → HasCopiedParts from moving n made
parts_still from moving n end told before made stand (inl on) few now parts = λ k part f here there. parts k part f here (subst (λ (l : List Filed). slice_get l k ≡ Some f) (ap (take (length moving.parts)) on.1 ∙ take-append-le (length moving.parts) (of_row moving.series (list_at from before)) on.0 few) there)
parts_still from moving n end told before made stand (inr (on, covers)) few now parts = λ k part f here there.
    let long = ap length on.were in
    let within : length moving.parts ≤ length on.front + 1 = omega (arith, few, long, length-append on.front (on.last ∷ [])) in
    let back : take (length moving.parts) (on.front ++ on.last ∷ []) ≡ oldest from moving.series (length moving.parts) before = ap (take (length moving.parts)) (sym on.were) in
    elim (got on.front on.last on.grown on.more (length moving.parts) k f within (subst (λ (l : List Filed). slice_get (take (length moving.parts) l) k ≡ Some f) on.are there)) [
      | inl same ↦ parts k part f here (subst (λ (l : List Filed). slice_get l k ≡ Some f) back same)
      | inr (same, is) ↦
          subst (IsCopiedTo n part) (sym is)
          (copied_further before.stands end n part on.last on.grown (stand now) on.further (covers now).0 (last_end (of_row moving.series (list_at from before)) on.front on.last end on.were (covers now).1)
          (parts k part on.last here (subst (λ (l : List Filed). slice_get l k ≡ Some on.last) back same)))
    ]

-- THE STAGE

-- up to where what the move has copied or listed ends
abbrev pub reach : ℕ → List Filed → Stores → Moving → Stage → ℕ
reach to files before moving Copies = 0
reach to files before moving HasCopied = end_ahead to moving files before
reach to files before moving HasPublished = listed_end to moving before

module _ (tells : Bool) (old new : SeenAll) (told : Bool) (from to : ℕ) (moving : Moving) (files : List Filed) (before made : Stores) (next : to ≡ from + 1) (same_g : granularities new.stores.manifests ≡ granularities old.stores.manifests) (goes : GoesBeside to moving.series before made) (leaves : LeavesNames (names_of (to + 1, before.rows) files) tells old new)
    (runs : RunsBeside to tells old moving files before) (stand : told ≡ true → IsTrue before.stands) (end : ℕ) where
  few : length moving.parts ≤ length (of_row moving.series (list_at from before))
  few = long_listed to from tells old moving files before next runs

  same_ahead : end_ahead to moving files made ≡ end_ahead to moving files before
  same_ahead = ap (λ (l : List Filed). end_of (all_in l)) (put_rows moving.series files (list_at to made) (list_at to before) (ahead_own to tells old moving files before runs) goes.listed)

  same_listed : listed_end to moving made ≡ listed_end to moving before
  same_listed = ap (λ (l : List Filed). end_of (all_in l)) goes.listed

  abbrev own_was : List Filed
  own_was = of_row moving.series (list_at from before)

  abbrev now : List Filed
  now = of_row moving.series (list_at from made)

  heads : FilesGoOn before.stands end own_was now → CopiesBeside from tells old moving files before → KnowsHeads from moving made
  heads on is = heads_same before.stands end (length moving.parts) own_was now on few ∙ is.heads

  pub stage_still : (stage : Stage) → SourceGoesOn told before.stands (reach to files before moving stage) end own_was now → IsAtStage from to tells old told files before moving stage → IsAtStage from to tells new told files made moving stage
  stage_still Copies on is =
      let at : (k : ℕ) → k ≡ from + 1 → GoesBeside k moving.series before made × LeavesNames (names_of (k + 1, before.rows) files) tells old new = λ k same. subst (λ (j : ℕ). GoesBeside j moving.series before made × LeavesNames (names_of (j + 1, before.rows) files) tells old new) (next ∙ sym same) (goes, leaves) in
      let both = at (from + 1) refl in
      let less : moving.at < length own_was = let most = is.runs.running.at in let some = is.left in let long = few in omega (arith, most, some, long) in
      let files_are = files_on told before.stands 0 end own_was now on in
      copies_still from tells old new moving files before made same_g both.0 both.1 (heads files_are is) (oldest_same before.stands end moving.at own_was now files_are less) is
  stage_still HasCopied on is = record { is = is.is; parts = λ here. subst (λ (n : ℕ). HasCopiedParts from moving n made) (sym same_ahead) (parts_still from moving (end_ahead to moving files before) end told before made stand on few here (is.parts here)) }
  stage_still HasPublished on is = record { stage = is.stage; all = is.all; parts = λ here. subst (λ (n : ℕ). HasCopiedParts from moving n made) (sym same_listed) (parts_still from moving (listed_end to moving before) end told before made stand on few here (is.parts here)) }

-- WHAT A MOVE'S DESTINATION HAS OF ITS ROW

-- What a move has copied makes of its row in the next store what it made.
abbrev pub SamePut : List RowState → List RowState → List RowFile → List RowFile → MoveState → Type 0
SamePut rows after limbo left move =
    (row : RowState) → slice_get after move.row ≡ Some row
    → (was : RowState) × (slice_get rows move.row ≡ Some was)
    × (put move.copied (files_of move.row (next_store move.store) limbo) (tier was (next_store move.store)) ≡ put move.copied (files_of move.row (next_store move.store) left) (tier row (next_store move.store)))

-- rows and limbo of which no store but the first has others, of these rows
pub record SameLater (Of : ℕ → Type 0) (rows after : List RowState) (limbo left : List RowFile) : Type 0 where
  pub rows_there : (i : ℕ) (store : Store) (row : RowState) → Of i → i < length rows → slice_get after i ≡ Some row → (was : RowState) × (slice_get rows i ≡ Some was) × (tier row (next_store store) ≡ tier was (next_store store))
  pub limbo_there : (i : ℕ) (store : Store) → Of i → files_of i (next_store store) left ≡ files_of i (next_store store) limbo

pub same_later : (Of : ℕ → Type 0) (rows : List RowState) (limbo : List RowFile) → SameLater Of rows rows limbo limbo
same_later Of rows limbo = record { rows_there = λ i store row of low here. (row, here, refl); limbo_there = λ i store of. refl }

pub same_put : (Of : ℕ → Type 0) (rows after : List RowState) (limbo left : List RowFile) → SameLater Of rows after limbo left → (move : MoveState) → Of move.row → move.row < length rows → SamePut rows after limbo left move
same_put Of rows after limbo left same move of low row here =
    let was = same.rows_there move.row move.store row of low here in
    (was.0, was.1, λ k. put move.copied (sym (same.limbo_there move.row move.store of) k) (sym was.2 k))

-- the files of a move have the names of a store that moves copy to
pub leaves_ahead : (tells : Bool) (old new : SeenAll) (before : Stores) (store : Store) (files : List Filed) → LeavesLater tells old new → LeavesNames (names_of (index_of (next_store store) + 1, before.rows) files) tells old new
leaves_ahead tells old new before store files leaves = let place = index_of (next_store store) in leaves (names_of (place + 1, before.rows) files) (later_names place (place + 1, before.rows) files refl (next_low store))

-- a move's row is one of those that are there
pub move_low : (tells : Bool) (all : SeenAll) (told : Bool) (rows : List RowState) (limbo : List RowFile) (before : Stores) (move : MoveState) (running : Running Moving) → length rows ≡ length before.rows → IsMoveOf tells all told rows limbo before move running → move.row < length rows
move_low tells all told rows limbo before move running count is = let within = slice_get_within before.rows running.moving.series is.beside.row is.beside.stands in let own = is.own in omega (arith, within, own, count)

-- ONE MOVE

-- What a move wants of an act beside it: its destination's list stays, its source's goes on behind what it has copied, and what it has written stays.
pub record GoesOn (tells : Bool) (old new : SeenAll) (told : Bool) (rows after : List RowState) (limbo left : List RowFile) (before made : Stores) (move : MoveState) (running : Running Moving) (files : List Filed) : Type 0 where
  pub goes : GoesBeside (index_of (next_store move.store)) move.row before made
  pub on : SourceGoesOn told before.stands (reach (index_of (next_store move.store)) files before running.moving move.stage) (end_of (samples_in move.row before)) (of_row move.row (list_at (index_of move.store) before)) (of_row move.row (list_at (index_of move.store) made))
  pub puts : told ≡ true → is_copying move.stage ≡ true → SamePut rows after limbo left move
  pub leaves : LeavesNames (names_of (index_of (next_store move.store) + 1, before.rows) files) tells old new

module _ (tells : Bool) (old new : SeenAll) (told : Bool) (rows after : List RowState) (limbo left : List RowFile) (before made : Stores) (same_g : granularities new.stores.manifests ≡ granularities old.stores.manifests) (stand : told ≡ true → IsTrue before.stands) where
  pub move_stays : (move : MoveState) (running : Running Moving) (is : IsMoveOf tells old told rows limbo before move running) → GoesOn tells old new told rows after limbo left before made move running is.files → IsMoveOf tells new told after left made move running
  move_stays move running is by =
      let place = index_of (next_store move.store) in
      let of_move : AllByRecursion (λ (f : Filed). f.entry.series ≡ move.row) is.files = subst (λ (k : ℕ). AllByRecursion (λ (f : Filed). f.entry.series ≡ k) is.files) is.own (ahead_own place tells old running.moving is.files before is.beside) in
      let goes : GoesBeside place running.moving.series before made = subst (λ (k : ℕ). GoesBeside place k before made) (sym is.own) by.goes in
      record {
        series = is.series;
        store = is.store;
        own = is.own;
        moves = is.moves;
        files = is.files;
        beside = runs_still place tells old new running.moving is.files before made same_g goes by.leaves is.beside;
        parts = is.parts;
        to = is.to;
        stage = stage_still tells old new told (index_of move.store) place running.moving is.files before made (next_place move.store is.moves) same_g goes by.leaves is.beside stand (end_of (samples_in move.row before)) move.stage
            (subst (λ (k : ℕ). SourceGoesOn told before.stands (reach place is.files before running.moving move.stage) (end_of (samples_in move.row before)) (of_row k (list_at (index_of move.store) before)) (of_row k (list_at (index_of move.store) made))) (sym is.own) by.on) is.stage;
        copied = λ on copying row here.
            let was = by.puts on copying row here in
            ap all_in (put_rows move.row is.files (list_at place made) (list_at place before) of_move by.goes.listed) ∙ (is.copied on copying was.0 was.1 ∙ was.2);
        into = λ on. into_same move.row move.copied is.files (list_at place before) (list_at place made) of_move by.goes.listed (is.into on);
      }

  -- ALL MOVES

  pub moves_stay : (moves : FinMap nat_cmp MoveState) (slots : List (Option (Running Moving)))
      → ((n : ℕ) (move : MoveState) (running : Running Moving) → get moves n ≡ Some move → at slots n ≡ Some running → (is : IsMoveOf tells old told rows limbo before move running) → GoesOn tells old new told rows after limbo left before made move running is.files)
      → AreMovesOf tells old told rows limbo before moves slots → AreMovesOf tells new told after left made moves slots
  moves_stay moves slots on are = record {
    none = are.none;
    each = λ n move here.
        let has = are.each n move here in
        record { running = has.running; there = has.there; is = move_stays move has.running has.is (on n move has.running here has.there has.is) };
  }

-- WHERE THE STORES STAY

module _ (tells : Bool) (old new : SeenAll) (told : Bool) (rows after : List RowState) (limbo left : List RowFile) (before : Stores) (same_g : granularities new.stores.manifests ≡ granularities old.stores.manifests) (stand : told ≡ true → IsTrue before.stands) where
  -- a move wants then that its files stay, and what it makes of its row
  pub goes_still : (move : MoveState) (running : Running Moving) (files : List Filed) → (told ≡ true → is_copying move.stage ≡ true → SamePut rows after limbo left move) → LeavesNames (names_of (index_of (next_store move.store) + 1, before.rows) files) tells old new
      → GoesOn tells old new told rows after limbo left before before move running files
  goes_still move running files puts leaves = record {
    goes = beside_itself (index_of (next_store move.store)) move.row before;
    on = source_stays told before.stands (reach (index_of (next_store move.store)) files before running.moving move.stage) (end_of (samples_in move.row before)) (of_row move.row (list_at (index_of move.store) before));
    puts = puts;
    leaves = leaves;
  }

  -- so the moves stay where a call leaves all later stores
  pub moves_left : (moves : FinMap nat_cmp MoveState) (slots : List (Option (Running Moving))) → SameLater (HasRunning moves) rows after limbo left → length rows ≡ length before.rows → LeavesLater tells old new → AreMovesOf tells old told rows limbo before moves slots → AreMovesOf tells new told after left before moves slots
  moves_left moves slots same count leaves are =
      moves_stay tells old new told rows after limbo left before before same_g stand moves slots
      (λ n move running here there is. goes_still move running is.files (λ on copying. same_put (HasRunning moves) rows after limbo left same move (n, move, here, refl) (move_low tells old told rows limbo before move running count is)) (leaves_ahead tells old new before move.store is.files leaves)) are

-- A CALL THAT KEEPS MOVES BESIDE

-- how far a move is doesn't depend on the disk, but for that it runs beside the stores
stage_beside : (tells : Bool) (old new : SeenAll) (told : Bool) (from to : ℕ) (before : Stores) (moving : Moving) (files : List Filed) → ((i : ℕ) (move : Moving) (fs : List Filed) → RunsBeside i tells old move fs before → RunsBeside i tells new move fs before) → (stage : Stage) → IsAtStage from to tells old told files before moving stage → IsAtStage from to tells new told files before moving stage
stage_beside tells old new told from to before moving files stay Copies is = record { runs = stay (from + 1) moving files is.runs; stage = is.stage; left = is.left; heads = is.heads; lengths = is.lengths; last = is.last; passed = is.passed; told = is.told }
stage_beside tells old new told from to before moving files stay HasCopied is = is
stage_beside tells old new told from to before moving files stay HasPublished is = is

-- so they do where each runs beside the stores still
pub moves_beside : (tells : Bool) (old new : SeenAll) (told : Bool) (rows : List RowState) (limbo : List RowFile) (before : Stores) (moves : FinMap nat_cmp MoveState) (slots : List (Option (Running Moving)))
    → ((i : ℕ) (move : Moving) (files : List Filed) → RunsBeside i tells old move files before → RunsBeside i tells new move files before) → AreMovesOf tells old told rows limbo before moves slots → AreMovesOf tells new told rows limbo before moves slots
moves_beside tells old new told rows limbo before moves slots stay are = record {
  none = are.none;
  each = λ n move here.
      let has = are.each n move here in
      let is = has.is in
      record {
        running = has.running;
        there = has.there;
        is = record {
          series = is.series;
          store = is.store;
          own = is.own;
          moves = is.moves;
          files = is.files;
          beside = stay (index_of (next_store move.store)) has.running.moving is.files is.beside;
          parts = is.parts;
          to = is.to;
          stage = stage_beside tells old new told (index_of move.store) (index_of (next_store move.store)) before has.running.moving is.files stay move.stage is.stage;
          copied = is.copied;
          into = is.into;
        };
      };
}

-- THE ROW

-- what is durable ends where the last of the three lists does
durable_end : (told : Bool) (r : RowState) → RowSound told r → end_of (durable r) ≡ max (max (end_of r.long) (end_of r.medium)) (end_of r.short)
durable_end told r row = end_of-over (over r.long r.medium) r.short row.short ∙ ap (λ (n : ℕ). max n (end_of r.short)) (end_of-over r.long r.medium row.medium)

pub tier_end : (told : Bool) (r : RowState) → RowSound told r → (store : Store) → end_of (tier r store) ≤ end_of (durable r)
tier_end told r row Short = let end = durable_end told r row in omega (arith, end)
tier_end told r row Medium = let end = durable_end told r row in omega (arith, end)
tier_end told r row Long = let end = durable_end told r row in omega (arith, end)

-- and so does what is below the store to which a store's samples move
below_end : (told : Bool) (r : RowState) → RowSound told r → (store : Store) → end_of (deep r (next_store store)) ≤ end_of (durable r)
below_end told r row Short = let end = durable_end told r row in omega (arith, end)
below_end told r row Medium = omega arith
below_end told r row Long = omega arith

-- THE MOVE

module _ (tells : Bool) (all : SeenAll) (m : Machine) (s : Stores) (sound : IsSound m) (holds : HoldsDurable s m) (told : m.told ≡ true) (n : ℕ) (move : MoveState) (here : get m.moves n ≡ Some move) (running : Running Moving) (is : IsMoveOf tells all m.told m.rows m.limbo s move running) where
  row : (r : RowState) × (slice_get m.rows move.row ≡ Some r)
  row = element m.rows move.row (sound.each_move n move here).here

  row_is : RowSound m.told row.0
  row_is = sound.each_row move.row row.0 row.1

  whole : end_of (samples_in move.row s) ≡ end_of (durable row.0)
  whole = ap end_of (held_is m s move.row row.0 holds told row.1)

  -- what its own store lists of its row ends no later
  pub source_ends : end_of (samples_of move.row (list_at (index_of move.store) s)) ≤ end_of (samples_in move.row s)
  source_ends =
      let list = ap end_of (list_is m s move.row row.0 holds told row.1 move.store) in
      let end = tier_end m.told row.0 row_is move.store in
      let all_end = whole in
      omega (arith, list, end, all_end)

  listed_ends : end_of (samples_of move.row (list_at (index_of (next_store move.store)) s)) ≤ end_of (samples_in move.row s)
  listed_ends =
      let list = ap end_of (list_is m s move.row row.0 holds told row.1 (next_store move.store)) in
      let end = tier_end m.told row.0 row_is (next_store move.store) in
      let all_end = whole in
      omega (arith, list, end, all_end)

  -- nor does what it has written
  ahead_ends : is_copying move.stage ≡ true → end_of (samples_of move.row (put_all (list_at (index_of (next_store move.store)) s) is.files)) ≤ end_of (samples_in move.row s)
  ahead_ends copying =
      let dest = tier row.0 (next_store move.store) in
      let copies = is.copied told copying row.0 row.1 in
      let until = ((sound.each_move n move here).copied row.0 row.1 told copying).until in
      let end : end_of (samples_of move.row (put_all (list_at (index_of (next_store move.store)) s) is.files)) ≡ end_from (end_of dest) move.copied = ap end_of copies ∙ end_put move.copied (files_of move.row (next_store move.store) m.limbo) dest in
      let low = below_end m.told row.0 row_is move.store in
      let own = tier_end m.told row.0 row_is move.store in
      let to = tier_end m.told row.0 row_is (next_store move.store) in
      let all_end = whole in
      omega (arith, until, end, low, own, to, all_end)

  pub reach_ends : reach (index_of (next_store move.store)) is.files s running.moving move.stage ≤ end_of (samples_in move.row s)
  reach_ends = by_stage move.stage refl
    where
      by_stage : (stage : Stage) → move.stage ≡ stage → reach (index_of (next_store move.store)) is.files s running.moving stage ≤ end_of (samples_in move.row s)
      by_stage Copies at = omega arith
      by_stage HasCopied at = subst (λ (k : ℕ). end_of (samples_of k (put_all (list_at (index_of (next_store move.store)) s) is.files)) ≤ end_of (samples_in move.row s)) (sym is.own) (ahead_ends (ap is_copying at))
      by_stage HasPublished at = subst (λ (k : ℕ). end_of (samples_of k (list_at (index_of (next_store move.store)) s)) ≤ end_of (samples_in move.row s)) (sym is.own) listed_ends

-- The partitions of the files that a store lists of a row are those of the row's samples there.

abbrev pub parts_of : List Filed → List Part
parts_of files = map (λ (f : Filed). f.entry.part) files

module _ (rule : Rule) (store : Store) (g : Granularity) (rows : List Row) (of_store : slice_get rule.granularity (index_of store) ≡ Some g) where
  -- each file is the window of its partition
  abbrev AreWindows : List Sample → List Filed → Type 0
  AreWindows xs files = AllByRecursion (λ (f : Filed). window f.entry.part xs ≡ f.samples) files

  rise_from : (n : ℕ) (xs : List Sample) (files : List Filed) → All (IsFiled g rows) files → AreApart files → AllByRecursion (λ (f : Filed). n ≤ f.entry.part.start) files → AreWindows xs files → PartsFrom n xs (parts_of files)
  rise_from n xs [] filed apart low cuts = tt
  rise_from n xs (f ∷ files) filed apart low cuts =
      let is : IsFiled g rows f = All-head (IsFiled g rows) f files filed in
      let some : is_empty (window f.entry.part xs) ≡ false = ap is_empty (cuts.0 ∙ is.some) in
      (low.0, (within g f.entry.part is.part).1, λ none. (let both : true ≡ false = sym none ∙ some in cc (both)), rise_from f.entry.part.end xs files (All-tail (IsFiled g rows) f files filed) apart.1 apart.0 cuts.1)

  each_partition : (files : List Filed) → All (IsFiled g rows) files → AllByRecursion (IsPartition rule store) (parts_of files)
  each_partition [] filed = tt
  each_partition (f ∷ files) filed = (record { unit = g; of_store = of_store; is = (All-head (IsFiled g rows) f files filed).part }, each_partition files (All-tail (IsFiled g rows) f files filed))

  all_windows : (xs : List Sample) (files : List Filed) → AreWindows xs files → all_in files ≡ flat_map (λ (p : Part). window p xs) (parts_of files)
  all_windows xs [] cuts = refl
  all_windows xs (f ∷ files) cuts = ap (λ (ys : List Sample). ys ++ all_in files) (sym cuts.0) ∙ ap (λ (ys : List Sample). window f.entry.part xs ++ ys) (all_windows xs files cuts.1)

  pub parts_are : (files : List Filed) → All (IsFiled g rows) files → AreApart files → AreParts rule store (all_in files) (parts_of files)
  parts_are files filed apart =
      let cuts = windows g rows files filed apart in
      record { rise = rise_from 0 (all_in files) files filed apart (from_zero files) cuts; each_one = each_partition files filed; all = all_windows (all_in files) files cuts }

-- so it is where the stores hold what is durable of a told machine
pub row_parts : (tells : Bool) (at : Seen) (m : Machine) (held : Stores) → Has tells at held → HoldsDurable held m → m.rule.granularity ≡ granularities at.manifests → TellsHeaders m.rule → m.told ≡ true → IsTrue held.stands
    → (i : ℕ) (r : RowState) → slice_get m.rows i ≡ Some r → (store : Store) → AreParts m.rule store (tier r store) (parts_of (of_row i (list_at (index_of store) held)))
row_parts tells at m held has holds gran heads told stands i r here store =
    let files = of_row i (list_at (index_of store) held) in
    let own = own_files tells at m held has holds gran heads told stands i r here store in
    subst (λ (xs : List Sample). AreParts m.rule store xs (parts_of files)) (list_is m held i r holds told here store) (parts_are m.rule store own.unit held.rows own.of_store files own.filed own.apart)

-- The files of a retirement as files of the machine: which of them may go to limbo.

-- FILES OF A ROW

-- where there are samples of a partition, a file of it is listed
some_starts : (g : Granularity) (rows : List Row) (p : Part) (fs : List Filed) → IsPart g p → All (IsFiled g rows) fs → is_empty (window p (all_in fs)) ≡ false → (k : ℕ) × (h : Filed) × (slice_get fs k ≡ Some h) × (h.entry.part.start ≡ p.start)
some_starts g rows p [] part filed some = absurd (cc (some))
some_starts g rows p (h ∷ fs) part filed some = elim (same_or_not h.entry.part.start p.start) [
  | inl same ↦ (0, h, refl, same)
  | inr other ↦ (
      let none = window_apart g rows h p (All-head (IsFiled g rows) h fs filed) part other in
      let rest : window p (h.samples ++ all_in fs) ≡ window p (all_in fs) = window-append p h.samples (all_in fs) ∙ ap (λ (xs : List Sample). xs ++ window p (all_in fs)) none in
      let later = some_starts g rows p fs part (All-tail (IsFiled g rows) h fs filed) (sym (ap is_empty rest) ∙ some) in
      (suc later.0, later.1, later.2, later.3)
      )
]

-- one whose partition ends no later than the last of the n oldest is one of them
ends_early : (g : Granularity) (rows : List Row) (m n : ℕ) (fs : List Filed) (k : ℕ) (h : Filed) → All (IsFiled g rows) fs → AreApart fs → starts_from g rows m fs → slice_get fs k ≡ Some h → h.entry.part.end ≤ ends_from m (take n (map entry_of fs)) → Contains (take n fs) h
ends_early g rows m n [] k h filed apart low here end = absurd (cc (here))
ends_early g rows m zero (x ∷ fs) k h filed apart low here end = absurd (
    let start = get_all (λ (f : Filed). m ≤ f.entry.part.start) (x ∷ fs) k h low here in
    let wide = (within g h.entry.part (all_at (IsFiled g rows) (x ∷ fs) k h filed here).part).1 in
    omega (arith, start, wide, end)
    )
ends_early g rows m (suc n) (x ∷ fs) zero h filed apart low here end = (0, omega arith, same_Some x h here)
ends_early g rows m (suc n) (x ∷ fs) (suc k) h filed apart low here end =
    let rest = ends_early g rows x.entry.part.end n fs k h (All-tail (IsFiled g rows) x fs filed) apart.1 apart.0 here end in
    (suc rest.0, (let more = rest.1 in omega (arith, more)), rest.2)

-- THE MACHINE'S LIMBO

there_at : (p : Part) (limbo : List RowFile) (f : RowFile) → Contains limbo f → f.part ≡ p → IsThere p limbo
there_at p [] f (k, low, is) same = absurd (omega (arith, low))
there_at p (g ∷ limbo) f there same = elim (contains_cases g limbo f there) [
  | inl is ↦ inl (ap (λ (x : RowFile). x.part) is ∙ same)
  | inr later ↦ inr (there_at p limbo f later same)
]

-- THE FILES OF A RETIREMENT

module _ (i : ℕ) (store : Store) where
  -- a file of the row as one of the machine
  abbrev pub own : Filed → RowFile
  own h = row_file i store h

  places_apart : (g : Granularity) (rows : List Row) (fs : List Filed) → All (IsFiled g rows) fs → AreApart fs → PlacesDiffer (map own fs)
  places_apart g rows [] filed apart = tt
  places_apart g rows (f ∷ fs) filed apart = (behind fs apart.0, places_apart g rows fs (All-tail (IsFiled g rows) f fs filed) apart.1)
    where
      behind : (hs : List Filed) → AllByRecursion (λ (h : Filed). f.entry.part.end ≤ h.entry.part.start) hs → AllByRecursion (IsElsewhere (own f)) (map own hs)
      behind [] all = tt
      behind (h ∷ hs) all = (
        λ row at same.
            let start : h.entry.part.start ≡ f.entry.part.start = ap (λ (p : Part). p.start) same in
            let wide = (within g f.entry.part (All-head (IsFiled g rows) f fs filed).part).1 in
            let later = all.0 in
            omega (arith, start, wide, later),
        behind hs all.1,
      )

-- it has the name of its file
pub own_name : (held : Stores) (m : Machine) → HoldsDurable held m → (i : ℕ) (r : RowState) → slice_get m.rows i ≡ Some r → (store : Store) (h : Filed) → Contains (of_row i (list_at (index_of store) held)) h → file_of (index_of store + 1, held.rows) h.entry ≡ name_of r (own i store h)
own_name held m holds i r here store h there =
    let from = from_filter (λ (f : Filed). nat_eq f.entry.series i) (list_at (index_of store) held) h there in
    let series : h.entry.series ≡ i = (Decides-eqb h.entry.series i).0 from.1 in
    let row = holds.each i (kept_of r) (kept_to m.rows i r here) in
    let row_there : slice_get held.rows h.entry.series ≡ Some row.row = ap (slice_get held.rows) series ∙ row.here in
    ap (λ (o : Option Row). (let n : Name = (index_of store + 1, path_of (held_name o) h.entry.part.name) in n)) row_there ∙ ap (λ (t : List ℕ). (let n : Name = (index_of store + 1, path_of t h.entry.part.name) in n)) (sym row.is.name)

module _ (catalogue : CatalogueState) (ms : List ManifestState) (held : Stores) (m : Machine) (have : HaveDurable catalogue ms held m) (sound : IsSound m) (told : m.told ≡ true) (i : ℕ) (r : RowState) (here : slice_get m.rows i ≡ Some r) (store : Store) (moves : store ≢ Long) (n to : ℕ)
    (ends : to ≡ ends_from 0 (map entry_of (oldest (index_of store) i n held))) where
  abbrev all : List Filed
  all = row_files held store i

  abbrev parts : List Filed
  parts = oldest (index_of store) i n held

  -- the files that leave, as the machine's
  abbrev pub owns : List RowFile
  owns = map (own i store) (oldest (index_of store) i n held)

  is : RowFiles m.rule held store i r
  is = files_held catalogue ms held m have told i r here store

  all_end : to ≡ ends_from 0 (take n (map entry_of all))
  all_end = ends ∙ ap (λ (es : List Entry). ends_from 0 es) (sym (take-map entry_of n all))

  at_part : (h : Filed) → Contains parts h → (k : ℕ) × (k < n) × (slice_get all k ≡ Some h)
  at_part h (k, low, same) = let at = get_take n k all h (read_at (take n all) k h (sym same) low) in (k, at.0, at.1)

  part_filed : (h : Filed) → Contains parts h → IsFiled is.unit held.rows h
  part_filed h there = let at = at_part h there in all_at (IsFiled is.unit held.rows) all at.0 h is.filed at.2

  -- each is of a partition of the store
  pub part_partition : (h : Filed) → Contains parts h → IsPartition m.rule store h.entry.part
  part_partition h there = record { unit = is.unit; of_store = is.of_store; is = (part_filed h there).part }

  window_is : (h : Filed) → Contains parts h → h.samples ≡ window h.entry.part (tier_at m.rows i store)
  window_is h there =
      let at = at_part h there in
      let cut = get_all (λ (f : Filed). window f.entry.part (all_in all) ≡ f.samples) all at.0 h (windows is.unit held.rows all is.filed is.apart) at.2 in
      sym cut ∙ ap (window h.entry.part) (sym (tier_there m.rows i r store here ∙ is.samples))

  -- each may go to limbo
  pub part_retired : (h : Filed) → Contains parts h → IsRetired m i store to (own i store h)
  part_retired h there =
      let filed = part_filed h there in
      let at = at_part h there in
      record {
        row = refl;
        here = slice_get_within m.rows i r here;
        own_store = refl;
        moves = moves;
        whole = let wide = (within is.unit h.entry.part filed.part).1 in omega (arith, wide);
        before = let low = end_within is.unit held.rows 0 n all at.0 h is.filed is.apart at.2 at.1 in let end = all_end in omega (arith, low, end);
        partition = λ on. part_partition h there;
        samples = λ on. window_is h there;
        some = λ on. ap is_empty filed.some;
      }

  pub owns_differ : PlacesDiffer owns
  owns_differ = places_apart i store is.unit held.rows parts (All-take (IsFiled is.unit held.rows) n all is.filed) (apart_take n all is.apart)

  -- THE PIECES OF PINS

  -- a piece of the store that ends no later than the move, and of which something is listed, is one of them
  record IsPartOf (piece : RowFile) : Type 0 where
    h : Filed
    there : Contains parts h
    part : h.entry.part ≡ piece.part

  piece_is : (piece : RowFile) → IsPartition m.rule piece.store piece.part → piece.store ≡ store → piece.part.end ≤ to → is_empty (window piece.part (tier_at m.rows i store)) ≡ false → IsPartOf piece
  piece_is piece partition same end some =
      let unit : partition.unit ≡ is.unit = same_Some partition.unit is.unit (sym partition.of_store ∙ (ap (λ (s : Store). slice_get m.rule.granularity (index_of s)) same ∙ is.of_store)) in
      let part : IsPart is.unit piece.part = subst (λ (g : Granularity). IsPart g piece.part) unit partition.is in
      let listed : is_empty (window piece.part (all_in all)) ≡ false = ap (λ (xs : List Sample). is_empty (window piece.part xs)) (sym (tier_there m.rows i r store here ∙ is.samples)) ∙ some in
      let one = some_starts is.unit held.rows piece.part all part is.filed listed in
      let filed = all_at (IsFiled is.unit held.rows) all one.0 one.1 is.filed one.2 in
      let start = one.3 in
      let mine = (within is.unit one.1.entry.part filed.part).1 in
      let theirs = (within is.unit piece.part part).1 in
      let one_is : one.1.entry.part ≡ piece.part = one_part is.unit one.1.entry.part piece.part piece.part.start filed.part part (omega (arith, start), omega (arith, start, mine)) (omega arith, theirs) in
      let high : one.1.entry.part.end ≡ piece.part.end = ap (λ (p : Part). p.end) one_is in
      let last = all_end in
      record { h = one.1; there = ends_early is.unit held.rows 0 n all one.0 one.1 is.filed is.apart (from_zero all) one.2 (omega (arith, high, end, last)); part = one_is }

  -- files that have each of them that a pin names keep each listed piece of a pin
  pub stays_with : (into : List RowFile) → ((h : Filed) → Contains parts h → IsPinned m (own i store h) → Contains into (own i store h)) → StaysPinned m i store to into
  stays_with into has = record { stays = λ k p there. all_of (λ (piece : RowFile). piece.row ≡ i → piece.store ≡ store → piece.part.end ≤ to → is_empty (window piece.part (tier_at m.rows i store)) ≡ false → IsThere piece.part (files_of i store into)) p.pieces (λ piece among row at end some. one k p there piece among row at end some) }
    where
      one : (k : ℕ) (p : PinState) → get m.pins k ≡ Some p → (piece : RowFile) → Contains p.pieces piece → piece.row ≡ i → piece.store ≡ store → piece.part.end ≤ to → is_empty (window piece.part (tier_at m.rows i store)) ≡ false → IsThere piece.part (files_of i store into)
      one k p there piece among row at end some =
          let piece_sound = of_all (PieceSound m.rule m.rows m.limbo) p.pieces piece (sound.pinned told k p there) among in
          let found = piece_is piece piece_sound.partition at end some in
          let f = own i store found.h in
          let place : IsSamePlace piece f = record { row = row; store = at; part = sym found.part } in
          let test : is_at f piece ≡ true = at_place m sound f piece r r here (ap (slice_get m.rows) row ∙ here) (part_partition found.h found.there) piece_sound.partition place in
          let pinned : IsPinned m f = record { number = k; pin = p; here = there; names = list_any-from_Any (is_at f) p.pieces (among.0, piece, among.1, among.2, test) } in
          let within_it = has found.h found.there pinned in
          let rows : (i == i) ≡ true = grind (arith, nat_tests) in
          let own_test : (i == i && same_store store store) ≡ true = rw (rows, store_itself store) refl in
          there_at piece.part (files_of i store into) f (contains_filter (λ (x : RowFile). x.row == i && same_store x.store store) into f within_it own_test) found.part

  -- so may all of these go together
  pub retires_with : (into : List RowFile) → ((f : RowFile) → Contains into f → (h : Filed) × Contains parts h × (own i store h ≡ f)) → ((h : Filed) → Contains parts h → IsPinned m (own i store h) → Contains into (own i store h)) → PlacesDiffer into → Retires m (Unlists i store to) into
  retires_with into from has differ = (
    all_of (IsRetired m i store to) into (λ f there. (let one = from f there in subst (IsRetired m i store to) one.2 (part_retired one.0 one.1))),
    stays_with into has,
    λ on. differ,
  )
