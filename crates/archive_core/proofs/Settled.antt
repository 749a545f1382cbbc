-- The archive once a doubt is settled, and what it stands for after a call of the stores.
use Rattle.std.proofs.Common.{◌≡◌, List, Bool, ℕ, refl, sym, ◌∙◌, ap, subst, ◌≢◌, ◌⊎◌, inl, inr, zero, suc, ◌+◌, ◌<◌, ◌≤◌, [], ◌∷◌, length, true, false, Option, Some, None, arith}
use Rattle.std.specs.FinMap.{FinMap}
use Rattle.std.specs.Ordering.{nat_cmp}
use Rattle.tier_store.specs.Pinned.{beside, SeenAll, KeepsShown}
use Rattle.tier_store.specs.Seen.{Seen, granularities, IsSettled}
use Rattle.tier_store.specs.declared.limbo.Retired.{Retired}
use Rattle.tier_store.specs.Change.{IsKnown, Has, IsOpen, HasEither}
use Rattle.tier_store.specs.Stores.{Stores, list_at, samples_in}
use Rattle.act_model.specs.Machine.{MoveState, Change, AddsRow, SetsState, Renames, Appends, Publishes, Unlists, Machine, PinState}
use Rattle.act_model.specs.Rows.{RowState, Store, fresh_row, renamed_row, next_store, period_of}
use Rattle.archive_core.specs.Growing.{HasRunning}
use Rattle.archive_core.specs.Stands.{StoresGo, Stands, IsDoubtOf, IsReady, HasSettings, IsBetween, TellsHeaders, Rests, StoresGrow, InDoubt, IsPartOf, AreDurable, HoldsDurable}
use Rattle.archive_core.proofs.Lists.{same_grow, grow_fewer, rows_go_on, same_or_not, get_set_same, get_front}
use Rattle.archive_core.proofs.LimboTying.{KeepsNames, names_stay, names_made, state_name, pins_stay, KeepsFiles, limbo_beside, limbo_changed, limbo_held}
use Rattle.act_model.specs.Sound.{IsSound, MayMake}
use Rattle.archive_core.specs.LimboTies.{IsLimboOf}
use Rattle.archive_core.specs.Memory.{AreRowsOf, IsRowAt, set_by, row_ends, IsCleared}
use Rattle.intake_half.specs.Memory.{cell_in, period_in, fresh_memory, renamed_memory, cleared}
use Rattle.archive_core.specs.Parts.{Parts}
use Rattle.archive_core.specs.Pins.{ArePinsOf}
use Rattle.tier_store.specs.Frame.{Frame}
use Rattle.pv_catalog.proofs.Standing.{keeps_same}
use Rattle.archive_core.proofs.RetiredDoubt.{retiring_stays, settled_retired}
use Rattle.etl_rules.specs.Config.{ConfigState}
use Rattle.pins.specs.Pieces.{PinOf}
use Rattle.tier_store.specs.Beginning.{AreNested}
use Rattle.act_model.specs.Rule.{Rule, index_of}
use Rattle.tier_store.specs.Revival.{KeepsWhole, AreWhole}
use Rattle.std.specs.List.{AllByRecursion}
use Rattle.std.specs.Prelude.{◌==◌, ◌&&◌, IsTrue, slice_get, slice_set, map, Vec}
use Rattle.std.specs.declared.alloc.Global.{Global}
use Rattle.std.proofs.lemmas.Bool.Decides.{nat_tests}
use Rattle.std.proofs.lemmas.List.{length-map}
use Rattle.std.proofs.lemmas.Option.{same_Some, slice_get_within}
use Rattle.intake.specs.Tails.{TailState, tail_at}
use Rattle.pb_messages.specs.declared.about.About.{About}
use Rattle.pb_messages.specs.declared.about.State.{State}
use Rattle.pv_catalog.specs.Catalogue.{HasState}
use Rattle.pv_catalog.specs.declared.row.Row.{Row}
use Rattle.intake.specs.Row.{SampledRow, after}
use Rattle.series_model.specs.Sampling.{first_cell}
use Rattle.series_model.specs.Series.{end_of, since, IsRising}
use Rattle.series_model.specs.declared.batch.RowSamples.{RowSamples}
use Rattle.series_model.specs.declared.sample.Sample.{Sample}
use Rattle.series_model.proofs.RisingLists.{RisesFrom-lower}
use Rattle.moves.specs.declared.table.Running.{Running}
use Rattle.durable_write.specs.Held.{Filed}
use Rattle.act_model.specs.Changes.{added, each, at, changed, made, of_row, Retires, Settles, no_doubt, as_not_made, as_made, without_held}
use Rattle.act_model.specs.Crash.{kept_of, kept}
use Rattle.act_model.specs.Limbo.{RowFile}
use Rattle.act_model.proofs.Rows.{Came, from_row, is_new, came, each_forward, more_rows}
use Rattle.act_model.proofs.StepLaws.{settled_sound, settled_none}
use Rattle.archive_core.specs.declared.memory.RowEnd.{RowEnd}
use Rattle.intake_half.specs.declared.memory.RowMemory.{RowMemory}
use Rattle.archive_core.specs.declared.memory.Doubt.{Doubt}
use Rattle.archive_core.proofs.Batches.{ListsBatch, none_beyond, lists_or_not, holds_with, holds_without, told_stands}
use Rattle.intake_half.proofs.Sampled.{sampling_period, sampling_cell}
use Rattle.archive_core.proofs.Windows.{kept_to, taken_later, index_low}
use Rattle.archive_core.proofs.RetiredLimbo.{IsEarly, listed_same, same_made, moves_settled, row_came, unlisted_there, names_unlisted}
use Rattle.archive_core.proofs.MovesKept.{reach_ends, source_ends, SameLater, leaves_ahead, moves_stay, same_later, same_put, reach, source_on}
use Rattle.archive_core.proofs.MoveChoice.{next_high, next_low}
use Rattle.archive_core.specs.Flushing.{GivesUp, ListsEnds, IsTrimmed}
use Rattle.archive_core.specs.MoveTies.{AreMovesOf}
use Rattle.archive_core.specs.Retiring.{IsRetiring, SettlesRetired}
use Rattle.durable_write.proofs.Staying.{get_set_other}
use Rattle.archive_core.specs.declared.memory.Doubt.TheVariants as kind
use Rattle.pb_messages.specs.declared.about.State.TheVariants.{Retired as RetiredState}
use Rattle.etl_mover.specs.Move.{Moving}
use Rattle.durable_write.specs.Plan.{of_row as files_in}

-- What is known of a doubted change stays so while the doubt stands.

-- beside fewer moves
pub go_fewer : (tells : Bool) (all : SeenAll) (told : Bool) (rows : List RowState) (moves fewer : FinMap nat_cmp MoveState) (before after : Stores) → ((row : ℕ) → HasRunning fewer row → HasRunning moves row) → (c : Change) → StoresGo tells all told rows moves before after c → StoresGo tells all told rows fewer before after c
go_fewer tells all told rows moves fewer before after were (AddsRow name about) go = grow_fewer were go
go_fewer tells all told rows moves fewer before after were (SetsState row to) go = grow_fewer were go
go_fewer tells all told rows moves fewer before after were (Renames row name) go = grow_fewer were go
go_fewer tells all told rows moves fewer before after were (Appends batch) go = grow_fewer were go
go_fewer tells all told rows moves fewer before after were (Publishes row store copied) go = grow_fewer were go
go_fewer tells all told rows moves fewer before after were (Unlists row store to) go = go

-- where the files in limbo are shown still
go_stays : (tells : Bool) (old new : Seen) (limbo : List Retired) (told : Bool) (rows later : List RowState) (moves : FinMap nat_cmp MoveState) (before after : Stores) → KeepsFiles tells (beside old limbo) (beside new limbo) rows later
    → (c : Change) → StoresGo tells (beside old limbo) told rows moves before after c → StoresGo tells (beside new limbo) told later moves before after c
go_stays tells old new limbo told rows later moves before after keeps (AddsRow name about) go = go
go_stays tells old new limbo told rows later moves before after keeps (SetsState row to) go = go
go_stays tells old new limbo told rows later moves before after keeps (Renames row name) go = go
go_stays tells old new limbo told rows later moves before after keeps (Appends batch) go = go
go_stays tells old new limbo told rows later moves before after keeps (Publishes row store copied) go = go
go_stays tells old new limbo told rows later moves before after keeps (Unlists row store to) go = retiring_stays tells old new limbo told rows later before after row store to keeps go

-- beside stores that are known as before
pub go_beside : (tells : Bool) (old new : Seen) (limbo : List Retired) (told : Bool) (rows : List RowState) (moves : FinMap nat_cmp MoveState) (before after : Stores) → IsKnown old.catalogue old.manifests before → IsKnown new.catalogue new.manifests before → granularities new.manifests ≡ granularities old.manifests
    → KeepsShown tells (beside old limbo) (beside new limbo) → (c : Change) → StoresGo tells (beside old limbo) told rows moves before after c → StoresGo tells (beside new limbo) told rows moves before after c
go_beside tells old new limbo told rows moves before after was now same_g shown c go =
    go_stays tells old new limbo told rows rows moves before after
    (record { shown = λ file bytes there. shown file.name bytes; variables = rows_go_on old new before before was now (same_grow moves before); names = names_stay rows; granularity = same_g }) c go

-- where rows change in memory and keep their names
pub go_named : (tells : Bool) (at : Seen) (limbo : List Retired) (told : Bool) (rows later : List RowState) (moves : FinMap nat_cmp MoveState) (before after : Stores) → KeepsNames rows later → (c : Change) → StoresGo tells (beside at limbo) told rows moves before after c → StoresGo tells (beside at limbo) told later moves before after c
go_named tells at limbo told rows later moves before after names c go =
    go_stays tells at at limbo told rows later moves before after (record { shown = λ file bytes there shown. shown; variables = keeps_same at.catalogue.rows; names = names; granularity = refl }) c go

-- What an archive stands for after a call of the stores, or a change of what it keeps.

-- the settings are those of stores with partitions of the same length
pub settings_kept : (at new : Seen) (config : ConfigState) (rule : Rule) → granularities new.manifests ≡ granularities at.manifests → HasSettings at config rule → HasSettings new config rule
settings_kept at new config rule same_g s = record { hold = s.hold; gather = s.gather; nested = λ place low. subst (AreNested place) (sym same_g) (s.nested place low) }

-- What is kept through every act: the settings and the doors of the archive, the rule and the doors of the machine. The machine has the disk's count.
pub record Carries (p q : Parts) (m n : Machine) : Type 0 where
  pub config : q.config ≡ p.config
  pub doors : q.doors ≡ p.doors
  pub rule : n.rule ≡ m.rule
  pub own_doors : n.doors ≡ m.doors
  pub faults : n.faults ≡ q.at.faults
  pub granularity : granularities q.at.manifests ≡ granularities p.at.manifests

-- The archive stands for another machine, where its limbo, its pins, its rows and its stores are those of that.
abbrev pub stands_after : (tells : Bool) (p : Parts) (m : Machine) → Stands tells p m → (q : Parts) (n : Machine) → Carries p q m n → IsSound n → IsLimboOf tells (beside q.at q.limbo) n.told n.rows n.limbo → ArePinsOf tells (beside q.at q.limbo) n.told n.rows n.pins q.pinned
    → AreRowsOf q.at.catalogue.rows q.kept q.tails n.rows → IsDoubtOf q.doubt n.doubt → IsReady q.kept n.rows n.moves n.doubt → IsBetween tells q.at q.limbo q.slots n → Stands tells q n
stands_after tells p m s q n carries sound limbo pins rows doubt ready store = record {
  sound = sound;
  rule = record { granularity = ap (λ (r : Rule). r.granularity) carries.rule ∙ (s.rule.granularity ∙ sym carries.granularity); headers = subst (λ (r : Rule). TellsHeaders r) (sym carries.rule) s.rule.headers };
  limbo = limbo;
  settings = subst (λ (r : Rule). HasSettings q.at q.config r) (sym carries.rule) (subst (λ (config : ConfigState). HasSettings q.at config m.rule) (sym carries.config) (settings_kept p.at q.at p.config m.rule carries.granularity s.settings));
  pins = pins;
  faults = carries.faults;
  doors = carries.own_doors ∙ (s.doors ∙ sym carries.doors);
  rows = rows;
  doubt = doubt;
  ready = ready;
  store = store;
}

-- what is true of an archive is so where limbo and the pins are the same
pub with_same : (P : Parts → Type 0) (p : Parts) (limbo : List Retired) (pinned : FinMap nat_cmp PinOf) → limbo ≡ p.limbo → pinned ≡ p.pinned → P p → P (record p { limbo = limbo; pinned = pinned })
with_same P p limbo pinned same_limbo same_pins is =
    subst (λ (q : FinMap nat_cmp PinOf). P (record p { limbo = limbo; pinned = q })) (sym same_pins) (subst (λ (l : List Retired). P (record p { limbo = l })) (sym same_limbo) is)

-- WHAT A CALL OF THE STORES KEEPS THAT LEAVES LIMBO AS IT IS

-- whatever was shown is so still, and limbo stays whole
pub record KeepsLimbo (tells : Bool) (old new : SeenAll) : Type 0 where
  pub shown : KeepsShown tells old new
  pub whole : KeepsWhole tells old new

pub limbo_of_frame : (tells : Bool) (old new : SeenAll) → Frame tells old new → KeepsLimbo tells old new
limbo_of_frame tells old new frame = record { shown = frame.shown; whole = frame.whole }

-- with limbo as it was
pub frame_with : (tells : Bool) (all : SeenAll) (at : Seen) (limbo same : List Retired) → limbo ≡ same → Frame tells all (beside at limbo) → Frame tells all (beside at same)
frame_with tells all at limbo same is frame = subst (λ (l : List Retired). Frame tells all (beside at l)) is frame

-- The archive once a doubt is settled.

-- WHAT IS KEPT IN MEMORY ALONE

-- the memory of a row apart from the catalogue
pub record IsKeptOf (tails : List TailState) (i : ℕ) (memory : RowMemory) (r : RowState) : Type 0 where
  pub next : r.next ≡ memory.next
  pub cell : r.cell ≡ cell_in memory.scan
  pub period : period_in memory.scan ≡ period_of r.about.method
  pub tail : r.tail ≡ (tail_at tails i).samples

pub record AreKeptOf (kept : List RowMemory) (tails : List TailState) (rs : List RowState) : Type 0 where
  pub each : (i : ℕ) (r : RowState) → slice_get rs i ≡ Some r → (memory : RowMemory) × (slice_get kept i ≡ Some memory) × IsKeptOf tails i memory r
  pub beyond : (i : ℕ) → length rs ≤ i → (tail_at tails i).samples ≡ []

kept_part : (rows : List Row) (kept : List RowMemory) (ts : List TailState) (rs : List RowState) → AreRowsOf rows kept ts rs → AreKeptOf kept ts rs
kept_part rows kept ts rs are = record {
  each = λ i r here. let old = are.each i r here in (old.memory, old.there, record { next = old.is.next; cell = old.is.cell; period = old.is.period; tail = old.is.tail });
  beyond = are.beyond;
}

-- beside stores that hold what is durable of the rows
rows_of : (told : Bool) (s : Stores) (kept : List RowMemory) (ts : List TailState) (rs : List RowState) → AreKeptOf kept ts rs → AreDurable told s (map kept_of rs) → AreRowsOf s.rows kept ts rs
rows_of told s kept ts rs are durable = record {
  count = sym (length-map rs kept_of) ∙ durable.count;
  each = λ i r here.
      let old = are.each i r here in
      let new = durable.each i (kept_of r) (kept_to rs i r here) in
      record { row = new.row; memory = old.0; here = new.here; there = old.1; is = record { name = new.is.name; about = new.is.about; state = new.is.state; base = new.is.base; next = old.2.next; cell = old.2.cell; period = old.2.period; tail = old.2.tail } };
  beyond = are.beyond;
}

-- of each row that a change adds the memory is there
abbrev AreReady : Machine → List RowMemory → List TailState → Change → Type 0
AreReady m kept ts c = (j : ℕ) (r : RowState) → slice_get (added c m.rows) j ≡ Some r → (memory : RowMemory) × (slice_get kept (length m.rows + j) ≡ Some memory) × IsKeptOf ts (length m.rows + j) memory r

-- so it is of one that takes samples from this moment on
one_ready : (m : Machine) (kept : List RowMemory) (ts : List TailState) (own : RowState) (about : About) (next : ℕ) → AreKeptOf kept ts m.rows → slice_get kept (length m.rows) ≡ Some (renamed_memory about next) → own.about ≡ about → own.next ≡ next → own.cell ≡ first_cell → own.tail ≡ []
    → (j : ℕ) (r : RowState) → slice_get (own ∷ []) j ≡ Some r → (memory : RowMemory) × (slice_get kept (length m.rows + j) ≡ Some memory) × IsKeptOf ts (length m.rows + j) memory r
one_ready m kept ts own about next are ready about_is next_is cell tail zero r here =
    let plain : length m.rows ≡ length m.rows + 0 = omega arith in
    let none = are.beyond (length m.rows + 0) (omega arith) in
    let is : IsKeptOf ts (length m.rows + 0) (renamed_memory about next) own = record { next = next_is; cell = cell ∙ sampling_cell about.method; period = sampling_period about.method ∙ sym (ap (λ (a : About). period_of a.method) about_is); tail = tail ∙ sym none } in
    (renamed_memory about next, ap (slice_get kept) (sym plain) ∙ ready, subst (λ (q : RowState). IsKeptOf ts (length m.rows + 0) (renamed_memory about next) q) (same_Some own r here) is)
one_ready m kept ts own about next are ready about_is next_is cell tail (suc j) r here = absurd (cc (here))

-- a row was added
kept_added : (m : Machine) (kept : List RowMemory) (ts : List TailState) (name : List ℕ) (about : About) → AreKeptOf kept ts m.rows → slice_get kept (length m.rows) ≡ Some (fresh_memory about) → AreKeptOf kept ts (made [] (AddsRow name about) m).rows
kept_added m kept ts name about are ready = record {
  each = λ i r here. by_row i r (came m.told m.limbo (AddsRow name about) m.rows i r here);
  beyond = λ i high. are.beyond i (let more = more_rows m.told m.limbo (AddsRow name about) m.rows in omega (arith, high, more));
}
  where
    by_row : (i : ℕ) (r : RowState) → Came m.told m.limbo (AddsRow name about) m.rows i r → (memory : RowMemory) × (slice_get kept i ≡ Some memory) × IsKeptOf ts i memory r
    by_row i r (from_row was here made_is) = subst (λ (q : RowState). (memory : RowMemory) × (slice_get kept i ≡ Some memory) × IsKeptOf ts i memory q) (sym made_is) (are.each i was here)
    by_row i r (is_new j at_is here) = subst (λ (k : ℕ). (memory : RowMemory) × (slice_get kept k ≡ Some memory) × IsKeptOf ts k memory r) (sym at_is) (one_ready m kept ts (fresh_row name about) about 0 are ready refl refl refl refl j r here)

cleared_cell : (memory : RowMemory) → first_cell ≡ cell_in (cleared memory).scan
cleared_cell memory = by_scan memory.next memory.scan
  where
    by_scan : (next : ℕ) (o : Option SampledRow) → first_cell ≡ cell_in (cleared (record { next = next; scan = o })).scan
    by_scan next None = refl
    by_scan next (Some sampled) = refl

cleared_period : (memory : RowMemory) → period_in (cleared memory).scan ≡ period_in memory.scan
cleared_period memory = by_scan memory.next memory.scan
  where
    by_scan : (next : ℕ) (o : Option SampledRow) → period_in (cleared (record { next = next; scan = o })).scan ≡ period_in o
    by_scan next None = refl
    by_scan next (Some sampled) = refl

-- a row's state was set, and a row may have been added
kept_cleared : (m : Machine) (kept : List RowMemory) (ts : List TailState) (c : Change) (k : ℕ) (to : State) (memory : RowMemory) → ((i : ℕ) (r : RowState) → changed m.told m.limbo c i r ≡ at k (without_held to) i r) → AreKeptOf kept ts m.rows → slice_get kept k ≡ Some memory → k < length m.rows → AreReady m kept ts c
    → AreKeptOf (slice_set kept k (cleared memory)) ts (made [] c m).rows
kept_cleared m kept ts c k to memory sets are there low ready = record {
  each = λ i r here. by_row i r (came m.told m.limbo c m.rows i r here);
  beyond = λ i high. are.beyond i (let more = more_rows m.told m.limbo c m.rows in omega (arith, high, more));
}
  where
    by_place : (i : ℕ) (was : RowState) → slice_get m.rows i ≡ Some was → (i ≡ k) ⊎ (i ≢ k) → (own : RowMemory) × (slice_get (slice_set kept k (cleared memory)) i ≡ Some own) × IsKeptOf ts i own (at k (without_held to) i was)
    by_place i was here (inl same) =
        let test : (i == k) ≡ true = grind (arith, nat_tests) in
        let old = are.each i was here in
        let is : old.0 ≡ memory = same_Some old.0 memory (sym old.1 ∙ (ap (slice_get kept) same ∙ there)) in
        let set : slice_get (slice_set kept k (cleared memory)) i ≡ Some (cleared memory) = ap (slice_get (slice_set kept k (cleared memory))) same ∙ get_set_same kept k memory (cleared memory) there in
        (cleared memory, set, rw test (record { next = old.2.next ∙ ap (λ (w : RowMemory). w.next) is; cell = cleared_cell memory; period = cleared_period memory ∙ (ap (λ (w : RowMemory). period_in w.scan) (sym is) ∙ old.2.period); tail = old.2.tail }))
    by_place i was here (inr apart) =
        let test : (i == k) ≡ false = grind (arith, nat_tests) in
        let old = are.each i was here in
        (old.0, get_set_other kept k i (cleared memory) apart ∙ old.1, rw test old.2)

    by_row : (i : ℕ) (r : RowState) → Came m.told m.limbo c m.rows i r → (own : RowMemory) × (slice_get (slice_set kept k (cleared memory)) i ≡ Some own) × IsKeptOf ts i own r
    by_row i r (from_row was here made_is) = subst (λ (q : RowState). (own : RowMemory) × (slice_get (slice_set kept k (cleared memory)) i ≡ Some own) × IsKeptOf ts i own q) (sym (made_is ∙ sets i was)) (by_place i was here (same_or_not i k))
    by_row i r (is_new j at_is here) =
        let own = ready j r here in
        subst (λ (n : ℕ). (own : RowMemory) × (slice_get (slice_set kept k (cleared memory)) n ≡ Some own) × IsKeptOf ts n own r) (sym at_is) (own.0, get_set_other kept k (length m.rows + j) (cleared memory) (λ same. omega (arith, same, low)) ∙ own.1, own.2)

-- what a move had copied was listed
kept_listed : (m : Machine) (kept : List RowMemory) (ts : List TailState) (k : ℕ) (store : Store) (copied : List Sample) → AreKeptOf kept ts m.rows → AreKeptOf kept ts (made [] (Publishes k store copied) m).rows
kept_listed m kept ts k store copied are = record {
  each = λ i r here. by_row i r (came m.told m.limbo (Publishes k store copied) m.rows i r here);
  beyond = λ i high. are.beyond i (let more = more_rows m.told m.limbo (Publishes k store copied) m.rows in omega (arith, high, more));
}
  where
    by_row : (i : ℕ) (r : RowState) → Came m.told m.limbo (Publishes k store copied) m.rows i r → (memory : RowMemory) × (slice_get kept i ≡ Some memory) × IsKeptOf ts i memory r
    by_row i r (from_row was here made_is) =
        let old = are.each i was here in
        let same = listed_same m k store copied i was in
        subst (λ (q : RowState). (memory : RowMemory) × (slice_get kept i ≡ Some memory) × IsKeptOf ts i memory q) (sym made_is)
        (old.0, old.1, record { next = same.next ∙ old.2.next; cell = same.cell ∙ old.2.cell; period = old.2.period ∙ sym (ap (λ (a : About). period_of a.method) same.about); tail = same.tail ∙ old.2.tail })
    by_row i r (is_new j at_is here) = absurd (cc (here))

-- the oldest files of a row have left a store
kept_unlisted : (m : Machine) (kept : List RowMemory) (ts : List TailState) (k : ℕ) (store : Store) (to : ℕ) → AreKeptOf kept ts m.rows → AreKeptOf kept ts (made [] (Unlists k store to) m).rows
kept_unlisted m kept ts k store to are = record {
  each = λ i r here.
      let came = row_came m k store to i r here in
      let old = are.each i came.0 came.1 in
      let same = unlisted_there m k store to i came.0 in
      subst (λ (q : RowState). (memory : RowMemory) × (slice_get kept i ≡ Some memory) × IsKeptOf ts i memory q) (sym came.2)
      (old.0, old.1, record { next = same.next ∙ old.2.next; cell = same.cell ∙ old.2.cell; period = old.2.period ∙ sym (ap (λ (a : About). period_of a.method) same.about); tail = same.tail ∙ old.2.tail });
  beyond = λ i high. are.beyond i (let more = more_rows m.told m.limbo (Unlists k store to) m.rows in omega (arith, high, more));
}

-- what each row has of a batch that is given up rises in time
kept_flushed : (m : Machine) (kept : List RowMemory) (old new : List TailState) (batch : List RowSamples) → AreKeptOf kept old m.rows → AllByRecursion (IsPartOf (length m.rows)) batch → ((i : ℕ) (r : RowState) → slice_get m.rows i ≡ Some r → IsRising (of_row i batch)) → GivesUp batch old new → AreKeptOf kept new (made [] (Appends batch) m).rows
kept_flushed m kept old new batch are all rising gives = record {
  each = λ i r here. by_row i r (came m.told m.limbo (Appends batch) m.rows i r here);
  beyond = λ i high.
      let more = more_rows m.told m.limbo (Appends batch) m.rows in
      let above : length m.rows ≤ i = omega (arith, high, more) in
      let none = none_beyond (length m.rows) batch i all above in
      gives i (subst (λ (xs : List Sample). IsRising xs) (sym none) tt) ∙ ap (λ (xs : List Sample). since (end_of (of_row i batch)) xs) (are.beyond i above);
}
  where
    by_row : (i : ℕ) (r : RowState) → Came m.told m.limbo (Appends batch) m.rows i r → (memory : RowMemory) × (slice_get kept i ≡ Some memory) × IsKeptOf new i memory r
    by_row i r (from_row was here made_is) =
        let own = are.each i was here in
        let tail : since (end_of (of_row i batch)) was.tail ≡ (tail_at new i).samples = ap (λ (xs : List Sample). since (end_of (of_row i batch)) xs) own.2.tail ∙ sym (gives i (rising i was here)) in
        subst (λ (q : RowState). (memory : RowMemory) × (slice_get kept i ≡ Some memory) × IsKeptOf new i memory q) (sym made_is) (own.0, own.1, record { next = own.2.next; cell = own.2.cell; period = own.2.period; tail = tail })
    by_row i r (is_new j at_is here) = absurd (cc (here))

-- what a change that was made does to the tails
abbrev pub Takes : Change → List TailState → List TailState → Type 0
Takes (AddsRow name about) old new = new ≡ old
Takes (SetsState k to) old new = new ≡ old
Takes (Renames k name) old new = new ≡ old
Takes (Appends batch) old new = GivesUp batch old new
Takes (Publishes i store copied) old new = new ≡ old
Takes (Unlists i store to) old new = ⊥

-- the row whose state a change sets, with that state
abbrev sets : Option Change → Option (ℕ × State)
sets None = None
sets (Some (AddsRow name about)) = None
sets (Some (SetsState k to)) = Some (k, to)
sets (Some (Renames k name)) = Some (k, RetiredState)
sets (Some (Appends batch)) = None
sets (Some (Publishes i store copied)) = None
sets (Some (Unlists i store to)) = None

-- the archive keeps the same of it
set_same : (o : Option Doubt) (d : Option Change) → IsDoubtOf o d → set_by o ≡ sets d
set_same None None doubt = refl
set_same None (Some (AddsRow name about)) doubt = absurd doubt
set_same None (Some (SetsState k to)) doubt = absurd doubt
set_same None (Some (Renames k name)) doubt = absurd doubt
set_same None (Some (Appends batch)) doubt = absurd doubt
set_same None (Some (Publishes i store copied)) doubt = absurd doubt
set_same None (Some (Unlists i store to)) doubt = refl
set_same (Some own) None doubt = absurd doubt
set_same (Some kind.Row) (Some c) (name, about, is) = ap (λ (x : Change). sets (Some x)) (sym is)
set_same (Some (kind.State row to)) (Some c) is = ap (λ (x : Change). sets (Some x)) (sym is)
set_same (Some (kind.Rename old)) (Some c) (name, is) = ap (λ (x : Change). sets (Some x)) (sym is)
set_same (Some (kind.Flush ends)) (Some c) (batch, is, are) = ap (λ (x : Change). sets (Some x)) (sym is)
set_same (Some kind.Published) (Some c) (row, store, copied, is) = ap (λ (x : Change). sets (Some x)) (sym is)

-- THE SETTLED ARCHIVE

-- the stores grew from what the memory lists, limbo is whole beside them, and moves go on beside them
pub record GrewFrom (tells : Bool) (at new : Seen) (retired : List Retired) (slots : List (Option (Running Moving))) (told : Bool) (rows : List RowState) (limbo : List RowFile) (running : FinMap nat_cmp MoveState) (after : Stores) : Type 0 where
  pub from : Stores
  pub known : IsKnown at.catalogue at.manifests from
  pub disk : IsTrue after.stands → IsTrue tells
  pub grow : StoresGrow running from after
  pub whole : (i : ℕ) → i < 3 → (files : List Filed) × AreWhole i tells new retired after.stands files
  pub moves : (then : List RowState) (left : List RowFile) → SameLater (HasRunning running) rows then limbo left → AreMovesOf tells (beside new retired) told then left after running slots

-- the memory lists what was before a doubt
pub open_known : {limbo : List Retired} (tells : Bool) (at : Seen) (before : Stores) (m : Machine) → Has tells at before ⊎ InDoubt tells at limbo before m → IsKnown at.catalogue at.manifests before
open_known {limbo} tells at before m (inl has) = has.known
open_known {limbo} tells at before m (inr d) = d.doubts.known

-- the rows in memory are those from before a doubt
pub open_rows : {limbo : List Retired} (tells : Bool) (at : Seen) (before : Stores) (m : Machine) → Has tells at before ⊎ InDoubt tells at limbo before m → at.catalogue.rows ≡ before.rows
open_rows {limbo} tells at before m (inl has) = has.known.rows
open_rows {limbo} tells at before m (inr d) = d.doubts.known.rows

-- so they do from what was before a doubt
pub grew : (tells : Bool) (p : Parts) (m : Machine) (s : Stands tells p m) (new : Seen) → granularities new.manifests ≡ granularities p.at.manifests → Frame tells (beside p.at p.limbo) (beside new p.limbo) → (after : Stores) → after.stands ≡ s.store.before.stands → StoresGrow m.moves s.store.before after → GrewFrom tells p.at new p.limbo p.slots m.told m.rows m.limbo m.moves after
grew tells p m s new same_g keeps after stand grow =
    let stands_now = told_stands tells m.told s.store.before.stands s.store.told in
    record {
      from = s.store.before;
      known = open_known tells p.at s.store.before m s.store.is_open;
      disk = λ stands. s.store.disk (subst IsTrue stand stands);
      grow = grow;
      whole = λ i low.
          let was = s.store.whole i low in
          let whole = keeps.whole i s.store.before.stands was.0 low was.1 in
          (whole.0, subst (λ (b : Bool). AreWhole i tells new p.limbo b whole.0) (sym stand) whole.1);
      moves = λ rows left same. moves_stay tells (beside p.at p.limbo) (beside new p.limbo) m.told m.rows rows m.limbo left s.store.before after same_g stands_now m.moves p.slots (λ n move running here there is.
          let place = index_of (next_store move.store) in
          let runs : HasRunning m.moves move.row = (n, move, here, refl) in
          let end = end_of (samples_in move.row s.store.before) in
          record {
            goes = grow.beside place move.row runs (next_low move.store) (next_high move.store);
            on = source_on m.told s.store.before.stands (reach place is.files s.store.before running.moving move.stage) end (files_in move.row (list_at (index_of move.store) s.store.before)) (files_in move.row (list_at (index_of move.store) after))
                (λ told. (reach_ends tells (beside p.at p.limbo) m s.store.before s.sound s.store.holds told n move here running is, source_ends tells (beside p.at p.limbo) m s.store.before s.sound s.store.holds told n move here running is)) (grow.sources (index_of move.store) move.row runs (index_low move.store));
            puts = λ on copying. same_put (HasRunning m.moves) m.rows rows m.limbo left same move runs (s.sound.each_move n move here).here;
            leaves = leaves_ahead tells (beside p.at p.limbo) (beside new p.limbo) s.store.before move.store is.files keeps.leaves;
          }) s.store.moves;
    }

-- where the stores stay, so do the moves
pub moves_kept : (tells : Bool) (p : Parts) (m : Machine) (s : Stands tells p m) (new : Seen) → granularities new.manifests ≡ granularities p.at.manifests → Frame tells (beside p.at p.limbo) (beside new p.limbo) → AreMovesOf tells (beside new p.limbo) m.told m.rows m.limbo s.store.before m.moves p.slots
moves_kept tells p m s new same_g keeps = (grew tells p m s new same_g keeps s.store.before refl (same_grow m.moves s.store.before)).moves m.rows m.limbo (same_later (HasRunning m.moves) m.rows m.limbo)

-- the archive after the settling: other stores, memory and tails, and no doubt
abbrev pub settled_parts : Parts → Seen → List RowMemory → List TailState → Parts
settled_parts p at kept tails = record { at = at; limbo = p.limbo; pinned = p.pinned; tails = tails; kept = kept; doubt = None; doors = p.doors; config = p.config; slots = p.slots }

module _ (tells : Bool) (p : Parts) (m : Machine) (s : Stands tells p m) (new : Seen) (kept : List RowMemory) (same_g : granularities new.manifests ≡ granularities p.at.manifests) (shown : Frame tells (beside p.at p.limbo) (beside new p.limbo)) where
  -- what is left to show of the machine that the archive comes to
  pub record Reaches (tails : List TailState) (mid : Machine) (held : Stores) : Type 0 where
    pub settles : Settles m mid
    pub has : Has tells new held
    pub told : mid.told ≡ (tells && held.stands)
    pub disk : IsTrue held.stands → IsTrue tells
    pub same_told : mid.told ≡ m.told
    pub names : KeepsNames m.rows mid.rows
    pub holds : HoldsDurable held mid
    pub whole : (i : ℕ) → i < 3 → (files : List Filed) × AreWhole i tells new p.limbo held.stands files
    pub memory : AreKeptOf kept tails mid.rows
    pub rule : mid.rule ≡ m.rule
    pub limbo : IsLimboOf tells (beside new p.limbo) mid.told mid.rows mid.limbo
    pub pins : mid.pins ≡ m.pins
    pub moves : AreMovesOf tells (beside new p.limbo) mid.told mid.rows mid.limbo held mid.moves p.slots
    pub doors : mid.doors ≡ m.doors

  -- and the stores have then what was reached
  pub rests_at : (tails : List TailState) (mid : Machine) (held : Stores) → Reaches tails mid held → (r : Rests tells (settled_parts p new kept tails) (record mid { faults = new.faults })) × (r.stands.store.before ≡ held)
  rests_at tails mid held r = (
    record {
      stands = stands_after tells p m s (settled_parts p new kept tails) (record mid { faults = new.faults }) (record { config = refl; doors = refl; rule = r.rule; own_doors = r.doors; faults = refl; granularity = same_g }) (settled_sound r.settles s.sound) r.limbo own_pins
          (subst (λ (rows : List Row). AreRowsOf rows kept tails mid.rows) (sym r.has.known.rows) (rows_of mid.told held kept tails mid.rows r.memory r.holds)) (subst (λ (d : Option Change). IsDoubtOf None d) (sym none) tt) (subst (λ (d : Option Change). IsReady kept mid.rows mid.moves d) (sym none) tt)
          (record { before = held; told = r.told; disk = r.disk; holds = r.holds; whole = r.whole; moves = r.moves; is_open = inl r.has });
      settled = none;
    },
    refl,
  )
    where
      none : mid.doubt ≡ None
      none = settled_none r.settles

      own_pins : ArePinsOf tells (beside new p.limbo) mid.told mid.rows mid.pins p.pinned
      own_pins =
          let stay = pins_stay tells (beside p.at p.limbo) (beside new p.limbo) m.told m.rows mid.rows m.pins p.pinned shown.shown r.names s.pins in
          let told_ones = subst (λ (t : Bool). ArePinsOf tells (beside new p.limbo) t mid.rows m.pins p.pinned) (sym r.same_told) stay in
          subst (λ (pins : FinMap nat_cmp PinState). ArePinsOf tells (beside new p.limbo) mid.told mid.rows pins p.pinned) (sym r.pins) told_ones

  pub rests : (tails : List TailState) (mid : Machine) (held : Stores) → Reaches tails mid held → Rests tells (settled_parts p new kept tails) (record mid { faults = new.faults })
  rests tails mid held r = (rests_at tails mid held r).0

  -- the doubt tells where the rows of a batch end
  doubt_flush : (o : Option Doubt) (d : Option Change) → IsDoubtOf o d → (ends : Vec RowEnd Global) → o ≡ Some (kind.Flush ends) → (batch : List RowSamples) × (d ≡ Some (Appends batch))
  doubt_flush None d doubt ends is = absurd (cc (is))
  doubt_flush (Some kind.Row) d doubt ends is = absurd (cc (is))
  doubt_flush (Some (kind.State row state)) d doubt ends is = absurd (cc (is))
  doubt_flush (Some (kind.Rename old)) d doubt ends is = absurd (cc (is))
  doubt_flush (Some kind.Published) d doubt ends is = absurd (cc (is))
  doubt_flush (Some (kind.Flush own)) None doubt ends is = absurd doubt
  doubt_flush (Some (kind.Flush own)) (Some c) (batch, change, are) ends is = (batch, ap (λ (x : Change). Some x) change)

  flush_doubt : (o : Option Doubt) (batch : List RowSamples) → IsDoubtOf o (Some (Appends batch)) → (ends : Vec RowEnd Global) × (o ≡ Some (kind.Flush ends)) × (row_ends batch ≡ ends.items)
  flush_doubt None batch doubt = absurd doubt
  flush_doubt (Some kind.Row) batch doubt = absurd (let wrong = doubt.2 in cc (wrong))
  flush_doubt (Some (kind.State row state)) batch doubt = absurd (cc (doubt))
  flush_doubt (Some (kind.Rename old)) batch doubt = absurd (let wrong = doubt.1 in cc (wrong))
  flush_doubt (Some kind.Published) batch doubt = absurd (let wrong = doubt.3 in cc (wrong))
  flush_doubt (Some (kind.Flush own)) batch (other, change, are) = (own, refl, let same : batch ≡ other = cc (change) in ap row_ends same ∙ are)

  same_memory : AreKeptOf p.kept p.tails m.rows
  same_memory = kept_part p.at.catalogue.rows p.kept p.tails m.rows s.rows

  still_grown : GrewFrom tells p.at new p.limbo p.slots m.told m.rows m.limbo m.moves s.store.before
  still_grown = grew tells p m s new same_g shown s.store.before refl (same_grow m.moves s.store.before)

  -- limbo stays the machine's where the change was made in stores that grew
  changed_limbo : (c : Change) → KeepsNames m.rows (made [] c m).rows → (held : Stores) → GrewFrom tells p.at new p.limbo p.slots m.told m.rows m.limbo m.moves held → m.told ≡ (tells && held.stands) → HoldsDurable held (made [] c m) → Has tells new held → IsLimboOf tells (beside new p.limbo) m.told (made [] c m).rows (made [] c m).limbo
  changed_limbo c names held grow told holds has = limbo_changed tells p.at new p.limbo m grow.from held grow.known has grow.grow (told_stands tells m.told held.stands told) same_g s.rule shown.shown s.limbo c names holds

  -- and where it was not
  still_limbo : (held : Stores) → GrewFrom tells p.at new p.limbo p.slots m.told m.rows m.limbo m.moves held → m.told ≡ (tells && held.stands) → HoldsDurable held m → Has tells new held → IsLimboOf tells (beside new p.limbo) m.told m.rows m.limbo
  still_limbo held grow told holds has = limbo_held tells p.at new p.limbo m grow.from held grow.known has grow.grow (told_stands tells m.told held.stands told) same_g s.rule shown.shown s.limbo s.sound holds

  -- it was not made: no row has the doubted state
  not_made : (tails : List TailState) → tails ≡ p.tails → IsCleared s.store.before.rows p.doubt p.kept kept → Has tells new s.store.before → (mid : Machine) × Reaches tails mid s.store.before
  not_made tails same_tails memory has = by_doubt m.doubt refl
    where
      -- the row has another state than the doubted one
      other : (d : Option Change) → m.doubt ≡ d → (k : ℕ) (to : State) → sets d ≡ Some (k, to) → (r : RowState) × (slice_get m.rows k ≡ Some r) × (r.state ≢ to)
      other None is k to set = absurd (cc (set))
      other (Some (AddsRow name about)) is k to set = absurd (cc (set))
      other (Some (SetsState i state)) is k to set =
          let ready = subst (λ (d : Option Change). IsReady p.kept m.rows m.moves d) is s.ready in
          let own = same_Some (i, state) (k, to) set in
          let row : i ≡ k = ap (λ (x : ℕ × State). x.0) own in
          let same : state ≡ to = ap (λ (x : ℕ × State). x.1) own in
          (ready.0, ap (slice_get m.rows) (sym row) ∙ ready.1, λ is. ready.2 (is ∙ sym same))
      other (Some (Renames i name)) is k to set =
          let ready = subst (λ (d : Option Change). IsReady p.kept m.rows m.moves d) is s.ready in
          let own = same_Some (i, RetiredState) (k, to) set in
          let row : i ≡ k = ap (λ (x : ℕ × State). x.0) own in
          let same : RetiredState ≡ to = ap (λ (x : ℕ × State). x.1) own in
          let paused = (s.sound.doubted (Renames i name) is).0.paused ready.0 ready.1 in
          (ready.0, ap (slice_get m.rows) (sym row) ∙ ready.1, λ is. cc (is, same, paused))
      other (Some (Appends batch)) is k to set = absurd (cc (set))
      other (Some (Publishes i store copied)) is k to set = absurd (cc (set))
      other (Some (Unlists i store until)) is k to set = absurd (cc (set))

      unset : (k : ℕ) (to : State) → set_by p.doubt ≡ Some (k, to) → HasState s.store.before.rows k to → ⊥
      unset k to is has_it =
          let r = other m.doubt refl k to (sym (set_same p.doubt m.doubt s.doubt) ∙ is) in
          let at = s.store.holds.each k (kept_of r.0) (kept_to m.rows k r.0 r.1) in
          let same : at.row ≡ has_it.row = same_Some at.row has_it.row (sym at.here ∙ has_it.here) in
          r.2 (at.is.state ∙ (ap (λ (w : Row). w.state) same ∙ has_it.is))

      same : kept ≡ p.kept
      same = memory.other unset

      stays : AreKeptOf kept tails m.rows
      stays = subst (λ (ts : List TailState). AreKeptOf kept ts m.rows) (sym same_tails) (subst (λ (ks : List RowMemory). AreKeptOf ks p.tails m.rows) (sym same) same_memory)

      by_doubt : (d : Option Change) → m.doubt ≡ d → (mid : Machine) × Reaches tails mid s.store.before
      by_doubt None is = (m, record { settles = no_doubt is; has = has; told = s.store.told; disk = still_grown.disk; same_told = refl; names = names_stay m.rows; holds = s.store.holds; whole = still_grown.whole; memory = stays; rule = refl; limbo = still_limbo s.store.before still_grown s.store.told s.store.holds has; pins = refl; moves = still_grown.moves m.rows m.limbo (same_later (HasRunning m.moves) m.rows m.limbo); doors = refl })
      by_doubt (Some c) is = (record m { doubt = None }, record { settles = as_not_made c is; has = has; told = s.store.told; disk = still_grown.disk; same_told = refl; names = names_stay m.rows; holds = s.store.holds; whole = still_grown.whole; memory = stays; rule = refl; limbo = still_limbo s.store.before still_grown s.store.told s.store.holds has; pins = refl; moves = still_grown.moves m.rows m.limbo (same_later (HasRunning m.moves) m.rows m.limbo); doors = refl })

  told_after : (after : Stores) → after.stands ≡ s.store.before.stands → m.told ≡ (tells && after.stands)
  told_after after stand = s.store.told ∙ ap (λ (b : Bool). tells && b) (sym stand)

  -- the machine with its doubted change made
  abbrev pub with_change : Change → Machine
  with_change c = record (made [] c m) { doubt = None }

  -- so it is reached, where no file goes to limbo for it
  reaches : (c : Change) → m.doubt ≡ Some c → Retires m c [] → IsEarly (HasRunning m.moves) c → ((i : ℕ) (r : RowState) → (changed m.told m.limbo c i r).name ≡ r.name) → (after : Stores) → GrewFrom tells p.at new p.limbo p.slots m.told m.rows m.limbo m.moves after → m.told ≡ (tells && after.stands) → HoldsDurable after (made [] c m) → Has tells new after
      → (tails : List TailState) → AreKeptOf kept tails (made [] c m).rows → Reaches tails (with_change c) after
  reaches c is retires early named after grow told holds has tails memory =
      let names = names_made m c named in
      record {
        settles = as_made c [] is retires;
        has = has;
        told = told;
        disk = grow.disk;
        same_told = refl;
        names = names;
        holds = holds;
        whole = grow.whole;
        memory = memory;
        rule = refl;
        limbo = changed_limbo c names after grow told holds has;
        pins = refl;
        moves = grow.moves (made [] c m).rows (made [] c m).limbo (same_made (HasRunning m.moves) m c s.sound early);
        doors = refl;
      }

  -- where the doubted change sets no state, what is kept of rows stays
  same_kept : (c : Change) (rows : List Row) → m.doubt ≡ Some c → sets (Some c) ≡ None → IsCleared rows p.doubt p.kept kept → kept ≡ p.kept
  same_kept c rows is none memory = memory.other (λ k to set has_it. let own = sym (set_same p.doubt m.doubt s.doubt) ∙ set in let other = ap sets is ∙ none in absurd (cc (own, other)))

  stays_kept : (c : Change) (rows : List Row) → m.doubt ≡ Some c → sets (Some c) ≡ None → IsCleared rows p.doubt p.kept kept → (tails : List TailState) → AreKeptOf p.kept tails (made [] c m).rows → AreKeptOf kept tails (made [] c m).rows
  stays_kept c rows is none memory tails are = subst (λ (ks : List RowMemory). AreKeptOf ks tails (made [] c m).rows) (sym (same_kept c rows is none memory)) are

  -- where it sets one, that of the row is cleared
  set_kept : (c : Change) (k : ℕ) (to : State) (r : RowState) (after : Stores) → m.doubt ≡ Some c → sets (Some c) ≡ Some (k, to) → ((i : ℕ) (q : RowState) → changed m.told m.limbo c i q ≡ at k (without_held to) i q) → slice_get m.rows k ≡ Some r → HoldsDurable after (made [] c m) → AreReady m p.kept p.tails c → IsCleared after.rows p.doubt p.kept kept
      → AreKeptOf kept p.tails (made [] c m).rows
  set_kept c k to r after is sets_it changes here holds ready memory =
      subst (λ (ks : List RowMemory). AreKeptOf ks p.tails (made [] c m).rows) (sym (memory.own k to (set_same p.doubt m.doubt s.doubt ∙ (ap sets is ∙ sets_it)) has_it at_row.memory at_row.there))
      (kept_cleared m p.kept p.tails c k to at_row.memory changes same_memory at_row.there (slice_get_within m.rows k r here) ready)
    where
      at_row : IsRowAt p.at.catalogue.rows p.kept p.tails k r
      at_row = s.rows.each k r here

      set_row : RowState
      set_row = changed m.told m.limbo c (0 + k) r

      set_here : slice_get (made [] c m).rows k ≡ Some set_row
      set_here = get_front (each (changed m.told m.limbo c) 0 m.rows) (added c m.rows) k set_row (each_forward (changed m.told m.limbo c) 0 m.rows k r here)

      set_state : set_row.state ≡ to
      set_state = let test : (0 + k == k) ≡ true = grind (arith, nat_tests) in ap (λ (q : RowState). q.state) (changes (0 + k) r) ∙ (rw test refl)

      has_it : HasState after.rows k to
      has_it = let durable = holds.each k (kept_of set_row) (kept_to (made [] c m).rows k set_row set_here) in record { row = durable.row; here = durable.here; is = sym durable.is.state ∙ set_state }

  -- the doubted batch was appended
  made_batch : (batch : List RowSamples) → m.doubt ≡ Some (Appends batch) → (after : Stores) → GrewFrom tells p.at new p.limbo p.slots m.told m.rows m.limbo m.moves after → m.told ≡ (tells && after.stands) → HoldsDurable after (made [] (Appends batch) m) → IsCleared after.rows p.doubt p.kept kept → (tails : List TailState) → GivesUp batch p.tails tails → Has tells new after → Reaches tails (with_change (Appends batch)) after
  made_batch batch is after grow told holds memory tails gives has =
      let ready : AllByRecursion (IsPartOf (length m.rows)) batch = subst (λ (d : Option Change). IsReady p.kept m.rows m.moves d) is s.ready in
      let may = (s.sound.doubted (Appends batch) is).0 in
      let own_rows = kept_flushed m p.kept p.tails tails batch same_memory ready (λ i r here. RisesFrom-lower 0 (end_of r.short) (of_row i batch) (taken_later m batch i r s.sound may here) (omega arith)) gives in
      reaches (Appends batch) is refl tt (λ i r. refl) after grow told holds has tails (stays_kept (Appends batch) after.rows is refl memory tails own_rows)

  -- stores that grew
  grown : (after : Stores) → after.stands ≡ s.store.before.stands → StoresGrow m.moves s.store.before after → GrewFrom tells p.at new p.limbo p.slots m.told m.rows m.limbo m.moves after
  grown after stand grow = grew tells p m s new same_g shown after stand grow

  -- the machine with its doubted change made and these files in limbo
  abbrev with_files : List RowFile → Change → Machine
  with_files into c = record (made into c m) { doubt = None }

  -- the doubted parts have left, and all of them are in limbo
  unlisted_settles : (i : ℕ) (store : Store) (to : ℕ) → m.doubt ≡ Some (Unlists i store to) → (after : Stores) → after.stands ≡ s.store.before.stands → IsRetiring tells (beside p.at p.limbo) m.told m.rows s.store.before after i store to → HoldsDurable after (made [] (Unlists i store to) m) → Has tells new after
      → SettlesRetired tells (beside new p.limbo) m i store to
  unlisted_settles i store to is after stand go holds has =
      let may = (s.sound.doubted (Unlists i store to) is).0 in
      settled_retired tells p.at new p.limbo m s.sound s.store.before after (open_known tells p.at s.store.before m s.store.is_open) s.store.holds s.rule (told_stands tells m.told s.store.before.stands s.store.told) s.limbo i store may.moves may.here to go has holds same_g shown.shown

  made_unlisted : (i : ℕ) (store : Store) (to : ℕ) (is : m.doubt ≡ Some (Unlists i store to)) (after : Stores) (stand : after.stands ≡ s.store.before.stands) (go : IsRetiring tells (beside p.at p.limbo) m.told m.rows s.store.before after i store to) → m.told ≡ (tells && after.stands) → (holds : HoldsDurable after (made [] (Unlists i store to) m))
      → IsReady p.kept m.rows m.moves (Some (Unlists i store to)) → IsCleared after.rows p.doubt p.kept kept → (has : Has tells new after) → Reaches p.tails (with_files (unlisted_settles i store to is after stand go holds has).into (Unlists i store to)) after
  made_unlisted i store to is after stand go told holds ready memory has =
      let change = Unlists i store to in
      let left = unlisted_settles i store to is after stand go holds has in
      record {
        settles = as_made change left.into is left.retires;
        has = has;
        told = told;
        disk = λ stands. s.store.disk (subst IsTrue stand stands);
        same_told = refl;
        names = names_unlisted m i store to;
        holds = holds;
        whole = λ i low.
            let was = s.store.whole i low in
            let whole = shown.whole i s.store.before.stands was.0 low was.1 in
            (whole.0, subst (λ (b : Bool). AreWhole i tells new p.limbo b whole.0) (sym stand) whole.1);
        memory = stays_kept change after.rows is refl memory p.tails (kept_unlisted m p.kept p.tails i store to same_memory);
        rule = refl;
        limbo = left.limbo;
        pins = refl;
        moves = moves_settled tells p.at new p.limbo m s.sound s.store.before after (told_stands tells m.told s.store.before.stands s.store.told) (open_known tells p.at s.store.before m s.store.is_open) same_g shown.leaves i store to go left.into left.retires (λ n move here own. ready (n, move, here, own)) p.slots s.store.moves;
        doors = refl;
      }

  -- it was made
  made_so : (c : Change) → m.doubt ≡ Some c → (after : Stores) → GrewFrom tells p.at new p.limbo p.slots m.told m.rows m.limbo m.moves after → m.told ≡ (tells && after.stands) → HoldsDurable after (made [] c m) → IsReady p.kept m.rows m.moves (Some c) → IsCleared after.rows p.doubt p.kept kept → (tails : List TailState) → Takes c p.tails tails → Has tells new after → Reaches tails (with_change c) after
  made_so c is after grow told holds ready memory tails takes has = by_change c is holds ready takes
    where
      same_tails : (change : Change) → tails ≡ p.tails → AreKeptOf kept p.tails (made [] change m).rows → AreKeptOf kept tails (made [] change m).rows
      same_tails change same are = subst (λ (ts : List TailState). AreKeptOf kept ts (made [] change m).rows) (sym same) are

      by_change : (c : Change) → m.doubt ≡ Some c → HoldsDurable after (made [] c m) → IsReady p.kept m.rows m.moves (Some c) → Takes c p.tails tails → Reaches tails (with_change c) after
      by_change (AddsRow name about) is holds ready same =
          let change = AddsRow name about in
          reaches change is refl tt (λ i r. refl) after grow told holds has tails (same_tails change same (stays_kept change after.rows is refl memory p.tails (kept_added m p.kept p.tails name about same_memory ready)))
      by_change (SetsState k to) is holds ready same =
          let change = SetsState k to in
          reaches change is refl tt (state_name m k to) after grow told holds has tails (same_tails change same (set_kept change k to ready.0 after is refl (λ i q. refl) ready.1 holds (λ j r here. absurd (cc (here))) memory))
      by_change (Renames k name) is holds ready same =
          let change = Renames k name in
          let own = ready.0 in
          let here = ready.1 in
          let added_is : added change m.rows ≡ renamed_row name k own ∷ [] = rw here refl in
          reaches change is refl tt (state_name m k RetiredState) after grow told holds has tails (same_tails change same (set_kept change k RetiredState own after is refl (λ i q. refl) here holds
          (λ j r there. one_ready m p.kept p.tails (renamed_row name k own) own.about own.next same_memory ready.2 refl refl refl refl j r (ap (λ (rs : List RowState). slice_get rs j) (sym added_is) ∙ there)) memory))
      by_change (Appends batch) is holds ready gives = made_batch batch is after grow told holds memory tails gives has
      by_change (Publishes i store copied) is holds ready same =
          let change = Publishes i store copied in
          reaches change is refl ready (λ k r. (listed_same m i store copied k r).name) after grow told holds has tails (same_tails change same (stays_kept change after.rows is refl memory p.tails (kept_listed m p.kept p.tails i store copied same_memory)))
      by_change (Unlists i store to) is holds ready none = absurd none

  -- once the stores have what is after the doubted change, the archive stands for the machine with it
  pub made_stands : (tails : List TailState) (c : Change) → m.doubt ≡ Some c → (after : Stores) → GrewFrom tells p.at new p.limbo p.slots m.told m.rows m.limbo m.moves after → m.told ≡ (tells && after.stands) → HoldsDurable after (made [] c m) → IsCleared new.catalogue.rows p.doubt p.kept kept → Takes c p.tails tails → Has tells new after → Rests tells (settled_parts p new kept tails) (record (with_change c) { faults = new.faults })
  made_stands tails c is after grow told holds memory takes has =
      let ready : IsReady p.kept m.rows m.moves (Some c) = subst (λ (d : Option Change). IsReady p.kept m.rows m.moves d) is s.ready in
      let rows = subst (λ (rows : List Row). IsCleared rows p.doubt p.kept kept) has.known.rows memory in
      rests tails (with_change c) after (made_so c is after grow told holds ready rows tails takes has)

  -- and they have just that
  pub made_at : (tails : List TailState) (c : Change) → m.doubt ≡ Some c → (after : Stores) → GrewFrom tells p.at new p.limbo p.slots m.told m.rows m.limbo m.moves after → m.told ≡ (tells && after.stands) → HoldsDurable after (made [] c m) → IsCleared new.catalogue.rows p.doubt p.kept kept → Takes c p.tails tails → Has tells new after
      → (r : Rests tells (settled_parts p new kept tails) (record (with_change c) { faults = new.faults })) × (r.stands.store.before ≡ after)
  made_at tails c is after grow told holds memory takes has =
      let ready : IsReady p.kept m.rows m.moves (Some c) = subst (λ (d : Option Change). IsReady p.kept m.rows m.moves d) is s.ready in
      let rows = subst (λ (rows : List Row). IsCleared rows p.doubt p.kept kept) has.known.rows memory in
      rests_at tails (with_change c) after (made_so c is after grow told holds ready rows tails takes has)

  module _ (tails : List TailState) (memory : IsCleared new.catalogue.rows p.doubt p.kept kept) (trims : IsTrimmed new.manifests p.doubt p.tails tails) where
    -- what the archive comes to once its doubt is settled
    abbrev Ends : Type 0
    Ends = (mid : Machine) × Settles m mid × Rests tells (settled_parts p new kept tails) (record mid { faults = new.faults })

    -- the doubted change is no flush
    abbrev IsNoFlush : Type 0
    IsNoFlush = (batch : List RowSamples) → m.doubt ≡ Some (Appends batch) → ⊥

    other_change : (d : Option Change) → m.doubt ≡ d → ((batch : List RowSamples) → d ≡ Some (Appends batch) → ⊥) → IsNoFlush
    other_change d is apart = λ batch flush. apart batch (sym is ∙ flush)

    same_tails : IsNoFlush → tails ≡ p.tails
    same_tails no_flush = trims.other (λ ends is lists. let flush = doubt_flush p.doubt m.doubt s.doubt ends is in no_flush flush.0 flush.1)

    -- A flush stood in doubt: store 1 tells whether it was made.
    flush_ends : (batch : List RowSamples) → m.doubt ≡ Some (Appends batch) → (held : Stores) → GrewFrom tells p.at new p.limbo p.slots m.told m.rows m.limbo m.moves held → Has tells new held → m.told ≡ (tells && held.stands) → HoldsDurable held m ⊎ HoldsDurable held (made [] (Appends batch) m) → Ends
    flush_ends batch is held grow has told holds = elim (lists_or_not new.manifests batch) [
      | inl lists ↦ (
        with_change (Appends batch),
        as_made (Appends batch) [] is refl,
        rests tails (with_change (Appends batch)) held (made_batch batch is held grow told (holds_with tells new m s.sound held has told batch may ready lists holds) rows tails (trims.own own.0 own.1 (subst (λ (es : List RowEnd). ListsEnds new.manifests es) own.2 lists) batch own.2) has),
      )
      | inr lacks ↦ (
        record m { doubt = None },
        as_not_made (Appends batch) is,
        rests tails (record m { doubt = None }) held
            (record { settles = as_not_made (Appends batch) is; has = has; told = told; disk = grow.disk; same_told = refl; names = names_stay m.rows; holds = without lacks; whole = grow.whole; memory = stays lacks; rule = refl; limbo = still_limbo held grow told (without lacks) has; pins = refl; moves = grow.moves m.rows m.limbo (same_later (HasRunning m.moves) m.rows m.limbo); doors = refl }),
      )
    ]
      where
        own : (ends : Vec RowEnd Global) × (p.doubt ≡ Some (kind.Flush ends)) × (row_ends batch ≡ ends.items)
        own = flush_doubt p.doubt batch (subst (λ (d : Option Change). IsDoubtOf p.doubt d) is s.doubt)

        rows : IsCleared held.rows p.doubt p.kept kept
        rows = subst (λ (rows : List Row). IsCleared rows p.doubt p.kept kept) has.known.rows memory

        same : kept ≡ p.kept
        same = same_kept (Appends batch) held.rows is refl rows

        may : MayMake m.rule m.told m.rows m.limbo (Appends batch)
        may = (s.sound.doubted (Appends batch) is).0

        ready : AllByRecursion (IsPartOf (length m.rows)) batch
        ready = subst (λ (d : Option Change). IsReady p.kept m.rows m.moves d) is s.ready

        without : (ListsBatch new.manifests batch → ⊥) → HoldsDurable held m
        without lacks = holds_without tells new m s.sound held has told batch may ready lacks holds

        stays : (ListsBatch new.manifests batch → ⊥) → AreKeptOf kept tails m.rows
        stays lacks =
            let same_ones : tails ≡ p.tails = trims.other (λ ends named lists.
            let one : kind.Flush own.0 ≡ kind.Flush ends = same_Some (kind.Flush own.0) (kind.Flush ends) (sym own.1 ∙ named) in
            let its : own.0 ≡ ends = cc (one) in
            lacks (subst (λ (es : List RowEnd). ListsEnds new.manifests es) (sym (own.2 ∙ ap (λ (v : Vec RowEnd Global). v.items) its)) lists)) in
            subst (λ (ts : List TailState). AreKeptOf kept ts m.rows) (sym same_ones) (subst (λ (ks : List RowMemory). AreKeptOf ks p.tails m.rows) (sym same) same_memory)

    plain_before : IsNoFlush → Has tells new s.store.before → Ends
    plain_before no_flush has =
        let is = not_made tails (same_tails no_flush) (subst (λ (rows : List Row). IsCleared rows p.doubt p.kept kept) has.known.rows memory) has in
        (is.0, is.1.settles, rests tails is.0 s.store.before is.1)

    -- the stores have what was before the doubted change
    as_before : (d : Option Change) → m.doubt ≡ d → Has tells new s.store.before → Ends
    as_before (Some (Appends batch)) is has = flush_ends batch is s.store.before still_grown has s.store.told (inl s.store.holds)
    as_before d is has = plain_before (other_change d is (λ batch wrong. cc (wrong))) has

    -- they have what is after it
    as_after : (c : Change) → m.doubt ≡ Some c → (after : Stores) → after.stands ≡ s.store.before.stands → StoresGo tells (beside p.at p.limbo) m.told m.rows m.moves s.store.before after c → m.told ≡ (tells && after.stands) → HoldsDurable after (made [] c m) → IsReady p.kept m.rows m.moves (Some c) → Has tells new after → Ends
    as_after (Appends batch) is after stand go told holds ready has = flush_ends batch is after (grown after stand go) has told (inr holds)
    as_after (Unlists i store to) is after stand go told holds ready has =
        let change = Unlists i store to in
        let left = unlisted_settles i store to is after stand go holds has in
        let rows = subst (λ (rows : List Row). IsCleared rows p.doubt p.kept kept) has.known.rows memory in
        let same = same_tails (other_change (Some change) is (λ batch wrong. cc (wrong))) in (
          with_files left.into change,
          as_made change left.into is left.retires,
          rests tails (with_files left.into change) after (subst (λ (ts : List TailState). Reaches ts (with_files left.into change) after) (sym same) (made_unlisted i store to is after stand go told holds ready rows has)),
        )
    as_after c is after stand go told holds ready has = (with_change c, as_made c [] is refl, made_stands tails c is after (grown after stand go) told holds memory (same_tails (other_change (Some c) is (λ batch wrong. cc (wrong)))) has)

    -- once the stores have settled their doubt, so has the archive
    pub settled_ends : ((before after : Stores) → IsOpen tells p.at before after → HasEither tells new before after) → Ends
    settled_ends settled = by_open s.store.is_open
      where
        by_open : Has tells p.at s.store.before ⊎ InDoubt tells p.at p.limbo s.store.before m → Ends
        by_open (inl was) = elim (settled s.store.before s.store.before (inl was)) [
          | inl has ↦ as_before m.doubt refl has
          | inr has ↦ as_before m.doubt refl has
        ]
        by_open (inr d) = elim (settled s.store.before d.after (inr d.doubts)) [
          | inl has ↦ as_before m.doubt refl has
          | inr has ↦ as_after d.change d.is d.after d.stand d.go (told_after d.after d.stand) d.holds (subst (λ (o : Option Change). IsReady p.kept m.rows m.moves o) d.is s.ready) has
        ]

-- WHERE A DOUBT STANDS, OR NONE

-- the archive stands for a machine with this doubt, where the stores are as much those of it
pub doubt_beside : (tells : Bool) (p : Parts) (m : Machine) (s : Stands tells p m) (new : Seen) (kept : List RowMemory) (d : Option Doubt) (c : Option Change) → granularities new.manifests ≡ granularities p.at.manifests → KeepsLimbo tells (beside p.at p.limbo) (beside new p.limbo)
    → AreMovesOf tells (beside new p.limbo) m.told m.rows m.limbo s.store.before m.moves p.slots → IsSound (record m { doubt = c }) → AreRowsOf p.at.catalogue.rows kept p.tails m.rows → IsDoubtOf d c → IsReady kept m.rows m.moves c
    → Has tells new s.store.before ⊎ InDoubt tells new p.limbo s.store.before (record m { doubt = c; faults = new.faults }) → Stands tells (record p { at = new; kept = kept; doubt = d }) (record m { doubt = c; faults = new.faults })
doubt_beside tells p m s new kept d c same_g shown moves sound rows doubt ready is_open =
    stands_after tells p m s (record p { at = new; kept = kept; doubt = d }) (record m { doubt = c; faults = new.faults }) (record { config = refl; doors = refl; rule = refl; own_doors = refl; faults = refl; granularity = same_g }) sound
    (limbo_beside tells p.at new p.limbo s.store.before m.told m.rows m.limbo (open_known tells p.at s.store.before m s.store.is_open) (open_known tells new s.store.before (record m { doubt = c; faults = new.faults }) is_open) same_g shown.shown s.limbo)
    (pins_stay tells (beside p.at p.limbo) (beside new p.limbo) m.told m.rows m.rows m.pins p.pinned shown.shown (names_stay m.rows) s.pins)
    (subst (λ (rows : List Row). AreRowsOf rows kept p.tails m.rows) (open_rows tells p.at s.store.before m s.store.is_open ∙ sym (open_rows tells new s.store.before (record m { doubt = c; faults = new.faults }) is_open)) rows)
    doubt ready (record { before = s.store.before; told = s.store.told; disk = s.store.disk; holds = s.store.holds; whole = λ i low. (let was = s.store.whole i low in shown.whole i s.store.before.stands was.0 low was.1); moves = moves; is_open = is_open })

pub doubt_stands : (tells : Bool) (p : Parts) (m : Machine) (s : Stands tells p m) (new : Seen) (kept : List RowMemory) (d : Option Doubt) (c : Option Change) → granularities new.manifests ≡ granularities p.at.manifests → Frame tells (beside p.at p.limbo) (beside new p.limbo) → IsSound (record m { doubt = c }) → AreRowsOf p.at.catalogue.rows kept p.tails m.rows → IsDoubtOf d c → IsReady kept m.rows m.moves c
    → Has tells new s.store.before ⊎ InDoubt tells new p.limbo s.store.before (record m { doubt = c; faults = new.faults }) → Stands tells (record p { at = new; kept = kept; doubt = d }) (record m { doubt = c; faults = new.faults })
doubt_stands tells p m s new kept d c same_g keeps sound rows doubt ready is_open = doubt_beside tells p m s new kept d c same_g (limbo_of_frame tells (beside p.at p.limbo) (beside new p.limbo) keeps) (moves_kept tells p m s new same_g keeps) sound rows doubt ready is_open

-- the doubt stands as it stood, since the stores couldn't settle it
pub still_doubted : (tells : Bool) (p : Parts) (m : Machine) (new : Seen) → Stands tells p m → (IsSettled p.at → ⊥) → ((before after : Stores) → IsOpen tells p.at before after → IsOpen tells new before after) → granularities new.manifests ≡ granularities p.at.manifests → Frame tells (beside p.at p.limbo) (beside new p.limbo) → Stands tells (record p { at = new }) (record m { faults = new.faults })
still_doubted tells p m new s doubted still same_g shown = doubt_stands tells p m s new p.kept p.doubt m.doubt same_g shown s.sound s.rows s.doubt s.ready (by_open s.store.is_open)
  where
    by_open : Has tells p.at s.store.before ⊎ InDoubt tells p.at p.limbo s.store.before m → Has tells new s.store.before ⊎ InDoubt tells new p.limbo s.store.before (record m { faults = new.faults })
    by_open (inl has) = absurd (doubted has.settled)
    by_open (inr d) = elim (still s.store.before d.after (inr d.doubts)) [
      | inl has ↦ inl has
      | inr doubts ↦ inr (record { change = d.change; is = d.is; after = d.after; doubts = doubts; stand = d.stand; go = go_beside tells p.at new p.limbo m.told m.rows m.moves s.store.before d.after d.doubts.known doubts.known same_g shown.shown d.change d.go; holds = d.holds })
    ]

-- where nothing stands in doubt, the stores have what is durable
pub rests_has : (tells : Bool) (p : Parts) (m : Machine) (r : Rests tells p m) → Has tells p.at r.stands.store.before
rests_has tells p m r = by_open r.stands.store.is_open
  where
    by_open : Has tells p.at r.stands.store.before ⊎ InDoubt tells p.at p.limbo r.stands.store.before m → Has tells p.at r.stands.store.before
    by_open (inl has) = has
    by_open (inr d) = absurd (let none = r.settled in let some = d.is in let both : ◌≡◌ {A = Option Change} None (Some d.change) = sym none ∙ some in cc (both))

-- what the stores stand open between
pub begun : (tells : Bool) (p : Parts) (m : Machine) → Stands tells p m → (before : Stores) × (after : Stores) × IsOpen tells p.at before after
begun tells p m s = by_open s.store.is_open
  where
    by_open : Has tells p.at s.store.before ⊎ InDoubt tells p.at p.limbo s.store.before m → (before : Stores) × (after : Stores) × IsOpen tells p.at before after
    by_open (inl has) = (s.store.before, s.store.before, inl has)
    by_open (inr d) = (s.store.before, d.after, inr d.doubts)

-- where the machine doubts nothing, nor does the archive
pub no_own : (o : Option Doubt) → IsDoubtOf o None → o ≡ None
no_own None is = refl
no_own (Some d) is = absurd is
