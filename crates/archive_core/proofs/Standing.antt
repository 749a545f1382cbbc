-- The archive stands for the next machine where a row changes in memory, as by offers and ticks.
use Rattle.std.proofs.Common.{◌≡◌, ◌⊎◌, inl, inr, ℕ, ◌+◌, ◌<◌, List, length, map, Bool, true, false, Option, Some, None, refl, sym, ◌∙◌, ap, subst, arith, ◌≢◌, ◌∷◌, ◌++◌, ◌≤◌}
use Rattle.std.specs.Prelude.{slice_get, slice_set, ◌==◌}
use Rattle.std.proofs.lemmas.Bool.Decides.{nat_tests}
use Rattle.intake.specs.Tails.{TailState, tail_at}
use Rattle.pv_catalog.specs.declared.row.Row.{Row}
use Rattle.act_model.specs.Rows.{RowState, is_running, next_store, standing, number_of, period_of}
use Rattle.act_model.specs.Machine.{Machine, MoveState, PinState, Change, AddsRow, SetsState, Renames, Appends, Publishes, Unlists, find_row}
use Rattle.act_model.specs.Changes.{at, with_rows, each}
use Rattle.intake_half.specs.declared.memory.RowMemory.{RowMemory}
use Rattle.archive_core.specs.Memory.{IsRowOf}
use Rattle.intake_half.specs.Memory.{cell_in}
use Rattle.archive_core.specs.Parts.{Parts}
use Rattle.archive_core.specs.Stands.{Stands, IsPartOf, IsReady, InDoubt, IsBetween, AreDurable}
use Rattle.std.specs.FinMap.{FinMap}
use Rattle.std.specs.List.{AllByRecursion}
use Rattle.std.specs.Ordering.{nat_cmp}
use Rattle.std.proofs.lemmas.Option.{slice_get_within}
use Rattle.pb_messages.specs.declared.about.State.TheVariants.{Paused}
use Rattle.pins.specs.Pieces.{PinOf}
use Rattle.act_model.specs.Crash.{DurableRow, kept_of}
use Rattle.act_model.specs.Sound.{IsSound, IsHeld, LinesSound}
use Rattle.act_model.proofs.Rows.{each_forward, length-each}
use Rattle.archive_core.specs.Growing.{HasRunning}
use Rattle.archive_core.specs.Pins.{ArePinsOf}
use Rattle.archive_core.proofs.Lists.{same_or_not, set_same}
use Rattle.archive_core.proofs.KeptRows.{rows_at, rows_spared, held_is}
use Rattle.archive_core.proofs.Windows.{alike_at, kept_each, made_alike, count_of}
use Rattle.archive_core.proofs.LimboTying.{limbo_rows, bare_each, tier_kept, KeepsNames, pins_stay, names_at}
use Rattle.archive_core.proofs.Batches.{told_stands}
use Rattle.archive_core.proofs.MovesKept.{SameLater, moves_left}
use Rattle.moves.specs.declared.table.Running.{Running}
use Rattle.tier_store.proofs.RunningMoves.{nothing_leaves}
use Rattle.archive_core.proofs.Settled.{go_named}
use Rattle.tier_store.specs.Pinned.{beside}
use Rattle.tier_store.specs.Change.{Has}
use Rattle.tier_store.specs.Seen.{Seen}
use Rattle.tier_store.specs.declared.limbo.Retired.{Retired}
use Rattle.durable_write.proofs.Staying.{get_set_other}
use Rattle.pb_wire.specs.declared.payload.PayloadType.{PayloadType}
use Rattle.series_model.specs.declared.sample.Sample.{Sample}
use Rattle.series_model.specs.Sampling.{Cell}
use Rattle.intake.specs.Row.{SampledRow, after}
use Rattle.intake_half.proofs.Ending.{IsRowIn, LeavesRow, SameOthers, TickCase, event_time, leaves_all, leaves_one, offer_ends, tick_ends}
use Rattle.act_model.specs.Event.{IsEvent}
use Rattle.series_model.specs.Admission.{refused_by_row}
use Rattle.series_model.specs.declared.admission.Reason.{Reason}
use Rattle.series_model.specs.declared.admission.Reason.TheVariants.{Unknown}
use Rattle.act_model.specs.declared.acts.Answer.TheVariants.{Dropped, NoRow}
use Rattle.act_model.specs.Offer.{OfferStep, offered_to}
use Rattle.act_model.specs.Outcome.{Ends}
use Rattle.act_model.specs.Reply.{Reply}
use Rattle.act_model.proofs.RowActs.{offer_sound, tick_sound}
use Rattle.act_model.specs.Asks.{offered_reply, ticked_reply}
use Rattle.intake_half.specs.Trying.{IsOffered}
use Rattle.archive_core.specs.Wanting.{WithWants, WouldKeep, WouldTick}
use Rattle.act_model.specs.Tick.{TickStep}
use Rattle.etl_mover.specs.Move.{Moving}
use Rattle.act_model.specs.declared.answers.Offered.{Offered as OfferAnswer}
use Rattle.act_model.specs.declared.answers.Ticked.{Ticked as TickAnswer}

-- An archive stands for the next machine, where a row changes in memory.

pub names_alike : (rows news : List RowState) → map kept_of news ≡ map kept_of rows → KeepsNames rows news
names_alike rows news same = λ i r here. let new = alike_at rows news same i r here in record { row = new.0; here = new.1; name = ap (λ (d : DurableRow). d.name) new.2 }

-- the stores are as much those of the machine with other rows of which the same is durable
pub between_alike : (tells : Bool) (at : Seen) (limbo : List Retired) (slots : List (Option (Running Moving))) (m : Machine) (news : List RowState) (doors : ℕ) → map kept_of news ≡ map kept_of m.rows → IsBetween tells at limbo slots m → IsBetween tells at limbo slots (record m { rows = news; doors = doors })
between_alike tells at limbo slots m news doors same s = record {
  before = s.before;
  told = s.told;
  disk = s.disk;
  holds = subst (λ (ds : List DurableRow). AreDurable m.told s.before ds) (sym same) s.holds;
  whole = s.whole;
  moves = moves_left tells (beside at limbo) (beside at limbo) m.told m.rows news m.limbo m.limbo s.before refl (told_stands tells m.told s.before.stands s.told) m.moves slots later (count_of s.before m s.holds) (nothing_leaves tells (beside at limbo)) s.moves;
  is_open = by_open s.is_open;
}
  where
    later : SameLater (HasRunning m.moves) m.rows news m.limbo m.limbo
    later = record {
      rows_there = λ i store row of low here. let was = alike_at news m.rows (sym same) i row here in (was.0, was.1, tier_kept row was.0 (next_store store) (sym was.2));
      limbo_there = λ i store of. refl;
    }

    by_open : Has tells at s.before ⊎ InDoubt tells at limbo s.before m → Has tells at s.before ⊎ InDoubt tells at limbo s.before (record m { rows = news; doors = doors })
    by_open (inl has) = inl has
    by_open (inr d) = inr (record { change = d.change; is = d.is; after = d.after; doubts = d.doubts; stand = d.stand; go = go_named tells at limbo m.told m.rows news m.moves s.before d.after (names_alike m.rows news same) d.change d.go; holds = subst (λ (ds : List DurableRow). AreDurable m.told d.after ds) (sym (made_alike m news d.change same)) d.holds })

at_stays : (k : ℕ) (f : RowState → RowState) → ((r : RowState) → kept_of (f r) ≡ kept_of r) → (i : ℕ) (r : RowState) → kept_of (at k f i r) ≡ kept_of r
at_stays k f stays i r = by_test (i == k) refl
  where
    by_test : (t : Bool) → (i == k) ≡ t → kept_of (at k f i r) ≡ kept_of r
    by_test true is = rw is (stays r)
    by_test false is = rw is refl

still_ready : (kept : List RowMemory) (rows : List RowState) (i : ℕ) (f : RowState → RowState) (memory : RowMemory) → i < length rows → ((r : RowState) → kept_of (f r) ≡ kept_of r) → (moves : FinMap nat_cmp MoveState) (d : Option Change) → IsReady kept rows moves d → ((k : ℕ) (name : List ℕ) → d ≡ Some (Renames k name) → k ≢ i) → IsReady (slice_set kept i memory) (each (at i f) 0 rows) moves d
still_ready kept rows i f memory low stays moves None ready other = tt
still_ready kept rows i f memory low stays moves (Some (AddsRow name about)) ready other =
    ap (slice_get (slice_set kept i memory)) (length-each (at i f) 0 rows) ∙ (get_set_other kept i (length rows) memory (λ same. omega (arith, low, same)) ∙ ready)
still_ready kept rows i f memory low stays moves (Some (SetsState k state)) ready other =
    let same : (at i f (0 + k) ready.0).state ≡ ready.0.state = ap (λ (d : DurableRow). d.state) (at_stays i f stays (0 + k) ready.0) in
    (at i f (0 + k) ready.0, each_forward (at i f) 0 rows k ready.0 ready.1, λ is. ready.2 (sym same ∙ is))
still_ready kept rows i f memory low stays moves (Some (Renames k name)) ready other =
    let apart : k ≢ i = other k name refl in
    let test : (0 + k == i) ≡ false = grind (arith, nat_tests) in
    let own : at i f (0 + k) ready.0 ≡ ready.0 = rw test refl in (
      ready.0,
      each_forward (at i f) 0 rows k ready.0 ready.1 ∙ ap (λ (r : RowState). Some r) own,
      ap (slice_get (slice_set kept i memory)) (length-each (at i f) 0 rows) ∙ (get_set_other kept i (length rows) memory (λ same. omega (arith, low, same)) ∙ ready.2),
    )
still_ready kept rows i f memory low stays moves (Some (Appends batch)) ready other = subst (λ (n : ℕ). AllByRecursion (IsPartOf n) batch) (sym (length-each (at i f) 0 rows)) ready
still_ready kept rows i f memory low stays moves (Some (Publishes k store copied)) ready other = ready
still_ready kept rows i f memory low stays moves (Some (Unlists k store to)) ready other = ready

-- a row that runs isn't the one of a doubted new name
not_renamed : (m : Machine) (i : ℕ) (r : RowState) → IsSound m → slice_get m.rows i ≡ Some r → is_running r.state ≡ true → (k : ℕ) (name : List ℕ) → m.doubt ≡ Some (Renames k name) → k ≢ i
not_renamed m i r sound there up k name is same = let paused : r.state ≡ Paused = (sound.doubted (Renames k name) is).0.paused r (ap (slice_get m.rows) same ∙ there) in absurd (let off : is_running r.state ≡ false = ap is_running paused in cc (up, off))

-- one row changes that runs, with what is kept of it and its tail
pub row_stands : (tells : Bool) (p : Parts) (m : Machine) → Stands tells p m → (i : ℕ) (f : RowState → RowState) (memory : RowMemory) (new : List TailState) (row : Row) (r : RowState)
    → slice_get p.at.catalogue.rows i ≡ Some row → slice_get m.rows i ≡ Some r → is_running r.state ≡ true → IsRowOf new i row memory (f r) → ((j : ℕ) → j ≢ i → (tail_at new j).samples ≡ (tail_at p.tails j).samples)
    → ((q : RowState) → kept_of (f q) ≡ kept_of q) → IsSound (with_rows m (at i f)) → Stands tells (record p { kept = slice_set p.kept i memory; tails = new }) (with_rows m (at i f))
row_stands tells p m s i f memory new row r here there up is others stays sound = record {
  sound = sound;
  rule = s.rule;
  limbo = limbo_rows tells p.at p.limbo m.told m.rows (each (at i f) 0 m.rows) m.limbo (names_at i f m.rows stays) (λ off. bare_each (at i f) m.rows (at_stays i f stays) (s.limbo.bare off)) s.limbo;
  settings = s.settings;
  pins = pins_stay tells (beside p.at p.limbo) (beside p.at p.limbo) m.told m.rows (each (at i f) 0 m.rows) m.pins p.pinned (λ name bytes shown. shown) (names_at i f m.rows stays) s.pins;
  faults = s.faults;
  doors = s.doors;
  rows = rows_at p.at.catalogue.rows p.kept p.tails new m.rows s.rows i f memory row r here there is others;
  doubt = s.doubt;
  ready = still_ready p.kept m.rows i f memory (slice_get_within m.rows i r there) stays m.moves m.doubt s.ready (not_renamed m i r s.sound there up);
  store = between_alike tells p.at p.limbo p.slots m (each (at i f) 0 m.rows) m.doors (kept_each (at i f) 0 m.rows (at_stays i f stays)) s.store;
}

-- spares change
pub spared_stands : (tells : Bool) (p : Parts) (m : Machine) (new : List TailState) → Stands tells p m → ((j : ℕ) → (tail_at new j).samples ≡ (tail_at p.tails j).samples) → Stands tells (record p { tails = new }) m
spared_stands tells p m new s same = record {
  sound = s.sound;
  rule = s.rule;
  limbo = s.limbo;
  settings = s.settings;
  pins = s.pins;
  faults = s.faults;
  doors = s.doors;
  rows = rows_spared p.at.catalogue.rows p.kept p.tails new m.rows s.rows same;
  doubt = s.doubt;
  ready = s.ready;
  store = s.store;
}

-- a row's memory is set to what it was
pub still_stands : (tells : Bool) (p : Parts) (m : Machine) (new : List TailState) → Stands tells p m → ((j : ℕ) → (tail_at new j).samples ≡ (tail_at p.tails j).samples) → (i : ℕ) (memory set : RowMemory) → slice_get p.kept i ≡ Some memory → set ≡ memory
    → Stands tells (record p { kept = slice_set p.kept i set; tails = new }) m
still_stands tells p m new s same i memory set here is =
    let back : slice_set p.kept i set ≡ p.kept = ap (slice_set p.kept i) is ∙ set_same p.kept i memory here in
    subst (λ (kept : List RowMemory). Stands tells (record p { kept = kept; tails = new }) m) (sym back) (spared_stands tells p m new s same)

-- the stores are as much those of a machine with another count of doors
pub doors_stand : (tells : Bool) (p : Parts) (m : Machine) (doors d : ℕ) → d ≡ doors → Stands tells p m → Stands tells (record p { doors = doors }) (record m { doors = d })
doors_stand tells p m doors d same s = record {
  sound = s.sound;
  rule = s.rule;
  limbo = s.limbo;
  settings = s.settings;
  pins = s.pins;
  faults = s.faults;
  doors = same;
  rows = s.rows;
  doubt = s.doubt;
  ready = s.ready;
  store = record { before = s.store.before; told = s.store.told; disk = s.store.disk; holds = s.store.holds; whole = s.store.whole; moves = s.store.moves; is_open = by_open s.store.is_open };
}
  where
    by_open : Has tells p.at s.store.before ⊎ InDoubt tells p.at p.limbo s.store.before m → Has tells p.at s.store.before ⊎ InDoubt tells p.at p.limbo s.store.before (record m { doors = d })
    by_open (inl has) = inl has
    by_open (inr f) = inr (record { change = f.change; is = f.is; after = f.after; doubts = f.doubts; stand = f.stand; go = f.go; holds = f.holds })

-- and so they are of one with other pins
pub pins_stand : (tells : Bool) (p : Parts) (m : Machine) (pins : FinMap nat_cmp PinState) (pinned : FinMap nat_cmp PinOf) → ArePinsOf tells (beside p.at p.limbo) m.told m.rows pins pinned → IsSound (record m { pins = pins }) → Stands tells p m → Stands tells (record p { pinned = pinned }) (record m { pins = pins })
pins_stand tells p m pins pinned are sound s = record {
  sound = sound;
  rule = s.rule;
  limbo = s.limbo;
  settings = s.settings;
  pins = are;
  faults = s.faults;
  doors = s.doors;
  rows = s.rows;
  doubt = s.doubt;
  ready = s.ready;
  store = record { before = s.store.before; told = s.store.told; disk = s.store.disk; holds = s.store.holds; whole = s.store.whole; moves = s.store.moves; is_open = by_open s.store.is_open };
}
  where
    by_open : Has tells p.at s.store.before ⊎ InDoubt tells p.at p.limbo s.store.before m → Has tells p.at s.store.before ⊎ InDoubt tells p.at p.limbo s.store.before (record m { pins = pins })
    by_open (inl has) = inl has
    by_open (inr f) = inr (record { change = f.change; is = f.is; after = f.after; doubts = f.doubts; stand = f.stand; go = f.go; holds = f.holds })

-- Offers and ticks: what they come to is what the machine makes of them.

pub held_time : (r : RowState) (scan : Option SampledRow) (sampled : SampledRow) (s : Sample) → LinesSound r → r.cell ≡ cell_in scan → scan ≡ Some sampled → sampled.cell.held ≡ Some s → s.t < 18446744073709551615
held_time r scan sampled s lines cell is held =
    let there : r.cell.held ≡ Some s = ap (λ (c : Cell). c.held) (cell ∙ ap cell_in is) ∙ held in
    event_time r.about.ty s (subst (λ (o : Option Sample). IsHeld r.about.ty o) there lines.held)

-- HOW AN OFFER ENDS, BY WHAT WAS FOUND OF ITS ROW

-- THE MACHINE'S END

pub offer_unknown : (m : Machine) (name : List ℕ) (ty : PayloadType) (s : Sample) (now : ℕ) → find_row m name ≡ None → OfferStep name ty s now m (Dropped Unknown) m
offer_unknown m name ty s now none = rw none (inl (refl, refl))

-- an offer to the row that has the name
found_step : (m n : Machine) (name : List ℕ) (i : ℕ) (r : RowState) (ty : PayloadType) (s : Sample) (now : ℕ) (answer : Reply) → find_row m name ≡ Some i → slice_get m.rows i ≡ Some r → Ends (offered_to m i r ty s now) m answer n → OfferStep name ty s now m answer n
found_step m n name i r ty s now answer found here ends = rw (found, here) ends

standing_is : (r : RowState) (row : Row) → r.about ≡ row.about → r.state ≡ row.state → standing r ≡ record { is_running = is_running row.state; ty = number_of row.about.ty; next = r.next }
standing_is r row about state = rw (about, state) refl

-- AN OFFER OR A TICK

module _ (tells : Bool) (p : Parts) (m : Machine) (s : Stands tells p m) (i : ℕ) (row : Row) (memory : RowMemory) (r : RowState) (row_here : slice_get p.at.catalogue.rows i ≡ Some row) (here : slice_get m.rows i ≡ Some r) (is : IsRowOf p.tails i row memory r) (there : slice_get p.kept i ≡ Some memory) where
  abbrev with_row : List TailState → RowMemory → Parts
  with_row new set = record p { kept = slice_set p.kept i set; tails = new }

  in_memory : IsRowIn m p.tails i memory r
  in_memory = record { next = is.next; cell = is.cell; period = is.period; tail = is.tail; bytes = held_is p.at.catalogue.rows p.kept p.tails m.rows s.rows }

  -- what an offer or a tick leaves of the machine, the archive stands for
  stands_left : (new : List TailState) (set : RowMemory) (n : Machine) → LeavesRow m i r memory set (tail_at new i).samples n → SameOthers i p.tails new → IsSound n → Stands tells (with_row new set) n
  stands_left new set n (leaves_all n_is set_is tail) others sound =
      subst (λ (w : Machine). Stands tells (with_row new set) w) (sym n_is) (still_stands tells p m new s (λ j. by_place j (same_or_not j i)) i memory set there set_is)
    where
      by_place : (j : ℕ) → (j ≡ i) ⊎ (j ≢ i) → (tail_at new j).samples ≡ (tail_at p.tails j).samples
      by_place j (inl same) = subst (λ (k : ℕ). (tail_at new k).samples ≡ (tail_at p.tails k).samples) (sym same) (tail ∙ is.tail)
      by_place j (inr apart) = others j apart
  stands_left new set n (leaves_one f n_is plain up to) others sound =
      let one = plain r in
      let own : IsRowOf new i row set (f r) = record {
        name = ap (λ (q : RowState). q.name) one ∙ is.name;
        about = ap (λ (q : RowState). q.about) one ∙ is.about;
        state = ap (λ (q : RowState). q.state) one ∙ is.state;
        base = ap (λ (q : RowState). q.base) one ∙ is.base;
        next = to.next;
        cell = to.cell;
        period = to.period ∙ (is.period ∙ sym (ap (λ (q : RowState). period_of q.about.method) one));
        tail = to.tail_is;
      } in
      subst (λ (w : Machine). Stands tells (with_row new set) w) (sym n_is) (row_stands tells p m s i f set new row r row_here here up own others (λ q. ap kept_of (plain q)) (subst IsSound n_is sound))

  module _ (name : List ℕ) (ty : PayloadType) (x : Sample) (now : ℕ) (found : find_row m name ≡ Some i) where
    abbrev pub Offers : Parts → Reply → Type 0
    Offers new reply = (n : Machine) × WithWants (WouldKeep name ty x now) (OfferStep name ty x now) m reply n × Stands tells new n

    -- the first three reasons, as the machine has them
    by_row : (o : Option Reason) → o ≡ refused_by_row (Some (record { is_running = is_running row.state; ty = number_of row.about.ty; next = memory.next })) (number_of ty) → refused_by_row (Some (standing r)) (number_of ty) ≡ o
    by_row o reason = ap (λ w. refused_by_row (Some w) (number_of ty)) (standing_is r row is.about is.state) ∙ sym reason

    pub offer_dropped : (reason : Reason) → Some reason ≡ refused_by_row (Some (record { is_running = is_running row.state; ty = number_of row.about.ty; next = memory.next })) (number_of ty) → Offers p (Dropped reason)
    offer_dropped reason why =
        let first = by_row (Some reason) why in
        let ends : Ends (offered_to m i r ty x now) m (Dropped reason) m = rw first (inl (refl, refl)) in
        (m, (found_step m m name i r ty x now (Dropped reason) found here ends, λ told. absurd (cc (told))), s)

    pub offer_stands : IsEvent ty x → None ≡ refused_by_row (Some (record { is_running = is_running row.state; ty = number_of row.about.ty; next = memory.next })) (number_of ty) → (told : OfferAnswer) (new : List TailState) (set : RowMemory) → IsOffered p.tails memory i x now told new set
        → Offers (with_row new set) (offered_reply told)
    offer_stands event why told new set offered =
        let e = offer_ends m i r p.tails i memory in_memory ty x now (by_row None why) told new set offered in
        let step = found_step m e.after name i r ty x now (offered_reply told) found here e.ends in
        (e.after, (step, λ so. rw (found, here) (e.wants so)), stands_left new set e.after e.leaves e.others (offer_sound name ty x now m e.after (offered_reply told) s.sound event step))

  pub tick_stands : (now : ℕ) (running : Bool) → running ≡ is_running row.state → (told : TickAnswer) (new : List TailState) (set : RowMemory) → TickCase p.tails new memory set running i now told
      → (n : Machine) × WithWants (WouldTick i now) (TickStep i now) m (ticked_reply told) n × Stands tells (with_row new set) n
  tick_stands now running run_is told new set did =
      let did_so : TickCase p.tails new memory set (is_running r.state) i now told = subst (λ (b : Bool). TickCase p.tails new memory set b i now told) (run_is ∙ sym (ap is_running is.state)) did in
      let e = tick_ends m i r p.tails i memory in_memory now told new set did_so in
      let step : TickStep i now m (ticked_reply told) e.after = rw here e.ends in
      (e.after, (step, λ so. rw here (e.wants so)), stands_left new set e.after e.leaves e.others (tick_sound i now m e.after (ticked_reply told) s.sound step))

pub tick_no_row : (m : Machine) (i now : ℕ) → slice_get m.rows i ≡ None → TickStep i now m NoRow m
tick_no_row m i now none = rw none (inl (refl, refl))
