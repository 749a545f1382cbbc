-- An offer and a tick, by what they leave in a slot, as steps of the half.
use Rattle.std.proofs.Common.{◌≡◌, ◌≢◌, ◌⊎◌, inl, inr, ℕ, ◌+◌, ◌-◌, ◌<◌, ◌≤◌, List, [], length, Option, Some, None, Bool, true, refl, sym, ◌∙◌, ap, subst, arith}
use Rattle.std.specs.Prelude.{max, option_map, slice_get, slice_set, nat_le}
use Rattle.std.proofs.lemmas.Bool.Decides.{nat_tests}
use Rattle.std.proofs.lemmas.List.{length-set}
use Rattle.std.proofs.lemmas.Bool.{cases_eq}
use Rattle.pb_wire.specs.declared.payload.PayloadType.{PayloadType}
use Rattle.series_model.specs.Admission.{refused_by_row}
use Rattle.series_model.specs.Sampling.{Cell}
use Rattle.series_model.specs.declared.admission.Reason.{Reason}
use Rattle.series_model.specs.declared.admission.Reason.TheVariants.{Unknown}
use Rattle.series_model.specs.declared.batch.RowSamples.{RowSamples}
use Rattle.series_model.specs.declared.sample.Sample.{Sample}
use Rattle.series_model.specs.declared.sampling.ScanEvent.TheVariants.{Offered as OfferedEvent, Ticked as TickedEvent}
use Rattle.intake.specs.Row.{SampledRow, after}
use Rattle.intake.specs.Tails.{TailState, tail_at}
use Rattle.intake.specs.Tails as tails
use Rattle.act_model.specs.Asks.{offered_reply, ticked_reply}
use Rattle.act_model.specs.Event.{IsEvent}
use Rattle.act_model.specs.Machine.{Machine, find_row, held_bytes}
use Rattle.act_model.specs.Offer.{OfferStep, offered_to}
use Rattle.act_model.specs.Outcome.{Outcome}
use Rattle.act_model.specs.Reply.{Reply}
use Rattle.act_model.specs.Rows.{RowState, is_running, number_of as number_of_type}
use Rattle.act_model.specs.Tick.{TickStep, ticked_row}
use Rattle.act_model.specs.declared.acts.Act.TheVariants.{Offer, Doors, DoorDone}
use Rattle.act_model.specs.declared.acts.Answer.TheVariants.{Dropped, DoorsLeft, Kept, Memory, NoRow, TickKept}
use Rattle.act_model.specs.declared.answers.Offered.{Offered}
use Rattle.act_model.specs.declared.answers.Offered.TheVariants as offer
use Rattle.act_model.specs.declared.answers.Ticked.{Ticked}
use Rattle.act_model.specs.declared.answers.Ticked.TheVariants as answer
use Rattle.two_histories.specs.ArchiveIntake.{IntakeHalf, IntakeRow, as_row, batch_of, bytes_in, intake_of, kept_row, known_as, machine_of}
use Rattle.two_histories.specs.IntakeStep.{IntakePart, IntakeStep, Offers, Ticks, LooksForBatch, Replies, SawBatch, offers, ticks, no_row, sees_batch}
use Rattle.intake_half.specs.Known.{AreKept, HasName, IsKept, OffersBy, OffersTo, TicksTo, WouldKeep, WouldTick, number_of, seen, seen_from, slot_at, slot_in, standing_of, with_memory}
use Rattle.intake_half.specs.Memory.{cell_in, period_in}
use Rattle.intake_half.specs.Trying.{IsOffered, IsTickedDue}
use Rattle.intake_half.specs.declared.known.KnownRow.{KnownRow}
use Rattle.intake_half.specs.declared.memory.RowMemory.{RowMemory}
use Rattle.intake_half.specs.declared.names.Names.{Names}
use Rattle.intake_half.proofs.Counting.{batch_low, batch_seen, held_seen}
use Rattle.intake_half.proofs.Elements.{set_same}
use Rattle.intake_half.proofs.Ending.{IsRowIn, LeavesRow, RowEnds, SameOthers, TickCase, event_time, idles, leaves_all, leaves_one, offer_ends, same_row, tick_case, tick_ends, tries, waits}
use Rattle.intake_half.proofs.Seeing.{IsOnly, Placed, Unnamed, all_kept, is_unnamed, no_position, one_kept, placed, row_mapped, set_other, set_own, slot_within, some_same, unknown_seen, unnamed_seen}

-- DOORS

pub doors_told : (who : ℕ) (m : IntakeHalf) → IntakeStep who m (Offers Doors) (Replies (DoorsLeft m.doors)) m
doors_told who m =
    subst (λ (h : IntakeHalf). IntakeStep who m (Offers Doors) (Replies (DoorsLeft m.doors)) h) (ap (λ (rows : List IntakeRow). record m { rows = rows }) (all_kept m.rows))
    (offers (machine_of m) Doors (DoorsLeft m.doors) tt tt (refl, refl))

pub door_counted : (who : ℕ) (m : IntakeHalf) → IntakeStep who m (Offers DoorDone) (Replies (DoorsLeft (m.doors - 1))) (record m { doors = m.doors - 1 })
door_counted who m =
    subst (λ (h : IntakeHalf). IntakeStep who m (Offers DoorDone) (Replies (DoorsLeft (m.doors - 1))) h) (ap (λ (rows : List IntakeRow). record m { rows = rows; doors = m.doors - 1 }) (all_kept m.rows))
    (offers (record (machine_of m) { doors = m.doors - 1 }) DoorDone (DoorsLeft (m.doors - 1)) tt tt (refl, refl))

-- WHAT IS KEPT OF A ROW

-- all of a row's memory that is kept beside its name
pub record MemoryFits (k : KnownRow) (memory : RowMemory) : Type 0 where
  pub period : period_in memory.scan ≡ period_in k.memory.scan
  pub held : (sampled : SampledRow) (s : Sample) → memory.scan ≡ Some sampled → sampled.cell.held ≡ Some s → s.t < 18446744073709551615

still_kept : (names : Names) (i : ℕ) (k : KnownRow) (memory : RowMemory) → IsKept names i k → MemoryFits k memory → IsKept names i (with_memory k memory)
still_kept names i k memory is fits = record { named = is.named; period = fits.period ∙ is.period; held = fits.held }

same_fits : (names : Names) (i : ℕ) (k : KnownRow) (memory : RowMemory) → IsKept names i k → memory ≡ k.memory → MemoryFits k memory
same_fits names i k memory is same = subst (λ (w : RowMemory). MemoryFits k w) (sym same) (record { period = refl; held = is.held })

offer_fits : (names : Names) (i : ℕ) (k : KnownRow) → IsKept names i k → (old new : List TailState) (set : RowMemory) (x : Sample) (now : ℕ) → x.t < 18446744073709551615 → (told : Offered) → IsOffered old k.memory i x now told new set → MemoryFits k set
offer_fits names i k is old new set x now time offer.Held (sampled, scan, keeps, set_is) =
    record {
      period = ap (λ (w : RowMemory). period_in w.scan) set_is ∙ ap period_in (sym scan);
      held = λ s y here there. (let first : after sampled (OfferedEvent x) ≡ s = some_same (sym (ap (λ (w : RowMemory). w.scan) set_is) ∙ here) in
          let one : x ≡ y = some_same (ap (λ (w : SampledRow). w.cell.held) first ∙ there) in
          subst (λ (w : Sample). w.t < 18446744073709551615) one time);
    }
offer_fits names i k is old new set x now time offer.Kept (scan, tried, sets, set_is) =
    record {
      period = ap (λ (w : RowMemory). period_in w.scan) set_is;
      held = λ s y here there. is.held s y (sym (ap (λ (w : RowMemory). w.scan) set_is) ∙ here) there;
    }
offer_fits names i k is old new set x now time (offer.Dropped reason) (scan, late, keeps, set_is) = same_fits names i k set is set_is
offer_fits names i k is old new set x now time (offer.IntakeFull bytes) (scan, full, keeps, set_is) = same_fits names i k set is set_is
offer_fits names i k is old new set x now time offer.Memory (scan, room, keeps, set_is) = same_fits names i k set is set_is

-- what a tick leaves of a row's memory where what is held is tried: what there was, or nothing is held
due_left : (old new : List TailState) (memory set : RowMemory) (sampled : SampledRow) (i now : ℕ) (told : Ticked) → IsTickedDue old memory sampled i now told new set → (set.scan ≡ memory.scan) ⊎ (set.scan ≡ Some (after sampled (TickedEvent now true)))
due_left old new memory set sampled i now answer.TickNone (none, keeps, is) = inr (ap (λ (w : RowMemory). w.scan) is)
due_left old new memory set sampled i now (answer.Dropped reason) (x, held, late, keeps, is) = inr (ap (λ (w : RowMemory). w.scan) is)
due_left old new memory set sampled i now (answer.IntakeFull bytes) (x, held, tried, keeps, is) = inl (ap (λ (w : RowMemory). w.scan) is)
due_left old new memory set sampled i now answer.Memory (x, held, tried, keeps, is) = inl (ap (λ (w : RowMemory). w.scan) is)
due_left old new memory set sampled i now (answer.TickKept t) (x, held, t_is, tried, sets, is) = inr (ap (λ (w : RowMemory). w.scan) is)
due_left old new memory set sampled i now answer.NoRow none = absurd none
due_left old new memory set sampled i now (answer.NotDue d) none = absurd none

tick_fits : (names : Names) (i : ℕ) (k : KnownRow) → IsKept names i k → (old new : List TailState) (set : RowMemory) (running : Bool) (now : ℕ) (told : Ticked) → TickCase old new k.memory set running i now told → MemoryFits k set
tick_fits names i k is old new set running now told did = record { period = by_case_period did; held = by_case_held did }
  where
    same_period : set.scan ≡ k.memory.scan → period_in set.scan ≡ period_in k.memory.scan
    same_period same = ap period_in same

    by_case_period : TickCase old new k.memory set running i now told → period_in set.scan ≡ period_in k.memory.scan
    by_case_period (idles why told_is new_is set_is) = same_period (ap (λ (w : RowMemory). w.scan) set_is)
    by_case_period (waits sampled scan up first told_is new_is set_is) = same_period (ap (λ (w : RowMemory). w.scan) set_is)
    by_case_period (tries sampled scan up late tried) = elim (due_left old new k.memory set sampled i now told tried) [ inl same ↦ same_period same | inr moved ↦ ap period_in moved ∙ ap period_in (sym scan) ]

    by_case_held : TickCase old new k.memory set running i now told → (sampled : SampledRow) (s : Sample) → set.scan ≡ Some sampled → sampled.cell.held ≡ Some s → s.t < 18446744073709551615
    by_case_held (idles why told_is new_is set_is) one s here there = is.held one s (sym (ap (λ (w : RowMemory). w.scan) set_is) ∙ here) there
    by_case_held (waits sampled scan up first told_is new_is set_is) one s here there = is.held one s (sym (ap (λ (w : RowMemory). w.scan) set_is) ∙ here) there
    by_case_held (tries sampled scan up late tried) one s here there = elim (due_left old new k.memory set sampled i now told tried) [
      | inl same ↦ is.held one s (sym same ∙ here) there
      | inr moved ↦
          let test : nat_le sampled.cell.due now ≡ true = grind (arith, nat_tests) in
          let first : after sampled (TickedEvent now true) ≡ one = some_same (sym moved ∙ here) in
          let none : (after sampled (TickedEvent now true)).cell.held ≡ None = rw test refl in
          let some : (after sampled (TickedEvent now true)).cell.held ≡ Some s = ap (λ (w : SampledRow). w.cell.held) first ∙ there in
          absurd (let bad = sym none ∙ some in cc)
    ]

-- THE HALF

module _ (slots : List (Option KnownRow)) (held : List TailState) (names : Names) (upto doors : ℕ) (all : AreKept slots held names) where
  abbrev pub half_of : List TailState → List (Option KnownRow) → IntakeHalf
  half_of new now = record { rows = seen_from new 0 now; upto = upto; doors = doors }

  abbrev pub half : IntakeHalf
  half = half_of held slots

  -- the half makes this step, and is whole then; memory is wanting for nothing else
  pub record Steps (part : IntakePart) (reply : Reply) (Would : Type 0) (new : List TailState) (now : List (Option KnownRow)) : Type 0 where
    pub step : (who : ℕ) → IntakeStep who half part (Replies reply) (half_of new now)
    pub kept : AreKept now new names
    pub wants : reply ≡ Memory → Would

  pub half_stays : intake_of half (machine_of half) ≡ half
  half_stays = ap (λ (rows : List IntakeRow). let h : IntakeHalf = record { rows = rows; upto = upto; doors = doors } in h) (all_kept half.rows)

  pub bytes_are : held_bytes (machine_of half).rows ≡ tails.held_bytes held
  bytes_are = held_seen held 0 slots held (λ n. ap (λ (m : ℕ). (tail_at held m).samples) (let e : 0 + n ≡ n = omega arith in e)) all.others

  -- an offer to a name that no row has
  pub offer_none : (name : List ℕ) (ty : PayloadType) (x : Sample) (now who : ℕ) → IsEvent ty x → ((i : ℕ) (k : KnownRow) → slot_at slots i ≡ Some k → k.name ≢ name) → IntakeStep who half (Offers (Offer name ty x.t x.line now)) (Replies (Dropped Unknown)) half
  offer_none name ty x now who event none = by_unnamed (unnamed_seen held 0 slots name none)
    where
      by_unnamed : Unnamed name half.rows → IntakeStep who half (Offers (Offer name ty x.t x.line now)) (Replies (Dropped Unknown)) half
      by_unnamed (is_unnamed none_known place) =
          let step : OfferStep name ty x now (machine_of half) (Dropped Unknown) (machine_of half) = rw (place 0) (inl (refl, refl)) in
          subst (λ (h : IntakeHalf). IntakeStep who half (Offers (Offer name ty x.t x.line now)) (Replies (Dropped Unknown)) h) half_stays (offers (machine_of half) (Offer name ty x.t x.line now) (Dropped Unknown) tt event step)

  -- a tick of no row
  pub tick_none : (i now who : ℕ) → slot_at slots i ≡ None → IntakeStep who half (Ticks i now) (Replies NoRow) half
  tick_none i now who none = no_row i now (no_position half.rows i (unknown_seen held 0 slots i i (omega arith) none))

  module _ (i : ℕ) (k : KnownRow) (here : slot_at slots i ≡ Some k) where
    spot : Placed held 0 slots i i k
    spot = placed held 0 slots i i k (omega arith) here

    abbrev row : RowState
    row = as_row (seen held i k)

    row_here : slice_get (machine_of half).rows spot.spot ≡ Some row
    row_here = row_mapped half.rows spot.spot (seen held i k) spot.here

    pub only : IsOnly slots i k
    only o x there same = some_same (sym (all.each o x there).named ∙ (ap (λ (name : List ℕ). number_of names name) same ∙ (all.each i k here).named))

    found : find_row (machine_of half) k.name ≡ Some spot.spot
    found = spot.found only 0 ∙ ap (λ (n : ℕ). Some n) (let e : 0 + spot.spot ≡ spot.spot = omega arith in e)

    in_memory : IsRowIn (machine_of half) held i k.memory row
    in_memory = record { next = refl; cell = refl; period = (all.each i k here).period; tail = refl; bytes = bytes_are }

    abbrev build : ℕ → List Sample → Cell → IntakeRow
    build next tail cell = record (seen held i k) { next = next; tail = tail; cell = cell }

    same_build : {a b : ℕ} {xs ys : List Sample} {p q : Cell} → a ≡ b → xs ≡ ys → p ≡ q → build a xs p ≡ build b ys q
    same_build {a} {b} {xs} {ys} {p} {q} one two three = ap (λ (n : ℕ). build n xs p) one ∙ ap (λ (l : List Sample). build b l p) two ∙ ap (λ (w : Cell). build b ys w) three

    -- the half that is left where one row has changed
    left : (new : List TailState) (set : RowMemory) (n : Machine) → SameOthers i held new → LeavesRow (machine_of half) spot.spot row k.memory set (tail_at new i).samples n
        → half_of new (slice_set slots i (Some (with_memory k set))) ≡ intake_of half n
    left new set n others (leaves_all n_is set_is tail) =
        let now : seen new i (with_memory k set) ≡ seen held i k = same_build (ap (λ (w : RowMemory). w.next) set_is) tail (ap (λ (w : RowMemory). cell_in w.scan) set_is) in
        let rows : seen_from new 0 (slice_set slots i (Some (with_memory k set))) ≡ half.rows = spot.changes new (with_memory k set) others ∙ (ap (λ (w : IntakeRow). slice_set half.rows spot.spot w) now ∙ set_same half.rows spot.spot (seen held i k) spot.here) in
        subst (λ (w : Machine). half_of new (slice_set slots i (Some (with_memory k set))) ≡ intake_of half w) (sym n_is)
        (ap (λ (rs : List IntakeRow). let h : IntakeHalf = record { rows = rs; upto = upto; doors = doors } in h) (rows ∙ sym (all_kept half.rows)))
    left new set n others (leaves_one f n_is plain up is) =
        let now : seen new i (with_memory k set) ≡ kept_row (seen held i k) (f row) = same_build (sym is.next) (sym is.tail_is) (sym is.cell) in
        let rows = spot.changes new (with_memory k set) others ∙ (ap (λ (w : IntakeRow). slice_set half.rows spot.spot w) now ∙ sym (one_kept f spot.spot 0 spot.spot half.rows (seen held i k) (omega arith) spot.here)) in
        subst (λ (w : Machine). half_of new (slice_set slots i (Some (with_memory k set))) ≡ intake_of half w) (sym n_is)
        (ap (λ (rs : List IntakeRow). let h : IntakeHalf = record { rows = rs; upto = upto; doors = doors } in h) rows)

    -- what is kept once the row has changed
    pub kept_set : (new : List TailState) (now : KnownRow) → SameOthers i held new → IsKept names i now → AreKept (slice_set slots i (Some now)) new names
    kept_set new now others is =
        record {
          each = λ j x there. by_each j x there (cases_eq j i);
          others = λ j none. by_other j none (cases_eq j i);
          few = (let same : length (slice_set slots i (Some now)) ≡ length slots = length-set slots i (Some now) in let few = all.few in omega arith);
        }
      where
        own : slot_at (slice_set slots i (Some now)) i ≡ Some now
        own = set_own slots i (Some now) (slot_within slots i k here)

        by_each : (j : ℕ) (x : KnownRow) → slot_at (slice_set slots i (Some now)) j ≡ Some x → (j ≡ i) ⊎ (j ≢ i) → IsKept names j x
        by_each j x there (inl same) =
            let one : now ≡ x = some_same (sym own ∙ (ap (λ (n : ℕ). slot_at (slice_set slots i (Some now)) n) (sym same) ∙ there)) in
            subst (λ (n : ℕ). IsKept names n x) (sym same) (subst (λ (w : KnownRow). IsKept names i w) one is)
        by_each j x there (inr apart) = all.each j x (sym (set_other slots i j (Some now) apart) ∙ there)

        by_other : (j : ℕ) → slot_at (slice_set slots i (Some now)) j ≡ None → (j ≡ i) ⊎ (j ≢ i) → (tail_at new j).samples ≡ []
        by_other j none (inl same) = absurd (let bad = sym own ∙ (ap (λ (n : ℕ). slot_at (slice_set slots i (Some now)) n) (sym same) ∙ none) in cc)
        by_other j none (inr apart) = others j apart ∙ all.others j (sym (set_other slots i j (Some now) apart) ∙ none)

    abbrev pub StepsAt : IntakePart → Reply → Type 0 → List TailState → KnownRow → Type 0
    StepsAt part reply Would new now = Steps part reply Would new (slice_set slots i (Some now))

    -- the machine's act ends so, and what is kept of the row fits
    steps_by : (part : IntakePart) (reply : Reply) (new : List TailState) (set : RowMemory) (end : Outcome) (Would : Reply → Type 0) (Wanting : Type 0) (e : RowEnds end (machine_of half) spot.spot row held i k.memory set new Would reply)
        → ((who : ℕ) → IntakeStep who half part (Replies reply) (intake_of half e.after)) → (Would end.answer → Wanting) → MemoryFits k set → StepsAt part reply Wanting new (with_memory k set)
    steps_by part reply new set end Would Wanting e step so fits =
        record {
          step = λ who. subst (λ (h : IntakeHalf). IntakeStep who half part (Replies reply) h) (sym (left new set e.after e.others e.leaves)) (step who);
          kept = kept_set new (with_memory k set) e.others (still_kept names i k set (all.each i k here) fits);
          wants = λ told. so (e.wants told);
        }

    -- AN OFFER

    abbrev pub OfferedAt : PayloadType → Sample → ℕ → Reply → List TailState → KnownRow → Type 0
    OfferedAt ty x now reply new set = StepsAt (Offers (Offer k.name ty x.t x.line now)) reply (WouldKeep k.name ty x now half) new set

    offer_as : (ty : PayloadType) (x : Sample) (now : ℕ) → IsEvent ty x → (reply : Reply) (new : List TailState) (set : RowMemory) → RowEnds (offered_to (machine_of half) spot.spot row ty x now) (machine_of half) spot.spot row held i k.memory set new (λ so. so ≡ Kept) reply
        → MemoryFits k set → OfferedAt ty x now reply new (with_memory k set)
    offer_as ty x now event reply new set e fits =
        let step : OfferStep k.name ty x now (machine_of half) reply e.after = rw (found, row_here) e.ends in
        steps_by (Offers (Offer k.name ty x.t x.line now)) reply new set (offered_to (machine_of half) spot.spot row ty x now) (λ so. so ≡ Kept) (WouldKeep k.name ty x now half) e (λ who. offers e.after (Offer k.name ty x.t x.line now) reply tt event step)
        (λ kept. rw (found, row_here) kept) fits

    pub offer_is : (ty : PayloadType) (x : Sample) (now : ℕ) → IsEvent ty x → (told : Offered) (new : List TailState) (now_kept : KnownRow) → OffersTo held k i ty x now told new now_kept → OfferedAt ty x now (offered_reply told) new now_kept
    offer_is ty x now event told new now_kept ends = by_reason (refused_by_row (Some (standing_of k)) (number_of_type ty)) refl ends
      where
        dropped : (reason : Reason) → refused_by_row (Some (standing_of k)) (number_of_type ty) ≡ Some reason → OfferedAt ty x now (Dropped reason) held k
        dropped reason why =
            offer_as ty x now event (Dropped reason) held k.memory
            (same_row (machine_of half) spot.spot row held i k.memory in_memory (offered_to (machine_of half) spot.spot row ty x now) (λ so. so ≡ Kept) (Dropped reason) held k.memory (λ so. cc (so)) (rw why refl) refl (λ j. refl))
            (same_fits names i k k.memory (all.each i k here) refl)

        by_reason : (o : Option Reason) → refused_by_row (Some (standing_of k)) (number_of_type ty) ≡ o → OffersBy o held k i x now told new now_kept → OfferedAt ty x now (offered_reply told) new now_kept
        by_reason (Some reason) why (told_is, new_is, kept_is) =
            subst (λ (a : Offered). OfferedAt ty x now (offered_reply a) new now_kept) (sym told_is)
            (subst (λ (ts : List TailState). OfferedAt ty x now (Dropped reason) ts now_kept) (sym new_is)
            (subst (λ (w : KnownRow). OfferedAt ty x now (Dropped reason) held w) (sym kept_is) (dropped reason why)))
        by_reason None why (set, is, kept_is) =
            subst (λ (w : KnownRow). OfferedAt ty x now (offered_reply told) new w) (sym kept_is)
            (offer_as ty x now event (offered_reply told) new set (offer_ends (machine_of half) spot.spot row held i k.memory in_memory ty x now why told new set is) (offer_fits names i k (all.each i k here) held new set x now (event_time ty x event) told is))

    -- A TICK

    pub tick_is : (now : ℕ) (told : Ticked) (new : List TailState) (now_kept : KnownRow) → TicksTo held k i now told new now_kept → StepsAt (Ticks i now) (ticked_reply told) (WouldTick i now half) new now_kept
    tick_is now told new now_kept ends =
        let did = tick_case held new k.memory ends.memory (is_running k.state) i now told ends.none ends.early ends.due in
        let e = tick_ends (machine_of half) spot.spot row held i k.memory in_memory now told new ends.memory did in
        let step : TickStep spot.spot now (machine_of half) (ticked_reply told) e.after = rw row_here e.ends in
        subst (λ (w : KnownRow). StepsAt (Ticks i now) (ticked_reply told) (WouldTick i now half) new w) (sym ends.is)
        (steps_by (Ticks i now) (ticked_reply told) new ends.memory (ticked_row (machine_of half) spot.spot row now) (λ so. (t : ℕ) × (so ≡ TickKept t)) (WouldTick i now half) e (λ who. ticks e.after i now spot.spot (ticked_reply told) spot.position_is step)
        (λ kept. record { place = spot.spot; here = spot.position_is; t = kept.0; keeps = rw row_here kept.1 })
        (tick_fits names i k (all.each i k here) held new ends.memory (is_running k.state) now told did))

  -- AN OFFER OR A TICK BY ITS SLOT

  -- what a slot has that was read
  slot_read : (i : ℕ) (slot : Option KnownRow) → slice_get slots i ≡ Some slot → slot_at slots i ≡ slot
  slot_read i slot here = ap slot_in here

  pub offered_at : (i : ℕ) (name : List ℕ) (ty : PayloadType) (x : Sample) (now : ℕ) → IsEvent ty x → HasName slots i name → (slot : Option KnownRow) → slice_get slots i ≡ Some slot → (told : Offered) (new : List TailState) (now_slot : Option KnownRow)
      → ((known : KnownRow) → slot ≡ Some known → (kept : KnownRow) × (now_slot ≡ Some kept) × OffersTo held known i ty x now told new kept) → Steps (Offers (Offer name ty x.t x.line now)) (offered_reply told) (WouldKeep name ty x now half) new (slice_set slots i now_slot)
  offered_at i name ty x now event has slot there told new now_slot ends =
      let end = ends has.row (sym (slot_read i slot there) ∙ has.here) in
      let steps = offer_is i has.row has.here ty x now event told new end.0 end.2 in
      subst (λ (n : List ℕ). Steps (Offers (Offer n ty x.t x.line now)) (offered_reply told) (WouldKeep n ty x now half) new (slice_set slots i now_slot)) has.is
      (subst (λ (w : Option KnownRow). Steps (Offers (Offer has.row.name ty x.t x.line now)) (offered_reply told) (WouldKeep has.row.name ty x now half) new (slice_set slots i w)) (sym end.1) steps)

  pub ticked_at : (i now : ℕ) (slot : Option KnownRow) → slice_get slots i ≡ Some slot → (told : Ticked) (new : List TailState) (now_slot : Option KnownRow) → (slot ≡ None → (told ≡ answer.NoRow) × (new ≡ held) × (now_slot ≡ None))
      → ((known : KnownRow) → slot ≡ Some known → (kept : KnownRow) × (now_slot ≡ Some kept) × TicksTo held known i now told new kept) → Steps (Ticks i now) (ticked_reply told) (WouldTick i now half) new (slice_set slots i now_slot)
  ticked_at i now slot there told new now_slot none ends = by_slot slot refl
    where
      by_slot : (o : Option KnownRow) → slot ≡ o → Steps (Ticks i now) (ticked_reply told) (WouldTick i now half) new (slice_set slots i now_slot)
      by_slot None is =
          let end = none is in
          let same : slice_set slots i now_slot ≡ slots = ap (λ (w : Option KnownRow). slice_set slots i w) (end.2 ∙ sym is) ∙ set_same slots i slot there in
          subst (λ (a : Ticked). Steps (Ticks i now) (ticked_reply a) (WouldTick i now half) new (slice_set slots i now_slot)) (sym end.0)
          (subst (λ (ts : List TailState). Steps (Ticks i now) NoRow (WouldTick i now half) ts (slice_set slots i now_slot)) (sym end.1)
          (subst (λ (w : List (Option KnownRow)). Steps (Ticks i now) NoRow (WouldTick i now half) held w) (sym same) (record { step = λ who. tick_none i now who (slot_read i slot there ∙ is); kept = all; wants = λ told_is. absurd (cc (told_is)) })))
      by_slot (Some known) is =
          let end = ends known is in
          let steps = tick_is i known (slot_read i slot there ∙ is) now told new end.0 end.2 in
          subst (λ (w : Option KnownRow). Steps (Ticks i now) (ticked_reply told) (WouldTick i now half) new (slice_set slots i w)) (sym end.1) steps

  -- no row has the name that isn't found
  pub not_found : (name : List ℕ) (found : Option ℕ) → ((i : ℕ) → number_of names name ≡ Some i → HasName slots i name → found ≡ Some i) → found ≡ None → (i : ℕ) (k : KnownRow) → slot_at slots i ≡ Some k → k.name ≢ name
  not_found name found only none i k here same =
      let there = only i (ap (λ (n : List ℕ). number_of names n) (sym same) ∙ (all.each i k here).named) (record { row = k; here = here; is = same }) in
      absurd (let bad = sym none ∙ there in cc)

  -- the same of slots and a name that were read
  pub not_found_in : (read : List (Option KnownRow)) (given name : List ℕ) (found : Option ℕ) → read ≡ slots → given ≡ name → ((i : ℕ) → number_of names given ≡ Some i → HasName read i given → found ≡ Some i) → found ≡ None
      → (i : ℕ) (k : KnownRow) → slot_at slots i ≡ Some k → k.name ≢ name
  not_found_in read given name found is same only none =
      not_found name found (λ i at has. only i (ap (λ (n : List ℕ). number_of names n) same ∙ at) (subst (λ (s : List (Option KnownRow)). HasName s i given) (sym is) (subst (λ (n : List ℕ). HasName slots i n) (sym same) has))) none

  pub has_in : (read : List (Option KnownRow)) (given name : List ℕ) (i : ℕ) → read ≡ slots → given ≡ name → HasName read i given → HasName slots i name
  has_in read given name i is same has = subst (λ (n : List ℕ). HasName slots i n) same (subst (λ (s : List (Option KnownRow)). HasName s i given) is has)

  -- the row that has the name is the one that is known by it
  pub known_by : (i : ℕ) (name : List ℕ) (has : HasName slots i name) → known_as half.rows name ≡ Some (seen held i has.row)
  known_by i name has = subst (λ (n : List ℕ). known_as half.rows n ≡ Some (seen held i has.row)) has.is ((spot i has.row has.here).named (only i has.row has.here))

  pub look_found : (i : ℕ) (name : List ℕ) (slot : Option KnownRow) → HasName slots i name → slice_get slots i ≡ Some slot → option_map (seen held i) slot ≡ known_as half.rows name
  look_found i name slot has there = ap (λ (o : Option KnownRow). option_map (seen held i) o) (sym (slot_read i slot there) ∙ has.here) ∙ sym (known_by i name has)

  pub none_by : (name : List ℕ) → ((i : ℕ) (k : KnownRow) → slot_at slots i ≡ Some k → k.name ≢ name) → known_as half.rows name ≡ None
  none_by name none = by_unnamed (unnamed_seen held 0 slots name none)
    where
      by_unnamed : Unnamed name half.rows → known_as half.rows name ≡ None
      by_unnamed (is_unnamed none_known place) = none_known

  -- A LOOK AT A BATCH

  batch_is : (limit : ℕ) → 1 ≤ limit → tails.batch_of limit held ≡ batch_of limit half
  batch_is limit some =
      let most : max limit 1 ≡ limit = omega arith in
      ap (λ (n : ℕ). tails.batch_from n held 0 0) most ∙ batch_seen limit held 0 slots held 0 (λ n. ap (λ (m : ℕ). (tail_at held m).samples) (let e : 0 + n ≡ n = omega arith in e)) all.others

  pub batch_fits : (limit : ℕ) (batch : List RowSamples) → 1 ≤ limit → batch ≡ tails.batch_of limit held → bytes_in batch ≤ tails.held_bytes held
  batch_fits limit batch some is =
      let same = ap bytes_in (is ∙ batch_is limit some) in
      let low = batch_low limit half.rows 0 in
      let all_bytes = bytes_are in
      omega (arith, same, low, all_bytes)

  pub look_step : (limit left_bytes : ℕ) (batch : List RowSamples) → 1 ≤ limit → batch ≡ tails.batch_of limit held → left_bytes ≡ tails.held_bytes held - bytes_in batch → (who : ℕ) → IntakeStep who half (LooksForBatch limit) (SawBatch doors batch left_bytes upto) half
  look_step limit left_bytes batch some is left_is who =
      let same = is ∙ batch_is limit some in
      let bytes : held_bytes (machine_of half).rows - bytes_in (batch_of limit half) ≡ left_bytes = ap (λ (n : ℕ). n - bytes_in (batch_of limit half)) bytes_are ∙ (ap (λ (b : List RowSamples). tails.held_bytes held - bytes_in b) (sym same) ∙ sym left_is) in
      subst (λ (n : ℕ). IntakeStep who half (LooksForBatch limit) (SawBatch doors batch n upto) half) bytes
      (subst (λ (b : List RowSamples). IntakeStep who half (LooksForBatch limit) (SawBatch doors b (held_bytes (machine_of half).rows - bytes_in (batch_of limit half)) upto) half) (sym same) (sees_batch limit some))
