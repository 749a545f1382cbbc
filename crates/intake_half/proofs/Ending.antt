-- How the machine's offer or tick of a row ends, by what is kept of the row in memory.
use Rattle.std.proofs.Common.{◌≡◌, ◌≢◌, ◌⊎◌, inl, inr, ℕ, ◌+◌, ◌<◌, ◌≤◌, List, [], ◌∷◌, ◌++◌, length, Bool, true, false, Option, Some, None, Result, Ok, Err, refl, sym, ◌∙◌, ap, subst, arith}
use Rattle.std.specs.Prelude.{nat_lt, nat_le}
use Rattle.std.proofs.lemmas.Bool.Decides.{nat_tests}
use Rattle.std.proofs.lemmas.Option.{same_Some}
use Rattle.arch_time.proofs.CalendarLemmas.{years_1970}
use Rattle.arch_time.proofs.YearLemmas.{sample_year, start_days}
use Rattle.pb_messages.specs.declared.about.Method.{Method}
use Rattle.pb_messages.specs.declared.about.Method.TheVariants.{Monitor, Scan}
use Rattle.pb_wire.specs.declared.payload.PayloadType.{PayloadType}
use Rattle.series_model.specs.Admission.{refused_by_row, refused_by_time}
use Rattle.series_model.specs.Limits.{intake_room}
use Rattle.series_model.specs.Sampling.{Cell, cell_after}
use Rattle.series_model.specs.declared.sample.Sample.{Sample}
use Rattle.series_model.specs.declared.sampling.ScanEvent.TheVariants.{Offered, Ticked}
use Rattle.intake.specs.Row.{SampledRow, after}
use Rattle.intake.specs.Tails.{KeepsTails, TailState, tail_at}
use Rattle.intake.specs.Tails as tails
use Rattle.act_model.specs.Asks.{offered_reply, ticked_reply}
use Rattle.act_model.specs.Changes.{at, with_rows}
use Rattle.act_model.specs.Event.{IsEvent}
use Rattle.act_model.specs.Machine.{Machine, held_bytes}
use Rattle.act_model.specs.Offer.{gains, with_held, tried, offered_to}
use Rattle.act_model.specs.Outcome.{Outcome, Ends}
use Rattle.act_model.specs.Reply.{Reply}
use Rattle.act_model.specs.Rows.{RowState, is_running, number_of, period_of, standing}
use Rattle.act_model.specs.Tick.{ticked_due, ticked_row}
use Rattle.act_model.specs.Tick as tick
use Rattle.act_model.specs.declared.acts.Answer.TheVariants.{Dropped, IntakeFull, Kept, Memory, TickNone, NotDue, TickKept}
use Rattle.act_model.specs.declared.answers.Offered.{Offered as OfferAnswer}
use Rattle.act_model.specs.declared.answers.Offered.TheVariants as offer
use Rattle.act_model.specs.declared.answers.Ticked.{Ticked as TickAnswer}
use Rattle.act_model.specs.declared.answers.Ticked.TheVariants as answer
use Rattle.intake_half.specs.Memory.{cell_in, period_in}
use Rattle.intake_half.specs.Trying.{IsTried, IsOffered, IsTickedDue, moved_on}
use Rattle.intake_half.specs.declared.memory.RowMemory.{RowMemory}
use Rattle.intake_half.specs.declared.trying.NotKept.{NotKept}
use Rattle.intake_half.specs.declared.trying.NotKept.TheVariants as refusal

-- SAMPLES

pub event_time : (ty : PayloadType) (s : Sample) → IsEvent ty s → s.t < 18446744073709551615
event_time ty s e =
    let days = start_days e.year (sample_year e.year e.sample_year) in
    let at = e.at in
    let second = e.in_year.second in
    let nano = e.in_year.nano in
    omega (arith, days, at, second, nano, years_1970)

-- what comes of a sample that is tried
abbrev pub TriedAs : Machine → RowState → Sample → ℕ → Outcome → Result (Unit {0}) NotKept → Type 0
TriedAs m r s now kept (Ok a) = tried m r s now kept ≡ kept
TriedAs m r s now kept (Err refusal.Memory) = tried m r s now kept ≡ kept
TriedAs m r s now kept (Err (refusal.Dropped reason)) = tried m r s now kept ≡ record { answer = Dropped reason; after = m }
TriedAs m r s now kept (Err (refusal.IntakeFull held)) = tried m r s now kept ≡ record { answer = IntakeFull held; after = m }

pub tried_as : (m : Machine) (r : RowState) (s : Sample) (now next held : ℕ) (kept : Outcome) (result : Result (Unit {0}) NotKept) → r.next ≡ next → held_bytes m.rows ≡ held → IsTried next held s.t (length s.line) now result → TriedAs m r s now kept result
tried_as m r s now next held kept (Ok a) next_is held_is is =
    let late : refused_by_time r.next s.t now ≡ None = ap (λ n. refused_by_time n s.t now) next_is ∙ is.0 in
    let fits : nat_lt intake_room (held_bytes m.rows + (length s.line + 1)) ≡ false = let low = is.1 in grind (arith, nat_tests) in
    rw (late, fits) refl
tried_as m r s now next held kept (Err refusal.Memory) next_is held_is is =
    let late : refused_by_time r.next s.t now ≡ None = ap (λ n. refused_by_time n s.t now) next_is ∙ is.0 in
    let fits : nat_lt intake_room (held_bytes m.rows + (length s.line + 1)) ≡ false = let low = is.1 in grind (arith, nat_tests) in
    rw (late, fits) refl
tried_as m r s now next held kept (Err (refusal.Dropped reason)) next_is held_is is =
    let late : refused_by_time r.next s.t now ≡ Some reason = ap (λ n. refused_by_time n s.t now) next_is ∙ is in
    rw late refl
tried_as m r s now next held kept (Err (refusal.IntakeFull bytes)) next_is held_is is =
    let late : refused_by_time r.next s.t now ≡ None = ap (λ n. refused_by_time n s.t now) next_is ∙ is.0 in
    let over : nat_lt intake_room (held_bytes m.rows + (length s.line + 1)) ≡ true = let high = is.1 in grind (arith, nat_tests) in
    let told : held_bytes m.rows ≡ bytes = held_is ∙ sym is.2 in
    rw (late, over) (ap (λ b. record { answer = IntakeFull b; after = m }) told)

-- a row of which nothing is sampled is monitored, and else it has the period
pub monitored : (d : Method) → None ≡ period_of d → d ≡ Monitor
monitored Monitor is = refl
monitored (Scan period) is = absurd (cc (is))

pub sampled_at : (d : Method) (n : ℕ) → Some n ≡ period_of d → d ≡ Scan n
sampled_at Monitor n is = absurd (cc (is))
sampled_at (Scan period) n is = ap (λ k. Scan k) (sym (same_Some n period is))

-- A tick of a row: nothing is to be tried, it isn't due, or what is held is tried.
pub data TickCase (old new : List TailState) (memory set : RowMemory) (running : Bool) (i now : ℕ) (told : TickAnswer) : Type 0 where
  idles : (memory.scan ≡ None) ⊎ (running ≡ false) → told ≡ answer.TickNone → new ≡ old → set ≡ memory → TickCase old new memory set running i now told
  waits : (sampled : SampledRow) → memory.scan ≡ Some sampled → running ≡ true → now < sampled.cell.due → told ≡ answer.NotDue sampled.cell.due → new ≡ old → set ≡ memory → TickCase old new memory set running i now told
  tries : (sampled : SampledRow) → memory.scan ≡ Some sampled → running ≡ true → sampled.cell.due ≤ now → IsTickedDue old memory sampled i now told new set → TickCase old new memory set running i now told

pub tick_case : (old new : List TailState) (memory set : RowMemory) (running : Bool) (i now : ℕ) (told : TickAnswer)
    → ((memory.scan ≡ None) ⊎ (running ≡ false) → (told ≡ answer.TickNone) × (new ≡ old) × (set ≡ memory))
    → ((sampled : SampledRow) → memory.scan ≡ Some sampled → running ≡ true → now < sampled.cell.due → (told ≡ answer.NotDue sampled.cell.due) × (new ≡ old) × (set ≡ memory))
    → ((sampled : SampledRow) → memory.scan ≡ Some sampled → running ≡ true → sampled.cell.due ≤ now → IsTickedDue old memory sampled i now told new set) → TickCase old new memory set running i now told
tick_case old new memory set running i now told nothing early due = by_scan memory.scan refl running refl
  where
    idle : (memory.scan ≡ None) ⊎ (running ≡ false) → TickCase old new memory set running i now told
    idle why = let end = nothing why in idles why end.0 end.1 end.2

    by_due : (sampled : SampledRow) → memory.scan ≡ Some sampled → running ≡ true → (b : Bool) → nat_le sampled.cell.due now ≡ b → TickCase old new memory set running i now told
    by_due sampled scan up true is = let late : sampled.cell.due ≤ now = grind (arith, nat_tests) in tries sampled scan up late (due sampled scan up late)
    by_due sampled scan up false is =
        let first : now < sampled.cell.due = grind (arith, nat_tests) in
        let end = early sampled scan up first in
        waits sampled scan up first end.0 end.1 end.2

    by_scan : (o : Option SampledRow) → memory.scan ≡ o → (b : Bool) → running ≡ b → TickCase old new memory set running i now told
    by_scan None scan b up = idle (inl scan)
    by_scan (Some sampled) scan false up = idle (inr up)
    by_scan (Some sampled) scan true up = by_due sampled scan up (nat_le sampled.cell.due now) refl

-- A ROW IN MEMORY

-- what is kept of a row of the machine, beside these tails, and all that they hold
pub record IsRowIn (m : Machine) (held : List TailState) (i : ℕ) (memory : RowMemory) (r : RowState) : Type 0 where
  pub next : r.next ≡ memory.next
  pub cell : r.cell ≡ cell_in memory.scan
  pub period : period_in memory.scan ≡ period_of r.about.method
  pub tail : r.tail ≡ (tail_at held i).samples
  pub bytes : held_bytes m.rows ≡ tails.held_bytes held

-- it changes no more of a row than what an offer or a tick may change
abbrev pub IsPlain : (RowState → RowState) → Type 0
IsPlain f = (q : RowState) → f q ≡ record q { next = (f q).next; tail = (f q).tail; cell = (f q).cell }

-- what is kept of a row and its tail are those of this row
pub record Becomes (memory set : RowMemory) (tail : List Sample) (new : RowState) : Type 0 where
  pub next : new.next ≡ set.next
  pub cell : new.cell ≡ cell_in set.scan
  pub period : period_in set.scan ≡ period_in memory.scan
  pub tail_is : new.tail ≡ tail

-- what is left of a machine, of which one row may have changed that runs: what is kept of that, and its tail
pub data LeavesRow (m : Machine) (p : ℕ) (r : RowState) (memory set : RowMemory) (tail : List Sample) (n : Machine) : Type 0 where
  leaves_all : n ≡ m → set ≡ memory → tail ≡ r.tail → LeavesRow m p r memory set tail n
  leaves_one : (f : RowState → RowState) → n ≡ with_rows m (at p f) → IsPlain f → is_running r.state ≡ true → Becomes memory set tail (f r) → LeavesRow m p r memory set tail n

-- the other rows have the tails that they had
abbrev pub SameOthers : ℕ → List TailState → List TailState → Type 0
SameOthers i old new = (other : ℕ) → other ≢ i → (tail_at new other).samples ≡ (tail_at old other).samples

-- The machine's act ends so. Memory is wanting only where the act would have ended otherwise.
pub record RowEnds (end : Outcome) (m : Machine) (p : ℕ) (r : RowState) (held : List TailState) (i : ℕ) (memory set : RowMemory) (new : List TailState) (Would : Reply → Type 0) (reply : Reply) : Type 0 where
  pub after : Machine
  pub ends : Ends end m reply after
  pub leaves : LeavesRow m p r memory set (tail_at new i).samples after
  pub others : SameOthers i held new
  pub wants : reply ≡ Memory → Would end.answer

-- of a row for which the first three reasons don't apply samples are tried
runs_by : (r : RowState) (ty : PayloadType) → refused_by_row (Some (standing r)) (number_of ty) ≡ None → is_running r.state ≡ true
runs_by r ty why = by_test (is_running r.state) refl
  where
    by_test : (b : Bool) → is_running r.state ≡ b → is_running r.state ≡ true
    by_test true up = up
    by_test false off = absurd (let other = rw off at why in cc (other))

module _ (m : Machine) (p : ℕ) (r : RowState) (held : List TailState) (i : ℕ) (memory : RowMemory) (is : IsRowIn m held i memory r) where
  -- nothing changes
  pub same_row : (end : Outcome) (Would : Reply → Type 0) (reply : Reply) (new : List TailState) (set : RowMemory) → (reply ≡ Memory → ⊥) → end ≡ record { answer = reply; after = m } → set ≡ memory → KeepsTails held new
      → RowEnds end m p r held i memory set new Would reply
  same_row end Would reply new set other end_is set_is keeps =
      let tail : (tail_at new i).samples ≡ r.tail = keeps i ∙ sym is.tail in
      record {
        after = m;
        ends = rw end_is (inl (refl, refl));
        leaves = leaves_all refl set_is tail;
        others = λ j apart. keeps j;
        wants = λ told. absurd (other told);
      }

  -- memory is wanting
  no_memory : (end : Outcome) (Would : Reply → Type 0) (new : List TailState) (set : RowMemory) → Would end.answer → set ≡ memory → KeepsTails held new → RowEnds end m p r held i memory set new Would Memory
  no_memory end Would new set would set_is keeps =
      let tail : (tail_at new i).samples ≡ r.tail = keeps i ∙ sym is.tail in
      record {
        after = m;
        ends = inr (refl, refl);
        leaves = leaves_all refl set_is tail;
        others = λ j apart. keeps j;
        wants = λ told. would;
      }

  -- OFFERS

  module _ (ty : PayloadType) (x : Sample) (now : ℕ) (why : refused_by_row (Some (standing r)) (number_of ty) ≡ None) where
    abbrev kept : Outcome
    kept = record { answer = Kept; after = with_rows m (at p (gains x)) }

    abbrev pub Offers : List TailState → RowMemory → Reply → Type 0
    Offers new set reply = RowEnds (offered_to m p r ty x now) m p r held i memory set new (λ told. told ≡ Kept) reply

    -- to a row that isn't sampled
    by_trial : (o : Outcome) → memory.scan ≡ None → tried m r x now kept ≡ o → offered_to m p r ty x now ≡ o
    by_trial o scan end =
        let method : r.about.method ≡ Monitor = monitored r.about.method (ap period_in (sym scan) ∙ is.period) in
        rw (why, method) end

    trial : (result : Result (Unit {0}) NotKept) → IsTried memory.next (tails.held_bytes held) x.t (length x.line) now result → TriedAs m r x now kept result
    trial result tried = tried_as m r x now memory.next (tails.held_bytes held) kept result is.next is.bytes tried

    pub offer_ends : (told : OfferAnswer) (new : List TailState) (set : RowMemory) → IsOffered held memory i x now told new set → Offers new set (offered_reply told)
    offer_ends offer.Held new set (sampled, scan, keeps, set_is) =
        let method : r.about.method ≡ Scan sampled.period = sampled_at r.about.method sampled.period (ap period_in (sym scan) ∙ is.period) in
        let cell : (with_held x r).cell ≡ cell_in (Some (after sampled (Offered x))) = ap (λ (c : Cell). cell_after 0 c (Offered x)) (is.cell ∙ ap cell_in scan) in
        let tail : (tail_at new i).samples ≡ r.tail = keeps i ∙ sym is.tail in
        record {
          after = with_rows m (at p (with_held x));
          ends = rw (why, method) (inl (refl, refl));
          leaves = leaves_one (with_held x) refl (λ q. refl) (runs_by r ty why)
              (record {
                next = is.next ∙ sym (ap (λ (w : RowMemory). w.next) set_is);
                cell = cell ∙ sym (ap (λ (w : RowMemory). cell_in w.scan) set_is);
                period = ap (λ (w : RowMemory). period_in w.scan) set_is ∙ ap period_in (sym scan);
                tail_is = sym tail;
              });
          others = λ j apart. keeps j;
          wants = λ told. absurd (cc (told));
        }
    offer_ends offer.Kept new set (scan, tried, sets, set_is) =
        let end = by_trial kept scan (trial (Ok tt) tried) in
        let tail : (tail_at new i).samples ≡ r.tail ++ x ∷ [] = sets.own ∙ ap (λ (xs : List Sample). xs ++ x ∷ []) (sym is.tail) in
        record {
          after = with_rows m (at p (gains x));
          ends = rw end (inl (refl, refl));
          leaves = leaves_one (gains x) refl (λ q. refl) (runs_by r ty why)
              (record {
                next = sym (ap (λ (w : RowMemory). w.next) set_is);
                cell = is.cell ∙ sym (ap (λ (w : RowMemory). cell_in w.scan) set_is);
                period = ap (λ (w : RowMemory). period_in w.scan) set_is;
                tail_is = sym tail;
              });
          others = sets.others;
          wants = λ told. absurd (cc (told));
        }
    offer_ends (offer.Dropped reason) new set (scan, late, keeps, set_is) =
        same_row (offered_to m p r ty x now) (λ told. told ≡ Kept) (Dropped reason) new set (λ told. cc (told)) (by_trial (record { answer = Dropped reason; after = m }) scan (trial (Err (refusal.Dropped reason)) late)) set_is keeps
    offer_ends (offer.IntakeFull bytes) new set (scan, full, keeps, set_is) =
        same_row (offered_to m p r ty x now) (λ told. told ≡ Kept) (IntakeFull bytes) new set (λ told. cc (told)) (by_trial (record { answer = IntakeFull bytes; after = m }) scan (trial (Err (refusal.IntakeFull bytes)) full)) set_is keeps
    offer_ends offer.Memory new set (scan, room_for, keeps, set_is) =
        no_memory (offered_to m p r ty x now) (λ told. told ≡ Kept) new set (ap (λ (o : Outcome). o.answer) (by_trial kept scan (trial (Err refusal.Memory) room_for))) set_is keeps

  -- TICKS

  -- a tick would accept what is held
  abbrev pub WouldKeep : Reply → Type 0
  WouldKeep told = (t : ℕ) × (told ≡ TickKept t)

  module _ (now : ℕ) where
    abbrev pub Ticks : List TailState → RowMemory → Reply → Type 0
    Ticks new set reply = RowEnds (ticked_row m p r now) m p r held i memory set new WouldKeep reply

    tick_nothing : (memory.scan ≡ None) ⊎ (is_running r.state ≡ false) → ticked_row m p r now ≡ record { answer = TickNone; after = m }
    tick_nothing (inl none) = let period : period_of r.about.method ≡ None = sym is.period ∙ ap period_in none in rw period refl
    tick_nothing (inr paused) = by_period (period_of r.about.method) refl
      where
        by_period : (o : Option ℕ) → period_of r.about.method ≡ o → ticked_row m p r now ≡ record { answer = TickNone; after = m }
        by_period None period = rw period refl
        by_period (Some n) period = rw (period, paused) refl

    -- nothing changes
    stays : (told : TickAnswer) (new : List TailState) (set : RowMemory) (own : TickAnswer) → (ticked_reply own ≡ Memory → ⊥) → ticked_row m p r now ≡ record { answer = ticked_reply own; after = m } → told ≡ own → new ≡ held → set ≡ memory
        → Ticks new set (ticked_reply told)
    stays told new set own other end told_is new_is set_is =
        subst (λ (a : TickAnswer). Ticks new set (ticked_reply a)) (sym told_is)
        (same_row (ticked_row m p r now) WouldKeep (ticked_reply own) new set other end set_is (λ j. ap (λ (ts : List TailState). (tail_at ts j).samples) new_is))

    module _ (sampled : SampledRow) (scan : memory.scan ≡ Some sampled) (up : is_running r.state ≡ true) where
      period : period_of r.about.method ≡ Some sampled.period
      period = sym is.period ∙ ap period_in scan

      cell : r.cell ≡ sampled.cell
      cell = is.cell ∙ ap cell_in scan

      tick_early : now < sampled.cell.due → ticked_row m p r now ≡ record { answer = NotDue sampled.cell.due; after = m }
      tick_early early =
          let due : r.cell.due ≡ sampled.cell.due = ap (λ (c : Cell). c.due) cell in
          let late : nat_le r.cell.due now ≡ false = grind (arith, nat_tests) in
          rw (period, up, late) (ap (λ d. record { answer = NotDue d; after = m }) due)

      -- a tick that is due ends as what is held does
      due_end : sampled.cell.due ≤ now → ticked_row m p r now ≡ ticked_due m p r sampled.period now
      due_end due =
          let same : r.cell.due ≡ sampled.cell.due = ap (λ (c : Cell). c.due) cell in
          let late : nat_le r.cell.due now ≡ true = grind (arith, nat_tests) in
          rw (period, up, late) refl

      -- the row moves on, and may gain a sample before
      moves : sampled.cell.due ≤ now → (f : RowState → RowState) (reply : Reply) (new : List TailState) (set : RowMemory) → (reply ≡ Memory → ⊥) → IsPlain f → ticked_due m p r sampled.period now ≡ record { answer = reply; after = with_rows m (at p f) }
          → set.scan ≡ Some (after sampled (Ticked now true)) → (f r).cell ≡ cell_after sampled.period r.cell (Ticked now true) → (f r).next ≡ set.next → (f r).tail ≡ (tail_at new i).samples → SameOthers i held new → Ticks new set reply
      moves due f reply new set other plain end scan_is cell_is next tail others =
          record {
            after = with_rows m (at p f);
            ends = rw (due_end due, end) (inl (refl, refl));
            leaves = leaves_one f refl plain up
                (record {
                  next = next;
                  cell = cell_is ∙ (ap (λ (c : Cell). cell_after sampled.period c (Ticked now true)) cell ∙ sym (ap cell_in scan_is));
                  period = ap period_in scan_is ∙ ap period_in (sym scan);
                  tail_is = tail;
                });
            others = others;
            wants = λ told. absurd (other told);
          }

      gives_up : sampled.cell.due ≤ now → (reply : Reply) (new : List TailState) (set : RowMemory) → (reply ≡ Memory → ⊥) → ticked_due m p r sampled.period now ≡ record { answer = reply; after = with_rows m (at p (tick.moved_on sampled.period now)) }
          → set ≡ moved_on memory sampled now → KeepsTails held new → Ticks new set reply
      gives_up due reply new set other end set_is keeps =
          let tail : (tail_at new i).samples ≡ r.tail = keeps i ∙ sym is.tail in
          moves due (tick.moved_on sampled.period now) reply new set other (λ q. refl) end (ap (λ (w : RowMemory). w.scan) set_is) refl (is.next ∙ sym (ap (λ (w : RowMemory). w.next) set_is)) (sym tail) (λ j apart. keeps j)

      due_ends : sampled.cell.due ≤ now → (told : TickAnswer) (new : List TailState) (set : RowMemory) → IsTickedDue held memory sampled i now told new set → Ticks new set (ticked_reply told)
      due_ends due answer.TickNone new set (none, keeps, set_is) =
          let nothing : r.cell.held ≡ None = ap (λ (c : Cell). c.held) cell ∙ none in
          gives_up due TickNone new set (λ told. cc (told)) (rw nothing refl) set_is keeps
      due_ends due (answer.Dropped reason) new set (x, there, late, keeps, set_is) =
          let is_held : r.cell.held ≡ Some x = ap (λ (c : Cell). c.held) cell ∙ there in
          let why : refused_by_time r.next x.t now ≡ Some reason = ap (λ k. refused_by_time k x.t now) is.next ∙ late in
          gives_up due (Dropped reason) new set (λ told. cc (told)) (rw (is_held, why) refl) set_is keeps
      due_ends due (answer.IntakeFull bytes) new set (x, there, tried, keeps, set_is) =
          let is_held : r.cell.held ≡ Some x = ap (λ (c : Cell). c.held) cell ∙ there in
          let why : refused_by_time r.next x.t now ≡ None = ap (λ k. refused_by_time k x.t now) is.next ∙ tried.0 in
          let bytes_are = is.bytes in
          let over : nat_lt intake_room (held_bytes m.rows + (length x.line + 1)) ≡ true = let high = tried.1 in grind (arith, nat_tests) in
          let told : held_bytes m.rows ≡ bytes = bytes_are ∙ sym tried.2 in
          let end : ticked_due m p r sampled.period now ≡ record { answer = IntakeFull bytes; after = m } = rw (is_held, why, over) (ap (λ b. record { answer = IntakeFull b; after = m }) told) in
          same_row (ticked_row m p r now) WouldKeep (IntakeFull bytes) new set (λ told_so. cc (told_so)) (due_end due ∙ end) set_is keeps
      due_ends due answer.Memory new set (x, there, tried, keeps, set_is) =
          let is_held : r.cell.held ≡ Some x = ap (λ (c : Cell). c.held) cell ∙ there in
          let why : refused_by_time r.next x.t now ≡ None = ap (λ k. refused_by_time k x.t now) is.next ∙ tried.0 in
          let bytes_are = is.bytes in
          let fits : nat_lt intake_room (held_bytes m.rows + (length x.line + 1)) ≡ false = let low = tried.1 in grind (arith, nat_tests) in
          let end : (ticked_due m p r sampled.period now).answer ≡ TickKept x.t = rw (is_held, why, fits) refl in
          no_memory (ticked_row m p r now) WouldKeep new set (x.t, ap (λ (o : Outcome). o.answer) (due_end due) ∙ end) set_is keeps
      due_ends due (answer.TickKept t) new set (x, there, t_is, tried, sets, set_is) =
          let is_held : r.cell.held ≡ Some x = ap (λ (c : Cell). c.held) cell ∙ there in
          let why : refused_by_time r.next x.t now ≡ None = ap (λ k. refused_by_time k x.t now) is.next ∙ tried.0 in
          let bytes_are = is.bytes in
          let fits : nat_lt intake_room (held_bytes m.rows + (length x.line + 1)) ≡ false = let low = tried.1 in grind (arith, nat_tests) in
          let f : RowState → RowState = λ q. tick.moved_on sampled.period now (gains x q) in
          let end : ticked_due m p r sampled.period now ≡ record { answer = TickKept t; after = with_rows m (at p f) } = rw (is_held, why, fits) (ap (λ b. record { answer = TickKept b; after = with_rows m (at p f) }) (sym t_is)) in
          let tail : (tail_at new i).samples ≡ r.tail ++ x ∷ [] = sets.own ∙ ap (λ (xs : List Sample). xs ++ x ∷ []) (sym is.tail) in
          moves due f (TickKept t) new set (λ told. cc (told)) (λ q. refl) end (ap (λ (w : RowMemory). w.scan) set_is) refl (sym (ap (λ (w : RowMemory). w.next) set_is)) (sym tail) sets.others
      due_ends due answer.NoRow new set none = absurd none
      due_ends due (answer.NotDue d) new set none = absurd none

    pub tick_ends : (told : TickAnswer) (new : List TailState) (set : RowMemory) → TickCase held new memory set (is_running r.state) i now told → Ticks new set (ticked_reply told)
    tick_ends told new set (idles why told_is new_is set_is) = stays told new set answer.TickNone (λ so. cc (so)) (tick_nothing why) told_is new_is set_is
    tick_ends told new set (waits sampled scan up first told_is new_is set_is) =
        stays told new set (answer.NotDue sampled.cell.due) (λ so. cc (so)) (tick_early sampled scan up first) told_is new_is set_is
    tick_ends told new set (tries sampled scan up late tried) = due_ends sampled scan up late told new set tried
