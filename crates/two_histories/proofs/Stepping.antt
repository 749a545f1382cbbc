-- What a step of the store leaves of its half.
use Rattle.std.proofs.Common.{◌≡◌, ℕ, ◌+◌, ◌<◌, ◌≤◌, List, [], ◌∷◌, Option, Some, None, Bool, true, false, cond, zero, suc, refl, ap, sym, ◌∙◌, subst, arith, inl, inr}
use Rattle.std.specs.Prelude.{slice_get, ◌⊎◌}
use Rattle.std.proofs.lemmas.Option.{same_Some}
use Rattle.pb_messages.specs.declared.about.State.{State}
use Rattle.pb_messages.specs.declared.about.State.TheVariants.{Running, Paused, Retired}
use Rattle.series_model.specs.declared.batch.RowSamples.{RowSamples}
use Rattle.series_model.specs.declared.sample.Query.{Query}
use Rattle.series_model.specs.Series.{over, since, end_of}
use Rattle.act_model.specs.Changes.{of_row, Settles}
use Rattle.act_model.specs.Details.{details_refused, Describes}
use Rattle.act_model.specs.declared.acts.Act.TheVariants.{MoveBegin}
use Rattle.act_model.specs.declared.acts.Answer.TheVariants.{Flushed}
use Rattle.act_model.specs.Growth.{Onward}
use Rattle.act_model.specs.Machine.{Machine, find_row}
use Rattle.act_model.specs.Outcome.{Acts, all_go, refused_at_once, refused, runs, faults_first, faults_between, faults_within, faults_removing, wants_memory, wants_memory_settled}
use Rattle.act_model.specs.Pin.{MakesPin, pins}
use Rattle.act_model.specs.Reply.{Reply}
use Rattle.act_model.specs.Rows.{RowState, durable}
use Rattle.act_model.specs.Sound.{IsSound}
use Rattle.act_model.proofs.Onward.{onward_settled, onward_same, Acts-onward}
use Rattle.act_model.proofs.StepOnward.{step_onward}
use Rattle.act_model.proofs.StepSound.{step_sound}
use Rattle.two_histories.specs.Store.{Lists}
use Rattle.two_histories.specs.ArchiveIntake.{RowLook}
use Rattle.two_histories.specs.ArchiveStore.{StoreHalf, StoreRow, RegisteredRow, durable_at, row_with, rows_with, with_end, with_ends, same_state, changed_at, left_row, left_rows, doubted, machine_of, store_of}
use Rattle.two_histories.specs.StoreStep.{StorePart, Does, BeginsMove, Flushes, PinsAt, DescribesAt, RenamesAt, StoreAnswer, Stored, StoreStep, answer_of, ends_by, PartRunsFrom, PartRuns, MayAskStore, doors_of, OverTail, FlushesBatch, appends, seen_by, number_by, rename_refused_at}
use Rattle.two_histories.proofs.Batches.{BatchFits}
use Rattle.two_histories.proofs.Closing.{IsClosed, is_base, may_be_base}
use Rattle.two_histories.proofs.Durables.{durable_in, durable_is, in_rows_with, in_ended, in_left_rows}
use Rattle.two_histories.proofs.Flushing.{LeavesSound, leaves_sound, FlushWent, rested, failed, flushed, RowsStay, stay_on, flush_went, FlushDone, flush_done}
use Rattle.two_histories.proofs.Going.{does_went, begins_went, pins_went, describes_went}
use Rattle.two_histories.proofs.Pinning.{pins_keep, describes_keep}
use Rattle.two_histories.proofs.Renaming.{MayGoOn, found_name, rename_free, renames_leave, renames_went}
use Rattle.two_histories.proofs.Retailed.{ended_back, ended_forth}
use Rattle.two_histories.proofs.Settling.{HasDoubtedTails, SettledAt, Went, NoneDoubted, ClosesNone, Closes, was_closed, is_closed}

-- THE MACHINE'S ROWS AND THE HALF'S

same_state_is : (a b : State) → same_state a b ≡ true → b ≡ a
same_state_is Running Running is = refl
same_state_is Running Paused is = absurd cc
same_state_is Running Retired is = absurd cc
same_state_is Paused Running is = absurd cc
same_state_is Paused Paused is = refl
same_state_is Paused Retired is = absurd cc
same_state_is Retired Running is = absurd cc
same_state_is Retired Paused is = absurd cc
same_state_is Retired Retired is = refl

pub row_forward : (tails : Lists) (k : ℕ) (rows : List StoreRow) (i : ℕ) (row : StoreRow) → slice_get rows i ≡ Some row → slice_get (rows_with tails k rows) i ≡ Some (row_with (tails (k + i)) row)
row_forward tails k [] i row here = absurd cc
row_forward tails k (x ∷ rows) zero row here = let same : x ≡ row = cc in let plain : k ≡ k + 0 = omega arith in ap (λ r. Some (row_with (tails k) r)) same ∙ ap (λ n. Some (row_with (tails n) row)) plain
row_forward tails k (x ∷ rows) (suc i) row here = let next : (k + 1) + i ≡ k + suc i = omega arith in row_forward tails (k + 1) rows i row here ∙ ap (λ n. Some (row_with (tails n) row)) next

pub record RowBack (tails : Lists) (k : ℕ) (rows : List StoreRow) (i : ℕ) (row : RowState) : Type 0 where
  pub of : StoreRow
  pub here : slice_get rows i ≡ Some of
  pub is : row ≡ row_with (tails (k + i)) of

pub row_back : (tails : Lists) (k : ℕ) (rows : List StoreRow) (i : ℕ) (row : RowState) → slice_get (rows_with tails k rows) i ≡ Some row → RowBack tails k rows i row
row_back tails k [] i row there = absurd cc
row_back tails k (x ∷ rows) zero row there = let first : row ≡ row_with (tails k) x = cc in let plain : k ≡ k + 0 = omega arith in record { of = x; here = refl; is = first ∙ ap (λ n. row_with (tails n) x) plain }
row_back tails k (x ∷ rows) (suc i) row there = let rest = row_back tails (k + 1) rows i row there in let next : (k + 1) + i ≡ k + suc i = omega arith in record { of = rest.of; here = rest.here; is = rest.is ∙ ap (λ n. row_with (tails n) rest.of) next }

pub left_forward : (n : ℕ) (olds : List StoreRow) (j : ℕ) (rows : List RowState) (i : ℕ) (row : RowState) → slice_get rows i ≡ Some row → slice_get (left_rows n olds j rows) i ≡ Some (left_row n (slice_get olds (j + i)) row)
left_forward n olds j [] i row here = absurd cc
left_forward n olds j (x ∷ rows) zero row here = let same : x ≡ row = cc in let plain : j ≡ j + 0 = omega arith in ap (λ r. Some (left_row n (slice_get olds j) r)) same ∙ ap (λ k. Some (left_row n (slice_get olds k) row)) plain
left_forward n olds j (x ∷ rows) (suc i) row here = let next : (j + 1) + i ≡ j + suc i = omega arith in left_forward n olds (j + 1) rows i row here ∙ ap (λ k. Some (left_row n (slice_get olds k) row)) next

pub left_back : (n : ℕ) (olds : List StoreRow) (j : ℕ) (rows : List RowState) (i : ℕ) (row : StoreRow) → slice_get (left_rows n olds j rows) i ≡ Some row → (was : RowState) × (slice_get rows i ≡ Some was) × (row ≡ left_row n (slice_get olds (j + i)) was)
left_back n olds j [] i row there = absurd cc
left_back n olds j (x ∷ rows) zero row there = let first : row ≡ left_row n (slice_get olds j) x = cc in let plain : j ≡ j + 0 = omega arith in (x, refl, first ∙ ap (λ k. left_row n (slice_get olds k) x) plain)
left_back n olds j (x ∷ rows) (suc i) row there = let rest = left_back n olds (j + 1) rows i row there in let next : (j + 1) + i ≡ j + suc i = omega arith in (rest.0, rest.1, rest.2 ∙ ap (λ k. left_row n (slice_get olds k) rest.0) next)

-- a row of the half's machine
pub record HalfRow (tails : Lists) (rows : List StoreRow) (i : ℕ) (row : RowState) : Type 0 where
  pub of : StoreRow
  pub here : slice_get rows i ≡ Some of
  pub tail : row.tail ≡ tails i
  pub about : row.about ≡ of.about
  pub state : row.state ≡ of.state
  pub base : row.base ≡ of.base

pub half_back : (tails : Lists) (rows : List StoreRow) (i : ℕ) (row : RowState) → slice_get (with_ends (rows_with tails 0 rows)) i ≡ Some row → HalfRow tails rows i row
half_back tails rows i row there =
    let e = ended_back (rows_with tails 0 rows) i row there in
    let b = row_back tails 0 rows i e.0 e.1 in
    let plain : 0 + i ≡ i = omega arith in
    record {
      of = b.of;
      here = b.here;
      tail = ap (λ (r : RowState). r.tail) e.2 ∙ (ap (λ (r : RowState). r.tail) b.is ∙ ap (λ n. tails n) plain);
      about = ap (λ (r : RowState). r.about) e.2 ∙ ap (λ (r : RowState). r.about) b.is;
      state = ap (λ (r : RowState). r.state) e.2 ∙ ap (λ (r : RowState). r.state) b.is;
      base = ap (λ (r : RowState). r.base) e.2 ∙ ap (λ (r : RowState). r.base) b.is;
    }

-- the row as the half's machine has it
abbrev pub half_row : Lists → List StoreRow → ℕ → StoreRow → RowState
half_row tails rows i row = with_end (rows_with tails 0 rows) i (row_with (tails (0 + i)) row)

pub half_forth : (tails : Lists) (rows : List StoreRow) (i : ℕ) (row : StoreRow) → slice_get rows i ≡ Some row → slice_get (with_ends (rows_with tails 0 rows)) i ≡ Some (half_row tails rows i row)
half_forth tails rows i row here = ended_forth (rows_with tails 0 rows) i (row_with (tails (0 + i)) row) (row_forward tails 0 rows i row here)

has_tails : (doors : ℕ) (m : StoreHalf) → HasDoubtedTails (machine_of doors m)
has_tails doors m i row there = (half_back (doubted m.doubt) m.rows i row there).tail

-- WHAT A STEP LEAVES

-- a row's durable samples are as they were, or have what was in doubt behind them
abbrev pub SettledTo : StoreHalf → Lists → ℕ → Type 0
SettledTo old mid i = (mid i ≡ durable_at old.rows i) ⊎ ((row : StoreRow) × (slice_get old.rows i ≡ Some row) × (mid i ≡ over (durable_at old.rows i) (doubted old.doubt i)))

-- the doubt is as it was, and so are the rows
pub record Stays (old new : StoreHalf) : Type 0 where
  pub doubt : new.doubt ≡ old.doubt
  pub durable : (i : ℕ) → durable_at new.rows i ≡ durable_at old.rows i
  pub rows : (i : ℕ) (row : StoreRow) → slice_get new.rows i ≡ Some row → (was : StoreRow) × (slice_get old.rows i ≡ Some was)

-- how it went: no sample was written, some may be, or all are
pub data HalfWent (old new : StoreHalf) (batch : List RowSamples) : Type 0 where
  half_rested : ((i : ℕ) → SettledTo old (durable_at new.rows) i) → NoneDoubted new.doubt ⊎ Stays old new → HalfWent old new batch
  half_failed : ((i : ℕ) → SettledTo old (durable_at new.rows) i) → ((i : ℕ) → doubted new.doubt i ≡ since (end_of (durable_at new.rows i)) (of_row i batch)) → HalfWent old new batch
  half_flushed : (mid : Lists) → ((i : ℕ) → SettledTo old mid i) → ((i : ℕ) → durable_at new.rows i ≡ over (mid i) (of_row i batch)) → NoneDoubted new.doubt → HalfWent old new batch

-- all of the batch is durable
pub record HalfDone (old new : StoreHalf) (batch : List RowSamples) : Type 0 where
  pub mid : Lists
  pub settled : (i : ℕ) → SettledTo old mid i
  pub all : (i : ℕ) → durable_at new.rows i ≡ over (mid i) (of_row i batch)

-- the row after the entry with which the store's history has the length n: as it was, or changed by that
pub record Follows (n : ℕ) (row now : StoreRow) : Type 0 where
  pub about : now.about ≡ row.about
  pub name : now.name ≡ row.name
  pub number : ((now.changed ≡ row.changed) × (now.state ≡ row.state)) ⊎ (now.changed ≡ n)

-- a row's change number was there before, or is that of the entry
pub data NumberFrom (n : ℕ) (rows : List StoreRow) (i changed : ℕ) : Type 0 where
  is_new : changed ≡ n → NumberFrom n rows i changed
  was_there : (row : StoreRow) → slice_get rows i ≡ Some row → changed ≡ row.changed → NumberFrom n rows i changed

-- Nothing more is accepted of the row.
abbrev pub IsClosedAt : StoreHalf → ℕ → Type 0
IsClosedAt m r = IsClosed (machine_of 0 m).rows m.doubt r

-- the row was paused, hadn't changed since the Look, and all of its tail is durable
pub record GoesOn (old new : StoreHalf) (look : RowLook) (r : ℕ) : Type 0 where
  pub row : StoreRow
  pub here : slice_get old.rows r ≡ Some row
  pub name : row.name ≡ look.name
  pub paused : row.state ≡ Paused
  pub seen : row.changed ≤ seen_by look
  pub all : since (end_of (durable_at new.rows r)) look.tail ≡ []

-- a row that is closed was so before, or its variable has just got a new name, or may have
pub data ClosedBy (n : ℕ) (old : StoreHalf) (part : StorePart) (new : StoreHalf) (r : ℕ) : Type 0 where
  was_closed_at : IsClosedAt old r → ClosedBy n old part new r
  has_new_name : (newname : List ℕ) (look : RowLook) → part ≡ RenamesAt newname look → (seen_by look < n → GoesOn old new look r) → ClosedBy n old part new r

pub record StoreDid (n : ℕ) (old : StoreHalf) (part : StorePart) (new : StoreHalf) (batch : List RowSamples) : Type 0 where
  pub sound : IsSound (machine_of 0 new)
  pub told : new.told ≡ true
  pub rows : (i : ℕ) (row : StoreRow) → slice_get old.rows i ≡ Some row → (now : StoreRow) × (slice_get new.rows i ≡ Some now) × Follows n row now
  pub numbers : (i : ℕ) (now : StoreRow) → slice_get new.rows i ≡ Some now → NumberFrom n old.rows i now.changed
  pub closed : (r : ℕ) → IsClosedAt new r → ClosedBy n old part new r
  pub went : HalfWent old new batch

-- the batch that a part carries
abbrev pub batch_of_part : StorePart → List RowSamples
batch_of_part (Does act) = []
batch_of_part (BeginsMove store now doors) = []
batch_of_part (Flushes batch upto left doors) = batch
batch_of_part (PinsAt query look) = []
batch_of_part (DescribesAt look) = []
batch_of_part (RenamesAt newname look) = []

module _ (n doors : ℕ) (old : StoreHalf) (after : Machine) where
  abbrev m0 : Machine
  m0 = machine_of doors old

  abbrev new : StoreHalf
  new = store_of n old after

  was : (i : ℕ) → durable_in m0.rows i ≡ durable_at old.rows i
  was i = in_ended (rows_with (doubted old.doubt) 0 old.rows) i ∙ in_rows_with (doubted old.doubt) 0 old.rows i

  now_is : (i : ℕ) → durable_at new.rows i ≡ durable_in after.rows i
  now_is i = in_left_rows n old.rows 0 after.rows i

  settled_half : (rows : List RowState) (mid : Lists) (i : ℕ) → mid i ≡ durable_in rows i → SettledAt m0 rows i → SettledTo old mid i
  settled_half rows mid i is (inl same) = inl (is ∙ (same ∙ was i))
  settled_half rows mid i is (inr more) =
      let back = half_back (doubted old.doubt) old.rows i more.0 more.1 in
      let before : durable more.0 ≡ durable_at old.rows i = sym (durable_is m0.rows i more.0 more.1) ∙ was i in
      inr (back.of, back.here, is ∙ (more.2 ∙ ap (λ w. over w (doubted old.doubt i)) before))

  went_half : (batch : List RowSamples) → Went m0 after → HalfWent old new batch
  went_half batch went = half_rested (λ i. settled_half after.rows (durable_at new.rows) i (now_is i) (went.settled i)) (by_doubt went.doubt)
    where
      by_doubt : NoneDoubted after.doubt ⊎ ((after.doubt ≡ old.doubt) × (after.rows ≡ m0.rows)) → NoneDoubted after.doubt ⊎ Stays old new
      by_doubt (inl none) = inl none
      by_doubt (inr same) =
          inr (record {
            doubt = same.0;
            durable = λ i. now_is i ∙ (ap (λ w. durable_in w i) same.1 ∙ was i);
            rows = λ i row there. let left = left_back n old.rows 0 after.rows i row there in let back = half_back (doubted old.doubt) old.rows i left.0 (ap (λ w. slice_get w i) (sym same.1) ∙ left.1) in (back.of, back.here);
          })

  flush_half : (batch : List RowSamples) → FlushWent m0 after batch → HalfWent old new batch
  flush_half batch (rested went) = went_half batch went
  flush_half batch (failed settled doubt) =
      half_failed (λ i. settled_half after.rows (durable_at new.rows) i (now_is i) (settled i)) (λ i. doubt i ∙ ap (λ w. since (end_of w) (of_row i batch)) (sym (now_is i)))
  flush_half batch (flushed mid settled all none) = half_flushed (λ i. durable_in mid i) (λ i. settled_half mid (λ k. durable_in mid k) i refl (settled i)) (λ i. now_is i ∙ all i) none

  done_half : (batch : List RowSamples) → FlushDone m0 after batch → HalfDone old new batch
  done_half batch done = record { mid = λ i. durable_in done.0 i; settled = λ i. settled_half done.0 (λ k. durable_in done.0 k) i refl (done.1 i); all = λ i. now_is i ∙ done.2 i }

  follows : (row : StoreRow) (x : RowState) → x.about ≡ row.about → x.name ≡ row.name → Follows n row (left_row n (Some row) x)
  follows row x about name = record { about = about; name = name; number = by_test (same_state row.state x.state) refl }
    where
      by_test : (b : Bool) → same_state row.state x.state ≡ b → ((cond b row.changed n ≡ row.changed) × (x.state ≡ row.state)) ⊎ (cond b row.changed n ≡ n)
      by_test true is = inl (refl, same_state_is row.state x.state is)
      by_test false is = inr refl

  rows_half : RowsStay m0.rows after.rows → (i : ℕ) (row : StoreRow) → slice_get old.rows i ≡ Some row → (now : StoreRow) × (slice_get new.rows i ≡ Some now) × Follows n row now
  rows_half stay i row here =
      let on = stay i (half_row (doubted old.doubt) old.rows i row) (half_forth (doubted old.doubt) old.rows i row here) in
      let plain : 0 + i ≡ i = omega arith in
      let was : slice_get old.rows (0 + i) ≡ Some row = ap (λ k. slice_get old.rows k) plain ∙ here in
      let left = left_forward n old.rows 0 after.rows i on.0 on.1 in
      (left_row n (Some row) on.0, left ∙ ap (λ o. Some (left_row n o on.0)) was, follows row on.0 on.2.0 on.2.1)

  numbers_half : (i : ℕ) (now : StoreRow) → slice_get new.rows i ≡ Some now → NumberFrom n old.rows i now.changed
  numbers_half i now there =
      let left = left_back n old.rows 0 after.rows i now there in
      let plain : 0 + i ≡ i = omega arith in
      let is : now ≡ left_row n (slice_get old.rows i) left.0 = left.2 ∙ ap (λ k. left_row n (slice_get old.rows k) left.0) plain in
      subst (λ (r : StoreRow). NumberFrom n old.rows i r.changed) (sym is) (by_old left.0 (slice_get old.rows i) refl)
    where
      by_old : (x : RowState) (o : Option StoreRow) → slice_get old.rows i ≡ o → NumberFrom n old.rows i (left_row n o x).changed
      by_old x None none = is_new refl
      by_old x (Some row) here = by_test (same_state row.state x.state)
        where
          by_test : (b : Bool) → NumberFrom n old.rows i (cond b row.changed n)
          by_test true = was_there row here refl
          by_test false = is_new refl

  -- the half's bases are the machine's
  pub closed_after : (r : ℕ) → IsClosedAt new r → IsClosed after.rows after.doubt r
  closed_after r (is_base b) =
      let h = half_back (doubted after.doubt) new.rows b.at b.row b.here in
      let left = left_back n old.rows 0 after.rows b.at h.of h.here in
      is_base (record { at = b.at; row = left.0; here = left.1; base = sym (ap (λ (r : StoreRow). r.base) left.2) ∙ (sym h.base ∙ b.base) })
  closed_after r (may_be_base name row here is) =
      let h = half_back (doubted after.doubt) new.rows r row here in let left = left_back n old.rows 0 after.rows r h.of h.here in may_be_base name left.0 left.1 is

  none_closed : (part : StorePart) → ClosesNone m0 after → (r : ℕ) → IsClosedAt new r → ClosedBy n old part new r
  none_closed part closes r c = was_closed_at (closed_first (closes r (closed_after r c)))
    where
      closed_first : IsClosed m0.rows m0.doubt r → IsClosedAt old r
      closed_first (is_base b) = is_base b
      closed_first (may_be_base name row here is) = may_be_base name row here is

  did : (part : StorePart) (batch : List RowSamples) → LeavesSound after → after.told ≡ true → RowsStay m0.rows after.rows → ((r : ℕ) → IsClosedAt new r → ClosedBy n old part new r) → HalfWent old new batch → StoreDid n old part new batch
  did part batch sound told stay closed went = record { sound = sound n old.rows; told = told; rows = rows_half stay; numbers = numbers_half; closed = closed; went = went }

-- PARTS

pinned_on : {who : ℕ} {name : List ℕ} {query : Query} {mid end : Machine} {reply : Reply} → MakesPin who name query mid reply end → (end.told ≡ mid.told) × (end.rule ≡ mid.rule)
pinned_on (pins i row pin pieces a b c d e order f few same) = (ap (λ (m : Machine). m.told) same, ap (λ (m : Machine). m.rule) same)

pins_on : (who : ℕ) (query : Query) (look : RowLook) {old new : Machine} {reply : Reply} → IsSound old → Acts (details_refused look.name) (OverTail look (MakesPin who look.name query)) (λ m. None) all_go old reply new → Onward old new
pins_on who query look = Acts-onward (details_refused look.name) (OverTail look (MakesPin who look.name query)) (λ m. None) all_go
    (λ mid answer new s free ran. let kept = pinned_on ran.1 in onward_same mid new (ap (λ (m : Machine). m.told) ran.2 ∙ kept.0) (ap (λ (m : Machine). m.rule) ran.2 ∙ kept.1) (ap (λ (m : Machine). m.rows) ran.2))

describes_on : (look : RowLook) {old new : Machine} {reply : Reply} → IsSound old → Acts (details_refused look.name) (OverTail look (Describes look.name)) (λ m. None) all_go old reply new → Onward old new
describes_on look = Acts-onward (details_refused look.name) (OverTail look (Describes look.name)) (λ m. None) all_go
    (λ mid answer new s free ran. onward_same mid new (ap (λ (m : Machine). m.told) ran.2 ∙ ap (λ (m : Machine). m.told) ran.1.same) (ap (λ (m : Machine). m.rule) ran.2 ∙ ap (λ (m : Machine). m.rule) ran.1.same) (ap (λ (m : Machine). m.rows) ran.2))

flush_told : (batch : List RowSamples) (left doors : ℕ) {old new : Machine} {reply : Reply} → IsSound old → Acts (λ m. None) (FlushesBatch batch left doors) (λ m. Some (appends batch m)) all_go old reply new → new.told ≡ old.told
flush_told batch left doors s (refused_at_once answer p) = absurd cc
flush_told batch left doors s (refused answer p settles q same r) = absurd cc
flush_told batch left doors s (runs answer p settles q ran r) = ap (λ (m : Machine). m.told) ran.1 ∙ (onward_settled s settles).told
flush_told batch left doors s (faults_first p same q) = ap (λ (m : Machine). m.told) same
flush_told batch left doors s (faults_between p settles same q) = ap (λ (m : Machine). m.told) same ∙ (onward_settled s settles).told
flush_told batch left doors s (faults_within change p settles q is same u) = ap (λ (m : Machine). m.told) same ∙ (onward_settled s settles).told
flush_told batch left doors s (faults_removing answer removes p settles q ran r) = ap (λ (m : Machine). m.told) ran.1 ∙ (onward_settled s settles).told
flush_told batch left doors s (wants_memory same q) = ap (λ (m : Machine). m.told) same
flush_told batch left doors s (wants_memory_settled p settles same q) = ap (λ (m : Machine). m.told) same ∙ (onward_settled s settles).told

-- what a new name closes
goes_on : (n : ℕ) (old : StoreHalf) (after : Machine) (newname : List ℕ) (look : RowLook) (found : Option ℕ) (r : ℕ) → (mid : Machine) → Settles (machine_of 0 old) mid → IsSound (machine_of 0 old) → old.told ≡ true
    → rename_refused_at (number_by n old.rows) found newname look mid ≡ None → find_row mid look.name ≡ Some r → durable_in after.rows r ≡ durable_in mid.rows r → seen_by look < n → GoesOn old (store_of n old after) look r
goes_on n old after newname look found r mid settles s t free here same low =
    let x = rename_free (number_by n old.rows) found newname look mid free r here in
    by_old x (slice_get old.rows r) refl
  where
    by_old : MayGoOn (number_by n old.rows) newname look mid r → (o : Option StoreRow) → slice_get old.rows r ≡ o → GoesOn old (store_of n old after) look r
    by_old x None none = absurd (let late : changed_at n (slice_get old.rows r) Paused ≤ seen_by look = x.seen in let number : changed_at n (slice_get old.rows r) Paused ≡ n = ap (λ o. changed_at n o Paused) none in omega arith)
    by_old x (Some row) there = by_state (same_state row.state Paused) refl
      where
        late : changed_at n (Some row) Paused ≤ seen_by look
        late = subst (λ o. changed_at n o Paused ≤ seen_by look) there x.seen

        by_state : (b : Bool) → same_state row.state Paused ≡ b → GoesOn old (store_of n old after) look r
        by_state false is = absurd (let number : changed_at n (Some row) Paused ≡ n = rw is refl in let low' : changed_at n (Some row) Paused ≤ seen_by look = late in omega arith)
        by_state true is =
            let number : changed_at n (Some row) Paused ≡ row.changed = rw is refl in
            let late' : changed_at n (Some row) Paused ≤ seen_by look = late in
            let on = (onward_settled s settles).rows t r (half_row (doubted old.doubt) old.rows r row) (half_forth (doubted old.doubt) old.rows r row there) in
            let one : on.0 ≡ x.row = same_Some on.0 x.row (sym on.1 ∙ x.here) in
            let ends : durable_at (store_of n old after).rows r ≡ durable x.row = in_left_rows n old.rows 0 after.rows r ∙ (same ∙ durable_is mid.rows r x.row x.here) in
            record {
              row = row;
              here = there;
              name = sym on.2.name ∙ (ap (λ (y : RowState). y.name) one ∙ found_name mid look.name r x.row here x.here);
              paused = sym (same_state_is row.state Paused is);
              seen = omega arith;
              all = ap (λ w. since (end_of w) look.tail) ends ∙ x.all;
            }

part_did : (who n : ℕ) (old : StoreHalf) (part : StorePart) (reply : Reply) (after : Machine) → MayAskStore part → PartRuns who (number_by n old.rows) part (machine_of (doors_of part) old) reply after → IsSound (machine_of 0 old) → old.told ≡ true
    → BatchFits (machine_of 0 old).rows old.doubt (batch_of_part part) → StoreDid n old part (store_of n old after) (batch_of_part part)
part_did who n old (Does act) reply after ask ran s t fits =
    let m = machine_of 0 old in
    let on = step_onward who act m after reply s ask.1 ran in
    let went = does_went who act m after reply ask.0 s t (has_tails 0 old) ran in
    did n 0 old after (Does act) [] (leaves_sound after (step_sound who act m after reply s ask.1 ran)) (on.told ∙ t) (stay_on m after t on) (none_closed n 0 old after (Does act) went.1) (went_half n 0 old after [] went.0)
part_did who n old (BeginsMove store now doors) reply after ask ran s t fits =
    let m = machine_of doors old in
    let on = step_onward who (MoveBegin store now) m after reply s ask ran in
    let went = begins_went who store now m after reply s t (has_tails doors old) ran in
    did n doors old after (BeginsMove store now doors) [] (leaves_sound after (step_sound who (MoveBegin store now) m after reply s ask ran)) (on.told ∙ t) (stay_on m after t on) (none_closed n doors old after (BeginsMove store now doors) went.1) (went_half n doors old after [] went.0)
part_did who n old (Flushes batch upto left doors) reply after ask ran s t fits =
    let m = machine_of doors old in
    let all = flush_went batch left doors {old = m} {new = after} s t (has_tails doors old) fits ran in
    did n doors old after (Flushes batch upto left doors) batch all.0 (flush_told batch left doors {old = m} {new = after} s ran ∙ t) all.2 (none_closed n doors old after (Flushes batch upto left doors) all.3) (flush_half n doors old after batch all.1)
part_did who n old (PinsAt query look) reply after ask ran s t fits =
    let m = machine_of 0 old in
    let on = pins_on who query look {old = m} {new = after} s ran in
    let went = pins_went who query look m after reply s t (has_tails 0 old) ran in
    did n 0 old after (PinsAt query look) [] (leaves_sound after (pins_keep who query look m after reply s ran)) (on.told ∙ t) (stay_on m after t on) (none_closed n 0 old after (PinsAt query look) went.1) (went_half n 0 old after [] went.0)
part_did who n old (DescribesAt look) reply after ask ran s t fits =
    let m = machine_of 0 old in
    let on = describes_on look {old = m} {new = after} s ran in
    let went = describes_went look m after reply s t (has_tails 0 old) ran in
    did n 0 old after (DescribesAt look) [] (leaves_sound after (describes_keep look m after reply s ran)) (on.told ∙ t) (stay_on m after t on) (none_closed n 0 old after (DescribesAt look) went.1) (went_half n 0 old after [] went.0)
part_did who n old (RenamesAt newname look) reply after ask ran s t fits =
    let m = machine_of 0 old in
    let number = number_by n old.rows in
    let left = renames_leave number ran.0 newname look {old = m} {new = after} s t ran.1 in
    let went = renames_went number ran.0 newname look {old = m} {new = after} s t (has_tails 0 old) ran.1 in
    did n 0 old after (RenamesAt newname look) [] left.0 left.2 left.1 (λ r c. by_kind r (went.1 r (closed_after n 0 old after r c))) (went_half n 0 old after [] went.0)
  where
    by_kind : (r : ℕ) → Closes (rename_refused_at (number_by n old.rows) ran.0 newname look) (λ m i. find_row m look.name ≡ Some i) (machine_of 0 old) after r → ClosedBy n old (RenamesAt newname look) (store_of n old after) r
    by_kind r (was_closed c) = was_closed_at c
    by_kind r (is_closed mid settles free found same) = has_new_name newname look refl (goes_on n old after newname look ran.0 r mid settles s t free found same)

-- where files are told, the rows end as their samples tell
told_runs : {who n : ℕ} {old new : StoreHalf} {part : StorePart} {answer : StoreAnswer} → (step : StoreStep who n old part answer new) → old.told ≡ true → PartRuns who (number_by n old.rows) part (machine_of (doors_of part) old) step.reply step.after
told_runs {who} {n} {old} {part = part} step t = subst (λ (b : Bool). PartRunsFrom (ends_by b step.cut) who (number_by n old.rows) part (machine_of (doors_of part) old) step.reply step.after) t step.runs

pub store_did : {who n : ℕ} {old new : StoreHalf} {part : StorePart} {answer : StoreAnswer} → StoreStep who n old part answer new → IsSound (machine_of 0 old) → old.told ≡ true → BatchFits (machine_of 0 old).rows old.doubt (batch_of_part part) → StoreDid n old part new (batch_of_part part)
store_did {who} {n} {old} {part = part} step s t fits = subst (λ m. StoreDid n old part m (batch_of_part part)) (sym step.left) (part_did who n old part step.reply step.after step.asked (told_runs step t) s t fits)

-- A FLUSH THAT IS DONE

record IsFlushed (reply : Reply) : Type 0 where
  samples : ℕ
  bytes : ℕ
  doors : ℕ
  is : reply ≡ Flushed samples bytes doors

is_flushed : (batch : List RowSamples) (upto left doors n : ℕ) (by : ℕ → ℕ) (new : StoreHalf) (reply told : Reply) (ends : ℕ → ℕ) (rows : List RegisteredRow) (len : ℕ)
    → answer_of (Flushes batch upto left doors) n by new reply ≡ Stored told ends rows len → IsFlushed reply
is_flushed batch upto left doors n by new (Flushed samples bytes doors_left) told ends rows len is = record { samples = samples; bytes = bytes; doors = doors_left; is = refl }
is_flushed batch upto left doors n by new other told ends rows len is = absurd cc

pub flush_stored : {who n : ℕ} {old new : StoreHalf} {part : StorePart} {answer : StoreAnswer} → StoreStep who n old part answer new
    → (batch : List RowSamples) (upto left doors : ℕ) → part ≡ Flushes batch upto left doors
    → (told : Reply) (ends : ℕ → ℕ) (rows : List RegisteredRow) (len : ℕ) → answer ≡ Stored told ends rows len
    → IsSound (machine_of 0 old) → old.told ≡ true → BatchFits (machine_of 0 old).rows old.doubt batch → HalfDone old new batch
flush_stored {who} {n} {old} {new} step batch upto left doors part_is told ends rows len answer_is s t fits =
    let m = machine_of doors old in
    let ran = subst (λ p. PartRuns who (number_by n old.rows) p (machine_of (doors_of p) old) step.reply step.after) part_is (told_runs step t) in
    let by : ℕ → ℕ = ends_by old.told step.ends step.after.rows in
    let stored : answer_of (Flushes batch upto left doors) n by new step.reply ≡ Stored told ends rows len = sym (ap (λ p. answer_of p n by new step.reply) part_is) ∙ (sym step.answered ∙ answer_is) in
    let one = is_flushed batch upto left doors n by new step.reply told ends rows len stored in
    let done = flush_done batch left doors {old = m} {new = step.after} s t (has_tails doors old) fits ran one.samples one.bytes one.doors one.is in
    subst (λ k. HalfDone old k batch) (sym step.left) (done_half n doors old step.after batch done)
