-- Once nothing is held, the mover's acts keep it so.
use Rattle.std.proofs.Common.{◌≡◌, ◌≢◌, ℕ, ◌+◌, ◌≤◌, List, [], ◌∷◌, length, Option, Some, None, Bool, true, false, cond, zero, suc, refl, ap, sym, ◌∙◌, arith, subst, inl, inr, append-nil}
use Rattle.std.specs.Prelude.{◌==◌, nat_le, nat_lt, slice_get}
use Rattle.std.specs.List.{AllByRecursion}
use Rattle.std.specs.Ordering.{nat_cmp}
use Rattle.std.specs.FinMap.{FinMap, get}
use Rattle.series_model.specs.Limits.{intake_room}
use Rattle.series_model.specs.declared.sample.Sample.{Sample}
use Rattle.series_model.specs.Series.{over, since, end_of}
use Rattle.series_model.specs.declared.admission.Reason.{Reason}
use Rattle.series_model.specs.Admission.{refused_by_time}
use Rattle.act_model.specs.declared.acts.Act.{Act}
use Rattle.act_model.specs.declared.acts.Act.TheVariants.{MoveBegin, MoveStep, Sweep, Doors}
use Rattle.act_model.specs.declared.acts.Answer.TheVariants.{NoRow, Flushed, Memory}
use Rattle.pb_messages.specs.declared.about.State.TheVariants.{Retired}
use Rattle.act_model.specs.Reply.{Reply}
use Rattle.act_model.specs.Rows.{RowState, Store, Short, Medium, Long, durable, accepted, is_running, period_of, tier, with_tier, next_store}
use Rattle.act_model.specs.Limbo.{RowFile, files_of, put}
use Rattle.act_model.specs.Machine.{Machine, MoveState, Change, AddsRow, SetsState, Renames, Appends, Publishes, Unlists, held_bytes}
use Rattle.act_model.specs.Changes.{made, changed, at, of_row, published, retired, without_held, Settles, no_doubt, as_not_made, as_made}
use Rattle.act_model.specs.Outcome.{Outcome, Acts, refused_at_once, refused, runs, faults_first, faults_between, faults_within, faults_removing, wants_memory, wants_memory_settled, all_go}
use Rattle.act_model.specs.Flush.{FlushStep}
use Rattle.act_model.specs.Tick.{TickStep, ticked, ticked_row, ticked_due}
use Rattle.act_model.specs.MoveBegin.{Begins, begins, all_run, none_to_make}
use Rattle.act_model.specs.MoveStep.{GoesOn, copies, has_copied, publishes, retires, again, damaged, no_move, change_of, ends_move}
use Rattle.act_model.specs.Sweep.{Sweeps}
use Rattle.act_model.specs.Step.{Step, store_of}
use Rattle.act_model.specs.History.{Entry, Runs}
use Rattle.act_model.proofs.Rows.{Came, from_row, is_new, came}
use Rattle.act_model.proofs.MadeLaws.{IsFresh, fresh, fresh_over, added_fresh}
use Rattle.act_model.proofs.FlushLeft.{no_rows}

-- no row has a tail
abbrev pub IsDrained : Machine → Type 0
IsDrained m = (i : ℕ) (row : RowState) → slice_get m.rows i ≡ Some row → row.tail ≡ []

-- then all that is accepted is durable
pub drained_durable : (row : RowState) → row.tail ≡ [] → durable row ≡ accepted row
drained_durable row none = sym (ap (λ (w : List Sample). over (durable row) w) none ∙ append-nil (durable row))

drained_same : (old new : Machine) → new.rows ≡ old.rows → IsDrained old → IsDrained new
drained_same old new is d i row here = d i row (ap (λ (w : List RowState). slice_get w i) (sym is) ∙ here)

tier_tail : (row : RowState) (store : Store) (xs : List Sample) → (with_tier row store xs).tail ≡ row.tail
tier_tail row Short xs = refl
tier_tail row Medium xs = refl
tier_tail row Long xs = refl

at_tail : (k : ℕ) (f : RowState → RowState) (i : ℕ) (row : RowState) → (f row).tail ≡ row.tail → (at k f i row).tail ≡ row.tail
at_tail k f i row same = by_test (i == k)
  where
    by_test : (b : Bool) → (cond b (f row) row).tail ≡ row.tail
    by_test true = same
    by_test false = refl

published_tail : (told : Bool) (limbo : List RowFile) (store : Store) (xs : List Sample) (row : RowState) → (published told limbo store xs row).tail ≡ row.tail
published_tail true limbo store xs row = tier_tail row store (put xs limbo (tier row store))
published_tail false limbo store xs row = refl

retired_tail : (told : Bool) (store : Store) (to : ℕ) (row : RowState) → (retired told store to row).tail ≡ row.tail
retired_tail true store to row = tier_tail row store (since to (tier row store))
retired_tail false store to row = refl

changed_tail : (told : Bool) (limbo : List RowFile) (change : Change) (i : ℕ) (row : RowState) → row.tail ≡ [] → (changed told limbo change i row).tail ≡ []
changed_tail told limbo (AddsRow name about) i row none = none
changed_tail told limbo (SetsState k state) i row none = at_tail k (without_held state) i row refl ∙ none
changed_tail told limbo (Renames k name) i row none = at_tail k (without_held Retired) i row refl ∙ none
changed_tail told limbo (Appends batch) i row none = ap (λ (w : List Sample). since (end_of (of_row i batch)) w) none
changed_tail told limbo (Publishes k store copied) i row none =
    at_tail k (published told (files_of k (next_store store) limbo) (next_store store) copied) i row (published_tail told (files_of k (next_store store) limbo) (next_store store) copied row) ∙ none
changed_tail told limbo (Unlists k store to) i row none = at_tail k (retired told store to) i row (retired_tail told store to row) ∙ none

drained_made : (m : Machine) (into : List RowFile) (change : Change) → IsDrained m → IsDrained (made into change m)
drained_made m into change d i new here = by_row (came m.told m.limbo change m.rows i new here)
  where
    of_fresh : IsFresh change m.rows new → new.tail ≡ []
    of_fresh (fresh name about by is) = rw is refl
    of_fresh (fresh_over k name old by here is) = rw is refl

    by_row : Came m.told m.limbo change m.rows i new → new.tail ≡ []
    by_row (from_row row there is) = ap (λ (r : RowState). r.tail) is ∙ changed_tail m.told m.limbo change i row (d i row there)
    by_row (is_new j at there) = of_fresh (added_fresh change m.rows j new there).0

drained_settled : {old mid : Machine} → Settles old mid → IsDrained old → IsDrained mid
drained_settled (no_doubt is) d = d
drained_settled (as_not_made change is) d = d
drained_settled {old} (as_made change into is stays) d = drained_made old into change d

module _ (refuse : Machine → Option Reply) (run : Machine → Reply → Machine → Type 0) (change : Machine → Option Change) (stopped : FinMap nat_cmp MoveState → FinMap nat_cmp MoveState)
    (run_drained : (mid : Machine) (answer : Reply) (new : Machine) → run mid answer new → IsDrained mid → IsDrained new) where
  Acts-drained : {old new : Machine} {answer : Reply} → Acts refuse run change stopped old answer new → IsDrained old → IsDrained new
  Acts-drained {old} (refused_at_once answer p) d = d
  Acts-drained {old} {new} (refused {mid = mid} answer p settles q same r) d = drained_same mid new (ap (λ (m : Machine). m.rows) same) (drained_settled settles d)
  Acts-drained {old} {new} (runs {mid = mid} answer p settles q ran r) d = run_drained mid answer new ran (drained_settled settles d)
  Acts-drained {old} {new} (faults_first p same q) d = drained_same old new (ap (λ (m : Machine). m.rows) same) d
  Acts-drained {old} {new} (faults_between {mid = mid} p settles same q) d = drained_same mid new (ap (λ (m : Machine). m.rows) same) (drained_settled settles d)
  Acts-drained {old} {new} (faults_within {mid = mid} doubted p settles q r same t) d = drained_same mid new (ap (λ (m : Machine). m.rows) same) (drained_settled settles d)
  Acts-drained {old} {new} (faults_removing {mid = mid} done gone p settles q ran t) d = run_drained mid done new ran (drained_settled settles d)
  Acts-drained {old} {new} (wants_memory same q) d = drained_same old new (ap (λ (m : Machine). m.rows) same) d
  Acts-drained {old} {new} (wants_memory_settled {mid = mid} p settles same q) d = drained_same mid new (ap (λ (m : Machine). m.rows) same) (drained_settled settles d)

begins_drained : {store : Store} {now : ℕ} {mid new : Machine} {answer : Reply} → Begins store now mid answer new → IsDrained mid → IsDrained new
begins_drained {mid = mid} {new = new} (begins n i parts to apart low free empty least has passed same) = drained_same mid new (ap (λ (m : Machine). m.rows) same)
begins_drained {mid = mid} {new = new} (all_run n i moving made passed has same) = drained_same mid new (ap (λ (m : Machine). m.rows) same)
begins_drained {mid = mid} {new = new} (none_to_make has same) = drained_same mid new (ap (λ (m : Machine). m.rows) same)

goes_drained : {n : ℕ} {mid new : Machine} {answer : Reply} → GoesOn n mid answer new → IsDrained mid → IsDrained new
goes_drained {mid = mid} {new = new} (copies move first more next rest here stage left same) d = drained_same mid new (ap (λ (m : Machine). m.rows) same) d
goes_drained {mid = mid} {new = new} (has_copied move xs here stage left same) d = drained_same mid new (ap (λ (m : Machine). m.rows) same) d
goes_drained {mid = mid} {new = new} (publishes move here stage same) d = let change = Publishes move.row move.store move.copied in drained_same (made [] change mid) new (ap (λ (m : Machine). m.rows) same) (drained_made mid [] change d)
goes_drained {mid = mid} {new = new} (retires move into here stage covers stays pinned same) d = let change = Unlists move.row move.store move.to in drained_same (made into change mid) new (ap (λ (m : Machine). m.rows) same) (drained_made mid into change d)
goes_drained {mid = mid} {new = new} (again move len copied here stage grown less told same) d = drained_same mid new (ap (λ (m : Machine). m.rows) same) d
goes_drained {mid = mid} {new = new} (damaged name place untold same) d = drained_same mid new (ap (λ (m : Machine). m.rows) same) d

-- the mover's acts
pub data IsMovers : Act → Type 0 where
  asks_doors : IsMovers Doors
  begins_move : (store now : ℕ) → IsMovers (MoveBegin store now)
  steps_move : (n : ℕ) → IsMovers (MoveStep n)
  sweeps : IsMovers Sweep

pub step_drained : (who : ℕ) (act : Act) (old new : Machine) (reply : Reply) → IsMovers act → Step who act old reply new → IsDrained old → IsDrained new
step_drained who act old new reply asks_doors step d = subst (λ m. IsDrained m) (sym step.1) d
step_drained who act old new reply (begins_move store now) step d = Acts-drained (λ m. None) (Begins (store_of store) now) (λ m. None) all_go (λ mid answer new ran. begins_drained ran) step d
step_drained who act old new reply (steps_move n) step d = Acts-drained (λ m. no_move (get m.moves n)) (GoesOn n) (λ m. change_of m (get m.moves n)) (ends_move n) (λ mid answer new ran. goes_drained ran) step d
step_drained who act old new reply sweeps step d = Acts-drained (λ m. None) Sweeps (λ m. None) all_go (λ mid answer new ran. drained_same mid new (ap (λ (m : Machine). m.rows) ran.same)) step d

pub runs_drained : (es : List Entry) (old new : Machine) → AllByRecursion (λ (e : Entry). IsMovers e.act) es → Runs old es new → IsDrained old → IsDrained new
runs_drained [] old new all p d = subst (λ m. IsDrained m) (sym p) d
runs_drained (e ∷ es) old new all p d = runs_drained es p.1 new all.1 p.3 (step_drained e.who e.act old p.1 e.answer all.0 p.2 d)

-- A FLUSH THAT LEAVES NOTHING

pub flush_drains : (limit : ℕ) (old new : Machine) (answer : Reply) (samples doors : ℕ) → FlushStep limit old answer new → answer ≡ Flushed samples 0 doors → IsDrained new
flush_drains limit old new answer samples doors (refused_at_once answer' p) is = absurd cc
flush_drains limit old new answer samples doors (refused answer' p settles q same r) is = absurd cc
flush_drains limit old new answer samples doors (runs {mid = mid} answer' p settles q ran r) is =
    let said : Flushed samples 0 doors ≡ Flushed ran.0.0 (held_bytes new.rows) new.doors = sym is ∙ ran.0.2 in
    let none : held_bytes new.rows ≡ 0 = cc in
    λ i row here. no_rows new.rows i row none here
flush_drains limit old new answer samples doors (faults_first p same q) is = absurd cc
flush_drains limit old new answer samples doors (faults_between p settles same q) is = absurd cc
flush_drains limit old new answer samples doors (faults_within doubted p settles q r same t) is = absurd cc
flush_drains limit old new answer samples doors (faults_removing done gone p settles q ran t) is = absurd cc
flush_drains limit old new answer samples doors (wants_memory same q) is = absurd cc
flush_drains limit old new answer samples doors (wants_memory_settled p settles same q) is = absurd cc

-- A TICK THAT FINDS NO ROW

-- an outcome that isn't NoRow
abbrev HasRow : Outcome → Type 0
HasRow end = end.answer ≢ NoRow

due_has_row : (m : Machine) (i : ℕ) (row : RowState) (period now : ℕ) → HasRow (ticked_due m i row period now)
due_has_row m i row period now = by_held row.cell.held refl
  where
    by_reason : (s : Sample) → row.cell.held ≡ Some s → (o : Option Reason) → refused_by_time row.next s.t now ≡ o → HasRow (ticked_due m i row period now)
    by_reason s is (Some reason) why = rw (is, why) (λ bad. cc)
    by_reason s is None why = by_room (nat_lt intake_room (held_bytes m.rows + (length s.line + 1))) refl
      where
        by_room : (b : Bool) → nat_lt intake_room (held_bytes m.rows + (length s.line + 1)) ≡ b → HasRow (ticked_due m i row period now)
        by_room true full = rw (is, why, full) (λ bad. cc)
        by_room false full = rw (is, why, full) (λ bad. cc)

    by_held : (o : Option Sample) → row.cell.held ≡ o → HasRow (ticked_due m i row period now)
    by_held None is = rw is (λ bad. cc)
    by_held (Some s) is = by_reason s is (refused_by_time row.next s.t now) refl

row_has_row : (m : Machine) (i : ℕ) (row : RowState) (now : ℕ) → HasRow (ticked_row m i row now)
row_has_row m i row now = by_period (period_of row.about.method) refl
  where
    by_due : (period : ℕ) → period_of row.about.method ≡ Some period → is_running row.state ≡ true → (b : Bool) → nat_le row.cell.due now ≡ b → HasRow (ticked_row m i row now)
    by_due period is up true due = rw (is, up, due) (due_has_row m i row period now)
    by_due period is up false due = rw (is, up, due) (λ bad. cc)

    by_state : (period : ℕ) → period_of row.about.method ≡ Some period → (b : Bool) → is_running row.state ≡ b → HasRow (ticked_row m i row now)
    by_state period is true up = by_due period is up (nat_le row.cell.due now) refl
    by_state period is false up = rw (is, up) (λ bad. cc)

    by_period : (o : Option ℕ) → period_of row.about.method ≡ o → HasRow (ticked_row m i row now)
    by_period None is = rw is (λ bad. cc)
    by_period (Some period) is = by_state period is (is_running row.state) refl

no_more_rows : {A : Type 0} (xs : List A) (i : ℕ) → slice_get xs i ≡ None → length xs ≤ i
no_more_rows [] i none = omega arith
no_more_rows (x ∷ xs) zero none = absurd cc
no_more_rows (x ∷ xs) (suc i) none = let more = no_more_rows xs i none in omega arith

-- where a tick finds no row, there are no more rows
pub tick_no_row : (i now : ℕ) (old new : Machine) (answer : Reply) → TickStep i now old answer new → answer ≡ NoRow → length old.rows ≤ i
tick_no_row i now old new answer (inr p) is = absurd (let bad : Memory ≡ NoRow = sym p.0 ∙ is in cc)
tick_no_row i now old new answer (inl p) is = by_row (slice_get old.rows i) refl (sym p.0 ∙ is)
  where
    by_row : (o : Option RowState) → slice_get old.rows i ≡ o → (ticked old i now).answer ≡ NoRow → length old.rows ≤ i
    by_row None none said = no_more_rows old.rows i none
    by_row (Some row) here said = absurd (row_has_row old i row now (let same = rw here at said in same))
