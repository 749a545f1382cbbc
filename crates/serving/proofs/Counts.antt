-- What a step does to the doors and to the number of rows.
use Rattle.std.proofs.Common.{◌≡◌, ℕ, ◌-◌, ◌≤◌, List, [], ◌∷◌, length, Option, Some, None, refl, ap, sym, ◌∙◌, arith, subst, inl, inr}
use Rattle.std.specs.Ordering.{nat_cmp}
use Rattle.std.specs.FinMap.{FinMap, get}
use Rattle.std.proofs.lemmas.List.{length-append}
use Rattle.act_model.specs.declared.acts.Act.{Act}
use Rattle.act_model.specs.declared.acts.Act.TheVariants.{Register, Pause, Resume, Rename, Offer, Tick, Flush, MoveBegin, MoveStep, Sweep, Pin, OpenPiece, Unpin, Names, Details, Doors, DoorDone}
use Rattle.pb_messages.specs.declared.about.State.{State}
use Rattle.act_model.specs.Reply.{Reply}
use Rattle.act_model.specs.Machine.{Machine, MoveState, Change, AddsRow, SetsState, Renames, Appends, Publishes, Unlists, find_row}
use Rattle.act_model.specs.Changes.{made, changed, added, each, at, Settles, no_doubt, as_not_made, as_made}
use Rattle.act_model.specs.Limbo.{RowFile}
use Rattle.act_model.specs.Outcome.{Outcome, Ends, Same, Acts, refused_at_once, refused, runs, faults_first, faults_between, faults_within, faults_removing, wants_memory, wants_memory_settled, all_go}
use Rattle.act_model.specs.Register.{register_refused, Registers}
use Rattle.act_model.specs.Pause.{state_refused, Sets, sets_of}
use Rattle.act_model.specs.Rename.{IsRenamed, changed_within, rename_refused, renames_of}
use Rattle.act_model.specs.Flush.{Flushes, batch_of}
use Rattle.act_model.specs.Details.{Describes, details_refused}
use Rattle.act_model.specs.MoveBegin.{Begins, begins, all_run, none_to_make}
use Rattle.act_model.specs.MoveStep.{GoesOn, copies, has_copied, publishes, retires, again, damaged, no_move, change_of, ends_move}
use Rattle.act_model.specs.Sweep.{Sweeps}
use Rattle.act_model.specs.Pin.{MakesPin, pins}
use Rattle.act_model.specs.OpenPiece.{Opens, refused_open, no_piece, opens, faults_opening, wants_memory_opening}
use Rattle.act_model.specs.Unpin.{Unpins, refused_unpin, unpins}
use Rattle.act_model.specs.Step.{Step, MayAsk, store_of}
use Rattle.act_model.specs.Sound.{IsSound}
use Rattle.act_model.specs.History.{Entry, Runs}
use Rattle.act_model.proofs.Rows.{length-each}
use Rattle.act_model.proofs.RowActs.{RowAct, stays_act, row_act, offered_act, ticked_act}
use Rattle.act_model.proofs.StepSound.{step_sound}
use Rattle.serving.proofs.Owns.{drops, dones_in}

-- no fewer rows, and as many doors
pub record Keeps (old new : Machine) : Type 0 where
  pub rows : length old.rows ≤ length new.rows
  pub doors : new.doors ≡ old.doors

keeps_same : (old new : Machine) → new.rows ≡ old.rows → new.doors ≡ old.doors → Keeps old new
keeps_same old new rows doors = record { rows = let long = ap length rows in omega arith; doors = doors }

keeps_refl : (m : Machine) → Keeps m m
keeps_refl m = keeps_same m m refl refl

keeps_trans : (a b c : Machine) → Keeps a b → Keeps b c → Keeps a c
keeps_trans a b c p q = record { rows = let x = p.rows in let y = q.rows in omega arith; doors = q.doors ∙ p.doors }

keeps_counts : (old new : Machine) → Same old new → Keeps old new
keeps_counts old new same = keeps_same old new (ap (λ (m : Machine). m.rows) same) (ap (λ (m : Machine). m.doors) same)

keeps_made : (into : List RowFile) (change : Change) (m : Machine) → Keeps m (made into change m)
keeps_made into change m =
    record {
      rows = let long = length-append (each (changed m.told m.limbo change) 0 m.rows) (added change m.rows) in let same = length-each (changed m.told m.limbo change) 0 m.rows in omega arith;
      doors = refl;
    }

-- a change was made, and other members than rows and doors may have changed
keeps_change : (into : List RowFile) (change : Change) (m new : Machine) → new.rows ≡ (made into change m).rows → new.doors ≡ m.doors → Keeps m new
keeps_change into change m new rows doors = keeps_trans m (made into change m) new (keeps_made into change m) (keeps_same (made into change m) new rows doors)

keeps_settled : {old mid : Machine} → Settles old mid → Keeps old mid
keeps_settled {old} (no_doubt is) = keeps_refl old
keeps_settled {old} (as_not_made change is) = keeps_same old _ refl refl
keeps_settled {old} (as_made change into is stays) = keeps_change into change old _ refl refl

module _ (refuse : Machine → Option Reply) (run : Machine → Reply → Machine → Type 0) (change : Machine → Option Change) (stopped : FinMap nat_cmp MoveState → FinMap nat_cmp MoveState)
    (run_keeps : (mid : Machine) (answer : Reply) (new : Machine) → run mid answer new → Keeps mid new) where
  Acts-keeps : {old new : Machine} {answer : Reply} → Acts refuse run change stopped old answer new → Keeps old new
  Acts-keeps {old} (refused_at_once answer p) = keeps_refl old
  Acts-keeps {old} {new} (refused {mid = mid} answer p settles q same r) = keeps_trans old mid new (keeps_settled settles) (keeps_counts mid new same)
  Acts-keeps {old} {new} (runs {mid = mid} answer p settles q ran r) = keeps_trans old mid new (keeps_settled settles) (run_keeps mid answer new ran)
  Acts-keeps {old} {new} (faults_first p same q) = keeps_same old new (ap (λ (m : Machine). m.rows) same) (ap (λ (m : Machine). m.doors) same)
  Acts-keeps {old} {new} (faults_between {mid = mid} p settles same q) = keeps_trans old mid new (keeps_settled settles) (keeps_same mid new (ap (λ (m : Machine). m.rows) same) (ap (λ (m : Machine). m.doors) same))
  Acts-keeps {old} {new} (faults_within {mid = mid} doubted p settles q r same t) = keeps_trans old mid new (keeps_settled settles) (keeps_same mid new (ap (λ (m : Machine). m.rows) same) (ap (λ (m : Machine). m.doors) same))
  Acts-keeps {old} {new} (faults_removing {mid = mid} done gone p settles q ran t) = keeps_trans old mid new (keeps_settled settles) (run_keeps mid done new ran)
  Acts-keeps {old} {new} (wants_memory same q) = keeps_counts old new same
  Acts-keeps {old} {new} (wants_memory_settled {mid = mid} p settles same q) = keeps_trans old mid new (keeps_settled settles) (keeps_counts mid new same)

makes_keeps : (into : List RowFile) (change : Change) (mid new : Machine) → Same (made into change mid) new → Keeps mid new
makes_keeps into change mid new same = keeps_trans mid (made into change mid) new (keeps_made into change mid) (keeps_counts (made into change mid) new same)

act_keeps : (m : Machine) (end : Outcome) → RowAct m end → Keeps m end.after
act_keeps m end (stays_act answer) = keeps_refl m
act_keeps m end (row_act answer i f row here tail bytes) = record { rows = let same = length-each (at i f) 0 m.rows in omega arith; doors = refl }

ends_keeps : (end : Outcome) (old new : Machine) (answer : Reply) → Keeps old end.after → Ends end old answer new → Keeps old new
ends_keeps end old new answer on (inl p) = subst (λ m. Keeps old m) (sym p.1) on
ends_keeps end old new answer on (inr p) = subst (λ m. Keeps old m) (sym p.1) (keeps_refl old)

begins_keeps : {store : _} {now : ℕ} {mid new : Machine} {answer : Reply} → Begins store now mid answer new → Keeps mid new
begins_keeps {mid = mid} {new = new} (begins n i parts to apart low free empty least has passed same) = keeps_same mid new (ap (λ (m : Machine). m.rows) same) (ap (λ (m : Machine). m.doors) same)
begins_keeps {mid = mid} {new = new} (all_run n i moving made passed has same) = keeps_counts mid new same
begins_keeps {mid = mid} {new = new} (none_to_make has same) = keeps_counts mid new same

goes_keeps : {n : ℕ} {mid new : Machine} {answer : Reply} → GoesOn n mid answer new → Keeps mid new
goes_keeps {mid = mid} {new = new} (copies move first more next rest here stage left same) = keeps_same mid new (ap (λ (m : Machine). m.rows) same) (ap (λ (m : Machine). m.doors) same)
goes_keeps {mid = mid} {new = new} (has_copied move xs here stage left same) = keeps_same mid new (ap (λ (m : Machine). m.rows) same) (ap (λ (m : Machine). m.doors) same)
goes_keeps {mid = mid} {new = new} (publishes move here stage same) = keeps_change [] (Publishes move.row move.store move.copied) mid new (ap (λ (m : Machine). m.rows) same) (ap (λ (m : Machine). m.doors) same)
goes_keeps {mid = mid} {new = new} (retires move into here stage covers stays pinned same) = keeps_change into (Unlists move.row move.store move.to) mid new (ap (λ (m : Machine). m.rows) same) (ap (λ (m : Machine). m.doors) same)
goes_keeps {mid = mid} {new = new} (again move len copied here stage grown less told same) = keeps_same mid new (ap (λ (m : Machine). m.rows) same) (ap (λ (m : Machine). m.doors) same)
goes_keeps {mid = mid} {new = new} (damaged name place untold same) = keeps_same mid new (ap (λ (m : Machine). m.rows) same) (ap (λ (m : Machine). m.doors) same)

pins_keeps : {who : ℕ} {name : List ℕ} {query : _} {mid new : Machine} {reply : Reply} → MakesPin who name query mid reply new → Keeps mid new
pins_keeps {mid = mid} {new = new} (pins i row pin pieces a b c d e f g few same) = keeps_same mid new (ap (λ (m : Machine). m.rows) same) (ap (λ (m : Machine). m.doors) same)

opens_keeps : {who pin i : ℕ} {old new : Machine} {reply : Reply} → Opens who pin i old reply new → Keeps old new
opens_keeps {old = old} (refused_open reply p) = keeps_refl old
opens_keeps {old = old} (no_piece p a b c) = keeps_refl old
opens_keeps {old = old} {new = new} (opens p piece reader name head_len len a b c d e f enough same g) = keeps_counts old new same
opens_keeps {old = old} {new = new} (faults_opening p piece here owner there same q) = keeps_counts old new same
opens_keeps {old = old} {new = new} (wants_memory_opening same q) = keeps_counts old new same

unpins_keeps : {who pin : ℕ} {old new : Machine} {reply : Reply} → Unpins who pin old reply new → Keeps old new
unpins_keeps {old = old} (refused_unpin reply p) = keeps_refl old
unpins_keeps {old = old} {new = new} (unpins p) = keeps_same old new refl refl

state_keeps : (wrong : State → Option Reply) (to : State) (name : List ℕ) (old new : Machine) (reply : Reply) → Acts (state_refused wrong name) (Sets to name) (λ m. sets_of to (find_row m name)) all_go old reply new → Keeps old new
state_keeps wrong to name old new reply step = Acts-keeps (state_refused wrong name) (Sets to name) (λ m. sets_of to (find_row m name)) all_go (λ mid answer new ran. makes_keeps [] (SetsState ran.1.0 to) mid new ran.1.2) step

-- a step takes as many doors as it has DoorDones
pub record Counts (gone : ℕ) (old new : Machine) : Type 0 where
  pub rows : length old.rows ≤ length new.rows
  pub doors : new.doors ≡ old.doors - gone

counted : {old new : Machine} → Keeps old new → Counts 0 old new
counted {old} {new} k = record { rows = k.rows; doors = let same = k.doors in omega arith }

-- DoorDone lowers the doors by one, and no other act changes them; no row goes
pub step_counts : (who : ℕ) (act : Act) (old new : Machine) (reply : Reply) → IsSound old → MayAsk act → Step who act old reply new → Counts (drops act) old new
step_counts who (Register name about) old new reply s ask step = counted (Acts-keeps (register_refused name) (Registers name about) (λ m. Some (AddsRow name about)) all_go (λ mid answer new ran. makes_keeps [] (AddsRow name about) mid new ran.1) step)
step_counts who (Pause name) old new reply s ask step = counted (state_keeps _ _ name old new reply step)
step_counts who (Resume name) old new reply s ask step = counted (state_keeps _ _ name old new reply step)
step_counts who (Rename name newname) old new reply s ask step =
    counted (Acts-keeps (rename_refused (changed_within name old) step.0 name newname) (IsRenamed name newname) (λ m. renames_of newname (find_row m name)) all_go (λ mid answer new ran. makes_keeps [] (Renames ran.1.0 newname) mid new ran.1.2) step.1)
step_counts who (Offer name ty t line now) old new reply s ask step = counted (ends_keeps _ old new reply (act_keeps old _ (offered_act old name ty (record { t = t; line = line }) now s ask)) step)
step_counts who (Tick row now) old new reply s ask step = counted (ends_keeps _ old new reply (act_keeps old _ (ticked_act old row now s)) step)
step_counts who (Flush limit) old new reply s ask step = counted (Acts-keeps (λ m. None) (Flushes limit) (λ m. Some (Appends (batch_of limit m))) all_go (λ mid answer new ran. makes_keeps [] (Appends (batch_of limit mid)) mid new ran.1) step)
step_counts who (MoveBegin store now) old new reply s ask step = counted (Acts-keeps (λ m. None) (Begins (store_of store) now) (λ m. None) all_go (λ mid answer new ran. begins_keeps ran) step)
step_counts who (MoveStep n) old new reply s ask step = counted (Acts-keeps (λ m. no_move (get m.moves n)) (GoesOn n) (λ m. change_of m (get m.moves n)) (ends_move n) (λ mid answer new ran. goes_keeps ran) step)
step_counts who Sweep old new reply s ask step = counted (Acts-keeps (λ m. None) Sweeps (λ m. None) all_go (λ mid answer new ran. keeps_same mid new (ap (λ (m : Machine). m.rows) ran.same) (ap (λ (m : Machine). m.doors) ran.same)) step)
step_counts who (Pin name query) old new reply s ask step = counted (Acts-keeps (details_refused name) (MakesPin who name query) (λ m. None) all_go (λ mid answer new ran. pins_keeps ran) step)
step_counts who (OpenPiece pin i) old new reply s ask step = counted (opens_keeps step)
step_counts who (Unpin pin) old new reply s ask step = counted (unpins_keeps step)
step_counts who (Names from most) old new reply s ask step = counted (ends_keeps _ old new reply (keeps_refl old) step)
step_counts who (Details name) old new reply s ask step = counted (Acts-keeps (details_refused name) (Describes name) (λ m. None) all_go (λ mid answer new ran. keeps_counts mid new ran.same) step)
step_counts who Doors old new reply s ask step = counted (subst (λ m. Keeps old m) (sym step.1) (keeps_refl old))
step_counts who DoorDone old new reply s ask step = record { rows = let long = ap (λ (m : Machine). length m.rows) step.1 in omega arith; doors = ap (λ (m : Machine). m.doors) step.1 }

-- a run takes as many as it has DoorDones
pub runs_counts : (es : List Entry) (old new : Machine) → IsSound old → Runs old es new → Counts (dones_in es) old new
runs_counts [] old new s p = record { rows = let long = ap (λ (m : Machine). length m.rows) p in omega arith; doors = let same = ap (λ (m : Machine). m.doors) p in omega arith }
runs_counts (e ∷ es) old new s p =
    let one = step_counts e.who e.act old p.1 e.answer s p.0 p.2 in
    let more = runs_counts es p.1 new (step_sound e.who e.act old p.1 e.answer s p.0 p.2) p.3 in
    record { rows = let x = one.rows in let y = more.rows in omega arith; doors = let x = one.doors in let y = more.doors in omega arith }
