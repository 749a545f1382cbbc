-- The disk's count of faults along the acts of a run: it doesn't fall, and it rises in an act that tells a fault.
use Rattle.std.proofs.Common.{◌≡◌, inl, inr, ℕ, ◌≤◌, List, [], ◌∷◌, ◌++◌, Bool, true, false, Option, Some, None, refl, sym, ◌∙◌, ap, subst, arith, length}
use Rattle.std.specs.Prelude.{◌-◌, ◌^◌, min, ◌==◌, nat_le, slice_get, if◌then◌else◌}
use Rattle.std.specs.FinMap.{FinMap, get}
use Rattle.std.specs.Ordering.{nat_cmp}
use Rattle.disk_model.specs.Files.{Rose}
use Rattle.pb_messages.specs.declared.about.State.{State}
use Rattle.pb_messages.specs.declared.about.State.TheVariants.{Running, Paused, Retired}
use Rattle.series_model.specs.declared.sample.Query.{Query}
use Rattle.series_model.specs.declared.sample.Sample.{Sample}
use Rattle.act_model.specs.Offer.{offered}
use Rattle.act_model.specs.Tick.{ticked}
use Rattle.act_model.specs.declared.acts.Act.{Act}
use Rattle.act_model.specs.declared.acts.Act.TheVariants.{Register, Pause, Resume, Rename, Offer, Tick, Flush, MoveBegin, MoveStep, Sweep, Pin, OpenPiece, Unpin, Names, Details, Doors, DoorDone}
use Rattle.act_model.specs.declared.acts.Answer.TheVariants.{DiskFault, CatalogueFull, NotYours}
use Rattle.act_model.specs.Answers.{is_answer_to}
use Rattle.act_model.specs.Details.{Describes, details_refused}
use Rattle.act_model.specs.Flush.{Flushes, batch_of}
use Rattle.act_model.specs.History.{Done, Entry, Runs, mine}
use Rattle.act_model.specs.Machine.{Machine, MoveState, PinState, Change, AddsRow, Appends, find_row, with_key}
use Rattle.act_model.specs.MoveBegin.{Begins, begins, all_run, none_to_make}
use Rattle.act_model.specs.MoveStep.{GoesOn, copies, has_copied, publishes, retires, again, damaged, no_move, change_of, ends_move}
use Rattle.act_model.specs.OpenPiece.{Opens, refused_open, no_piece, opens, faults_opening, wants_memory_opening}
use Rattle.act_model.specs.Outcome.{Acts, Ends, Outcome, all_go, refused_at_once, refused, runs, faults_first, faults_between, faults_within, faults_removing, wants_memory, wants_memory_settled}
use Rattle.act_model.specs.Pause.{Sets, sets_of, state_refused, not_running}
use Rattle.act_model.specs.Pin.{MakesPin, pins}
use Rattle.act_model.specs.Register.{Registers, register_refused}
use Rattle.act_model.specs.Rename.{IsRenamed, changed_within, rename_refused, renames_of}
use Rattle.act_model.specs.Reply.{Reply}
use Rattle.act_model.specs.Resume.{not_paused}
use Rattle.act_model.specs.Rows.{RowState, Store, is_empty, is_paused}
use Rattle.act_model.specs.Sound.{IsSound}
use Rattle.act_model.specs.Step.{MayAsk, Step, store_of}
use Rattle.act_model.specs.Sweep.{Sweeps}
use Rattle.act_model.specs.Unpin.{Unpins, pin_refused, refused_unpin, unpins}
use Rattle.act_model.specs.Laws.{AnswersAreOfActs}
use Rattle.act_model.proofs.Histories.{cut_at, runs_sound, steps_at}
use Rattle.act_model.proofs.RowActs.{RowAct, stays_act, row_act, offered_act, ticked_act}
use Rattle.act_model.proofs.StepSound.{step_sound}

-- COUNTS

-- a count didn't fall, as far as a u64 can show it
abbrev pub HasNotFallen : ℕ → ℕ → Type 0
HasNotFallen before now = min before (2 ^ 64 - 1) ≤ now

pub counts_none : (a : ℕ) → HasNotFallen a a
counts_none a = grind arith

pub counts_more : (a b : ℕ) → a ≤ b → HasNotFallen a b
counts_more a b more = grind (arith, more)

counts_rose : (a b : ℕ) → Rose a b → HasNotFallen a b
counts_rose a b rose = grind (arith, rose)

pub counts_then : (a b c : ℕ) → HasNotFallen a b → HasNotFallen b c → HasNotFallen a c
counts_then a b c one two = grind (arith, one, two)

pub rose_later : (a b c : ℕ) → HasNotFallen a b → Rose b c → Rose a c
rose_later a b c one rose = grind (arith, one, rose)

pub rose_before : (a b c : ℕ) → Rose a b → HasNotFallen b c → Rose a c
rose_before a b c rose two = grind (arith, rose, two)

-- ONE ACT

module _ (refuse : Machine → Option Reply) (run : Machine → Reply → Machine → Type 0) (change : Machine → Option Change) (stopped : FinMap nat_cmp MoveState → FinMap nat_cmp MoveState) where
  Acts-counts : {old new : Machine} {answer : Reply} → Acts refuse run change stopped old answer new → HasNotFallen old.faults new.faults
  Acts-counts {old} (refused_at_once answer p) = counts_none old.faults
  Acts-counts {old} {new} (refused answer p settles q same more) = counts_more old.faults new.faults more
  Acts-counts {old} {new} (runs answer p settles q ran more) = counts_more old.faults new.faults more
  Acts-counts {old} {new} (faults_first p same rose) = counts_rose old.faults new.faults rose
  Acts-counts {old} {new} (faults_between p settles same rose) = counts_rose old.faults new.faults rose
  Acts-counts {old} {new} (faults_within doubted p settles q r same rose) = counts_rose old.faults new.faults rose
  Acts-counts {old} {new} (faults_removing done gone p settles q ran rose) = counts_rose old.faults new.faults rose
  Acts-counts {old} {new} (wants_memory same more) = counts_more old.faults new.faults more
  Acts-counts {old} {new} (wants_memory_settled p settles same more) = counts_more old.faults new.faults more

  -- neither a refusal nor what is done is a fault
  module _ (no_refusal : (m : Machine) → refuse m ≡ Some DiskFault → ⊥) (no_run : (mid new : Machine) (answer : Reply) → run mid answer new → answer ≡ DiskFault → ⊥) where
    Acts-rose : {old new : Machine} {answer : Reply} → Acts refuse run change stopped old answer new → answer ≡ DiskFault → Rose old.faults new.faults
    Acts-rose {old} (refused_at_once answer p) is = absurd (no_refusal old (p ∙ ap (λ (r : Reply). Some r) is))
    Acts-rose (refused {mid = mid} answer p settles q same more) is = absurd (no_refusal mid (q ∙ ap (λ (r : Reply). Some r) is))
    Acts-rose {new = new} (runs {mid = mid} answer p settles q ran more) is = absurd (no_run mid new answer ran is)
    Acts-rose (faults_first p same rose) is = rose
    Acts-rose (faults_between p settles same rose) is = rose
    Acts-rose (faults_within doubted p settles q r same rose) is = rose
    Acts-rose (faults_removing done gone p settles q ran rose) is = rose
    Acts-rose (wants_memory same more) is = absurd cc
    Acts-rose (wants_memory_settled p settles same more) is = absurd cc

-- no refusal is a fault
NoFault : Option Reply → Type 0
NoFault o = o ≡ Some DiskFault → ⊥

no_register : (name : List ℕ) (m : Machine) → register_refused name m ≡ Some DiskFault → ⊥
unfolding NoFault
no_register name m = by_name (find_row m name) refl
  where
    by_room : (b : Bool) → NoFault (if b then Some CatalogueFull else None)
    by_room true = λ is. cc
    by_room false = λ is. cc

    by_key : (o : Option ℕ) → with_key m name ≡ o → find_row m name ≡ None → NoFault (register_refused name m)
    by_key (Some i) there here = rw (here, there) (λ is. cc)
    by_key None there here = rw (here, there) (by_room (nat_le 65536 (length m.rows)))

    by_name : (o : Option ℕ) → find_row m name ≡ o → NoFault (register_refused name m)
    by_name (Some i) here = rw here (λ is. cc)
    by_name None here = by_key (with_key m name) refl here

no_state : (wrong : State → Option Reply) → ((state : State) → NoFault (wrong state)) → (name : List ℕ) (m : Machine) → state_refused wrong name m ≡ Some DiskFault → ⊥
unfolding NoFault
no_state wrong none name m = by_name (find_row m name) refl
  where
    by_row : (i : ℕ) (o : Option RowState) → slice_get m.rows i ≡ o → find_row m name ≡ Some i → NoFault (state_refused wrong name m)
    by_row i (Some row) there here = rw (here, there) (none row.state)
    by_row i None there here = rw (here, there) (λ is. cc)

    by_name : (o : Option ℕ) → find_row m name ≡ o → NoFault (state_refused wrong name m)
    by_name (Some i) here = by_row i (slice_get m.rows i) refl here
    by_name None here = rw here (λ is. cc)

running_none : (state : State) → NoFault (not_running state)
unfolding NoFault
running_none Running is = cc
running_none Paused is = cc
running_none Retired is = cc

paused_none : (state : State) → NoFault (not_paused state)
unfolding NoFault
paused_none Running is = cc
paused_none Paused is = cc
paused_none Retired is = cc

no_rename : (changed : ℕ) (found : Option ℕ) (name newname : List ℕ) (m : Machine) → rename_refused changed found name newname m ≡ Some DiskFault → ⊥
unfolding NoFault
no_rename changed found name newname m = by_name (find_row m name) refl
  where
    by_tail : (i : ℕ) (row : RowState) → find_row m name ≡ Some i → slice_get m.rows i ≡ Some row → is_paused row.state ≡ true → register_refused newname m ≡ None → (b : Bool) → is_empty row.tail ≡ b → NoFault (rename_refused changed found name newname m)
    by_tail i row here there paused free true empty = rw (here, there, paused, free, empty) (λ is. cc)
    by_tail i row here there paused free false some = rw (here, there, paused, free, some) (λ is. cc)

    by_newname : (i : ℕ) (row : RowState) → find_row m name ≡ Some i → slice_get m.rows i ≡ Some row → is_paused row.state ≡ true → (o : Option Reply) → register_refused newname m ≡ o → NoFault (rename_refused changed found name newname m)
    by_newname i row here there paused (Some reply) taken = rw (here, there, paused, taken) (λ is. no_register newname m (taken ∙ is))
    by_newname i row here there paused None free = by_tail i row here there paused free (is_empty row.tail) refl

    by_paused : (i : ℕ) (row : RowState) → find_row m name ≡ Some i → slice_get m.rows i ≡ Some row → (b : Bool) → is_paused row.state ≡ b → NoFault (rename_refused changed found name newname m)
    by_paused i row here there true paused = by_newname i row here there paused (register_refused newname m) refl
    by_paused i row here there false other = rw (here, there, other) (λ is. cc)

    by_row : (i : ℕ) → find_row m name ≡ Some i → (o : Option RowState) → slice_get m.rows i ≡ o → NoFault (rename_refused changed found name newname m)
    by_row i here (Some row) there = by_paused i row here there (is_paused row.state) refl
    by_row i here None none = rw (here, none) (λ is. cc)

    by_name : (o : Option ℕ) → find_row m name ≡ o → NoFault (rename_refused changed found name newname m)
    by_name (Some i) here = by_row i here (slice_get m.rows i) refl
    by_name None none = rw none (λ is. cc)

no_details : (name : List ℕ) (m : Machine) → details_refused name m ≡ Some DiskFault → ⊥
unfolding NoFault
no_details name m = by_name (find_row m name) refl
  where
    by_name : (o : Option ℕ) → find_row m name ≡ o → NoFault (details_refused name m)
    by_name (Some i) here = rw here (λ is. cc)
    by_name None here = rw here (λ is. cc)

no_step : (o : Option MoveState) → no_move o ≡ Some DiskFault → ⊥
no_step None is = cc
no_step (Some move) is = cc

no_pin : (who : ℕ) (o : Option PinState) → pin_refused who o ≡ Some DiskFault → ⊥
unfolding NoFault
no_pin who None is = cc
no_pin who (Some pin) is = by_owner (pin.owner == who) is
  where
    by_owner : (b : Bool) → NoFault (if b then None else Some (NotYours pin.owner))
    by_owner true is = cc
    by_owner false is = cc

no_none : (m : Machine) → ◌≡◌ {A = Option Reply} None (Some DiskFault) → ⊥
no_none m is = cc

begins_not : {store : Store} {now : ℕ} (mid new : Machine) (answer : Reply) → Begins store now mid answer new → answer ≡ DiskFault → ⊥
begins_not mid new answer (begins n i parts to apart low free empty least has passed same) is = cc
begins_not mid new answer (all_run n i moving made passed has same) is = cc
begins_not mid new answer (none_to_make has same) is = cc

goes_not : {n : ℕ} (mid new : Machine) (answer : Reply) → GoesOn n mid answer new → answer ≡ DiskFault → ⊥
goes_not mid new answer (copies move first more next rest here stage left same) is = cc
goes_not mid new answer (has_copied move xs here stage left same) is = cc
goes_not mid new answer (publishes move here stage same) is = cc
goes_not mid new answer (retires move into here stage covers stays pinned same) is = cc
goes_not mid new answer (again move len copied here stage grown less told same) is = cc
goes_not mid new answer (damaged name place untold same) is = cc

pins_not : {who : ℕ} {name : List ℕ} {query : Query} (mid new : Machine) (answer : Reply) → MakesPin who name query mid answer new → answer ≡ DiskFault → ⊥
pins_not mid new answer (pins i row pin pieces found here free least listed order gives few same) is = cc

opens_counts : {who pin i : ℕ} {old new : Machine} {answer : Reply} → Opens who pin i old answer new → HasNotFallen old.faults new.faults
opens_counts {old = old} (refused_open reply p) = counts_none old.faults
opens_counts {old = old} (no_piece p there owner none) = counts_none old.faults
opens_counts {old = old} {new = new} (opens p piece reader name head_len len there owner here fresh shows named long same more) = counts_more old.faults new.faults more
opens_counts {old = old} {new = new} (faults_opening p piece there owner here same rose) = counts_rose old.faults new.faults rose
opens_counts {old = old} {new = new} (wants_memory_opening same more) = counts_more old.faults new.faults more

opens_rose : {who pin i : ℕ} {old new : Machine} {answer : Reply} → Opens who pin i old answer new → answer ≡ DiskFault → Rose old.faults new.faults
opens_rose {who} {pin} {old = old} (refused_open reply p) is = absurd (no_pin who (get old.pins pin) (p ∙ ap (λ (r : Reply). Some r) is))
opens_rose (no_piece p there owner none) is = absurd cc
opens_rose (opens p piece reader name head_len len there owner here fresh shows named long same more) is = absurd cc
opens_rose (faults_opening p piece there owner here same rose) is = rose
opens_rose (wants_memory_opening same more) is = absurd cc

unpins_counts : {who pin : ℕ} {old new : Machine} {answer : Reply} → Unpins who pin old answer new → HasNotFallen old.faults new.faults
unpins_counts {old = old} (refused_unpin reply p) = counts_none old.faults
unpins_counts {old = old} (unpins p) = counts_none old.faults

row_counts : (m : Machine) (end : Outcome) → RowAct m end → end.after.faults ≡ m.faults
row_counts m end (stays_act answer) = refl
row_counts m end (row_act answer i f row here tail bytes) = refl

ends_counts : (end : Outcome) (old new : Machine) (answer : Reply) → end.after.faults ≡ old.faults → Ends end old answer new → HasNotFallen old.faults new.faults
ends_counts end old new answer is (inl ended) = subst (λ (n : ℕ). HasNotFallen old.faults n) (sym (ap (λ (m : Machine). m.faults) ended.1 ∙ is)) (counts_none old.faults)
ends_counts end old new answer is (inr spent) = subst (λ (n : ℕ). HasNotFallen old.faults n) (sym (ap (λ (m : Machine). m.faults) spent.1)) (counts_none old.faults)

-- no act takes from the count
step_counts : (who : ℕ) (act : Act) (old new : Machine) (reply : Reply) → IsSound old → MayAsk act → Step who act old reply new → HasNotFallen old.faults new.faults
step_counts who (Register name about) old new reply s may step = Acts-counts (register_refused name) (Registers name about) (λ m. Some (AddsRow name about)) all_go step
step_counts who (Pause name) old new reply s may step = Acts-counts (state_refused not_running name) (Sets Paused name) (λ m. sets_of Paused (find_row m name)) all_go step
step_counts who (Resume name) old new reply s may step = Acts-counts (state_refused not_paused name) (Sets Running name) (λ m. sets_of Running (find_row m name)) all_go step
step_counts who (Rename name newname) old new reply s may step = Acts-counts (rename_refused (changed_within name old) step.0 name newname) (IsRenamed name newname) (λ m. renames_of newname (find_row m name)) all_go step.1
step_counts who (Offer name ty t line now) old new reply s may step = let x : Sample = record { t = t; line = line } in ends_counts (offered old name ty x now) old new reply (row_counts old (offered old name ty x now) (offered_act old name ty x now s may)) step
step_counts who (Tick row now) old new reply s may step = ends_counts (ticked old row now) old new reply (row_counts old (ticked old row now) (ticked_act old row now s)) step
step_counts who (Flush limit) old new reply s may step = Acts-counts (λ m. None) (Flushes limit) (λ m. Some (Appends (batch_of limit m))) all_go step
step_counts who (MoveBegin store now) old new reply s may step = Acts-counts (λ m. None) (Begins (store_of store) now) (λ m. None) all_go step
step_counts who (MoveStep n) old new reply s may step = Acts-counts (λ m. no_move (get m.moves n)) (GoesOn n) (λ m. change_of m (get m.moves n)) (ends_move n) step
step_counts who Sweep old new reply s may step = Acts-counts (λ m. None) Sweeps (λ m. None) all_go step
step_counts who (Pin name query) old new reply s may step = Acts-counts (details_refused name) (MakesPin who name query) (λ m. None) all_go step
step_counts who (OpenPiece pin i) old new reply s may step = opens_counts step
step_counts who (Unpin pin) old new reply s may step = unpins_counts step
step_counts who (Names from most) old new reply s may step = ends_counts _ old new reply refl step
step_counts who (Details name) old new reply s may step = Acts-counts (details_refused name) (Describes name) (λ m. None) all_go step
step_counts who Doors old new reply s may step = subst (λ (m : Machine). HasNotFallen old.faults m.faults) (sym step.1) (counts_none old.faults)
step_counts who DoorDone old new reply s may step = subst (λ (m : Machine). HasNotFallen old.faults m.faults) (sym step.1) (counts_none old.faults)

-- these acts touch no disk, and tell no fault
no_answer : AnswersAreOfActs → (who : ℕ) (act : Act) (old new : Machine) → is_answer_to act DiskFault ≡ false → Step who act old DiskFault new → ⊥
no_answer answers who act old new none step = let one : true ≡ false = sym (answers who act old new DiskFault step) ∙ none in cc (one)

-- an act that tells a fault has counted it
step_rose : AnswersAreOfActs → (who : ℕ) (act : Act) (old new : Machine) → Step who act old DiskFault new → Rose old.faults new.faults
step_rose answers who (Register name about) old new step = Acts-rose (register_refused name) (Registers name about) (λ m. Some (AddsRow name about)) all_go (no_register name) (λ mid n answer ran is. let one = sym ran.0 ∙ is in cc) step refl
step_rose answers who (Pause name) old new step = Acts-rose (state_refused not_running name) (Sets Paused name) (λ m. sets_of Paused (find_row m name)) all_go (no_state not_running running_none name) (λ mid n answer ran is. let one = sym ran.0 ∙ is in cc) step refl
step_rose answers who (Resume name) old new step = Acts-rose (state_refused not_paused name) (Sets Running name) (λ m. sets_of Running (find_row m name)) all_go (no_state not_paused paused_none name) (λ mid n answer ran is. let one = sym ran.0 ∙ is in cc) step refl
step_rose answers who (Rename name newname) old new step =
    Acts-rose (rename_refused (changed_within name old) step.0 name newname) (IsRenamed name newname) (λ m. renames_of newname (find_row m name)) all_go (no_rename (changed_within name old) step.0 name newname)
    (λ mid n answer ran is. let one = sym ran.0 ∙ is in cc) step.1 refl
step_rose answers who (Offer name ty t line now) old new step = absurd (no_answer answers who (Offer name ty t line now) old new refl step)
step_rose answers who (Tick row now) old new step = absurd (no_answer answers who (Tick row now) old new refl step)
step_rose answers who (Flush limit) old new step = Acts-rose (λ m. None) (Flushes limit) (λ m. Some (Appends (batch_of limit m))) all_go no_none (λ mid n answer ran is. let one = sym ran.0.2 ∙ is in cc) step refl
step_rose answers who (MoveBegin store now) old new step = Acts-rose (λ m. None) (Begins (store_of store) now) (λ m. None) all_go no_none begins_not step refl
step_rose answers who (MoveStep n) old new step = Acts-rose (λ m. no_move (get m.moves n)) (GoesOn n) (λ m. change_of m (get m.moves n)) (ends_move n) (λ m. no_step (get m.moves n)) goes_not step refl
step_rose answers who Sweep old new step = Acts-rose (λ m. None) Sweeps (λ m. None) all_go no_none (λ mid n answer ran is. let one = sym ran.answered ∙ is in cc) step refl
step_rose answers who (Pin name query) old new step = Acts-rose (details_refused name) (MakesPin who name query) (λ m. None) all_go (no_details name) pins_not step refl
step_rose answers who (OpenPiece pin i) old new step = opens_rose step refl
step_rose answers who (Unpin pin) old new step = absurd (no_answer answers who (Unpin pin) old new refl step)
step_rose answers who (Names from most) old new step = absurd (no_answer answers who (Names from most) old new refl step)
step_rose answers who (Details name) old new step = Acts-rose (details_refused name) (Describes name) (λ m. None) all_go (no_details name) (λ mid n answer ran is. let one = sym ran.answered ∙ is in cc) step refl
step_rose answers who Doors old new step = absurd (no_answer answers who Doors old new refl step)
step_rose answers who DoorDone old new step = absurd (no_answer answers who DoorDone old new refl step)

-- A RUN

pub runs_counts : (entries : List Entry) (old new : Machine) → IsSound old → Runs old entries new → HasNotFallen old.faults new.faults
runs_counts [] old new s is = subst (λ (m : Machine). HasNotFallen old.faults m.faults) (sym is) (counts_none old.faults)
runs_counts (e ∷ rest) old new s run =
    let may = run.0 in
    let mid = run.1 in
    let step = run.2 in
    counts_then old.faults mid.faults new.faults (step_counts e.who e.act old mid e.answer s may step) (runs_counts rest mid new (step_sound e.who e.act old mid e.answer s may step) run.3)

-- where one of one's own acts is told as a fault, the count rose
pub runs_rose : AnswersAreOfActs → (who : ℕ) (entries : List Entry) (old new : Machine) (before behind : List Done) (act : Act) → IsSound old → Runs old entries new → mine who entries ≡ before ++ record { act = act; answer = DiskFault } ∷ behind → Rose old.faults new.faults
runs_rose answers who entries old new before behind act s run is =
    let cut = cut_at who entries before behind (record { act = act; answer = DiskFault }) is in
    let at = steps_at cut.front cut.back cut.entry old new (subst (λ (es : List Entry). Runs old es new) cut.is run) in
    let sound : IsSound at.at = runs_sound cut.front old at.at s at.to in
    let failed : cut.entry.answer ≡ DiskFault = ap (λ (d : Done). d.answer) cut.done in
    let step : Step cut.entry.who cut.entry.act at.at DiskFault at.after = subst (λ (r : Reply). Step cut.entry.who cut.entry.act at.at r at.after) failed at.step in
    let later : IsSound at.after = step_sound cut.entry.who cut.entry.act at.at at.after cut.entry.answer sound at.asked at.step in
    rose_before old.faults at.after.faults new.faults
    (rose_later old.faults at.at.faults at.after.faults (runs_counts cut.front old at.at s at.to) (step_rose answers cut.entry.who cut.entry.act at.at at.after step))
    (runs_counts cut.back at.after new later at.from)
