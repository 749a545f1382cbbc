-- An act is answered by its own answers alone.
use Rattle.std.proofs.Common.{◌≡◌, ℕ, ◌+◌, List, Option, Some, None, Bool, true, false, refl, sym, subst, inl, inr}
use Rattle.std.specs.Prelude.{◌==◌, ◌-◌, slice_get, nat_le, nat_lt, length}
use Rattle.pb_messages.specs.declared.about.State.TheVariants.{Running, Paused, Retired}
use Rattle.std.specs.Ordering.{nat_cmp}
use Rattle.std.specs.FinMap.{FinMap, get}
use Rattle.series_model.specs.Limits.{intake_room}
use Rattle.series_model.specs.declared.sample.Sample.{Sample}
use Rattle.series_model.specs.declared.sample.Query.{Query}
use Rattle.series_model.specs.declared.admission.Reason.{Reason}
use Rattle.series_model.specs.Admission.{refused_by_row, refused_by_time}
use Rattle.pb_messages.specs.declared.about.Method.{Method}
use Rattle.pb_messages.specs.declared.about.Method.TheVariants.{Monitor, Scan}
use Rattle.pb_messages.specs.declared.about.State.{State}
use Rattle.pb_wire.specs.declared.payload.PayloadType.{PayloadType}
use Rattle.act_model.specs.declared.acts.Act.{Act}
use Rattle.act_model.specs.declared.acts.Act.TheVariants.{Register, Pause, Resume, Rename, Offer, Tick, Flush, MoveBegin, MoveStep, Sweep, Pin, OpenPiece, Unpin, Names, Details, Doors, DoorDone}
use Rattle.act_model.specs.declared.acts.Answer.TheVariants.{NameTaken, KeyTaken, CatalogueFull, NoSuchVariable, RenameNotPaused, NotDurable, NotRunning, NotPaused, NoMove, NoPin, NotYours, Kept, DiskFault, Memory}
use Rattle.act_model.specs.Reply.{Reply}
use Rattle.act_model.specs.Answers.{is_answer_to}
use Rattle.act_model.specs.Rows.{RowState, number_of, standing, period_of, is_running, is_paused, is_empty}
use Rattle.act_model.specs.Machine.{Machine, MoveState, PinState, Change, find_row, with_key, held_bytes}
use Rattle.act_model.specs.Outcome.{Outcome, Ends, Acts, refused_at_once, refused, runs, faults_first, faults_between, faults_within, faults_removing, wants_memory, wants_memory_settled}
use Rattle.act_model.specs.Register.{register_refused}
use Rattle.act_model.specs.Pause.{state_refused, not_running}
use Rattle.act_model.specs.Resume.{not_paused}
use Rattle.act_model.specs.Rename.{changed_within, last_durable, rename_refused}
use Rattle.act_model.specs.Changes.{with_rows, at}
use Rattle.act_model.specs.Offer.{gains, offered_to, offered}
use Rattle.act_model.specs.Tick.{ticked_due, ticked}
use Rattle.act_model.specs.History.{Entry, Acted, Goes}
use Rattle.act_model.proofs.RowActs.{tried_is}
use Rattle.act_model.proofs.Histories.{last_step}
use Rattle.act_model.specs.MoveBegin.{Begins, begins, all_run, none_to_make}
use Rattle.act_model.specs.MoveStep.{GoesOn, copies, has_copied, publishes, retires, again, damaged, no_move}
use Rattle.act_model.specs.Pin.{MakesPin, pins}
use Rattle.act_model.specs.OpenPiece.{Opens, refused_open, no_piece, opens, faults_opening, wants_memory_opening}
use Rattle.act_model.specs.Unpin.{Unpins, refused_unpin, unpins, pin_refused}
use Rattle.act_model.specs.Details.{details_refused}
use Rattle.act_model.specs.Step.{Step}

-- an act that settles a doubt has the answers of its refusals and of what it runs, and may fail or want memory
module _ (act : Act) (refuse : Machine → Option Reply) (run : Machine → Reply → Machine → Type 0) (change : Machine → Option Change) (stopped : FinMap nat_cmp MoveState → FinMap nat_cmp MoveState)
    (refuses : (m : Machine) (answer : Reply) → refuse m ≡ Some answer → is_answer_to act answer ≡ true) (ends : (mid new : Machine) (answer : Reply) → run mid answer new → is_answer_to act answer ≡ true)
    (fails : is_answer_to act DiskFault ≡ true) (wants : is_answer_to act Memory ≡ true) where
  Acts-answers : {old new : Machine} {answer : Reply} → Acts refuse run change stopped old answer new → is_answer_to act answer ≡ true
  Acts-answers {old} (refused_at_once answer p) = refuses old answer p
  Acts-answers (refused {mid = mid} answer p settles q same r) = refuses mid answer q
  Acts-answers {old} {new} (runs {mid = mid} answer p settles q ran r) = ends mid new answer ran
  Acts-answers (faults_first p same q) = fails
  Acts-answers (faults_between p settles same q) = fails
  Acts-answers (faults_within doubted p settles q r same t) = fails
  Acts-answers (faults_removing done gone p settles q ran t) = fails
  Acts-answers (wants_memory same q) = wants
  Acts-answers (wants_memory_settled p settles same q) = wants

Ends-answers : (act : Act) (end : Outcome) (old new : Machine) (answer : Reply) → is_answer_to act end.answer ≡ true → is_answer_to act Memory ≡ true → Ends end old answer new → is_answer_to act answer ≡ true
Ends-answers act end old new answer is wants (inl p) = subst (λ a. is_answer_to act a ≡ true) (sym p.0) is
Ends-answers act end old new answer is wants (inr p) = subst (λ a. is_answer_to act a ≡ true) (sym p.0) wants

some_is : {a b : Reply} → Some a ≡ Some b → a ≡ b
some_is is = cc

-- what was refused so
as_said : (act : Act) (said answer : Reply) → is_answer_to act said ≡ true → Some said ≡ Some answer → is_answer_to act answer ≡ true
as_said act said answer of_act is = subst (λ a. is_answer_to act a ≡ true) (some_is is) of_act

-- a name that gets no row
module _ (act : Act) (named : (i : ℕ) → is_answer_to act (NameTaken i) ≡ true) (keyed : (i : ℕ) → is_answer_to act (KeyTaken i) ≡ true) (crowded : is_answer_to act CatalogueFull ≡ true) where
  register_refuses : (name : List ℕ) (m : Machine) (answer : Reply) → register_refused name m ≡ Some answer → is_answer_to act answer ≡ true
  register_refuses name m answer is = by_name (find_row m name) refl
    where
      by_full : (b : Bool) → nat_le 65536 (length m.rows) ≡ b → find_row m name ≡ None → with_key m name ≡ None → is_answer_to act answer ≡ true
      by_full true full none free = as_said act CatalogueFull answer crowded (rw (none, free, full) at is)
      by_full false full none free = absurd (let bad = rw (none, free, full) at is in cc)

      by_key : (o : Option ℕ) → with_key m name ≡ o → find_row m name ≡ None → is_answer_to act answer ≡ true
      by_key (Some i) taken none = as_said act (KeyTaken i) answer (keyed i) (rw (none, taken) at is)
      by_key None free none = by_full (nat_le 65536 (length m.rows)) refl none free

      by_name : (o : Option ℕ) → find_row m name ≡ o → is_answer_to act answer ≡ true
      by_name (Some i) found = as_said act (NameTaken i) answer (named i) (rw found at is)
      by_name None none = by_key (with_key m name) refl none

-- a state that doesn't suit
module _ (act : Act) (wrong : State → Option Reply) (says : (state : State) (answer : Reply) → wrong state ≡ Some answer → is_answer_to act answer ≡ true) (unknown : is_answer_to act NoSuchVariable ≡ true) where
  state_refuses : (name : List ℕ) (m : Machine) (answer : Reply) → state_refused wrong name m ≡ Some answer → is_answer_to act answer ≡ true
  state_refuses name m answer is = by_name (find_row m name) refl
    where
      by_row : (i : ℕ) → find_row m name ≡ Some i → (o : Option RowState) → slice_get m.rows i ≡ o → is_answer_to act answer ≡ true
      by_row i found (Some row) here = says row.state answer (rw (found, here) at is)
      by_row i found None none = as_said act NoSuchVariable answer unknown (rw (found, none) at is)

      by_name : (o : Option ℕ) → find_row m name ≡ o → is_answer_to act answer ≡ true
      by_name (Some i) found = by_row i found (slice_get m.rows i) refl
      by_name None none = as_said act NoSuchVariable answer unknown (rw none at is)

pause_says : (name : List ℕ) (state : State) (answer : Reply) → not_running state ≡ Some answer → is_answer_to (Pause name) answer ≡ true
pause_says name Running answer is = absurd cc
pause_says name Paused answer is = as_said (Pause name) NotRunning answer refl is
pause_says name Retired answer is = as_said (Pause name) NotRunning answer refl is

resume_says : (name : List ℕ) (state : State) (answer : Reply) → not_paused state ≡ Some answer → is_answer_to (Resume name) answer ≡ true
resume_says name Running answer is = as_said (Resume name) NotPaused answer refl is
resume_says name Paused answer is = absurd cc
resume_says name Retired answer is = as_said (Resume name) NotPaused answer refl is

-- a rename that is refused
rename_refuses : (changed : ℕ) (found : Option ℕ) (name newname : List ℕ) (m : Machine) (answer : Reply) → rename_refused changed found name newname m ≡ Some answer → is_answer_to (Rename name newname) answer ≡ true
rename_refuses changed found name newname m answer is = by_name (find_row m name) refl
  where
    by_tail : (i : ℕ) (row : RowState) → find_row m name ≡ Some i → slice_get m.rows i ≡ Some row → is_paused row.state ≡ true → register_refused newname m ≡ None → (b : Bool) → is_empty row.tail ≡ b → is_answer_to (Rename name newname) answer ≡ true
    by_tail i row here there paused free true empty = absurd (let bad = rw (here, there, paused, free, empty) at is in cc)
    by_tail i row here there paused free false some = as_said (Rename name newname) (NotDurable (row.next - 1) (last_durable found m i)) answer refl (rw (here, there, paused, free, some) at is)

    by_newname : (i : ℕ) (row : RowState) → find_row m name ≡ Some i → slice_get m.rows i ≡ Some row → is_paused row.state ≡ true → (o : Option Reply) → register_refused newname m ≡ o → is_answer_to (Rename name newname) answer ≡ true
    by_newname i row here there paused None free = by_tail i row here there paused free (is_empty row.tail) refl
    by_newname i row here there paused (Some reply) taken =
        as_said (Rename name newname) reply answer (register_refuses (Rename name newname) (λ k. refl) (λ k. refl) refl newname m reply taken) (rw (here, there, paused, taken) at is)

    by_paused : (i : ℕ) (row : RowState) → find_row m name ≡ Some i → slice_get m.rows i ≡ Some row → (b : Bool) → is_paused row.state ≡ b → is_answer_to (Rename name newname) answer ≡ true
    by_paused i row here there true paused = by_newname i row here there paused (register_refused newname m) refl
    by_paused i row here there false other = as_said (Rename name newname) (RenameNotPaused row.state changed 0) answer refl (rw (here, there, other) at is)

    by_row : (i : ℕ) → find_row m name ≡ Some i → (o : Option RowState) → slice_get m.rows i ≡ o → is_answer_to (Rename name newname) answer ≡ true
    by_row i here (Some row) there = by_paused i row here there (is_paused row.state) refl
    by_row i here None none = as_said (Rename name newname) NoSuchVariable answer refl (rw (here, none) at is)

    by_name : (o : Option ℕ) → find_row m name ≡ o → is_answer_to (Rename name newname) answer ≡ true
    by_name (Some i) here = by_row i here (slice_get m.rows i) refl
    by_name None none = as_said (Rename name newname) NoSuchVariable answer refl (rw none at is)

-- a name that no row has
unknown_refuses : (act : Act) → is_answer_to act NoSuchVariable ≡ true → (name : List ℕ) (m : Machine) (answer : Reply) → details_refused name m ≡ Some answer → is_answer_to act answer ≡ true
unknown_refuses act unknown name m answer is = by_name (find_row m name) refl
  where
    by_name : (o : Option ℕ) → find_row m name ≡ o → is_answer_to act answer ≡ true
    by_name (Some i) found = absurd (let bad = rw found at is in cc)
    by_name None none = as_said act NoSuchVariable answer unknown (rw none at is)

move_refuses : (n : ℕ) (o : Option MoveState) (answer : Reply) → no_move o ≡ Some answer → is_answer_to (MoveStep n) answer ≡ true
move_refuses n None answer is = as_said (MoveStep n) NoMove answer refl is
move_refuses n (Some move) answer is = absurd cc

pin_refuses : (act : Act) (who : ℕ) → is_answer_to act NoPin ≡ true → ((owner : ℕ) → is_answer_to act (NotYours owner) ≡ true) → (o : Option PinState) (answer : Reply) → pin_refused who o ≡ Some answer → is_answer_to act answer ≡ true
pin_refuses act who free other None answer is = as_said act NoPin answer free is
pin_refuses act who free other (Some pin) answer is = by_owner (pin.owner == who) refl
  where
    by_owner : (b : Bool) → (pin.owner == who) ≡ b → is_answer_to act answer ≡ true
    by_owner true own = absurd (let bad = rw own at is in cc)
    by_owner false own = as_said act (NotYours pin.owner) answer (other pin.owner) (rw own at is)

-- OFFERS AND TICKS

module _ (name : List ℕ) (ty : PayloadType) (s : Sample) (now : ℕ) (m : Machine) where
  abbrev OfOffer : Outcome → Type 0
  OfOffer end = is_answer_to (Offer name ty s.t s.line now) end.answer ≡ true

  offered_to_says : (i : ℕ) (row : RowState) → OfOffer (offered_to m i row ty s now)
  offered_to_says i row = by_reason (refused_by_row (Some (standing row)) (number_of ty)) refl
    where
      by_method : (d : Method) → row.about.method ≡ d → refused_by_row (Some (standing row)) (number_of ty) ≡ None → OfOffer (offered_to m i row ty s now)
      by_method Monitor is none = rw (none, is) (tried_is OfOffer m row s now (record { answer = Kept; after = with_rows m (at i (gains s)) }) (λ reason. refl) refl (λ late fits. refl))
      by_method (Scan period) is none = rw (none, is) refl

      by_reason : (o : Option Reason) → refused_by_row (Some (standing row)) (number_of ty) ≡ o → OfOffer (offered_to m i row ty s now)
      by_reason (Some reason) is = rw is refl
      by_reason None is = by_method row.about.method refl is

  offered_says : OfOffer (offered m name ty s now)
  offered_says = by_name (find_row m name) refl
    where
      by_row : (i : ℕ) → (o : Option RowState) → slice_get m.rows i ≡ o → find_row m name ≡ Some i → OfOffer (offered m name ty s now)
      by_row i None none is = rw (is, none) refl
      by_row i (Some row) here is = rw (is, here) (offered_to_says i row)

      by_name : (o : Option ℕ) → find_row m name ≡ o → OfOffer (offered m name ty s now)
      by_name None is = rw is refl
      by_name (Some i) is = by_row i (slice_get m.rows i) refl is

module _ (i now : ℕ) (m : Machine) where
  abbrev OfTick : Outcome → Type 0
  OfTick end = is_answer_to (Tick i now) end.answer ≡ true

  ticked_due_says : (row : RowState) (period : ℕ) → OfTick (ticked_due m i row period now)
  ticked_due_says row period = by_held row.cell.held refl
    where
      by_room : (s : Sample) → row.cell.held ≡ Some s → refused_by_time row.next s.t now ≡ None → (b : Bool) → nat_lt intake_room (held_bytes m.rows + (length s.line + 1)) ≡ b → OfTick (ticked_due m i row period now)
      by_room s is why true full = rw (is, why, full) refl
      by_room s is why false full = rw (is, why, full) refl

      by_reason : (s : Sample) → row.cell.held ≡ Some s → (o : Option Reason) → refused_by_time row.next s.t now ≡ o → OfTick (ticked_due m i row period now)
      by_reason s is (Some reason) why = rw (is, why) refl
      by_reason s is None why = by_room s is why (nat_lt intake_room (held_bytes m.rows + (length s.line + 1))) refl

      by_held : (o : Option Sample) → row.cell.held ≡ o → OfTick (ticked_due m i row period now)
      by_held None is = rw is refl
      by_held (Some s) is = by_reason s is (refused_by_time row.next s.t now) refl

  ticked_says : OfTick (ticked m i now)
  ticked_says = by_row (slice_get m.rows i) refl
    where
      by_due : (row : RowState) (period : ℕ) → slice_get m.rows i ≡ Some row → period_of row.about.method ≡ Some period → is_running row.state ≡ true → (b : Bool) → nat_le row.cell.due now ≡ b → OfTick (ticked m i now)
      by_due row period here is up true due = rw (here, is, up, due) (ticked_due_says row period)
      by_due row period here is up false due = rw (here, is, up, due) refl

      by_state : (row : RowState) (period : ℕ) → slice_get m.rows i ≡ Some row → period_of row.about.method ≡ Some period → (b : Bool) → is_running row.state ≡ b → OfTick (ticked m i now)
      by_state row period here is true up = by_due row period here is up (nat_le row.cell.due now) refl
      by_state row period here is false up = rw (here, is, up) refl

      by_period : (row : RowState) → slice_get m.rows i ≡ Some row → (o : Option ℕ) → period_of row.about.method ≡ o → OfTick (ticked m i now)
      by_period row here None is = rw (here, is) refl
      by_period row here (Some period) is = by_state row period here is (is_running row.state) refl

      by_row : (o : Option RowState) → slice_get m.rows i ≡ o → OfTick (ticked m i now)
      by_row None none = rw none refl
      by_row (Some row) here = by_period row here (period_of row.about.method) refl

-- MOVES, PINS AND PIECES

begins_says : {store : _} (number now : ℕ) {mid new : Machine} {answer : Reply} → Begins store now mid answer new → is_answer_to (MoveBegin number now) answer ≡ true
begins_says number now (begins n i parts to apart low free empty least has passed same) = refl
begins_says number now (all_run n i moving made passed has same) = refl
begins_says number now (none_to_make has same) = refl

goes_says : {n : ℕ} {mid new : Machine} {answer : Reply} → GoesOn n mid answer new → is_answer_to (MoveStep n) answer ≡ true
goes_says (copies move first more next rest here at left same) = refl
goes_says (has_copied move xs here at left same) = refl
goes_says (publishes move here at same) = refl
goes_says (retires move into here at covers stays named same) = refl
goes_says (again move len copied here at grown less part same) = refl
goes_says (damaged name at untold same) = refl

pins_says : {who : ℕ} {name : List ℕ} {query : Query} {mid new : Machine} {answer : Reply} → MakesPin who name query mid answer new → is_answer_to (Pin name query) answer ≡ true
pins_says (pins i row pin pieces a b c d e order f few same) = refl

opens_says : {who pin i : ℕ} {old new : Machine} {answer : Reply} → Opens who pin i old answer new → is_answer_to (OpenPiece pin i) answer ≡ true
opens_says {who} {pin} {i} {old} (refused_open reply p) = pin_refuses (OpenPiece pin i) who refl (λ owner. refl) (get old.pins pin) reply p
opens_says (no_piece p a b c) = refl
opens_says (opens p piece reader name head_len len a b c d e named enough same f) = refl
opens_says (faults_opening p piece a b c same q) = refl
opens_says (wants_memory_opening same q) = refl

unpins_says : {who pin : ℕ} {old new : Machine} {answer : Reply} → Unpins who pin old answer new → is_answer_to (Unpin pin) answer ≡ true
unpins_says {who} {pin} {old} (refused_unpin reply p) = pin_refuses (Unpin pin) who refl (λ owner. refl) (get old.pins pin) reply p
unpins_says (unpins p) = refl

nothing_refused : (act : Act) (m : Machine) (answer : Reply) → None ≡ Some answer → is_answer_to act answer ≡ true
nothing_refused act m answer is = absurd cc

-- a change whose answer is this
as_answered : (act : Act) (said answer : Reply) → is_answer_to act said ≡ true → answer ≡ said → is_answer_to act answer ≡ true
as_answered act said answer of_act is = subst (λ a. is_answer_to act a ≡ true) (sym is) of_act

pub step_answers : (who : ℕ) (act : Act) (old new : Machine) (answer : Reply) → Step who act old answer new → is_answer_to act answer ≡ true
step_answers who (Register name about) old new answer step = Acts-answers (Register name about) _ _ _ _ (register_refuses (Register name about) (λ i. refl) (λ i. refl) refl name) (λ mid new answer ran. as_answered (Register name about) _ answer refl ran.0) refl refl step
step_answers who (Pause name) old new answer step = Acts-answers (Pause name) _ _ _ _ (state_refuses (Pause name) not_running (pause_says name) refl name) (λ mid new answer ran. as_answered (Pause name) _ answer refl ran.0) refl refl step
step_answers who (Resume name) old new answer step = Acts-answers (Resume name) _ _ _ _ (state_refuses (Resume name) not_paused (resume_says name) refl name) (λ mid new answer ran. as_answered (Resume name) _ answer refl ran.0) refl refl step
step_answers who (Rename name newname) old new answer step = Acts-answers (Rename name newname) _ _ _ _ (rename_refuses (changed_within name old) step.0 name newname) (λ mid new answer ran. as_answered (Rename name newname) _ answer refl ran.0) refl refl step.1
step_answers who (Offer name ty t line now) old new answer step = Ends-answers (Offer name ty t line now) _ old new answer (offered_says name ty (record { t = t; line = line }) now old) refl step
step_answers who (Tick row now) old new answer step = Ends-answers (Tick row now) _ old new answer (ticked_says row now old) refl step
step_answers who (Flush limit) old new answer step = Acts-answers (Flush limit) _ _ _ _ (nothing_refused (Flush limit)) (λ mid new answer ran. as_answered (Flush limit) _ answer refl ran.0.2) refl refl step
step_answers who (MoveBegin store now) old new answer step = Acts-answers (MoveBegin store now) _ _ _ _ (nothing_refused (MoveBegin store now)) (λ mid new answer ran. begins_says store now ran) refl refl step
step_answers who (MoveStep n) old new answer step = Acts-answers (MoveStep n) _ _ _ _ (λ m answer is. move_refuses n (get m.moves n) answer is) (λ mid new answer ran. goes_says ran) refl refl step
step_answers who Sweep old new answer step = Acts-answers Sweep _ _ _ _ (nothing_refused Sweep) (λ mid new answer ran. as_answered Sweep _ answer refl ran.answered) refl refl step
step_answers who (Pin name query) old new answer step = Acts-answers (Pin name query) _ _ _ _ (unknown_refuses (Pin name query) refl name) (λ mid new answer ran. pins_says ran) refl refl step
step_answers who (OpenPiece pin i) old new answer step = opens_says step
step_answers who (Unpin pin) old new answer step = unpins_says step
step_answers who (Names from most) old new answer step = Ends-answers (Names from most) _ old new answer refl refl step
step_answers who (Details name) old new answer step = Acts-answers (Details name) _ _ _ _ (unknown_refuses (Details name) refl name) (λ mid new answer ran. as_answered (Details name) _ answer refl ran.answered) refl refl step
step_answers who Doors old new answer step = as_answered Doors _ answer refl step.0
step_answers who DoorDone old new answer step = as_answered DoorDone _ answer refl step.0

-- the answer of an actor's act is one of the act's own
module _ {A : Type 0} (number : A → ℕ) (between : A → List Entry → A → Type 0) (stands : A → Machine → Type 0) (legal : (a b : A) (entries : List Entry) (m : Machine) → between a entries b → stands a m → Goes (stands b) m entries) where
  pub acted_answers : (old new : A) (act : Act) (answer : Reply) (m : Machine) → stands old m → Acted number between old act answer new → is_answer_to act answer ≡ true
  acted_answers old new act answer m s acted = let last = last_step number between stands legal old new act answer m s acted in step_answers (number old) act last.at last.after answer last.step
