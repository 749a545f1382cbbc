-- What an act leaves durable that comes to its end is among what a crash within it may leave. And what Details tells is of the row.
use Rattle.std.proofs.Common.{◌≡◌, ℕ, ◌+◌, suc, List, [], ◌∷◌, length, Option, Some, None, Bool, true, false, refl, ap, sym, ◌∙◌, arith, subst, inl, inr}
use Rattle.std.specs.Prelude.{slice_get, map}
use Rattle.std.specs.Ordering.{nat_cmp}
use Rattle.std.specs.FinMap.{FinMap, get}
use Rattle.pb_messages.specs.declared.about.State.TheVariants.{Running, Paused}
use Rattle.act_model.specs.declared.acts.Act.{Act}
use Rattle.act_model.specs.declared.acts.Act.TheVariants.{Register, Pause, Resume, Rename, Offer, Tick, Flush, MoveBegin, MoveStep, Sweep, Pin, OpenPiece, Unpin, Names, Details, Doors, DoorDone}
use Rattle.act_model.specs.declared.acts.Answer.TheVariants.{Described}
use Rattle.act_model.specs.declared.details.Details.{Details as Told}
use Rattle.act_model.specs.Reply.{Reply}
use Rattle.act_model.specs.Rows.{RowState, durable, accepted, is_paused, is_empty}
use Rattle.act_model.specs.Machine.{Machine, MoveState, Change, AddsRow, SetsState, Renames, Appends, Publishes, Unlists, find_row}
use Rattle.act_model.specs.Changes.{made, each, at, Settles}
use Rattle.act_model.specs.Outcome.{Outcome, Ends, Same, Acts, stops, all_go, refused_at_once, refused, runs, faults_first, faults_between, faults_within, faults_removing, wants_memory, wants_memory_settled}
use Rattle.act_model.specs.Register.{register_refused, Registers}
use Rattle.act_model.specs.Pause.{state_refused, Sets, sets_of, not_running}
use Rattle.act_model.specs.Resume.{not_paused}
use Rattle.act_model.specs.Rename.{IsRenamed, changed_within, rename_refused, renames_of}
use Rattle.act_model.specs.Whole.{whole}
use Rattle.act_model.specs.Flush.{Flushes, batch_of}
use Rattle.act_model.specs.Details.{Describes, details_refused}
use Rattle.act_model.specs.MoveBegin.{Begins, begins, all_run, none_to_make}
use Rattle.act_model.specs.MoveStep.{GoesOn, copies, has_copied, publishes, retires, again, damaged, no_move, change_of, ends_move}
use Rattle.act_model.specs.Sweep.{Sweeps}
use Rattle.act_model.specs.Pin.{MakesPin, pins}
use Rattle.act_model.specs.OpenPiece.{Opens, refused_open, no_piece, opens, faults_opening, wants_memory_opening}
use Rattle.act_model.specs.Unpin.{Unpins, refused_unpin, unpins}
use Rattle.act_model.specs.Step.{Step, MayAsk, store_of, change_by, refuse_by}
use Rattle.act_model.specs.Sound.{IsSound}
use Rattle.act_model.specs.Crash.{kept_of, kept, LeftWithin, before_it, settled_there, with_change, as_it_is}
use Rattle.act_model.proofs.TailLaws.{RowTail}
use Rattle.act_model.proofs.ChangeLaws.{at_row}
use Rattle.act_model.proofs.RowActs.{RowAct, stays_act, row_act, offered_act, ticked_act}

-- WHAT STAYS OF ROWS

kept_each : (f : ℕ → RowState → RowState) (k : ℕ) (rows : List RowState) → ((j : ℕ) (row : RowState) → slice_get rows j ≡ Some row → kept_of (f (k + j) row) ≡ kept_of row) → map kept_of (each f k rows) ≡ map kept_of rows
kept_each f k [] same = refl
kept_each f k (row ∷ rows) same =
    let plain : k + 0 ≡ k = omega arith in
    let first : kept_of (f k row) ≡ kept_of row = subst (λ n. kept_of (f n row) ≡ kept_of row) plain (same 0 row refl) in
    let rest : map kept_of (each f (k + 1) rows) ≡ map kept_of rows = kept_each f (k + 1) rows (λ j other here. let next : k + suc j ≡ (k + 1) + j = omega arith in subst (λ n. kept_of (f n other) ≡ kept_of other) next (same (suc j) other here)) in
    ap (λ d. d ∷ map kept_of (each f (k + 1) rows)) first ∙ ap (λ ds. kept_of row ∷ ds) rest

tail_kept : (told : Bool) (row new : RowState) → RowTail told row new → kept_of new ≡ kept_of row
tail_kept told row new t = rw (t.name, t.about, t.state, t.base, t.short, t.medium, t.long) refl

-- an offer or a tick changes nothing that a crash leaves
act_kept : (m : Machine) (end : Outcome) → RowAct m end → kept m ≡ kept end.after
act_kept m end (stays_act answer) = refl
act_kept m end (row_act answer i f row here tail bytes) =
    sym (kept_each (at i f) 0 m.rows (λ j other there. at_row i (0 + j) f other (λ r. kept_of r ≡ kept_of other) refl
    (λ is. let back : i ≡ j = omega arith in let same : row ≡ other = by_some (sym here ∙ (ap (λ n. slice_get m.rows n) back ∙ there)) in subst (λ r. kept_of (f r) ≡ kept_of r) same (tail_kept m.told row (f row) tail))))
  where
    by_some : {a b : RowState} → Some a ≡ Some b → a ≡ b
    by_some is = cc

same_kept : (mid new : Machine) → Same mid new → kept mid ≡ kept new
same_kept mid new same = sym (ap (λ (m : Machine). kept m) same)

-- WHAT A CRASH MAY LEAVE

abbrev IsLeft : Act → Machine → Machine → Type 0
IsLeft act old new = (left : Machine) × LeftWithin (refuse_by act) (change_by act) old left × (kept left ≡ kept new)

as_before : (act : Act) (old new : Machine) → kept old ≡ kept new → IsLeft act old new
as_before act old new same = (old, before_it as_it_is, same)

ends_left : (act : Act) (end : Outcome) (old new : Machine) (answer : Reply) → kept old ≡ kept end.after → Ends end old answer new → IsLeft act old new
ends_left act end old new answer same (inl p) = as_before act old new (same ∙ ap (λ (m : Machine). kept m) (sym p.1))
ends_left act end old new answer same (inr p) = as_before act old new (ap (λ (m : Machine). kept m) (sym p.1))

-- what an act runs leaves durable what was, or makes the act's one change
data Leaves (act : Act) (mid new : Machine) : Type 0 where
  leaves : kept mid ≡ kept new → Leaves act mid new
  makes : (one : Change) → refuse_by act mid ≡ None → change_by act mid ≡ Some one → kept (made [] one mid) ≡ kept new → Leaves act mid new

module _ (act : Act) (refuse : Machine → Option Reply) (run : Machine → Reply → Machine → Type 0) (change : Machine → Option Change) (stopped : FinMap nat_cmp MoveState → FinMap nat_cmp MoveState)
    (ran : (mid : Machine) (answer : Reply) (new : Machine) → refuse mid ≡ None → run mid answer new → Leaves act mid new) where
  settled_left : {old mid : Machine} (new : Machine) → Settles old mid → kept mid ≡ kept new → IsLeft act old new
  settled_left {mid = mid} new settles same = (mid, settled_there settles, same)

  run_left : {old mid new : Machine} → Settles old mid → Leaves act mid new → IsLeft act old new
  run_left {new = new} settles (leaves same) = settled_left new settles same
  run_left {mid = mid} settles (makes one free is same) = (made [] one mid, with_change one settles free is, same)

  Acts-left : {old new : Machine} {answer : Reply} → Acts refuse run change stopped old answer new → IsLeft act old new
  Acts-left {old} (refused_at_once answer p) = as_before act old old refl
  Acts-left {old} {new} (refused {mid = mid} answer p settles q same r) = settled_left new settles (same_kept mid new same)
  Acts-left {old} {new} (runs {mid = mid} answer p settles q did r) = run_left settles (ran mid answer new q did)
  Acts-left {old} {new} (faults_first p same q) = as_before act old new (same_kept (stops stopped old) new same)
  Acts-left {old} {new} (faults_between {mid = mid} p settles same q) = settled_left new settles (same_kept (stops stopped mid) new same)
  Acts-left {old} {new} (faults_within {mid = mid} doubted p settles q r same t) = settled_left new settles (same_kept (record (stops stopped mid) { doubt = Some doubted }) new same)
  Acts-left {old} {new} (faults_removing {mid = mid} done gone p settles q did t) = run_left settles (ran mid done new q did)
  Acts-left {old} {new} (wants_memory same q) = as_before act old new (same_kept old new same)
  Acts-left {old} {new} (wants_memory_settled {mid = mid} p settles same q) = settled_left new settles (same_kept mid new same)

begins_leave : {store now : _} {act : Act} {mid new : Machine} {answer : Reply} → Begins store now mid answer new → Leaves act mid new
begins_leave (begins n i parts to apart low free empty least has passed same) = leaves (sym (ap (λ (m : Machine). kept m) same))
begins_leave (all_run n i moving made passed has same) = leaves (sym (ap (λ (m : Machine). kept m) same))
begins_leave (none_to_make has same) = leaves (sym (ap (λ (m : Machine). kept m) same))

goes_leave : {n : ℕ} {mid new : Machine} {answer : Reply} → no_move (get mid.moves n) ≡ None → GoesOn n mid answer new → Leaves (MoveStep n) mid new
goes_leave free (copies move first more next rest here at left same) = leaves (sym (ap (λ (m : Machine). kept m) same))
goes_leave free (has_copied move xs here at left same) = leaves (sym (ap (λ (m : Machine). kept m) same))
goes_leave {n} {mid} free (publishes move here at same) =
    let own : change_of mid (get mid.moves n) ≡ Some (Publishes move.row move.store move.copied) = rw (here, at) refl in
    makes (Publishes move.row move.store move.copied) free own (sym (ap (λ (m : Machine). kept m) same))
goes_leave {n} {mid} free (retires move into here at covers stays named same) =
    let own : change_of mid (get mid.moves n) ≡ Some (Unlists move.row move.store move.to) = rw (here, at, covers) refl in
    makes (Unlists move.row move.store move.to) free own (sym (ap (λ (m : Machine). kept m) same))
goes_leave free (again move len copied here at grown less part same) = leaves (sym (ap (λ (m : Machine). kept m) same))
goes_leave free (damaged name at untold same) = leaves (sym (ap (λ (m : Machine). kept m) same))

pins_leave : {who : _} {name : _} {query : _} {act : Act} {mid new : Machine} {reply : Reply} → MakesPin who name query mid reply new → Leaves act mid new
pins_leave (pins i row pin pieces a b c d e order f few same) = leaves (sym (ap (λ (m : Machine). kept m) same))

opens_left : {who pin i : ℕ} {old new : Machine} {reply : Reply} (act : Act) → Opens who pin i old reply new → IsLeft act old new
opens_left {old = old} act (refused_open reply p) = as_before act old old refl
opens_left {old = old} act (no_piece p a b c) = as_before act old old refl
opens_left {old = old} {new = new} act (opens p piece reader name head_len len a b c d e named enough same f) = as_before act old new (same_kept old new same)
opens_left {old = old} {new = new} act (faults_opening p piece a b c same q) = as_before act old new (same_kept old new same)
opens_left {old = old} {new = new} act (wants_memory_opening same q) = as_before act old new (same_kept old new same)

unpins_left : {who pin : ℕ} {old new : Machine} {reply : Reply} (act : Act) → Unpins who pin old reply new → IsLeft act old new
unpins_left {old = old} act (refused_unpin reply p) = as_before act old old refl
unpins_left {old = old} {new = new} act (unpins p) = as_before act old new refl

-- what a rename's refusals tell doesn't matter to whether there is one
same_free : (changed : ℕ) (found : Option ℕ) (other : ℕ) (else_found : Option ℕ) (name newname : List ℕ) (m : Machine) → rename_refused changed found name newname m ≡ None → rename_refused other else_found name newname m ≡ None
same_free changed found other else_found name newname m free = by_name (find_row m name) refl
  where
    by_tail : (i : ℕ) (row : RowState) → find_row m name ≡ Some i → slice_get m.rows i ≡ Some row → is_paused row.state ≡ true → register_refused newname m ≡ None → (b : Bool) → is_empty row.tail ≡ b → rename_refused other else_found name newname m ≡ None
    by_tail i row here there paused none true empty = rw (here, there, paused, none, empty) refl
    by_tail i row here there paused none false some = absurd (let bad = rw (here, there, paused, none, some) at free in cc)

    by_newname : (i : ℕ) (row : RowState) → find_row m name ≡ Some i → slice_get m.rows i ≡ Some row → is_paused row.state ≡ true → (o : Option Reply) → register_refused newname m ≡ o → rename_refused other else_found name newname m ≡ None
    by_newname i row here there paused None none = by_tail i row here there paused none (is_empty row.tail) refl
    by_newname i row here there paused (Some reply) taken = absurd (let bad = rw (here, there, paused, taken) at free in cc)

    by_paused : (i : ℕ) (row : RowState) → find_row m name ≡ Some i → slice_get m.rows i ≡ Some row → (b : Bool) → is_paused row.state ≡ b → rename_refused other else_found name newname m ≡ None
    by_paused i row here there true paused = by_newname i row here there paused (register_refused newname m) refl
    by_paused i row here there false running = absurd (let bad = rw (here, there, running) at free in cc)

    by_row : (i : ℕ) → find_row m name ≡ Some i → (o : Option RowState) → slice_get m.rows i ≡ o → rename_refused other else_found name newname m ≡ None
    by_row i here (Some row) there = by_paused i row here there (is_paused row.state) refl
    by_row i here None gone = absurd (let bad = rw (here, gone) at free in cc)

    by_name : (o : Option ℕ) → find_row m name ≡ o → rename_refused other else_found name newname m ≡ None
    by_name (Some i) here = by_row i here (slice_get m.rows i) refl
    by_name None none = absurd (let bad = rw none at free in cc)

pub step_left : (who : ℕ) (act : Act) (old new : Machine) (answer : Reply) → IsSound old → MayAsk act → Step who act old answer new → IsLeft act old new
step_left who (Register name about) old new answer s ask step =
    Acts-left (Register name about) (register_refused name) (Registers name about) (λ m. Some (AddsRow name about)) all_go (λ mid answer new free p. makes (AddsRow name about) free refl (same_kept (made [] (AddsRow name about) mid) new p.1)) step
step_left who (Pause name) old new answer s ask step =
    Acts-left (Pause name) (state_refused not_running name) (Sets Paused name) (λ m. sets_of Paused (find_row m name)) all_go
    (λ mid answer new free p. makes (SetsState p.1.0 Paused) free (ap (λ o. sets_of Paused o) p.1.1) (same_kept (made [] (SetsState p.1.0 Paused) mid) new p.1.2)) step
step_left who (Resume name) old new answer s ask step =
    Acts-left (Resume name) (state_refused not_paused name) (Sets Running name) (λ m. sets_of Running (find_row m name)) all_go
    (λ mid answer new free p. makes (SetsState p.1.0 Running) free (ap (λ o. sets_of Running o) p.1.1) (same_kept (made [] (SetsState p.1.0 Running) mid) new p.1.2)) step
step_left who (Rename name newname) old new answer s ask step =
    let changed = changed_within name old in
    Acts-left (Rename name newname) (rename_refused changed step.0 name newname) (IsRenamed name newname) (λ m. renames_of newname (find_row m name)) all_go
    (λ mid answer new free p. makes (Renames p.1.0 newname) (same_free changed step.0 0 None name newname mid free) (ap (λ o. renames_of newname o) p.1.1) (same_kept (made [] (Renames p.1.0 newname) mid) new p.1.2)) step.1
step_left who (Offer name ty t line now) old new answer s ask step = ends_left (Offer name ty t line now) _ old new answer (act_kept old _ (offered_act old name ty (record { t = t; line = line }) now s ask)) step
step_left who (Tick row now) old new answer s ask step = ends_left (Tick row now) _ old new answer (act_kept old _ (ticked_act old row now s)) step
step_left who (Flush limit) old new answer s ask step =
    Acts-left (Flush limit) (λ m. None) (Flushes limit) (λ m. Some (Appends (batch_of limit m))) all_go (λ mid answer new free p. makes (Appends (batch_of limit mid)) refl refl (same_kept (made [] (Appends (batch_of limit mid)) mid) new p.1)) step
step_left who (MoveBegin store now) old new answer s ask step = Acts-left (MoveBegin store now) (λ m. None) (Begins (store_of store) now) (λ m. None) all_go (λ mid answer new free p. begins_leave p) step
step_left who (MoveStep n) old new answer s ask step = Acts-left (MoveStep n) (λ m. no_move (get m.moves n)) (GoesOn n) (λ m. change_of m (get m.moves n)) (ends_move n) (λ mid answer new free p. goes_leave free p) step
step_left who Sweep old new answer s ask step = Acts-left Sweep (λ m. None) Sweeps (λ m. None) all_go (λ mid answer new free p. leaves (sym (ap (λ (m : Machine). kept m) p.same))) step
step_left who (Pin name query) old new answer s ask step = Acts-left (Pin name query) (details_refused name) (MakesPin who name query) (λ m. None) all_go (λ mid answer new free p. pins_leave p) step
step_left who (OpenPiece pin i) old new answer s ask step = opens_left (OpenPiece pin i) step
step_left who (Unpin pin) old new answer s ask step = unpins_left (Unpin pin) step
step_left who (Names from most) old new answer s ask step = ends_left (Names from most) _ old new answer refl step
step_left who (Details name) old new answer s ask step = Acts-left (Details name) (details_refused name) (Describes name) (λ m. None) all_go (λ mid answer new free p. leaves (same_kept mid new p.same)) step
step_left who Doors old new answer s ask step = as_before Doors old new (ap (λ (m : Machine). kept m) (sym step.1))
step_left who DoorDone old new answer s ask step = as_before DoorDone old new (ap (λ (m : Machine). kept m) (sym step.1))

-- WHAT DETAILS TELLS

abbrev IsOfRow : List ℕ → Told → Machine → Type 0
IsOfRow name details m = (i : ℕ) × ((row : RowState) × (find_row m name ≡ Some i) × (slice_get m.rows i ≡ Some row) × (details.accepted ≡ length (whole accepted m.rows i)) × (details.durable ≡ length (whole durable m.rows i)))

abbrev described_as : Told → Reply
described_as details = Described details

not_refused : (name : List ℕ) (m : Machine) (details : Told) (o : Option ℕ) → find_row m name ≡ o → details_refused name m ≡ Some (described_as details) → ⊥
not_refused name m details (Some i) found is = absurd (let bad = rw found at is in cc)
not_refused name m details None found is = absurd (let bad = rw found at is in cc)

one_told : (a b : Told) → described_as a ≡ described_as b → a ≡ b
one_told a b is = cc

pub details_of_row : (name : List ℕ) (details : Told) (old new : Machine) (answer : Reply) → new.told ≡ true → Acts (details_refused name) (Describes name) (λ m. None) all_go old answer new → answer ≡ Described details → IsOfRow name details new
details_of_row name details old new answer told (refused_at_once a p) is = absurd (not_refused name old details (find_row old name) refl (p ∙ ap (λ w. Some w) is))
details_of_row name details old new answer told (refused {mid = mid} a p settles q same r) is = absurd (not_refused name mid details (find_row mid name) refl (q ∙ ap (λ w. Some w) is))
details_of_row name details old new answer told (runs {mid = mid} a p settles q d r) is =
    let own : d.details ≡ details = one_told d.details details (sym d.answered ∙ is) in
    let rows : mid.rows ≡ new.rows = sym (ap (λ (m : Machine). m.rows) d.same) in
    let known = d.told (sym (ap (λ (m : Machine). m.told) d.same) ∙ told) in (
      d.i,
      (
        d.row,
        ap (λ (m : Machine). find_row m name) d.same ∙ d.found,
        ap (λ (m : Machine). slice_get m.rows d.i) d.same ∙ d.here,
        subst (λ (x : Told). x.accepted ≡ length (whole accepted new.rows d.i)) own (known.accepted_is ∙ ap (λ w. length (whole accepted w d.i)) rows),
        subst (λ (x : Told). x.durable ≡ length (whole durable new.rows d.i)) own (known.durable_is ∙ ap (λ w. length (whole durable w d.i)) rows),
      ),
    )
details_of_row name details old new answer told (faults_first p same q) is = absurd cc
details_of_row name details old new answer told (faults_between p settles same q) is = absurd cc
details_of_row name details old new answer told (faults_within doubted p settles q r same t) is = absurd cc
details_of_row name details old new answer told (faults_removing done gone p settles q ran t) is = absurd cc
details_of_row name details old new answer told (wants_memory same q) is = absurd cc
details_of_row name details old new answer told (wants_memory_settled p settles same q) is = absurd cc
