-- Every step goes onward, and a crash within an act leaves what lies between durable and accepted.
use Rattle.std.proofs.Common.{◌≡◌, ℕ, List, [], ◌++◌, Option, Some, None, Bool, true, false, refl, ap, sym, ◌∙◌, subst, inl, inr, append_assoc, append-nil}
use Rattle.std.specs.Prelude.{slice_get}
use Rattle.std.specs.FinMap.{get}
use Rattle.series_model.specs.declared.sample.Query.{Query}
use Rattle.series_model.specs.Series.{over, since, end_of}
use Rattle.series_model.proofs.RisingLists.{since-append}
use Rattle.act_model.specs.declared.acts.Act.{Act}
use Rattle.act_model.specs.declared.acts.Act.TheVariants.{Register, Pause, Resume, Rename, Offer, Tick, Flush, MoveBegin, MoveStep, Sweep, Pin, OpenPiece, Unpin, Names, Details, Doors, DoorDone}
use Rattle.pb_messages.specs.declared.about.State.{State}
use Rattle.pb_messages.specs.declared.about.State.TheVariants.{Running, Paused, Retired}
use Rattle.act_model.specs.Reply.{Reply}
use Rattle.act_model.specs.Rows.{RowState, Store, durable, accepted, is_running}
use Rattle.act_model.specs.Machine.{Machine, Change, AddsRow, SetsState, Renames, Appends, Publishes, Unlists, find_row}
use Rattle.act_model.specs.Changes.{made, at}
use Rattle.act_model.specs.Outcome.{Outcome, Ends, Same, Acts, all_go}
use Rattle.act_model.specs.Register.{register_refused, Registers}
use Rattle.act_model.specs.Pause.{state_refused, Sets, sets_of, not_running}
use Rattle.act_model.specs.Resume.{not_paused}
use Rattle.act_model.specs.Rename.{IsRenamed, changed_within, rename_refused, renames_of}
use Rattle.act_model.specs.Flush.{Flushes, batch_of}
use Rattle.act_model.specs.Details.{Describes, details_refused}
use Rattle.act_model.specs.MoveBegin.{Begins, begins, all_run, none_to_make}
use Rattle.act_model.specs.MoveStep.{GoesOn, copies, has_copied, publishes, retires, again, damaged, no_move, change_of, ends_move}
use Rattle.act_model.specs.Sweep.{Sweeps}
use Rattle.act_model.specs.Pin.{MakesPin, pins}
use Rattle.act_model.specs.OpenPiece.{Opens, refused_open, no_piece, opens, faults_opening, wants_memory_opening}
use Rattle.act_model.specs.Unpin.{Unpins, refused_unpin, unpins}
use Rattle.act_model.specs.Step.{Step, MayAsk, store_of, change_by, refuse_by}
use Rattle.act_model.specs.Sound.{MayMake, IsSound}
use Rattle.act_model.specs.Crash.{LeftBetween, as_it_is, with_doubt, LeftWithin, before_it, settled_there, with_change, Between}
use Rattle.act_model.proofs.TailLaws.{Gain, no_gain, one_gain, RowTail}
use Rattle.act_model.proofs.RowActs.{RowAct, stays_act, row_act, act_follows, offered_act, ticked_act, register_may, state_live, sets_may, rename_may, renames_may, flush_may}
use Rattle.act_model.proofs.StepLaws.{settled_sound}
use Rattle.act_model.proofs.MoveActs.{publish_may, unlist_may, step_may}
use Rattle.act_model.proofs.ChangeLaws.{at_row}
use Rattle.act_model.specs.Growth.{RowOn, Onward}
use Rattle.act_model.proofs.Onward.{row_refl, each_on, onward_refl, onward_trans, onward_same, onward_counts, onward_made, onward_settled, Acts-onward, left_within}

made_counts : (mid new : Machine) (into : _) (change : Change) → IsSound mid → MayMake mid.rule mid.told mid.rows mid.limbo change → Same (made into change mid) new → Onward mid new
made_counts mid new into change s may same = onward_trans mid (made into change mid) new (onward_made mid into change s may) (onward_counts (made into change mid) new same)

tail_on : (told : Bool) (row new : RowState) → RowTail told row new → RowOn row new
tail_on told row new t =
    let p = end_of (durable row) in
    let same : durable new ≡ durable row = rw (t.short, t.medium, t.long) refl in
    let whole : accepted new ≡ accepted row ++ since p t.more.0 =
    ap (λ w. over w new.tail) same ∙ (ap (λ w. over (durable row) w) t.more.1 ∙ (ap (λ w. durable row ++ w) (since-append p row.tail t.more.0) ∙ sym (append_assoc (durable row) (since p row.tail) (since p t.more.0)))) in
    record { name = t.name; about = t.about; base = t.base; retired = λ is. (t.state ∙ is, by_gain is t.gain); durable_on = ([], same ∙ sym (append-nil (durable row))); accepted_on = (since p t.more.0, whole) }
  where
    by_gain : row.state ≡ Retired → Gain row new → accepted new ≡ accepted row
    by_gain is (no_gain tail next) = rw (t.short, t.medium, t.long, tail) refl
    by_gain is (one_gain s up late tail next) = absurd (let down : is_running row.state ≡ false = ap is_running is in cc)

act_onward : (m : Machine) (end : Outcome) → IsSound m → RowAct m end → Onward m end.after
act_onward m end s (stays_act answer) = onward_refl m
act_onward m end s (row_act answer i f row here tail bytes) =
    record {
      told = refl;
      rule = refl;
      rows = λ t. each_on (at i f) m.rows (λ j other there. at_row i j f other (λ r. RowOn other r) (row_refl other)
          (λ is. let same : row ≡ other = by_some (sym here ∙ (ap (λ n. slice_get m.rows n) (sym is) ∙ there)) in subst (λ r. RowOn r (f r)) same (tail_on m.told row (f row) tail)));
      follow = act_follows m end s (row_act answer i f row here tail bytes);
    }
  where
    by_some : {a b : RowState} → Some a ≡ Some b → a ≡ b
    by_some is = cc

ends_onward : (end : Outcome) (old new : Machine) (answer : Reply) → Onward old end.after → Ends end old answer new → Onward old new
ends_onward end old new answer on (inl p) = subst (λ m. Onward old m) (sym p.1) on
ends_onward end old new answer on (inr p) = subst (λ m. Onward old m) (sym p.1) (onward_refl old)

begins_onward : {store : Store} {now : ℕ} {mid new : Machine} {answer : Reply} → Begins store now mid answer new → Onward mid new
begins_onward {mid = mid} {new = new} (begins n i parts to apart low free empty least has passed same) = onward_same mid new (ap (λ (m : Machine). m.told) same) (ap (λ (m : Machine). m.rule) same) (ap (λ (m : Machine). m.rows) same)
begins_onward {mid = mid} {new = new} (all_run n i moving made passed has same) = onward_counts mid new same
begins_onward {mid = mid} {new = new} (none_to_make has same) = onward_counts mid new same

goes_onward : {n : ℕ} {mid new : Machine} {answer : Reply} → IsSound mid → GoesOn n mid answer new → Onward mid new
goes_onward {mid = mid} {new = new} s (copies move first more next rest here at left same) = onward_same mid new (ap (λ (m : Machine). m.told) same) (ap (λ (m : Machine). m.rule) same) (ap (λ (m : Machine). m.rows) same)
goes_onward {mid = mid} {new = new} s (has_copied move xs here at left same) = onward_same mid new (ap (λ (m : Machine). m.told) same) (ap (λ (m : Machine). m.rule) same) (ap (λ (m : Machine). m.rows) same)
goes_onward {n} {mid} {new} s (publishes move here at same) =
    let change = Publishes move.row move.store move.copied in
    onward_trans mid (made [] change mid) new (onward_made mid [] change s (publish_may mid n move s here at)) (onward_same (made [] change mid) new (ap (λ (m : Machine). m.told) same) (ap (λ (m : Machine). m.rule) same) (ap (λ (m : Machine). m.rows) same))
goes_onward {n} {mid} {new} s (retires move into here at covers stays named same) =
    let change = Unlists move.row move.store move.to in
    onward_trans mid (made into change mid) new (onward_made mid into change s (unlist_may mid n move s here covers)) (onward_same (made into change mid) new (ap (λ (m : Machine). m.told) same) (ap (λ (m : Machine). m.rule) same) (ap (λ (m : Machine). m.rows) same))
goes_onward {mid = mid} {new = new} s (again move len copied here at grown less part same) = onward_same mid new (ap (λ (m : Machine). m.told) same) (ap (λ (m : Machine). m.rule) same) (ap (λ (m : Machine). m.rows) same)
goes_onward {mid = mid} {new = new} s (damaged name at untold same) = onward_same mid new (ap (λ (m : Machine). m.told) same) (ap (λ (m : Machine). m.rule) same) (ap (λ (m : Machine). m.rows) same)

pins_onward : {who : ℕ} {name : List ℕ} {query : Query} {mid new : Machine} {reply : Reply} → MakesPin who name query mid reply new → Onward mid new
pins_onward {mid = mid} {new = new} (pins i row pin pieces a b c d e order f few same) = onward_same mid new (ap (λ (m : Machine). m.told) same) (ap (λ (m : Machine). m.rule) same) (ap (λ (m : Machine). m.rows) same)

opens_onward : {who pin i : ℕ} {old new : Machine} {reply : Reply} → Opens who pin i old reply new → Onward old new
opens_onward {old = old} (refused_open reply p) = onward_refl old
opens_onward {old = old} (no_piece p a b c) = onward_refl old
opens_onward {old = old} {new = new} (opens p piece reader name head_len len a b c d e named enough same f) = onward_counts old new same
opens_onward {old = old} {new = new} (faults_opening p piece a b c same q) = onward_counts old new same
opens_onward {old = old} {new = new} (wants_memory_opening same q) = onward_counts old new same

unpins_onward : {who pin : ℕ} {old new : Machine} {reply : Reply} → Unpins who pin old reply new → Onward old new
unpins_onward {old = old} (refused_unpin reply p) = onward_refl old
unpins_onward {old = old} {new = new} (unpins p) = onward_same old new refl refl refl

state_onward : (wrong : State → Option Reply) (to : State) → (wrong Retired ≡ None → ⊥) → (name : List ℕ) (old new : Machine) (reply : Reply) → IsSound old → Acts (state_refused wrong name) (Sets to name) (λ m. sets_of to (find_row m name)) all_go old reply new → Onward old new
state_onward wrong to never name old new reply s step = Acts-onward (state_refused wrong name) (Sets to name) (λ m. sets_of to (find_row m name)) all_go (λ mid answer new s free ran. made_counts mid new [] (SetsState ran.1.0 to) s (state_live wrong never name mid free ran.1.0 ran.1.1) ran.1.2) s step

pub step_onward : (who : ℕ) (act : Act) (old new : Machine) (reply : Reply) → IsSound old → MayAsk act → Step who act old reply new → Onward old new
step_onward who (Register name about) old new reply s ask step = Acts-onward (register_refused name) (Registers name about) (λ m. Some (AddsRow name about)) all_go (λ mid answer new s free ran. made_counts mid new [] (AddsRow name about) s (register_may name mid free) ran.1) s step
step_onward who (Pause name) old new reply s ask step = state_onward not_running Paused (λ none. cc) name old new reply s step
step_onward who (Resume name) old new reply s ask step = state_onward not_paused Running (λ none. cc) name old new reply s step
step_onward who (Rename name newname) old new reply s ask step =
    Acts-onward (rename_refused (changed_within name old) step.0 name newname) (IsRenamed name newname) (λ m. renames_of newname (find_row m name)) all_go
    (λ mid answer new s free ran. made_counts mid new [] (Renames ran.1.0 newname) s (rename_may (changed_within name old) step.0 name newname mid free ran.1.0 ran.1.1) ran.1.2) s step.1
step_onward who (Offer name ty t line now) old new reply s ask step = ends_onward _ old new reply (act_onward old _ s (offered_act old name ty (record { t = t; line = line }) now s ask)) step
step_onward who (Tick row now) old new reply s ask step = ends_onward _ old new reply (act_onward old _ s (ticked_act old row now s)) step
step_onward who (Flush limit) old new reply s ask step = Acts-onward (λ m. None) (Flushes limit) (λ m. Some (Appends (batch_of limit m))) all_go (λ mid answer new s free ran. made_counts mid new [] (Appends (batch_of limit mid)) s (flush_may limit mid) ran.1) s step
step_onward who (MoveBegin store now) old new reply s ask step = Acts-onward (λ m. None) (Begins (store_of store) now) (λ m. None) all_go (λ mid answer new s free ran. begins_onward ran) s step
step_onward who (MoveStep n) old new reply s ask step = Acts-onward (λ m. no_move (get m.moves n)) (GoesOn n) (λ m. change_of m (get m.moves n)) (ends_move n) (λ mid answer new s free ran. goes_onward s ran) s step
step_onward who Sweep old new reply s ask step = Acts-onward (λ m. None) Sweeps (λ m. None) all_go (λ mid answer new s free ran. onward_same mid new (ap (λ (m : Machine). m.told) ran.same) (ap (λ (m : Machine). m.rule) ran.same) (ap (λ (m : Machine). m.rows) ran.same)) s step
step_onward who (Pin name query) old new reply s ask step = Acts-onward (details_refused name) (MakesPin who name query) (λ m. None) all_go (λ mid answer new s free ran. pins_onward ran) s step
step_onward who (OpenPiece pin i) old new reply s ask step = opens_onward step
step_onward who (Unpin pin) old new reply s ask step = unpins_onward step
step_onward who (Names from most) old new reply s ask step = ends_onward _ old new reply (onward_refl old) step
step_onward who (Details name) old new reply s ask step = Acts-onward (details_refused name) (Describes name) (λ m. None) all_go (λ mid answer new s free ran. onward_counts mid new ran.same) s step
step_onward who Doors old new reply s ask step = subst (λ m. Onward old m) (sym step.1) (onward_refl old)
step_onward who DoorDone old new reply s ask step = subst (λ m. Onward old m) (sym step.1) (onward_same old _ refl refl refl)

-- CRASHES

some_is : (a b : Change) → Some a ≡ Some b → a ≡ b
some_is a b is = cc

pub may_by : (act : Act) (mid : Machine) (one : Change) → IsSound mid → refuse_by act mid ≡ None → change_by act mid ≡ Some one → MayMake mid.rule mid.told mid.rows mid.limbo one
may_by (Register name about) mid one s free is = subst (λ c. MayMake mid.rule mid.told mid.rows mid.limbo c) (some_is (AddsRow name about) one is) (register_may name mid free)
may_by (Pause name) mid one s free is = (sets_may Paused mid (find_row mid name) one (state_live not_running (λ none. cc) name mid free) is).0
may_by (Resume name) mid one s free is = (sets_may Running mid (find_row mid name) one (state_live not_paused (λ none. cc) name mid free) is).0
may_by (Rename name newname) mid one s free is = (renames_may newname mid (find_row mid name) one (rename_may 0 None name newname mid free) is).0
may_by (Flush limit) mid one s free is = subst (λ c. MayMake mid.rule mid.told mid.rows mid.limbo c) (some_is (Appends (batch_of limit mid)) one is) (flush_may limit mid)
may_by (MoveStep n) mid one s free is = (step_may n mid one s is).0
may_by (Offer name ty t line now) mid one s free is = absurd cc
may_by (Tick row now) mid one s free is = absurd cc
may_by (MoveBegin store now) mid one s free is = absurd cc
may_by Sweep mid one s free is = absurd cc
may_by (Pin name query) mid one s free is = absurd cc
may_by (OpenPiece pin i) mid one s free is = absurd cc
may_by (Unpin pin) mid one s free is = absurd cc
may_by (Names from most) mid one s free is = absurd cc
may_by (Details name) mid one s free is = absurd cc
may_by Doors mid one s free is = absurd cc
may_by DoorDone mid one s free is = absurd cc

-- rows go on to what a crash leaves, as to any later state
pub left_on_between : (old left : Machine) → IsSound old → LeftBetween old left → Onward old left
left_on_between old left s as_it_is = onward_refl old
left_on_between old left s (with_doubt change is) = onward_made old [] change s (s.doubted change is).0

pub left_on : (act : Act) (old left : Machine) → IsSound old → LeftWithin (refuse_by act) (change_by act) old left → Onward old left
left_on act old left s (before_it is) = left_on_between old left s is
left_on act old left s (settled_there settles) = onward_settled s settles
left_on act old left s (with_change {mid} one settles free is) =
    let sound : IsSound mid = settled_sound settles s in
    onward_trans old mid (made [] one mid) (onward_settled s settles) (onward_made mid [] one sound (may_by act mid one sound free is))

-- what a crash within an act leaves extends what was durable before it, and is extended by what was accepted
pub crash_within : (act : Act) (old left : Machine) → old.told ≡ true → IsSound old → LeftWithin (refuse_by act) (change_by act) old left → (i : ℕ) (row : RowState) → slice_get left.rows i ≡ Some row → Between old.rows i row
crash_within act old left t s is = left_within (refuse_by act) (change_by act) old left t s (may_by act) is
