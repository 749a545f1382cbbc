-- What each part that carries no samples leaves of what is durable, and what in doubt.
use Rattle.std.proofs.Common.{◌≡◌, ℕ, List, [], Option, Some, None, Bool, true, false, cond, refl, ap, ◌∙◌, subst, inl, inr}
use Rattle.std.specs.Prelude.{◌⊎◌}
use Rattle.std.specs.FinMap.{get}
use Rattle.pb_messages.specs.declared.about.State.{State}
use Rattle.pb_messages.specs.declared.about.State.TheVariants.{Running, Paused}
use Rattle.series_model.specs.declared.sample.Query.{Query}
use Rattle.act_model.specs.declared.acts.Act.{Act}
use Rattle.act_model.specs.declared.acts.Act.TheVariants.{Register, Pause, Resume, Rename, Offer, Tick, Flush, MoveBegin, MoveStep, Sweep, Pin, OpenPiece, Unpin, Names, Details, Doors, DoorDone}
use Rattle.act_model.specs.Changes.{changed_rows}
use Rattle.act_model.specs.Details.{details_refused, Describes}
use Rattle.act_model.specs.Machine.{Machine, MoveState, Stage, Copies, HasCopied, HasPublished, Change, AddsRow, SetsState, Publishes, Unlists, find_row}
use Rattle.act_model.specs.MoveBegin.{Begins, begins, all_run, none_to_make}
use Rattle.act_model.specs.MoveStep.{GoesOn, copies, has_copied, publishes, retires, again, damaged, change_of, change_at, is_covered, no_move, ends_move}
use Rattle.act_model.specs.OpenPiece.{Opens, refused_open, no_piece, opens, faults_opening, wants_memory_opening}
use Rattle.act_model.specs.Outcome.{Acts, all_go}
use Rattle.act_model.specs.Pause.{state_refused, Sets, sets_of, not_running}
use Rattle.act_model.specs.Pin.{MakesPin, pins}
use Rattle.act_model.specs.Register.{register_refused, Registers}
use Rattle.act_model.specs.Reply.{Reply}
use Rattle.act_model.specs.Resume.{not_paused}
use Rattle.act_model.specs.Rows.{Store}
use Rattle.act_model.specs.Sound.{IsSound}
use Rattle.act_model.specs.Step.{Step, store_of}
use Rattle.act_model.specs.Sweep.{Sweeps}
use Rattle.act_model.specs.Unpin.{Unpins, refused_unpin, unpins}
use Rattle.two_histories.specs.ArchiveIntake.{RowLook}
use Rattle.two_histories.specs.ArchiveStore.{appended}
use Rattle.two_histories.specs.StoreStep.{IsOfStore, OverTail}
use Rattle.two_histories.proofs.Closing.{IsClosed, bases_same, RenamesNone, made_bases}
use Rattle.two_histories.proofs.Keeping.{KeepsDurable, keep_same, keep_trans, adds_keeps, sets_keeps, goes_keeps}
use Rattle.two_histories.proofs.Retailed.{IsBase}
use Rattle.two_histories.proofs.Settling.{HasDoubtedTails, Went, went_nowhere, ClosesNone, closed_same, Closes, was_closed, is_closed, acts_went}

-- WHAT RESTS

abbrev pub Rests : Machine → Machine → Type 0
Rests old new = Went old new × ClosesNone old new

nowhere : (old new : Machine) → new.rows ≡ old.rows → new.doubt ≡ old.doubt → Rests old new
nowhere old new rows doubt = (went_nowhere old new rows doubt, closed_same old new rows doubt)

none_closes : {refuse : Machine → Option Reply} {old new : Machine} → Went old new × ((i : ℕ) → IsClosed new.rows new.doubt i → Closes refuse (λ m i. ⊥) old new i) → Rests old new
none_closes {refuse} {old} {new} p = (p.0, λ i c. by_kind i (p.1 i c))
  where
    by_kind : (i : ℕ) → Closes refuse (λ m i. ⊥) old new i → IsClosed old.rows old.doubt i
    by_kind i (was_closed c) = c
    by_kind i (is_closed mid settles free never same) = absurd never

-- RUNS

abbrev Kept : Machine → Machine → Type 0
Kept mid new = KeepsDurable mid.rows new.rows × ((i : ℕ) → IsBase new.rows i → IsBase mid.rows i ⊎ ⊥) × (new.doubt ≡ mid.doubt)

same_kept : (mid new : Machine) → new.rows ≡ mid.rows → new.doubt ≡ mid.doubt → Kept mid new
same_kept mid new rows doubt = (keep_same mid.rows new.rows rows, λ i b. inl (bases_same mid.rows new.rows rows i b), doubt)

-- a change that gives no new name, and keeps what is durable
made_kept : (mid new : Machine) (change : Change) → RenamesNone change → KeepsDurable mid.rows (changed_rows mid.told mid.limbo change mid.rows) → new.rows ≡ changed_rows mid.told mid.limbo change mid.rows → new.doubt ≡ mid.doubt → Kept mid new
made_kept mid new change none keeps rows doubt =
    let all = changed_rows mid.told mid.limbo change mid.rows in
    (keep_trans mid.rows all new.rows keeps (keep_same all new.rows rows), λ i b. inl (made_bases mid.told mid.limbo change mid.rows none i (bases_same all new.rows rows i b)), doubt)

goes_doubt : {n : ℕ} {mid new : Machine} {answer : Reply} → GoesOn n mid answer new → new.doubt ≡ mid.doubt
goes_doubt (copies move first more next rest here at left same) = ap (λ (m : Machine). m.doubt) same
goes_doubt (has_copied move xs here at left same) = ap (λ (m : Machine). m.doubt) same
goes_doubt (publishes move here at same) = ap (λ (m : Machine). m.doubt) same
goes_doubt (retires move into here at covers stays named same) = ap (λ (m : Machine). m.doubt) same
goes_doubt (again move len copied here at grown less part same) = ap (λ (m : Machine). m.doubt) same
goes_doubt (damaged name at untold same) = ap (λ (m : Machine). m.doubt) same

begins_kept : {store : Store} {now : ℕ} {mid new : Machine} {answer : Reply} → Begins store now mid answer new → Kept mid new
begins_kept {mid = mid} {new = new} (begins n i parts to a b c d e f g same) = same_kept mid new (ap (λ (m : Machine). m.rows) same) (ap (λ (m : Machine). m.doubt) same)
begins_kept {mid = mid} {new = new} (all_run n i a b c d same) = same_kept mid new (ap (λ (m : Machine). m.rows) same) (ap (λ (m : Machine). m.doubt) same)
begins_kept {mid = mid} {new = new} (none_to_make a same) = same_kept mid new (ap (λ (m : Machine). m.rows) same) (ap (λ (m : Machine). m.doubt) same)

goes_kept : {n : ℕ} {mid new : Machine} {answer : Reply} → IsSound mid → mid.told ≡ true → GoesOn n mid answer new → Kept mid new
goes_kept {n} {mid} {new} s t ran = (goes_keeps t s ran, bases ran, goes_doubt ran)
  where
    made : (change : Change) → RenamesNone change → new.rows ≡ changed_rows mid.told mid.limbo change mid.rows → (i : ℕ) → IsBase new.rows i → IsBase mid.rows i ⊎ ⊥
    made change none rows i b = inl (made_bases mid.told mid.limbo change mid.rows none i (bases_same (changed_rows mid.told mid.limbo change mid.rows) new.rows rows i b))

    same_bases : new.rows ≡ mid.rows → (i : ℕ) → IsBase new.rows i → IsBase mid.rows i ⊎ ⊥
    same_bases rows i b = inl (bases_same mid.rows new.rows rows i b)

    bases : {answer : Reply} → GoesOn n mid answer new → (i : ℕ) → IsBase new.rows i → IsBase mid.rows i ⊎ ⊥
    bases (copies move first more next rest here at left same) = same_bases (ap (λ (m : Machine). m.rows) same)
    bases (has_copied move xs here at left same) = same_bases (ap (λ (m : Machine). m.rows) same)
    bases (publishes move here at same) = made (Publishes move.row move.store move.copied) (λ k name is. cc) (ap (λ (m : Machine). m.rows) same)
    bases (retires move into here at covers stays named same) = made (Unlists move.row move.store move.to) (λ k name is. cc) (ap (λ (m : Machine). m.rows) same)
    bases (again move len copied here at grown less part same) = same_bases (ap (λ (m : Machine). m.rows) same)
    bases (damaged name at untold same) = same_bases (ap (λ (m : Machine). m.rows) same)

-- CHANGES OF THESE ACTS APPEND NOTHING, AND GIVE NO NEW NAME

abbrev Harmless : Change → Type 0
Harmless one = ((i : ℕ) → appended one i ≡ []) × RenamesNone one

sets_none : (to : State) (o : Option ℕ) (one : Change) → sets_of to o ≡ Some one → Harmless one
sets_none to (Some k) one is = let same : SetsState k to ≡ one = cc in subst Harmless same (λ i. refl, λ k name is. cc)
sets_none to None one is = absurd cc

moves_none : (m : Machine) (o : Option MoveState) (one : Change) → change_of m o ≡ Some one → Harmless one
moves_none m None one is = absurd cc
moves_none m (Some move) one is = by_stage move.stage is
  where
    by_cover : (b : Bool) → cond b (Some (Unlists move.row move.store move.to)) None ≡ Some one → Harmless one
    by_cover true is = let same : Unlists move.row move.store move.to ≡ one = cc in subst Harmless same (λ i. refl, λ k name is. cc)
    by_cover false is = absurd cc

    by_stage : (stage : Stage) → change_at m stage move ≡ Some one → Harmless one
    by_stage Copies is = absurd cc
    by_stage HasCopied is = let same : Publishes move.row move.store move.copied ≡ one = cc in subst Harmless same (λ i. refl, λ k name is. cc)
    by_stage HasPublished is = by_cover (is_covered m move) is

none_none : (m : Machine) (one : Change) → None ≡ Some one → Harmless one
none_none m one is = absurd cc

-- ACTS

sets_went : (wrong : State → Option Reply) (to : State) (name : List ℕ) {old new : Machine} {reply : Reply} → IsSound old → old.told ≡ true → HasDoubtedTails old → Acts (state_refused wrong name) (Sets to name) (λ m. sets_of to (find_row m name)) all_go old reply new → Rests old new
sets_went wrong to name s t tails step = none_closes (acts_went (state_refused wrong name) (Sets to name) (λ m. sets_of to (find_row m name)) all_go (λ m i. ⊥)
    (λ mid answer new s t p. made_kept mid new (SetsState p.1.0 to) (λ k name is. cc) (sets_keeps mid.told mid.limbo p.1.0 to mid.rows) (ap (λ (m : Machine). m.rows) p.1.2) (ap (λ (m : Machine). m.doubt) p.1.2))
    (λ m one is. sets_none to (find_row m name) one is) s t tails step)

opens_went : {who pin i : ℕ} {old new : Machine} {reply : Reply} → Opens who pin i old reply new → Rests old new
opens_went {old = old} (refused_open reply p) = nowhere old old refl refl
opens_went {old = old} (no_piece p a b c) = nowhere old old refl refl
opens_went {old = old} {new = new} (opens p piece reader name head_len len a b c d e named enough same f) = nowhere old new (ap (λ (m : Machine). m.rows) same) (ap (λ (m : Machine). m.doubt) same)
opens_went {old = old} {new = new} (faults_opening p piece a b c same q) = nowhere old new (ap (λ (m : Machine). m.rows) same) (ap (λ (m : Machine). m.doubt) same)
opens_went {old = old} {new = new} (wants_memory_opening same q) = nowhere old new (ap (λ (m : Machine). m.rows) same) (ap (λ (m : Machine). m.doubt) same)

unpins_went : {who pin : ℕ} {old new : Machine} {reply : Reply} → Unpins who pin old reply new → Rests old new
unpins_went {old = old} (refused_unpin reply p) = nowhere old old refl refl
unpins_went {old = old} {new = new} (unpins p) = nowhere old new refl refl

names_went : (who from most : ℕ) (old new : Machine) (reply : Reply) → Step who (Names from most) old reply new → Rests old new
names_went who from most old new reply (inl p) = nowhere old new (ap (λ (m : Machine). m.rows) p.1) (ap (λ (m : Machine). m.doubt) p.1)
names_went who from most old new reply (inr p) = nowhere old new (ap (λ (m : Machine). m.rows) p.1) (ap (λ (m : Machine). m.doubt) p.1)

pub begins_went : (who store now : ℕ) (old new : Machine) (reply : Reply) → IsSound old → old.told ≡ true → HasDoubtedTails old → Step who (MoveBegin store now) old reply new → Rests old new
begins_went who store now old new reply s t tails step = none_closes (acts_went (λ m. None) (Begins (store_of store) now) (λ m. None) all_go (λ m i. ⊥) (λ mid answer new s t p. begins_kept p) none_none s t tails step)

pub does_went : (who : ℕ) (act : Act) (old new : Machine) (reply : Reply) → IsOfStore act → IsSound old → old.told ≡ true → HasDoubtedTails old → Step who act old reply new → Rests old new
does_went who (Register name about) old new reply is s t tails step =
    none_closes (acts_went (register_refused name) (Registers name about) (λ m. Some (AddsRow name about)) all_go (λ m i. ⊥)
    (λ mid answer new s t p. made_kept mid new (AddsRow name about) (λ k name is. cc) (adds_keeps mid.told mid.limbo name about mid.rows) (ap (λ (m : Machine). m.rows) p.1) (ap (λ (m : Machine). m.doubt) p.1))
    (λ m one is. let same : AddsRow name about ≡ one = cc in subst Harmless same (λ i. refl, λ k name is. cc)) s t tails step)
does_went who (Pause name) old new reply is s t tails step = sets_went not_running Paused name s t tails step
does_went who (Resume name) old new reply is s t tails step = sets_went not_paused Running name s t tails step
does_went who (Rename name newname) old new reply is s t tails step = absurd is
does_went who (Offer name ty time line now) old new reply is s t tails step = absurd is
does_went who (Tick row now) old new reply is s t tails step = absurd is
does_went who (Flush limit) old new reply is s t tails step = absurd is
does_went who (MoveBegin store now) old new reply is s t tails step = absurd is
does_went who (MoveStep n) old new reply is s t tails step =
    none_closes (acts_went (λ m. no_move (get m.moves n)) (GoesOn n) (λ m. change_of m (get m.moves n)) (ends_move n) (λ m i. ⊥) (λ mid answer new s t p. goes_kept s t p) (λ m one is. moves_none m (get m.moves n) one is) s t tails step)
does_went who Sweep old new reply is s t tails step =
    none_closes (acts_went (λ m. None) Sweeps (λ m. None) all_go (λ m i. ⊥) (λ mid answer new s t p. same_kept mid new (ap (λ (m : Machine). m.rows) p.same) (ap (λ (m : Machine). m.doubt) p.same)) none_none s t tails step)
does_went who (Pin name query) old new reply is s t tails step = absurd is
does_went who (OpenPiece pin i) old new reply is s t tails step = opens_went step
does_went who (Unpin pin) old new reply is s t tails step = unpins_went step
does_went who (Names from most) old new reply is s t tails step = names_went who from most old new reply step
does_went who (Details name) old new reply is s t tails step = absurd is
does_went who Doors old new reply is s t tails step = absurd is
does_went who DoorDone old new reply is s t tails step = absurd is

-- PARTS OVER A TAIL

pinned_doubt : {who : ℕ} {name : List ℕ} {query : Query} {mid end : Machine} {reply : Reply} → MakesPin who name query mid reply end → end.doubt ≡ mid.doubt
pinned_doubt (pins i row pin pieces a b c d e order f few same) = ap (λ (m : Machine). m.doubt) same

pub pins_went : (who : ℕ) (query : Query) (look : RowLook) (old new : Machine) (reply : Reply) → IsSound old → old.told ≡ true → HasDoubtedTails old → Acts (details_refused look.name) (OverTail look (MakesPin who look.name query)) (λ m. None) all_go old reply new → Rests old new
pins_went who query look old new reply s t tails step =
    none_closes (acts_went (details_refused look.name) (OverTail look (MakesPin who look.name query)) (λ m. None) all_go (λ m i. ⊥)
    (λ mid answer new s t p. same_kept mid new (ap (λ (m : Machine). m.rows) p.2) (ap (λ (m : Machine). m.doubt) p.2 ∙ pinned_doubt p.1)) none_none s t tails step)

pub describes_went : (look : RowLook) (old new : Machine) (reply : Reply) → IsSound old → old.told ≡ true → HasDoubtedTails old → Acts (details_refused look.name) (OverTail look (Describes look.name)) (λ m. None) all_go old reply new → Rests old new
describes_went look old new reply s t tails step =
    none_closes (acts_went (details_refused look.name) (OverTail look (Describes look.name)) (λ m. None) all_go (λ m i. ⊥)
    (λ mid answer new s t p. same_kept mid new (ap (λ (m : Machine). m.rows) p.2) (ap (λ (m : Machine). m.doubt) p.2 ∙ ap (λ (m : Machine). m.doubt) p.1.same)) none_none s t tails step)
