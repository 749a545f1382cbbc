-- Pause: a running variable's samples are dropped from now on, until it is resumed. Pausing and resuming both set a row's state, and
-- clear what a sampled row holds.
use Rattle.std.specs.Prelude.{◌≡◌, ℕ, List, if◌then◌else◌, Option, Some, None, slice_get}
use Rattle.pb_messages.specs.declared.about.State.{State}
use Rattle.pb_messages.specs.declared.about.State.TheVariants.{Paused}
use Rattle.act_model.specs.Machine.{Machine, Change, SetsState, find_row}
use Rattle.act_model.specs.Outcome.{Acts, all_go, Makes}
use Rattle.act_model.specs.Reply.{Reply}
use Rattle.act_model.specs.Rows.{RowState, is_running}
use Rattle.act_model.specs.declared.acts.Answer.TheVariants.{NoSuchVariable, NotRunning, Done}

-- why the state isn't set: no row has the name, or its state is the wrong one
abbrev pub state_refused : (State → Option Reply) → List ℕ → Machine → Option Reply
state_refused wrong name m = by_name (find_row m name)
  where
    by_row : Option RowState → Option Reply
    by_row (Some row) = wrong row.state
    by_row None = Some NoSuchVariable

    by_name : Option ℕ → Option Reply
    by_name (Some i) = by_row (slice_get m.rows i)
    by_name None = Some NoSuchVariable

-- the change, where there is a row
abbrev pub sets_of : State → Option ℕ → Option Change
sets_of to (Some i) = Some (SetsState i to)
sets_of to None = None

-- the state is set
abbrev pub Sets : State → List ℕ → Machine → Reply → Machine → Type 0
Sets to name mid answer new = (answer ≡ Done) × ((i : ℕ) × (find_row mid name ≡ Some i) × Makes (SetsState i to) mid new)

abbrev pub StateStep : (State → Option Reply) → State → List ℕ → Machine → Reply → Machine → Type 0
StateStep wrong to name old answer new = Acts (state_refused wrong name) (Sets to name) (λ m. sets_of to (find_row m name)) all_go old answer new

-- only a running row is paused
abbrev pub not_running : State → Option Reply
not_running s = if is_running s then None else Some NotRunning

abbrev pub PauseStep : List ℕ → Machine → Reply → Machine → Type 0
PauseStep name old answer new = StateStep not_running Paused name old answer new
