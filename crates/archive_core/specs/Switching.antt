-- Pausing and resuming: the states before and after, and why a row's state isn't set.
use Rattle.std.specs.Prelude.{◌≡◌, ℕ, List, Option, Some, None, Result, Ok, Err, IfSome}
use Rattle.pb_messages.specs.declared.about.State.{State}
use Rattle.pb_messages.specs.declared.about.State.TheVariants.{Running, Paused}
use Rattle.pv_catalog.specs.Catalogue.{HasState}
use Rattle.pv_catalog.specs.Rows.{HasName}
use Rattle.pv_catalog.specs.declared.error.StateErr.{StateErr}
use Rattle.pv_catalog.specs.declared.row.Row.{Row}
use Rattle.tier_store.specs.Change.{StoreCall, pausing, resuming}
use Rattle.act_model.specs.declared.acts.Act.{Act}
use Rattle.act_model.specs.declared.acts.Act.TheVariants.{Pause as PauseAct, Resume as ResumeAct}
use Rattle.act_model.specs.declared.acts.Answer.TheVariants as answer
use Rattle.act_model.specs.Pause.{not_running}
use Rattle.act_model.specs.Reply.{Reply}
use Rattle.act_model.specs.Resume.{not_paused}
use Rattle.archive_core.specs.Ends.{disk_reply}
use Rattle.archive_core.specs.declared.switching.Switch.{Switch}
use Rattle.archive_core.specs.declared.switching.Switch.TheVariants.{Pause, Resume}
use Rattle.archive_core.specs.declared.switching.Unset.{Unset}
use Rattle.archive_core.specs.declared.switching.Unset.TheVariants as unset

abbrev pub from_of : Switch → State
from_of Pause = Running
from_of Resume = Paused

abbrev pub to_of : Switch → State
to_of Pause = Paused
to_of Resume = Running

-- why a row of this state isn't switched
abbrev pub wrong_of : Switch → State → Option Reply
wrong_of Pause = not_running
wrong_of Resume = not_paused

-- the act that sets a state so
abbrev pub act_of : Switch → List ℕ → Act
act_of Pause name = PauseAct name
act_of Resume name = ResumeAct name

abbrev pub switching : Switch → ℕ → StoreCall (Unit {0}) StateErr
switching Pause row = pausing row
switching Resume row = resuming row

abbrev pub wrong_reply : Switch → Reply
wrong_reply Pause = answer.NotRunning
wrong_reply Resume = answer.NotPaused

abbrev pub switch_reply : Switch → Result (Unit {0}) Unset → Reply
switch_reply switch (Ok a) = answer.Done
switch_reply switch (Err unset.NoSuchVariable) = answer.NoSuchVariable
switch_reply switch (Err unset.WrongState) = wrong_reply switch
switch_reply switch (Err (unset.Disk e)) = disk_reply e

-- this is the row of the name, if one has it, and no other row has the name
pub record IsFound (rows : List Row) (name : List ℕ) (found : Option ℕ) : Type 0 where
  pub there : IfSome found (λ i. HasName rows i name)
  pub only : (i : ℕ) → HasName rows i name → found ≡ Some i

-- no row has the name, or its state is another than the one before the switch
abbrev pub IsUnset : List Row → List ℕ → Switch → Unset → Type 0
IsUnset rows name switch unset.NoSuchVariable = IsFound rows name None
IsUnset rows name switch unset.WrongState = (row : ℕ) × IsFound rows name (Some row) × (HasState rows row (from_of switch) → ⊥)
IsUnset rows name switch (unset.Disk e) = ⊥
