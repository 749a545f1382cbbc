-- An archive lives more than once: it runs, the machine stops, and what was left is opened again. A life ends between two acts or at
-- any moment within one. What was durable in one life is there in all later ones.
use Rattle.std.specs.Prelude.{ℕ, List}
use Rattle.act_model.specs.declared.acts.Act.{Act}
use Rattle.act_model.specs.Machine.{Machine}
use Rattle.act_model.specs.Step.{change_by, refuse_by}
use Rattle.act_model.specs.Crash.{kept, LeftBetween, LeftWithin}
use Rattle.act_model.specs.NextLife.{opened}
use Rattle.act_model.specs.History.{Entry, Runs}

-- a machine that stops at this state, or within an act that is asked of it, may leave that
pub data Stops (m : Machine) (left : Machine) : Type 0 where
  between_acts : LeftBetween m left → Stops m left
  within_an_act : (act : Act) → LeftWithin (refuse_by act) (change_by act) m left → Stops m left

-- lives, one after another: the first began in this state, and the last has come to that one
pub data Lives (start : Machine) : Machine → Type 0 where
  one_life : {now : Machine} (entries : List Entry) → Runs start entries now → Lives start now
  one_more : {last left now : Machine} → Lives start last → Stops last left → (doors faults : ℕ) (entries : List Entry)
      → Runs (opened last.rule last.told doors faults (kept left)) entries now → Lives start now
