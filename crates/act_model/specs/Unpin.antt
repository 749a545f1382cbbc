-- Unpin: a pin's owner gives it up. Nobody else can.
use Rattle.std.specs.FinMap.{get, remove}
use Rattle.std.specs.Prelude.{◌≡◌, ℕ, ◌==◌, if◌then◌else◌, Option, Some, None}
use Rattle.act_model.specs.Machine.{Machine, PinState}
use Rattle.act_model.specs.Reply.{Reply}
use Rattle.act_model.specs.declared.acts.Answer.TheVariants.{NoPin, NotYours, Unpinned}

-- the refusals of an act on a pin
abbrev pub pin_refused : ℕ → Option PinState → Option Reply
pin_refused who None = Some NoPin
pin_refused who (Some pin) = if pin.owner == who then None else Some (NotYours pin.owner)

-- how a pin is given up
pub data Unpins (who pin : ℕ) : Machine → Reply → Machine → Type 0 where
  refused_unpin : {old : Machine} (reply : Reply) → pin_refused who (get old.pins pin) ≡ Some reply → Unpins who pin old reply old
  unpins : {old : Machine} → pin_refused who (get old.pins pin) ≡ None
      → Unpins who pin old Unpinned (record old { pins = remove old.pins pin })
