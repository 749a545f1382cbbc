-- Doors and DoorDone: how many doors are still open to links is told, and a door that has ended is counted off.
use Rattle.std.specs.Prelude.{◌≡◌, ◌-◌}
use Rattle.act_model.specs.Machine.{Machine}
use Rattle.act_model.specs.Reply.{Reply}
use Rattle.act_model.specs.declared.acts.Answer.TheVariants.{DoorsLeft}

abbrev pub DoorsStep : Machine → Reply → Machine → Type 0
DoorsStep old answer new = (answer ≡ DoorsLeft old.doors) × (new ≡ old)

abbrev pub DoorDoneStep : Machine → Reply → Machine → Type 0
DoorDoneStep old answer new = (answer ≡ DoorsLeft (old.doors - 1)) × (new ≡ record old { doors = old.doors - 1 })
