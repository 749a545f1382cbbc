-- What the session of a link asks: it registers, pauses, resumes and renames, offers and flushes, reads and tells. Ticks, moves, sweeps and the
-- count of the doors are for others.
use Rattle.std.specs.Prelude.{◌≡◌, List, Bool, true, false, All}
use Rattle.act_model.specs.declared.acts.Act.{Act}
use Rattle.act_model.specs.declared.acts.Act.TheVariants.{Register, Pause, Resume, Rename, Offer, Tick, Flush, MoveBegin, MoveStep, Sweep, Pin, OpenPiece, Unpin, Names, Details, Doors, DoorDone}
use Rattle.act_model.specs.History.{Done}

-- the acts that a link's session may make
abbrev pub is_of_link : Act → Bool
is_of_link (Register name about) = true
is_of_link (Pause name) = true
is_of_link (Resume name) = true
is_of_link (Rename name newname) = true
is_of_link (Offer name ty t line now) = true
is_of_link (Tick row now) = false
is_of_link (Flush limit) = true
is_of_link (MoveBegin store now) = false
is_of_link (MoveStep m) = false
is_of_link Sweep = false
is_of_link (Pin name query) = true
is_of_link (OpenPiece pin i) = true
is_of_link (Unpin pin) = true
is_of_link (Names from most) = true
is_of_link (Details name) = true
is_of_link Doors = false
is_of_link DoorDone = false

-- all that was done is such
abbrev pub AllAre : (Act → Bool) → List Done → Type 0
AllAre such acts = All (λ (d : Done). such d.act ≡ true) acts
