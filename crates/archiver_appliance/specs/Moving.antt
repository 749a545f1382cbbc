-- What `etl` makes of what a disk holds, and what it writes.
use Rattle.std.specs.Prelude.{◌≡◌, ◌⊎◌, ℕ, List, [], ◌∷◌, ◌++◌, Bool, Option, Result, Ok, Err, codes, decimal}
use Rattle.std.specs.Io.KnownBytes.{Appends}
use Rattle.edge_io.specs.Moments.{Moments, Gives}
use Rattle.edge_io.specs.Stream.{AppendsFront}
use Rattle.disk_model.specs.Files.{Files}
use Rattle.disk_model.specs.Past.{Past}
use Rattle.etl_rules.specs.Config.{ConfigState}
use Rattle.tier_store.specs.Stores.{Stores}
use Rattle.act_model.specs.History.{Done}
use Rattle.serving.specs.Due.{MovesDue}
use Rattle.serving.specs.declared.due.DueMoved.{DueMoved}
use Rattle.serving.specs.declared.moves.MoveErr.{MoveErr}
use Rattle.serving.specs.declared.moves.MoveErr.TheVariants as err
use Rattle.command_words.specs.declared.status.Status.{Status}
use Rattle.command_words.specs.declared.status.Status.TheVariants.{Done as IsDone, SinkFault, DiskFault, Damaged, OutOfMemory}
use Rattle.archiver_appliance.specs.Acting.{ActsFrom}

-- how many partitions were retired from stores 1 and 2
abbrev pub moved_text : DueMoved → List ℕ
moved_text moved = codes "moved " ++ decimal moved.short ++ codes " " ++ decimal moved.medium ++ codes "\n"

-- The status of what the moves came to. At their end the line is written, or a front of it where that failed; nothing is written where they
-- were stopped. One who acts alone never lacks acts.
abbrev pub TellsMoved : Result DueMoved MoveErr → Option (List ℕ) → Option (List ℕ) → Status → Type 0
TellsMoved (Ok moved) a b status = ((status ≡ IsDone) × Appends a b (moved_text moved)) ⊎ ((status ≡ SinkFault) × AppendsFront a b (moved_text moved))
TellsMoved (Err err.DiskFault) a b status = (status ≡ DiskFault) × (b ≡ a)
TellsMoved (Err (err.Damaged name at)) a b status = (status ≡ Damaged name at) × (b ≡ a)
TellsMoved (Err err.Spent) a b status = ⊥
TellsMoved (Err err.Memory) a b status = (status ≡ OutOfMemory) × (b ≡ a)

-- All that was due at the one moment that was read moved, or as much as was before an act failed: just the acts of these moves were made.
pub record MovesFrom (Before : Files → Type 0) (tells : Bool) (config : ConfigState) (held : Stores) (clock clock' : Option Moments) (a b : Option (List ℕ)) (old new : Past) (status : Status) : Type 0 where
  pub came : Result DueMoved MoveErr
  pub now : ℕ
  pub at : Gives clock clock' (now ∷ [])
  pub done : List Done
  pub moves : MovesDue now came done
  pub acts : ActsFrom Before tells config held done old new
  pub tells_moved : TellsMoved came a b status
