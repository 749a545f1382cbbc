-- What a run is handed of the outside, and what of it each command leaves alone.
use Rattle.std.specs.Prelude.{◌≡◌, ℕ, List, [], Bool, Option}
use Rattle.edge_io.specs.Moments.{Gives, Moments}
use Rattle.disk_model.specs.Files.{Files}
use Rattle.etl_rules.specs.Config.{ConfigState}
use Rattle.service.specs.declared.posts.Post.{Post}
use Rattle.command_words.specs.declared.command.Command.{Command}
use Rattle.command_words.specs.declared.command.Command.TheVariants.{Drill, Extract, OverStore}
use Rattle.command_words.specs.declared.command.StoreCommand.{StoreCommand}
use Rattle.command_words.specs.declared.command.StoreCommand.TheVariants as command
use Rattle.command_words.specs.Command.{IsCommand}
use Rattle.archiver_appliance.specs.Run.{IsRefused}

-- a source, a sink, a disk, a clock and posts
pub record World (S K D C W : Type 0) : Type 0 where
  pub source : S
  pub sink : K
  pub disk : D
  pub clock : C
  pub posts : List (Post W)

abbrev pub world : {S K D C W : Type 0} → S → K → D → C → List (Post W) → World S K D C W
world {S} {K} {D} {C} {W} source sink disk clock posts = record { source = source; sink = sink; disk = disk; clock = clock; posts = posts }

module _ {S K D C W : Type 0} (coming : C → Option Moments) (old new : World S K D C W) where
  -- A command leaves alone what it has no use for. A service takes no moment of its clock but by those who work in it.
  abbrev pub LeavesAlone : Command → Type 0
  LeavesAlone (Extract query) = (new.disk ≡ old.disk) × (new.clock ≡ old.clock) × (new.posts ≡ old.posts)
  LeavesAlone (Drill drill) = (new.source ≡ old.source) × (new.disk ≡ old.disk) × (new.clock ≡ old.clock) × (new.posts ≡ old.posts)
  LeavesAlone (OverStore command.Ingest) = (new.sink ≡ old.sink) × (new.posts ≡ old.posts)
  LeavesAlone (OverStore command.Etl) = (new.source ≡ old.source) × (new.posts ≡ old.posts)
  LeavesAlone (OverStore (command.Serve numbers)) = (new.source ≡ old.source) × (new.sink ≡ old.sink) × Gives (coming old.clock) (coming new.clock) []
  LeavesAlone (OverStore _) = (new.source ≡ old.source) × (new.clock ≡ old.clock) × (new.posts ≡ old.posts)

  -- the streams and the clock are as they were
  abbrev pub LeavesStreams : Type 0
  LeavesStreams = (new.source ≡ old.source) × (new.sink ≡ old.sink) × (new.clock ≡ old.clock)

  -- What was touched: nothing by words of no command, by a command what it has a use for, and by one over the archive that is refused at
  -- most the disk and the posts.
  pub record TouchesOnly (words : List (List ℕ)) (config : ConfigState) (tells : Bool) (files : Files) (number : ℕ) : Type 0 where
    pub usage : number ≡ 2 → new ≡ old
    pub alone : (asked : Command) → IsCommand words asked → LeavesAlone asked
    pub refused : (asked : StoreCommand) → IsCommand words (OverStore asked) → IsRefused config tells files number → LeavesStreams
