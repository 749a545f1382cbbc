-- What `ingest` makes of what a disk holds.
use Rattle.std.specs.Prelude.{◌≡◌, ℕ, ◌+◌, ◌≤◌, List, Bool, true, Option, Some, All, length, slice_get}
use Rattle.series_model.specs.Limits.{intake_room}
use Rattle.disk_model.specs.Files.{Files}
use Rattle.disk_model.specs.Past.{Past}
use Rattle.edge_io.specs.Moments.{Moments}
use Rattle.etl_rules.specs.Config.{ConfigState}
use Rattle.tier_store.specs.Stores.{Stores}
use Rattle.act_model.specs.History.{Done}
use Rattle.act_model.specs.Machine.{Machine}
use Rattle.act_model.specs.Rows.{RowState, accepted, durable}
use Rattle.pb_lines.specs.Stream.{Item, sample}
use Rattle.feed_session.specs.Session.{Session, TakenItem}
use Rattle.feed_session.specs.declared.end.Fed.{Fed}
use Rattle.feed_session.specs.declared.end.Fed.TheVariants as fed
use Rattle.command_words.specs.declared.status.Status.{Status}
use Rattle.command_words.specs.declared.status.Status.TheVariants.{Done as IsDone, Refused, SourceFault, DiskFault, OutOfMemory}
use Rattle.archiver_appliance.specs.Acting.{ActsFrom}

-- The status of what an ingest came to. One who acts alone never lacks acts.
abbrev pub IsIngested : Fed → Status → Type 0
IsIngested (fed.Fed kept held dropped) status = status ≡ IsDone
IsIngested (fed.Refused line fault) status = status ≡ Refused line fault
IsIngested fed.PeerFault status = status ≡ SourceFault
IsIngested fed.DiskFault status = status ≡ DiskFault
IsIngested fed.Spent status = ⊥
IsIngested fed.Memory status = status ≡ OutOfMemory

-- all that is accepted is durable
abbrev pub AllIsDurable : Machine → Type 0
AllIsDurable m = (i : ℕ) (row : RowState) → slice_get m.rows i ≡ Some row → durable row ≡ accepted row

-- so it is where the source was read to its end, or to its first bad line
abbrev pub LeavesNone : Fed → Machine → Type 0
LeavesNone (fed.Fed kept held dropped) m = AllIsDurable m
LeavesNone (fed.Refused line fault) m = AllIsDurable m
LeavesNone other m = Unit {0}

-- a sample whose line an empty intake has room for
abbrev pub HasRoom : Item → Type 0
HasRoom (sample x) = length x.line + 1 ≤ intake_room
HasRoom other = ⊥

-- Such a sample is offered at most twice, the second time behind a flush: the flush has made room for it.
abbrev pub IsOfferedTwice : TakenItem → Type 0
IsOfferedTwice t = HasRoom t.item → length t.done ≤ 3

-- What an ingest made of what is held: which items of the stream it took, at which moments it offered their samples, and what its acts were
-- answered. Just the acts that these items ask for were made.
pub record IngestsInto (Before : Files → Type 0) (tells : Bool) (config : ConfigState) (held : Stores) (source : Option (List ℕ)) (clock clock' : Option Moments) (old new : Past) (status : Status) : Type 0 where
  pub came : Fed
  pub told : IsIngested came status
  pub taken : List TakenItem
  pub done : List Done
  pub session : Session true came taken source clock clock' done
  pub acts : ActsFrom Before tells config held done old new
  pub durable : LeavesNone came acts.end
  pub twice : All IsOfferedTwice taken
