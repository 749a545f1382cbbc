-- What a command makes of an archive that is opened on what a disk held: just its own acts, each a step of the machine, and what a crash at
-- any moment of them leaves.
use Rattle.std.specs.FinMap.{empty}
use Rattle.std.specs.Prelude.{◌≡◌, ◌⊎◌, List, [], Bool, ◌&&◌, true, IsTrue, Option, None, Some, Result, Ok, Err}
use Rattle.disk_model.specs.Files.{Files}
use Rattle.disk_model.specs.Past.{Past, Passes}
use Rattle.disk_model.specs.declared.disk.Disk.{Ghosts}
use Rattle.etl_rules.specs.Config.{ConfigState}
use Rattle.pb_messages.specs.Info.{info_of}
use Rattle.pb_messages.specs.declared.info.PayloadInfo.{PayloadInfo}
use Rattle.tier_store.specs.Change.{Has}
use Rattle.tier_store.specs.Seen.{seen}
use Rattle.tier_store.specs.Stores.{Stores}
use Rattle.tier_store.specs.declared.store.TierStore.{TierStore}
use Rattle.store_reopen.specs.Reopen.{IsReady, OpensEither, stores_of}
use Rattle.act_model.specs.Alone.{Chain}
use Rattle.act_model.specs.Changes.{made}
use Rattle.act_model.specs.Crash.{kept}
use Rattle.act_model.specs.History.{Entry, Done, Runs, mine, own}
use Rattle.act_model.specs.Machine.{Machine, Change}
use Rattle.act_model.specs.NextLife.{opened}
use Rattle.act_model.specs.Rule.{Rule, Header}
use Rattle.archive_core.specs.Leaving.{Leaves}
use Rattle.archive_core.specs.Parts.{parts}
use Rattle.archive_core.specs.Running.{HoldsBetween}
use Rattle.archive_core.specs.Stands.{Stands, HoldsDurable}
use Rattle.archive_core.specs.declared.archive.Archive.{Archive}
use Rattle.command_words.specs.declared.status.Status.{Status}
use Rattle.command_words.specs.declared.status.Status.TheVariants.{OutOfMemory}

-- THE STORES

-- Stores that were just opened by their settings: nothing stands in doubt, nobody has a pin, and nothing is in limbo.
pub record IsFresh {D R : Type 0} (disk : Ghosts D R) (store : TierStore D R) : Type 0 where
  pub has : (held : Stores) × Has disk.tells (seen disk store) held
  pub ready : IsReady (stores_of store.config) store.catalogue store.manifests.items
  pub limbo : store.limbo.items ≡ []
  pub pins : store.pinned ≡ empty

-- memory was wanting for an archive, and the stores gave their disk back
pub record IsNotMade {D : Type 0} (disk given : D) (status : Status) : Type 0 where
  pub status_is : status ≡ OutOfMemory
  pub same : given ≡ disk

-- THE ARCHIVE THAT IS OPENED

-- what a message says that is a header, by its fields (PB file format)
abbrev pub header_by : {E : Type 0} → Result PayloadInfo E → Option Header
header_by {E} (Ok info) = Some (record { ty = info.ty; year = info.year })
header_by {E} (Err e) = None

-- the rule of an archive with these settings
abbrev pub rule_of : ConfigState → Rule
rule_of config = record { granularity = stores_of config; hold = config.hold; gather = config.gather; header = λ message. header_by (info_of message) }

-- The machine as it is opened on what is held: its rows with what their stores list. All of that is accepted, and there is nothing else.
-- Samples are told of where the disk tells its files and these stand as they are listed.
pub record IsOpenedOn (tells : Bool) (config : ConfigState) (held : Stores) (m : Machine) : Type 0 where
  pub told : m.told ≡ (tells && held.stands)
  pub holds : HoldsDurable held m
  pub rule : m.rule ≡ rule_of config
  pub settled : m.doubt ≡ None
  pub fresh : m.told ≡ true → m ≡ opened (rule_of config) true m.doors m.faults (kept m)

-- THE ACTS

-- Just these acts were made, all under the program's own number, each a step from the state that those before it led to.
pub record Acts (start : Machine) (done : List Done) (end : Machine) : Type 0 where
  pub entries : List Entry
  pub just_these : mine 0 entries ≡ done
  pub no_others : own 0 entries ≡ entries
  pub runs : Runs start entries end

-- so it is of the archive that they were made on, with what each of them left
pub record ActsAlone {D R : Type 0} (disk : Ghosts D R) (old : Archive D R) (done : List Done) (new : Archive D R) : Type 0 where
  pub entries : List Entry
  pub just_these : mine 0 entries ≡ done
  pub no_others : own 0 entries ≡ entries
  pub chain : Chain (λ a m. Stands disk.tells (parts disk a) m) (λ a e b. Leaves disk.tells (parts disk a) e (parts disk b)) old entries new

-- WHAT THEY LEAVE

-- Whatever a crash now may leave holds what is durable of the state, or of that with the change that stands in doubt; so the disk can be
-- opened again.
pub record OpensAgain (config : ConfigState) (end : Machine) (past : Past) : Type 0 where
  pub before : Stores
  pub after : Stores
  pub opens : OpensEither (stores_of config) past before after
  pub holds : HoldsDurable before end
  pub stands : end.told ≡ true → IsTrue before.stands
  pub doubted : (after ≡ before) ⊎ ((change : Change) × (end.doubt ≡ Some change) × HoldsDurable after (made [] change end))

-- The archive was opened on what is held, just these acts were made, and the disk was given back. At each moment a crash left what `Before`
-- says, as of an opening; or what one within one of the acts leaves, which stands: of each variable it extends what was durable at first, and
-- is extended by what is accepted in the end.
pub record ActsFrom (Before : Files → Type 0) (tells : Bool) (config : ConfigState) (held : Stores) (done : List Done) (old new : Past) : Type 0 where
  pub start : Machine
  pub opened : IsOpenedOn tells config held start
  pub end : Machine
  pub acts : Acts start done end
  pub leaves : IsTrue tells → OpensAgain config end new
  pub any_moment : IsTrue tells → IsTrue held.stands → Passes (λ a image. Before image ⊎ HoldsBetween (stores_of config) start acts.entries end image) old new
