-- The machine that an archive stands for. Its memory has the machine's rows, tails and cells, and its stores have the machine's durable
-- part, or are in doubt between that and what the doubted change makes of it.
use Rattle.std.specs.FinMap.{FinMap}
use Rattle.std.specs.List.{AllByRecursion}
use Rattle.std.specs.Ordering.{nat_cmp}
use Rattle.std.specs.Prelude.{◌≡◌, ◌≢◌, ◌⊎◌, ◌<◌, ◌≤◌, ℕ, List, [], length, Bool, true, false, ◌&&◌, IsTrue, Option, Some, None, Ok, slice_get}
use Rattle.disk_model.specs.Files.{Name}
use Rattle.etl_rules.specs.Config.{ConfigState}
use Rattle.pb_messages.specs.Info.{info_of}
use Rattle.pb_messages.specs.declared.info.PayloadInfo.{PayloadInfo}
use Rattle.pv_catalog.specs.Rows.{KeepsRows}
use Rattle.pv_catalog.specs.declared.row.Row.{Row}
use Rattle.etl_mover.specs.Move.{Moving}
use Rattle.moves.specs.declared.table.Running.{Running}
use Rattle.series_model.specs.Series.{end_of}
use Rattle.series_model.specs.declared.batch.RowSamples.{RowSamples}
use Rattle.series_model.specs.declared.sample.Sample.{Sample}
use Rattle.durable_write.specs.Held.{Filed, IsListedTo, listing_of, samples_of}
use Rattle.durable_write.specs.Plan.{of_row}
use Rattle.tier_store.specs.Beginning.{AllNested}
use Rattle.tier_store.specs.Moving.{GoesBeside}
use Rattle.tier_store.specs.Stores.{Stores, list_at, samples_in, tier}
use Rattle.tier_store.specs.Seen.{Seen, granularities}
use Rattle.tier_store.specs.Change.{Has, Doubts}
use Rattle.tier_store.specs.Pinned.{SeenAll, beside}
use Rattle.tier_store.specs.Revival.{AreWhole}
use Rattle.tier_store.specs.declared.limbo.Retired.{Retired}
use Rattle.act_model.specs.Rows.{RowState, Store, is_empty}
use Rattle.act_model.specs.Machine.{Machine, MoveState, Change, AddsRow, SetsState, Renames, Appends, Publishes, Unlists}
use Rattle.act_model.specs.Changes.{made}
use Rattle.act_model.specs.Crash.{DurableRow, kept}
use Rattle.act_model.specs.Rule.{Rule}
use Rattle.act_model.specs.Sound.{IsSound}
use Rattle.intake_half.specs.declared.memory.RowMemory.{RowMemory}
use Rattle.archive_core.specs.declared.memory.Doubt.{Doubt}
use Rattle.archive_core.specs.declared.memory.Doubt.TheVariants as doubt
use Rattle.archive_core.specs.Growing.{FilesGoOn, HasRunning}
use Rattle.archive_core.specs.LimboTies.{IsLimboOf}
use Rattle.archive_core.specs.Memory.{AreRowsOf, row_ends}
use Rattle.intake_half.specs.Memory.{fresh_memory, renamed_memory}
use Rattle.archive_core.specs.MoveTies.{AreMovesOf}
use Rattle.archive_core.specs.Parts.{Parts}
use Rattle.archive_core.specs.Pins.{ArePinsOf}
use Rattle.archive_core.specs.Retiring.{IsRetiring}

-- WHAT STORES HOLD OF A MACHINE

-- A row of the stores is a durable row of the machine. Its samples are told of where the machine is told.
pub record IsDurable (told : Bool) (s : Stores) (i : ℕ) (row : Row) (r : DurableRow) : Type 0 where
  pub name : r.name ≡ row.name
  pub about : r.about ≡ row.about
  pub state : r.state ≡ row.state
  pub base : r.base ≡ row.base
  pub short : told ≡ true → r.short ≡ samples_of i s.short
  pub medium : told ≡ true → r.medium ≡ samples_of i s.medium
  pub long : told ≡ true → r.long ≡ samples_of i s.long

-- the stores hold the durable row of this number
pub record IsDurableAt (told : Bool) (s : Stores) (i : ℕ) (r : DurableRow) : Type 0 where
  pub row : Row
  pub here : slice_get s.rows i ≡ Some row
  pub is : IsDurable told s i row r

-- what the stores hold is this durable part
pub record AreDurable (told : Bool) (s : Stores) (rs : List DurableRow) : Type 0 where
  pub count : length rs ≡ length s.rows
  pub each : (i : ℕ) (r : DurableRow) → slice_get rs i ≡ Some r → IsDurableAt told s i r

-- the stores hold what is durable of the machine
abbrev pub HoldsDurable : Stores → Machine → Type 0
HoldsDurable s m = AreDurable m.told s (kept m)

-- THE DOUBT

-- What the archive keeps of a doubted change tells which change it is. Of a retirement it keeps nothing, since nothing is to be done in memory
-- once that turns out to be made.
abbrev pub IsDoubtOf : Option Doubt → Option Change → Type 0
IsDoubtOf None None = Unit {0}
IsDoubtOf None (Some (AddsRow name about)) = ⊥
IsDoubtOf None (Some (SetsState row to)) = ⊥
IsDoubtOf None (Some (Renames row name)) = ⊥
IsDoubtOf None (Some (Appends batch)) = ⊥
IsDoubtOf None (Some (Publishes row store copied)) = ⊥
IsDoubtOf None (Some (Unlists row store to)) = Unit {0}
IsDoubtOf (Some kept) None = ⊥
IsDoubtOf (Some doubt.Row) (Some change) = (name : List ℕ) × (about : _) × (change ≡ AddsRow name about)
IsDoubtOf (Some (doubt.State row to)) (Some change) = change ≡ SetsState row to
IsDoubtOf (Some (doubt.Rename old)) (Some change) = (name : List ℕ) × (change ≡ Renames old name)
IsDoubtOf (Some (doubt.Flush ends)) (Some change) = (batch : List RowSamples) × (change ≡ Appends batch) × (row_ends batch ≡ ends.items)
IsDoubtOf (Some doubt.Published) (Some change) = (row : ℕ) × (store : Store) × (copied : List Sample) × (change ≡ Publishes row store copied)

-- a part of a batch is of one of so many rows, and has samples
pub record IsPartOf (count : ℕ) (part : RowSamples) : Type 0 where
  pub here : part.row < count
  pub some : is_empty part.samples ≡ false

-- A doubted row's memory is there already, also that of a row under a new name. A doubted state is another than the row has. A doubted batch is
-- of rows that are there. Of a row whose doubted copies may be listed, or whose doubted parts may have left, no move runs.
abbrev pub IsReady : List RowMemory → List RowState → FinMap nat_cmp MoveState → Option Change → Type 0
IsReady kept rows moves None = Unit {0}
IsReady kept rows moves (Some (AddsRow name about)) = slice_get kept (length rows) ≡ Some (fresh_memory about)
IsReady kept rows moves (Some (SetsState i state)) = (r : RowState) × (slice_get rows i ≡ Some r) × (r.state ≢ state)
IsReady kept rows moves (Some (Renames i name)) =
    (r : RowState) × (slice_get rows i ≡ Some r) × (slice_get kept (length rows) ≡ Some (renamed_memory r.about r.next))
IsReady kept rows moves (Some (Appends batch)) = AllByRecursion (IsPartOf (length rows)) batch
IsReady kept rows moves (Some (Publishes i store copied)) = HasRunning moves i → ⊥
IsReady kept rows moves (Some (Unlists i store to)) = HasRunning moves i → ⊥

-- THE ARCHIVE

-- Rows stand for the same variables, each file that a store lists is listed still, and what moves stand beside goes on as they want it: what
-- their destination lists of their row stays, and their source lists what it did, and later samples behind all that is held of the row.
pub record StoresGrow (moves : FinMap nat_cmp MoveState) (before after : Stores) : Type 0 where
  pub rows : KeepsRows before.rows after.rows
  pub lists : (place : ℕ) (name : Name) → place < 3 → IsListedTo (listing_of (tier place before)) name 0 → IsListedTo (listing_of (tier place after)) name 0
  pub beside : (place row : ℕ) → HasRunning moves row → 1 ≤ place → place < 3 → GoesBeside place row before after
  pub sources : (place row : ℕ) → HasRunning moves row → place < 3 → FilesGoOn before.stands (end_of (samples_in row before)) (of_row row (list_at place before)) (of_row row (list_at place after))

-- So it is once a change is made, but for a retirement, which takes files from a list: each of these is in limbo.
abbrev pub StoresGo : Bool → SeenAll → Bool → List RowState → FinMap nat_cmp MoveState → Stores → Stores → Change → Type 0
StoresGo tells all told rows moves before after (AddsRow name about) = StoresGrow moves before after
StoresGo tells all told rows moves before after (SetsState row to) = StoresGrow moves before after
StoresGo tells all told rows moves before after (Renames row name) = StoresGrow moves before after
StoresGo tells all told rows moves before after (Appends batch) = StoresGrow moves before after
StoresGo tells all told rows moves before after (Publishes row store copied) = StoresGrow moves before after
StoresGo tells all told rows moves before after (Unlists row store to) = IsRetiring tells all told rows before after row store to

-- A change of the stores stands in doubt, and it is the one that the machine doubts: once it is made they have what is durable of the
-- machine with the change made.
pub record InDoubt (tells : Bool) (at : Seen) (limbo : List Retired) (before : Stores) (m : Machine) : Type 0 where
  pub change : Change
  pub is : m.doubt ≡ Some change
  pub after : Stores
  pub doubts : Doubts tells at before after
  pub stand : after.stands ≡ before.stands
  pub go : StoresGo tells (beside at limbo) m.told m.rows m.moves before after change
  pub holds : HoldsDurable after (made [] change m)

-- The stores have what is durable of the machine, or are in doubt whether they have it with the doubted change. The files in limbo of each
-- store are whole beside them, so that a flush or a copy may go on in one, and the moves run beside them that run in the machine.
pub record IsBetween (tells : Bool) (at : Seen) (limbo : List Retired) (slots : List (Option (Running Moving))) (m : Machine) : Type 0 where
  pub before : Stores
  pub told : m.told ≡ (tells && before.stands)
  pub disk : IsTrue before.stands → IsTrue tells
  pub holds : HoldsDurable before m
  pub whole : (i : ℕ) → i < 3 → (files : List Filed) × AreWhole i tells at limbo before.stands files
  pub moves : AreMovesOf tells (beside at limbo) m.told m.rows m.limbo before m.moves slots
  pub is_open : Has tells at before ⊎ InDoubt tells at limbo before m

-- the rule tells each header by its type and its year
abbrev pub TellsHeaders : Rule → Type 0
TellsHeaders rule = (message : List ℕ) (info : PayloadInfo) → info_of message ≡ Ok info → rule.header message ≡ Some (record { ty = info.ty; year = info.year })

-- the rule has the partitions of the stores, and tells headers
pub record IsRuleOf (at : Seen) (rule : Rule) : Type 0 where
  pub granularity : rule.granularity ≡ granularities at.manifests
  pub headers : TellsHeaders rule

-- the rule says of moves what the settings say, and each store's partitions lie in the next store's
pub record HasSettings (at : Seen) (config : ConfigState) (rule : Rule) : Type 0 where
  pub hold : rule.hold ≡ config.hold
  pub gather : rule.gather ≡ config.gather
  pub nested : AllNested (granularities at.manifests)

-- The archive stands for the machine.
pub record Stands (tells : Bool) (p : Parts) (m : Machine) : Type 0 where
  pub sound : IsSound m
  pub rule : IsRuleOf p.at m.rule
  pub limbo : IsLimboOf tells (beside p.at p.limbo) m.told m.rows m.limbo
  pub settings : HasSettings p.at p.config m.rule
  pub pins : ArePinsOf tells (beside p.at p.limbo) m.told m.rows m.pins p.pinned
  pub faults : m.faults ≡ p.at.faults
  pub doors : m.doors ≡ p.doors
  pub rows : AreRowsOf p.at.catalogue.rows p.kept p.tails m.rows
  pub doubt : IsDoubtOf p.doubt m.doubt
  pub ready : IsReady p.kept m.rows m.moves m.doubt
  pub store : IsBetween tells p.at p.limbo p.slots m

-- nothing stands in doubt, so the stores have what is durable of the machine
pub record Rests (tells : Bool) (p : Parts) (m : Machine) : Type 0 where
  pub stands : Stands tells p m
  pub settled : m.doubt ≡ None
