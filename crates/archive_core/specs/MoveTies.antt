-- The moves that the archive runs, beside those of the machine.
--
-- What a move has written to the next store and not listed yet is that of some files, which stand beside what the stores hold (`RunsBeside`).
-- Where the machine is told, the row has with these files just the samples that the machine has with what the move has copied.
--
-- A move that copies knows its parts as they are listed (`CopiesBeside`). Once it has copied them all, they may get later samples: of each part
-- the move knows by its length up to where it was copied (`HasCopiedParts`).
use Rattle.std.specs.FinMap.{FinMap, get}
use Rattle.std.specs.List.{AllByRecursion, list_any}
use Rattle.std.specs.Ordering.{nat_cmp}
use Rattle.std.specs.Prelude.{◌≡◌, ◌≢◌, ◌≤◌, ◌+◌, ℕ, List, [], ◌∷◌, ◌++◌, Bool, true, Option, Some, None, length, slice_get}
use Rattle.etl_mover.specs.Move.{Moving, IsCopied}
use Rattle.etl_mover.specs.declared.moving.Stage.TheVariants.{Published}
use Rattle.pb_lines.specs.File.{lines_of}
use Rattle.moves.specs.Table.{at}
use Rattle.moves.specs.declared.table.Running.{Running}
use Rattle.series_model.specs.Series.{end_of, RisesFrom}
use Rattle.series_model.specs.declared.sample.Sample.{Sample}
use Rattle.store_manifest.specs.declared.entry.Entry.{Entry}
use Rattle.durable_write.specs.Flush.{file_at, put_all}
use Rattle.durable_write.specs.Held.{Filed, filed_at, samples_of}
use Rattle.tier_store.specs.Copying.{CopiesBeside, samples_ahead}
use Rattle.tier_store.specs.Moving.{RunsBeside}
use Rattle.tier_store.specs.Pinned.{SeenAll}
use Rattle.tier_store.specs.Retiring.{oldest}
use Rattle.tier_store.specs.Stores.{Stores, list_at}
use Rattle.act_model.specs.Limbo.{RowFile, files_of, put}
use Rattle.act_model.specs.Machine.{MoveState, Stage, Copies, HasCopied, HasPublished}
use Rattle.act_model.specs.Rows.{RowState, Long, next_store, tier, holds}
use Rattle.act_model.specs.Rule.{index_of}
use Rattle.act_model.specs.Sound.{is_copying}

-- where the last of these partitions ends, or n where there is none
abbrev pub ends_from : ℕ → List Entry → ℕ
ends_from n [] = n
ends_from n (e ∷ es) = ends_from e.part.end es

-- HOW FAR A MOVE IS

-- The file of a part was copied so far as the move knows the part's length: just its samples before n. Those that it has got since are no earlier.
pub record IsCopiedTo (n : ℕ) (part : Entry) (f : Filed) : Type 0 where
  pub of_part : f.entry.part ≡ part.part
  pub front : List Sample
  pub back : List Sample
  pub samples : f.samples ≡ front ++ back
  pub len : part.len ≡ f.entry.head_len + length (lines_of front)
  pub until : end_of front ≤ n
  pub later : RisesFrom n back

-- each part of the move was, as the store at a place lists it
abbrev pub HasCopiedParts : ℕ → Moving → ℕ → Stores → Type 0
HasCopiedParts from moving n held = (k : ℕ) (part : Entry) (f : Filed) → slice_get moving.parts k ≡ Some part → slice_get (oldest from moving.series (length moving.parts) held) k ≡ Some f → IsCopiedTo n part f

-- where what the store at a place lists of the move's row ends
abbrev pub listed_end : ℕ → Moving → Stores → ℕ
listed_end i moving held = end_of (samples_of moving.series (list_at i held))

-- and where it does once that lists the move's files too
abbrev pub end_ahead : ℕ → Moving → List Filed → Stores → ℕ
end_ahead i moving files held = end_of (samples_ahead i moving files held)

-- It has copied all its parts up to the end of what it has written. What came to a part since, is no earlier.
pub record HasCopiedAhead (from to : ℕ) (told : Bool) (files : List Filed) (before : Stores) (moving : Moving) : Type 0 where
  pub is : IsCopied moving
  pub parts : told ≡ true → HasCopiedParts from moving (end_ahead to moving files before) before

-- It has, and the next store lists what it has written.
pub record HasListed (from to : ℕ) (told : Bool) (before : Stores) (moving : Moving) : Type 0 where
  pub stage : moving.stage ≡ Published
  pub all : moving.at ≡ length moving.parts
  pub parts : told ≡ true → HasCopiedParts from moving (listed_end to moving before) before

-- how far a move is out of the store at a place
abbrev pub IsAtStage : ℕ → ℕ → Bool → SeenAll → Bool → List Filed → Stores → Moving → Stage → Type 0
IsAtStage from to tells all told files before moving Copies = CopiesBeside from tells all moving files before
IsAtStage from to tells all told files before moving HasCopied = HasCopiedAhead from to told files before moving
IsAtStage from to tells all told files before moving HasPublished = HasListed from to told before moving

-- WHAT IT HAS WRITTEN

-- With its files the row has in the destination what the machine has there with the copied samples.
abbrev pub HasCopies : Stores → List RowFile → RowState → MoveState → List Filed → Type 0
HasCopies before limbo row move files =
    samples_of move.row (put_all (list_at (index_of (next_store move.store)) before) files) ≡ put move.copied (files_of move.row (next_store move.store) limbo) (tier row (next_store move.store))

-- where nothing is listed in the file's place, one of these samples lies in its partition
abbrev pub GetsOne : List Filed → List Sample → Filed → Type 0
GetsOne listed copied f = file_at (filed_at f) listed ≡ None → list_any (λ (s : Sample). holds f.entry.part s.t) copied ≡ true

-- Each copied sample lies in the partition of a file that is written. Into a place where the destination lists nothing one is written just
-- where a copied sample lies.
pub record GoInto (listed : List Filed) (copied : List Sample) (files : List Filed) : Type 0 where
  pub each : AllByRecursion (λ (s : Sample). list_any (λ (f : Filed). holds f.entry.part s.t) files ≡ true) copied
  pub just : AllByRecursion (GetsOne listed copied) files

-- THE MOVES

-- A running move of the stores is one of the machine, of the same row, out of the same store, of as many parts, which end at the same moment.
pub record IsMoveOf (tells : Bool) (all : SeenAll) (told : Bool) (rows : List RowState) (limbo : List RowFile) (before : Stores) (move : MoveState) (running : Running Moving) : Type 0 where
  pub series : running.series ≡ move.row
  pub own : running.moving.series ≡ move.row
  pub store : running.store ≡ index_of move.store + 1
  pub moves : move.store ≢ Long
  pub files : List Filed
  pub beside : RunsBeside (index_of (next_store move.store)) tells all running.moving files before
  pub parts : length running.moving.parts ≡ move.parts
  pub to : told ≡ true → move.to ≡ ends_from 0 running.moving.parts
  pub stage : IsAtStage (index_of move.store) (index_of (next_store move.store)) tells all told files before running.moving move.stage
  pub copied : told ≡ true → is_copying move.stage ≡ true → (row : RowState) → slice_get rows move.row ≡ Some row → HasCopies before limbo row move files
  pub into : told ≡ true → GoInto (list_at (index_of (next_store move.store)) before) move.copied files

-- the move of this number is one that runs
pub record HasMoveOf (tells : Bool) (all : SeenAll) (told : Bool) (rows : List RowState) (limbo : List RowFile) (before : Stores) (slots : List (Option (Running Moving))) (n : ℕ) (move : MoveState) : Type 0 where
  pub running : Running Moving
  pub there : at slots n ≡ Some running
  pub is : IsMoveOf tells all told rows limbo before move running

-- The archive's moves are the machine's, each under its number.
pub record AreMovesOf (tells : Bool) (all : SeenAll) (told : Bool) (rows : List RowState) (limbo : List RowFile) (before : Stores) (moves : FinMap nat_cmp MoveState) (slots : List (Option (Running Moving))) : Type 0 where
  pub none : (n : ℕ) → get moves n ≡ None → at slots n ≡ None
  pub each : (n : ℕ) (move : MoveState) → get moves n ≡ Some move → HasMoveOf tells all told rows limbo before slots n move
