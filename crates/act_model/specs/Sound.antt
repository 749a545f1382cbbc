-- What always holds of an archive (`IsSound`): each list rises in time, each row goes on over the whole of its base, no name or key
-- stands twice, at most 65,536 rows and 64 MiB in the intake, a doubt may be settled either way, a move's copies are no others than the
-- next store lacks, and each pinned piece is there, in its store or in limbo. Of samples in files this speaks only where the disk tells its
-- files and they stand as they are listed.
use Rattle.std.specs.Prelude.{◌≡◌, ◌≢◌, ◌⊎◌, ℕ, ◌<◌, ◌≤◌, List, [], ◌++◌, length, max, Bool, true, false, Option, Some, None, slice_get}
use Rattle.std.specs.List.{AllByRecursion}
use Rattle.std.specs.Ordering.{nat_cmp}
use Rattle.std.specs.FinMap.{FinMap, get}
use Rattle.series_model.specs.Limits.{intake_room, most_rows}
use Rattle.series_model.specs.declared.sample.Sample.{Sample}
use Rattle.series_model.specs.Archive.{IsPrefix}
use Rattle.series_model.specs.Series.{since, before, end_of, end_from, IsRising, RisesFrom}
use Rattle.pb_messages.specs.declared.about.State.TheVariants.{Paused, Retired}
use Rattle.pb_wire.specs.declared.payload.PayloadType.{PayloadType}
use Rattle.act_model.specs.Event.{IsEvent}
use Rattle.act_model.specs.Rows.{RowState, Store, Long, next_store, tier, deep, durable, accepted, window, is_empty}
use Rattle.act_model.specs.Whole.{whole}
use Rattle.act_model.specs.Rule.{Rule, IsPartition, IsPartitionEnd}
use Rattle.act_model.specs.Limbo.{RowFile, files_of, tier_at, Fits, IsOfPart, IsThere, Extend, PlacesDiffer}
use Rattle.pv_name.specs.Key.{key_of}
use Rattle.act_model.specs.Machine.{Machine, PinState, MoveState, Stage, Copies, HasCopied, HasPublished, Change, AddsRow, SetsState, Renames, Appends, Publishes, Unlists, held_bytes}
use Rattle.act_model.specs.Changes.{of_row}

-- The lists of a row: each store rises, the tail is later than all that is durable, and nothing that admission takes is earlier than its end.
pub record RowSound (told : Bool) (row : RowState) : Type 0 where
  pub short : IsRising row.short
  pub medium : IsRising row.medium
  pub long : IsRising row.long
  pub later : RisesFrom (end_of (durable row)) row.tail
  pub next : end_from (end_of (durable row)) row.tail ≤ row.next

-- A row over its base: the base has a smaller number, is retired, is known as the same, and has an empty tail.
pub record IsOver (rows : List RowState) (i : ℕ) (row : RowState) (b : ℕ) : Type 0 where
  pub base : RowState
  pub here : slice_get rows b ≡ Some base
  pub below : b < i
  pub retired : base.state ≡ Retired
  pub about : base.about ≡ row.about
  pub none : base.tail ≡ []

-- Each row that has a base stands over it, no two over one, and admission takes nothing before the end of the whole of a row, which it knows.
pub record BasesSound (told : Bool) (rows : List RowState) : Type 0 where
  pub over : (i : ℕ) (row : RowState) (b : ℕ) → slice_get rows i ≡ Some row → row.base ≡ Some b → IsOver rows i row b
  pub one : (i j b : ℕ) (row other : RowState) → slice_get rows i ≡ Some row → slice_get rows j ≡ Some other → row.base ≡ Some b → other.base ≡ Some b → i ≡ j
  pub end : (i : ℕ) (row : RowState) → slice_get rows i ≡ Some row → end_of (whole accepted rows i) ≤ row.next
  pub exact : told ≡ true → (i : ℕ) (row : RowState) → slice_get rows i ≡ Some row → row.next ≡ end_of (whole accepted rows i)

-- what a sampled row holds is an event of its type
abbrev pub IsHeld : PayloadType → Option Sample → Type 0
IsHeld ty None = Unit {0}
IsHeld ty (Some s) = IsEvent ty s

-- the lines that the intake holds are events of the row's type
pub record LinesSound (row : RowState) : Type 0 where
  pub tail : AllByRecursion (IsEvent row.about.ty) row.tail
  pub held : IsHeld row.about.ty row.cell.held

-- What a move has copied: from the destination's end on, and without a gap but for what the stores below the destination cover.
pub record IsCopied (limbo : List RowFile) (below dest source copied : List Sample) : Type 0 where
  pub rises : RisesFrom (end_of dest) copied
  pub front : since (end_of below) copied ≡ since (max (end_of below) (end_of dest)) (before (end_from (end_of dest) copied) source)
  pub fits : AllByRecursion (Fits limbo) copied
  pub until : end_from (end_of dest) copied ≤ max (max (end_of below) (end_of dest)) (end_of source)

-- a move's copies, of this row and store
abbrev pub CopiesOf : List RowFile → RowState → ℕ → Store → List Sample → Type 0
CopiesOf limbo row i store copied = IsCopied (files_of i (next_store store) limbo) (deep row (next_store store)) (tier row (next_store store)) (tier row store) copied

-- whether its copies aren't listed yet
abbrev pub is_copying : Stage → Bool
is_copying Copies = true
is_copying HasCopied = true
is_copying HasPublished = false

-- A running move is of a row that is there and up to the end of a partition, and its copies that aren't listed yet are right.
pub record MoveSound (rule : Rule) (told : Bool) (rows : List RowState) (limbo : List RowFile) (move : MoveState) : Type 0 where
  pub here : move.row < length rows
  pub moves : move.store ≢ Long
  pub edge : told ≡ true → IsPartitionEnd rule move.store move.to
  pub copied : (row : RowState) → slice_get rows move.row ≡ Some row → told ≡ true → is_copying move.stage ≡ true
      → CopiesOf limbo row move.row move.store move.copied

-- no running move has copies of this row that aren't listed yet
abbrev pub IsStill : FinMap nat_cmp MoveState → ℕ → Type 0
IsStill moves i = (n : ℕ) (move : MoveState) → get moves n ≡ Some move → is_copying move.stage ≡ true → move.row ≢ i

-- there is room for a row, and no row has the name's key
pub record MayAdd (rows : List RowState) (name : List ℕ) : Type 0 where
  pub room : length rows < most_rows
  pub free : (i : ℕ) (row : RowState) → slice_get rows i ≡ Some row → key_of row.name ≢ key_of name

-- the row isn't retired: such a row stays so
abbrev pub IsLive : List RowState → ℕ → Type 0
IsLive rows i = (row : RowState) → slice_get rows i ≡ Some row → row.state ≢ Retired

-- there is room for a row with the new name, and the old one is paused with all its samples durable
pub record MayRename (rows : List RowState) (i : ℕ) (name : List ℕ) : Type 0 where
  pub add : MayAdd rows name
  pub paused : (row : RowState) → slice_get rows i ≡ Some row → row.state ≡ Paused
  pub none : (row : RowState) → slice_get rows i ≡ Some row → row.tail ≡ []

-- the copies are right
pub record MayPublish (told : Bool) (rows : List RowState) (limbo : List RowFile) (i : ℕ) (store : Store) (copied : List Sample) : Type 0 where
  pub here : i < length rows
  pub moves : store ≢ Long
  pub front : (row : RowState) → slice_get rows i ≡ Some row → told ≡ true → CopiesOf limbo row i store copied

-- the next store covers what leaves the store
pub record MayUnlist (rule : Rule) (told : Bool) (rows : List RowState) (i : ℕ) (store : Store) (to : ℕ) : Type 0 where
  pub here : i < length rows
  pub moves : store ≢ Long
  pub edge : told ≡ true → IsPartitionEnd rule store to
  pub covered : (row : RowState) → slice_get rows i ≡ Some row → told ≡ true
      → end_of (before to (tier row store)) ≤ end_of (tier row (next_store store))

-- when a change may be made: as an act's own, or as a doubt that is settled so
abbrev pub MayMake : Rule → Bool → List RowState → List RowFile → Change → Type 0
MayMake rule told rows limbo (AddsRow name about) = MayAdd rows name
MayMake rule told rows limbo (SetsState i state) = IsLive rows i
MayMake rule told rows limbo (Renames i name) = MayRename rows i name
MayMake rule told rows limbo (Appends batch) = (i : ℕ) (row : RowState) → slice_get rows i ≡ Some row → (rest : List Sample) × (row.tail ≡ of_row i batch ++ rest)
MayMake rule told rows limbo (Publishes i store copied) = MayPublish told rows limbo i store copied
MayMake rule told rows limbo (Unlists i store to) = MayUnlist rule told rows i store to

-- where a row's stores change, no move of it copies: a doubted change has ended its move
abbrev pub EndedMove : FinMap nat_cmp MoveState → Change → Type 0
EndedMove moves (AddsRow name about) = Unit {0}
EndedMove moves (SetsState i state) = Unit {0}
EndedMove moves (Renames i name) = Unit {0}
EndedMove moves (Appends batch) = Unit {0}
EndedMove moves (Publishes i store copied) = IsStill moves i
EndedMove moves (Unlists i store to) = IsStill moves i

-- A file of limbo: of its partition, and covered by the stores below its own.
pub record LimboSound (rule : Rule) (told : Bool) (rows : List RowState) (f : RowFile) : Type 0 where
  pub here : f.row < length rows
  pub moves : f.store ≢ Long
  pub partition : told ≡ true → IsPartition rule f.store f.part
  pub part : told ≡ true → IsOfPart f
  pub rising : told ≡ true → IsRising f.samples
  pub covered : (row : RowState) → slice_get rows f.row ≡ Some row → told ≡ true → end_of f.samples ≤ end_of (deep row f.store)

-- it isn't listed
abbrev pub IsUnlisted : List RowState → RowFile → Type 0
IsUnlisted rows f = is_empty (window f.part (tier_at rows f.row f.store)) ≡ true

-- the piece is the front of what is listed of its partition, or nothing is listed and its file is in limbo
abbrev pub Backed : List RowFile → RowState → RowFile → Type 0
Backed limbo row piece = IsPrefix piece.samples (window piece.part (tier row piece.store)) ⊎ ((is_empty (window piece.part (tier row piece.store)) ≡ true) × IsThere piece.part (files_of piece.row piece.store limbo))

-- A pin's piece: it stands in its store or in limbo, and every file of its place in limbo begins with it.
pub record PieceSound (rule : Rule) (rows : List RowState) (limbo : List RowFile) (piece : RowFile) : Type 0 where
  pub here : piece.row < length rows
  pub partition : IsPartition rule piece.store piece.part
  pub extend : Extend piece.samples piece.part (files_of piece.row piece.store limbo)
  pub backed : (row : RowState) → slice_get rows piece.row ≡ Some row → Backed limbo row piece

-- each pin's pieces are there
abbrev pub PinsSound : Rule → List RowState → List RowFile → FinMap nat_cmp PinState → Type 0
PinsSound rule rows limbo pins = (n : ℕ) (pin : PinState) → get pins n ≡ Some pin → AllByRecursion (PieceSound rule rows limbo) pin.pieces

-- What every step keeps, of these members alone, so that a state with another count of faults is as sound.
pub record IsSoundOf (rule : Rule) (told : Bool) (rows : List RowState) (limbo : List RowFile) (pins : FinMap nat_cmp PinState) (moves : FinMap nat_cmp MoveState) (doubt : Option Change) : Type 0 where
  pub few : length rows ≤ most_rows
  pub keys : (i j : ℕ) (a b : RowState) → slice_get rows i ≡ Some a → slice_get rows j ≡ Some b → key_of a.name ≡ key_of b.name → i ≡ j
  pub each_row : (i : ℕ) (row : RowState) → slice_get rows i ≡ Some row → RowSound told row
  pub bases : BasesSound told rows
  pub lines : (i : ℕ) (row : RowState) → slice_get rows i ≡ Some row → LinesSound row
  pub intake : held_bytes rows ≤ intake_room
  pub doubted : (change : Change) → doubt ≡ Some change → MayMake rule told rows limbo change × EndedMove moves change
  pub each_move : (n : ℕ) (move : MoveState) → get moves n ≡ Some move → MoveSound rule told rows limbo move
  pub one_move : (n k : ℕ) (move other : MoveState) → get moves n ≡ Some move → get moves k ≡ Some other → move.row ≡ other.row → n ≡ k
  pub each_file : AllByRecursion (LimboSound rule told rows) limbo
  pub each_unlisted : AllByRecursion (IsUnlisted rows) limbo
  pub places : told ≡ true → PlacesDiffer limbo
  pub pinned : told ≡ true → PinsSound rule rows limbo pins

abbrev pub IsSound : Machine → Type 0
IsSound m = IsSoundOf m.rule m.told m.rows m.limbo m.pins m.moves m.doubt
