-- One step of copying: lines of one part of a move go to the destination's file of its partition, ahead of what is listed there.
use Rattle.std.specs.Prelude.{◌≡◌, ◌≢◌, ◌⊎◌, ◌↔◌, ◌≤◌, ◌+◌, ◌-◌, ℕ, List, [], ◌∷◌, ◌++◌, length, take, drop, Option, None, Some, slice_get, slice_set}
use Rattle.disk_model.specs.Files.{Name, Files, HasFile}
use Rattle.gate_journal.specs.DiskShown.{DiskShown}
use Rattle.line_escape.specs.Unescaping.{HasNoNewline}
use Rattle.series_model.specs.declared.sample.Sample.{Sample}
use Rattle.pb_messages.specs.declared.info.PayloadInfo.{PayloadInfo}
use Rattle.pb_lines.specs.Header.{IsHeaderLine}
use Rattle.partition_names.specs.declared.part.Part.{Part}
use Rattle.partition_names.specs.Part.{IsPart, HoldsMoment}
use Rattle.store_manifest.specs.declared.entry.Entry.{Entry}
use Rattle.pv_catalog.specs.declared.row.Row.{Row}
use Rattle.pb_lines.specs.File.{AreSamples, lines_of}
use Rattle.durable_write.specs.Held.{Shelf}
use Rattle.etl_mover.specs.declared.copying.Start.{Start}
use Rattle.etl_mover.specs.Copying.{last_of, starts, SetsLast}
use Rattle.etl_mover.specs.Lines.{IsSampleStart, with_lines}
use Rattle.etl_mover.specs.Move.{Moving, part_file}
use Rattle.etl_mover.specs.Writing.{WritesFile}

-- WHERE LINES GO

-- The part that is copied next goes on here: in the destination's partition that holds it.
pub record GoesTo (move : Moving) (revived : Option Entry) (part : Entry) (start : Start) : Type 0 where
  pub at_hand : slice_get move.parts move.at ≡ Some part
  pub to : Part
  pub is : IsPart move.granularity to
  pub holds : HoldsMoment to part.part.start
  pub begins : starts (last_of move.pending move.listed) move.series to part.head_len revived ≡ Some start

-- It goes on nowhere: the destination ends in a later partition than the one that holds it.
pub record GoesNowhere (move : Moving) (revived : Option Entry) (part : Entry) : Type 0 where
  pub to : Part
  pub is : IsPart move.granularity to
  pub holds : HoldsMoment to part.part.start
  pub none : starts (last_of move.pending move.listed) move.series to part.head_len revived ≡ None

-- it goes on somewhere, or nowhere
abbrev pub IsPlacedOrNot : Moving → Option Entry → Entry → Type 0
IsPlacedOrNot move revived part = ((start : Start) × GoesTo move revived part start) ⊎ GoesNowhere move revived part

abbrev pub source_file : Moving → Entry → Name
source_file move part = part_file move.source move.name part

abbrev pub target_file : Moving → Start → Name
target_file move start = part_file move.destination move.name start.entry

-- the old entry of a file in limbo is of the series, and of the destination's partition of the part that is copied next
pub record CanRevive (move : Moving) (e : Entry) : Type 0 where
  pub own : e.series ≡ move.series
  pub is : IsPart move.granularity e.part
  pub holds : (part : Entry) → slice_get move.parts move.at ≡ Some part → HoldsMoment e.part part.part.start

-- a file has at least so many bytes, and was opened no further
abbrev pub IsLongUnopened : ℕ → Name → Files → (Name → ℕ) → Type 0
IsLongUnopened len name files opened = HasFile files name (λ b. (opened name ≤ len) × (len ≤ length b))

-- the move goes to the shelf's store, where its row has its name
pub record IsToRow (move : Moving) (shelf : Shelf) : Type 0 where
  pub row : Row
  pub stands : slice_get shelf.1 move.series ≡ Some row
  pub name : row.name ≡ move.name
  pub store : move.destination ≡ shelf.0

-- each file that may go on is as long as it is listed or is to be, and was opened no further
abbrev pub HasTargets : Moving → Option Entry → Files → (Name → ℕ) → Type 0
HasTargets move revived files opened = (part : Entry) (start : Start) (n : ℕ) → GoesTo move revived part start → start.at ≡ Some n → IsLongUnopened n (target_file move start) files opened

-- The part's file is as long as it is listed, and so is the destination's file that goes on, which was opened no further.
pub record CanCopy (move : Moving) (revived : Option Entry) (len : ℕ) (files : Files) (opened : Name → ℕ) : Type 0 where
  pub source : (part : Entry) → slice_get move.parts move.at ≡ Some part → HasFile files (source_file move part) (λ b. len ≤ length b)
  pub target : HasTargets move revived files opened

-- WHAT A STEP TAKES

-- the bytes of a file from a place up to a length
abbrev pub between : ℕ → ℕ → List ℕ → List ℕ
between from len bytes = take (len - from) (drop from bytes)

-- at most so many bytes, or one line
abbrev pub AreFew : ℕ → List ℕ → Type 0
AreFew most lines = (length lines ≤ most) ⊎ ((line : List ℕ) × HasNoNewline line × (lines ≡ line ++ 10 ∷ []))

-- the lines are those of samples of the header's type and year, at least one where one is at the front, and the entry grows by them
pub record AreTaken (info : PayloadInfo) (rest lines : List ℕ) (old new : Entry) : Type 0 where
  pub samples : List Sample
  pub are : AreSamples info.ty info.year samples
  pub text : lines ≡ lines_of samples
  pub grows : new ≡ with_lines samples old
  pub some : IsSampleStart info.ty info.year rest → samples ≢ []

-- Lines from the front of what is left of a part's file, whose header has this line. The entry is that of the destination's file with them.
pub record Takes (head rest : List ℕ) (most : ℕ) (lines : List ℕ) (old new : Entry) : Type 0 where
  pub front : lines ≡ take (length lines) rest
  pub few : AreFew most lines
  pub longer : new.len ≡ old.len + length lines
  pub samples : (line : List ℕ) (info : PayloadInfo) → head ≡ line ++ 10 ∷ [] → HasNoNewline line → IsHeaderLine line info → AreTaken info rest lines old new

-- WHAT IT MAKES OF THE MOVE

-- behind the listed length the lines alone, in a file made anew the source's header's line before them
abbrev pub written_at : Option ℕ → List ℕ → List ℕ → List ℕ
written_at None head lines = head ++ lines
written_at (Some len) head lines = lines

-- the part at the move's place is copied up to this length
abbrev pub finished : Moving → Entry → ℕ → Moving
finished move part len = record move { parts = slice_set move.parts move.at (record part { len = len }); at = move.at + 1 }

abbrev pub with_pending : Moving → List Entry → Moving
with_pending move pending = record move { pending = pending }

-- what is to be listed is as it was, or its last entry is of the file where lines go
abbrev pub SetsPart : Moving → Start → List Entry → Type 0
SetsPart move start pending = (pending ≡ move.pending) ⊎ ((e : Entry) × (e.part ≡ start.entry.part) × (e.series ≡ start.entry.series) × (start.entry.len ≤ e.len) × SetsLast e move.pending pending)

-- Of the move what is to be listed may have changed, in the file where the part at hand goes, and the part may be copied whole.
pub record Advances (move new : Moving) (revived : Option Entry) (len : ℕ) : Type 0 where
  pub pending : List Entry
  pub is : (new ≡ with_pending move pending) ⊎ ((part : Entry) × (slice_get move.parts move.at ≡ Some part) × (new ≡ finished (with_pending move pending) part len))
  pub sets : (pending ≡ move.pending) ⊎ ((part : Entry) × (start : Start) × (entry : Entry) × GoesTo move revived part start × (entry.part ≡ start.entry.part) × (entry.series ≡ start.entry.series) × (start.entry.len ≤ entry.len) × SetsLast entry move.pending pending)

-- The lines are written to the file, which is to be listed with them.
pub record Writes (name : Name) (start : Start) (head lines : List ℕ) (entry : Entry) (old new : List Entry) (files : Files) (later : DiskShown) : Type 0 where
  pub wrote : WritesFile name start.at (written_at start.at head lines) files later
  pub set : SetsLast entry old new

-- there were none
pub record WritesNone (lines : List ℕ) (old new : List Entry) (files later : Files) : Type 0 where
  pub none : lines ≡ []
  pub same : new ≡ old
  pub same_files : later ≡ files

-- A step has copied these lines of a part's file with these bytes.
pub record Copies (name : Name) (start : Start) (part : Entry) (from len most : ℕ) (bytes : List ℕ) (old new : List Entry) (files : Files) (later : DiskShown) (lines : List ℕ) : Type 0 where
  pub entry : Entry
  pub part_is : entry.part ≡ start.entry.part
  pub series_is : entry.series ≡ start.entry.series
  pub takes : Takes (take part.head_len bytes) (between from len bytes) most lines start.entry entry
  pub writes : Writes name start (take part.head_len bytes) lines entry old new files later ⊎ WritesNone lines old new files later.files

-- And it has copied the part whole exactly where they are the last of it.
abbrev pub CopiesPart : Moving → Moving → Start → Entry → ℕ → ℕ → ℕ → List ℕ → Files → DiskShown → Type 0
CopiesPart move new start part from len most b files later =
    (lines : List ℕ) × Copies (target_file move start) start part from len most b move.pending new.pending files later lines × ((new.at ≡ move.at + 1) ↔ (from + length lines ≡ len))
