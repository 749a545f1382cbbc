-- A reader of chunk streams, and what each of its calls comes to.
use Rattle.std.specs.Prelude.{◌≡◌, ◌≢◌, ◌⊎◌, ℕ, ◌+◌, ◌*◌, ◌-◌, ◌<◌, ◌≤◌, List, [], ◌∷◌, ◌++◌, All, Option, Some, None, IfSome, IsSome, IsTrue, Bool, true, false, length, is_some, if◌then◌else◌}
use Rattle.std.specs.Io.KnownBytes.{Keeps, prepend_known}
use Rattle.edge_io.specs.Lines.{LineReader, HoldsAnswer, ahead, max_input, max_line}
use Rattle.line_escape.specs.Unescaping.{HasNoNewline}
use Rattle.pb_messages.specs.declared.info.PayloadInfo.{PayloadInfo}
use Rattle.pb_lines.specs.declared.fault.ChunkFault.{ChunkFault}
use Rattle.pb_lines.specs.declared.fault.ChunkFault.TheVariants as fault
use Rattle.pb_lines.specs.declared.reader.ChunkItem.{ChunkItem}
use Rattle.pb_lines.specs.declared.reader.ChunkItem.TheVariants as it
use Rattle.pb_lines.specs.Header.{IsHeaderLine}
use Rattle.pb_lines.specs.Sample.{IsSampleLine}
use Rattle.pb_lines.specs.Stream.{Item, header, sample, chunk_end, Section, Stop, IsStream, Skips, Gives, Fails, first_section, within, between}

-- The reader of lines below, whether its last line is still to be taken, where that line or the next stands, and the refusal for good.
pub record Chunks : Type 0 where
  pub lines : LineReader
  pub pending : Bool
  pub section : Section
  pub refused : Option ChunkFault

-- what is still to come; a line that is still to be taken is the first of it
abbrev pub to_come : Chunks → Option (List ℕ) → Option (List ℕ)
to_come c left = if c.pending then prepend_known (c.lines.line ++ 10 ∷ []) (ahead c.lines left) else ahead c.lines left

-- how many lines and bytes were taken
abbrev pub lines_taken : Chunks → ℕ
lines_taken c = if c.pending then c.lines.number - 1 else c.lines.number

abbrev pub bytes_taken : Chunks → ℕ
bytes_taken c = if c.pending then c.lines.passed - (length c.lines.line + 1) else c.lines.passed

-- The bytes still to come are a stream of these items up to this stop
abbrev pub Holds : Chunks → List ℕ → List Item → Stop → Type 0
Holds c bytes items stop = IsStream c.section (lines_taken c) (bytes_taken c) bytes items stop

-- Told bytes went from xs to ys, and with them these items: whatever is still to come then, came behind them before.
abbrev pub Passes : Chunks → Chunks → Option (List ℕ) → Option (List ℕ) → List Item → Type 0
Passes old new None after items = Unit {0}
Passes old new (Some xs) None items = ⊥
Passes old new (Some xs) (Some ys) items = (rest : List Item) (stop : Stop) → Holds new ys rest stop → Holds old xs (items ++ rest) stop

-- The told bytes are a stream of no more items up to this stop.
abbrev pub Stops : Chunks → Option (List ℕ) → Stop → Type 0
Stops old before stop = IfSome before (λ xs. Holds old xs [] stop)

-- the number of the line that was read last, or of the bad line
abbrev pub line_number : Chunks → ℕ
line_number c = number_at c.refused
  where
    number_at : Option ChunkFault → ℕ
    number_at None = c.lines.number
    number_at (Some (fault.BadHeader f)) = c.lines.number
    number_at (Some (fault.BadLine f)) = c.lines.number
    number_at (Some _) = c.lines.number + 1

-- It falls with each item and each line that is skipped.
abbrev pub work_left : Chunks → ℕ
work_left c = 2 * (max_input - bytes_taken c) + (if is_some c.section.chunk then 1 else 0)

-- What a call came to, by what was still to come before it and after it.
abbrev pub ReadsItem : Chunks → Chunks → Option (List ℕ) → Option (List ℕ) → ChunkItem → Type 0
ReadsItem old new before after it.Header =
    (info : PayloadInfo) × (new.section ≡ within info) × Passes old new before after (header info new.lines.line ∷ []) × (new.refused ≡ None) × (work_left new < work_left old) × (old.section.chunk ≡ None)
ReadsItem old new before after (it.Sample t) =
    (new.section ≡ old.section) × Passes old new before after (sample (record { t = t; line = new.lines.line }) ∷ []) × (new.refused ≡ None) × (work_left new < work_left old) × IsSome old.section.chunk
ReadsItem old new before after it.ChunkEnd =
    (new.section ≡ between) × Passes old new before after (chunk_end ∷ []) × (new.refused ≡ None) × (work_left new < work_left old) × IsSome old.section.chunk
ReadsItem old new before after it.End =
    (new.section ≡ old.section) × Passes old new before after [] × Stops old before None × (new.refused ≡ None)
ReadsItem old new before after (it.Refused f) =
    (new.section ≡ old.section) × Stops old before (Some (line_number new, f)) × (new.refused ≡ Some f)
ReadsItem old new before after it.SourceFault = (new.section ≡ old.section) × Passes old new before after [] × (new.refused ≡ None)
ReadsItem old new before after it.Memory = (new.section ≡ old.section) × Passes old new before after [] × (new.refused ≡ None)

-- What one line came to: an item, or a line was skipped.
abbrev pub ReadsLine : Chunks → Chunks → Option (List ℕ) → Option (List ℕ) → Option ChunkItem → Type 0
ReadsLine old new before after None = (new.section ≡ old.section) × Passes old new before after [] × (new.refused ≡ None) × (work_left new < work_left old)
ReadsLine old new before after (Some item) = ReadsItem old new before after item

-- One line was taken behind n lines of p bytes, or none was.
pub record TakesOne (n p : ℕ) (new : Chunks) : Type 0 where
  pub lines : lines_taken new ≡ n + 1
  pub bytes : bytes_taken new ≡ p + length new.lines.line + 1
  pub number : new.lines.number ≡ n + 1

pub record TakesNone (n p : ℕ) (new : Chunks) : Type 0 where
  pub lines : lines_taken new ≡ n
  pub bytes : bytes_taken new ≡ p

-- The lines that one item takes behind n lines of p bytes, over any source: at a skipped line, a header, a sample and a bad line the
-- one that was read last, and at a chunk's end none where the stream ends.
abbrev pub Counts : ℕ → ℕ → Chunks → Option ChunkItem → Type 0
Counts n p new None = TakesOne n p new × (new.lines.line ≡ [])
Counts n p new (Some it.Header) = TakesOne n p new
Counts n p new (Some (it.Sample t)) = TakesOne n p new
Counts n p new (Some it.ChunkEnd) = TakesNone n p new ⊎ (TakesOne n p new × (new.lines.line ≡ []))
Counts n p new (Some it.End) = TakesNone n p new
Counts n p new (Some (it.Refused (fault.BadHeader f))) = TakesOne n p new
Counts n p new (Some (it.Refused (fault.BadLine f))) = TakesOne n p new
Counts n p new (Some (it.Refused _)) = TakesNone n p new
Counts n p new (Some it.SourceFault) = TakesNone n p new
Counts n p new (Some it.Memory) = TakesNone n p new

-- The same behind some skipped lines, each of which is empty.
abbrev pub CountsOn : Chunks → Chunks → ChunkItem → Type 0
CountsOn old new item = (skipped : ℕ) × Counts (lines_taken old + skipped) (bytes_taken old + skipped) new (Some item)

-- What a line is, over any source: a header, or a sample of its chunk's type and year at the moment that is told, no longer than a
-- line may be.
abbrev pub IsLineOf : Chunks → ChunkItem → Type 0
IsLineOf new it.Header = (info : PayloadInfo) × (new.section.chunk ≡ Some info) × IsHeaderLine new.lines.line info
IsLineOf new (it.Sample t) = (info : PayloadInfo) × (new.section.chunk ≡ Some info) × HasNoNewline new.lines.line × IsSampleLine info.ty info.year new.lines.line t × (length new.lines.line ≤ max_line)
IsLineOf new _ = Unit {0}

-- a reader that has read nothing
abbrev pub IsFresh : Chunks → Type 0
IsFresh c = c ≡ record { lines = record { held = []; passed = 0; line = []; number = 0; stop = None }; pending = false; section = first_section; refused = None }

-- The next line is known without a read.
abbrev pub HoldsLine : Chunks → Type 0
HoldsLine c = IsSome c.refused ⊎ (IsTrue c.pending ⊎ HoldsAnswer c.lines)

-- The last line of a reader was just given.
pub record HasLine (r : LineReader) : Type 0 where
  pub whole : All (λ x. x ≢ 10) r.line
  pub short : length r.line ≤ max_line
  pub number : 1 ≤ r.number
  pub room : length r.line + 1 ≤ r.passed
  pub bound : r.passed ≤ max_input

-- A reader that isn't refused goes on, and a line that is to be taken is the last one.
pub record IsReady (r : LineReader) (pending : Bool) (refused : Option ChunkFault) : Type 0 where
  pub goes_on : refused ≡ None → r.stop ≡ None
  pub line : IsTrue pending → HasLine r

-- A line is to be taken, and all else is as before.
pub record Fetches (old new : Chunks) (before after : Option (List ℕ)) : Type 0 where
  pub pending : IsTrue new.pending
  pub line : HasLine new.lines
  pub section : new.section ≡ old.section
  pub refused : new.refused ≡ None
  pub lines : lines_taken new ≡ lines_taken old
  pub bytes : bytes_taken new ≡ bytes_taken old
  pub kept : Keeps before after

-- what the end of the stream comes to
abbrev pub EndsStream : Chunks → Chunks → ChunkItem → Type 0
EndsStream old new it.ChunkEnd = IsSome old.section.chunk × (new ≡ record old { section = between })
EndsStream old new it.End = (old.section.chunk ≡ None) × (old.section.begun ≡ true) × (new ≡ old)
EndsStream old new (it.Refused fault.NoHeader) = (old.section.chunk ≡ None) × (old.section.begun ≡ false) × (new ≡ record old { refused = Some fault.NoHeader })
EndsStream old new _ = ⊥

-- what the line that is to be taken comes to
abbrev pub TakesLine : Chunks → Chunks → Option ChunkItem → Type 0
TakesLine old new None = Skips old.section old.lines.line × (new ≡ record old { pending = false })
TakesLine old new (Some it.Header) =
    (info : PayloadInfo) × Gives old.section old.lines.line (header info old.lines.line) (within info) × (new ≡ record old { pending = false; section = within info })
TakesLine old new (Some (it.Sample t)) =
    Gives old.section old.lines.line (sample (record { t = t; line = old.lines.line })) old.section × (new ≡ record old { pending = false })
TakesLine old new (Some it.ChunkEnd) = Gives old.section old.lines.line chunk_end between × (new ≡ record old { pending = false; section = between })
TakesLine old new (Some (it.Refused f)) = Fails old.section old.lines.line f × (new ≡ record old { pending = false; refused = Some f })
TakesLine old new (Some it.Memory) = new ≡ old
TakesLine old new _ = ⊥
