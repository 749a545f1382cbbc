-- A raw stream: lines, which are headers, samples and empty lines that end chunks, up to the first bad line.
use Rattle.std.specs.Prelude.{◌≡◌, ◌≢◌, ◌⊎◌, ℕ, ◌+◌, ◌<◌, ◌≤◌, List, [], ◌∷◌, ◌++◌, All, Option, Some, None, Bool, true, false, ◌==◌, length, count_by, if◌then◌else◌}
use Rattle.series_model.specs.declared.sample.Sample.{Sample}
use Rattle.pb_messages.specs.declared.info.PayloadInfo.{PayloadInfo}
use Rattle.edge_io.specs.Lines.{IsTorn, IsTooLong, IsInputTooLong, max_input, max_line}
use Rattle.edge_io.specs.declared.lines.LineRead.{LineRead}
use Rattle.edge_io.specs.declared.lines.LineRead.TheVariants.{End, Torn, TooLong, InputTooLong}
use Rattle.pb_lines.specs.declared.fault.ChunkFault.{ChunkFault}
use Rattle.pb_lines.specs.declared.fault.ChunkFault.TheVariants as fault
use Rattle.pb_lines.specs.Sample.{IsSampleLine, IsLineFault}
use Rattle.pb_lines.specs.Header.{IsHeaderLine, IsHeadFault}

-- LINES

-- How a stream goes on behind its last whole line, of which p bytes were before: it ends there or within a line, or a line or the stream is too long.
abbrev pub IsEnding : ℕ → List ℕ → LineRead → Type 0
IsEnding p rest End = (rest ≡ []) × (p < max_input)
IsEnding p rest Torn = IsTorn p rest
IsEnding p rest TooLong = IsTooLong p rest
IsEnding p rest InputTooLong = IsInputTooLong p rest
IsEnding p rest _ = ⊥

-- The bytes, of which p were before, are these lines, each with its newline, and an ending.
abbrev pub IsLines : ℕ → List ℕ → List (List ℕ) → LineRead → Type 0
IsLines p bytes [] ending = IsEnding p bytes ending
IsLines p bytes (line ∷ lines) ending =
    (rest : List ℕ) × (bytes ≡ line ++ 10 ∷ rest) × All (λ x. x ≢ 10) line × (length line ≤ max_line) × (p + length line + 1 ≤ max_input) × IsLines (p + length line + 1) rest lines ending

-- ITEMS

-- what a stream holds: headers and samples with their lines, and the ends of chunks
pub data Item : Type 0 where
  header : (info : PayloadInfo) → (line : List ℕ) → Item
  sample : Sample → Item
  chunk_end : Item

-- Where a line stands: whether a header came before, and the header of the chunk that it stands in.
pub record Section : Type 0 where
  pub begun : Bool
  pub chunk : Option PayloadInfo

-- before any header, in the chunk of a header, and between two chunks
abbrev pub first_section : Section
first_section = record { begun = false; chunk = None }

abbrev pub within : PayloadInfo → Section
within info = record { begun = true; chunk = Some info }

abbrev pub between : Section
between = record { begun = true; chunk = None }

-- an empty line outside a chunk
abbrev pub Skips : Section → List ℕ → Type 0
Skips s line = (s.chunk ≡ None) × (line ≡ [])

-- The line gives the item, and the next line stands in the section behind it.
abbrev pub Gives : Section → List ℕ → Item → Section → Type 0
Gives s line (header info text) behind = (s.chunk ≡ None) × (line ≢ []) × IsHeaderLine line info × (text ≡ line) × (behind ≡ within info)
Gives s line (sample x) behind = (info : PayloadInfo) × (s.chunk ≡ Some info) × (line ≢ []) × IsSampleLine info.ty info.year line x.t × (x.line ≡ line) × (behind ≡ s)
Gives s line chunk_end behind = (info : PayloadInfo) × (s.chunk ≡ Some info) × (line ≡ []) × (behind ≡ between)

-- the line is bad by this fault
abbrev pub Fails : Section → List ℕ → ChunkFault → Type 0
Fails s line (fault.BadHeader head) = (s.chunk ≡ None) × (line ≢ []) × IsHeadFault line head
Fails s line (fault.BadLine f) = (info : PayloadInfo) × (s.chunk ≡ Some info) × (line ≢ []) × IsLineFault info.ty info.year line f
Fails s line _ = ⊥

-- a bad line's number, and its fault
abbrev pub Stop : Type 0
Stop = Option (ℕ × ChunkFault)

-- At its end a stream ends the chunk that it stands in; without any header it is refused, with the number after the last line.
abbrev pub EndsWell : Section → ℕ → List Item → Stop → Type 0
EndsWell s n items stop =
    ((info : PayloadInfo) × (s.chunk ≡ Some info) × (items ≡ chunk_end ∷ []) × (stop ≡ None))
    ⊎ ((s.chunk ≡ None) × (items ≡ []) × (stop ≡ (if s.begun then None else Some (n + 1, fault.NoHeader))))

-- what is read at the ending behind n lines
abbrev pub Ends : Section → ℕ → LineRead → List Item → Stop → Type 0
Ends s n End items stop = EndsWell s n items stop
Ends s n Torn items stop = (items ≡ []) × (stop ≡ Some (n + 1, fault.Torn))
Ends s n TooLong items stop = (items ≡ []) × (stop ≡ Some (n + 1, fault.LineTooLong))
Ends s n InputTooLong items stop = (items ≡ []) × (stop ≡ Some (n + 1, fault.InputTooLong))
Ends s n _ items stop = ⊥

-- Lines behind n others give these items: each is skipped, gives an item, or is the first bad one.
abbrev pub IsItems : Section → ℕ → List (List ℕ) → LineRead → List Item → Stop → Type 0
IsItems s n [] ending items stop = Ends s n ending items stop
IsItems s n (line ∷ lines) ending items stop =
    (Skips s line × IsItems s (n + 1) lines ending items stop)
    ⊎ (((item : Item) × (behind : Section) × (rest : List Item) × Gives s line item behind × (items ≡ item ∷ rest) × IsItems behind (n + 1) lines ending rest stop)
    ⊎ ((f : ChunkFault) × Fails s line f × (items ≡ []) × (stop ≡ Some (n + 1, f))))

-- In a section, behind n lines of p bytes, the bytes are a stream of these items up to this stop.
pub record IsStream (s : Section) (n p : ℕ) (bytes : List ℕ) (items : List Item) (stop : Stop) : Type 0 where
  pub lines : List (List ℕ)
  pub ending : LineRead
  pub cut : IsLines p bytes lines ending
  pub read : IsItems s n lines ending items stop

-- a whole stream
abbrev pub IsWholeStream : List ℕ → List Item → Stop → Type 0
IsWholeStream bytes items stop = IsStream first_section 0 0 bytes items stop

-- REFUSALS

-- how many newlines stand in the bytes
abbrev pub newline_count : List ℕ → ℕ
newline_count bytes = count_by (λ x. x == 10) bytes

-- A refusal that doesn't wait for more bytes: that of a bad line, or of a line or a stream that is too long.
abbrev pub IsFinal : ChunkFault → Type 0
IsFinal fault.NoHeader = ⊥
IsFinal fault.Torn = ⊥
IsFinal _ = Unit {0}
