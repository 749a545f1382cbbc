-- Pieces: files, or fronts of files, that are read one after another, and what the opening of the next one shows of them.
use Rattle.std.specs.Prelude.{◌≡◌, ℕ, ◌+◌, ◌≤◌, List, [], ◌∷◌, length, take}
use Rattle.disk_model.specs.Files.{Name}
use Rattle.series_model.specs.declared.sample.Sample.{Sample}
use Rattle.pb_messages.specs.declared.info.PayloadInfo.{PayloadInfo}
use Rattle.pb_lines.specs.File.{IsFile}
use Rattle.stream_merge.specs.declared.pieces.Opened.{Opened}
use Rattle.stream_merge.specs.declared.pieces.Opened.TheVariants.{Piece, NoMore, ReadFault, Spent, Memory}

-- the name of a file, and the bytes of it that are the piece
pub record NamedBytes : Type 0 where
  pub name : Name
  pub bytes : List ℕ

-- where the bytes are a file, its header's line with its newline has this length
abbrev pub IsHeadLen : ℕ → List ℕ → Type 0
IsHeadLen n bytes = (head : List ℕ) (info : PayloadInfo) (samples : List Sample) → IsFile bytes head info samples → n ≡ length head + 1

-- the first piece was opened, and the others are left
pub record OpensPiece {R : Type 0} (bytes : R → List ℕ) (left : List NamedBytes → Type 0) (pieces : List NamedBytes) (reader : R) (name : Name) (head_len len : ℕ) : Type 0 where
  pub rest : List NamedBytes
  pub first : pieces ≡ record { name = name; bytes = take len (bytes reader) } ∷ rest
  pub head : IsHeadLen head_len (take len (bytes reader))
  pub others : left rest

-- of these pieces the first was opened, or there was none; otherwise they are left
abbrev pub Opens : {R : Type 0} → (R → List ℕ) → (List NamedBytes → Type 0) → List NamedBytes → Opened R → Type 0
Opens {R} bytes left pieces (Piece reader name head_len len) = OpensPiece bytes left pieces reader name head_len len
Opens {R} bytes left pieces NoMore = (pieces ≡ []) × left []
Opens {R} bytes left pieces ReadFault = left pieces
Opens {R} bytes left pieces Spent = left pieces
Opens {R} bytes left pieces Memory = left pieces

-- the reader of a piece has the bytes of it
abbrev pub HasBytes : {R : Type 0} → (R → List ℕ) → Opened R → Type 0
HasBytes {R} bytes (Piece reader name head_len len) = len ≤ length (bytes reader)
HasBytes {R} bytes _ = Unit {0}

-- the reader of a piece hasn't failed yet
abbrev pub HasNoFault : {R : Type 0} → (R → ℕ) → Opened R → Type 0
HasNoFault {R} faults (Piece reader name head_len len) = faults reader ≡ 0
HasNoFault {R} faults _ = Unit {0}

-- how many pieces are left: one fewer where one was opened
abbrev pub Counts : {R : Type 0} → ℕ → ℕ → Opened R → Type 0
Counts {R} before now (Piece reader name head_len len) = before ≡ now + 1
Counts {R} before now _ = now ≡ before

-- why an opening failed: its read did, no act was left for it, or memory ran out
pub data Failure : Type 0 where
  Faulted : Failure
  OutOfActs : Failure
  OutOfMemory : Failure

-- What an opening did. `opened` has the pieces that were opened with no failure between; `failed` says that an opening failed.
abbrev pub Leads : {P R : Type 0} → (R → List ℕ) → (P → List NamedBytes → P → Type 0) → (P → Failure → P → Type 0) → P → Opened R → P → Type 0
Leads {P} {R} bytes opened failed old (Piece reader name head_len len) new = opened old (record { name = name; bytes = take len (bytes reader) } ∷ []) new
Leads {P} {R} bytes opened failed old NoMore new = opened old [] new
Leads {P} {R} bytes opened failed old ReadFault new = failed old Faulted new
Leads {P} {R} bytes opened failed old Spent new = failed old OutOfActs new
Leads {P} {R} bytes opened failed old Memory new = failed old OutOfMemory new
