-- OpenPiece: a pin's owner opens one of its pieces. The reader shows just the bytes that were pinned, whatever has become of the file.
use Rattle.std.specs.FinMap.{get}
use Rattle.std.specs.Prelude.{◌≡◌, ℕ, ◌+◌, ◌≤◌, List, [], ◌∷◌, ◌++◌, length, true, Some, None, slice_get}
use Rattle.disk_model.specs.Files.{Name, Rose}
use Rattle.partition_names.specs.Path.{path_of}
use Rattle.series_model.specs.declared.sample.Sample.{Sample}
use Rattle.act_model.specs.Limbo.{RowFile}
use Rattle.act_model.specs.Machine.{Machine, PinState}
use Rattle.act_model.specs.Outcome.{Same}
use Rattle.act_model.specs.Reply.{Reply, OpenedFile}
use Rattle.act_model.specs.Rows.{RowState}
use Rattle.act_model.specs.Rule.{index_of}
use Rattle.act_model.specs.Unpin.{pin_refused}
use Rattle.act_model.specs.declared.acts.Answer.TheVariants.{NoPiece, Piece, DiskFault, Memory}

-- the bytes of a piece: the line of its header, and the lines of its samples
abbrev pub lines_of : List Sample → List ℕ
lines_of [] = []
lines_of (s ∷ rest) = s.line ++ 10 ∷ lines_of rest

abbrev pub bytes_of : RowFile → List ℕ
bytes_of f = f.head ++ 10 ∷ lines_of f.samples

-- a reader of exactly this piece
pub record Shows (f : RowFile) (reader : OpenedFile) (head_len len : ℕ) : Type 0 where
  pub tells : reader.tells ≡ true
  pub bytes : reader.bytes ≡ bytes_of f
  pub head_is : head_len ≡ length f.head + 1
  pub len_is : len ≡ length (bytes_of f)

-- the name of its file: the number of its store, and the path of its row's key and its partition
abbrev pub name_of : RowState → RowFile → Name
name_of row f = (index_of f.store + 1, path_of row.name f.part.name)

-- the piece's file has this name
abbrev pub IsNamed : Machine → RowFile → Name → Type 0
IsNamed m f name = (row : RowState) → slice_get m.rows f.row ≡ Some row → name ≡ name_of row f

-- how a piece is opened: a refusal, the piece, a counted fault, or want of memory
pub data Opens (who pin i : ℕ) : Machine → Reply → Machine → Type 0 where
  -- no such pin, or another's
  refused_open : {old : Machine} (reply : Reply) → pin_refused who (get old.pins pin) ≡ Some reply → Opens who pin i old reply old
  -- the pin has no such piece
  no_piece : {old : Machine} (p : PinState) → get old.pins pin ≡ Some p → p.owner ≡ who → slice_get p.pieces i ≡ None
      → Opens who pin i old (NoPiece (length p.pieces)) old
  -- the reader shows the piece, has that many bytes at least, and no fault yet
  opens : {old new : Machine} (p : PinState) (piece : RowFile) (reader : OpenedFile) (name : Name) (head_len len : ℕ)
      → get old.pins pin ≡ Some p → p.owner ≡ who → slice_get p.pieces i ≡ Some piece
      → reader.faults ≡ 0 → (old.told ≡ true → Shows piece reader head_len len) → (old.told ≡ true → IsNamed old piece name)
      → (reader.tells ≡ true → len ≤ length reader.bytes) → Same old new
      → old.faults ≤ new.faults
      → Opens who pin i old (Piece reader name head_len len) new
  faults_opening : {old new : Machine} (p : PinState) (piece : RowFile) → get old.pins pin ≡ Some p → p.owner ≡ who
      → slice_get p.pieces i ≡ Some piece → Same old new → Rose old.faults new.faults → Opens who pin i old DiskFault new
  wants_memory_opening : {old new : Machine} → Same old new → old.faults ≤ new.faults → Opens who pin i old Memory new
