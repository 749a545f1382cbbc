-- What an act leaves: what a crash at any moment within it may leave, what becomes of the files on the disk, which files the pieces of pins
-- are, which file a step of a move tells as damaged, and for what memory was wanting. It is said of every archive, also of one whose listed files somebody else has damaged.
use Rattle.std.specs.FinMap.{get}
use Rattle.std.specs.Prelude.{◌≡◌, ◌≤◌, ℕ, ◌+◌, ◌-◌, Bool, List, [], All, Contains, length, take, IsTrue, Some, slice_get}
use Rattle.disk_model.specs.Files.{Name, HasFile}
use Rattle.disk_model.specs.Past.{Passes}
use Rattle.etl_mover.specs.Move.{Moving}
use Rattle.pins.specs.Pieces.{PinOf}
use Rattle.pins.specs.declared.piece.PinnedFile.{PinnedFile}
use Rattle.pv_catalog.specs.Lines.{line}
use Rattle.pv_catalog.specs.Rows.{HasName}
use Rattle.moves.specs.Table.{at as move_at}
use Rattle.moves.specs.declared.table.Running.{Running}
use Rattle.store_manifest.specs.Manifest.{ManifestState}
use Rattle.store_manifest.specs.declared.entry.Entry.{Entry as FileEntry}
use Rattle.durable_write.specs.Held.{file_of}
use Rattle.tier_store.specs.Limbo.{IsKeptName}
use Rattle.tier_store.specs.Pinned.{SeenAll, beside, LeavesFronts, Shows}
use Rattle.tier_store.specs.Pinning.{piece_of}
use Rattle.tier_store.specs.Seen.{Seen, IsSettled}
use Rattle.act_model.specs.History.{Entry}
use Rattle.act_model.specs.Machine.{Machine}
use Rattle.act_model.specs.Reply.{Reply, OpenedFile}
use Rattle.act_model.specs.Step.{refuse_by, change_by}
use Rattle.act_model.specs.declared.acts.Act.{Act}
use Rattle.act_model.specs.declared.acts.Act.TheVariants.{Register, Pause, Resume, Rename, Flush, MoveStep, Sweep, Pin, OpenPiece}
use Rattle.act_model.specs.declared.acts.Answer.TheVariants.{Damaged, Memory, Pinned, Piece}
use Rattle.archive_core.specs.Ends.{LeavesByAct}
use Rattle.archive_core.specs.Parts.{Parts}
use Rattle.archive_core.specs.Stands.{Stands}
use Rattle.archive_core.specs.Wanting.{Wants}
use Rattle.tier_store.specs.Finding.{IsBadPart}

-- THE FILES

-- an archive's stores with the files that are in limbo
abbrev pub files_of : Parts → SeenAll
files_of p = beside p.at p.limbo

-- The disk was only read, but for what the settling of a doubt changes in the files of a journal: whatever is listed or in limbo stays. Where
-- nothing stood in doubt, none does then; reads give what they gave, and a crash leaves what it might have left before.
pub record ReadsAlone (tells : Bool) (p q : Parts) : Type 0 where
  pub fronts : LeavesFronts tells (files_of p) (files_of q)
  pub quiet : IsSettled p.at → IsSettled q.at × (IsTrue tells → (q.at.files ≡ p.at.files) × Passes (λ a b. b ≡ a) p.at.past q.at.past)

-- whatever a store lists then or a pin names, and was shown, is shown still
abbrev pub KeepsListed : Bool → Parts → Parts → Type 0
KeepsListed tells p q = (name : Name) (bytes : List ℕ) → IsKeptName q.at p.pinned [] name → Shows tells (files_of p) name bytes → Shows tells (files_of q) name bytes

-- A change of rows and a flush leave whatever is listed or in limbo. A step of a move and a sweep may take files away that no store lists then and no
-- pin names. Every other act settles a doubt and only reads the disk, if it calls it at all.
abbrev pub LeavesFiles : Bool → Act → Parts → Parts → Type 0
LeavesFiles tells (Register name about) p q = LeavesFronts tells (files_of p) (files_of q)
LeavesFiles tells (Pause name) p q = LeavesFronts tells (files_of p) (files_of q)
LeavesFiles tells (Resume name) p q = LeavesFronts tells (files_of p) (files_of q)
LeavesFiles tells (Rename name newname) p q = LeavesFronts tells (files_of p) (files_of q)
LeavesFiles tells (Flush limit) p q = LeavesFronts tells (files_of p) (files_of q)
LeavesFiles tells (MoveStep m) p q = KeepsListed tells p q
LeavesFiles tells Sweep p q = KeepsListed tells p q
LeavesFiles tells _ p q = ReadsAlone tells p q

-- THE PIECES OF PINS

-- what is pinned is all that a manifest lists of a file of the row that has the name, or of one under it, as of a variable that was renamed
pub record IsPieceOfRow (at : Seen) (name : List ℕ) (piece : PinnedFile) : Type 0 where
  pub place : ℕ
  pub manifest : ManifestState
  pub here : slice_get at.manifests place ≡ Some manifest
  pub entry : FileEntry
  pub listed : Contains manifest.entries entry
  pub row : ℕ
  pub named : HasName at.catalogue.rows row name
  pub among : Contains (line at.catalogue.rows row) entry.series
  pub is : piece ≡ piece_of at.catalogue.rows (record { store = place + 1; entry = entry })

-- A pin of this number was made of files of the row that has the name, and of those under it. Where nothing stood in doubt, the rows and the
-- lists are what they were.
pub record PinsFiles (p : Parts) (name : List ℕ) (pin : ℕ) (q : Parts) : Type 0 where
  pub own : PinOf
  pub made : get q.pinned pin ≡ Some own
  pub pieces : All (IsPieceOfRow q.at name) own.pieces
  pub same_lists : IsSettled p.at → (q.at.catalogue ≡ p.at.catalogue) × (q.at.manifests ≡ p.at.manifests)

-- A piece of a pin was opened: it has the name and the length that were pinned, and its reader tells just so many first bytes of the file.
pub record OpensFile (tells : Bool) (p : Parts) (pin i : ℕ) (reader : OpenedFile) (name : Name) (len : ℕ) : Type 0 where
  pub own : PinOf
  pub there : get p.pinned pin ≡ Some own
  pub piece : PinnedFile
  pub here : slice_get own.pieces i ≡ Some piece
  pub named : name ≡ piece.name
  pub len_is : len ≡ piece.len
  pub told : IsTrue tells → IsTrue reader.tells × (length reader.bytes ≡ len)
  pub bytes : IsTrue tells → HasFile p.at.files name (λ b. reader.bytes ≡ take len b)

-- what is known of the pieces of a pin that is made, and of a piece that is opened; that changes no pin
abbrev pub LeavesPins : Bool → Parts → Act → Reply → Parts → Type 0
LeavesPins tells p (Pin name query) (Pinned pin told about count tail) q = PinsFiles p name pin q
LeavesPins tells p (OpenPiece pin i) (Piece reader name head_len len) q = (q.pinned ≡ p.pinned) × OpensFile tells p pin i reader name len
LeavesPins tells p (OpenPiece pin i) _ q = q.pinned ≡ p.pinned
LeavesPins tells p _ _ q = Unit {0}

-- THE FILE THAT A STEP OF A MOVE TELLS AS DAMAGED

-- A step of the move of this number tells a file as damaged at a place. It is the file of a part of that move: the manifest of the store that the
-- move takes its parts from lists it as a file of the move's row and of the part's partition, and the place is not beyond the length that is
-- listed of it. No line of a sample begins there, or the file has no header. Nothing stands in doubt then, and where nothing did before the act,
-- the rows and that list are what they were.
pub record TellsDamage (tells : Bool) (p : Parts) (number : ℕ) (name : Name) (place : ℕ) (q : Parts) : Type 0 where
  pub running : Running Moving
  pub ran : move_at p.slots number ≡ Some running
  pub part : FileEntry
  pub of_move : Contains running.moving.parts part
  pub manifest : ManifestState
  pub here : slice_get q.at.manifests (running.store - 1) ≡ Some manifest
  pub entry : FileEntry
  pub listed : Contains manifest.entries entry
  pub own_row : entry.series ≡ running.series
  pub own_part : entry.part ≡ part.part
  pub named : name ≡ file_of (running.store, q.at.catalogue.rows) entry
  pub within : place ≤ entry.len
  pub bad : IsTrue tells → HasFile q.at.files name (λ b. IsBadPart entry.head_len (take entry.len b) place)
  pub numbered : 1 ≤ running.store
  pub settled : IsSettled q.at
  pub same_rows : IsSettled p.at → q.at.catalogue.rows ≡ p.at.catalogue.rows
  pub same_list : IsSettled p.at → (before : ManifestState) → slice_get p.at.manifests (running.store - 1) ≡ Some before → manifest.entries ≡ before.entries

-- what is known of the file that a step of a move tells as damaged
abbrev pub LeavesMove : Bool → Parts → Act → Reply → Parts → Type 0
LeavesMove tells p (MoveStep m) answer q = (name : Name) (place : ℕ) → answer ≡ Damaged name place → TellsDamage tells p m name place q
LeavesMove tells p _ answer q = Unit {0}

-- WANT OF MEMORY

-- Where memory was wanting for an act, it was so from whatever the archive stood for, and the archive stands for what is left of that.
abbrev pub LeavesWanting : Bool → Parts → Entry → Parts → Type 0
LeavesWanting tells p e q = e.answer ≡ Memory → (m : Machine) → Stands tells p m → (n : Machine) × Wants e.who e.act m n × Stands tells q n

-- THE ACT

pub record Leaves (tells : Bool) (p : Parts) (e : Entry) (q : Parts) : Type 0 where
  pub crash : LeavesByAct tells (refuse_by e.act) (change_by e.act) p q
  pub files : LeavesFiles tells e.act p q
  pub pins : LeavesPins tells p e.act e.answer q
  pub moves : LeavesMove tells p e.act e.answer q
  pub memory : LeavesWanting tells p e q
