-- What a history keeps of an answer. It is the answer itself, but for an opened file: of that a history keeps what it is made of, whether
-- it tells its bytes, those bytes, and how often it has failed.
use Rattle.std.specs.Prelude.{ℕ, List, Bool}
use Rattle.act_model.specs.declared.acts.Answer.{Answer}
use Rattle.act_model.specs.declared.acts.Answer.TheVariants.{NameTaken, KeyTaken, CatalogueFull, Registered, NoSuchVariable, NotRunning, NotPaused, Done, RenameNotPaused, NotDurable, Renamed, Dropped, IntakeFull, Kept, Held, NoRow, TickNone, NotDue, TickKept, Flushed, Begun, Busy, Nothing, NoMove, Damaged, Copying, Copied, Published, Retired, Again, Swept, Pinned, NoPin, NotYours, NoPiece, Piece, Unpinned, NamesAre, Described, DoorsLeft, DiskFault, Memory}

-- an opened file as a history keeps it
pub record OpenedFile : Type 0 where
  pub tells : Bool
  pub bytes : List ℕ
  pub faults : ℕ

abbrev pub Reply : Type 0
Reply = Answer OpenedFile

-- the answer with what is kept of its reader, if it has one
abbrev pub with_reader : {R S : Type 0} → (R → S) → Answer R → Answer S
with_reader see (Piece reader name head_len len) = Piece (see reader) name head_len len
with_reader see (NameTaken row) = NameTaken row
with_reader see (KeyTaken row) = KeyTaken row
with_reader see CatalogueFull = CatalogueFull
with_reader see (Registered row) = Registered row
with_reader see NoSuchVariable = NoSuchVariable
with_reader see NotRunning = NotRunning
with_reader see NotPaused = NotPaused
with_reader see Done = Done
with_reader see (RenameNotPaused state change seen) = RenameNotPaused state change seen
with_reader see (NotDurable last durable) = NotDurable last durable
with_reader see (Renamed row) = Renamed row
with_reader see (Dropped reason) = Dropped reason
with_reader see (IntakeFull held) = IntakeFull held
with_reader see Kept = Kept
with_reader see Held = Held
with_reader see NoRow = NoRow
with_reader see TickNone = TickNone
with_reader see (NotDue due) = NotDue due
with_reader see (TickKept t) = TickKept t
with_reader see (Flushed samples left doors) = Flushed samples left doors
with_reader see (Begun m row parts) = Begun m row parts
with_reader see (Busy m) = Busy m
with_reader see (Nothing doors) = Nothing doors
with_reader see NoMove = NoMove
with_reader see (Damaged name at) = Damaged name at
with_reader see Copying = Copying
with_reader see Copied = Copied
with_reader see Published = Published
with_reader see (Retired parts) = Retired parts
with_reader see (Again len copied) = Again len copied
with_reader see (Swept files) = Swept files
with_reader see (Pinned pin name about pieces tail) = Pinned pin name about pieces tail
with_reader see NoPin = NoPin
with_reader see (NotYours owner) = NotYours owner
with_reader see (NoPiece pieces) = NoPiece pieces
with_reader see Unpinned = Unpinned
with_reader see (NamesAre names more) = NamesAre names more
with_reader see (Described details) = Described details
with_reader see (DoorsLeft doors) = DoorsLeft doors
with_reader see DiskFault = DiskFault
with_reader see Memory = Memory

-- the answer as a history keeps it, by the meanings of its reader
abbrev pub reply_of : {R : Type 0} → Bool → (R → List ℕ) → (R → ℕ) → Answer R → Reply
reply_of tells bytes faults answer = with_reader (λ r. record { tells = tells; bytes = bytes r; faults = faults r }) answer
