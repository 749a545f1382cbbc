-- Which answers an act may have. Each act is answered by its own answers alone; all but Unpin and the two acts on doors may want
-- memory, and those that touch files may fail.
use Rattle.std.specs.Prelude.{◌≡◌, ℕ, List, Bool, true, false}
use Rattle.act_model.specs.declared.acts.Act.{Act}
use Rattle.act_model.specs.declared.acts.Act.TheVariants.{Register, Pause, Resume, Rename, Offer, Tick, Flush, MoveBegin, MoveStep, Sweep, Pin, OpenPiece, Unpin, Names, Details, Doors, DoorDone}
use Rattle.act_model.specs.declared.acts.Answer.{Answer}
use Rattle.act_model.specs.declared.acts.Answer.TheVariants.{NameTaken, KeyTaken, CatalogueFull, Registered, NoSuchVariable, NotRunning, NotPaused, Done, RenameNotPaused, NotDurable, Renamed, Dropped, IntakeFull, Kept, Held, NoRow, TickNone, NotDue, TickKept, Flushed, Begun, Busy, Nothing, NoMove, Damaged, Copying, Copied, Published, Retired, Again, Swept, Pinned, NoPin, NotYours, NoPiece, Piece, Unpinned, NamesAre, Described, DoorsLeft, DiskFault, Memory}
use Rattle.act_model.specs.Reply.{Reply, reply_of}

abbrev pub answers_register : Reply → Bool
answers_register (NameTaken row) = true
answers_register (KeyTaken row) = true
answers_register CatalogueFull = true
answers_register DiskFault = true
answers_register (Registered row) = true
answers_register Memory = true
answers_register other = false

abbrev pub answers_pause : Reply → Bool
answers_pause NoSuchVariable = true
answers_pause NotRunning = true
answers_pause DiskFault = true
answers_pause Done = true
answers_pause Memory = true
answers_pause other = false

abbrev pub answers_resume : Reply → Bool
answers_resume NoSuchVariable = true
answers_resume NotPaused = true
answers_resume DiskFault = true
answers_resume Done = true
answers_resume Memory = true
answers_resume other = false

abbrev pub answers_rename : Reply → Bool
answers_rename NoSuchVariable = true
answers_rename (RenameNotPaused state change seen) = true
answers_rename (NameTaken row) = true
answers_rename (KeyTaken row) = true
answers_rename CatalogueFull = true
answers_rename (NotDurable last durable) = true
answers_rename DiskFault = true
answers_rename (Renamed row) = true
answers_rename Memory = true
answers_rename other = false

abbrev pub answers_offer : Reply → Bool
answers_offer (Dropped reason) = true
answers_offer (IntakeFull held) = true
answers_offer Kept = true
answers_offer Held = true
answers_offer Memory = true
answers_offer other = false

abbrev pub answers_tick : Reply → Bool
answers_tick NoRow = true
answers_tick TickNone = true
answers_tick (NotDue due) = true
answers_tick (Dropped reason) = true
answers_tick (IntakeFull held) = true
answers_tick (TickKept t) = true
answers_tick Memory = true
answers_tick other = false

abbrev pub answers_flush : Reply → Bool
answers_flush DiskFault = true
answers_flush (Flushed samples left doors) = true
answers_flush Memory = true
answers_flush other = false

abbrev pub answers_move_begin : Reply → Bool
answers_move_begin DiskFault = true
answers_move_begin (Begun m row parts) = true
answers_move_begin (Busy m) = true
answers_move_begin (Nothing doors) = true
answers_move_begin Memory = true
answers_move_begin other = false

abbrev pub answers_move_step : Reply → Bool
answers_move_step NoMove = true
answers_move_step DiskFault = true
answers_move_step (Damaged name at) = true
answers_move_step Copying = true
answers_move_step Copied = true
answers_move_step Published = true
answers_move_step (Retired parts) = true
answers_move_step (Again len copied) = true
answers_move_step Memory = true
answers_move_step other = false

abbrev pub answers_sweep : Reply → Bool
answers_sweep DiskFault = true
answers_sweep (Swept files) = true
answers_sweep Memory = true
answers_sweep other = false

abbrev pub answers_pin : Reply → Bool
answers_pin NoSuchVariable = true
answers_pin DiskFault = true
answers_pin (Pinned pin told about pieces tail) = true
answers_pin Memory = true
answers_pin other = false

abbrev pub answers_open_piece : Reply → Bool
answers_open_piece NoPin = true
answers_open_piece (NotYours owner) = true
answers_open_piece (NoPiece pieces) = true
answers_open_piece DiskFault = true
answers_open_piece (Piece reader name head_len len) = true
answers_open_piece Memory = true
answers_open_piece other = false

abbrev pub answers_unpin : Reply → Bool
answers_unpin NoPin = true
answers_unpin (NotYours owner) = true
answers_unpin Unpinned = true
answers_unpin other = false

abbrev pub answers_names : Reply → Bool
answers_names (NamesAre names more) = true
answers_names Memory = true
answers_names other = false

abbrev pub answers_details : Reply → Bool
answers_details NoSuchVariable = true
answers_details DiskFault = true
answers_details (Described details) = true
answers_details Memory = true
answers_details other = false

-- Doors and DoorDone alike
abbrev pub answers_doors : Reply → Bool
answers_doors (DoorsLeft doors) = true
answers_doors other = false

-- the table
abbrev pub is_answer_to : Act → Reply → Bool
is_answer_to (Register name about) = answers_register
is_answer_to (Pause name) = answers_pause
is_answer_to (Resume name) = answers_resume
is_answer_to (Rename name newname) = answers_rename
is_answer_to (Offer name ty t line now) = answers_offer
is_answer_to (Tick row now) = answers_tick
is_answer_to (Flush limit) = answers_flush
is_answer_to (MoveBegin store now) = answers_move_begin
is_answer_to (MoveStep m) = answers_move_step
is_answer_to Sweep = answers_sweep
is_answer_to (Pin name query) = answers_pin
is_answer_to (OpenPiece pin i) = answers_open_piece
is_answer_to (Unpin pin) = answers_unpin
is_answer_to (Names from most) = answers_names
is_answer_to (Details name) = answers_details
is_answer_to Doors = answers_doors
is_answer_to DoorDone = answers_doors

-- the answer, as a history keeps it, is one of the act's own
pub record IsAnswerOf {R : Type 0} (tells : Bool) (bytes : R → List ℕ) (faults : R → ℕ) (act : Act) (answer : Answer R) : Type 0 where
  pub own : is_answer_to act (reply_of tells bytes faults answer) ≡ true
