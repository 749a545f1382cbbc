-- The acts, asked one by one. Each has a type of just its own answers (`src/answers.rt`), so that whoever asks has no case for an answer
-- that can't come. The functions below say which answer of the history each of these stands for, and `Asked` what is promised.
use Rattle.std.specs.Prelude.{ℕ, List, [], Bool, Result, IfOk, OnErr}
use Rattle.act_model.specs.declared.acts.Act.{Act}
use Rattle.act_model.specs.declared.acts.Answer.TheVariants as answer
use Rattle.act_model.specs.declared.actor.Spent.{Spent}
use Rattle.act_model.specs.declared.answers.Registered.{Registered}
use Rattle.act_model.specs.declared.answers.Registered.TheVariants as registered
use Rattle.act_model.specs.declared.answers.Paused.{Paused}
use Rattle.act_model.specs.declared.answers.Paused.TheVariants as paused
use Rattle.act_model.specs.declared.answers.Resumed.{Resumed}
use Rattle.act_model.specs.declared.answers.Resumed.TheVariants as resumed
use Rattle.act_model.specs.declared.answers.Renamed.{Renamed}
use Rattle.act_model.specs.declared.answers.Renamed.TheVariants as renamed
use Rattle.act_model.specs.declared.answers.Offered.{Offered}
use Rattle.act_model.specs.declared.answers.Offered.TheVariants as offered
use Rattle.act_model.specs.declared.answers.Ticked.{Ticked}
use Rattle.act_model.specs.declared.answers.Ticked.TheVariants as ticked
use Rattle.act_model.specs.declared.answers.Flushed.{Flushed}
use Rattle.act_model.specs.declared.answers.Flushed.TheVariants as flushed
use Rattle.act_model.specs.declared.answers.MoveBegun.{MoveBegun}
use Rattle.act_model.specs.declared.answers.MoveBegun.TheVariants as move_begun
use Rattle.act_model.specs.declared.answers.MoveStepped.{MoveStepped}
use Rattle.act_model.specs.declared.answers.MoveStepped.TheVariants as move_stepped
use Rattle.act_model.specs.declared.answers.Swept.{Swept}
use Rattle.act_model.specs.declared.answers.Swept.TheVariants as swept
use Rattle.act_model.specs.declared.answers.Pinned.{Pinned}
use Rattle.act_model.specs.declared.answers.Pinned.TheVariants as pinned
use Rattle.act_model.specs.declared.answers.PieceOpened.{PieceOpened}
use Rattle.act_model.specs.declared.answers.PieceOpened.TheVariants as piece_opened
use Rattle.act_model.specs.declared.answers.Unpinned.{Unpinned}
use Rattle.act_model.specs.declared.answers.Unpinned.TheVariants as unpinned
use Rattle.act_model.specs.declared.answers.NamesTold.{NamesTold}
use Rattle.act_model.specs.declared.answers.NamesTold.TheVariants as names_told
use Rattle.act_model.specs.declared.answers.DetailsTold.{DetailsTold}
use Rattle.act_model.specs.declared.answers.DetailsTold.TheVariants as details_told
use Rattle.act_model.specs.declared.answers.DoorsLeft.{DoorsLeft}
use Rattle.act_model.specs.History.{Entry, Made, MadeOne}
use Rattle.act_model.specs.Reply.{Reply}

abbrev pub registered_reply : Registered → Reply
registered_reply (registered.NameTaken row) = answer.NameTaken row
registered_reply (registered.KeyTaken row) = answer.KeyTaken row
registered_reply registered.CatalogueFull = answer.CatalogueFull
registered_reply registered.DiskFault = answer.DiskFault
registered_reply (registered.Registered row) = answer.Registered row
registered_reply registered.Memory = answer.Memory

abbrev pub paused_reply : Paused → Reply
paused_reply paused.NoSuchVariable = answer.NoSuchVariable
paused_reply paused.NotRunning = answer.NotRunning
paused_reply paused.DiskFault = answer.DiskFault
paused_reply paused.Done = answer.Done
paused_reply paused.Memory = answer.Memory

abbrev pub resumed_reply : Resumed → Reply
resumed_reply resumed.NoSuchVariable = answer.NoSuchVariable
resumed_reply resumed.NotPaused = answer.NotPaused
resumed_reply resumed.DiskFault = answer.DiskFault
resumed_reply resumed.Done = answer.Done
resumed_reply resumed.Memory = answer.Memory

abbrev pub renamed_reply : Renamed → Reply
renamed_reply renamed.NoSuchVariable = answer.NoSuchVariable
renamed_reply (renamed.RenameNotPaused state change seen) = answer.RenameNotPaused state change seen
renamed_reply (renamed.NameTaken row) = answer.NameTaken row
renamed_reply (renamed.KeyTaken row) = answer.KeyTaken row
renamed_reply renamed.CatalogueFull = answer.CatalogueFull
renamed_reply (renamed.NotDurable last durable) = answer.NotDurable last durable
renamed_reply renamed.DiskFault = answer.DiskFault
renamed_reply (renamed.Renamed row) = answer.Renamed row
renamed_reply renamed.Memory = answer.Memory

abbrev pub offered_reply : Offered → Reply
offered_reply (offered.Dropped reason) = answer.Dropped reason
offered_reply (offered.IntakeFull held) = answer.IntakeFull held
offered_reply offered.Kept = answer.Kept
offered_reply offered.Held = answer.Held
offered_reply offered.Memory = answer.Memory

abbrev pub ticked_reply : Ticked → Reply
ticked_reply ticked.NoRow = answer.NoRow
ticked_reply ticked.TickNone = answer.TickNone
ticked_reply (ticked.NotDue due) = answer.NotDue due
ticked_reply (ticked.Dropped reason) = answer.Dropped reason
ticked_reply (ticked.IntakeFull held) = answer.IntakeFull held
ticked_reply (ticked.TickKept t) = answer.TickKept t
ticked_reply ticked.Memory = answer.Memory

abbrev pub flushed_reply : Flushed → Reply
flushed_reply flushed.DiskFault = answer.DiskFault
flushed_reply (flushed.Flushed samples left doors) = answer.Flushed samples left doors
flushed_reply flushed.Memory = answer.Memory

abbrev pub move_begun_reply : MoveBegun → Reply
move_begun_reply move_begun.DiskFault = answer.DiskFault
move_begun_reply (move_begun.Begun m row parts) = answer.Begun m row parts
move_begun_reply (move_begun.Busy m) = answer.Busy m
move_begun_reply (move_begun.Nothing doors) = answer.Nothing doors
move_begun_reply move_begun.Memory = answer.Memory

abbrev pub move_stepped_reply : MoveStepped → Reply
move_stepped_reply move_stepped.NoMove = answer.NoMove
move_stepped_reply move_stepped.DiskFault = answer.DiskFault
move_stepped_reply (move_stepped.Damaged name at) = answer.Damaged name at
move_stepped_reply move_stepped.Copying = answer.Copying
move_stepped_reply move_stepped.Copied = answer.Copied
move_stepped_reply move_stepped.Published = answer.Published
move_stepped_reply (move_stepped.Retired parts) = answer.Retired parts
move_stepped_reply (move_stepped.Again len copied) = answer.Again len copied
move_stepped_reply move_stepped.Memory = answer.Memory

abbrev pub swept_reply : Swept → Reply
swept_reply swept.DiskFault = answer.DiskFault
swept_reply (swept.Swept files) = answer.Swept files
swept_reply swept.Memory = answer.Memory

abbrev pub pinned_reply : Pinned → Reply
pinned_reply pinned.NoSuchVariable = answer.NoSuchVariable
pinned_reply pinned.DiskFault = answer.DiskFault
pinned_reply (pinned.Pinned pin name about pieces tail) = answer.Pinned pin name about pieces tail
pinned_reply pinned.Memory = answer.Memory

-- of an opened file the history keeps what its reader tells
abbrev pub piece_opened_reply : {R : Type 0} → Bool → (R → List ℕ) → (R → ℕ) → PieceOpened R → Reply
piece_opened_reply tells bytes faults piece_opened.NoPin = answer.NoPin
piece_opened_reply tells bytes faults (piece_opened.NotYours owner) = answer.NotYours owner
piece_opened_reply tells bytes faults (piece_opened.NoPiece pieces) = answer.NoPiece pieces
piece_opened_reply tells bytes faults piece_opened.DiskFault = answer.DiskFault
piece_opened_reply tells bytes faults (piece_opened.Piece reader name head_len len) = answer.Piece (record { tells = tells; bytes = bytes reader; faults = faults reader }) name head_len len
piece_opened_reply tells bytes faults piece_opened.Memory = answer.Memory

abbrev pub unpinned_reply : Unpinned → Reply
unpinned_reply unpinned.NoPin = answer.NoPin
unpinned_reply (unpinned.NotYours owner) = answer.NotYours owner
unpinned_reply unpinned.Unpinned = answer.Unpinned

abbrev pub names_told_reply : NamesTold → Reply
names_told_reply (names_told.NamesAre names more) = answer.NamesAre names more
names_told_reply names_told.Memory = answer.Memory

abbrev pub details_told_reply : DetailsTold → Reply
details_told_reply details_told.NoSuchVariable = answer.NoSuchVariable
details_told_reply details_told.DiskFault = answer.DiskFault
details_told_reply (details_told.Described details) = answer.Described details
details_told_reply details_told.Memory = answer.Memory

abbrev pub doors_left_reply : DoorsLeft → Reply
doors_left_reply left = answer.DoorsLeft left.doors

-- One act was asked. Where it is answered, just it was made under the actor's number, and the result stands for the history's answer.
-- Where no act is left, nothing was made under the number.
pub record Asked {A N : Type 0} (number : A → ℕ) (between : A → List Entry → A → Type 0) (is_spent : A → Type 0) (reply : N → Reply) (old : A) (act : Act) (result : Result N Spent) (new : A) : Type 0 where
  pub done : IfOk result (λ own. MadeOne number between old act (reply own) new)
  pub spent : OnErr result (Made number between old [] new × is_spent new)
