-- Which acts a management call asks for, and what it is replied over their answers: behind the answers that came so far it asks its next
-- act, or is told its reply, or ends without one, since memory ran out.
use Rattle.std.specs.Prelude.{ℕ, ◌+◌, ◌==◌, List, [], ◌∷◌, ◌++◌, if◌then◌else◌, Bool, true, false}
use Rattle.series_model.specs.Limits.{intake_room}
use Rattle.act_model.specs.declared.acts.Act.{Act}
use Rattle.act_model.specs.declared.acts.Act.TheVariants.{Register, Pause, Resume, Rename, Flush, Names, Details}
use Rattle.act_model.specs.declared.acts.Answer.TheVariants as answer
use Rattle.act_model.specs.Reply.{Reply}
use Rattle.http_front.specs.declared.request.WebCall.{WebCall}
use Rattle.http_front.specs.declared.request.WebCall.TheVariants as call
use Rattle.admin_commands.specs.declared.refusal.Refusal.TheVariants as refusal
use Rattle.admin_commands.specs.declared.reply.WebReply.{WebReply}
use Rattle.admin_commands.specs.declared.reply.WebReply.TheVariants.{Success, Refused}
use Rattle.admin_commands.specs.Bodies.{done_text, row_text, flushed_text, names_text, status_text, state_text, no_row_text, details_text}

pub data NextStep : Type 0 where
  asks : Act → NextStep
  tells : WebReply → NextStep
  stops : NextStep

-- one act, and what is made of its answer
abbrev pub once : Act → (Reply → NextStep) → List Reply → NextStep
once act made_of [] = asks act
once act made_of (answer ∷ rest) = made_of answer

-- a registration
abbrev pub registered : Reply → NextStep
registered (answer.Registered row) = tells (Success (row_text row))
registered (answer.NameTaken row) = tells (Refused (refusal.NameTaken row))
registered (answer.KeyTaken row) = tells (Refused (refusal.KeyTaken row))
registered answer.CatalogueFull = tells (Refused refusal.CatalogueFull)
registered answer.DiskFault = tells (Refused refusal.DiskFault)
registered other = stops

-- a pause, or a resumption
abbrev pub set : Reply → NextStep
set answer.Done = tells (Success done_text)
set answer.NoSuchVariable = tells (Refused refusal.NoSuchVariable)
set answer.NotRunning = tells (Refused refusal.NotRunning)
set answer.NotPaused = tells (Refused refusal.NotPaused)
set answer.DiskFault = tells (Refused refusal.DiskFault)
set other = stops

-- a new name
abbrev pub renamed : Reply → NextStep
renamed (answer.Renamed row) = tells (Success done_text)
renamed answer.NoSuchVariable = tells (Refused refusal.NoSuchVariable)
renamed (answer.RenameNotPaused state change seen) = tells (Refused refusal.RenameNotPaused)
renamed (answer.NameTaken row) = tells (Refused (refusal.NameTaken row))
renamed (answer.KeyTaken row) = tells (Refused (refusal.KeyTaken row))
renamed answer.CatalogueFull = tells (Refused refusal.CatalogueFull)
renamed (answer.NotDurable last durable) = tells (Refused (refusal.NotDurable last durable))
renamed answer.DiskFault = tells (Refused refusal.DiskFault)
renamed other = stops

-- whether a variable is archived, which may be asked of any name
abbrev pub status_told : List ℕ → Reply → NextStep
status_told name (answer.Described details) = tells (Success (status_text name (state_text details.state)))
status_told name answer.NoSuchVariable = tells (Success (status_text name no_row_text))
status_told name answer.DiskFault = tells (Refused refusal.DiskFault)
status_told name other = stops

-- what is known of a variable
abbrev pub details_told : Reply → NextStep
details_told (answer.Described details) = tells (Success (details_text details))
details_told answer.NoSuchVariable = tells (Refused refusal.NoSuchVariable)
details_told answer.DiskFault = tells (Refused refusal.DiskFault)
details_told other = stops

-- how many names are asked for at once
abbrev pub page : ℕ
page = 1024

-- names from a row on, behind those that were told before, until no more follow
abbrev pub names_from : ℕ → List (List ℕ) → List Reply → NextStep
names_from from before [] = asks (Names from page)
names_from from before (answer.NamesAre names more ∷ rest) = if more then names_from (from + page) (before ++ names) rest else tells (Success (names_text (before ++ names)))
names_from from before (other ∷ rest) = stops

-- flushes of all that an intake can hold, until nothing is left; so many samples became durable before
abbrev pub flushes : ℕ → List Reply → NextStep
flushes samples [] = asks (Flush intake_room)
flushes samples (answer.Flushed more left doors ∷ rest) = if left == 0 then tells (Success (flushed_text (samples + more))) else flushes (samples + more) rest
flushes samples (answer.DiskFault ∷ rest) = tells (Refused refusal.DiskFault)
flushes samples (other ∷ rest) = stops

-- the table of the management calls; a retrieval is none of them
abbrev pub next : WebCall → List Reply → NextStep
next (call.Raw pv query op) answers = stops
next (call.Json pv query op) answers = stops
next call.AllPvs answers = names_from 0 [] answers
next (call.PvStatus pv) answers = once (Details pv) (status_told pv) answers
next (call.PvDetails pv) answers = once (Details pv) details_told answers
next (call.ArchivePv pv about) answers = once (Register pv about) registered answers
next (call.PausePv pv) answers = once (Pause pv) set answers
next (call.ResumePv pv) answers = once (Resume pv) set answers
next (call.RenamePv pv newname) answers = once (Rename pv newname) renamed answers
next call.FlushAll answers = flushes 0 answers

abbrev pub is_management : WebCall → Bool
is_management (call.Raw pv query op) = false
is_management (call.Json pv query op) = false
is_management other = true
