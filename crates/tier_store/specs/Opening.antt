-- How pieces of pins are opened, and pins given up.
use Rattle.std.specs.Prelude.{◌≡◌, ℕ, Bool, List, length, IsTrue, Result, Ok, Err}
use Rattle.std.specs.FinMap.{FinMap, remove}
use Rattle.std.specs.Ordering.{nat_cmp}
use Rattle.act_model.specs.declared.acts.Answer.{Answer}
use Rattle.act_model.specs.declared.acts.Answer.TheVariants.{Piece, DiskFault, Memory, Unpinned}
use Rattle.act_model.specs.declared.acts.Answer.TheVariants as answers
use Rattle.disk_model.specs.declared.disk.DiskErr.{DiskErr}
use Rattle.disk_model.specs.declared.disk.DiskErr.TheVariants as disk
use Rattle.pins.specs.declared.table.PinErr.{PinErr}
use Rattle.pins.specs.declared.table.PinErr.TheVariants.{NoPin, NotYours}
use Rattle.pins.specs.Pieces.{PinOf}
use Rattle.pins.specs.declared.piece.PinnedFile.{PinnedFile}
use Rattle.durable_write.specs.Ends.{End, Done, Failed, Spent}
use Rattle.tier_store.specs.Pinned.{SeenAll, Shows}

-- one who asks for a pin that isn't there, or is another's, is told so
abbrev pub refusal : {R : Type 0} → PinErr → Answer R
refusal NoPin = answers.NoPin
refusal (NotYours owner) = answers.NotYours owner

-- a failed call of the disk is told as such
abbrev pub answer_of : {R : Type 0} → Result (Answer R) DiskErr → Answer R
answer_of (Ok answer) = answer
answer_of (Err disk.Fault) = DiskFault
answer_of (Err disk.Memory) = Memory

-- how a call ends that is answered so
abbrev pub end_of_answer : {R : Type 0} → Answer R → End (Answer R) ⊥
end_of_answer DiskFault = Failed
end_of_answer Memory = Spent
end_of_answer answer = Done answer

-- The reader hasn't failed, and has just the bytes that are shown of the file up to the pinned length.
pub record IsReaderOf {R : Type 0} (tells reader_tells : Bool) (bytes : R → List ℕ) (faults : R → ℕ) (all : SeenAll) (piece : PinnedFile) (reader : R) : Type 0 where
  pub fresh : faults reader ≡ 0
  pub shows : IsTrue tells → (pinned : List ℕ) → length pinned ≡ piece.len → Shows tells all piece.name pinned → IsTrue reader_tells × (bytes reader ≡ pinned)

-- a piece that is there is opened, or the disk failed, or memory was wanting
abbrev pub IsOpened : {R : Type 0} → Bool → Bool → (R → List ℕ) → (R → ℕ) → SeenAll → PinnedFile → Answer R → Type 0
IsOpened tells reader_tells bytes faults all piece (Piece reader name head_len len) = IsReaderOf tells reader_tells bytes faults all piece reader × (name ≡ piece.name) × (head_len ≡ piece.head_len) × (len ≡ piece.len)
IsOpened tells reader_tells bytes faults all piece DiskFault = Unit {0}
IsOpened tells reader_tells bytes faults all piece Memory = Unit {0}
IsOpened tells reader_tells bytes faults all piece _ = ⊥

-- how an owner is answered who gives up a pin, by the pin that has the number
abbrev pub given_up : {R : Type 0} → Result PinOf PinErr → Answer R
given_up (Ok pin) = Unpinned
given_up (Err e) = refusal e

-- the pins that are left then
abbrev pub pins_left : FinMap nat_cmp PinOf → ℕ → Result PinOf PinErr → FinMap nat_cmp PinOf
pins_left pins n (Ok pin) = remove pins n
pins_left pins n (Err e) = pins
