-- The pieces of a pin are opened one by one, by an act for each, in their order.
use Rattle.std.specs.Prelude.{◌≡◌, ℕ, ◌+◌, ◌<◌, ◌^◌, List, [], ◌∷◌, ◌++◌, length, take, drop, map, true, Some, slice_get}
use Rattle.std.specs.FinMap.{get}
use Rattle.std.specs.List.{AllZip}
use Rattle.line_escape.specs.Unescaping.{HasNoNewline}
use Rattle.disk_model.specs.Files.{Name}
use Rattle.act_model.specs.declared.acts.Act.TheVariants.{OpenPiece}
use Rattle.act_model.specs.declared.acts.Answer.TheVariants.{Piece, DiskFault, Memory}
use Rattle.act_model.specs.Reply.{OpenedFile}
use Rattle.act_model.specs.History.{Entry, Done, Made}
use Rattle.act_model.specs.Limbo.{RowFile}
use Rattle.act_model.specs.Machine.{Machine, PinState}
use Rattle.act_model.specs.OpenPiece.{bytes_of, name_of}
use Rattle.act_model.specs.Rows.{RowState}
use Rattle.stream_merge.specs.Pieces.{NamedBytes, Failure, Faulted, OutOfActs, OutOfMemory}

-- a piece that was opened, as its answer tells it
pub record PieceTold : Type 0 where
  pub reader : OpenedFile
  pub name : Name
  pub head_len : ℕ
  pub len : ℕ

-- an act was answered with this piece
abbrev pub opening : ℕ → ℕ → PieceTold → Done
opening pin i p = record { act = OpenPiece pin i; answer = Piece p.reader p.name p.head_len p.len }

-- pieces of the pin were opened one after another, the first of them that of number i
abbrev pub openings : ℕ → ℕ → List PieceTold → List Done
openings pin i [] = []
openings pin i (p ∷ rest) = opening pin i p ∷ openings pin (i + 1) rest

-- the name of a piece's file, and its bytes
abbrev pub named : PieceTold → NamedBytes
named p = record { name = p.name; bytes = take p.len p.reader.bytes }

-- the act by which piece i was not opened; none, where no act was left for it
abbrev pub failing : ℕ → ℕ → Failure → List Done
failing pin i Faulted = record { act = OpenPiece pin i; answer = DiskFault } ∷ []
failing pin i OutOfActs = []
failing pin i OutOfMemory = record { act = OpenPiece pin i; answer = Memory } ∷ []

-- no act was left, where that is why
abbrev pub SpentBy : Type 0 → Failure → Type 0
SpentBy spent Faulted = Unit {0}
SpentBy spent OutOfActs = spent
SpentBy spent OutOfMemory = Unit {0}

-- Just the acts that open these pieces were made: so the next ones come, and fewer are left.
pub record HasOpened {A : Type 0} (number : A → ℕ) (between : A → List Entry → A → Type 0) (old : A) (pin next left : ℕ) (pieces : List NamedBytes) (new : A) (pin_now next_now left_now : ℕ) : Type 0 where
  pub told : List PieceTold
  pub pin_is : pin_now ≡ pin
  pub next_is : next_now ≡ next + length told
  pub all : next_now + left_now ≡ next + left
  pub made : Made number between old (openings pin next told) new
  pub are : pieces ≡ map named told

-- Just the acts that open some pieces were made, and then one that failed, unless none was left for it.
pub record FailsToOpen {A : Type 0} (number : A → ℕ) (between : A → List Entry → A → Type 0) (is_spent : A → Type 0) (old : A) (pin next : ℕ) (why : Failure) (new : A) (pin_now : ℕ) : Type 0 where
  pub told : List PieceTold
  pub pin_is : pin_now ≡ pin
  pub made : Made number between old (openings pin next told ++ failing pin (next + length told) why) new
  pub spent : SpentBy (is_spent new) why

-- so it is, whichever comes next
abbrev pub OpensOf : {A : Type 0} → (A → ℕ) → (A → List Entry → A → Type 0) → ℕ → ℕ → ℕ → A → List NamedBytes → A → Type 0
OpensOf number between pin next left old pieces new = (pin_now : ℕ) × (next_now : ℕ) × (left_now : ℕ) × HasOpened number between old pin next left pieces new pin_now next_now left_now

-- and so many pieces are left then
abbrev pub OpensLeaving : {A : Type 0} → (A → ℕ) → (A → List Entry → A → Type 0) → ℕ → ℕ → ℕ → ℕ → A → List NamedBytes → A → Type 0
OpensLeaving number between pin next left left_now old pieces new = (pin_now : ℕ) × (next_now : ℕ) × HasOpened number between old pin next left pieces new pin_now next_now left_now

abbrev pub FailsOf : {A : Type 0} → (A → ℕ) → (A → List Entry → A → Type 0) → (A → Type 0) → ℕ → ℕ → A → Failure → A → Type 0
FailsOf number between is_spent pin next old why new = (pin_now : ℕ) × FailsToOpen number between is_spent old pin next why new pin_now

-- THE PIN

-- The pin is the actor's own, and so many of its pieces are left from the next one on.
pub record Holds {A : Type 0} (number : A → ℕ) (stands : A → Machine → Type 0) (now : A) (pin next left : ℕ) : Type 0 where
  pub m : Machine
  pub stands_for : stands now m
  pub state : PinState
  pub there : get m.pins pin ≡ Some state
  pub owner : state.owner ≡ number now
  pub all : length state.pieces ≡ next + left
  pub few : next + left < 2 ^ 32

-- a file of a row: its first line is whole, and its name is that of the row
pub record IsNamedAs (rows : List RowState) (f : RowFile) (n : NamedBytes) : Type 0 where
  pub row : RowState
  pub here : slice_get rows f.row ≡ Some row
  pub whole : HasNoNewline f.head
  pub is : n ≡ record { name = name_of row f; bytes = bytes_of f }

-- so it is where the files are told, and these are the pieces that are left
pub record LeftOf {A : Type 0} (number : A → ℕ) (stands : A → Machine → Type 0) (now : A) (pin next left : ℕ) (pieces : List NamedBytes) : Type 0 where
  pub holds : Holds number stands now pin next left
  pub told : holds.m.told ≡ true
  pub rest : AllZip (IsNamedAs holds.m.rows) (drop next holds.state.pieces) pieces
