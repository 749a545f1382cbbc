-- What a reader is promised who has pinned a variable: the pin stays as it was made until its owner unpins it, and each of its pieces
-- opens with the bytes that were pinned. `IsRead` puts both together for one history.
use Rattle.std.specs.Prelude.{◌≡◌, ℕ, ◌^◌, ◌<◌, List, [], true, Some, slice_get, length}
use Rattle.std.specs.List.{AllByRecursion}
use Rattle.std.specs.FinMap.{get}
use Rattle.series_model.specs.declared.sample.Query.{Query}
use Rattle.series_model.specs.declared.sample.Sample.{Sample}
use Rattle.series_model.specs.Series.{over}
use Rattle.series_model.specs.Retrieval.{answer}
use Rattle.pb_messages.specs.declared.about.About.{About}
use Rattle.disk_model.specs.Files.{Name}
use Rattle.act_model.specs.Rows.{RowState, accepted}
use Rattle.act_model.specs.declared.acts.Act.TheVariants.{Unpin}
use Rattle.act_model.specs.Reply.{OpenedFile}
use Rattle.act_model.specs.Files.{IsFileOf}
use Rattle.act_model.specs.Limbo.{RowFile}
use Rattle.act_model.specs.Machine.{Machine, PinState, find_row}
use Rattle.act_model.specs.Rule.{Rule}
use Rattle.act_model.specs.OpenPiece.{Shows, IsNamed}
use Rattle.act_model.specs.Pin.{InOrder, over_pieces}
use Rattle.act_model.specs.Sound.{PieceSound}
use Rattle.act_model.specs.Whole.{whole}
use Rattle.act_model.specs.History.{Entry}

-- the entry isn't this owner's Unpin of this number
abbrev pub Keeps : ℕ → ℕ → Entry → Type 0
Keeps owner n e = e.who ≡ owner → e.act ≡ Unpin n → ⊥

abbrev pub AllKeep : ℕ → ℕ → List Entry → Type 0
AllKeep owner n entries = AllByRecursion (Keeps owner n) entries

-- the pin is there as it was, and each of its pieces stands in its store or in limbo
pub record PinStands (n : ℕ) (pin : PinState) (m : Machine) : Type 0 where
  pub there : get m.pins n ≡ Some pin
  pub pieces : m.told ≡ true → AllByRecursion (PieceSound m.rule m.rows m.limbo) pin.pieces

-- the reader shows just a pin's piece, by the name of its file, and has no fault yet
pub record IsOpenedAs (m : Machine) (pin : PinState) (i : ℕ) (reader : OpenedFile) (name : Name) (head_len len : ℕ) : Type 0 where
  pub piece : RowFile
  pub at : slice_get pin.pieces i ≡ Some piece
  pub shows : Shows piece reader head_len len
  pub named : IsNamed m piece name
  pub faults : reader.faults ≡ 0

-- The pin is there with so many pieces, each a file as those of the row, in the order in which they are read. They and the tail that was
-- told answer the query as all that is accepted of the variable.
pub record IsPinMade (who : ℕ) (name : List ℕ) (query : Query) (n : ℕ) (told_name : List ℕ) (about : About) (count : ℕ) (tail : List Sample) (m : Machine) : Type 0 where
  pub pin : PinState
  pub there : get m.pins n ≡ Some pin
  pub owner : pin.owner ≡ who
  pub number : count ≡ length pin.pieces
  pub few : length pin.pieces < 2 ^ 32
  pub i : ℕ
  pub row : RowState
  pub found : find_row m name ≡ Some i
  pub here : slice_get m.rows i ≡ Some row
  pub name_is : told_name ≡ row.name
  pub about_is : about ≡ row.about
  pub tail_is : tail ≡ row.tail
  pub files : m.told ≡ true → AllByRecursion (IsFileOf m.rule row) pin.pieces
  pub order : m.told ≡ true → InOrder pin.pieces
  pub gives : m.told ≡ true → answer (over (over_pieces [] pin.pieces) tail) query ≡ answer (whole accepted m.rows i) query

-- The pin that was made and the piece that was opened later: each by the state in which its act ended or began, under this rule.
pub record IsRead (rule : Rule) (who : ℕ) (name : List ℕ) (query : Query) (n : ℕ) (told_name : List ℕ) (about : About) (count : ℕ) (tail : List Sample) (i : ℕ) (reader : OpenedFile) (file : Name) (head_len len : ℕ) : Type 0 where
  pub pinned : Machine
  pub opening : Machine
  pub told : pinned.told ≡ true
  pub ruled : pinned.rule ≡ rule
  pub made : IsPinMade who name query n told_name about count tail pinned
  pub opened : IsOpenedAs opening made.pin i reader file head_len len
