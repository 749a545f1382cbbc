-- The pins that the stores keep, beside those of the machine.
use Rattle.std.specs.FinMap.{FinMap, get}
use Rattle.std.specs.Ordering.{nat_cmp}
use Rattle.std.specs.Prelude.{◌≡◌, ◌+◌, ℕ, List, length, Bool, true, Some, None, slice_get}
use Rattle.pins.specs.Pieces.{PinOf}
use Rattle.pins.specs.declared.piece.PinnedFile.{PinnedFile}
use Rattle.tier_store.specs.Pinned.{SeenAll, Shows, PinsStand}
use Rattle.act_model.specs.Limbo.{RowFile}
use Rattle.act_model.specs.Machine.{PinState}
use Rattle.act_model.specs.OpenPiece.{bytes_of, name_of}
use Rattle.act_model.specs.Rows.{RowState}

-- A pinned file is a piece of a row: it has the piece's name, and shows just the piece's bytes.
pub record IsPieceOf (tells : Bool) (all : SeenAll) (rows : List RowState) (piece : RowFile) (file : PinnedFile) : Type 0 where
  pub row : RowState
  pub here : slice_get rows piece.row ≡ Some row
  pub named : file.name ≡ name_of row piece
  pub head_len : file.head_len ≡ length piece.head + 1
  pub len : file.len ≡ length (bytes_of piece)
  pub shows : Shows tells all file.name (bytes_of piece)

-- the piece of this number of a pin has its file
pub record HasFileOf (tells : Bool) (all : SeenAll) (rows : List RowState) (own : PinOf) (i : ℕ) (piece : RowFile) : Type 0 where
  pub file : PinnedFile
  pub there : slice_get own.pieces i ≡ Some file
  pub is : IsPieceOf tells all rows piece file

-- A pin of the stores is one of the machine. Of pieces of a machine that isn't told nothing is known but how many they are.
pub record IsPinOf (tells : Bool) (all : SeenAll) (told : Bool) (rows : List RowState) (pin : PinState) (own : PinOf) : Type 0 where
  pub owner : own.owner ≡ pin.owner
  pub number : length own.pieces ≡ length pin.pieces
  pub pieces : told ≡ true → (i : ℕ) (piece : RowFile) → slice_get pin.pieces i ≡ Some piece → HasFileOf tells all rows own i piece

-- the pin of this number is one of the stores
pub record HasPinOf (tells : Bool) (all : SeenAll) (told : Bool) (rows : List RowState) (pinned : FinMap nat_cmp PinOf) (n : ℕ) (pin : PinState) : Type 0 where
  pub own : PinOf
  pub there : get pinned n ≡ Some own
  pub is : IsPinOf tells all told rows pin own

-- the stores' pins are the machine's, and what is pinned stands
pub record ArePinsOf (tells : Bool) (all : SeenAll) (told : Bool) (rows : List RowState) (pins : FinMap nat_cmp PinState) (pinned : FinMap nat_cmp PinOf) : Type 0 where
  pub none : (n : ℕ) → get pins n ≡ None → get pinned n ≡ None
  pub each : (n : ℕ) (pin : PinState) → get pins n ≡ Some pin → HasPinOf tells all told rows pinned n pin
  pub stand : PinsStand tells all pinned
