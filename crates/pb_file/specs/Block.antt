-- A block of a file in memory, and what a read of a line through it gives.
use Rattle.std.specs.Prelude.{◌≡◌, ℕ, ◌+◌, ◌-◌, ◌<◌, ◌≤◌, List, [], ◌∷◌, ◌++◌, length, take, drop}
use Rattle.pb_file.specs.declared.block.Block.{Block}
use Rattle.pb_file.specs.declared.block.BlockLine.{BlockLine}
use Rattle.pb_file.specs.declared.block.BlockLine.TheVariants.{Line, Torn}
use Rattle.pb_file.specs.Line.{BeginsWithLine}

-- the bytes that a block has in memory, and where they stand in the file
pub record Window : Type 0 where
  pub start : ℕ
  pub bytes : List ℕ

-- the block's bytes
abbrev pub window_of : Block → Window
window_of block = record { start = block.start; bytes = block.bytes.items }

-- the file has these bytes there
abbrev pub IsWindowOf : Window → List ℕ → Type 0
IsWindowOf window file = window.bytes ≡ take (length window.bytes) (drop window.start file)

-- the window has the line at this place, and the newline behind it
pub record HoldsLine (window : Window) (at : ℕ) (line : List ℕ) : Type 0 where
  pub from : window.start ≤ at
  pub within : at < window.start + length window.bytes
  pub text : BeginsWithLine (drop (at - window.start) window.bytes) line

-- what of the file a read of the line at a place gave, up to `len`
abbrev pub GivesLine : List ℕ → ℕ → ℕ → List ℕ → BlockLine → Type 0
GivesLine file len at line Line = take (at + length line + 1) file ≡ take at file ++ (line ++ 10 ∷ [])
GivesLine file len at line Torn = take len file ≡ take at file ++ line
GivesLine file len at line _ = Unit {0}
