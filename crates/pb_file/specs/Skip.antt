-- A walk that went on at a later place, or at any place of the file: what it reads from there on.
use Rattle.std.specs.Prelude.{◌≡◌, ◌⊎◌, ℕ, ◌+◌, ◌≤◌, List, ◌∷◌, ◌++◌, None, Some, length, take, drop}
use Rattle.line_escape.specs.Unescaping.{HasNoNewline}
use Rattle.series_model.specs.Series.{end_of}
use Rattle.pb_messages.specs.declared.info.PayloadInfo.{PayloadInfo}
use Rattle.pb_lines.specs.Header.{IsHeaderLine}
use Rattle.pb_file.specs.declared.walk.Walked.{Walked}
use Rattle.pb_file.specs.declared.walk.Walked.TheVariants as walked
use Rattle.pb_file.specs.Block.{IsWindowOf}
use Rattle.pb_lines.specs.File.{IsFile, HasNoSample}
use Rattle.pb_file.specs.Walk.{Walk, Front, with_sample}

-- the header's line, and the bytes from a place on
abbrev pub from_place : List ℕ → ℕ → List ℕ → List ℕ
from_place head at bytes = head ++ 10 ∷ drop at bytes

-- The walk has read this line, which is a header's, and what it has in memory is of these bytes.
pub record HasHeader (w : Walk) (bytes head : List ℕ) (info : PayloadInfo) : Type 0 where
  pub info_is : w.info ≡ Some info
  pub whole : HasNoNewline head
  pub header : IsHeaderLine head info
  pub window : IsWindowOf w.window bytes

-- The walk has the header of this front. It went on at this place of the bytes, and since then has read the front's samples.
pub record HasSkipped (w : Walk) (bytes : List ℕ) (at : ℕ) (front : Front) : Type 0 where
  pub going : w.stop ≡ None
  pub begun : at ≤ w.place
  pub within : w.place ≤ w.len
  pub read : IsFile (from_place front.head at (take w.place bytes)) front.head front.info front.samples
  pub header : w.info ≡ Some front.info
  pub earliest : w.earliest ≡ end_of front.samples
  pub window : IsWindowOf w.window bytes

-- What a call came to: the next line from that place on, the end of a file of the header's line and what stands from there on, or a
-- line that isn't the next one of such a file.
abbrev pub GoesOnFrom : ℕ → Front → List ℕ → List ℕ → Walked → Walk → Type 0
GoesOnFrom at front bytes line (walked.Sample t) new = HasSkipped new bytes at (with_sample front t line)
GoesOnFrom at front bytes line walked.End new = IsFile (from_place front.head at (take new.len bytes)) front.head front.info front.samples
GoesOnFrom at front bytes line (walked.Damaged bad) new = HasNoSample front.info (λ t. end_of front.samples ≤ t) (drop bad (take new.len bytes))
GoesOnFrom at front bytes line walked.ReadFault new = HasSkipped new bytes at front
GoesOnFrom at front bytes line walked.Memory new = HasSkipped new bytes at front
GoesOnFrom at front bytes line walked.Header new = ⊥

-- the first newline from a place on stands right before the other, which is the end where there is none
abbrev pub BeginsBehind : List ℕ → ℕ → ℕ → Type 0
BeginsBehind bytes place at =
    ((part rest : List ℕ) × HasNoNewline part × (drop place bytes ≡ part ++ 10 ∷ rest) × (at ≡ place + length part + 1)) ⊎ (HasNoNewline (drop place bytes) × (at ≡ length bytes))
