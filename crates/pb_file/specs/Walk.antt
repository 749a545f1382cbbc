-- A walk over a file, from line to line.
use Rattle.std.specs.Prelude.{◌≡◌, ℕ, ◌+◌, ◌≤◌, List, [], ◌∷◌, ◌++◌, Option, Some, None, IsSome, length, take}
use Rattle.line_escape.specs.Unescaping.{HasNoNewline}
use Rattle.series_model.specs.declared.sample.Sample.{Sample}
use Rattle.series_model.specs.Series.{end_of}
use Rattle.pb_messages.specs.declared.info.PayloadInfo.{PayloadInfo}
use Rattle.pb_lines.specs.Header.{IsHeaderLine}
use Rattle.pb_lines.specs.Sample.{IsSampleLine}
use Rattle.pb_file.specs.declared.walk.Walked.{Walked}
use Rattle.pb_file.specs.declared.walk.Walked.TheVariants as walked
use Rattle.pb_file.specs.Block.{Window, IsWindowOf, HoldsLine}
use Rattle.pb_lines.specs.File.{IsFile, IsBadAt, IsSample}

-- A walk over the first `len` bytes of a file: where the next line begins, the header once it was read, the earliest moment that
-- the next sample may have, the answer for good once there is one, and the bytes in memory.
pub record Walk : Type 0 where
  pub len : ℕ
  pub place : ℕ
  pub info : Option PayloadInfo
  pub earliest : ℕ
  pub stop : Option Walked
  pub window : Window

-- a walk that has read nothing
abbrev pub fresh : ℕ → Walk
fresh len = record { len = len; place = 0; info = None; earliest = 0; stop = None; window = record { start = 0; bytes = [] } }

-- the first moment behind the last sample's
abbrev pub behind : Option ℕ → ℕ
behind None = 0
behind (Some t) = t + 1

-- an answer that comes again
abbrev pub IsFinal : Option Walked → Type 0
IsFinal None = Unit {0}
IsFinal (Some walked.End) = Unit {0}
IsFinal (Some (walked.Damaged at)) = Unit {0}
IsFinal (Some _) = ⊥

-- ONE LINE

-- What a call that wasn't answered for good before came to, over any file: from `old` it gave this line.
abbrev pub Gives : Walk → List ℕ → Walked → Walk → Type 0
Gives old line walked.Header new =
    (info : PayloadInfo) × (old.info ≡ None) × HasNoNewline line × IsHeaderLine line info
    × (new ≡ record old { place = old.place + length line + 1; info = Some info; window = new.window })
Gives old line (walked.Sample t) new =
    (info : PayloadInfo) × (old.info ≡ Some info) × IsSample info.ty info.year (record { t = t; line = line }) × (old.earliest ≤ t)
    × (new ≡ record old { place = old.place + length line + 1; earliest = t + 1; window = new.window })
Gives old line walked.End new = IsSome old.info × (old.place ≡ old.len) × (new ≡ record old { stop = Some walked.End })
Gives old line (walked.Damaged at) new = (at ≡ old.place) × (new ≡ record old { stop = Some (walked.Damaged at); window = new.window })
Gives old line walked.ReadFault new = new ≡ record old { window = new.window }
Gives old line walked.Memory new = new ≡ record old { window = new.window }

-- THE FILE SO FAR

-- a header's line, what it means, and the samples behind it
pub record Front : Type 0 where
  pub head : List ℕ
  pub info : PayloadInfo
  pub samples : List Sample

-- the bytes before the next line: none, or the file of this front
abbrev pub IsRead : Walk → List ℕ → Option Front → Type 0
IsRead w bytes None = (w.place ≡ 0) × (w.info ≡ None) × (w.earliest ≡ 0)
IsRead w bytes (Some f) = IsFile (take w.place bytes) f.head f.info f.samples × (w.info ≡ Some f.info) × (w.earliest ≡ end_of f.samples)

-- The walk goes on over the bytes, of which it has read this front: nothing, or a header and samples.
pub record HasWalked (w : Walk) (bytes : List ℕ) (front : Option Front) : Type 0 where
  pub going : w.stop ≡ None
  pub within : w.place ≤ w.len
  pub read : IsRead w bytes front
  pub window : IsWindowOf w.window bytes

-- the same front with one more sample
abbrev pub with_sample : Front → ℕ → List ℕ → Front
with_sample f t line = record f { samples = f.samples ++ record { t = t; line = line } ∷ [] }

-- What a call came to, over bytes of which this front was read: the next line, the end of a file, or a bad line's place.
abbrev pub Walks : Option Front → List ℕ → List ℕ → Walked → Walk → Type 0
Walks None bytes line walked.Header new = (info : PayloadInfo) × HasWalked new bytes (Some (record { head = line; info = info; samples = [] }))
Walks (Some f) bytes line (walked.Sample t) new = HasWalked new bytes (Some (with_sample f t line))
Walks (Some f) bytes line walked.End new = IsFile (take new.len bytes) f.head f.info f.samples
Walks front bytes line (walked.Damaged at) new = IsBadAt (take new.len bytes) at
Walks front bytes line walked.ReadFault new = HasWalked new bytes front
Walks front bytes line walked.Memory new = HasWalked new bytes front
Walks front bytes line _ new = ⊥

-- what a call came to over such bytes, and what it gave
pub record Reads (front : Option Front) (bytes : List ℕ) (old : Walk) (line : List ℕ) (result : Walked) (new : Walk) : Type 0 where
  pub gives : Gives old line result new
  pub walks : Walks front bytes line result new

-- neither a read failed nor memory ran out
abbrev pub IsAnswer : Walked → Type 0
IsAnswer walked.ReadFault = ⊥
IsAnswer walked.Memory = ⊥
IsAnswer _ = Unit {0}

-- WHAT A LINE COMES TO

-- the line is no header where one is due, and no sample, or one that isn't later, where one is due
abbrev pub IsRefused : Walk → List ℕ → Type 0
IsRefused w line = refused w.info
  where
    refused : Option PayloadInfo → Type 0
    refused None = (info : PayloadInfo) → IsHeaderLine line info → ⊥
    refused (Some info) = (t : ℕ) → IsSampleLine info.ty info.year line t → w.earliest ≤ t → ⊥

-- a line that was read comes to this; where it is refused it is no line of the form
abbrev pub Takes : Walk → List ℕ → Walked → Walk → Type 0
Takes old line walked.End new = ⊥
Takes old line walked.ReadFault new = ⊥
Takes old line (walked.Damaged at) new = Gives old line (walked.Damaged at) new × IsRefused old line × (new.window ≡ old.window)
Takes old line result new = Gives old line result new × (new.window ≡ old.window)

-- IN MEMORY

-- the sample comes next, and its line is in memory with its newline
pub record HoldsSample (w : Walk) (t : ℕ) (line : List ℕ) : Type 0 where
  pub going : w.stop ≡ None
  pub info : PayloadInfo
  pub header : w.info ≡ Some info
  pub sample : IsSample info.ty info.year (record { t = t; line = line })
  pub later : w.earliest ≤ t
  pub held : HoldsLine w.window w.place line
  pub room : w.place + length line + 1 ≤ w.len

-- so it is, and the line has this length
abbrev pub HoldsLong : Walk → ℕ → ℕ → Type 0
HoldsLong w t len = (line : List ℕ) × HoldsSample w t line × (len ≡ length line)
