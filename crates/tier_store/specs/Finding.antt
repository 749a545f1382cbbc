-- Where the lines of a file begin that are later than a moment.
use Rattle.std.specs.Prelude.{◌≡◌, ◌≤◌, ◌+◌, ◌-◌, ℕ, ℤ, Bool, List, [], ◌∷◌, ◌++◌, length, take, drop, true, false}
use Rattle.disk_model.specs.Files.{Name, Files, HasFile}
use Rattle.line_escape.specs.Unescaping.{HasNoNewline}
use Rattle.pb_messages.specs.declared.info.PayloadInfo.{PayloadInfo}
use Rattle.pb_wire.specs.declared.payload.PayloadType.{PayloadType}
use Rattle.pb_lines.specs.File.{IsSample, AreSamples, lines_of}
use Rattle.pb_lines.specs.Header.{IsHeaderLine}
use Rattle.series_model.specs.Series.{since}
use Rattle.series_model.specs.declared.sample.Sample.{Sample}
use Rattle.tier_store.specs.declared.finding.LaterLines.{LaterLines}
use Rattle.tier_store.specs.declared.finding.LaterLines.TheVariants.{At, Damaged}
use Rattle.etl_mover.specs.Lines.{IsSampleStart}

-- at the front stands a whole line of a sample of this type and year that is not earlier than n
pub record IsLaterStart (ty : PayloadType) (year : ℤ) (n : ℕ) (bytes : List ℕ) : Type 0 where
  pub sample : Sample
  pub rest : List ℕ
  pub are : bytes ≡ sample.line ++ 10 ∷ rest
  pub is : IsSample ty year sample
  pub late : n ≤ sample.t

-- how it goes on behind the earlier ones: with a later one, or with no sample's line
abbrev pub GoesOnWith : PayloadType → ℤ → ℕ → List ℕ → Bool → Type 0
GoesOnWith ty year n rest true = IsLaterStart ty year n rest
GoesOnWith ty year n rest false = IsSampleStart ty year rest → ⊥

-- So many bytes are the lines of the samples at the front that are earlier than n, all of them.
pub record SkipsLines (ty : PayloadType) (year : ℤ) (bytes : List ℕ) (n len : ℕ) (found : Bool) : Type 0 where
  pub samples : List Sample
  pub rest : List ℕ
  pub are : AreSamples ty year samples
  pub begin : bytes ≡ lines_of samples ++ rest
  pub long : len ≡ length (lines_of samples)
  pub earlier : since n samples ≡ []
  pub next : GoesOnWith ty year n rest found

-- the first of them, if there is one, is not earlier than n
abbrev pub BeginsAt : ℕ → List Sample → Type 0
BeginsAt n [] = Unit {0}
BeginsAt n (s ∷ rest) = n ≤ s.t

-- The samples whose lines begin at the first place are split at the second one: those before it are earlier than n, and the next one isn't.
pub record SplitsAt (samples : List Sample) (n from at : ℕ) : Type 0 where
  pub front : List Sample
  pub back : List Sample
  pub split : samples ≡ front ++ back
  pub earlier : since n front ≡ []
  pub later : BeginsAt n back
  pub place : at ≡ from + length (lines_of front)

-- where the first sample that is not earlier than n begins, or the end where there is none; no place is damaged
abbrev pub IsNext : List Sample → ℕ → ℕ → LaterLines → Type 0
IsNext samples n from (At at) = SplitsAt samples n from at
IsNext samples n from (Damaged at) = ⊥

-- the place is no further than this
abbrev pub IsUpTo : ℕ → LaterLines → Type 0
IsUpTo end (At at) = at ≤ end
IsUpTo end (Damaged at) = at ≤ end

-- lines begin no sooner than at this place
abbrev pub IsFrom : ℕ → LaterLines → Type 0
IsFrom from (At at) = from ≤ at
IsFrom from (Damaged at) = Unit {0}

-- between two places of bytes stand lines of samples of this type and year
pub record AreLinesFrom (ty : PayloadType) (year : ℤ) (from at : ℕ) (bytes : List ℕ) : Type 0 where
  pub samples : List Sample
  pub are : AreSamples ty year samples
  pub text : take (at - from) (drop from bytes) ≡ lines_of samples

-- Up to the place that is told stand lines of samples. Where it is damaged, none begins there, up to the end.
abbrev pub IsTold : Files → Name → ℕ → ℕ → PayloadType → ℤ → LaterLines → Type 0
IsTold files name from end ty year (At at) = HasFile files name (AreLinesFrom ty year from at)
IsTold files name from end ty year (Damaged at) = HasFile files name (λ b. AreLinesFrom ty year from at b × (IsSampleStart ty year (take (end - at) (drop at b)) → ⊥))

-- no place is told sooner than this one
abbrev pub IsNoSooner : ℕ → LaterLines → Type 0
IsNoSooner from (At at) = from ≤ at
IsNoSooner from (Damaged at) = from ≤ at

-- the bytes begin with the line of a header, which takes so many of them
pub record BeginsWithHeader (head_len : ℕ) (bytes line : List ℕ) (info : PayloadInfo) : Type 0 where
  pub long : head_len ≡ length line + 1
  pub text : take head_len bytes ≡ line ++ 10 ∷ []
  pub whole : HasNoNewline line
  pub header : IsHeaderLine line info

-- WHERE A FILE IS DAMAGED

-- a header's line of this length, and lines of samples of its type and year, stand up to the place
pub record IsGoodUpTo (head_len : ℕ) (bytes : List ℕ) (at : ℕ) : Type 0 where
  pub line : List ℕ
  pub info : PayloadInfo
  pub samples : List Sample
  pub header : BeginsWithHeader head_len bytes line info
  pub are : AreSamples info.ty info.year samples
  pub text : take at bytes ≡ line ++ 10 ∷ lines_of samples

-- A file is damaged, told at this place: it doesn't begin with a header's line of this length, which is told at 0; or no line of a sample begins here, behind
-- the header's line and lines of samples.
pub data IsBadFile (head_len : ℕ) (bytes : List ℕ) (at : ℕ) : Type 0 where
  no_header : at ≡ 0 → ((line : List ℕ) (info : PayloadInfo) → BeginsWithHeader head_len bytes line info → ⊥) → IsBadFile head_len bytes at
  no_line : (good : IsGoodUpTo head_len bytes at) → (IsSampleStart good.info.ty good.info.year (drop at bytes) → ⊥) → IsBadFile head_len bytes at

-- a part can't be copied from this place on: its file is damaged there, or a line of it can't be copied behind what the next store has
pub data IsBadPart (head_len : ℕ) (bytes : List ℕ) (at : ℕ) : Type 0 where
  unread : IsBadFile head_len bytes at → IsBadPart head_len bytes at
  no_file : IsGoodUpTo head_len bytes at → IsBadPart head_len bytes at

-- what a search tells of a file that is listed so long
abbrev pub SaysFile : ℕ → List ℕ → LaterLines → Type 0
SaysFile head_len bytes (At at) = IsGoodUpTo head_len bytes at
SaysFile head_len bytes (Damaged at) = IsBadFile head_len bytes at
