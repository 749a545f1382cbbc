-- The files of partitions: a header's line, and then the lines of samples of its type and year, each later than the one before.
use Rattle.std.specs.Prelude.{◌≡◌, ◌≢◌, ◌⊎◌, ℕ, ℤ, ◌≤◌, List, [], ◌∷◌, ◌++◌, take, drop}
use Rattle.std.specs.List.{AllByRecursion}
use Rattle.pb_wire.specs.declared.payload.PayloadType.{PayloadType}
use Rattle.line_escape.specs.Unescaping.{HasNoNewline}
use Rattle.series_model.specs.declared.sample.Sample.{Sample}
use Rattle.series_model.specs.Series.{IsRising, end_of}
use Rattle.pb_messages.specs.declared.info.PayloadInfo.{PayloadInfo}
use Rattle.pb_lines.specs.Header.{IsHeaderLine}
use Rattle.pb_lines.specs.Sample.{IsSampleLine}

-- the sample's line is whole, and means an event of this type at its moment of this year
pub record IsSample (ty : PayloadType) (year : ℤ) (s : Sample) : Type 0 where
  pub whole : HasNoNewline s.line
  pub meant : IsSampleLine ty year s.line s.t

-- all are samples of this type and year
abbrev pub AreSamples : PayloadType → ℤ → List Sample → Type 0
AreSamples ty year samples = AllByRecursion (IsSample ty year) samples

-- the lines of samples, each with its newline
abbrev pub lines_of : List Sample → List ℕ
lines_of [] = []
lines_of (s ∷ rest) = s.line ++ 10 ∷ lines_of rest

-- The bytes are the header's line and the lines of samples of its type and year, whose moments rise strictly.
pub record IsFile (bytes head : List ℕ) (info : PayloadInfo) (samples : List Sample) : Type 0 where
  pub whole : HasNoNewline head
  pub header : IsHeaderLine head info
  pub lines : AreSamples info.ty info.year samples
  pub rising : IsRising samples
  pub text : bytes ≡ head ++ 10 ∷ lines_of samples

-- THE FIRST BAD LINE

-- no header's line with its newline stands at the front
abbrev pub HasNoHeader : List ℕ → Type 0
HasNoHeader bytes = (line rest : List ℕ) (info : PayloadInfo) → bytes ≡ line ++ 10 ∷ rest → HasNoNewline line → IsHeaderLine line info → ⊥

-- Bytes are there, but at their front stands no line, with its newline, of a sample of the header's type and year at one of these moments.
pub record HasNoSample (info : PayloadInfo) (is_good : ℕ → Type 0) (bytes : List ℕ) : Type 0 where
  pub some : bytes ≢ []
  pub none : (s : Sample) (rest : List ℕ) → bytes ≡ s.line ++ 10 ∷ rest → IsSample info.ty info.year s → is_good s.t → ⊥

-- The bytes before the place are a file, and there stands no sample that is later than those before it.
pub record IsBadSampleAt (bytes : List ℕ) (at : ℕ) : Type 0 where
  pub head : List ℕ
  pub info : PayloadInfo
  pub samples : List Sample
  pub front : IsFile (take at bytes) head info samples
  pub bad : HasNoSample info (λ t. end_of samples ≤ t) (drop at bytes)

-- the first bad line begins at this place: it is no header, no sample, not later than the one before, torn, or the header is missing
abbrev pub IsBadAt : List ℕ → ℕ → Type 0
IsBadAt bytes at = ((at ≡ 0) × HasNoHeader bytes) ⊎ IsBadSampleAt bytes at
