-- What the bytes of a piece say: a file of the merge's type, or one with a bad line.
use Rattle.std.specs.Prelude.{◌≡◌, ◌≢◌, ◌⊎◌, ◌≤◌, ◌+◌, ℕ, ℤ, List, ◌∷◌, ◌++◌, length, take, drop, Contains}
use Rattle.std.specs.List.{AllByRecursion, AllZip}
use Rattle.line_escape.specs.Unescaping.{HasNoNewline}
use Rattle.pb_wire.specs.declared.payload.PayloadType.{PayloadType}
use Rattle.disk_model.specs.Files.{Name}
use Rattle.series_model.specs.declared.sample.Sample.{Sample}
use Rattle.series_model.specs.Series.{end_of}
use Rattle.pb_messages.specs.declared.info.PayloadInfo.{PayloadInfo}
use Rattle.pb_lines.specs.Header.{IsHeaderLine}
use Rattle.pb_lines.specs.File.{IsFile, IsSample, HasNoHeader, HasNoSample}
use Rattle.pb_file.specs.Search.{HasSampleAt, IsLineStart}
use Rattle.pb_file.specs.Skip.{from_place}
use Rattle.stream_merge.specs.Pieces.{NamedBytes}

-- the sample's line is an event of the type, which stands at its moment in some year
abbrev pub IsSampleOf : PayloadType → Sample → Type 0
IsSampleOf ty s = (year : ℤ) × IsSample ty year s

abbrev pub AreSamplesOf : PayloadType → List Sample → Type 0
AreSamplesOf ty samples = AllByRecursion (IsSampleOf ty) samples

-- BAD LINES

-- the bytes begin with a header of another type
pub record HasForeignHeader (ty : PayloadType) (bytes : List ℕ) : Type 0 where
  pub head : List ℕ
  pub rest : List ℕ
  pub info : PayloadInfo
  pub text : bytes ≡ head ++ 10 ∷ rest
  pub whole : HasNoNewline head
  pub header : IsHeaderLine head info
  pub other : info.ty ≢ ty

-- The bytes begin with a header of the type. From the first line of samples, or from some later one at which such a line stands, up to
-- this place they are the lines of samples of the header's year that rise, and here stands no such line that is later.
pub record IsBadLine (ty : PayloadType) (bytes : List ℕ) (at : ℕ) : Type 0 where
  pub head : List ℕ
  pub rest : List ℕ
  pub info : PayloadInfo
  pub start : ℕ
  pub samples : List Sample
  pub text : bytes ≡ head ++ 10 ∷ rest
  pub type : info.ty ≡ ty
  pub begins : IsLineStart bytes (length head + 1) start
  pub from : (start ≡ length head + 1) ⊎ HasSampleAt info bytes start
  pub order : start ≤ at
  pub lines : IsFile (from_place head start (take at bytes)) head info samples
  pub bad : HasNoSample info (λ t. end_of samples ≤ t) (drop at bytes)

-- a bad line begins at this place; no header, or one of another type, is bad at 0
abbrev pub IsBadFor : PayloadType → List ℕ → ℕ → Type 0
IsBadFor ty bytes at = ((at ≡ 0) × (HasNoHeader bytes ⊎ HasForeignHeader ty bytes)) ⊎ IsBadLine ty bytes at

-- one of the pieces has this name, and a bad line begins in it at this place
pub record IsDamaged (ty : PayloadType) (pieces : List NamedBytes) (name : Name) (at : ℕ) : Type 0 where
  pub piece : NamedBytes
  pub among : Contains pieces piece
  pub named : piece.name ≡ name
  pub bad : IsBadFor ty piece.bytes at

-- SAMPLES

-- the piece is a file of the type, and these are its samples
pub record IsReadAs (ty : PayloadType) (bytes : List ℕ) (samples : List Sample) : Type 0 where
  pub head : List ℕ
  pub info : PayloadInfo
  pub file : IsFile bytes head info samples
  pub type : info.ty ≡ ty

-- each piece is a file of the type, and these are their samples
abbrev pub AreReadAs : PayloadType → List NamedBytes → List (List Sample) → Type 0
AreReadAs ty pieces lists = AllZip (λ p xs. IsReadAs ty p.bytes xs) pieces lists
