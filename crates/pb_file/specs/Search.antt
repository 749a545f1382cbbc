-- Where the lines of a file part at a moment, and where a search of any bytes may end.
use Rattle.std.specs.Prelude.{◌≡◌, ◌⊎◌, ℕ, List, [], ◌∷◌, ◌++◌, Option, None, Some, length, take, drop}
use Rattle.line_escape.specs.Unescaping.{HasNoNewline}
use Rattle.series_model.specs.declared.sample.Sample.{Sample}
use Rattle.series_model.specs.Series.{before}
use Rattle.pb_messages.specs.declared.info.PayloadInfo.{PayloadInfo}
use Rattle.pb_lines.specs.Header.{IsHeaderLine}
use Rattle.pb_lines.specs.File.{IsSample, lines_of}

-- how many bytes the file of a header's line and samples has
abbrev pub end_place : List ℕ → List Sample → ℕ
end_place head samples = length (head ++ 10 ∷ lines_of samples)

-- where, in the file of this header's line and these samples, the first line begins that isn't earlier than a moment; the end where
-- none is
abbrev pub place_from : List ℕ → List Sample → ℕ → ℕ
place_from head samples n = end_place head (before n samples)

-- where the last line of a file begins, if it has one
abbrev pub IsLastLine : List ℕ → List Sample → Option ℕ → Type 0
IsLastLine head samples None = samples ≡ []
IsLastLine head samples (Some at) = (front : List Sample) × (s : Sample) × (samples ≡ front ++ s ∷ []) × (at ≡ end_place head front)

-- this place is where the samples are said to begin, the end of the bytes, or right behind a newline
abbrev pub IsLineStart : List ℕ → ℕ → ℕ → Type 0
IsLineStart bytes first at = (at ≡ first) ⊎ ((at ≡ length bytes) ⊎ ((front : List ℕ) × (take at bytes ≡ front ++ 10 ∷ [])))

-- the bytes begin with this line, which is a header's
pub record BeginsWithHeader (bytes head : List ℕ) (info : PayloadInfo) : Type 0 where
  pub rest : List ℕ
  pub text : bytes ≡ head ++ 10 ∷ rest
  pub whole : HasNoNewline head
  pub header : IsHeaderLine head info

-- the line of a sample of the header's type and year stands at the place
pub record HasSampleAt (info : PayloadInfo) (bytes : List ℕ) (at : ℕ) : Type 0 where
  pub sample : Sample
  pub rest : List ℕ
  pub is : IsSample info.ty info.year sample
  pub text : drop at bytes ≡ sample.line ++ 10 ∷ rest

-- a reading may begin at the place: where the samples are said to begin, at the end of the bytes, or at the line of a sample
abbrev pub MayBegin : PayloadInfo → List ℕ → ℕ → ℕ → Type 0
MayBegin info bytes first at = (at ≡ first) ⊎ ((at ≡ length bytes) ⊎ HasSampleAt info bytes at)
