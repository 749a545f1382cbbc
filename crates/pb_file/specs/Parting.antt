-- What the steps of a search come to.
use Rattle.std.specs.Prelude.{◌≡◌, ◌⊎◌, ℕ, ◌+◌, ◌-◌, ◌<◌, ◌≤◌, List, ◌∷◌, ◌++◌, Option, None, Some, IfSome, length, drop}
use Rattle.series_model.specs.declared.sample.Sample.{Sample}
use Rattle.series_model.specs.Series.{before}
use Rattle.pb_messages.specs.declared.info.PayloadInfo.{PayloadInfo}
use Rattle.pb_file.specs.declared.search.Parted.{Parted}
use Rattle.pb_file.specs.declared.search.FoundLine.{FoundLine}
use Rattle.pb_lines.specs.File.{IsSample}
use Rattle.pb_file.specs.Skip.{BeginsBehind}
use Rattle.pb_file.specs.Search.{place_from, IsLastLine, IsLineStart, HasSampleAt, MayBegin}

-- the samples of the file part so at a moment
abbrev pub IsPartedAt : List ℕ → List Sample → ℕ → Parted → Type 0
IsPartedAt head samples n p = (p.next ≡ place_from head samples n) × IsLastLine head (before n samples) p.last

-- lines begin at both places, or it is the end
abbrev pub AreLineStarts : List ℕ → ℕ → Parted → Type 0
AreLineStarts bytes first p = IsLineStart bytes first p.next × IfSome p.last (λ at. IsLineStart bytes first at)

-- from both places on a reading may begin, from the last line's with a sample
abbrev pub AreBegins : PayloadInfo → List ℕ → ℕ → Parted → Type 0
AreBegins info bytes first p = MayBegin info bytes first p.next × IfSome p.last (λ at. HasSampleAt info bytes at)

-- where the first line begins from the middle on, if one begins at `low`
abbrev pub BeginsFrom : List ℕ → ℕ → ℕ → ℕ → Type 0
BeginsFrom bytes low middle at = ((middle ≡ low) × (at ≡ low)) ⊎ ((low < middle) × BeginsBehind bytes (middle - 1) at)

-- the line of a sample of the type and year stands there
pub record IsLineAt (info : PayloadInfo) (bytes : List ℕ) (f : FoundLine) : Type 0 where
  pub sample : Sample
  pub rest : List ℕ
  pub is : IsSample info.ty info.year sample
  pub text : drop f.at bytes ≡ sample.line ++ 10 ∷ rest
  pub moment : f.t ≡ sample.t
  pub end : f.end ≡ f.at + length sample.line + 1

-- the first line from the middle on, if it begins before `next`
abbrev pub IsFoundIn : PayloadInfo → List ℕ → ℕ → ℕ → ℕ → Option FoundLine → Type 0
IsFoundIn info bytes low middle next (Some f) = BeginsFrom bytes low middle f.at × (f.at < next) × IsLineAt info bytes f
IsFoundIn info bytes low middle next None = (at : ℕ) × BeginsFrom bytes low middle at × (next ≤ at)
