-- The raw text of an answer (PB file format): its samples by years, the years in order, each year's behind a header line and with an empty
-- line between two. An answer without samples is one header line.
use Rattle.std.specs.Prelude.{◌≡◌, ◌≢◌, ◌⊎◌, ◌≤◌, ◌<◌, ℕ, ℤ, pos, List, [], ◌∷◌, ◌++◌, All}
use Rattle.std.specs.List.{flat_map}
use Rattle.arch_time.specs.YearTime.{moment, IsInYear, IsSampleYear, start, end}
use Rattle.line_escape.specs.Escaping.{escaped}
use Rattle.pb_messages.specs.declared.info.PayloadInfo.{PayloadInfo}
use Rattle.pb_messages.specs.InfoSpelling.{info_text}
use Rattle.series_model.specs.declared.sample.Sample.{Sample}
use Rattle.pb_lines.specs.File.{lines_of}
use Rattle.act_model.specs.Out.{Subject}

-- the moment lies in the year
pub record HasMoment (year : ℤ) (t : ℕ) : Type 0 where
  pub secs : ℕ
  pub nano : ℕ
  pub in_year : IsInYear year secs nano
  pub at : t ≡ moment year secs nano

-- the sample stands in this year
pub record IsOfYear (year : ℤ) (s : Sample) : Type 0 where
  pub sample_year : IsSampleYear year
  pub moment : HasMoment year s.t

-- samples of one year
pub record Chunk : Type 0 where
  pub year : ℤ
  pub samples : List Sample

-- there are some, and the year has them all
pub record IsChunk (c : Chunk) : Type 0 where
  pub some : c.samples ≢ []
  pub sample_year : IsSampleYear c.year
  pub year : All (λ (s : Sample). HasMoment c.year s.t) c.samples

-- each is of another year than the one before it; where moments rise, of a later one
abbrev pub YearsDiffer : List Chunk → Type 0
YearsDiffer [] = Unit {0}
YearsDiffer (c ∷ []) = Unit {0}
YearsDiffer (c ∷ d ∷ cs) = (c.year ≢ d.year) × YearsDiffer (d ∷ cs)

-- the samples, one after another, are cut into chunks by years
pub record AreCut (samples : List Sample) (chunks : List Chunk) : Type 0 where
  pub all : samples ≡ flat_map (λ (c : Chunk). c.samples) chunks
  pub each : All IsChunk chunks
  pub differ : YearsDiffer chunks

-- the variable's header for this year
abbrev pub header_of : Subject → ℤ → PayloadInfo
header_of subject year = record { ty = subject.about.ty; name = subject.name; year = year; count = subject.about.count; headers = subject.about.headers }

-- the line of a header, with its newline
abbrev pub line_of_header : PayloadInfo → List ℕ
line_of_header info = escaped (info_text info) ++ 10 ∷ []

abbrev pub header_text : Subject → ℤ → List ℕ
header_text subject year = line_of_header (header_of subject year)

-- the header's line, and the samples' lines as they stand
abbrev pub chunk_text : Subject → Chunk → List ℕ
chunk_text subject c = header_text subject c.year ++ lines_of c.samples

-- an empty line between two
abbrev pub chunks_text : Subject → List Chunk → List ℕ
chunks_text subject [] = []
chunks_text subject (c ∷ []) = chunk_text subject c
chunks_text subject (c ∷ d ∷ cs) = chunk_text subject c ++ 10 ∷ chunks_text subject (d ∷ cs)

-- the year of the moment, or the nearest one that samples stand in
pub record IsNearestYear (year : ℤ) (t : ℕ) : Type 0 where
  pub sample_year : IsSampleYear year
  pub nearest : (HasMoment year t) ⊎ ((t < start) × (year ≡ pos 1991)) ⊎ ((end ≤ t) × (year ≡ pos 2499))

-- one header, of the year that is nearest to the beginning of the interval
pub record IsHeaderAlone (subject : Subject) (text : List ℕ) : Type 0 where
  pub year : ℤ
  pub nearest : IsNearestYear year subject.query.from
  pub is : text ≡ header_text subject year

-- the samples' chunks
pub record AreChunks (subject : Subject) (samples : List Sample) (text : List ℕ) : Type 0 where
  pub chunks : List Chunk
  pub cut : AreCut samples chunks
  pub is : text ≡ chunks_text subject chunks

-- The raw text of an answer with these samples.
abbrev pub IsRaw : Subject → List Sample → List ℕ → Type 0
IsRaw subject [] text = IsHeaderAlone subject text
IsRaw subject (s ∷ samples) text = AreChunks subject (s ∷ samples) text
