-- How much of a raw text an output has written, since its sink had written a and it had gathered the old bytes. The sink has written b
-- now, and the new bytes are gathered.
use Rattle.std.specs.Prelude.{◌≡◌, ◌≢◌, ◌⊎◌, ℕ, ℤ, List, [], ◌∷◌, ◌++◌, Option, None, Some}
use Rattle.std.specs.Io.KnownBytes.{Appends}
use Rattle.edge_io.specs.Stream.{AppendsFront}
use Rattle.edge_io.specs.Sent.{Sends}
use Rattle.pb_messages.specs.declared.info.PayloadInfo.{PayloadInfo}
use Rattle.series_model.specs.declared.sample.Sample.{Sample}
use Rattle.act_model.specs.Out.{Subject}
use Rattle.retrieval_query.specs.declared.head.HeaderLines.{HeaderLines}
use Rattle.retrieval_query.specs.Raw.{Chunk, AreCut, IsNearestYear, IsHeaderAlone, IsRaw, header_of, header_text, chunks_text}

-- the year of the last chunk
abbrev pub last_year : List Chunk → Option ℤ
last_year [] = None
last_year (c ∷ []) = Some c.year
last_year (c ∷ d ∷ cs) = last_year (d ∷ cs)

-- the bytes are the chunks of the samples, the last of which is of this year
pub record IsText (subject : Subject) (samples : List Sample) (year : Option ℤ) (bytes : List ℕ) : Type 0 where
  pub chunks : List Chunk
  pub cut : AreCut samples chunks
  pub last : year ≡ last_year chunks
  pub are : bytes ≡ chunks_text subject chunks

-- an empty line behind a chunk
abbrev pub gap : Option ℤ → List ℕ
gap None = []
gap (Some year) = 10 ∷ []

-- what stands between the last sample and one of this year: nothing in one year, and otherwise a header's line
abbrev pub IsOpening : Subject → Option ℤ → ℤ → List ℕ → Type 0
IsOpening subject last year piece = ((last ≡ Some year) × (piece ≡ [])) ⊎ ((last ≢ Some year) × (piece ≡ gap last ++ header_text subject year))

-- the header is made of what is known of the variable
abbrev pub IsHeader : Subject → PayloadInfo → Type 0
IsHeader subject info = info ≡ header_of subject info.year

-- what stands before a sample of this year went out, or is gathered
pub record Opens (a b : Option (List ℕ)) (old new : List ℕ) (subject : Subject) (last : Option ℤ) (year : ℤ) : Type 0 where
  pub piece : List ℕ
  pub opening : IsOpening subject last year piece
  pub sent : Sends a b (old ++ piece) new

-- a front of it went out
pub record OpensFront (a b : Option (List ℕ)) (old : List ℕ) (subject : Subject) (last : Option ℤ) (year : ℤ) : Type 0 where
  pub piece : List ℕ
  pub opening : IsOpening subject last year piece
  pub front : AppendsFront a b (old ++ piece)

-- what stands behind the samples: a header line, where there are none
abbrev pub IsEnding : Subject → Option ℤ → List ℕ → Type 0
IsEnding subject None piece = IsHeaderAlone subject piece
IsEnding subject (Some year) piece = piece ≡ []

-- it went out, or is gathered
pub record Closes (a b : Option (List ℕ)) (old new : List ℕ) (subject : Subject) (last : Option ℤ) : Type 0 where
  pub piece : List ℕ
  pub ending : IsEnding subject last piece
  pub sent : Sends a b (old ++ piece) new

-- a front of it went out
pub record ClosesFront (a b : Option (List ℕ)) (old : List ℕ) (subject : Subject) (last : Option ℤ) : Type 0 where
  pub piece : List ℕ
  pub ending : IsEnding subject last piece
  pub front : AppendsFront a b (old ++ piece)

-- Header lines are made of what is known of the variable. Until one is put, the year is the nearest to the beginning of the interval.
pub record HasHead (subject : Subject) (head : Option HeaderLines) (last : Option ℤ) : Type 0 where
  pub here : HeaderLines
  pub is : head ≡ Some here
  pub info : IsHeader subject here.info
  pub last_is : here.last ≡ last
  pub nearest : last ≡ None → IsNearestYear here.info.year subject.query.from

-- The text as far as these samples went out, or is gathered.
pub record Gives (a b : Option (List ℕ)) (old new : List ℕ) (head : Option HeaderLines) (subject : Subject) (xs : List Sample) : Type 0 where
  pub last : Option ℤ
  pub has_head : HasHead subject head last
  pub bytes : List ℕ
  pub text : IsText subject xs last bytes
  pub sent : Sends a b (old ++ bytes) new

-- The whole text went out, and nothing is gathered.
pub record Finishes (a b : Option (List ℕ)) (old new : List ℕ) (subject : Subject) (xs : List Sample) : Type 0 where
  pub text : List ℕ
  pub raw : IsRaw subject xs text
  pub all : Appends a b (old ++ text)
  pub none : new ≡ []

-- A front of the text went out.
pub record Breaks (a b : Option (List ℕ)) (old : List ℕ) (subject : Subject) (xs : List Sample) : Type 0 where
  pub text : List ℕ
  pub raw : IsRaw subject xs text
  pub front : AppendsFront a b (old ++ text)
