-- Samples of a chunk whose lines stand one behind another, held and not yet read.
use Rattle.std.specs.Prelude.{◌≡◌, ◌≢◌, ℕ, ℤ, ◌+◌, ◌<◌, ◌≤◌, List, [], ◌∷◌, ◌++◌, Some, None, false, length, take, drop}
use Rattle.std.specs.List.{AllByRecursion}
use Rattle.edge_io.specs.Lines.{max_line}
use Rattle.pb_wire.specs.declared.payload.PayloadType.{PayloadType}
use Rattle.line_escape.specs.Unescaping.{HasNoNewline}
use Rattle.series_model.specs.declared.sample.Sample.{Sample}
use Rattle.series_model.specs.Series.{RisesFrom}
use Rattle.pb_messages.specs.declared.info.PayloadInfo.{PayloadInfo}
use Rattle.pb_lines.specs.Sample.{IsSampleLine}
use Rattle.pb_lines.specs.File.{lines_of}
use Rattle.pb_lines.specs.Reader.{Chunks, lines_taken, bytes_taken, work_left}
use Rattle.pb_lines.specs.declared.run.Run.{Run}

-- the sample's line is whole, has bytes, not more than a line may have, and means an event of this type at its moment of this year
pub record IsRunLine (ty : PayloadType) (year : ℤ) (s : Sample) : Type 0 where
  pub whole : HasNoNewline s.line
  pub some : s.line ≢ []
  pub short : length s.line ≤ max_line
  pub meant : IsSampleLine ty year s.line s.t

abbrev pub AreRunLines : PayloadType → ℤ → List Sample → Type 0
AreRunLines ty year samples = AllByRecursion (IsRunLine ty year) samples

-- At the front of the bytes stand the lines of samples, each later than the one before it; the first is later than a moment, and none
-- later than another.
pub record IsRun (ty : PayloadType) (year : ℤ) (after to : ℕ) (bytes : List ℕ) (run : Run) : Type 0 where
  pub front : List Sample
  pub last : Sample
  pub are : AreRunLines ty year (front ++ last ∷ [])
  pub rising : RisesFrom (after + 1) (front ++ last ∷ [])
  pub within : run.len ≤ length bytes
  pub text : take run.len bytes ≡ lines_of (front ++ last ∷ [])
  pub count : run.count ≡ length (front ++ last ∷ [])
  pub t : run.t ≡ last.t
  pub upto : last.t ≤ to
  pub ending : run.last ≡ length last.line

-- the samples of a run
abbrev pub samples_of : {ty : PayloadType} {year : ℤ} {after to : ℕ} {bytes : List ℕ} {run : Run} → IsRun ty year after to bytes run → List Sample
samples_of r = r.front ++ r.last ∷ []

-- A reader holds a run of the chunk that it stands in.
pub record HoldsRun (c : Chunks) (after to : ℕ) (run : Run) : Type 0 where
  pub idle : c.pending ≡ false
  pub going : c.refused ≡ None
  pub info : PayloadInfo
  pub inside : c.section.chunk ≡ Some info
  pub is : IsRun info.ty info.year after to c.lines.held run

-- The run was taken, and all else is as before.
pub record TakesRun (old new : Chunks) (run : Run) : Type 0 where
  pub section : new.section ≡ old.section
  pub refused : new.refused ≡ old.refused
  pub held : new.lines.held ≡ drop run.len old.lines.held
  pub lines : lines_taken new ≡ lines_taken old + run.count
  pub bytes : bytes_taken new ≡ bytes_taken old + run.len
  pub work : work_left new < work_left old
