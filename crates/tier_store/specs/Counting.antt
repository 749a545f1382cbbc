-- How many samples of a file are later than a moment.
use Rattle.std.specs.Prelude.{◌≡◌, ◌-◌, ◌+◌, ℕ, ℤ, List, ◌++◌, length, take, drop, Option, None, Some, IsTrue}
use Rattle.disk_model.specs.Files.{Name, Files, HasFile}
use Rattle.disk_model.specs.declared.disk.Disk.{Ghosts}
use Rattle.gate_journal.specs.DiskShown.{ReadsDisk, shown_by}
use Rattle.pb_wire.specs.declared.payload.PayloadType.{PayloadType}
use Rattle.series_model.specs.declared.sample.Sample.{Sample}
use Rattle.series_model.specs.Series.{since}
use Rattle.pb_lines.specs.File.{AreSamples, lines_of}
use Rattle.etl_mover.specs.Lines.{IsSampleStart}

-- the first moment that is later than this one, and 0 where there is none
abbrev pub behind : Option ℕ → ℕ
behind None = 0
behind (Some t) = t + 1

-- a disk that tells its files was only read
abbrev pub OnlyReadsDisk : {D R : Type 0} → Ghosts D R → D → D → Type 0
OnlyReadsDisk {D} {R} disk old new = IsTrue disk.tells → ReadsDisk (shown_by disk old) (shown_by disk new)

-- So many bytes are the lines of all samples that stand at the front one after another, and so many of these are not earlier than n.
pub record CountsLines (ty : PayloadType) (year : ℤ) (bytes : List ℕ) (n len count : ℕ) : Type 0 where
  pub samples : List Sample
  pub rest : List ℕ
  pub are : AreSamples ty year samples
  pub begin : bytes ≡ lines_of samples ++ rest
  pub long : len ≡ length (lines_of samples)
  pub counted : count ≡ length (since n samples)
  pub all : IsSampleStart ty year rest → ⊥

-- between two places a file has the lines of these samples
pub record HasLines (files : Files) (name : Name) (from end : ℕ) (ty : PayloadType) (year : ℤ) (samples : List Sample) : Type 0 where
  pub are : AreSamples ty year samples
  pub lines : HasFile files name (λ b. take (end - from) (drop from b) ≡ lines_of samples)
