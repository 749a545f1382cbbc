-- Lines of samples, and what an entry becomes with them.
use Rattle.std.specs.Prelude.{◌≡◌, ◌+◌, ℕ, ℤ, List, [], ◌∷◌, ◌++◌, length, nat_eq, if◌then◌else◌}
use Rattle.pb_wire.specs.declared.payload.PayloadType.{PayloadType}
use Rattle.series_model.specs.declared.sample.Sample.{Sample}
use Rattle.store_manifest.specs.declared.entry.Entry.{Entry}
use Rattle.pb_lines.specs.File.{IsSample, AreSamples, lines_of}

-- the entry with a line of so many bytes more, whose sample stands at t
abbrev pub with_line : ℕ → ℕ → Entry → Entry
with_line len t e = record e { len = e.len + len; first = if nat_eq e.count 0 then t else e.first; last = t; count = e.count + 1 }

-- and with the lines of these samples, one after another
abbrev pub with_lines : List Sample → Entry → Entry
with_lines [] e = e
with_lines (s ∷ rest) e = with_lines rest (with_line (length s.line + 1) s.t e)

-- at the front stands a whole line of a sample of this type and year
pub record IsSampleStart (ty : PayloadType) (year : ℤ) (bytes : List ℕ) : Type 0 where
  pub sample : Sample
  pub rest : List ℕ
  pub are : bytes ≡ sample.line ++ 10 ∷ rest
  pub is : IsSample ty year sample

-- So many bytes are the lines of all samples that stand at the front one after another.
pub record TakesLines (ty : PayloadType) (year : ℤ) (bytes : List ℕ) (entry : Entry) (len : ℕ) (new : Entry) : Type 0 where
  pub samples : List Sample
  pub rest : List ℕ
  pub are : AreSamples ty year samples
  pub begin : bytes ≡ lines_of samples ++ rest
  pub long : len ≡ length (lines_of samples)
  pub grows : new ≡ with_lines samples entry
  pub all : IsSampleStart ty year rest → ⊥
