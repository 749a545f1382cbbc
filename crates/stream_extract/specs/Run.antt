-- What a run of samples that was read at once comes to.
use Rattle.std.specs.Prelude.{◌≡◌, ◌⊎◌, ℕ, ◌≤◌, List, ◌++◌, Option, IsSome, map}
use Rattle.std.specs.Io.KnownBytes.{Appends}
use Rattle.series_model.specs.declared.sample.Sample.{Sample}
use Rattle.pb_lines.specs.Stream.{sample}
use Rattle.pb_lines.specs.Reader.{Chunks, Passes, to_come, work_left}
use Rattle.stream_extract.specs.Answer.{Answering, TakesAll}

-- A front of the bytes was written, and these are left.
abbrev pub Sends : Option (List ℕ) → Option (List ℕ) → List ℕ → List ℕ → Type 0
Sends a b bytes left = (sent : List ℕ) × (bytes ≡ sent ++ left) × Appends a b sent

-- Samples of a chunk were read, and what is known of the answer by them was added to a text.
pub record Runs (old new : Chunks) (a b : Answering) (text total : List ℕ) : Type 0 where
  pub samples : List Sample
  pub passes : (left : Option (List ℕ)) → Passes old new (to_come old left) (to_come new left) (map sample samples)
  pub takes : TakesAll a b samples text total
  pub section : new.section ≡ old.section
  pub refused : new.refused ≡ old.refused
  pub work : work_left new ≤ work_left old
  pub query : b.query ≡ a.query
  pub inside : IsSome old.section.chunk

-- Samples were read, or nothing was done.
abbrev pub RunsOn : Chunks → Chunks → Answering → Answering → List ℕ → List ℕ → Type 0
RunsOn old new a b text total = ((new ≡ old) × (b ≡ a) × (total ≡ text)) ⊎ Runs old new a b text total
