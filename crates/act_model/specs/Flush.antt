-- Flush: accepted samples become durable. Whole tails, in the order of the rows, go to the ends of store 1, until they have as many bytes
-- as the limit says. One flush of 64 MiB leaves no tail.
use Rattle.std.specs.Prelude.{◌≡◌, ℕ, ◌+◌, List, [], ◌∷◌, length, true, if◌then◌else◌, nat_le, Some, None}
use Rattle.series_model.specs.declared.batch.RowSamples.{RowSamples}
use Rattle.act_model.specs.Machine.{Machine, Appends, held_bytes}
use Rattle.act_model.specs.Outcome.{Acts, all_go, Makes}
use Rattle.act_model.specs.Reply.{Reply}
use Rattle.act_model.specs.Rows.{RowState, is_empty, size_of}
use Rattle.act_model.specs.declared.acts.Answer.TheVariants.{Flushed}

-- whole tails in order of rows, at least one where any is held, until they have limit bytes
abbrev pub batch_from : ℕ → List RowState → ℕ → ℕ → List RowSamples
batch_from limit [] i taken = []
batch_from limit (row ∷ rows) i taken =
    if nat_le limit taken
    then []
    else if is_empty row.tail then batch_from limit rows (i + 1) taken else record { row = i; samples = row.tail } ∷ batch_from limit rows (i + 1) (taken + size_of row.tail)

-- what a flush takes
abbrev pub batch_of : ℕ → Machine → List RowSamples
batch_of limit m = batch_from limit m.rows 0 0

-- how many samples those are
abbrev pub count_in : List RowSamples → ℕ
count_in [] = 0
count_in (p ∷ batch) = length p.samples + count_in batch

-- the batch is appended to the short term, and what the intake still holds is told
abbrev pub Flushes : ℕ → Machine → Reply → Machine → Type 0
Flushes limit mid answer new = ((samples : ℕ) × (mid.told ≡ true → samples ≡ count_in (batch_of limit mid)) × (answer ≡ Flushed samples (held_bytes new.rows) new.doors)) × Makes (Appends (batch_of limit mid)) mid new

abbrev pub FlushStep : ℕ → Machine → Reply → Machine → Type 0
FlushStep limit old answer new = Acts (λ m. None) (Flushes limit) (λ m. Some (Appends (batch_of limit m))) all_go old answer new
