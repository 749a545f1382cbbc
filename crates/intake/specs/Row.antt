-- A row that is sampled at a period, and what an event makes of it. The cell is the one that keeps what the whole history of offers, ticks,
-- pauses and resumes says: what is held for the next tick, and from when on a tick is due.
use Rattle.std.specs.Prelude.{ℕ, List, [], ◌∷◌}
use Rattle.series_model.specs.Sampling.{Cell, first_cell, cell_after}
use Rattle.series_model.specs.declared.sampling.ScanEvent.{ScanEvent}

pub record SampledRow : Type 0 where
  pub period : ℕ
  pub cell : Cell

-- a row that has just been registered
abbrev pub fresh : ℕ → SampledRow
fresh period = record { period = period; cell = first_cell }

-- the row after one more event
abbrev pub after : SampledRow → ScanEvent → SampledRow
after row event = record { period = row.period; cell = cell_after row.period row.cell event }

-- the row after more events, the oldest first
abbrev pub after_all : SampledRow → List ScanEvent → SampledRow
after_all row [] = row
after_all row (event ∷ later) = after_all (after row event) later
