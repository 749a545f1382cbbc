-- What is kept in memory of a row beside its tail: the first moment that is later than all its accepted samples, and what it holds for its
-- next tick, if it is sampled.
use Rattle.std.specs.Prelude.{ℕ, Option, Some, None}
use Rattle.intake.specs.Row.{SampledRow, fresh, after}
use Rattle.pb_messages.specs.declared.about.About.{About}
use Rattle.pb_messages.specs.declared.about.Method.{Method}
use Rattle.pb_messages.specs.declared.about.Method.TheVariants.{Monitor, Scan}
use Rattle.series_model.specs.Sampling.{Cell, first_cell}
use Rattle.series_model.specs.declared.sampling.ScanEvent.TheVariants.{Cleared}
use Rattle.intake_half.specs.declared.memory.RowMemory.{RowMemory}

-- what is held of a row for its next tick: nothing where it isn't sampled
abbrev pub cell_in : Option SampledRow → Cell
cell_in None = first_cell
cell_in (Some sampled) = sampled.cell

-- the period of a row that is sampled
abbrev pub period_in : Option SampledRow → Option ℕ
period_in None = None
period_in (Some sampled) = Some sampled.period

-- what is kept of the sampling of a row that was just registered
abbrev pub sampling_by : Method → Option SampledRow
sampling_by Monitor = None
sampling_by (Scan period) = Some (fresh period)

-- what is kept of a row that was just registered
abbrev pub fresh_memory : About → RowMemory
fresh_memory about = record { next = 0; scan = sampling_by about.method }

-- what is kept of a row under a new name: it takes samples from the moment on from which the old one took them
abbrev pub renamed_memory : About → ℕ → RowMemory
renamed_memory about next = record { next = next; scan = sampling_by about.method }

-- what is kept of a row whose state is set: nothing is held, and a tick is due at once
abbrev pub cleared : RowMemory → RowMemory
cleared memory = record memory { scan = clear memory.scan }
  where
    clear : Option SampledRow → Option SampledRow
    clear None = None
    clear (Some sampled) = Some (after sampled Cleared)
