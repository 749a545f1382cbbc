-- A sampled row keeps what its history says.
use Rattle.std.proofs.Common.{◌≡◌, ℕ, List, [], ◌∷◌, refl, ap, ◌∙◌}
use Rattle.series_model.specs.Sampling.{Cell, first_cell, cell_after, cell_after_all}
use Rattle.series_model.specs.declared.sampling.ScanEvent.{ScanEvent}
use Rattle.series_model.proofs.SamplingLemmas.{cell_is_history}
use Rattle.intake.specs.Row.{fresh, after_all}
use Rattle.intake.specs.HistoryLaws.{KeepsHistory}

cells : (period : ℕ) (cell : Cell) (events : List ScanEvent) → after_all (record { period = period; cell = cell }) events ≡ record { period = period; cell = cell_after_all period cell events }
cells period cell [] = refl
cells period cell (event ∷ later) = cells period (cell_after period cell event) later

pub keeps_history : KeepsHistory
keeps_history period events = cells period first_cell events ∙ ap (λ (cell : Cell). record (fresh period) { cell = cell }) (cell_is_history period events)
