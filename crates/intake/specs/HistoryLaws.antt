-- What holds of all events of a sampled row.
use Rattle.std.specs.Prelude.{◌≡◌, ℕ, List, reverse}
use Rattle.series_model.specs.Sampling.{held_after, due_after}
use Rattle.series_model.specs.declared.sampling.ScanEvent.{ScanEvent}
use Rattle.intake.specs.Row.{fresh, after_all}

-- after any events a row holds the newest offer since the last reset, and is due when the history says
abbrev pub KeepsHistory : Type 0
KeepsHistory = (period : ℕ) (events : List ScanEvent) → after_all (fresh period) events ≡ record { period = period; cell = record { held = held_after period (reverse events); due = due_after period (reverse events) } }
