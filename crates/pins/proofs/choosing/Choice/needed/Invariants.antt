use Rattle.std.proofs.Common.{◌≤◌, drop, length}
use Rattle.std.specs.Prelude.{All}
use Rattle.pins.specs.Choosing.{StartsPast}
use Rattle.pins.proofs.choosing.Choice.needed.Given as goal

-- those from here on begin past the interval
abbrev pub invariant-files : goal.invariant-files
invariant-files l = record { fits : l.count ≤ length l.self.rest.items; past : All (StartsPast l.self.from l.self.to) (drop l.count l.self.rest.items) }

abbrev pub decreases-files : goal.decreases-files
decreases-files l = l.count
