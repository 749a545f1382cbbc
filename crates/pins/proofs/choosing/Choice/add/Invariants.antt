use Rattle.std.proofs.Common.{◌≡◌, ◌++◌, List, take}
use Rattle.pins.specs.Choosing.{IsChoice, listed}
use Rattle.pins.specs.declared.choosing.Listed.{Listed}
use Rattle.pins.proofs.choosing.Choice.add.Given as goal

-- the entries so far are told
abbrev pub invariant-loop-entry : goal.invariant-loop-entry
invariant-loop-entry l = ((told : List Listed) → IsChoice told l.initial.self → IsChoice (told ++ listed l.store (take l.entry-index l.entries)) l.self) × (l.self.from ≡ l.initial.self.from) × (l.self.to ≡ l.initial.self.to)
