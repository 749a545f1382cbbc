use Rattle.std.proofs.Common.{◌≡◌, take}
use Rattle.std.specs.List.{flat_map}
use Rattle.archive_core.specs.Written.{names_of_slot}
use Rattle.archive_core.proofs.written.written_names.Given as goal

-- the names so far
abbrev pub invariant-loop-slot : goal.invariant-loop-slot
invariant-loop-slot l = l.names.items ≡ flat_map (names_of_slot l.rows) (take l.slot-index l.slots)
