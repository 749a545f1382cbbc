use Rattle.std.proofs.Common.{◌≡◌, map, take}
use Rattle.etl_mover.specs.Move.{part_file}
use Rattle.etl_mover.proofs.moving.names_of.Given as goal

abbrev pub invariant-loop-part : goal.invariant-loop-part
invariant-loop-part l = l.names.items ≡ map (part_file l.store l.name) (take l.part-index l.parts)
