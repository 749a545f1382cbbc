use Rattle.std.proofs.Common.{◌≡◌, map, take}
use Rattle.moves.specs.Parts.{end_of}
use Rattle.moves.proofs.parts.tell_ends.Given as goal

abbrev pub invariant-loop-entry : goal.invariant-loop-entry
invariant-loop-entry l = l.ends.items ≡ map end_of (take l.entry-index l.entries)
