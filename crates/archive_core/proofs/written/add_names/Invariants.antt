use Rattle.std.proofs.Common.{◌≡◌, ◌++◌, take}
use Rattle.std.specs.Prelude.{map}
use Rattle.archive_core.specs.Written.{written_name}
use Rattle.archive_core.proofs.written.add_names.Given as goal

-- the names so far
abbrev pub invariant-loop-entry : goal.invariant-loop-entry
invariant-loop-entry l = l.names.items ≡ l.fn.names.items ++ map (written_name l.rows l.running) (take l.entry-index l.entry-items)
