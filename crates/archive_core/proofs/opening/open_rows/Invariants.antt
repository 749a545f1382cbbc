use Rattle.std.proofs.Common.{◌≡◌, [], take}
use Rattle.archive_core.specs.Opening.{memories}
use Rattle.archive_core.proofs.opening.open_rows.Given as goal

-- what is kept of the rows so far
abbrev pub invariant-loop-row : goal.invariant-loop-row
invariant-loop-row g l = l.kept.items ≡ memories l.store.manifests.items [] (take l.row-index l.row-items)
