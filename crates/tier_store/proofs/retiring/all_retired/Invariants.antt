use Rattle.std.proofs.Common.{◌≡◌, take}
use Rattle.std.specs.Prelude.{map}
use Rattle.tier_store.specs.Retiring.{retired_of}
use Rattle.tier_store.proofs.retiring.all_retired.Given as goal

-- the files so far
abbrev pub invariant-loop-entry : goal.invariant-loop-entry
invariant-loop-entry l = l.files.items ≡ map (retired_of (l.store, l.rows)) (take l.entry-index l.entries)
