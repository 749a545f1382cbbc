use Rattle.std.proofs.Common.{◌≡◌, take}
use Rattle.tier_store.specs.Counting.{behind}
use Rattle.tier_store.specs.Tallying.{end_of_files}
use Rattle.tier_store.proofs.tallying.last_listed.Given as goal

abbrev pub invariant-loop-entry : goal.invariant-loop-entry
invariant-loop-entry l = behind l.last ≡ end_of_files (behind l.fn.before) (take l.entry-index l.entries)
