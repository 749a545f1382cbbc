use Rattle.std.proofs.Common.{◌≡◌, length, take}
use Rattle.store_manifest.specs.Batches.{whole}
use Rattle.store_manifest.proofs.whole.encode_whole.Given as goal

abbrev pub invariant-entries : goal.invariant-entries
invariant-entries l = l.out.items ≡ whole l.fn.g (take (length l.yielded) l.fn.entries)
