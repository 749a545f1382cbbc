use Rattle.std.proofs.Common.{◌≡◌, ◌+◌, ◌-◌, ◌*◌, ◌^◌, min, length}
use Rattle.store_manifest.proofs.whole.whole_len.Given as goal

abbrev pub invariant-entries : goal.invariant-entries
invariant-entries l = l.len ≡ min (2 + 49 * length l.yielded) (2 ^ 64 - 1)
