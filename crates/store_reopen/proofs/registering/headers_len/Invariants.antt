use Rattle.std.proofs.Common.{◌≡◌, take}
use Rattle.store_reopen.specs.Adoption.{capped, headers_len}
use Rattle.store_reopen.proofs.registering.headers_len.Given as goal

abbrev pub invariant-loop-header : goal.invariant-loop-header
invariant-loop-header l = l.len ≡ capped (headers_len (take l.header-index l.headers))
