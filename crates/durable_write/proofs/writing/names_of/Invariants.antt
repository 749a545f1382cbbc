use Rattle.std.proofs.Common.{◌≡◌, take, map}
use Rattle.durable_write.specs.Held.{file_of}
use Rattle.durable_write.proofs.writing.names_of.Given as goal

abbrev pub invariant-loop-write : goal.invariant-loop-write
invariant-loop-write l = l.names.items ≡ map (λ p. file_of (l.fn.store, l.fn.rows) p.entry) (take l.write-index l.writes)
