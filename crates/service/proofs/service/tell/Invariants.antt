use Rattle.std.proofs.Common.{◌≡◌, map, take}
use Rattle.service.specs.Service.{told_of}
use Rattle.service.proofs.service.tell.Given as goal

abbrev pub invariant-loop-worker : goal.invariant-loop-worker
invariant-loop-worker g l = l.told ≡ told_of (map (λ w. w.end) (take l.worker-index l.workers))
