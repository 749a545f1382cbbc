use Rattle.std.proofs.Common.{vec_len, map}
use Rattle.workers.proofs.Leaving.{StillMeets}
use Rattle.workers.proofs.meeting.meet_workers.Given as goal

abbrev pub invariant-loop-worker : goal.invariant-loop-worker
invariant-loop-worker g l = StillMeets g.R.Room.steps l.rooms l.fn.pass l.pass (map (λ w. w.pass) l.fn.workers.items) (map (λ w. w.pass) l.workers.items)

abbrev pub decreases-loop-worker : goal.decreases-loop-worker
decreases-loop-worker g l = vec_len l.workers
