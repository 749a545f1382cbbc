use Rattle.std.proofs.Common.{rules, ◌≡◌, ◌++◌, ◌∷◌, [], map}
use Rattle.workers.proofs.Leaving.{last_of_left, meets_none, meets_more, meets_all}
use Rattle.workers.proofs.Pushing.{passes_pushed, no_passes}
use Rattle.workers.proofs.meeting.meet_workers.Goals as goal

pub meet-requires-clause-note : goal.meet-requires-clause-note
meet-requires-clause-note g c =
    let is : c.loop-worker.workers.items ≡ c.pop.new.self.items ++ c.in-Some.worker ∷ [] = search rules in
    last_of_left g.R.Room.steps c.args.rooms.now c.loop-worker.pass (map (λ w. w.pass) c.pop.new.self.items) c.in-Some.worker.pass (rw (← passes_pushed c.loop-worker.workers.items c.pop.new.self.items c.in-Some.worker is) c.loop-worker.invariant.left)

pub loop-worker-init : goal.loop-worker-init
loop-worker-init g c = meets_none g.R.Room.steps c.args.rooms.now c.args.pass.now (map (λ w. w.pass) c.args.workers.items) c.requires

pub loop-worker-preserved : goal.loop-worker-preserved
loop-worker-preserved g c =
    let is : c.loop-worker.workers.items ≡ c.pop.new.self.items ++ c.in-Some.worker ∷ [] = search rules in
    meets_more g.R.Room.steps c.args.rooms.now c.args.pass.now c.loop-worker.pass c.meet.new.pass (map (λ w. w.pass) c.args.workers.items) (map (λ w. w.pass) c.pop.new.self.items) c.in-Some.worker.pass (rw (← passes_pushed c.loop-worker.workers.items c.pop.new.self.items c.in-Some.worker is) c.loop-worker.invariant) c.meet.ensures

pub returns : goal.returns
returns g c =
    let is : c.loop-worker.workers.items ≡ [] = search rules in
    meets_all g.R.Room.steps c.args.rooms.now c.args.pass.now c.loop-worker.pass (map (λ w. w.pass) c.args.workers.items) (rw (← no_passes c.loop-worker.workers.items is) c.loop-worker.invariant)
