use Rattle.std.proofs.Common.{◌≡◌, ◌≤◌, [], vec_len, vec_capacity, map}
use Rattle.std.specs.List.{range_with_len}
use Rattle.edge_io.specs.Moments.{Gives}
use Rattle.workers.specs.Left.{Drawn}
use Rattle.workers.proofs.drawing.draw_workers.Given as goal

abbrev pub invariant-loop-place : goal.invariant-loop-place
invariant-loop-place g l = record {
  drawn : Drawn g.R.Room.steps l.rooms l.fn.pass l.pass (map (λ w. w.pass) l.workers.items);
  places : map (λ w. w.place) l.workers.items ≡ range_with_len 0 l.place;
  count : vec_len l.workers ≡ l.place;
  room : l.count ≤ vec_capacity l.workers;
  clock : Gives (g.C.Clock.coming l.fn.clock) (g.C.Clock.coming l.clock) [];
}
