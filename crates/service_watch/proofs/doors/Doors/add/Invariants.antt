use Rattle.std.proofs.Common.{◌+◌, ◌≤◌}
use Rattle.std.specs.Prelude.{vec_len}
use Rattle.service_watch.proofs.doors.Doors.add.Given as goal

-- at most one door more for each turn
abbrev pub invariant-loop : goal.invariant-loop
invariant-loop l = vec_len l.self.posts ≤ vec_len l.initial.self.posts + l.counter
