use Rattle.std.proofs.Common.{rules, ◌≡◌, ◌++◌, ◌∷◌, [], length, ap, ◌∙◌}
use Rattle.archive_actors.specs.Steps.{SharedStands}
use Rattle.workers.proofs.Halves.{give_map}
use Rattle.service.specs.declared.posts.Task.TheVariants.{Flush, Move}
use Rattle.service.specs.Service.{CanWork, TaskEnds}
use Rattle.service.proofs.Tending.{all_parts, are_two, became_two, can_all}
use Rattle.serving.specs.Acting.{room_reply, room_steps}
use Rattle.service.proofs.service.work_all.Goals as goal

pub run_with-requires-clause-first : goal.run_with-requires-clause-first
run_with-requires-clause-first g c κs within =
    let R = g.X.Reader.ReadAt in
    let Can = CanWork (room_steps g.X.Applies R) (SharedStands g.X.Applies.stands) c.args.rooms.now in
    let front = c.split_at_mut-at_doors.result.0.now in
    let back = c.split_at_mut-at_doors.result.1.now in
    let both = all_parts Can front back (rw (← c.split_at_mut-at_doors.ensures.value) c.requires.stand) in
    can_all Can _ (λ x y h p q e f. rw e h) back _ both.1 (search rules)

pub run_with-requires-clause-second : goal.run_with-requires-clause-second
run_with-requires-clause-second g c κs within =
    let R = g.X.Reader.ReadAt in
    let Can = CanWork (room_steps g.X.Applies R) (SharedStands g.X.Applies.stands) c.args.rooms.now in
    let front = c.split_at_mut-at_doors.result.0.now in
    let back = c.split_at_mut-at_doors.result.1.now in
    let both = all_parts Can front back (rw (← c.split_at_mut-at_doors.ensures.value) c.requires.stand) in
    can_all Can _ (λ x y h p q e f. rw e h) front _ both.0 (search rules)

pub returns : goal.returns
returns g c =
    let R = g.X.Reader.ReadAt in
    let coming = g.C.Clock.coming in
    let steps = room_steps g.X.Applies R in
    let reply = room_reply R in
    let rooms = c.args.rooms.now in
    let front = c.split_at_mut-at_doors.result.0.now in
    let back = c.split_at_mut-at_doors.result.1.now in
    let many : length back ≡ 2 = search rules in
    let two = are_two back many in
    let tends = give_map _ (λ w t w' t'. TaskEnds steps reply rooms t w.pass (coming w.clock) w'.end w'.pass (coming w'.clock)) back (Flush ∷ Move ∷ []) c.run_with.new.ss c.run_with.new.ts
    (λ x y x' y' gives.
    let s : TaskEnds steps reply rooms gives.second.now gives.first.now.pass (coming gives.first.now.clock) gives.first_after.now.end gives.first_after.now.pass (coming gives.first_after.now.clock) = search rules in
    rw (← gives.first_is, ← gives.second_is, ← gives.first_left) s)
    c.run_with.ensures.first in
    let became = became_two (λ w t w' t'. TaskEnds steps reply rooms t w.pass (coming w.clock) w'.end w'.pass (coming w'.clock)) two.0 two.1 Flush Move c.run_with.new.ss c.run_with.new.ts (rw (← two.2) tends) in
    record {
      at = front;
      at' = c.run_with.new.us;
      flusher = two.0;
      flusher' = became.one;
      mover = two.1;
      mover' = became.other;
      old_is = c.split_at_mut-at_doors.ensures.value ∙ ap (λ l. front ++ l) two.2;
      new_is = ap (λ l. c.run_with.new.us ++ l) became.are;
      doors = give_map _ _ front c.args.posts.now c.run_with.new.us c.run_with.new.vs
          (λ x y x' y' gives. rw (← gives.first_is, ← gives.second_is, ← gives.first_left, ← gives.second_left) (record { acts = search rules; door = search rules; kind = search rules }))
          c.run_with.ensures.second;
      flushes = became.first;
      moves = became.second;
    }
