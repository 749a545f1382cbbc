use Rattle.std.proofs.Common.{rules, ◌∙◌, ap, sym}
use Rattle.serving.specs.Acting.{room_reply, room_steps}
use Rattle.serving.specs.Flushes.{FlushesTo}
use Rattle.serving.specs.Moves.{MovesTo}
use Rattle.service.specs.Service.{at_flushes, at_moves}
use Rattle.service.proofs.Seating.{tends_seated}
use Rattle.service.proofs.posts.tend.Goals as goal

pub flush_to_end-requires : goal.flush_to_end-requires
flush_to_end-requires g c = rw (c.new-actor.ensures.rooms, c.new-actor.ensures.pass) c.requires

pub move_to_end-requires : goal.move_to_end-requires
move_to_end-requires g c = rw (c.new-actor.ensures.rooms, c.new-actor.ensures.pass) c.requires

pub returns-in-Ok : goal.returns-in-Ok
returns-in-Ok g c =
    let R = g.X.Reader.ReadAt in
    let moves = c.flush_to_end.ensures.flushes in
    let made = moves.2.1 in
    let same = made.leads.0 ∙ c.new-actor.ensures.same_reference in
    rw c.in-Flush.is (
      c.flush_to_end.result,
      sym (ap at_flushes c.in-Ok.is),
      tends_seated (room_steps g.X.Applies R) (room_reply R) _ FlushesTo c.flush_to_end.result c.args.rooms.now _ _ c.args.worker.now.pass _ _ _ (g.C.Clock.coming c.args.worker.now.clock) (g.C.Clock.coming c.flush_to_end.new.clock) moves.0 moves.2.0 made.entries
          c.new-actor.ensures.rooms c.new-actor.ensures.pass (search (rules, same)) c.requires.stands.1.is_pass moves.1 made.leads.1 made.just_these moves.2.2 c.flush_to_end.ensures.spent,
    )

pub returns-in-Err : goal.returns-in-Err
returns-in-Err g c =
    let R = g.X.Reader.ReadAt in
    let moves = c.flush_to_end.ensures.flushes in
    let made = moves.2.1 in
    let same = made.leads.0 ∙ c.new-actor.ensures.same_reference in
    rw c.in-Flush.is (
      c.flush_to_end.result,
      sym (ap at_flushes c.in-Err.is),
      tends_seated (room_steps g.X.Applies R) (room_reply R) _ FlushesTo c.flush_to_end.result c.args.rooms.now _ _ c.args.worker.now.pass _ _ _ (g.C.Clock.coming c.args.worker.now.clock) (g.C.Clock.coming c.flush_to_end.new.clock) moves.0 moves.2.0 made.entries
          c.new-actor.ensures.rooms c.new-actor.ensures.pass (search (rules, same)) c.requires.stands.1.is_pass moves.1 made.leads.1 made.just_these moves.2.2 c.flush_to_end.ensures.spent,
    )

pub returns-in-Ok-move_to_end : goal.returns-in-Ok-move_to_end
returns-in-Ok-move_to_end g c =
    let R = g.X.Reader.ReadAt in
    let moves = c.move_to_end.ensures.moves in
    let made = moves.2.1 in
    let same = made.leads.0 ∙ c.new-actor.ensures.same_reference in
    rw c.in-Move.is (
      c.move_to_end.result,
      sym (ap at_moves c.in-Ok-move_to_end.is),
      tends_seated (room_steps g.X.Applies R) (room_reply R) _ MovesTo c.move_to_end.result c.args.rooms.now _ _ c.args.worker.now.pass _ _ _ (g.C.Clock.coming c.args.worker.now.clock) (g.C.Clock.coming c.move_to_end.new.clock) moves.0 moves.2.0 made.entries
          c.new-actor.ensures.rooms c.new-actor.ensures.pass (search (rules, same)) c.requires.stands.1.is_pass moves.1 made.leads.1 made.just_these moves.2.2 c.move_to_end.ensures.spent,
    )

pub returns-in-Err-move_to_end : goal.returns-in-Err-move_to_end
returns-in-Err-move_to_end g c =
    let R = g.X.Reader.ReadAt in
    let moves = c.move_to_end.ensures.moves in
    let made = moves.2.1 in
    let same = made.leads.0 ∙ c.new-actor.ensures.same_reference in
    rw c.in-Move.is (
      c.move_to_end.result,
      sym (ap at_moves c.in-Err-move_to_end.is),
      tends_seated (room_steps g.X.Applies R) (room_reply R) _ MovesTo c.move_to_end.result c.args.rooms.now _ _ c.args.worker.now.pass _ _ _ (g.C.Clock.coming c.args.worker.now.clock) (g.C.Clock.coming c.move_to_end.new.clock) moves.0 moves.2.0 made.entries
          c.new-actor.ensures.rooms c.new-actor.ensures.pass (search (rules, same)) c.requires.stands.1.is_pass moves.1 made.leads.1 made.just_these moves.2.2 c.move_to_end.ensures.spent,
    )
