use Rattle.std.proofs.Common.{rules}
use Rattle.archive_actors.specs.Steps.{SharedStands}
use Rattle.serving.specs.Acting.{room_reply, room_steps}
use Rattle.service.proofs.Seating.{shift_ends}
use Rattle.service.proofs.posts.serve_post.Goals as goal

pub serve_door-served-requires : goal.serve_door-served-requires
serve_door-served-requires g c = rw (c.new-actor.ensures.rooms, c.new-actor.ensures.pass) c.requires

pub returns-clause-acts : goal.returns-clause-acts
returns-clause-acts g c =
    let R = g.X.Reader.ReadAt in
    let serves = c.serve_door-served.ensures.serves in
    shift_ends (room_steps g.X.Applies R) (SharedStands g.X.Applies.stands) (room_reply R) c.args.rooms.now c.args.worker.now.pass _ c.new-actor.result c.serve_door-served.new.actor c.serve_door-served.result
    c.new-actor.ensures.rooms c.new-actor.ensures.pass (search rules) c.requires.stands.1.is_pass serves.shift serves.spent

pub returns-clause-door : goal.returns-clause-door
returns-clause-door g c = record {
  seat = c.new-actor.result;
  seat' = c.serve_door-served.new.actor;
  served = c.serve_door-served.result;
  end_is = search rules;
  pass_is = c.new-actor.ensures.pass;
  pass_is' = search rules;
  rooms_are = c.new-actor.ensures.rooms;
  serves = c.serve_door-served.ensures.serves;
}
