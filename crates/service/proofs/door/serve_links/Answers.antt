use Rattle.edge_io.specs.Doors.{IsFresh}
use Rattle.act_model.proofs.Histories.{made_nothing}
use Rattle.service.specs.Doors.{IsServed, IsTold, ServesLinkTold}
use Rattle.service.proofs.Acts.{makes, makes_more}
use Rattle.service.proofs.Links.{end_later, leaves_more, leaves_none, told_end, told_more}
use Rattle.service.proofs.door.serve_links.Goals as goal

pub loop-init : goal.loop-init
loop-init g c =
    let A = g.A.Actor in
    let L = g.W.L in (
      tt,
      tt,
      c.requires.stands,
      makes A c.args.actor.now c.args.actor.now _ (made_nothing A.number A.between g.met.A.Actor.nothing c.args.actor.now) tt,
      leaves_none g.W.Door (IsFresh L.Sink.written L.Source.read_faults L.Sink.write_faults) (IsServed c.args.kind L.Sink.written L.Source.read_faults L.Sink.write_faults)
          (ServesLinkTold A g.A.Reader.ReadAt L.Source L.Sink (IsTold g.G.Gate c.args.hook.now.gate.now c.args.hook.now.post) c.args.kind)
          c.args.actor.now (g.C.Clock.coming c.args.clock.now) c.args.door.now,
    )

pub loop-preserved : goal.loop-preserved
loop-preserved g c =
    let A = g.A.Actor in
    let L = g.W.L in
    let C = g.C.Clock in
    let one = c.in-Link.ensures.asked in (
      tt,
      tt,
      c.serve_next.ensures.stands,
      makes_more A g.met.A.Actor.joined g.met.A.Actor.number_stays c.args.actor.now c.loop.actor c.serve_next.new.actor c.loop.invariant.3 c.serve_next.ensures.acts,
      told_more g.W.Door (IsFresh L.Sink.written L.Source.read_faults L.Sink.write_faults) (IsServed c.args.kind L.Sink.written L.Source.read_faults L.Sink.write_faults)
          (ServesLinkTold A g.A.Reader.ReadAt L.Source L.Sink (IsTold g.G.Gate c.args.hook.now.gate.now c.args.hook.now.post) c.args.kind)
          c.args.actor.now c.loop.actor c.serve_next.new.actor (C.coming c.args.clock.now) (C.coming c.loop.clock) (C.coming c.serve_next.new.clock) c.args.door.now c.loop.door c.serve_next.new.door
          c.loop.lacked c.in-Link.now c.loop.invariant.4 one.0 one.1 one.2,
    )

pub returns-in-End-clause-acts : goal.returns-in-End-clause-acts
returns-in-End-clause-acts g c = makes_more g.A.Actor g.met.A.Actor.joined g.met.A.Actor.number_stays c.args.actor.now c.loop.actor c.serve_next.new.actor c.loop.invariant.3 c.serve_next.ensures.acts

pub returns-in-End-clause-asked : goal.returns-in-End-clause-asked
returns-in-End-clause-asked g c =
    let A = g.A.Actor in
    let L = g.W.L in
    let C = g.C.Clock in
    let end = c.in-End.ensures.asked in
    let same = c.serve_next.ensures.stays c.in-End.failed c.in-End.is in (
      told_end g.W.Door (IsFresh L.Sink.written L.Source.read_faults L.Sink.write_faults) (IsServed c.args.kind L.Sink.written L.Source.read_faults L.Sink.write_faults)
          (ServesLinkTold A g.A.Reader.ReadAt L.Source L.Sink (IsTold g.G.Gate c.args.hook.now.gate.now c.args.hook.now.post) c.args.kind)
          c.args.actor.now c.loop.actor c.serve_next.new.actor (C.coming c.args.clock.now) (C.coming c.loop.clock) (C.coming c.serve_next.new.clock) c.args.door.now c.loop.door c.serve_next.new.door
          c.loop.lacked c.loop.invariant.4 same.0 same.1 end.0 end.1,
      end_later g.W.Door.is_closed g.W.Door.door_faults c.args.door.now c.loop.door c.serve_next.new.door c.in-End.failed c.loop.invariant.4.left.faults_rise end.2,
    )

pub returns-in-Spent-clause-acts : goal.returns-in-Spent-clause-acts
returns-in-Spent-clause-acts g c = makes_more g.A.Actor g.met.A.Actor.joined g.met.A.Actor.number_stays c.args.actor.now c.loop.actor c.serve_next.new.actor c.loop.invariant.3 c.serve_next.ensures.acts

pub returns-in-Spent-clause-asked : goal.returns-in-Spent-clause-asked
returns-in-Spent-clause-asked g c =
    let A = g.A.Actor in
    let L = g.W.L in
    let C = g.C.Clock in
    leaves_more g.W.Door (IsFresh L.Sink.written L.Source.read_faults L.Sink.write_faults) (IsServed c.args.kind L.Sink.written L.Source.read_faults L.Sink.write_faults)
    (ServesLinkTold A g.A.Reader.ReadAt L.Source L.Sink (IsTold g.G.Gate c.args.hook.now.gate.now c.args.hook.now.post) c.args.kind)
    c.args.actor.now c.loop.actor c.serve_next.new.actor (C.coming c.args.clock.now) (C.coming c.loop.clock) (C.coming c.serve_next.new.clock) c.args.door.now c.loop.door c.serve_next.new.door
    c.loop.invariant.4.left c.in-Spent.ensures.asked

pub returns-in-Spent-clause-spent : goal.returns-in-Spent-clause-spent
returns-in-Spent-clause-spent g c spent = c.serve_next.ensures.spent c.in-Spent.is
