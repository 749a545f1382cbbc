use Rattle.edge_io.specs.Doors.{IsFresh}
use Rattle.act_model.specs.Machine.{Machine}
use Rattle.act_model.specs.Roles.{is_of_link}
use Rattle.service.specs.Doors.{InTurn, IsServed, IsTold, LeavesTold, ServesLinkTold}
use Rattle.service.specs.Serving.{MakesOnly}
use Rattle.service.proofs.door.serve_links.Given as goal

abbrev pub invariant-loop : goal.invariant-loop
invariant-loop g l =
    let A = g.A.Actor in
    let R = g.A.Reader.ReadAt in
    let W = g.W.Door in
    let L = g.W.L in
    let C = g.C.Clock in
    (goal.iterator-loop g).can_next l.iterator' × (goal.iterator-loop g).is_finite l.iterator'
    × ((m : Machine) × A.stands l.actor m)
    × MakesOnly A is_of_link l.fn.actor l.actor
    × LeavesTold W (IsServed l.kind L.Sink.written L.Source.read_faults L.Sink.write_faults)
    (λ links results. InTurn (IsFresh L.Sink.written L.Source.read_faults L.Sink.write_faults) (ServesLinkTold A R L.Source L.Sink (IsTold g.G.Gate l.hook.gate.now l.hook.post) l.kind) l.fn.actor (C.coming l.fn.clock) links results l.actor (C.coming l.clock))
    l.fn.door l.lacked l.door
