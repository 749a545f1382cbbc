use Rattle.std.proofs.Common.{All, arith, subst}
use Rattle.std.proofs.lemmas.List.Elements.{All-tail}
use Rattle.edge_io.specs.Doors.{IsFresh}
use Rattle.edge_io.proofs.memory_links.ListDoorDoor.next.Goals as goal

pub invariant_of-self-2 : goal.invariant_of-self-2
invariant_of-self-2 g c =
    let Fresh : g.row.T.Denot → Type 0 = IsFresh g.T.Sink.written g.T.Source.read_faults g.T.Sink.write_faults in
    let all = subst (λ ls. All Fresh ls) c.in-Some.ensures.items c.self.invariant.0 in
    (All-tail Fresh c.in-Some.link c.pop_front.new.self.items all, omega (arith, c.in-Some.ensures.len, c.self.invariant.1))
