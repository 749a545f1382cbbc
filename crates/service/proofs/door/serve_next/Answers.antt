use Rattle.std.proofs.Common.{◌∙◌, ap, refl}
use Rattle.std.specs.Prelude.{option_map}
use Rattle.edge_io.specs.Doors.{one_back}
use Rattle.act_model.proofs.Histories.{made_nothing}
use Rattle.service.proofs.Acts.{makes}
use Rattle.service.proofs.Links.{back_one, link_served, may_come_back, no_memory, or_false, or_true}
use Rattle.service.proofs.door.serve_next.Goals as goal

pub back-requires : goal.back-requires
back-requires g c = rw c.in-Link.ensures.gives.2 (may_come_back (g.W.Door.ledger c.args.door.now) (g.W.Door.fair c.args.door.now))

pub returns-in-Spent-clause-asked : goal.returns-in-Spent-clause-asked
returns-in-Spent-clause-asked g c =
    let gives = c.in-Link.ensures.gives in
    record {
      was = c.in-Link.link;
      link = c.serve_link-served.new.link;
      result = c.serve_link-served.result;
      fresh = gives.3;
      serves = (c.serve_link-served.ensures.serves, (c.enter.ensures.told, c.leave.ensures.told));
      returned = c.back.ensures.back.2 ∙ (ap (λ o. option_map (one_back c.serve_link-served.new.link) o) gives.2 ∙ back_one c.serve_link-served.new.link (g.W.Door.ledger c.args.door.now));
      faults_rise = rw c.back.ensures.back.1 c.in-Link.ensures.faults;
    }

pub returns-in-Spent-clause-spent : goal.returns-in-Spent-clause-spent
returns-in-Spent-clause-spent g c spent = c.serve_link-served.ensures.spent c.in-Spent.is

pub returns-in-Memory-clause-asked : goal.returns-in-Memory-clause-asked
returns-in-Memory-clause-asked g c =
    let gives = c.in-Link.ensures.gives in (
      record {
        was = c.in-Link.link;
        link = c.serve_link-served.new.link;
        result = c.serve_link-served.result;
        fresh = gives.3;
        serves = (c.serve_link-served.ensures.serves, (c.enter.ensures.told, c.leave.ensures.told));
        returned = c.back.ensures.back.2 ∙ (ap (λ o. option_map (one_back c.serve_link-served.new.link) o) gives.2 ∙ back_one c.serve_link-served.new.link (g.W.Door.ledger c.args.door.now));
        faults_rise = rw c.back.ensures.back.1 c.in-Link.ensures.faults;
      },
      rw c.in-Memory.is (or_true c.args.lacked),
      λ enough. absurd cc,
    )

pub returns-in_default-clause-asked : goal.returns-in_default-clause-asked
returns-in_default-clause-asked g c =
    let L = g.W.L in
    let gives = c.in-Link.ensures.gives in (
      record {
        was = c.in-Link.link;
        link = c.serve_link-served.new.link;
        result = c.serve_link-served.result;
        fresh = gives.3;
        serves = (c.serve_link-served.ensures.serves, (c.enter.ensures.told, c.leave.ensures.told));
        returned = c.back.ensures.back.2 ∙ (ap (λ o. option_map (one_back c.serve_link-served.new.link) o) gives.2 ∙ back_one c.serve_link-served.new.link (g.W.Door.ledger c.args.door.now));
        faults_rise = rw c.back.ensures.back.1 c.in-Link.ensures.faults;
      },
      or_false c.args.lacked _ (no_memory c.serve_link-served.result c.in_default.not-Memory),
      λ enough. link_served c.args.kind L.Sink.written L.Source.read_faults L.Sink.write_faults c.in-Link.link c.serve_link-served.new.link gives.3 c.serve_link-served.result c.in_default.not-Spent c.in_default.not-Memory c.serve_link-served.ensures.begun c.serve_link-served.ensures.peer_fault,
    )

pub returns-in-Closed-clause-acts : goal.returns-in-Closed-clause-acts
returns-in-Closed-clause-acts g c = makes g.A.Actor c.args.actor.now c.args.actor.now _ (made_nothing g.A.Actor.number g.A.Actor.between g.met.A.Actor.nothing c.args.actor.now) tt

pub returns-in-Closed-clause-asked : goal.returns-in-Closed-clause-asked
returns-in-Closed-clause-asked g c = (c.in-Closed.ensures.gives.1, c.in-Closed.ensures.faults, c.in-Closed.ensures.gives.0)

pub returns-in-Closed-clause-stays : goal.returns-in-Closed-clause-stays
returns-in-Closed-clause-stays g c failed end = (refl, refl)

pub returns-in-Failed-clause-acts : goal.returns-in-Failed-clause-acts
returns-in-Failed-clause-acts g c = makes g.A.Actor c.args.actor.now c.args.actor.now _ (made_nothing g.A.Actor.number g.A.Actor.between g.met.A.Actor.nothing c.args.actor.now) tt

pub returns-in-Failed-clause-asked : goal.returns-in-Failed-clause-asked
returns-in-Failed-clause-asked g c = (c.in-Failed.ensures.gives.2, c.in-Failed.ensures.faults, c.in-Failed.ensures.gives.3)

pub returns-in-Failed-clause-stays : goal.returns-in-Failed-clause-stays
returns-in-Failed-clause-stays g c failed end = (refl, refl)
