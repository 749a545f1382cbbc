use Rattle.std.proofs.Common.{◌≡◌, ◌∙◌, ap, inr, sym, Option, List, ℕ, Err}
use Rattle.edge_io.specs.Stream.{Direction}
use Rattle.act_model.proofs.Histories.{made_nothing}
use Rattle.http_front.proofs.Asked.{request_wide}
use Rattle.service.proofs.Replying.{call_acts, call_begins, refused_begins}
use Rattle.service.proofs.request.reply_to_request.Goals as goal

-- the reading of a request leaves what was written on the link, and how often that failed
stays : {X : Type 0} (beside : X → Direction) (written : X → Option (List ℕ)) (faults : X → ℕ) (law : (l : X) → beside l ≡ record { bytes = written l; faults = faults l }) (old mid : X) → beside mid ≡ beside old → (written mid ≡ written old) × (faults mid ≡ faults old)
stays beside written faults law old mid same =
    let e = sym (law mid) ∙ same ∙ law old in
    (ap (λ (d : Direction). d.bytes) e, ap (λ (d : Direction). d.faults) e)

pub returns-in-Ok-clause-begun : goal.returns-in-Ok-clause-begun
returns-in-Ok-clause-begun g c =
    let A = g.A.Actor in
    let R = g.A.Reader.ReadAt in
    let L = g.L in
    let mid = c.read_request.new.source in
    let kept = stays L.Source.beside L.Sink.written L.Sink.write_faults g.met.L.Link.written_stays c.args.link.now mid c.read_request.ensures.beside in
    let acts = call_acts A R _ c.in-Ok.request.version c.args.actor.now c.serve.new.actor c.in-Ok.request.call (L.Sink.written mid) (L.Sink.written c.serve.new.link) c.serve.result c.serve.ensures.replies in
    rw kept.0 at (call_begins A R _ c.in-Ok.request.version c.args.actor.now c.serve.new.actor c.in-Ok.request.call (L.Sink.written mid) (L.Sink.written c.serve.new.link) c.serve.result acts)

pub returns-in-Err-clause-replies : goal.returns-in-Err-clause-replies
returns-in-Err-clause-replies g c =
    let A = g.A.Actor in
    let L = g.L in
    let mid = c.read_request.new.source in
    let kept = stays L.Source.beside L.Sink.written L.Sink.write_faults g.met.L.Link.written_stays c.args.link.now mid c.read_request.ensures.beside in
    record {
      request = Err c.in-Err.why;
      later = L.Source.left mid;
      read = c.in-Err.ensures.read;
      replies = (made_nothing A.number A.between g.met.A.Actor.nothing c.args.actor.now, rw (kept.0, kept.1) at c.refuse_request.ensures.tells);
    }

pub returns-in-Err-clause-begun : goal.returns-in-Err-clause-begun
returns-in-Err-clause-begun g c =
    let L = g.L in
    let mid = c.read_request.new.source in
    let kept = stays L.Source.beside L.Sink.written L.Sink.write_faults g.met.L.Link.written_stays c.args.link.now mid c.read_request.ensures.beside in
    rw kept.0 at (refused_begins _ _ c.in-Err.why (L.Sink.written mid) (L.Sink.written c.refuse_request.new.link) c.refuse_request.result c.refuse_request.ensures.tells)

pub returns-in-Err-clause-peer_fault : goal.returns-in-Err-clause-peer_fault
returns-in-Err-clause-peer_fault g c e =
    let L = g.L in
    let mid = c.read_request.new.source in
    let kept = stays L.Source.beside L.Sink.written L.Sink.write_faults g.met.L.Link.written_stays c.args.link.now mid c.read_request.ensures.beside in
    inr (rw kept.1 at (c.refuse_request.ensures.peer_fault e))

pub serve-requires-clause-wide : goal.serve-requires-clause-wide
serve-requires-clause-wide g c =
    let L = g.L in
    request_wide (L.Source.left c.args.link.now) (L.Source.left c.read_request.new.source) c.in-Ok.request c.in-Ok.ensures.read
