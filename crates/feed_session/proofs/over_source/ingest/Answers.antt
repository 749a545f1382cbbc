use Rattle.std.proofs.Common.{◌≡◌, ◌∙◌, sym, ap, subst, refl, arith, inl, Some, None, [], ◌∷◌, ◌++◌, ℕ, List, Ok, Err, append-nil}
use Rattle.std.specs.Prelude.{true}
use Rattle.pb_lines.specs.declared.reader.ChunkItem.TheVariants as it
use Rattle.pb_lines.specs.Reader.{Chunks, ReadsItem, Stops, to_come}
use Rattle.pb_lines.specs.Stream.{Item, Section, chunk_end, header, sample}
use Rattle.pb_lines.proofs.Reading.{when_none}
use Rattle.act_model.specs.History.{Done}
use Rattle.feed_session.specs.Asks.{offer_of}
use Rattle.feed_session.specs.Asking.{both, tally_of}
use Rattle.feed_session.specs.Session.{CountsAll, ReadsOf, acts_of, items_of}
use Rattle.feed_session.specs.declared.end.Fed.{Fed}
use Rattle.feed_session.specs.declared.end.Fed.TheVariants as fed
use Rattle.feed_session.specs.declared.tally.OfferCounts.{OfferCounts}
use Rattle.feed_session.proofs.Going.{begins_all, closed_ends, goes_on, header_stopped, header_taken, not_both, not_started, ok_then, starts, stopped_at, stopped_idle, taken_idle, taken_of}
use Rattle.feed_session.proofs.Reading.{all_read, few_first, some_read}
use Rattle.feed_session.proofs.over_source.ingest.Goals.{in-Header, in-Sample, in-ChunkEnd}
use Rattle.pb_lines.proofs.Passing.{passes_join}
use Rattle.feed_session.proofs.over_source.ingest.Goals as goal

pub returns-in_default-clause-ingests : goal.returns-in_default-clause-ingests
returns-in_default-clause-ingests g c = record {
  taken = [];
  ended = not_started g.A.Actor.number g.A.Actor.between g.met.A.Actor.nothing true c.args.actor.now (g.S.Source.left c.args.source.now) (g.C.Clock.coming c.args.clock.now);
}

pub items-init : goal.items-init
items-init g c = record {
  going = ap (λ (r : Chunks). r.refused) c.in-Ok.ensures;
  read_faults = omega arith;
  stands = c.requires.stands;
  few = few_first c.in-Ok.reader c.new-tally.result c.in-Ok.ensures c.new-tally.ensures;
  progress = starts g.A.Actor.number g.A.Actor.between g.met.A.Actor.nothing true c.in-Ok.reader (g.S.Source.left c.args.source.now) (g.C.Clock.coming c.args.clock.now) c.args.actor.now c.new-tally.result c.in-Ok.ensures c.new-tally.ensures;
}

pub returns-in-End-clause-ingests : goal.returns-in-End-clause-ingests
returns-in-End-clause-ingests g c =
    let left = g.S.Source.left in
    let mid = c.items.reader in
    let before = left c.args.source.now in
    let middle = to_come mid (left c.items.source) in
    let known = c.items.invariant in
    let p = known.progress in
    let tally = c.items.tally in
    let read = when_none mid.refused (ReadsItem mid c.next.new.self middle (to_come c.next.new.self (left c.next.new.source)) it.End) known.going c.in-End.ensures.item in
    let end = fed.Fed tally.kept tally.held tally.dropped in
    let whole : ReadsOf end before (items_of p.taken ++ []) = subst (λ (l : List Item). ReadsOf end before l) (sym (append-nil (items_of p.taken))) (all_read c.in-Ok.reader mid before middle (items_of p.taken) None c.in-Ok.ensures p.passed read.2) in
    let counts : CountsAll end (acts_of p.taken) = (ap (λ (t : OfferCounts). t.kept) p.counted, ap (λ (t : OfferCounts). t.held) p.counted, ap (λ (t : OfferCounts). t.dropped) p.counted) in
    record {
      taken = p.taken;
      ended = closed_ends g.A.Actor.number g.A.Actor.between g.met.A.Actor.joined g.met.A.Actor.number_stays p end c.closed.result (λ done is. (refl, is)) whole (some_read c.in-Ok.reader mid before middle (items_of p.taken) c.in-Ok.ensures p.passed) counts (rw c.fed.ensures at c.closed.ensures.closes);
    }

pub returns-in-Refused-clause-ingests : goal.returns-in-Refused-clause-ingests
returns-in-Refused-clause-ingests g c =
    let left = g.S.Source.left in
    let mid = c.items.reader in
    let before = left c.args.source.now in
    let middle = to_come mid (left c.items.source) in
    let known = c.items.invariant in
    let p = known.progress in
    let fault = c.in-Refused.fault in
    let line = c.number-line.result in
    let read = when_none mid.refused (ReadsItem mid c.next.new.self middle (to_come c.next.new.self (left c.next.new.source)) (it.Refused fault)) known.going c.in-Refused.ensures.item in
    let stops = subst (λ (n : ℕ). Stops mid middle (Some (n, fault))) (sym c.number-line.ensures) read.1 in
    let end = fed.Refused line fault in
    let whole : ReadsOf end before (items_of p.taken ++ []) = subst (λ (l : List Item). ReadsOf end before l) (sym (append-nil (items_of p.taken))) (all_read c.in-Ok.reader mid before middle (items_of p.taken) (Some (line, fault)) c.in-Ok.ensures p.passed stops) in
    record {
      taken = p.taken;
      ended = closed_ends g.A.Actor.number g.A.Actor.between g.met.A.Actor.joined g.met.A.Actor.number_stays p end c.closed-in-Refused.result (λ done is. (refl, is)) whole (some_read c.in-Ok.reader mid before middle (items_of p.taken) c.in-Ok.ensures p.passed) tt c.closed-in-Refused.ensures.closes;
    }

pub returns-in-SourceFault-clause-ingests : goal.returns-in-SourceFault-clause-ingests
returns-in-SourceFault-clause-ingests g c =
    let left = g.S.Source.left in
    let p = c.items.invariant.progress in
    let before = left c.args.source.now in
    record {
      taken = p.taken;
      ended = stopped_idle g.A.Actor.number g.A.Actor.between g.met.A.Actor.joined g.met.A.Actor.number_stays g.met.A.Actor.nothing p fed.PeerFault (refl, refl) (begins_all before (items_of p.taken) (some_read c.in-Ok.reader c.items.reader before (to_come c.items.reader (left c.items.source)) (items_of p.taken) c.in-Ok.ensures p.passed)) tt;
    }

pub returns-in-Memory-clause-ingests : goal.returns-in-Memory-clause-ingests
returns-in-Memory-clause-ingests g c =
    let left = g.S.Source.left in
    let p = c.items.invariant.progress in
    let before = left c.args.source.now in
    record {
      taken = p.taken;
      ended = stopped_idle g.A.Actor.number g.A.Actor.between g.met.A.Actor.joined g.met.A.Actor.number_stays g.met.A.Actor.nothing p fed.Memory (inl tt) (begins_all before (items_of p.taken) (some_read c.in-Ok.reader c.items.reader before (to_come c.items.reader (left c.items.source)) (items_of p.taken) c.in-Ok.ensures p.passed)) tt;
    }

pub returns-in-Err-clause-ingests : goal.returns-in-Err-clause-ingests
returns-in-Err-clause-ingests g c =
    let left = g.S.Source.left in
    let mid = c.items.reader in
    let new = c.next.new.self in
    let before = left c.args.source.now in
    let middle = to_come mid (left c.items.source) in
    let after = to_come new (left c.next.new.source) in
    let known = c.items.invariant in
    let p = known.progress in
    let number = g.A.Actor.number in
    let between = g.A.Actor.between in
    let joined = g.met.A.Actor.joined in
    let stays = g.met.A.Actor.number_stays in
    let s = c.in-Err.stopped in
    rw c.from.ensures (elim c.match-next.branch [
      | in-Header w ↦
          let read = when_none mid.refused (ReadsItem mid new middle after it.Header) known.going w.in-Header.ensures.item in
          let item = header read.0 new.lines.line in
          let registered = w.register-asked.ensures.asked read.0 (ap (λ (x : Section). x.chunk) read.1) in
          rw (w.actor-is, w.clock-is) (record {
            taken = p.taken;
            ended = header_stopped number between joined stays g.met.A.Actor.nothing p read.0 new.lines.line w.register-asked.result s (sym w.asked-is ∙ c.in-Err.is) registered
                (some_read c.in-Ok.reader new before after (items_of p.taken ++ item ∷ []) c.in-Ok.ensures (passes_join c.in-Ok.reader mid new before middle after (items_of p.taken) (item ∷ []) p.passed read.2))
                (some_read c.in-Ok.reader mid before middle (items_of p.taken) c.in-Ok.ensures p.passed);
          })
      | in-Sample w ↦
          let t = w.in-Sample.t in
          let read = when_none mid.refused (ReadsItem mid new middle after (it.Sample t)) known.going w.in-Sample.ensures.item in
          let of = w.in-Sample.ensures.line in
          let item = sample (record { t = t; line = new.lines.line }) in
          let now = w.now-now.result in
          let call = w.take_sample-asked in
          let asked = call.ensures.asked of.0 of.1 in
          rw (w.actor-is, w.clock-is) (record {
            taken = p.taken;
            ended = stopped_at number between joined stays p item (now ∷ []) (offer_of of.0 (record { t = t; line = new.lines.line }) now ∷ []) (λ _ (done : List Done). call.new.tally ≡ both c.items.tally (tally_of done)) call.result s (sym w.asked-is ∙ c.in-Err.is)
                (of.0, sym (ap (λ (x : Section). x.chunk) read.0) ∙ of.1, now, refl, refl) asked
                (some_read c.in-Ok.reader new before after (items_of p.taken ++ item ∷ []) c.in-Ok.ensures (passes_join c.in-Ok.reader mid new before middle after (items_of p.taken) (item ∷ []) p.passed read.1))
                w.now-now.ensures.gives;
          })
      | in-ChunkEnd w ↦ not_both c.match-next.asked tt s w.asked-is c.in-Err.is
    ])

pub returns-in-Err-clause-stands : goal.returns-in-Err-clause-stands
returns-in-Err-clause-stands g c =
    elim c.match-next.branch [
      | in-Header w ↦ rw w.actor-is w.register-asked.ensures.stands
      | in-Sample w ↦ rw w.actor-is w.take_sample-asked.ensures.stands
      | in-ChunkEnd w ↦ rw w.actor-is c.items.invariant.stands
    ]

pub items-preserved : goal.items-preserved
items-preserved g c =
    let left = g.S.Source.left in
    let mid = c.items.reader in
    let new = c.next.new.self in
    let middle = to_come mid (left c.items.source) in
    let after = to_come new (left c.next.new.source) in
    let known = c.items.invariant in
    let p = known.progress in
    let number = g.A.Actor.number in
    let between = g.A.Actor.between in
    let joined = g.met.A.Actor.joined in
    let stays = g.met.A.Actor.number_stays in
    let x = c.in_default-asked.field-0 in
    elim c.match-next.branch [
      | in-Header w ↦
          let read = when_none mid.refused (ReadsItem mid new middle after it.Header) known.going w.in-Header.ensures.item in
          let registered = w.register-asked.ensures.asked read.0 (ap (λ (x : Section). x.chunk) read.1) in
          record {
            going = read.3;
            read_faults = omega (arith, known.read_faults, c.next.ensures.faults);
            stands = rw w.actor-is w.register-asked.ensures.stands;
            few = rw w.tally-is (omega (arith, known.few, read.4));
            progress = rw (w.actor-is, w.clock-is, w.tally-is) (goes_on number between joined stays p (header_taken number between read.0 new.lines.line w.register-asked.result x (sym w.asked-is ∙ c.in_default-asked.is) registered (ap (λ (x : Section). x.chunk) read.1) read.2));
          }
      | in-Sample w ↦
          let t = w.in-Sample.t in
          let read = when_none mid.refused (ReadsItem mid new middle after (it.Sample t)) known.going w.in-Sample.ensures.item in
          let of = w.in-Sample.ensures.line in
          let now = w.now-now.result in
          let call = w.take_sample-asked in
          let done = sym w.asked-is ∙ c.in_default-asked.is in
          let one = ok_then call.result x _ done call.ensures.one in
          record {
            going = read.2;
            read_faults = omega (arith, known.read_faults, c.next.ensures.faults);
            stands = rw w.actor-is call.ensures.stands;
            few = rw w.tally-is (omega (arith, known.few, read.3, one));
            progress = rw (w.actor-is, w.clock-is, w.tally-is) (goes_on number between joined stays p (taken_of number between (now ∷ []) (offer_of of.0 (record { t = t; line = new.lines.line }) now ∷ []) (λ _ (done : List Done). call.new.tally ≡ both c.items.tally (tally_of done)) call.result x done
                (of.0, sym (ap (λ (x : Section). x.chunk) read.0) ∙ of.1, now, refl, refl) (call.ensures.asked of.0 of.1) (λ done counted. counted) (ap (λ (x : Section). x.chunk) read.0) read.1 w.now-now.ensures.gives));
          }
      | in-ChunkEnd w ↦
          let read = when_none mid.refused (ReadsItem mid new middle after it.ChunkEnd) known.going w.in-ChunkEnd.ensures.item in
          record {
            going = read.2;
            read_faults = omega (arith, known.read_faults, c.next.ensures.faults);
            stands = rw w.actor-is known.stands;
            few = rw w.tally-is (omega (arith, known.few, read.3));
            progress = rw (w.actor-is, w.clock-is, w.tally-is) (goes_on number between joined stays p (taken_idle number between g.met.A.Actor.nothing {item = chunk_end} (refl, refl) refl (ap (λ (x : Section). x.chunk) read.0) read.1));
          }
    ]
