use Rattle.std.proofs.Common.{◌≡◌, ◌∙◌, sym, ap, subst, refl, arith, inl, Some, None, [], ◌∷◌, ◌++◌, ℕ, List, append-nil}
use Rattle.std.specs.Prelude.{false}
use Rattle.std.specs.Io.KnownBytes.{Appends}
use Rattle.std.proofs.KnownBytes.{Appends-nil}
use Rattle.pb_lines.specs.declared.reader.ChunkItem.TheVariants as it
use Rattle.pb_lines.specs.Reader.{Chunks, ReadsItem, Stops, to_come}
use Rattle.pb_lines.specs.Stream.{Item, Section, chunk_end, header, sample}
use Rattle.pb_lines.proofs.Reading.{when_none}
use Rattle.act_model.specs.History.{Done}
use Rattle.feed_session.specs.Asks.{offer_of}
use Rattle.feed_session.specs.Asking.{both, cut_by, tally_of}
use Rattle.feed_session.specs.Session.{CountsAll, ReadsOf, acts_of, items_of}
use Rattle.feed_session.specs.declared.end.Fed.TheVariants as fed
use Rattle.feed_session.specs.declared.tally.OfferCounts.{OfferCounts}
use Rattle.feed_session.proofs.Going.{begins_all, closed_ends, goes_on, not_started, ok_then, stopped_at, stopped_idle, taken_as, taken_idle, taken_of}
use Rattle.feed_session.proofs.Reading.{all_read, few_first, some_read}
use Rattle.feed_session.proofs.Telling.{cut_counts, cut_cuts, cut_ends, cut_reads, tells_chunk_end, tells_first, tells_header, tells_sample, told_front}
use Rattle.pb_lines.proofs.Passing.{passes_join}
use Rattle.feed_session.proofs.over_link.feed_chunks.Goals as goal

pub returns-in_default-clause-feeds : goal.returns-in_default-clause-feeds
returns-in_default-clause-feeds g c = record {
  taken = [];
  ended = not_started g.A.Actor.number g.A.Actor.between g.met.A.Actor.nothing false c.args.actor.now (g.L.Source.left c.args.link.now) (g.C.Clock.coming c.args.clock.now);
  told = inl (refl, Appends-nil (g.L.Sink.written c.args.link.now));
}

pub items-init : goal.items-init
items-init g c = record {
  going = ap (λ (r : Chunks). r.refused) c.in-Ok.ensures;
  read_faults = omega arith;
  write_faults = omega arith;
  stands = c.requires.stands;
  few = few_first c.in-Ok.reader c.new-tally.result c.in-Ok.ensures c.new-tally.ensures;
  telling = tells_first g.A.Actor.number g.A.Actor.between g.met.A.Actor.nothing c.in-Ok.reader (g.L.Source.left c.args.link.now) (g.C.Clock.coming c.args.clock.now) c.args.actor.now c.new-tally.result (g.L.Sink.written c.args.link.now) c.in-Ok.ensures c.new-tally.ensures;
}

pub items-preserved-in-Header : goal.items-preserved-in-Header
items-preserved-in-Header g c =
    let left = g.L.Source.left in
    let number = g.A.Actor.number in
    let between = g.A.Actor.between in
    let mid = c.items.reader in
    let new = c.next_item.new.reader in
    let middle = to_come mid (left c.items.link) in
    let after = to_come new (left c.next_item.new.link) in
    let known = c.items.invariant in
    let read = when_none mid.refused (ReadsItem mid new middle after it.Header) known.going c.in-Header.ensures.item in
    let takes = taken_idle number between g.met.A.Actor.nothing {item = header read.0 new.lines.line} (refl, refl) refl (ap (λ (s : Section). s.chunk) read.1) read.2 in
    record {
      going = read.3;
      read_faults = omega (arith, known.read_faults, c.next_item.ensures.faults);
      write_faults = rw c.next_item.ensures.write_faults known.write_faults;
      stands = known.stands;
      few = omega (arith, known.few, read.4);
      telling = rw c.next_item.ensures.written (tells_header number between g.met.A.Actor.joined g.met.A.Actor.number_stays known.telling takes);
    }

pub items-preserved-in-Ok-take_sample : goal.items-preserved-in-Ok-take_sample
items-preserved-in-Ok-take_sample g c =
    let left = g.L.Source.left in
    let number = g.A.Actor.number in
    let between = g.A.Actor.between in
    let mid = c.items.reader in
    let new = c.next_item.new.reader in
    let middle = to_come mid (left c.items.link) in
    let after = to_come new (left c.next_item.new.link) in
    let known = c.items.invariant in
    let t = c.in-Sample.t in
    let read = when_none mid.refused (ReadsItem mid new middle after (it.Sample t)) known.going c.in-Sample.ensures.item in
    let of = c.in-Sample.ensures.line in
    let now = c.now-now.result in
    let call = c.take_sample in
    let x = c.in-Ok-take_sample.field-0 in
    let one = ok_then call.result x _ c.in-Ok-take_sample.is call.ensures.one in
    let takes = taken_of number between (now ∷ []) (offer_of of.0 (record { t = t; line = new.lines.line }) now ∷ []) (λ _ (done : List Done). call.new.tally ≡ both c.items.tally (tally_of done)) call.result x c.in-Ok-take_sample.is
    (of.0, sym (ap (λ (s : Section). s.chunk) read.0) ∙ of.1, now, refl, refl) (call.ensures.asked of.0 of.1) (λ done counted. counted) (ap (λ (s : Section). s.chunk) read.0) read.1 c.now-now.ensures.gives in
    record {
      going = read.2;
      read_faults = omega (arith, known.read_faults, c.next_item.ensures.faults);
      write_faults = rw c.next_item.ensures.write_faults known.write_faults;
      stands = call.ensures.stands;
      few = omega (arith, known.few, read.3, one);
      telling = rw c.next_item.ensures.written (tells_sample number between g.met.A.Actor.joined g.met.A.Actor.number_stays known.telling takes);
    }

pub returns-in-Err-clause-feeds : goal.returns-in-Err-clause-feeds
returns-in-Err-clause-feeds g c =
    let left = g.L.Source.left in
    let number = g.A.Actor.number in
    let between = g.A.Actor.between in
    let mid = c.items.reader in
    let new = c.next_item.new.reader in
    let before = left c.args.link.now in
    let middle = to_come mid (left c.items.link) in
    let after = to_come new (left c.next_item.new.link) in
    let known = c.items.invariant in
    let p = known.telling.so in
    let t = c.in-Sample.t in
    let read = when_none mid.refused (ReadsItem mid new middle after (it.Sample t)) known.going c.in-Sample.ensures.item in
    let of = c.in-Sample.ensures.line in
    let now = c.now-now.result in
    let call = c.take_sample in
    let item = sample (record { t = t; line = new.lines.line }) in
    rw (c.from.ensures, c.next_item.ensures.written) (record {
      taken = p.taken;
      ended = stopped_at number between g.met.A.Actor.joined g.met.A.Actor.number_stays p item (now ∷ []) (offer_of of.0 (record { t = t; line = new.lines.line }) now ∷ []) (λ _ (done : List Done). call.new.tally ≡ both c.items.tally (tally_of done)) call.result c.in-Err.stopped c.in-Err.is
          (of.0, sym (ap (λ (s : Section). s.chunk) read.0) ∙ of.1, now, refl, refl) (call.ensures.asked of.0 of.1)
          (some_read c.in-Ok.reader new before after (items_of p.taken ++ item ∷ []) c.in-Ok.ensures (passes_join c.in-Ok.reader mid new before middle after (items_of p.taken) (item ∷ []) p.passed read.1))
          c.now-now.ensures.gives;
      told = inl (refl, known.telling.told);
    })

pub items-preserved : goal.items-preserved
items-preserved g c =
    let left = g.L.Source.left in
    let written = g.L.Sink.written in
    let number = g.A.Actor.number in
    let between = g.A.Actor.between in
    let mid = c.items.reader in
    let new = c.next_item.new.reader in
    let middle = to_come mid (left c.items.link) in
    let after = to_come new (left c.next_item.new.link) in
    let known = c.items.invariant in
    let read = when_none mid.refused (ReadsItem mid new middle after it.ChunkEnd) known.going c.in-ChunkEnd.ensures.item in
    let takes = taken_idle number between g.met.A.Actor.nothing {item = chunk_end} (refl, refl) refl (ap (λ (s : Section). s.chunk) read.0) read.1 in
    let out = rw c.next_item.ensures.written at (ok_then c.tell_chunk.result c.in-Ok-tell_chunk.field-0 _ c.in-Ok-tell_chunk.is c.tell_chunk.ensures.all) in
    record {
      going = read.2;
      read_faults = omega (arith, known.read_faults, c.next_item.ensures.faults, c.tell_chunk.ensures.read_faults);
      write_faults = omega (arith, known.write_faults, c.next_item.ensures.write_faults, c.tell_chunk.ensures.faults);
      stands = known.stands;
      few = omega (arith, known.few, read.3);
      telling = rw c.tell_chunk.ensures.left (tells_chunk_end number between g.met.A.Actor.joined g.met.A.Actor.number_stays c.since.result known.telling takes c.since.ensures out);
    }

pub returns-in-Err-tell_chunk-clause-feeds : goal.returns-in-Err-tell_chunk-clause-feeds
returns-in-Err-tell_chunk-clause-feeds g c =
    let left = g.L.Source.left in
    let written = g.L.Sink.written in
    let number = g.A.Actor.number in
    let between = g.A.Actor.between in
    let joined = g.met.A.Actor.joined in
    let stays = g.met.A.Actor.number_stays in
    let mid = c.items.reader in
    let new = c.next_item.new.reader in
    let before = left c.args.link.now in
    let middle = to_come mid (left c.items.link) in
    let after = to_come new (left c.next_item.new.link) in
    let known = c.items.invariant in
    let p = known.telling in
    let read = when_none mid.refused (ReadsItem mid new middle after it.ChunkEnd) known.going c.in-ChunkEnd.ensures.item in
    let takes = taken_idle number between g.met.A.Actor.nothing {registers = false} {mid = mid} {new = new} {middle = middle} {after = after} {tally = c.items.tally} {tally' = c.items.tally} {item = chunk_end} (refl, refl) refl (ap (λ (s : Section). s.chunk) read.0) read.1 in
    let q = goes_on number between joined stays p.so takes in
    let how = c.in-Err-tell_chunk.cut in
    let front = rw c.next_item.ensures.written at c.tell_chunk.ensures.front in
    rw c.from-in-Err-tell_chunk.ensures (record {
      taken = q.taken;
      ended = stopped_idle number between joined stays g.met.A.Actor.nothing q (cut_by how) (cut_ends how)
          (cut_reads how before (items_of q.taken ++ []) (begins_all before (items_of q.taken) (some_read c.in-Ok.reader new before after (items_of q.taken) c.in-Ok.ensures q.passed)))
          (cut_counts how (acts_of q.taken));
      told = told_front (written c.args.link.now) (written c.items.link) (written c.tell_chunk.new.link) (cut_by how) p.so.taken (taken_as chunk_end takes.moments takes.done) c.since.result c.items.begun c.items.tally refl c.since.ensures p.since (cut_cuts how) p.told front;
    })

pub returns-in-End-clause-feeds : goal.returns-in-End-clause-feeds
returns-in-End-clause-feeds g c =
    let left = g.L.Source.left in
    let mid = c.items.reader in
    let before = left c.args.link.now in
    let middle = to_come mid (left c.items.link) in
    let known = c.items.invariant in
    let p = known.telling.so in
    let tally = c.items.tally in
    let read = when_none mid.refused (ReadsItem mid c.next_item.new.reader middle (to_come c.next_item.new.reader (left c.next_item.new.link)) it.End) known.going c.in-End.ensures.item in
    let end = fed.Fed tally.kept tally.held tally.dropped in
    let whole : ReadsOf end before (items_of p.taken ++ []) = subst (λ (l : List Item). ReadsOf end before l) (sym (append-nil (items_of p.taken))) (all_read c.in-Ok.reader mid before middle (items_of p.taken) None c.in-Ok.ensures p.passed read.2) in
    let counts : CountsAll end (acts_of p.taken) = (ap (λ (t : OfferCounts). t.kept) p.counted, ap (λ (t : OfferCounts). t.held) p.counted, ap (λ (t : OfferCounts). t.dropped) p.counted) in
    rw c.next_item.ensures.written (record {
      taken = p.taken;
      ended = closed_ends g.A.Actor.number g.A.Actor.between g.met.A.Actor.joined g.met.A.Actor.number_stays p end c.closed.result (λ done is. (refl, is)) whole (some_read c.in-Ok.reader mid before middle (items_of p.taken) c.in-Ok.ensures p.passed) counts (rw c.fed.ensures at c.closed.ensures.closes);
      told = inl (refl, known.telling.told);
    })

pub returns-in-Refused-clause-feeds : goal.returns-in-Refused-clause-feeds
returns-in-Refused-clause-feeds g c =
    let left = g.L.Source.left in
    let mid = c.items.reader in
    let before = left c.args.link.now in
    let middle = to_come mid (left c.items.link) in
    let known = c.items.invariant in
    let p = known.telling.so in
    let fault = c.in-Refused.fault in
    let line = c.number-line.result in
    let read = when_none mid.refused (ReadsItem mid c.next_item.new.reader middle (to_come c.next_item.new.reader (left c.next_item.new.link)) (it.Refused fault)) known.going c.in-Refused.ensures.item in
    let stops = subst (λ (n : ℕ). Stops mid middle (Some (n, fault))) (sym c.number-line.ensures) read.1 in
    let end = fed.Refused line fault in
    let whole : ReadsOf end before (items_of p.taken ++ []) = subst (λ (l : List Item). ReadsOf end before l) (sym (append-nil (items_of p.taken))) (all_read c.in-Ok.reader mid before middle (items_of p.taken) (Some (line, fault)) c.in-Ok.ensures p.passed stops) in
    rw c.next_item.ensures.written (record {
      taken = p.taken;
      ended = closed_ends g.A.Actor.number g.A.Actor.between g.met.A.Actor.joined g.met.A.Actor.number_stays p end c.closed-in-Refused.result (λ done is. (refl, is)) whole (some_read c.in-Ok.reader mid before middle (items_of p.taken) c.in-Ok.ensures p.passed) tt c.closed-in-Refused.ensures.closes;
      told = inl (refl, known.telling.told);
    })

pub returns-in-SourceFault-clause-feeds : goal.returns-in-SourceFault-clause-feeds
returns-in-SourceFault-clause-feeds g c =
    let left = g.L.Source.left in
    let p = c.items.invariant.telling.so in
    let before = left c.args.link.now in
    rw c.next_item.ensures.written (record {
      taken = p.taken;
      ended = stopped_idle g.A.Actor.number g.A.Actor.between g.met.A.Actor.joined g.met.A.Actor.number_stays g.met.A.Actor.nothing p fed.PeerFault (refl, refl) (begins_all before (items_of p.taken) (some_read c.in-Ok.reader c.items.reader before (to_come c.items.reader (left c.items.link)) (items_of p.taken) c.in-Ok.ensures p.passed)) tt;
      told = inl (refl, c.items.invariant.telling.told);
    })

pub returns-in-Memory-clause-feeds : goal.returns-in-Memory-clause-feeds
returns-in-Memory-clause-feeds g c =
    let left = g.L.Source.left in
    let p = c.items.invariant.telling.so in
    let before = left c.args.link.now in
    rw c.next_item.ensures.written (record {
      taken = p.taken;
      ended = stopped_idle g.A.Actor.number g.A.Actor.between g.met.A.Actor.joined g.met.A.Actor.number_stays g.met.A.Actor.nothing p fed.Memory (inl tt) (begins_all before (items_of p.taken) (some_read c.in-Ok.reader c.items.reader before (to_come c.items.reader (left c.items.link)) (items_of p.taken) c.in-Ok.ensures p.passed)) tt;
      told = inl (refl, c.items.invariant.telling.told);
    })
