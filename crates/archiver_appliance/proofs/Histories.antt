-- What one did who knows of a history only its first entries: each session of a link, carried from his own words to those of a knower.
use Rattle.std.proofs.Common.{◌≡◌, ◌⊎◌, inl, inr, ℕ, Bool, List, [], ◌∷◌, ◌++◌, Option, Some, None, Result, Ok, Err, ap, sym, ◌∙◌, subst}
use Rattle.edge_io.specs.Moments.{Moments}
use Rattle.edge_io.specs.declared.stream.Source.{Ghosts as OfSource}
use Rattle.edge_io.specs.declared.stream.Sink.{Ghosts as OfSink}
use Rattle.disk_model.specs.declared.disk.ReadAt.{Ghosts as OfFile}
use Rattle.pb_wire.specs.declared.payload.PayloadType.{PayloadType}
use Rattle.series_model.specs.declared.sample.Query.{Query}
use Rattle.series_model.specs.declared.sample.Sample.{Sample}
use Rattle.act_model.specs.declared.actor.Actor.{Ghosts as OfActor}
use Rattle.act_model.specs.Out.{Subject}
use Rattle.act_model.specs.History.{Done, Entry, Made, mine, own}
use Rattle.act_model.specs.Machine.{Machine}
use Rattle.feed_session.specs.declared.end.Fed.{Fed}
use Rattle.feed_session.specs.Replies.{Feeds}
use Rattle.http_front.specs.declared.reply.Head.{Head}
use Rattle.http_front.specs.declared.request.HttpErr.{HttpErr}
use Rattle.http_front.specs.declared.request.Request.{Request}
use Rattle.http_front.specs.declared.request.WebCall.{WebCall}
use Rattle.http_front.specs.declared.request.WebCall.TheVariants as call
use Rattle.admin_commands.specs.declared.end.AdminErr.{AdminErr}
use Rattle.admin_commands.specs.declared.end.AdminErr.TheVariants as admin
use Rattle.admin_commands.specs.Next.{NextStep}
use Rattle.admin_commands.specs.Serving.{Anyhow, AsksMore, IsTold, Proceeds, Serves, spent_reply}
use Rattle.retrieval_query.specs.declared.retrieved.Retrieved.{Retrieved}
use Rattle.retrieval_query.specs.declared.retrieved.Retrieved.TheVariants as retrieved
use Rattle.retrieval_query.specs.declared.variable.PinVariableErr.{PinVariableErr}
use Rattle.retrieval_query.specs.declared.variable.PinVariableErr.TheVariants as pin_err
use Rattle.retrieval_query.specs.Openings.{PieceTold, openings}
use Rattle.retrieval_query.specs.Pinning.{FailsToPin, GivesUp}
use Rattle.retrieval_query.specs.Retrieving.{Ends, IsPinned, ReadsPinned, WritesAnswer, given_up}
use Rattle.service.specs.declared.format.Format.{Format}
use Rattle.service.specs.declared.format.Format.TheVariants.{Raw, Json}
use Rattle.service.specs.declared.served.Kind.{Kind}
use Rattle.service.specs.declared.served.Kind.TheVariants.{Feed, Http}
use Rattle.service.specs.declared.served.Served.{Served}
use Rattle.service.specs.Data.{AnswersData, BreaksBody, FinishesBody, IsWhole, LosesHead, MakesActs, PinsAndLoses, RefusesPin, RepliesData, data_head}
use Rattle.service.specs.Requests.{Ends as EndsCall, Replies, RepliesCall, RepliesTo}
use Rattle.service.specs.Serving.{ServesLink, WasSpent}
use Rattle.archiver_appliance.specs.Sessions.{Knower, KnowsMost, Learns, acts_under, knower}

-- why a retrieval ended behind its pin, where another thing tells that no act was left
ends_by : {R : Type 0} (tells : Bool) (faults : R → ℕ) (ty : PayloadType) (pin : ℕ) (told : List PieceTold) (failed unpin : List Done) (spent spent' rose : Type 0) (result : Retrieved R) → (spent → spent')
    → Ends tells faults ty pin told failed unpin spent rose result → Ends tells faults ty pin told failed unpin spent' rose result
ends_by tells faults ty pin told failed unpin spent spent' rose (retrieved.Finished count) to e = e
ends_by tells faults ty pin told failed unpin spent spent' rose retrieved.NoSuchVariable to e = e
ends_by tells faults ty pin told failed unpin spent spent' rose (retrieved.ReadFault None) to e = e
ends_by tells faults ty pin told failed unpin spent spent' rose (retrieved.ReadFault (Some r)) to e = e
ends_by tells faults ty pin told failed unpin spent spent' rose (retrieved.Damaged name at) to e = e
ends_by tells faults ty pin told failed unpin spent spent' rose retrieved.SinkFault to e = e
ends_by tells faults ty pin told failed unpin spent spent' rose retrieved.Spent to e = (e.0, to e.1)
ends_by tells faults ty pin told failed unpin spent spent' rose retrieved.Memory to e = e

module _ {A R : Type 0} (actor : OfActor A R) (knows : A → Knower) (same : (a : A) → (knows a).number ≡ actor.number a) (learns : (a b : A) (es : List Entry) → actor.between a es b → Learns (knows a) es (knows b))
    (full : (a : A) → actor.is_spent a → KnowsMost (knows a)) where
  pub made_known : (a b : A) (ds : List Done) → Made actor.number actor.between a ds b → Made acts_under Learns (knows a) ds (knows b)
  made_known a b ds m = record { entries = m.entries; leads = learns a b m.entries m.leads; just_these = ap (λ (n : ℕ). mine n m.entries) (same a) ∙ m.just_these }

  -- FEEDS

  feeds_known : (end : Fed) (a b : A) (source : Option (List ℕ)) (clock clock' : Option Moments) (w w' : Option (List ℕ)) → Feeds actor.number actor.between end a b source clock clock' w w' → Feeds acts_under Learns end (knows a) (knows b) source clock clock' w w'
  feeds_known end a b source clock clock' w w' f = record {
    taken = f.taken;
    end = f.end;
    ended = record { mine = f.ended.mine; session = f.ended.session; made = made_known a b f.ended.mine f.ended.made };
    replies = f.replies;
  }

  -- MANAGEMENT

  proceeds_known : (asked : WebCall) (a b : A) (goes_on : NextStep → Type 0) → Proceeds actor.number actor.between asked a goes_on b → Proceeds acts_under Learns asked (knows a) goes_on (knows b)
  proceeds_known asked a b goes_on p = record { done = p.done; made = made_known a b p.done p.made; follows = p.follows; goes = p.goes }

  serves_known : (asked : WebCall) (a : A) (end : Result (Unit {0}) AdminErr) (b : A) (w w' : Option (List ℕ)) → Serves actor.number actor.between actor.is_spent asked a end b w w' → Serves acts_under Learns KnowsMost asked (knows a) end (knows b) w w'
  serves_known asked a (Ok done) b w w' s = (s.0, proceeds_known asked a b (IsTold s.0) s.1, s.2)
  serves_known asked a (Err admin.SinkFault) b w w' s = (s.0, by_reply s.1, s.2)
    where
      by_reply : Proceeds actor.number actor.between asked a (IsTold s.0) b ⊎ ((s.0 ≡ spent_reply) × Proceeds actor.number actor.between asked a AsksMore b × actor.is_spent b)
          → Proceeds acts_under Learns asked (knows a) (IsTold s.0) (knows b) ⊎ ((s.0 ≡ spent_reply) × Proceeds acts_under Learns asked (knows a) AsksMore (knows b) × KnowsMost (knows b))
      by_reply (inl p) = inl (proceeds_known asked a b (IsTold s.0) p)
      by_reply (inr p) = inr (p.0, proceeds_known asked a b AsksMore p.1, full b p.2)
  serves_known asked a (Err admin.Spent) b w w' s = (proceeds_known asked a b AsksMore s.0, full b s.1, s.2)
  serves_known asked a (Err admin.Memory) b w w' s = (proceeds_known asked a b Anyhow s.0, s.1)

  -- RETRIEVALS

  fails_known : (a : A) (name : List ℕ) (query : Query) (why : PinVariableErr) (b : A) → FailsToPin actor.number actor.between actor.is_spent a name query why b → FailsToPin acts_under Learns KnowsMost (knows a) name query why (knows b)
  fails_known a name query pin_err.NoSuchVariable b f = made_known a b _ f
  fails_known a name query pin_err.DiskFault b f = made_known a b _ f
  fails_known a name query pin_err.Spent b f = (made_known a b [] f.0, full b f.1)
  fails_known a name query pin_err.Memory b (inl f) = inl (made_known a b [] f)
  fails_known a name query pin_err.Memory b (inr f) = inr (made_known a b _ f)

  -- a pin was given up, or no act was left for that
  unpins_known : (pin : ℕ) (unpin : List Done) (b : A) → (unpin ≡ given_up pin) ⊎ ((unpin ≡ []) × actor.is_spent b) → (unpin ≡ given_up pin) ⊎ ((unpin ≡ []) × KnowsMost (knows b))
  unpins_known pin unpin b (inl is) = inl is
  unpins_known pin unpin b (inr none) = inr (none.0, full b none.1)

  gives_up_known : (a : A) (pin : ℕ) (b : A) → GivesUp actor.number actor.between actor.is_spent a pin b → GivesUp acts_under Learns KnowsMost (knows a) pin (knows b)
  gives_up_known a pin b g = record { unpin = g.unpin; made = made_known a b g.unpin g.made; is = unpins_known pin g.unpin b g.is }

  loses_known : (at : Machine) (rose : Type 0) (head : Head) (a : A) (pin : ℕ) (w : Option (List ℕ)) (result : Retrieved R) (b : A) (w' : Option (List ℕ)) → LosesHead actor rose head a pin w result b w' → LosesHead (knower at) rose head (knows a) pin w result (knows b) w'
  loses_known at rose head a pin w result b w' l = record { gives_up = gives_up_known a pin b l.gives_up; why = l.why }

  refuses_known : (at : Machine) (rose : Type 0) (a : A) (name : List ℕ) (query : Query) (w : Option (List ℕ)) (result : Retrieved R) (b : A) (w' : Option (List ℕ)) → RefusesPin actor rose a name query w result b w' → RefusesPin (knower at) rose (knows a) name query w result (knows b) w'
  refuses_known at rose a name query w result b w' r = record { why = r.why; fails = fails_known a name query r.why b r.fails; tells = r.tells }

  pins_known : (at : Machine) (rose : Type 0) (head : Head) (a : A) (name : List ℕ) (query : Query) (w : Option (List ℕ)) (result : Retrieved R) (b : A) (w' : Option (List ℕ)) → PinsAndLoses actor rose head a name query w result b w' → PinsAndLoses (knower at) rose head (knows a) name query w result (knows b) w'
  pins_known at rose head a name query w result b w' p = record {
    pin = p.pin;
    name_told = p.name_told;
    about = p.about;
    pieces = p.pieces;
    tail = p.tail;
    pinned = knows p.pinned;
    pins = made_known a p.pinned _ p.pins;
    loses = loses_known at rose head p.pinned p.pin w result b w' p.loses;
  }

  reads_known : (file : OfFile R) (ty : PayloadType) (a : A) (pin : ℕ) (rose : Type 0) (result : Retrieved R) (b : A) → ReadsPinned actor.number actor.between actor.is_spent file.tells file.faults ty a pin rose result b → ReadsPinned acts_under Learns KnowsMost file.tells file.faults ty (knows a) pin rose result (knows b)
  reads_known file ty a pin rose result b r = record {
    told = r.told;
    failed = r.failed;
    unpin = r.unpin;
    stopped = knows r.stopped;
    made = made_known a r.stopped (openings pin 0 r.told ++ r.failed) r.made;
    unpinned = made_known r.stopped b r.unpin r.unpinned;
    is = unpins_known pin r.unpin b r.is;
    ends = ends_by file.tells file.faults ty pin r.told r.failed r.unpin (actor.is_spent r.stopped ⊎ actor.is_spent b) (KnowsMost (knows r.stopped) ⊎ KnowsMost (knows b)) rose result either r.ends;
  }
    where
      either : actor.is_spent r.stopped ⊎ actor.is_spent b → KnowsMost (knows r.stopped) ⊎ KnowsMost (knows b)
      either (inl s) = inl (full r.stopped s)
      either (inr s) = inr (full b s)

  -- a reply to a request for data, whose text is told so in both words
  replies_data_known : (at : Machine) (rose : Type 0) (format : Format) (version : ℕ) (a : A) (name : List ℕ) (query : Query) (w : Option (List ℕ)) (Rest Rest' : Option (List ℕ) → Type 0) (result : Retrieved R) (b : A) (w' : Option (List ℕ)) → ((mid : Option (List ℕ)) → Rest mid → Rest' mid)
      → RepliesData actor rose format version a name query w Rest result b w' → RepliesData (knower at) rose format version (knows a) name query w Rest' result (knows b) w'
  replies_data_known at rose format version a name query w Rest Rest' result b w' to (inl r) = inl (refuses_known at rose a name query w result b w' r)
  replies_data_known at rose format version a name query w Rest Rest' result b w' to (inr (inl p)) = inr (inl (pins_known at rose (data_head format version) a name query w result b w' p))
  replies_data_known at rose format version a name query w Rest Rest' result b w' to (inr (inr h)) = inr (inr (h.0, h.1, to h.0 h.2))

  is_pinned_known : {O : Type 0} (file : OfFile R) (finished broke : O → Subject → List Sample → O → Type 0) (rose : Type 0) (a : A) (name : List ℕ) (query : Query) (out : O) (result : Retrieved R) (b : A) (out' : O)
      → IsPinned actor.number actor.between actor.is_spent file.tells file.faults finished broke rose a name query out result b out' → IsPinned acts_under Learns KnowsMost file.tells file.faults finished broke rose (knows a) name query out result (knows b) out'
  is_pinned_known file finished broke rose a name query out result b out' p = record {
    pin = p.pin;
    name_told = p.name_told;
    about = p.about;
    pieces = p.pieces;
    tail = p.tail;
    pinned = knows p.pinned;
    pins = made_known a p.pinned _ p.pins;
    reads = reads_known file p.about.ty p.pinned p.pin rose result b p.reads;
    writes = p.writes;
  }

  writes_known : {O : Type 0} (finished broke : O → Subject → List Sample → O → Type 0) (a : A) (m : Machine) (name : List ℕ) (query : Query) (out : O) (result : Retrieved R) (b : A) (out' : O)
      → WritesAnswer actor.number actor.between finished broke a m name query out result b out' → WritesAnswer acts_under Learns finished broke (knows a) m name query out result (knows b) out'
  writes_known finished broke a m name query out result b out' p = record {
    before_it = p.before_it;
    pin = p.pin;
    after_it = p.after_it;
    leads = learns a b (p.before_it ++ p.pin ∷ p.after_it) p.leads;
    first = ap (λ (n : ℕ). own n p.before_it) (same a) ∙ p.first;
    by = p.by ∙ sym (same a);
    act = p.act;
    pinned = p.pinned;
    runs = p.runs;
    i = p.i;
    row = p.row;
    found = p.found;
    here = p.here;
    writes = p.writes;
  }

  module _ (file : OfFile R) (rose : Type 0) (a : A) (w : Option (List ℕ)) (b : A) (w' : Option (List ℕ)) (at : Machine) (here : actor.stands a at) where
    acts_known : (format : Format) (version : ℕ) (name : List ℕ) (query : Query) (result : Retrieved R) → MakesActs actor file rose a w b w' format version name query result → MakesActs (knower at) file rose (knows a) w (knows b) w' format version name query result
    acts_known format version name query result acts =
        replies_data_known at rose format version a name query w _ _ result b w' (λ mid p. is_pinned_known file (FinishesBody format version) (BreaksBody format version) rose a name query mid result b w' p) acts

    whole_known : (m : Machine) (format : Format) (version : ℕ) (name : List ℕ) (query : Query) (result : Retrieved R) → IsWhole actor rose m a w b w' format version name query result → IsWhole (knower at) rose m (knows a) w (knows b) w' format version name query result
    whole_known m format version name query result whole =
        replies_data_known at rose format version a name query w _ _ result b w' (λ mid p. writes_known (FinishesBody format version) (BreaksBody format version) a m name query mid result b w' p) whole

    data_known : (format : Format) (version : ℕ) (name : List ℕ) (query : Query) (result : Retrieved R) → AnswersData actor file rose a w b w' format version name query result
        → AnswersData (knower at) file rose (knows a) w (knows b) w' format version name query result
    data_known format version name query result d = record {
      acts = acts_known format version name query result d.acts;
      whole = λ t m is told headers. whole_known m format version name query result (d.whole t m (subst (λ (x : Machine). actor.stands a x) (sym is) here) told headers);
    }

    -- REQUESTS

    ends_known : (format : Format) (version : ℕ) (name : List ℕ) (query : Query) (result : Served R) → EndsCall (AnswersData actor file rose a w b w' format version name query) result
        → EndsCall (AnswersData (knower at) file rose (knows a) w (knows b) w' format version name query) result
    ends_known format version name query result e = (e.0, e.1, data_known format version name query e.0 e.2)

    call_known : (version : ℕ) (asked : WebCall) (result : Served R) → RepliesCall actor (AnswersData actor file rose a w b w') version a asked w result b w'
        → RepliesCall (knower at) (AnswersData (knower at) file rose (knows a) w (knows b) w') version (knows a) asked w result (knows b) w'
    call_known version (call.Raw pv query op) result r = ends_known (Raw op) version pv query result r
    call_known version (call.Json pv query op) result r = ends_known (Json op) version pv query result r
    call_known version other result r = (r.0, r.1, serves_known other a r.0 b w w' r.2)

    to_known : (request : Result Request HttpErr) (result : Served R) → RepliesTo actor rose (AnswersData actor file rose a w b w') a request w result b w'
        → RepliesTo (knower at) rose (AnswersData (knower at) file rose (knows a) w (knows b) w') (knows a) request w result (knows b) w'
    to_known (Ok request) result r = call_known request.version request.call result r
    to_known (Err why) result r = (made_known a b [] r.0, r.1)

    replies_known : (left : Option (List ℕ)) (result : Served R) → Replies actor rose (AnswersData actor file rose a w b w') left a w result b w'
        → Replies (knower at) rose (AnswersData (knower at) file rose (knows a) w (knows b) w') left (knows a) w result (knows b) w'
    replies_known left result r = record { request = r.request; later = r.later; read = r.read; replies = to_known r.request result r.replies }

  -- LINKS

  pub link_known : {L : Type 0} (file : OfFile R) (source : OfSource L) (sink : OfSink L) (kind : Kind) (a : A) (clock : Option Moments) (was : L) (result : Served R) (b : A) (clock' : Option Moments) (l : L) (at : Machine) → actor.stands a at
      → ServesLink actor file source sink kind a clock was result b clock' l → ServesLink (knower at) file source sink kind (knows a) clock was result (knows b) clock' l
  link_known file source sink Feed a clock was result b clock' l at here s = (s.0, s.1, feeds_known s.0 a b (source.left was) clock clock' (sink.written was) (sink.written l) s.2)
  link_known file source sink Http a clock was result b clock' l at here s =
      (replies_known file _ a (sink.written was) b (sink.written l) at here (source.left was) result s.0, s.1)

  pub spent_known : (at : Machine) (b : A) → WasSpent actor b → WasSpent {R = R} (knower at) (knows b)
  spent_known at b s = (knows s.0, full s.0 s.1, s.2, learns s.0 b s.2 s.3)

-- WHERE A SESSION LEADS

module _ {A R : Type 0} (actor : OfActor A R) (joined : (a b c : A) (xs ys : List Entry) → actor.between a xs b → actor.between b ys c → actor.between a (xs ++ ys) c) where
  -- some entries lead from the one to the other
  abbrev pub Leads : A → A → Type 0
  Leads a b = (es : List Entry) × actor.between a es b

  pub made_leads : (a b : A) (ds : List Done) → Made actor.number actor.between a ds b → Leads a b
  made_leads a b ds m = (m.entries, m.leads)

  pub both_lead : (a b c : A) → Leads a b → Leads b c → Leads a c
  both_lead a b c p q = (p.0 ++ q.0, joined a b c p.0 q.0 p.1 q.1)

  serves_leads : (asked : WebCall) (a : A) (end : Result (Unit {0}) AdminErr) (b : A) (w w' : Option (List ℕ)) → Serves actor.number actor.between actor.is_spent asked a end b w w' → Leads a b
  serves_leads asked a (Ok done) b w w' s = made_leads a b s.1.done s.1.made
  serves_leads asked a (Err admin.SinkFault) b w w' s = by_reply s.1
    where
      by_reply : Proceeds actor.number actor.between asked a (IsTold s.0) b ⊎ ((s.0 ≡ spent_reply) × Proceeds actor.number actor.between asked a AsksMore b × actor.is_spent b) → Leads a b
      by_reply (inl p) = made_leads a b p.done p.made
      by_reply (inr p) = made_leads a b p.1.done p.1.made
  serves_leads asked a (Err admin.Spent) b w w' s = made_leads a b s.0.done s.0.made
  serves_leads asked a (Err admin.Memory) b w w' s = made_leads a b s.0.done s.0.made

  fails_leads : (a : A) (name : List ℕ) (query : Query) (why : PinVariableErr) (b : A) → FailsToPin actor.number actor.between actor.is_spent a name query why b → Leads a b
  fails_leads a name query pin_err.NoSuchVariable b f = made_leads a b _ f
  fails_leads a name query pin_err.DiskFault b f = made_leads a b _ f
  fails_leads a name query pin_err.Spent b f = made_leads a b [] f.0
  fails_leads a name query pin_err.Memory b (inl f) = made_leads a b [] f
  fails_leads a name query pin_err.Memory b (inr f) = made_leads a b _ f

  acts_lead : (file : OfFile R) (rose : Type 0) (a : A) (w : Option (List ℕ)) (b : A) (w' : Option (List ℕ)) (format : Format) (version : ℕ) (name : List ℕ) (query : Query) (result : Retrieved R)
      → MakesActs actor file rose a w b w' format version name query result → Leads a b
  acts_lead file rose a w b w' format version name query result (inl r) = fails_leads a name query r.why b r.fails
  acts_lead file rose a w b w' format version name query result (inr (inl p)) =
      both_lead a p.pinned b (made_leads a p.pinned _ p.pins) (made_leads p.pinned b p.loses.gives_up.unpin p.loses.gives_up.made)
  acts_lead file rose a w b w' format version name query result (inr (inr h)) =
      let p = h.2 in
      both_lead a p.pinned b (made_leads a p.pinned _ p.pins) (both_lead p.pinned p.reads.stopped b (made_leads p.pinned p.reads.stopped _ p.reads.made) (made_leads p.reads.stopped b p.reads.unpin p.reads.unpinned))

  module _ (file : OfFile R) (rose : Type 0) (a : A) (w : Option (List ℕ)) (b : A) (w' : Option (List ℕ)) where
    call_leads : (version : ℕ) (asked : WebCall) (result : Served R) → RepliesCall actor (AnswersData actor file rose a w b w') version a asked w result b w' → Leads a b
    call_leads version (call.Raw pv query op) result r = acts_lead file rose a w b w' (Raw op) version pv query r.0 r.2.acts
    call_leads version (call.Json pv query op) result r = acts_lead file rose a w b w' (Json op) version pv query r.0 r.2.acts
    call_leads version other result r = serves_leads other a r.0 b w w' r.2

    to_leads : (request : Result Request HttpErr) (result : Served R) → RepliesTo actor rose (AnswersData actor file rose a w b w') a request w result b w' → Leads a b
    to_leads (Ok request) result r = call_leads request.version request.call result r
    to_leads (Err why) result r = made_leads a b [] r.0

  pub link_leads : {L : Type 0} (file : OfFile R) (source : OfSource L) (sink : OfSink L) (kind : Kind) (a : A) (clock : Option Moments) (was : L) (result : Served R) (b : A) (clock' : Option Moments) (l : L)
      → ServesLink actor file source sink kind a clock was result b clock' l → Leads a b
  link_leads file source sink Feed a clock was result b clock' l s = made_leads a b s.2.ended.mine s.2.ended.made
  link_leads file source sink Http a clock was result b clock' l s = to_leads file _ a (sink.written was) b (sink.written l) s.0.request result s.0.replies
