-- Where no count rises and acts are left, a link gets what it asks for, or memory was wanting.
use Rattle.std.proofs.Common.{◌≡◌, ◌⊎◌, inl, inr, ℕ, Bool, false, List, [], ◌∷◌, ◌++◌, length, Option, Some, None, Result, Ok, Err, refl, sym, ap, ◌∙◌, subst, append_assoc}
use Rattle.std.specs.Prelude.{IfSome}
use Rattle.edge_io.specs.Moments.{Moments}
use Rattle.disk_model.specs.Files.{Rose as DiskRose}
use Rattle.pb_lines.specs.Stream.{Item, Stop, IsWholeStream, first_section}
use Rattle.pb_lines.proofs.Unique.{one_stream}
use Rattle.series_model.specs.declared.sample.Query.{Query}
use Rattle.disk_model.specs.declared.disk.ReadAt.{Ghosts as OfFile}
use Rattle.act_model.specs.declared.acts.Act.{Act}
use Rattle.act_model.specs.declared.acts.Act.TheVariants.{Pin}
use Rattle.act_model.specs.declared.acts.Answer.TheVariants.{DiskFault, Pinned}
use Rattle.act_model.specs.declared.actor.Actor.{Ghosts as OfActor}
use Rattle.act_model.specs.History.{Done, Entry, Goes, Made, Runs}
use Rattle.act_model.specs.Laws.{AnswersAreOfActs}
use Rattle.act_model.specs.Machine.{Machine}
use Rattle.act_model.specs.Reply.{Reply}
use Rattle.act_model.specs.Sound.{IsSound}
use Rattle.act_model.proofs.Histories.{made_joined}
use Rattle.feed_session.specs.Asks.{FailsWith}
use Rattle.feed_session.specs.Replies.{CutsOff, Feeds, text_of}
use Rattle.feed_session.specs.Replies.{Tells as FeedTells}
use Rattle.feed_session.specs.Session.{EndsSession, TakenItem, acts_of}
use Rattle.feed_session.specs.declared.end.Fed.{Fed}
use Rattle.feed_session.specs.declared.end.Fed.TheVariants as fed
use Rattle.http_front.specs.declared.request.HttpErr.{HttpErr}
use Rattle.http_front.specs.declared.request.HttpErr.TheVariants as http
use Rattle.http_front.specs.declared.request.Request.{Request}
use Rattle.http_front.specs.declared.request.WebCall.{WebCall}
use Rattle.http_front.specs.declared.request.WebCall.TheVariants as call
use Rattle.http_front.specs.Laws.{IsAnswer}
use Rattle.http_front.specs.Reading.{HasRead}
use Rattle.http_front.proofs.Answering.{one_answer}
use Rattle.admin_commands.specs.declared.end.AdminErr.{AdminErr}
use Rattle.admin_commands.specs.declared.end.AdminErr.TheVariants as admin
use Rattle.admin_commands.specs.declared.refusal.Refusal.{Refusal}
use Rattle.admin_commands.specs.Serving.{Serves}
use Rattle.retrieval_query.specs.declared.retrieved.Retrieved.{Retrieved}
use Rattle.retrieval_query.specs.declared.retrieved.Retrieved.TheVariants as retrieved
use Rattle.retrieval_query.specs.declared.variable.PinVariableErr.{PinVariableErr}
use Rattle.retrieval_query.specs.declared.variable.PinVariableErr.TheVariants as pin_err
use Rattle.retrieval_query.specs.Openings.{openings, failing}
use Rattle.retrieval_query.specs.Pinning.{FailsToPin, ended_by}
use Rattle.retrieval_query.specs.Retrieving.{IsPinned}
use Rattle.stream_merge.specs.Pieces.{Faulted}
use Rattle.service.specs.declared.format.Format.{Format}
use Rattle.service.specs.declared.format.Format.TheVariants as format
use Rattle.service.specs.declared.served.Served.{Served}
use Rattle.service.specs.declared.served.Served.TheVariants as served
use Rattle.service.specs.Data.{AnswersData, BreaksBody, FinishesBody, IsWhole, MakesActs, Tells, pin_refusal}
use Rattle.service.specs.Requests.{Replies, RepliesCall, RepliesTo, managed_by, replied_by}
use Rattle.service.specs.Serving.{WasSpent, fed_as}
use Rattle.service.specs.Completeness.{CompletesCall, CompletesFeed, CompletesRequest, EndsWell, GivesAnswer, GivesReply, HasAnswer, IsFedTo, NoneFaults}
use Rattle.service.proofs.Counting.{runs_rose}
use Rattle.service.proofs.Damage.{never_unknown, undamaged}
use Rattle.service.proofs.SpentActs.{now_spent}

-- HOW A FEED ENDED

-- the bytes are one stream alone
one_stop : (left : Option (List ℕ)) (bytes : List ℕ) (items others : List Item) (stop halt : Stop) → left ≡ Some bytes → IsWholeStream bytes items stop → IfSome left (λ b. IsWholeStream b others halt) → halt ≡ stop
one_stop left bytes items others stop halt is stream own =
    let same : IsWholeStream bytes others halt = subst (λ (o : Option (List ℕ)). IfSome o (λ b. IsWholeStream b others halt)) is own in
    sym (one_stream first_section 0 0 bytes items others stop halt stream same).1

-- AN ANSWER THAT IS WHOLE

not_told : {R : Type 0} (refusal : Option Refusal) (rose : Type 0) (count : ℕ) (end : Retrieved R) (a b : Option (List ℕ)) → (retrieved.Finished count ≡ end → ⊥) → Tells refusal rose end retrieved.SinkFault retrieved.Memory a (retrieved.Finished count) b → ⊥
not_told {R} None rose count end a b other t = let is : ◌≡◌ {A = Retrieved R} (retrieved.Finished count) retrieved.Memory = t.0 in cc
not_told (Some why) rose count end a b other (inl t) = other t.0
not_told {R} (Some why) rose count end a b other (inr (inl t)) = let is : ◌≡◌ {A = Retrieved R} (retrieved.Finished count) retrieved.SinkFault = t.0 in cc
not_told {R} (Some why) rose count end a b other (inr (inr t)) = let is : ◌≡◌ {A = Retrieved R} (retrieved.Finished count) retrieved.Memory = t.0 in cc

not_ended : {R : Type 0} (count : ℕ) (why : PinVariableErr) → ◌≡◌ {A = Retrieved R} (retrieved.Finished count) (ended_by why) → ⊥
not_ended count pin_err.NoSuchVariable is = cc
not_ended count pin_err.DiskFault is = cc
not_ended count pin_err.Spent is = cc
not_ended count pin_err.Memory is = cc

answer_given : {A R : Type 0} (actor : OfActor A R) (rose : Type 0) (m : Machine) (old new : A) (a b : Option (List ℕ)) (form : Format) (version : ℕ) (name : List ℕ) (query : Query) (count : ℕ)
    → IsWhole {R = R} actor rose m old a new b form version name query (retrieved.Finished count) → GivesAnswer actor old m form version name query a new b
answer_given {A} {R} actor rose m old new a b form version name query count (inl r) = absurd (not_told (pin_refusal r.why) rose count (ended_by r.why) a b (not_ended {R = R} count r.why) r.tells)
answer_given {A} {R} actor rose m old new a b form version name query count (inr (inl p)) = absurd (by_why p.loses.why)
  where
    by_why : {X Y Z : Type 0} → ((◌≡◌ {A = Retrieved R} (retrieved.Finished count) retrieved.SinkFault) × X × Y) ⊎ ((◌≡◌ {A = Retrieved R} (retrieved.Finished count) retrieved.Memory) × Z) → ⊥
    by_why (inl t) = cc (t.0)
    by_why (inr t) = cc (t.0)
answer_given actor rose m old new a b form version name query count (inr (inr heads)) = record { count = count; answer = heads }

-- WHERE NOTHING FAILS

module _ (answers : AnswersAreOfActs) {A R : Type 0} (actor : OfActor A R)
    (legal : (a b : A) (entries : List Entry) (m : Machine) → actor.between a entries b → actor.stands a m → Goes (actor.stands b) m entries) (sound : (a : A) (m : Machine) → actor.stands a m → IsSound m)
    (joined : (a b c : A) (xs ys : List Entry) → actor.between a xs b → actor.between b ys c → actor.between a (xs ++ ys) c) (number_stays : (a b : A) (entries : List Entry) → actor.between a entries b → actor.number b ≡ actor.number a) (nothing : (a : A) → actor.between a [] a)
    (old new : A) (m : Machine) (is : actor.stands old m) (quiet : (entries : List Entry) (n : Machine) → actor.between old entries new → Runs m entries n → actor.stands new n → DiskRose m.faults n.faults → ⊥) (acts_left : WasSpent actor new → ⊥) where
  -- none of the acts was told a fault
  no_fault : (before behind : List Done) (act : Act) → Made actor.number actor.between old (before ++ record { act = act; answer = DiskFault } ∷ behind) new → ⊥
  no_fault before behind act made =
      let goes = legal old new made.entries m made.leads is in
      quiet made.entries goes.after made.leads goes.runs goes.stands_for (runs_rose answers (actor.number old) made.entries m goes.after before behind act (sound old m is) goes.runs made.just_these)

  none_behind : (front done : List Done) → Made actor.number actor.between old (front ++ done) new → NoneFaults done
  none_behind front [] made = tt
  none_behind front (d ∷ done) made = (
    λ fault. no_fault front done d.act (subst (λ (r : Reply). Made actor.number actor.between old (front ++ record { act = d.act; answer = r } ∷ done) new) fault made),
    none_behind (front ++ d ∷ []) done (subst (λ (l : List Done). Made actor.number actor.between old l new) (sym (append_assoc front (d ∷ []) done)) made),
  )

  -- A FEED

  module _ (left : Option (List ℕ)) (clock clock' : Option Moments) (bytes : List ℕ) (items : List Item) (stop : Stop) (left_is : left ≡ Some bytes) (stream : IsWholeStream bytes items stop) where
    fed_well : (end : Fed) (taken : List TakenItem) → EndsSession actor.number actor.between false end taken old new left clock clock' → (end ≡ fed.PeerFault → ⊥) → (end ≡ fed.Spent → ⊥) → EndsWell {R = R} (IsFedTo {R = R} stop (fed_as end)) (fed_as end)
    fed_well (fed.Fed kept held dropped) taken e peer spent =
        let halt = one_stop left bytes items _ stop None left_is stream e.session.reads in
        inl (subst (λ (s : Stop). IsFedTo {R = R} s (fed_as (fed.Fed kept held dropped))) halt (kept, held, dropped, refl))
    fed_well (fed.Refused line fault) taken e peer spent =
        let halt = one_stop left bytes items _ stop (Some (line, fault)) left_is stream e.session.reads in
        inl (subst (λ (s : Stop). IsFedTo {R = R} s (fed_as (fed.Refused line fault))) halt refl)
    fed_well fed.PeerFault taken e peer spent = absurd (peer refl)
    fed_well fed.DiskFault taken e peer spent =
        let s = e.session in
        let f : FailsWith DiskFault s.last = s.ends in
        let all : e.mine ≡ (acts_of taken ++ f.before) ++ record { act = f.act; answer = DiskFault } ∷ [] = s.all ∙ (ap (λ (l : List Done). acts_of taken ++ l) f.is ∙ sym (append_assoc (acts_of taken) f.before (record { act = f.act; answer = DiskFault } ∷ []))) in
        absurd (no_fault (acts_of taken ++ f.before) [] f.act (subst (λ (l : List Done). Made actor.number actor.between old l new) all e.made))
    fed_well fed.Spent taken e peer spent = absurd (spent refl)
    fed_well fed.Memory taken e peer spent = inr refl

    cut_well : (result : Fed) → CutsOff result → (result ≡ fed.PeerFault → ⊥) → EndsWell {R = R} (IsFedTo {R = R} stop (fed_as result)) (fed_as result)
    cut_well fed.PeerFault cut peer = absurd (peer refl)
    cut_well fed.Memory cut peer = inr refl
    cut_well (fed.Fed kept held dropped) cut peer = absurd cut
    cut_well (fed.Refused line fault) cut peer = absurd cut
    cut_well fed.DiskFault cut peer = absurd cut
    cut_well fed.Spent cut peer = absurd cut

    told_well : (result end : Fed) (taken : List TakenItem) (text : List ℕ) (a b : Option (List ℕ)) → EndsSession actor.number actor.between false end taken old new left clock clock' → (result ≡ fed.PeerFault → ⊥) → (result ≡ fed.Spent → ⊥) → FeedTells end text result a b → EndsWell {R = R} (IsFedTo {R = R} stop (fed_as result)) (fed_as result)
    told_well result end taken text a b e peer spent (inl t) =
        subst (λ (f : Fed). EndsWell {R = R} (IsFedTo {R = R} stop (fed_as f)) (fed_as f)) (sym t.0) (fed_well end taken e (λ bad. peer (t.0 ∙ bad)) (λ bad. spent (t.0 ∙ bad)))
    told_well result end taken text a b e peer spent (inr t) = cut_well result t.0 peer

  pub feed_completes : (result : Fed) (left : Option (List ℕ)) (clock clock' : Option Moments) (a b : Option (List ℕ)) → Feeds actor.number actor.between result old new left clock clock' a b → (result ≡ fed.PeerFault → ⊥) → (result ≡ fed.Spent → ⊥) → CompletesFeed {R = R} left (fed_as result)
  feed_completes result left clock clock' a b f peer spent bytes items stop left_is stream = told_well left clock clock' bytes items stop left_is stream result f.end f.taken (text_of f.end f.taken) a b f.ended peer spent f.replies

  -- A REQUEST

  module _ (file : OfFile R) (rose : Type 0) (a b : Option (List ℕ)) (result : Served R) (none_rose : rose → ⊥) (peer : result ≡ served.PeerFault → ⊥) (files : (failed : R) → result ≡ served.ReadFault (Some failed) → file.faults failed ≡ 0) where
    -- how a retrieval ends
    abbrev EndedWell : Retrieved R → Type 0
    EndedWell end = ((count : ℕ) × (end ≡ retrieved.Finished count)) ⊎ (end ≡ retrieved.Memory)

    module _ (form : Format) (version : ℕ) (name : List ℕ) (query : Query) (has : HasAnswer file.tells m name) where
      refused_well : (why : PinVariableErr) (end : Retrieved R) → FailsToPin actor.number actor.between actor.is_spent old name query why new → Tells (pin_refusal why) rose (ended_by why) retrieved.SinkFault retrieved.Memory a end b → EndedWell end
      refused_well pin_err.NoSuchVariable end f t = absurd (never_unknown actor.number actor.between actor.stands legal sound old new name query m has.row is has.told has.here f)
      refused_well pin_err.DiskFault end f t = absurd (no_fault [] [] (Pin name query) f)
      refused_well pin_err.Spent end f t = absurd (acts_left (now_spent actor nothing new f.1))
      refused_well pin_err.Memory end f t = inr t.0

      pinned_well : (end : Retrieved R) (mid : Option (List ℕ)) → result ≡ replied_by end → IsPinned actor.number actor.between actor.is_spent file.tells file.faults (FinishesBody form version) (BreaksBody form version) rose old name query mid end new b → EndedWell end
      pinned_well (retrieved.Finished count) mid ended r = inl (count, refl)
      pinned_well retrieved.NoSuchVariable mid ended r = absurd r.reads.ends
      pinned_well (retrieved.ReadFault None) mid ended r =
          let q = r.reads in
          let pin : Done = record { act = Pin name query; answer = Pinned r.pin r.name_told r.about r.pieces r.tail } in
          let opened = openings r.pin 0 q.told in
          let behind = made_joined actor.number actor.between joined number_stays r.pinned q.stopped new (opened ++ q.failed) q.unpin q.made q.unpinned in
          let all = made_joined actor.number actor.between joined number_stays old r.pinned new (pin ∷ []) ((opened ++ q.failed) ++ q.unpin) r.pins behind in
          let at : (opened ++ q.failed) ++ q.unpin ≡ opened ++ (failing r.pin (length q.told) Faulted ++ q.unpin) = ap (λ (l : List Done). (opened ++ l) ++ q.unpin) q.ends ∙ append_assoc opened (failing r.pin (length q.told) Faulted) q.unpin in
          absurd (no_fault (pin ∷ opened) q.unpin _ (subst (λ (l : List Done). Made actor.number actor.between old (pin ∷ l) new) at all))
      pinned_well (retrieved.ReadFault (Some failed)) mid ended r = absurd (r.reads.ends.1 (files failed ended))
      pinned_well (retrieved.Damaged name_of at) mid ended r =
          absurd (undamaged actor.number actor.between actor.stands legal sound joined number_stays nothing old r.pinned r.reads.stopped name query r.pin r.name_told r.about r.pieces r.tail m r.reads.told r.reads.failed name_of at r.pins is has.told has.headers r.reads.made (r.reads.ends.1 has.readers))
      pinned_well retrieved.SinkFault mid ended r = absurd (none_rose r.reads.ends.1)
      pinned_well retrieved.Spent mid ended r = absurd (by_state r.reads.ends.1)
        where
          by_state : actor.is_spent r.reads.stopped ⊎ actor.is_spent new → ⊥
          by_state (inl spent) = acts_left (r.reads.stopped, spent, r.reads.unpinned.entries, r.reads.unpinned.leads)
          by_state (inr spent) = acts_left (now_spent actor nothing new spent)
      pinned_well retrieved.Memory mid ended r = inr refl

      data_well : (end : Retrieved R) → result ≡ replied_by end → MakesActs actor file rose old a new b form version name query end → EndedWell end
      data_well end ended (inl r) = refused_well r.why end r.fails r.tells
      data_well end ended (inr (inl p)) = by_why p.loses.why
        where
          by_why : {Y Z : Type 0} → ((end ≡ retrieved.SinkFault) × rose × Y) ⊎ ((end ≡ retrieved.Memory) × Z) → EndedWell end
          by_why (inl t) = absurd (none_rose t.1)
          by_why (inr t) = inr t.0
      data_well end ended (inr (inr (mid, out, r))) = pinned_well end mid ended r

      data_completes : (end : Retrieved R) → result ≡ replied_by end → AnswersData actor file rose old a new b form version name query end → EndsWell ((result ≡ served.Finished) × GivesAnswer actor old m form version name query a new b) result
      data_completes end ended d = by_end (data_well end ended d.acts)
        where
          by_end : EndedWell end → EndsWell ((result ≡ served.Finished) × GivesAnswer actor old m form version name query a new b) result
          by_end (inl (count, finished)) =
              let whole = subst (λ (e : Retrieved R). IsWhole actor rose m old a new b form version name query e) finished (d.whole has.readers m is has.told has.headers) in
              inl (ended ∙ ap replied_by finished, answer_given actor rose m old new a b form version name query count whole)
          by_end (inr memory) = inr (ended ∙ ap replied_by memory)

    managed_completes : (asked : WebCall) (end : Result (Unit {0}) AdminErr) → result ≡ managed_by end → Serves actor.number actor.between actor.is_spent asked old end new a b → EndsWell ((result ≡ served.Finished) × GivesReply actor asked old a new b) result
    managed_completes asked (Ok done) ended s = inl (ended, record { serves = s; well = none_behind [] s.1.done s.1.made })
    managed_completes asked (Err admin.SinkFault) ended s = absurd (peer ended)
    managed_completes asked (Err admin.Spent) ended s = absurd (acts_left (now_spent actor nothing new s.1))
    managed_completes asked (Err admin.Memory) ended s = inr ended

    call_completes : (version : ℕ) (asked : WebCall) → RepliesCall actor (AnswersData actor file rose old a new b) version old asked a result new b → CompletesCall actor file m version old asked a result new b
    call_completes version (call.Raw pv query op) (e, by, d) = λ has. data_completes (format.Raw op) version pv query has e by d
    call_completes version (call.Json pv query op) (e, by, d) = λ has. data_completes (format.Json op) version pv query has e by d
    call_completes version other (e, by, s) = managed_completes other e by s

    -- memory was wanting
    lacks : (version : ℕ) (asked : WebCall) → result ≡ served.Memory → CompletesCall actor file m version old asked a result new b
    lacks version (call.Raw pv query op) memory = λ has. inr memory
    lacks version (call.Json pv query op) memory = λ has. inr memory
    lacks version other memory = inr memory

    module _ (bytes : List ℕ) (asked : Request) (later after : Option (List ℕ)) (asks : HasRead (Some bytes) after (Ok asked)) where
      -- a request is the one that the bytes begin with
      same_request : (request : Request) → HasRead (Some bytes) later (Ok request) → request ≡ asked
      same_request request read = by_one (one_answer bytes later after (Ok request) (Ok asked) tt tt read asks)
        where
          by_one : {Y : Type 0} → (◌≡◌ {A = Result Request HttpErr} (Ok request) (Ok asked)) ⊎ (Y × ⊥) → request ≡ asked
          by_one (inl one) = cc
          by_one (inr none) = absurd none.1

      -- and nothing else is told of them
      no_refusal : (why : HttpErr) → IsAnswer (Err why) → HasRead (Some bytes) later (Err why) → ⊥
      no_refusal why answers read = by_one (one_answer bytes later after (Err why) (Ok asked) answers tt read asks)
        where
          by_one : {Y : Type 0} → (◌≡◌ {A = Result Request HttpErr} (Err why) (Ok asked)) ⊎ (Y × ⊥) → ⊥
          by_one (inl one) = cc
          by_one (inr none) = none.1

      to_completes : (request : Result Request HttpErr) → HasRead (Some bytes) later request → RepliesTo actor rose (AnswersData actor file rose old a new b) old request a result new b
          → CompletesCall actor file m asked.version old asked.call a result new b
      to_completes (Ok request) read r = subst (λ (q : Request). CompletesCall actor file m q.version old q.call a result new b) (same_request request read) (call_completes request.version request.call r)
      to_completes (Err http.SourceFault) read r = absurd (peer r.1.0)
      to_completes (Err http.Memory) read r = lacks asked.version asked.call r.1.0
      to_completes (Err http.BadHead) read r = absurd (no_refusal http.BadHead tt read)
      to_completes (Err http.HeadTooLong) read r = absurd (no_refusal http.HeadTooLong tt read)
      to_completes (Err http.BadMethod) read r = absurd (no_refusal http.BadMethod tt read)
      to_completes (Err http.BadPath) read r = absurd (no_refusal http.BadPath tt read)
      to_completes (Err (http.BadParameter which)) read r = absurd (no_refusal (http.BadParameter which) tt read)

    pub request_completes : (left : Option (List ℕ)) → Replies actor rose (AnswersData actor file rose old a new b) left old a result new b → CompletesRequest actor file m left old a result new b
    request_completes left r bytes asked left_is asks =
        to_completes bytes asked r.later asks.0 asks.1 r.request (subst (λ (o : Option (List ℕ)). HasRead o r.later r.request) left_is r.read) r.replies
