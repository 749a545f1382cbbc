-- What a reply came to: the parts of a reply to a request for data, why it ended, and how it begins.
use Rattle.std.proofs.Common.{◌≡◌, ◌⊎◌, inl, inr, ℕ, Bool, true, IsTrue, List, ◌++◌, Option, Some, None, Result, Ok, Err, drop, codes, refl, sym, subst}
use Rattle.std.specs.Io.KnownBytes.{Appends}
use Rattle.edge_io.specs.Stream.{AppendsFront}
use Rattle.edge_io.proofs.Writes.{appends_more}
use Rattle.series_model.specs.declared.sample.Query.{Query}
use Rattle.disk_model.specs.declared.disk.ReadAt.{Ghosts as OfFile}
use Rattle.act_model.specs.declared.acts.Act.TheVariants.{Pin}
use Rattle.act_model.specs.declared.acts.Answer.TheVariants.{Pinned}
use Rattle.act_model.specs.declared.actor.Actor.{Ghosts as OfActor}
use Rattle.act_model.specs.History.{Entry, MadeOne, Goes}
use Rattle.act_model.specs.Machine.{Machine}
use Rattle.act_model.specs.Sound.{IsSound}
use Rattle.http_front.specs.declared.reply.Head.{Head}
use Rattle.http_front.specs.declared.request.HttpErr.{HttpErr}
use Rattle.http_front.specs.declared.request.HttpErr.TheVariants as http
use Rattle.http_front.specs.declared.request.Request.{Request}
use Rattle.http_front.specs.declared.request.WebCall.{WebCall}
use Rattle.http_front.specs.declared.request.WebCall.TheVariants as call
use Rattle.http_front.specs.Reply.{head_text}
use Rattle.admin_commands.specs.declared.end.AdminErr.{AdminErr}
use Rattle.admin_commands.specs.declared.end.AdminErr.TheVariants as admin
use Rattle.admin_commands.specs.declared.refusal.Refusal.{Refusal}
use Rattle.admin_commands.specs.Next.{is_management}
use Rattle.admin_commands.specs.Replies.{refused_reply, reply_text}
use Rattle.admin_commands.specs.Serving.{Serves}
use Rattle.retrieval_query.specs.declared.variable.PinnedVariable.{PinnedVariable}
use Rattle.retrieval_query.specs.declared.retrieved.Retrieved.{Retrieved}
use Rattle.retrieval_query.specs.declared.retrieved.Retrieved.TheVariants as retrieved
use Rattle.retrieval_query.specs.Pinning.{AnswersPinned, ended_by}
use Rattle.retrieval_query.specs.Retrieving.{ReadsHeaders}
use Rattle.retrieval_query.proofs.Answered.{whole_answer}
use Rattle.sample_bins.specs.declared.op.Op.{Op}
use Rattle.service.specs.declared.format.Format.{Format}
use Rattle.service.specs.declared.format.Format.TheVariants as format
use Rattle.service.specs.declared.served.Kind.TheVariants.{Http}
use Rattle.service.specs.declared.served.Served.{Served}
use Rattle.service.specs.declared.served.Served.TheVariants.{Refused, PeerFault, Memory}
use Rattle.service.specs.Data.{AnswersData, BreaksBody, FinishesBody, IsWhole, MakesActs, RepliesPinned, Tells, data_head, pin_refusal}
use Rattle.service.specs.Requests.{Replies, RepliesCall, RepliesTo, managed_by, replied_by, unreplied}
use Rattle.service.specs.Serving.{HasBegun}
use Rattle.service.proofs.Answering.{of_writes}

-- A REQUEST FOR DATA

module _ {A R : Type 0} (actor : OfActor A R) (file : OfFile R) (rose : Type 0) (old mid new : A) (a b : Option (List ℕ)) (form : Format) (version : ℕ) (name : List ℕ) (query : Query) (result : Retrieved R) where
  -- the variable was pinned
  pub acts_of : (v : PinnedVariable) → MadeOne actor.number actor.between old (Pin name query) (Pinned v.pin v.name v.about v.pieces v.tail) mid
      → RepliesPinned actor rose form version mid v a (λ m. AnswersPinned actor.number actor.between actor.is_spent actor.stands file.tells file.faults (FinishesBody form version) (BreaksBody form version) rose mid v query m result new b) result new b
      → MakesActs actor file rose old a new b form version name query result
  acts_of v pins (inl lost) = inr (inl (record { pin = v.pin; name_told = v.name; about = v.about; pieces = v.pieces; tail = v.tail; pinned = mid; pins = pins; loses = lost }))
  acts_of v pins (inr head) =
      let answers = head.2 in
      inr (inr (head.0, head.1, record { pin = v.pin; name_told = v.name; about = v.about; pieces = v.pieces; tail = v.tail; pinned = mid; pins = pins; reads = answers.reads; writes = answers.some }))

  module _ (legal : (a b : A) (entries : List Entry) (m : Machine) → actor.between a entries b → actor.stands a m → Goes (actor.stands b) m entries) (sound : (a : A) (m : Machine) → actor.stands a m → IsSound m)
      (joined : (a b c : A) (xs ys : List Entry) → actor.between a xs b → actor.between b ys c → actor.between a (xs ++ ys) c) (number_stays : (a b : A) (entries : List Entry) → actor.between a entries b → actor.number b ≡ actor.number a)
      (m : Machine) (is : actor.stands old m) (told : m.told ≡ true) (headers : ReadsHeaders m.rule) (telling : IsTrue file.tells) where
    pub whole_of : (v : PinnedVariable) → MadeOne actor.number actor.between old (Pin name query) (Pinned v.pin v.name v.about v.pieces v.tail) mid
        → RepliesPinned actor rose form version mid v a (λ m. AnswersPinned actor.number actor.between actor.is_spent actor.stands file.tells file.faults (FinishesBody form version) (BreaksBody form version) rose mid v query m result new b) result new b
        → IsWhole actor rose m old a new b form version name query result
    whole_of v pins (inl lost) = inr (inl (record { pin = v.pin; name_told = v.name; about = v.about; pieces = v.pieces; tail = v.tail; pinned = mid; pins = pins; loses = lost }))
    whole_of v pins (inr head) =
        inr (inr (head.0, head.1, whole_answer actor.number actor.between actor.stands legal sound joined number_stays actor.is_spent file.tells file.faults (FinishesBody form version) (BreaksBody form version) rose old mid new name query v m head.0 b result pins is told headers telling head.2))

-- HOW A REPLY BEGINS

abbrev Begins : Option (List ℕ) → Option (List ℕ) → Type 0
Begins a b = (rest : List ℕ) × Appends a b (codes "HTTP/1.1 " ++ rest)

head_begins : (a b : Option (List ℕ)) (head : Head) (body : List ℕ) → Appends a b (head_text head ++ body) → Begins a b
head_begins a b head body all = (drop 9 (head_text head ++ body), all)

refusal_begins : (a b : Option (List ℕ)) (refusal : Refusal) → Appends a b (refused_reply refusal) → Begins a b
refusal_begins a b refusal all = (drop 9 (refused_reply refusal), all)

tells_begins : {R : Type 0} (refusal : Option Refusal) (rose : Type 0) (end : Retrieved R) (a b : Option (List ℕ)) (result : Retrieved R) → Tells refusal rose end retrieved.SinkFault retrieved.Memory a result b → Begins a b ⊎ (result ≡ retrieved.SinkFault) ⊎ (result ≡ retrieved.Memory)
tells_begins None rose end a b result t = inr (inr t.0)
tells_begins (Some why) rose end a b result (inl t) = inl (refusal_begins a b why t.1)
tells_begins (Some why) rose end a b result (inr (inl t)) = inr (inl t.0)
tells_begins (Some why) rose end a b result (inr (inr t)) = inr (inr t.0)

data_begins : {A R : Type 0} (actor : OfActor A R) (file : OfFile R) (rose : Type 0) (old new : A) (a b : Option (List ℕ)) (form : Format) (version : ℕ) (name : List ℕ) (query : Query) (result : Retrieved R)
    → MakesActs actor file rose old a new b form version name query result → Begins a b ⊎ (result ≡ retrieved.SinkFault) ⊎ (result ≡ retrieved.Memory)
data_begins actor file rose old new a b form version name query result (inl r) = tells_begins (pin_refusal r.why) rose (ended_by r.why) a b result r.tells
data_begins actor file rose old new a b form version name query result (inr (inl p)) = by_why p.loses.why
  where
    by_why : ((result ≡ retrieved.SinkFault) × rose × AppendsFront a b (head_text (data_head form version))) ⊎ ((result ≡ retrieved.Memory) × (b ≡ a)) → Begins a b ⊎ (result ≡ retrieved.SinkFault) ⊎ (result ≡ retrieved.Memory)
    by_why (inl w) = inr (inl w.0)
    by_why (inr w) = inr (inr w.0)
data_begins actor file rose old new a b form version name query result (inr (inr h)) =
    let head = data_head form version in
    let some = h.2.writes in
    inl (of_writes (FinishesBody form version) (BreaksBody form version) h.0 b _ some.given result
    (λ w. head_begins a b head _ (appends_more a h.0 b (head_text head) _ h.1 w.2))
    (λ w. head_begins a b head _ (appends_more a h.0 b (head_text head) _ h.1 w.2.2))
    some.writes)

begins_by : {R : Type 0} (a b : Option (List ℕ)) (end : Retrieved R) → Begins a b ⊎ (end ≡ retrieved.SinkFault) ⊎ (end ≡ retrieved.Memory) → HasBegun Http (replied_by end) a b
begins_by a b (retrieved.Finished count) (inl x) = x
begins_by a b (retrieved.Finished count) (inr (inl is)) = absurd (cc)
begins_by a b (retrieved.Finished count) (inr (inr is)) = absurd (cc)
begins_by a b retrieved.NoSuchVariable (inl x) = x
begins_by a b retrieved.NoSuchVariable (inr (inl is)) = absurd (cc)
begins_by a b retrieved.NoSuchVariable (inr (inr is)) = absurd (cc)
begins_by a b (retrieved.ReadFault failed) (inl x) = x
begins_by a b (retrieved.ReadFault failed) (inr (inl is)) = absurd (cc)
begins_by a b (retrieved.ReadFault failed) (inr (inr is)) = absurd (cc)
begins_by a b (retrieved.Damaged name at) (inl x) = x
begins_by a b (retrieved.Damaged name at) (inr (inl is)) = absurd (cc)
begins_by a b (retrieved.Damaged name at) (inr (inr is)) = absurd (cc)
begins_by a b retrieved.SinkFault x = tt
begins_by a b retrieved.Spent x = tt
begins_by a b retrieved.Memory x = tt

managed_begins : {A R : Type 0} (actor : OfActor A R) (asked : WebCall) (old new : A) (a b : Option (List ℕ)) (end : Result (Unit {0}) AdminErr) → Serves actor.number actor.between actor.is_spent asked old end new a b → HasBegun {R = R} Http (managed_by end) a b
managed_begins actor asked old new a b (Ok done) s = (drop 9 (reply_text s.0), s.2)
managed_begins actor asked old new a b (Err admin.SinkFault) s = tt
managed_begins actor asked old new a b (Err admin.Spent) s = tt
managed_begins actor asked old new a b (Err admin.Memory) s = tt

unreplied_begins : (R : Type 0) (why : HttpErr) (a b : Option (List ℕ)) → HasBegun {R = R} Http (unreplied why) a b
unreplied_begins R http.SourceFault a b = tt
unreplied_begins R http.BadHead a b = tt
unreplied_begins R http.HeadTooLong a b = tt
unreplied_begins R http.BadMethod a b = tt
unreplied_begins R http.BadPath a b = tt
unreplied_begins R (http.BadParameter which) a b = tt
unreplied_begins R http.Memory a b = tt

pub refused_begins : {R : Type 0} (refusal : Option Refusal) (rose : Type 0) (why : HttpErr) (a b : Option (List ℕ)) (result : Served R) → Tells refusal rose (Refused why) PeerFault (unreplied why) a result b → HasBegun Http result a b
refused_begins None rose why a b result t = subst (λ r. HasBegun Http r a b) (sym t.0) (unreplied_begins _ why a b)
refused_begins (Some refusal) rose why a b result (inl t) = subst (λ r. HasBegun Http r a b) (sym t.0) (refusal_begins a b refusal t.1)
refused_begins (Some refusal) rose why a b result (inr (inl t)) = subst (λ r. HasBegun Http r a b) (sym t.0) tt
refused_begins (Some refusal) rose why a b result (inr (inr t)) = subst (λ r. HasBegun Http r a b) (sym t.0) (unreplied_begins _ why a b)

-- A CALL

-- a management call
pub manages : {A R : Type 0} (actor : OfActor A R) (Data : Format → ℕ → List ℕ → Query → Retrieved R → Type 0) (version : ℕ) (old new : A) (asked : WebCall) (a b : Option (List ℕ)) (result : Served R) (end : Result (Unit {0}) AdminErr)
    → is_management asked ≡ true → result ≡ managed_by end → Serves actor.number actor.between actor.is_spent asked old end new a b → RepliesCall actor Data version old asked a result new b
manages actor Data version old new (call.Raw pv query op) a b result end is ends s = absurd (cc)
manages actor Data version old new (call.Json pv query op) a b result end is ends s = absurd (cc)
manages actor Data version old new other a b result end is ends s = (end, ends, s)

-- what is neither of the two retrievals
pub is_managed : (asked : WebCall) → ((pv : List ℕ) (query : Query) (op : Option Op) → asked ≡ call.Raw pv query op → ⊥) → ((pv : List ℕ) (query : Query) (op : Option Op) → asked ≡ call.Json pv query op → ⊥) → is_management asked ≡ true
is_managed (call.Raw pv query op) raw json = absurd (raw pv query op refl)
is_managed (call.Json pv query op) raw json = absurd (json pv query op refl)
is_managed call.AllPvs raw json = refl
is_managed (call.PvStatus pv) raw json = refl
is_managed (call.PvDetails pv) raw json = refl
is_managed (call.ArchivePv pv about) raw json = refl
is_managed (call.PausePv pv) raw json = refl
is_managed (call.ResumePv pv) raw json = refl
is_managed (call.RenamePv pv newname) raw json = refl
is_managed call.FlushAll raw json = refl

-- just the acts of a call
module _ {A R : Type 0} (actor : OfActor A R) (file : OfFile R) (rose : Type 0) where
  pub call_acts : (version : ℕ) (old new : A) (asked : WebCall) (a b : Option (List ℕ)) (result : Served R) → RepliesCall actor (AnswersData actor file rose old a new b) version old asked a result new b
      → RepliesCall actor (MakesActs actor file rose old a new b) version old asked a result new b
  call_acts version old new (call.Raw pv query op) a b result (end, is, d) = (end, is, d.acts)
  call_acts version old new (call.Json pv query op) a b result (end, is, d) = (end, is, d.acts)
  call_acts version old new other a b result r = r

  to_acts : (old new : A) (request : Result Request HttpErr) (a b : Option (List ℕ)) (result : Served R) → RepliesTo actor rose (AnswersData actor file rose old a new b) old request a result new b
      → RepliesTo actor rose (MakesActs actor file rose old a new b) old request a result new b
  to_acts old new (Ok request) a b result r = call_acts request.version old new request.call a b result r
  to_acts old new (Err why) a b result r = r

  -- just the acts of a request
  pub replies_acts : (old new : A) (left a b : Option (List ℕ)) (result : Served R) → Replies actor rose (AnswersData actor file rose old a new b) left old a result new b
      → Replies actor rose (MakesActs actor file rose old a new b) left old a result new b
  replies_acts old new left a b result r = record { request = r.request; later = r.later; read = r.read; replies = to_acts old new r.request a b result r.replies }

-- a reply to a call has begun
pub call_begins : {A R : Type 0} (actor : OfActor A R) (file : OfFile R) (rose : Type 0) (version : ℕ) (old new : A) (asked : WebCall) (a b : Option (List ℕ)) (result : Served R)
    → RepliesCall actor (MakesActs actor file rose old a new b) version old asked a result new b → HasBegun Http result a b
call_begins actor file rose version old new (call.Raw pv query op) a b result (end, is, made) = subst (λ r. HasBegun Http r a b) (sym is) (begins_by a b end (data_begins actor file rose old new a b (format.Raw op) version pv query end made))
call_begins actor file rose version old new (call.Json pv query op) a b result (end, is, made) = subst (λ r. HasBegun Http r a b) (sym is) (begins_by a b end (data_begins actor file rose old new a b (format.Json op) version pv query end made))
call_begins actor file rose version old new other a b result (end, is, s) = subst (λ r. HasBegun Http r a b) (sym is) (managed_begins actor other old new a b end s)
