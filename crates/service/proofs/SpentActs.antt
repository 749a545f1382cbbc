-- Where a session tells that no act is left, none was left at its end, or at a state that led to its end.
use Rattle.std.proofs.Common.{◌≡◌, ◌⊎◌, inl, inr, ℕ, List, [], Bool, Option, Some, None, Result, Ok, Err, sym, ◌∙◌, refl, subst}
use Rattle.pb_wire.specs.declared.payload.PayloadType.{PayloadType}
use Rattle.series_model.specs.declared.sample.Query.{Query}
use Rattle.disk_model.specs.declared.disk.ReadAt.{Ghosts as OfFile}
use Rattle.act_model.specs.declared.actor.Actor.{Ghosts as OfActor}
use Rattle.act_model.specs.History.{Entry}
use Rattle.http_front.specs.declared.request.HttpErr.{HttpErr}
use Rattle.http_front.specs.declared.request.HttpErr.TheVariants as http
use Rattle.http_front.specs.declared.request.Request.{Request}
use Rattle.http_front.specs.declared.request.WebCall.{WebCall}
use Rattle.http_front.specs.declared.request.WebCall.TheVariants as call
use Rattle.admin_commands.specs.declared.end.AdminErr.{AdminErr}
use Rattle.admin_commands.specs.declared.end.AdminErr.TheVariants as admin
use Rattle.admin_commands.specs.declared.refusal.Refusal.{Refusal}
use Rattle.admin_commands.specs.Refusals.{refusal_of}
use Rattle.admin_commands.specs.Serving.{Serves}
use Rattle.retrieval_query.specs.declared.retrieved.Retrieved.{Retrieved}
use Rattle.retrieval_query.specs.declared.retrieved.Retrieved.TheVariants as retrieved
use Rattle.retrieval_query.specs.declared.variable.PinVariableErr.{PinVariableErr}
use Rattle.retrieval_query.specs.declared.variable.PinVariableErr.TheVariants as pin_err
use Rattle.retrieval_query.specs.Pinning.{FailsToPin, ended_by}
use Rattle.retrieval_query.specs.Retrieving.{Ends, ReadsPinned}
use Rattle.service.specs.declared.format.Format.{Format}
use Rattle.service.specs.declared.format.Format.TheVariants as format
use Rattle.service.specs.declared.served.Served.{Served}
use Rattle.service.specs.declared.served.Served.TheVariants as served
use Rattle.service.specs.Data.{MakesActs, Tells, pin_refusal}
use Rattle.service.specs.Requests.{Replies, RepliesCall, RepliesTo, managed_by, replied_by, unreplied}
use Rattle.service.specs.Serving.{WasSpent}

-- none is left now
pub now_spent : {A R : Type 0} (actor : OfActor A R) → ((a : A) → actor.between a [] a) → (new : A) → actor.is_spent new → WasSpent actor new
now_spent actor nothing new spent = (new, spent, [], nothing new)

-- HOW A REPLY ENDS

retrieved_spent : {R : Type 0} (end : Retrieved R) → replied_by end ≡ served.Spent → end ≡ retrieved.Spent
retrieved_spent (retrieved.Finished count) is = absurd (cc)
retrieved_spent retrieved.NoSuchVariable is = absurd (cc)
retrieved_spent (retrieved.ReadFault failed) is = absurd (cc)
retrieved_spent (retrieved.Damaged name at) is = absurd (cc)
retrieved_spent retrieved.SinkFault is = absurd (cc)
retrieved_spent retrieved.Spent is = refl
retrieved_spent retrieved.Memory is = absurd (cc)

unreplied_spent : (R : Type 0) (why : HttpErr) → unreplied {R = R} why ≡ served.Spent → ⊥
unreplied_spent R http.SourceFault is = cc
unreplied_spent R http.BadHead is = cc
unreplied_spent R http.HeadTooLong is = cc
unreplied_spent R http.BadMethod is = cc
unreplied_spent R http.BadPath is = cc
unreplied_spent R (http.BadParameter which) is = cc
unreplied_spent R http.Memory is = cc

-- a refusal of a pin that ended so
by_refusal : {R : Type 0} (why : PinVariableErr) (refusal : Option Refusal) (rose : Type 0) (a b : Option (List ℕ)) (result : Retrieved R)
    → Tells refusal rose (ended_by why) retrieved.SinkFault retrieved.Memory a result b → result ≡ retrieved.Spent → ended_by {R = R} why ≡ retrieved.Spent
by_refusal why None rose a b result t is = absurd (let lacks : result ≡ retrieved.Memory = t.0 in cc)
by_refusal why (Some refusal) rose a b result (inl t) is = sym t.0 ∙ is
by_refusal why (Some refusal) rose a b result (inr (inl t)) is = absurd (let fails : result ≡ retrieved.SinkFault = t.0 in cc)
by_refusal why (Some refusal) rose a b result (inr (inr t)) is = absurd (let lacks : result ≡ retrieved.Memory = t.0 in cc)

-- bytes that are no request
no_request : {R : Type 0} (why : HttpErr) (refusal : Option Refusal) (rose : Type 0) (a b : Option (List ℕ)) (result : Served R)
    → Tells refusal rose (served.Refused why) served.PeerFault (unreplied why) a result b → result ≡ served.Spent → ⊥
no_request {R} why None rose a b result t is = unreplied_spent R why (sym t.0 ∙ is)
no_request {R} why (Some refusal) rose a b result (inl t) is = let refused : result ≡ served.Refused why = t.0 in cc
no_request {R} why (Some refusal) rose a b result (inr (inl t)) is = let fails : result ≡ served.PeerFault = t.0 in cc
no_request {R} why (Some refusal) rose a b result (inr (inr t)) is = unreplied_spent R why (sym t.0 ∙ is)

-- ANY REQUEST

module _ {A R : Type 0} (actor : OfActor A R) (nothing : (a : A) → actor.between a [] a) where
  pin_spent : (old new : A) (name : List ℕ) (query : Query) (why : PinVariableErr) → FailsToPin actor.number actor.between actor.is_spent old name query why new → ended_by {R = R} why ≡ retrieved.Spent → WasSpent actor new
  pin_spent old new name query pin_err.NoSuchVariable f is = absurd (cc)
  pin_spent old new name query pin_err.DiskFault f is = absurd (cc)
  pin_spent old new name query pin_err.Spent f is = now_spent actor nothing new f.1
  pin_spent old new name query pin_err.Memory f is = absurd (cc)

  reads_spent : (file : OfFile R) (ty : PayloadType) (old new : A) (pin : ℕ) (rose : Type 0) (result : Retrieved R)
      → ReadsPinned actor.number actor.between actor.is_spent file.tells file.faults ty old pin rose result new → result ≡ retrieved.Spent → WasSpent actor new
  reads_spent file ty old new pin rose result r is =
      by_state (subst (λ end. Ends file.tells file.faults ty pin r.told r.failed r.unpin (actor.is_spent r.stopped ⊎ actor.is_spent new) rose end) is r.ends).1
    where
      by_state : actor.is_spent r.stopped ⊎ actor.is_spent new → WasSpent actor new
      by_state (inl spent) = (r.stopped, spent, r.unpinned.entries, r.unpinned.leads)
      by_state (inr spent) = now_spent actor nothing new spent

  data_spent : (file : OfFile R) (rose : Type 0) (old new : A) (a b : Option (List ℕ)) (form : Format) (version : ℕ) (name : List ℕ) (query : Query) (result : Retrieved R)
      → MakesActs actor file rose old a new b form version name query result → result ≡ retrieved.Spent → WasSpent actor new
  data_spent file rose old new a b form version name query result (inl r) is =
      pin_spent old new name query r.why r.fails (by_refusal r.why (pin_refusal r.why) rose a b result r.tells is)
  data_spent file rose old new a b form version name query result (inr (inl r)) is = by_loss r.loses.why
    where
      by_loss : {X Y Z : Type 0} → ((result ≡ retrieved.SinkFault) × X × Y) ⊎ ((result ≡ retrieved.Memory) × Z) → WasSpent actor new
      by_loss (inl t) = absurd (let fails : result ≡ retrieved.SinkFault = t.0 in cc)
      by_loss (inr t) = absurd (let lacks : result ≡ retrieved.Memory = t.0 in cc)
  data_spent file rose old new a b form version name query result (inr (inr (mid, out, r))) is = reads_spent file r.about.ty r.pinned new r.pin rose result r.reads is

  serves_spent : (asked : WebCall) (old new : A) (end : Result (Unit {0}) AdminErr) (a b : Option (List ℕ)) → Serves actor.number actor.between actor.is_spent asked old end new a b → managed_by {R = R} end ≡ served.Spent → WasSpent actor new
  serves_spent asked old new (Ok done) a b s is = absurd (cc)
  serves_spent asked old new (Err admin.SinkFault) a b s is = absurd (cc)
  serves_spent asked old new (Err admin.Spent) a b s is = now_spent actor nothing new s.1
  serves_spent asked old new (Err admin.Memory) a b s is = absurd (cc)

  call_spent : (file : OfFile R) (rose : Type 0) (version : ℕ) (old new : A) (asked : WebCall) (a b : Option (List ℕ)) (result : Served R)
      → RepliesCall actor (MakesActs actor file rose old a new b) version old asked a result new b → result ≡ served.Spent → WasSpent actor new
  call_spent file rose version old new (call.Raw pv query op) a b result (end, is, made) spent = data_spent file rose old new a b (format.Raw op) version pv query end made (retrieved_spent end (sym is ∙ spent))
  call_spent file rose version old new (call.Json pv query op) a b result (end, is, made) spent = data_spent file rose old new a b (format.Json op) version pv query end made (retrieved_spent end (sym is ∙ spent))
  call_spent file rose version old new other a b result (end, is, s) spent = serves_spent other old new end a b s (sym is ∙ spent)

  to_spent : (file : OfFile R) (rose : Type 0) (old new : A) (request : Result Request HttpErr) (a b : Option (List ℕ)) (result : Served R)
      → RepliesTo actor rose (MakesActs actor file rose old a new b) old request a result new b → result ≡ served.Spent → WasSpent actor new
  to_spent file rose old new (Ok request) a b result r spent = call_spent file rose request.version old new request.call a b result r spent
  to_spent file rose old new (Err why) a b result r spent = absurd (no_request why (refusal_of why) rose a b result r.1 spent)

  pub request_spent : (file : OfFile R) (rose : Type 0) (old new : A) (left a b : Option (List ℕ)) (result : Served R)
      → Replies actor rose (MakesActs actor file rose old a new b) left old a result new b → result ≡ served.Spent → WasSpent actor new
  request_spent file rose old new left a b result r spent = to_spent file rose old new r.request a b result r.replies spent
