-- How a link's service ended, by the end of its session.
use Rattle.std.proofs.Common.{◌≡◌, inl, inr, List, ℕ, Option, Some, None, Result, Ok, Err, refl, sym, subst}
use Rattle.std.specs.Prelude.{IsSome}
use Rattle.series_model.specs.declared.sample.Query.{Query}
use Rattle.act_model.specs.declared.actor.Actor.{Ghosts as OfActor}
use Rattle.http_front.specs.declared.request.HttpErr.{HttpErr}
use Rattle.http_front.specs.declared.request.HttpErr.TheVariants as http
use Rattle.http_front.specs.declared.request.Request.{Request}
use Rattle.http_front.specs.declared.request.WebCall.{WebCall}
use Rattle.http_front.specs.declared.request.WebCall.TheVariants as call
use Rattle.admin_commands.specs.declared.end.AdminErr.{AdminErr}
use Rattle.admin_commands.specs.declared.end.AdminErr.TheVariants as admin
use Rattle.admin_commands.specs.declared.refusal.Refusal.{Refusal}
use Rattle.admin_commands.specs.Refusals.{refusal_of}
use Rattle.retrieval_query.specs.declared.retrieved.Retrieved.{Retrieved}
use Rattle.retrieval_query.specs.declared.retrieved.Retrieved.TheVariants as retrieved
use Rattle.feed_session.specs.declared.end.Fed.{Fed}
use Rattle.feed_session.specs.declared.end.Fed.TheVariants as fed
use Rattle.service.specs.declared.format.Format.{Format}
use Rattle.service.specs.Data.{Tells}
use Rattle.service.specs.Requests.{Replies, RepliesCall, RepliesTo, managed_by, replied_by, unreplied}
use Rattle.service.specs.declared.served.Served.{Served}
use Rattle.service.specs.declared.served.Served.TheVariants as served
use Rattle.service.specs.Serving.{IsToldWhy, fed_as}

-- the link failed
pub fed_by_peer : {R : Type 0} (result : Served R) (end : Fed) → result ≡ fed_as end → result ≡ served.PeerFault → end ≡ fed.PeerFault
fed_by_peer result (fed.Fed kept held dropped) is peer = absurd (cc)
fed_by_peer result (fed.Refused line fault) is peer = absurd (cc)
fed_by_peer result fed.PeerFault is peer = refl
fed_by_peer result fed.DiskFault is peer = absurd (cc)
fed_by_peer result fed.Spent is peer = absurd (cc)
fed_by_peer result fed.Memory is peer = absurd (cc)

-- no act was left
pub fed_spent : {R : Type 0} (result : Served R) (end : Fed) → result ≡ fed_as end → result ≡ served.Spent → end ≡ fed.Spent
fed_spent result (fed.Fed kept held dropped) is spent = absurd (cc)
fed_spent result (fed.Refused line fault) is spent = absurd (cc)
fed_spent result fed.PeerFault is spent = absurd (cc)
fed_spent result fed.DiskFault is spent = absurd (cc)
fed_spent result fed.Spent is spent = refl
fed_spent result fed.Memory is spent = absurd (cc)

-- BYTES THAT ARE NO REQUEST

pub fed_why : (R : Type 0) (end : Fed) → IsToldWhy {R = R} (fed_as end)
fed_why R (fed.Fed kept held dropped) = tt
fed_why R (fed.Refused line fault) = tt
fed_why R fed.PeerFault = tt
fed_why R fed.DiskFault = tt
fed_why R fed.Spent = tt
fed_why R fed.Memory = tt

retrieved_why : {R : Type 0} (end : Retrieved R) → IsToldWhy (replied_by end)
retrieved_why (retrieved.Finished count) = tt
retrieved_why retrieved.NoSuchVariable = tt
retrieved_why (retrieved.ReadFault failed) = tt
retrieved_why (retrieved.Damaged name at) = tt
retrieved_why retrieved.SinkFault = tt
retrieved_why retrieved.Spent = tt
retrieved_why retrieved.Memory = tt

managed_why : (R : Type 0) (end : Result (Unit {0}) AdminErr) → IsToldWhy {R = R} (managed_by end)
managed_why R (Ok done) = tt
managed_why R (Err admin.SinkFault) = tt
managed_why R (Err admin.Spent) = tt
managed_why R (Err admin.Memory) = tt

unreplied_why : (R : Type 0) (why : HttpErr) → IsToldWhy {R = R} (unreplied why)
unreplied_why R http.SourceFault = tt
unreplied_why R http.BadHead = tt
unreplied_why R http.HeadTooLong = tt
unreplied_why R http.BadMethod = tt
unreplied_why R http.BadPath = tt
unreplied_why R (http.BadParameter which) = tt
unreplied_why R http.Memory = tt

refused_why : {R : Type 0} (why : HttpErr) (refusal : Option Refusal) (rose : Type 0) (a b : Option (List ℕ)) (result : Served R) → refusal_of why ≡ refusal → Tells refusal rose (served.Refused why) served.PeerFault (unreplied why) a result b → IsToldWhy result
refused_why {R} why None rose a b result is t = subst (λ (r : Served R). IsToldWhy r) (sym t.0) (unreplied_why R why)
refused_why {R} why (Some refusal) rose a b result is (inl t) = subst (λ (r : Served R). IsToldWhy r) (sym t.0) (subst (λ (o : Option Refusal). IsSome o) (sym is) refl)
refused_why {R} why (Some refusal) rose a b result is (inr (inl t)) = subst (λ (r : Served R). IsToldWhy r) (sym t.0) tt
refused_why {R} why (Some refusal) rose a b result is (inr (inr t)) = subst (λ (r : Served R). IsToldWhy r) (sym t.0) (unreplied_why R why)

module _ {A R : Type 0} (actor : OfActor A R) (rose : Type 0) (Data : Format → ℕ → List ℕ → Query → Retrieved R → Type 0) (old new : A) (a b : Option (List ℕ)) where
  of_data : (end : Retrieved R) (result : Served R) → result ≡ replied_by end → IsToldWhy result
  of_data end result is = subst (λ (r : Served R). IsToldWhy r) (sym is) (retrieved_why end)

  of_managed : (end : Result (Unit {0}) AdminErr) (result : Served R) → result ≡ managed_by end → IsToldWhy result
  of_managed end result is = subst (λ (r : Served R). IsToldWhy r) (sym is) (managed_why R end)

  call_why : (version : ℕ) (asked : WebCall) (result : Served R) → RepliesCall actor Data version old asked a result new b → IsToldWhy result
  call_why version (call.Raw pv query op) result r = of_data r.0 result r.1
  call_why version (call.Json pv query op) result r = of_data r.0 result r.1
  call_why version other result r = of_managed r.0 result r.1

  to_why : (request : Result Request HttpErr) (result : Served R) → RepliesTo actor rose Data old request a result new b → IsToldWhy result
  to_why (Ok request) result r = call_why request.version request.call result r
  to_why (Err why) result r = refused_why why (refusal_of why) rose a b result refl r.1

  pub request_why : (left : Option (List ℕ)) (result : Served R) → Replies actor rose Data left old a result new b → IsToldWhy result
  request_why left result r = to_why r.request result r.replies
