-- One request and its reply: just the acts that the request asks for are made, in order, and what is written is the reply over their
-- answers.
use Rattle.std.specs.Prelude.{◌≡◌, ℕ, List, [], Option, Result, Ok, Err}
use Rattle.series_model.specs.declared.sample.Query.{Query}
use Rattle.act_model.specs.declared.actor.Actor.{Ghosts as OfActor}
use Rattle.act_model.specs.History.{Made}
use Rattle.http_front.specs.declared.request.HttpErr.{HttpErr}
use Rattle.http_front.specs.declared.request.HttpErr.TheVariants as http
use Rattle.http_front.specs.declared.request.Request.{Request}
use Rattle.http_front.specs.declared.request.WebCall.{WebCall}
use Rattle.http_front.specs.declared.request.WebCall.TheVariants as call
use Rattle.http_front.specs.Reading.{HasRead}
use Rattle.admin_commands.specs.declared.end.AdminErr.{AdminErr}
use Rattle.admin_commands.specs.declared.end.AdminErr.TheVariants as admin
use Rattle.admin_commands.specs.Refusals.{refusal_of}
use Rattle.admin_commands.specs.Serving.{Serves}
use Rattle.retrieval_query.specs.declared.retrieved.Retrieved.{Retrieved}
use Rattle.retrieval_query.specs.declared.retrieved.Retrieved.TheVariants as retrieved
use Rattle.service.specs.declared.format.Format.{Format}
use Rattle.service.specs.declared.format.Format.TheVariants.{Raw, Json}
use Rattle.service.specs.declared.served.Served.{Served}
use Rattle.service.specs.declared.served.Served.TheVariants.{Finished, Refused, ReadFault, Damaged, PeerFault, Spent, Memory}
use Rattle.service.specs.Data.{Tells}

-- HOW IT ENDS

-- a request for data, by how its retrieval ended
abbrev pub replied_by : {R : Type 0} → Retrieved R → Served R
replied_by {R} (retrieved.Finished count) = Finished
replied_by {R} retrieved.NoSuchVariable = Finished
replied_by {R} (retrieved.ReadFault failed) = ReadFault failed
replied_by {R} (retrieved.Damaged name at) = Damaged name at
replied_by {R} retrieved.SinkFault = PeerFault
replied_by {R} retrieved.Spent = Spent
replied_by {R} retrieved.Memory = Memory

-- a management request that wasn't served
abbrev pub stopped_by : {R : Type 0} → AdminErr → Served R
stopped_by {R} admin.SinkFault = PeerFault
stopped_by {R} admin.Spent = Spent
stopped_by {R} admin.Memory = Memory

-- a management request
abbrev pub managed_by : {R : Type 0} → Result (Unit {0}) AdminErr → Served R
managed_by {R} (Ok done) = Finished
managed_by {R} (Err err) = stopped_by err

-- bytes to which nothing is replied: the link failed, or memory ran out
abbrev pub unreplied : {R : Type 0} → HttpErr → Served R
unreplied {R} http.SourceFault = PeerFault
unreplied {R} other = Memory

-- WHAT IS PROMISED

-- the retrieval ended so, of which the promise holds
abbrev pub Ends : {R : Type 0} → (Retrieved R → Type 0) → Served R → Type 0
Ends {R} Holds result = (end : Retrieved R) × (result ≡ replied_by end) × Holds end

-- What a call came to: a retrieval, or a management call. `Data` says of a request for data, by its form, its minor version, the name, what
-- is asked for and how the retrieval ended, what is promised of it.
abbrev pub RepliesCall : {A R : Type 0} → OfActor A R → (Format → ℕ → List ℕ → Query → Retrieved R → Type 0) → ℕ → A → WebCall → Option (List ℕ) → Served R → A → Option (List ℕ) → Type 0
RepliesCall actor Data version old (call.Raw pv query op) a result new b = Ends (Data (Raw op) version pv query) result
RepliesCall actor Data version old (call.Json pv query op) a result new b = Ends (Data (Json op) version pv query) result
RepliesCall actor Data version old other a result new b = (end : Result (Unit {0}) AdminErr) × (result ≡ managed_by end) × Serves actor.number actor.between actor.is_spent other old end new a b

-- what a request came to, or bytes that are none, for which no act is made
abbrev pub RepliesTo : {A R : Type 0} → OfActor A R → Type 0 → (Format → ℕ → List ℕ → Query → Retrieved R → Type 0) → A → Result Request HttpErr → Option (List ℕ) → Served R → A → Option (List ℕ) → Type 0
RepliesTo actor rose Data old (Ok request) a result new b = RepliesCall actor Data request.version old request.call a result new b
RepliesTo actor rose Data old (Err why) a result new b = Made actor.number actor.between old [] new × Tells (refusal_of why) rose (Refused why) PeerFault (unreplied why) a result b

-- One request was read, and replied to.
pub record Replies {A R : Type 0} (actor : OfActor A R) (rose : Type 0) (Data : Format → ℕ → List ℕ → Query → Retrieved R → Type 0) (left : Option (List ℕ)) (old : A) (a : Option (List ℕ)) (result : Served R) (new : A) (b : Option (List ℕ)) : Type 0 where
  pub request : Result Request HttpErr
  pub later : Option (List ℕ)
  pub read : HasRead left later request
  pub replies : RepliesTo actor rose Data old request a result new b
