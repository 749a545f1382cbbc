-- A request makes acts of a link alone: those of a retrieval, or of a management call.
use Rattle.std.proofs.Common.{◌≡◌, ◌⊎◌, inl, inr, ℕ, ◌+◌, ◌==◌, List, [], ◌∷◌, ◌++◌, length, Bool, true, false, if◌then◌else◌, Option, Some, None, Result, Ok, Err, refl, sym, subst}
use Rattle.pb_wire.specs.declared.payload.PayloadType.{PayloadType}
use Rattle.series_model.specs.declared.sample.Query.{Query}
use Rattle.disk_model.specs.declared.disk.ReadAt.{Ghosts as OfFile}
use Rattle.act_model.specs.declared.acts.Act.{Act}
use Rattle.act_model.specs.declared.acts.Act.TheVariants.{Register, Pause, Resume, Rename, Flush, Names, Details}
use Rattle.act_model.specs.declared.acts.Answer.TheVariants as answer
use Rattle.act_model.specs.declared.actor.Actor.{Ghosts as OfActor}
use Rattle.act_model.specs.History.{Done, Entry}
use Rattle.act_model.specs.Reply.{Reply}
use Rattle.act_model.specs.Roles.{is_of_link}
use Rattle.stream_merge.specs.Pieces.{OutOfMemory}
use Rattle.http_front.specs.declared.request.HttpErr.{HttpErr}
use Rattle.http_front.specs.declared.request.Request.{Request}
use Rattle.http_front.specs.declared.request.WebCall.{WebCall}
use Rattle.http_front.specs.declared.request.WebCall.TheVariants as call
use Rattle.admin_commands.specs.declared.end.AdminErr.{AdminErr}
use Rattle.admin_commands.specs.declared.end.AdminErr.TheVariants as admin
use Rattle.admin_commands.specs.Next.{NextStep, asks, details_told, flushes, names_from, next, once, page, registered, renamed, set, status_told}
use Rattle.admin_commands.specs.Serving.{AsksMore, Follows, Proceeds, Serves}
use Rattle.retrieval_query.specs.declared.retrieved.Retrieved.{Retrieved}
use Rattle.retrieval_query.specs.declared.retrieved.Retrieved.TheVariants as retrieved
use Rattle.retrieval_query.specs.declared.variable.PinVariableErr.{PinVariableErr}
use Rattle.retrieval_query.specs.declared.variable.PinVariableErr.TheVariants as pin_err
use Rattle.retrieval_query.specs.Openings.{PieceTold, failing, openings}
use Rattle.retrieval_query.specs.Pinning.{FailsToPin, GivesUp}
use Rattle.retrieval_query.specs.Retrieving.{Ends, ReadsPinned, given_up}
use Rattle.service.specs.declared.format.Format.{Format}
use Rattle.service.specs.declared.format.Format.TheVariants as format
use Rattle.service.specs.declared.served.Served.{Served}
use Rattle.service.specs.Data.{MakesActs}
use Rattle.service.specs.Requests.{Replies, RepliesCall, RepliesTo}
use Rattle.service.specs.Serving.{MakesOnly}
use Rattle.service.proofs.Acts.{AreOfLink, makes, makes_more, of_link-append}

-- A RETRIEVAL

openings_of_link : (pin i : ℕ) (told : List PieceTold) → AreOfLink (openings pin i told)
openings_of_link pin i [] = tt
openings_of_link pin i (p ∷ told) = (refl, openings_of_link pin (i + 1) told)

none_failed : (failed : List Done) → failed ≡ [] → AreOfLink failed
none_failed failed is = subst AreOfLink (sym is) tt

failed_of_link : {R : Type 0} (telling : Bool) (faults : R → ℕ) (ty : PayloadType) (pin : ℕ) (told : List PieceTold) (failed unpin : List Done) (spent rose : Type 0) (result : Retrieved R)
    → Ends telling faults ty pin told failed unpin spent rose result → AreOfLink failed
failed_of_link telling faults ty pin told failed unpin spent rose (retrieved.Finished count) e = none_failed failed e.0
failed_of_link telling faults ty pin told failed unpin spent rose retrieved.NoSuchVariable e = absurd e
failed_of_link telling faults ty pin told failed unpin spent rose (retrieved.ReadFault None) e = subst AreOfLink (sym e) (refl, tt)
failed_of_link telling faults ty pin told failed unpin spent rose (retrieved.ReadFault (Some r)) e = none_failed failed e.0
failed_of_link telling faults ty pin told failed unpin spent rose (retrieved.Damaged name at) e = none_failed failed e.0
failed_of_link telling faults ty pin told failed unpin spent rose retrieved.SinkFault e = none_failed failed e.0
failed_of_link telling faults ty pin told failed unpin spent rose retrieved.Spent e = none_failed failed e.0
failed_of_link telling faults ty pin told failed unpin spent rose retrieved.Memory e = by_failed e
  where
    by_failed : (failed ≡ []) ⊎ (failed ≡ failing pin (length told) OutOfMemory) → AreOfLink failed
    by_failed (inl is) = none_failed failed is
    by_failed (inr is) = subst AreOfLink (sym is) (refl, tt)

unpin_of_link : (pin : ℕ) (unpin : List Done) (spent : Type 0) → (unpin ≡ given_up pin) ⊎ ((unpin ≡ []) × spent) → AreOfLink unpin
unpin_of_link pin unpin spent (inl is) = subst AreOfLink (sym is) (refl, tt)
unpin_of_link pin unpin spent (inr none) = subst AreOfLink (sym none.0) tt

-- A MANAGEMENT CALL

-- an act that is asked for next is a link's
abbrev AsksOfLink : NextStep → Type 0
AsksOfLink n = (act : Act) → n ≡ asks act → is_of_link act ≡ true

asks_it : (mine act : Act) → is_of_link mine ≡ true → asks mine ≡ asks act → is_of_link act ≡ true
asks_it mine act own is = let same : mine ≡ act = cc in subst (λ (a : Act). is_of_link a ≡ true) same own

once_of_link : (mine : Act) (made_of : Reply → NextStep) → is_of_link mine ≡ true → ((reply : Reply) → AsksOfLink (made_of reply)) → (seen : List Reply) → AsksOfLink (once mine made_of seen)
once_of_link mine made_of own none [] act is = asks_it mine act own is
once_of_link mine made_of own none (reply ∷ seen) act is = none reply act is

registered_asks : (reply : Reply) → AsksOfLink (registered reply)
registered_asks (answer.Registered row) act is = absurd (cc)
registered_asks (answer.NameTaken row) act is = absurd (cc)
registered_asks (answer.KeyTaken row) act is = absurd (cc)
registered_asks answer.CatalogueFull act is = absurd (cc)
registered_asks answer.DiskFault act is = absurd (cc)
registered_asks other act is = absurd (cc)

set_asks : (reply : Reply) → AsksOfLink (set reply)
set_asks answer.Done act is = absurd (cc)
set_asks answer.NoSuchVariable act is = absurd (cc)
set_asks answer.NotRunning act is = absurd (cc)
set_asks answer.NotPaused act is = absurd (cc)
set_asks answer.DiskFault act is = absurd (cc)
set_asks other act is = absurd (cc)

renamed_asks : (reply : Reply) → AsksOfLink (renamed reply)
renamed_asks (answer.Renamed row) act is = absurd (cc)
renamed_asks answer.NoSuchVariable act is = absurd (cc)
renamed_asks (answer.RenameNotPaused state change seen) act is = absurd (cc)
renamed_asks (answer.NameTaken row) act is = absurd (cc)
renamed_asks (answer.KeyTaken row) act is = absurd (cc)
renamed_asks answer.CatalogueFull act is = absurd (cc)
renamed_asks (answer.NotDurable last durable) act is = absurd (cc)
renamed_asks answer.DiskFault act is = absurd (cc)
renamed_asks other act is = absurd (cc)

status_asks : (name : List ℕ) (reply : Reply) → AsksOfLink (status_told name reply)
status_asks name (answer.Described details) act is = absurd (cc)
status_asks name answer.NoSuchVariable act is = absurd (cc)
status_asks name answer.DiskFault act is = absurd (cc)
status_asks name other act is = absurd (cc)

details_asks : (reply : Reply) → AsksOfLink (details_told reply)
details_asks (answer.Described details) act is = absurd (cc)
details_asks answer.NoSuchVariable act is = absurd (cc)
details_asks answer.DiskFault act is = absurd (cc)
details_asks other act is = absurd (cc)

-- where one of two is asked for next
either_asks : (b : Bool) (one other : NextStep) (act : Act) → (if b then one else other) ≡ asks act → (one ≡ asks act → is_of_link act ≡ true) → (other ≡ asks act → is_of_link act ≡ true) → is_of_link act ≡ true
either_asks true one other act is p q = p is
either_asks false one other act is p q = q is

names_ask : (from : ℕ) (before : List (List ℕ)) (seen : List Reply) → AsksOfLink (names_from from before seen)
names_ask from before [] act is = asks_it (Names from page) act refl is
names_ask from before (answer.NamesAre names more ∷ seen) act is = either_asks more _ _ act is (names_ask (from + page) (before ++ names) seen act) (λ told. absurd (cc))
names_ask from before (other ∷ seen) act is = absurd (cc)

flushes_ask : (samples : ℕ) (seen : List Reply) → AsksOfLink (flushes samples seen)
flushes_ask samples [] act is = asks_it (Flush 67108864) act refl is
flushes_ask samples (answer.Flushed more left doors ∷ seen) act is = either_asks (left == 0) _ _ act is (λ told. absurd (cc)) (flushes_ask (samples + more) seen act)
flushes_ask samples (answer.DiskFault ∷ seen) act is = absurd (cc)
flushes_ask samples (other ∷ seen) act is = absurd (cc)

next_asks : (asked : WebCall) (seen : List Reply) → AsksOfLink (next asked seen)
next_asks (call.Raw pv query op) seen act is = absurd (cc)
next_asks (call.Json pv query op) seen act is = absurd (cc)
next_asks call.AllPvs seen act is = names_ask 0 [] seen act is
next_asks (call.PvStatus pv) seen act is = once_of_link (Details pv) (status_told pv) refl (status_asks pv) seen act is
next_asks (call.PvDetails pv) seen act is = once_of_link (Details pv) details_told refl details_asks seen act is
next_asks (call.ArchivePv pv about) seen act is = once_of_link (Register pv about) registered refl registered_asks seen act is
next_asks (call.PausePv pv) seen act is = once_of_link (Pause pv) set refl set_asks seen act is
next_asks (call.ResumePv pv) seen act is = once_of_link (Resume pv) set refl set_asks seen act is
next_asks (call.RenamePv pv newname) seen act is = once_of_link (Rename pv newname) renamed refl renamed_asks seen act is
next_asks call.FlushAll seen act is = flushes_ask 0 seen act is

follows_of_link : (asked : WebCall) (seen : List Reply) (done : List Done) → Follows asked seen done → AreOfLink done
follows_of_link asked seen [] f = tt
follows_of_link asked seen (d ∷ done) f = (next_asks asked seen d.act f.0, follows_of_link asked (seen ++ d.answer ∷ []) done f.1)

-- ANY REQUEST

module _ {A R : Type 0} (actor : OfActor A R)
    (joined : (a b c : A) (xs ys : List Entry) → actor.between a xs b → actor.between b ys c → actor.between a (xs ++ ys) c)
    (stays : (a b : A) (entries : List Entry) → actor.between a entries b → actor.number b ≡ actor.number a) where
  fails_makes : (old new : A) (name : List ℕ) (query : Query) (why : PinVariableErr) → FailsToPin actor.number actor.between actor.is_spent old name query why new → MakesOnly actor is_of_link old new
  fails_makes old new name query pin_err.NoSuchVariable f = makes actor old new _ f (refl, tt)
  fails_makes old new name query pin_err.DiskFault f = makes actor old new _ f (refl, tt)
  fails_makes old new name query pin_err.Spent f = makes actor old new [] f.0 tt
  fails_makes old new name query pin_err.Memory (inl f) = makes actor old new [] f tt
  fails_makes old new name query pin_err.Memory (inr f) = makes actor old new _ f (refl, tt)

  gives_up_makes : (old new : A) (pin : ℕ) → GivesUp actor.number actor.between actor.is_spent old pin new → MakesOnly actor is_of_link old new
  gives_up_makes old new pin g = makes actor old new g.unpin g.made (unpin_of_link pin g.unpin (actor.is_spent new) g.is)

  reads_makes : (file : OfFile R) (ty : PayloadType) (old new : A) (pin : ℕ) (rose : Type 0) (result : Retrieved R) → ReadsPinned actor.number actor.between actor.is_spent file.tells file.faults ty old pin rose result new → MakesOnly actor is_of_link old new
  reads_makes file ty old new pin rose result r =
      makes_more actor joined stays old r.stopped new
      (makes actor old r.stopped (openings pin 0 r.told ++ r.failed) r.made
      (of_link-append (openings pin 0 r.told) r.failed (openings_of_link pin 0 r.told) (failed_of_link file.tells file.faults ty pin r.told r.failed r.unpin (actor.is_spent r.stopped ⊎ actor.is_spent new) rose result r.ends)))
      (makes actor r.stopped new r.unpin r.unpinned (unpin_of_link pin r.unpin (actor.is_spent new) r.is))

  data_makes : (file : OfFile R) (rose : Type 0) (old new : A) (a b : Option (List ℕ)) (form : Format) (version : ℕ) (name : List ℕ) (query : Query) (result : Retrieved R)
      → MakesActs actor file rose old a new b form version name query result → MakesOnly actor is_of_link old new
  data_makes file rose old new a b form version name query result (inl r) = fails_makes old new name query r.why r.fails
  data_makes file rose old new a b form version name query result (inr (inl r)) =
      makes_more actor joined stays old r.pinned new (makes actor old r.pinned _ r.pins (refl, tt)) (gives_up_makes r.pinned new r.pin r.loses.gives_up)
  data_makes file rose old new a b form version name query result (inr (inr (mid, out, r))) =
      makes_more actor joined stays old r.pinned new (makes actor old r.pinned _ r.pins (refl, tt)) (reads_makes file r.about.ty r.pinned new r.pin rose result r.reads)

  proceeds_makes : (asked : WebCall) (old new : A) (goes_on : NextStep → Type 0) → Proceeds actor.number actor.between asked old goes_on new → MakesOnly actor is_of_link old new
  proceeds_makes asked old new goes_on p = makes actor old new p.done p.made (follows_of_link asked [] p.done p.follows)

  serves_makes : (asked : WebCall) (old new : A) (end : Result (Unit {0}) AdminErr) (a b : Option (List ℕ)) → Serves actor.number actor.between actor.is_spent asked old end new a b → MakesOnly actor is_of_link old new
  serves_makes asked old new (Ok done) a b s = proceeds_makes asked old new _ s.1
  serves_makes asked old new (Err admin.SinkFault) a b s = by_reply _ s.1
    where
      by_reply : {X : Type 0} (goes_on : NextStep → Type 0) → Proceeds actor.number actor.between asked old goes_on new ⊎ (X × Proceeds actor.number actor.between asked old AsksMore new × actor.is_spent new) → MakesOnly actor is_of_link old new
      by_reply goes_on (inl p) = proceeds_makes asked old new goes_on p
      by_reply goes_on (inr p) = proceeds_makes asked old new _ p.1
  serves_makes asked old new (Err admin.Spent) a b s = proceeds_makes asked old new _ s.0
  serves_makes asked old new (Err admin.Memory) a b s = proceeds_makes asked old new _ s.0

  call_makes : (file : OfFile R) (rose : Type 0) (version : ℕ) (old new : A) (asked : WebCall) (a b : Option (List ℕ)) (result : Served R)
      → RepliesCall actor (MakesActs actor file rose old a new b) version old asked a result new b → MakesOnly actor is_of_link old new
  call_makes file rose version old new (call.Raw pv query op) a b result (end, is, made) = data_makes file rose old new a b (format.Raw op) version pv query end made
  call_makes file rose version old new (call.Json pv query op) a b result (end, is, made) = data_makes file rose old new a b (format.Json op) version pv query end made
  call_makes file rose version old new other a b result (end, is, s) = serves_makes other old new end a b s

  to_makes : (file : OfFile R) (rose : Type 0) (old new : A) (request : Result Request HttpErr) (a b : Option (List ℕ)) (result : Served R)
      → RepliesTo actor rose (MakesActs actor file rose old a new b) old request a result new b → MakesOnly actor is_of_link old new
  to_makes file rose old new (Ok request) a b result r = call_makes file rose request.version old new request.call a b result r
  to_makes file rose old new (Err why) a b result r = makes actor old new [] r.0 tt

  pub request_makes : (file : OfFile R) (rose : Type 0) (old new : A) (left a b : Option (List ℕ)) (result : Served R)
      → Replies actor rose (MakesActs actor file rose old a new b) left old a result new b → MakesOnly actor is_of_link old new
  request_makes file rose old new left a b result r = to_makes file rose old new r.request a b result r.replies
