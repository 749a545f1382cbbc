-- What a link is given where nothing fails: a feed its last line, a request for data the whole answer, a management call the reply over
-- answers none of which tells a fault. Beside these there is want of memory alone.
use Rattle.std.specs.Prelude.{◌≡◌, ◌⊎◌, ℕ, Bool, IsTrue, true, List, Option, Some, None, Ok}
use Rattle.std.specs.List.{AllByRecursion}
use Rattle.edge_io.specs.Stream.{Rose}
use Rattle.edge_io.specs.declared.stream.Source.{Ghosts as OfSource}
use Rattle.edge_io.specs.declared.stream.Sink.{Ghosts as OfSink}
use Rattle.disk_model.specs.Files.{Rose as DiskRose}
use Rattle.disk_model.specs.declared.disk.ReadAt.{Ghosts as OfFile}
use Rattle.pb_lines.specs.Stream.{Item, Stop, IsWholeStream}
use Rattle.series_model.specs.declared.sample.Query.{Query}
use Rattle.act_model.specs.declared.actor.Actor.{Ghosts as OfActor}
use Rattle.act_model.specs.declared.acts.Answer.TheVariants.{DiskFault}
use Rattle.act_model.specs.History.{Done, Entry, Runs}
use Rattle.act_model.specs.Machine.{Machine, find_row}
use Rattle.http_front.specs.declared.request.Request.{Request}
use Rattle.http_front.specs.declared.request.WebCall.{WebCall}
use Rattle.http_front.specs.declared.request.WebCall.TheVariants as call
use Rattle.http_front.specs.Reading.{HasRead}
use Rattle.admin_commands.specs.Serving.{Serves}
use Rattle.retrieval_query.specs.declared.retrieved.Retrieved.TheVariants.{Finished}
use Rattle.retrieval_query.specs.Retrieving.{ReadsHeaders, WritesAnswer}
use Rattle.service.specs.declared.format.Format.{Format}
use Rattle.service.specs.declared.format.Format.TheVariants.{Raw, Json}
use Rattle.service.specs.declared.served.FeedTold.TheVariants as told
use Rattle.service.specs.declared.served.Kind.{Kind}
use Rattle.service.specs.declared.served.Kind.TheVariants.{Feed, Http}
use Rattle.service.specs.declared.served.Served.{Served}
use Rattle.service.specs.declared.served.Served.TheVariants as served
use Rattle.service.specs.Data.{BreaksBody, FinishesBody, Heads}
use Rattle.service.specs.Serving.{WasSpent}

-- NOTHING FAILS

-- No count rose while a link was served: neither of the link's two, nor that of the archive's disk from this state on to any that the
-- entries lead to which the actor has learnt, and a file that was handed out has counted no fault. An act was left for each that was asked.
pub record IsQuiet {A L R : Type 0} (actor : OfActor A R) (file : OfFile R) (source : OfSource L) (sink : OfSink L) (m : Machine) (old : A) (was : L) (result : Served R) (new : A) (l : L) : Type 0 where
  pub reads : Rose (source.read_faults was) (source.read_faults l) → ⊥
  pub writes : Rose (sink.write_faults was) (sink.write_faults l) → ⊥
  pub disk : (entries : List Entry) (n : Machine) → actor.between old entries new → Runs m entries n → actor.stands new n → DiskRose m.faults n.faults → ⊥
  pub files : (failed : R) → result ≡ served.ReadFault (Some failed) → file.faults failed ≡ 0
  pub acts : WasSpent actor new → ⊥

-- it ended so, or memory ran out
abbrev pub EndsWell : {R : Type 0} → Type 0 → Served R → Type 0
EndsWell {R} So result = So ⊎ (result ≡ served.Memory)

-- A FEED

-- the last line tells that the whole stream was read, or its first bad line
abbrev pub IsFedTo : {R : Type 0} → Stop → Served R → Type 0
IsFedTo {R} None result = (kept held dropped : ℕ) × (result ≡ served.Fed (told.Durable kept held dropped))
IsFedTo {R} (Some (line, fault)) result = result ≡ served.Fed (told.Refused line fault)

-- so it is of the stream that the link's bytes are, where they are told
abbrev pub CompletesFeed : {R : Type 0} → Option (List ℕ) → Served R → Type 0
CompletesFeed {R} left result = (bytes : List ℕ) (items : List Item) (stop : Stop) → left ≡ Some bytes → IsWholeStream bytes items stop → EndsWell (IsFedTo stop result) result

-- A REQUEST

-- The files of the archive are told and stand in this state, headers of files are read as the rule reads them, and a row has the name.
pub record HasAnswer (tells : Bool) (m : Machine) (name : List ℕ) : Type 0 where
  pub readers : IsTrue tells
  pub told : m.told ≡ true
  pub headers : ReadsHeaders m.rule
  pub row : ℕ
  pub here : find_row m name ≡ Some row

-- the whole answer over all that was accepted of the variable as it was pinned went out behind its head
pub record GivesAnswer {A R : Type 0} (actor : OfActor A R) (old : A) (m : Machine) (format : Format) (version : ℕ) (name : List ℕ) (query : Query) (a : Option (List ℕ)) (new : A) (b : Option (List ℕ)) : Type 0 where
  pub count : ℕ
  pub answer : Heads format version a (λ mid. WritesAnswer {R = R} actor.number actor.between (FinishesBody format version) (BreaksBody format version) old m name query mid (Finished count) new b)

-- no act was answered with a fault of the disk
abbrev pub NoneFaults : List Done → Type 0
NoneFaults done = AllByRecursion (λ (d : Done). d.answer ≡ DiskFault → ⊥) done

-- the whole reply over the acts' answers went out, and none of these tells a fault of the disk
pub record GivesReply {A R : Type 0} (actor : OfActor A R) (asked : WebCall) (old : A) (a : Option (List ℕ)) (new : A) (b : Option (List ℕ)) : Type 0 where
  pub serves : Serves actor.number actor.between actor.is_spent asked old (Ok (record {})) new a b
  pub well : NoneFaults serves.1.done

-- what becomes of a call
abbrev pub CompletesCall : {A R : Type 0} → OfActor A R → OfFile R → Machine → ℕ → A → WebCall → Option (List ℕ) → Served R → A → Option (List ℕ) → Type 0
CompletesCall {A} {R} actor file m version old (call.Raw pv query op) a result new b = HasAnswer file.tells m pv → EndsWell ((result ≡ served.Finished) × GivesAnswer actor old m (Raw op) version pv query a new b) result
CompletesCall {A} {R} actor file m version old (call.Json pv query op) a result new b = HasAnswer file.tells m pv → EndsWell ((result ≡ served.Finished) × GivesAnswer actor old m (Json op) version pv query a new b) result
CompletesCall {A} {R} actor file m version old other a result new b = EndsWell ((result ≡ served.Finished) × GivesReply actor other old a new b) result

-- the bytes begin with the head of this request, which is served
abbrev pub BeginsWithRequest : List ℕ → Request → Type 0
BeginsWithRequest bytes request = (later : Option (List ℕ)) × HasRead (Some bytes) later (Ok request)

-- so it is of the request with which the link's bytes begin, where they are told
abbrev pub CompletesRequest : {A R : Type 0} → OfActor A R → OfFile R → Machine → Option (List ℕ) → A → Option (List ℕ) → Served R → A → Option (List ℕ) → Type 0
CompletesRequest {A} {R} actor file m left old a result new b = (bytes : List ℕ) (request : Request) → left ≡ Some bytes → BeginsWithRequest bytes request → CompletesCall actor file m request.version old request.call a result new b

-- A LINK

-- A link is given what its kind asks for, from a state that the actor stood for.
abbrev pub CompletesLink : {A L R : Type 0} → OfActor A R → OfFile R → OfSource L → OfSink L → Kind → Machine → A → L → Served R → A → L → Type 0
CompletesLink actor file source sink Feed m old was result new l = CompletesFeed (source.left was) result
CompletesLink actor file source sink Http m old was result new l = CompletesRequest actor file m (source.left was) old (sink.written was) result new (sink.written l)
