-- How a connection was served: what its session came to, which acts were made, and what its peer was written.
use Rattle.std.specs.Prelude.{◌≡◌, ◌⊎◌, ℕ, List, [], ◌++◌, Option, IsSome, Bool, codes}
use Rattle.std.specs.Io.KnownBytes.{Appends}
use Rattle.edge_io.specs.Moments.{Moments}
use Rattle.edge_io.specs.Stream.{Rose}
use Rattle.edge_io.specs.declared.stream.Source.{Ghosts as OfSource}
use Rattle.edge_io.specs.declared.stream.Sink.{Ghosts as OfSink}
use Rattle.disk_model.specs.declared.disk.ReadAt.{Ghosts as OfFile}
use Rattle.line_escape.specs.Unescaping.{HasNoNewline}
use Rattle.act_model.specs.declared.acts.Act.{Act}
use Rattle.act_model.specs.declared.actor.Actor.{Ghosts as OfActor}
use Rattle.act_model.specs.History.{Done, Entry, Made}
use Rattle.act_model.specs.Roles.{AllAre}
use Rattle.feed_session.specs.declared.end.Fed.{Fed}
use Rattle.feed_session.specs.declared.end.Fed.TheVariants as fed
use Rattle.feed_session.specs.Replies.{Feeds}
use Rattle.admin_commands.specs.Refusals.{refusal_of}
use Rattle.service.specs.Data.{AnswersData}
use Rattle.service.specs.Requests.{Replies}
use Rattle.service.specs.declared.served.FeedTold.TheVariants as told
use Rattle.service.specs.declared.served.Kind.{Kind}
use Rattle.service.specs.declared.served.Kind.TheVariants.{Feed, Http}
use Rattle.service.specs.declared.served.Served.{Served}
use Rattle.service.specs.declared.served.Served.TheVariants as served

-- HOW IT ENDED

-- a feed, by its end
abbrev pub fed_as : {R : Type 0} → Fed → Served R
fed_as {R} (fed.Fed kept held dropped) = served.Fed (told.Durable kept held dropped)
fed_as {R} (fed.Refused line fault) = served.Fed (told.Refused line fault)
fed_as {R} fed.PeerFault = served.PeerFault
fed_as {R} fed.DiskFault = served.Fed told.DiskFault
fed_as {R} fed.Spent = served.Spent
fed_as {R} fed.Memory = served.Memory

-- the feed ended so, of which this holds
abbrev pub EndsFeed : {R : Type 0} → (Fed → Type 0) → Served R → Type 0
EndsFeed {R} Holds result = (end : Fed) × (result ≡ fed_as end) × Holds end

-- bytes that are no request are refused for a cause that a reply can tell
abbrev pub IsToldWhy : {R : Type 0} → Served R → Type 0
IsToldWhy (served.Refused why) = IsSome (refusal_of why)
IsToldWhy other = Unit {0}

-- THE SERVICE OF ONE LINK

-- One request was read of the link and replied to: just its acts were made, in order, and what was written is the reply over their answers.
-- From a state whose files are told on, behind the head of a request for data stands the answer over all that was accepted of the variable
-- as it was pinned.
abbrev pub ServesRequest : {A L R : Type 0} → OfActor A R → OfFile R → OfSource L → OfSink L → A → L → Served R → A → L → Type 0
ServesRequest actor file source sink old was result new l =
    let rose : Type 0 = Rose (sink.write_faults was) (sink.write_faults l) in
    Replies actor rose (AnswersData actor file rose old (sink.written was) new (sink.written l)) (source.left was) old (sink.written was) result new (sink.written l)

-- A link was served, by its kind: a feed to its end, or one request, for which the clock isn't read.
abbrev pub ServesLink : {A L R : Type 0} → OfActor A R → OfFile R → OfSource L → OfSink L → Kind → A → Option Moments → L → Served R → A → Option Moments → L → Type 0
ServesLink actor file source sink Feed old clock was result new clock' l = EndsFeed (λ end. Feeds actor.number actor.between end old new (source.left was) clock clock' (sink.written was) (sink.written l)) result
ServesLink actor file source sink Http old clock was result new clock' l = ServesRequest actor file source sink old was result new l × (clock' ≡ clock)

-- no act was left at a state that led to this one
abbrev pub WasSpent : {A R : Type 0} → OfActor A R → A → Type 0
WasSpent {A} actor new = (earlier : A) × actor.is_spent earlier × (entries : List Entry) × actor.between earlier entries new

-- THE ACTS

-- just some acts were made, each of them such
abbrev pub MakesOnly : {A R : Type 0} → OfActor A R → (Act → Bool) → A → A → Type 0
MakesOnly actor such old new = (acts : List Done) × Made actor.number actor.between old acts new × AllAre such acts

-- WHAT WAS WRITTEN

-- whole lines
abbrev pub AreLines : List ℕ → Type 0
AreLines bytes = (bytes ≡ []) ⊎ ((front : List ℕ) × (bytes ≡ front ++ codes "\n"))

-- how the last line of a feed begins
abbrev pub BeginsLast : List ℕ → Type 0
BeginsLast line = (rest : List ℕ) × ((line ≡ codes "durable " ++ rest) ⊎ (line ≡ codes "refused " ++ rest) ⊎ (line ≡ codes "fault " ++ rest))

-- the last of the lines begins so
pub record EndsInLast (bytes : List ℕ) : Type 0 where
  pub before : List ℕ
  pub line : List ℕ
  pub is : bytes ≡ before ++ (line ++ codes "\n")
  pub whole : AreLines before
  pub one : HasNoNewline line
  pub begins : BeginsLast line

-- a reply has begun, or the last line of a feed was written
abbrev pub HasReply : Kind → Option (List ℕ) → Option (List ℕ) → Type 0
HasReply Feed a b = (bytes : List ℕ) × Appends a b bytes × EndsInLast bytes
HasReply Http a b = (rest : List ℕ) × Appends a b (codes "HTTP/1.1 " ++ rest)

-- so it is but where the link failed, no act was left or memory ran out
abbrev pub HasBegun : {R : Type 0} → Kind → Served R → Option (List ℕ) → Option (List ℕ) → Type 0
HasBegun kind served.PeerFault a b = Unit {0}
HasBegun kind served.Spent a b = Unit {0}
HasBegun kind served.Memory a b = Unit {0}
HasBegun kind other a b = HasReply kind a b
