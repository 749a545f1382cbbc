-- The reply to a request for data: a head, and the text of an answer behind it, to HTTP/1.1 in chunks and to HTTP/1.0 as it is.
use Rattle.std.specs.Prelude.{◌≡◌, ◌⊎◌, ℕ, ◌==◌, IfSome, Bool, IsTrue, true, false, List, Option, Some, None, Ok, Err, if◌then◌else◌}
use Rattle.std.specs.Io.KnownBytes.{Appends}
use Rattle.edge_io.specs.Stream.{AppendsFront}
use Rattle.edge_io.specs.declared.stream.Failed.{Failed}
use Rattle.disk_model.specs.declared.disk.ReadAt.{Ghosts as OfFile}
use Rattle.series_model.specs.declared.sample.Query.{Query}
use Rattle.series_model.specs.declared.sample.Sample.{Sample}
use Rattle.pb_messages.specs.declared.about.About.{About}
use Rattle.act_model.specs.declared.acts.Act.TheVariants.{Pin}
use Rattle.act_model.specs.declared.actor.Actor.{Ghosts as OfActor}
use Rattle.act_model.specs.declared.acts.Answer.TheVariants.{Pinned}
use Rattle.act_model.specs.History.{MadeOne}
use Rattle.act_model.specs.Machine.{Machine}
use Rattle.act_model.specs.Out.{Subject}
use Rattle.http_front.specs.declared.reply.Head.{Head}
use Rattle.http_front.specs.Behind.{EndsBody}
use Rattle.http_front.specs.Chunks.{chunked}
use Rattle.http_front.specs.Reply.{head_text}
use Rattle.admin_commands.specs.declared.refusal.Refusal.{Refusal}
use Rattle.admin_commands.specs.declared.refusal.Refusal.TheVariants as refusal
use Rattle.admin_commands.specs.Replies.{refused_reply}
use Rattle.json_out.specs.Json.{json}
use Rattle.retrieval_query.specs.declared.variable.PinVariableErr.{PinVariableErr}
use Rattle.retrieval_query.specs.declared.variable.PinVariableErr.TheVariants as pin_err
use Rattle.retrieval_query.specs.declared.variable.PinnedVariable.{PinnedVariable}
use Rattle.retrieval_query.specs.declared.retrieved.Retrieved.{Retrieved}
use Rattle.retrieval_query.specs.declared.retrieved.Retrieved.TheVariants.{Finished, SinkFault, Memory}
use Rattle.retrieval_query.specs.Pinning.{FailsToPin, GivesUp, ended_by}
use Rattle.retrieval_query.specs.Raw.{IsRaw}
use Rattle.retrieval_query.specs.Retrieving.{IsPinned, ReadsHeaders, WritesAnswer}
use Rattle.sample_bins.specs.declared.op.Op.{Op}
use Rattle.sample_bins.specs.Bins.{bins_of, binned_subject, IsInRange}
use Rattle.service.specs.declared.format.Format.{Format}
use Rattle.service.specs.declared.format.Format.TheVariants.{Raw, Json}

-- THE REPLY

abbrev pub is_json : Format → Bool
is_json (Raw op) = false
is_json (Json op) = true

abbrev pub data_head : Format → ℕ → Head
data_head format version = record { status = 200; json = is_json format; length = None; version = version }

-- the operator that is asked for, if one is
abbrev pub operator_of : Format → Option Op
operator_of (Raw op) = op
operator_of (Json op) = op

-- its number is in range
abbrev pub IsWide : Format → Type 0
IsWide format = IfSome (operator_of format) IsInRange

-- what is told: the answer, or BINS in its place
abbrev pub told_subject : Option Op → Subject → Subject
told_subject None subject = subject
told_subject (Some op) subject = binned_subject op subject

abbrev pub told_samples : Option Op → Subject → List Sample → List Sample
told_samples None subject samples = samples
told_samples (Some op) subject samples = bins_of op subject.query samples

-- the text of an answer with these samples
abbrev pub IsText : Format → Subject → List Sample → List ℕ → Type 0
IsText (Raw op) subject samples text = IsRaw (told_subject op subject) (told_samples op subject samples) text
IsText (Json op) subject samples text = text ≡ json (told_subject op subject).name (told_subject op subject).about (told_samples op subject samples)

-- a text, as it goes out as a body
abbrev pub body_text : ℕ → List ℕ → List ℕ
body_text version text = if version == 0 then text else chunked text

-- HOW MUCH OF IT WENT OUT

-- the text of the samples went out
abbrev pub FinishesText : Format → Option (List ℕ) → Subject → List Sample → Option (List ℕ) → Type 0
FinishesText format a subject samples b = (text : List ℕ) × IsText format subject samples text × Appends a b text

-- a front of it did
abbrev pub BreaksText : Format → Option (List ℕ) → Subject → List Sample → Option (List ℕ) → Type 0
BreaksText format a subject samples b = (text : List ℕ) × IsText format subject samples text × AppendsFront a b text

-- the body with the text of the samples went out, with its end
abbrev pub FinishesBody : Format → ℕ → Option (List ℕ) → Subject → List Sample → Option (List ℕ) → Type 0
FinishesBody format version a subject samples b = (text : List ℕ) × IsText format subject samples text × Appends a b (body_text version text)

-- a front of it did
abbrev pub BreaksBody : Format → ℕ → Option (List ℕ) → Subject → List Sample → Option (List ℕ) → Type 0
BreaksBody format version a subject samples b = (text : List ℕ) × IsText format subject samples text × AppendsFront a b (body_text version text)

-- what the end of a body makes of how its text was given
abbrev pub Closes : {R : Type 0} → Retrieved R → Type 0 → Retrieved R → Option (List ℕ) → Option (List ℕ) → Option (List ℕ) → Type 0
Closes (Finished count) rose result told more now = ((result ≡ Finished count) × EndsBody told more now (Ok (record {}))) ⊎ ((result ≡ SinkFault) × rose × ((e : Failed) × EndsBody told more now (Err e)))
Closes other rose result told more now = (result ≡ other) × (more ≡ told)

-- NO PIN

-- how a request is refused for whose variable no pin was made; nothing is replied where memory ran out
abbrev pub pin_refusal : PinVariableErr → Option Refusal
pin_refusal pin_err.NoSuchVariable = Some refusal.NoSuchVariable
pin_refusal pin_err.DiskFault = Some refusal.DiskFault
pin_refusal pin_err.Spent = Some refusal.Spent
pin_refusal pin_err.Memory = None

-- What a refusal came to: its whole reply went out; or a write failed, and a front of it did; or memory ran out, and nothing did.
abbrev pub Tells : {X : Type 0} → Option Refusal → Type 0 → X → X → X → Option (List ℕ) → X → Option (List ℕ) → Type 0
Tells None rose end fault memory a result b = (result ≡ memory) × (b ≡ a)
Tells (Some why) rose end fault memory a result b =
    ((result ≡ end) × Appends a b (refused_reply why)) ⊎ ((result ≡ fault) × rose × AppendsFront a b (refused_reply why)) ⊎ ((result ≡ memory) × (b ≡ a))

-- No pin was made: why, by just which act; and what was replied.
pub record RefusesPin {A R : Type 0} (actor : OfActor A R) (rose : Type 0) (old : A) (name : List ℕ) (query : Query) (a : Option (List ℕ)) (result : Retrieved R) (new : A) (b : Option (List ℕ)) : Type 0 where
  pub why : PinVariableErr
  pub fails : FailsToPin actor.number actor.between actor.is_spent old name query why new
  pub tells : Tells (pin_refusal why) rose (ended_by why) SinkFault Memory a result b

-- A PIN

-- A write of the head failed, and a front of it went out, or memory ran out for it, and nothing did. The pin was given up; just this act was made, unless none was left for it.
pub record LosesHead {A R : Type 0} (actor : OfActor A R) (rose : Type 0) (head : Head) (old : A) (pin : ℕ) (a : Option (List ℕ)) (result : Retrieved R) (new : A) (b : Option (List ℕ)) : Type 0 where
  pub gives_up : GivesUp actor.number actor.between actor.is_spent old pin new
  pub why : ((result ≡ SinkFault) × rose × AppendsFront a b (head_text head)) ⊎ ((result ≡ Memory) × (b ≡ a))

-- the head went out, and the rest of the reply is as `Rest` says, from what the link had then
abbrev pub Heads : Format → ℕ → Option (List ℕ) → (Option (List ℕ) → Type 0) → Type 0
Heads format version a Rest = (mid : Option (List ℕ)) × Appends a mid (head_text (data_head format version)) × Rest mid

-- what comes of a pin that was made
abbrev pub RepliesPinned : {A R : Type 0} → OfActor A R → Type 0 → Format → ℕ → A → PinnedVariable → Option (List ℕ) → (Option (List ℕ) → Type 0) → Retrieved R → A → Option (List ℕ) → Type 0
RepliesPinned actor rose format version old v a Rest result new b = LosesHead actor rose (data_head format version) old v.pin a result new b ⊎ Heads format version a Rest

-- The pin was made, and the head was lost.
pub record PinsAndLoses {A R : Type 0} (actor : OfActor A R) (rose : Type 0) (head : Head) (old : A) (name : List ℕ) (query : Query) (a : Option (List ℕ)) (result : Retrieved R) (new : A) (b : Option (List ℕ)) : Type 0 where
  pub pin : ℕ
  pub name_told : List ℕ
  pub about : About
  pub pieces : ℕ
  pub tail : List Sample
  pub pinned : A
  pub pins : MadeOne actor.number actor.between old (Pin name query) (Pinned pin name_told about pieces tail) pinned
  pub loses : LosesHead actor rose head pinned pin a result new b

-- What a request for data came to. No pin was made; or the head was lost; or the head went out once the pin was made, and the rest of the
-- reply is as `Rest` says.
abbrev pub RepliesData : {A R : Type 0} → OfActor A R → Type 0 → Format → ℕ → A → List ℕ → Query → Option (List ℕ) → (Option (List ℕ) → Type 0) → Retrieved R → A → Option (List ℕ) → Type 0
RepliesData actor rose format version old name query a Rest result new b =
    RefusesPin actor rose old name query a result new b ⊎ PinsAndLoses actor rose (data_head format version) old name query a result new b ⊎ Heads format version a Rest

-- Just the acts of a retrieval were made, and behind the head stands its text.
abbrev pub MakesActs : {A R : Type 0} → OfActor A R → OfFile R → Type 0 → A → Option (List ℕ) → A → Option (List ℕ) → Format → ℕ → List ℕ → Query → Retrieved R → Type 0
MakesActs actor file rose old a new b format version name query result =
    RepliesData actor rose format version old name query a (λ mid. IsPinned actor.number actor.between actor.is_spent file.tells file.faults (FinishesBody format version) (BreaksBody format version) rose old name query mid result new b) result new b

-- From this state on, behind the head stands the answer over all that was accepted of the variable as it was pinned.
abbrev pub IsWhole : {A R : Type 0} → OfActor A R → Type 0 → Machine → A → Option (List ℕ) → A → Option (List ℕ) → Format → ℕ → List ℕ → Query → Retrieved R → Type 0
IsWhole actor rose m old a new b format version name query result =
    RepliesData actor rose format version old name query a (λ mid. WritesAnswer actor.number actor.between (FinishesBody format version) (BreaksBody format version) old m name query mid result new b) result new b

-- Both hold of one and the same end: just those acts were made, and from each state whose files are told on the answer is whole.
pub record AnswersData {A R : Type 0} (actor : OfActor A R) (file : OfFile R) (rose : Type 0) (old : A) (a : Option (List ℕ)) (new : A) (b : Option (List ℕ)) (format : Format) (version : ℕ) (name : List ℕ) (query : Query) (result : Retrieved R) : Type 0 where
  pub acts : MakesActs actor file rose old a new b format version name query result
  pub whole : IsTrue file.tells → (m : Machine) → actor.stands old m → m.told ≡ true → ReadsHeaders m.rule → IsWhole actor rose m old a new b format version name query result
