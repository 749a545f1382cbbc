-- What `get` makes of what a disk holds, and what it writes.
use Rattle.std.specs.Prelude.{◌≡◌, ◌≢◌, ◌⊎◌, ◌<◌, ◌+◌, ℕ, List, [], ◌∷◌, ◌++◌, length, map, take, Contains, Bool, true, IsTrue, Option, None, Some, slice_get}
use Rattle.std.specs.Io.KnownBytes.{Appends}
use Rattle.edge_io.specs.Stream.{AppendsFront}
use Rattle.disk_model.specs.Files.{Name, Files, HasFile}
use Rattle.disk_model.specs.Past.{Past}
use Rattle.disk_model.specs.declared.disk.Disk.{Ghosts}
use Rattle.etl_rules.specs.Config.{ConfigState}
use Rattle.pb_messages.specs.declared.about.About.{About}
use Rattle.durable_write.specs.Held.{file_of}
use Rattle.store_manifest.specs.declared.entry.Entry.{Entry}
use Rattle.store_reopen.specs.Verdict.{Listings}
use Rattle.pv_catalog.specs.declared.row.Row.{Row}
use Rattle.pv_catalog.specs.Lines.{line}
use Rattle.pv_catalog.specs.Rows.{HasName}
use Rattle.series_model.specs.declared.sample.Query.{Query}
use Rattle.series_model.specs.declared.sample.Sample.{Sample}
use Rattle.series_model.specs.Series.{IsRising}
use Rattle.series_model.specs.Retrieval.{answer as answer_of}
use Rattle.tier_store.specs.Stores.{Stores, whole_in}
use Rattle.act_model.specs.declared.acts.Act.{Act}
use Rattle.act_model.specs.declared.acts.Act.TheVariants.{Pin}
use Rattle.act_model.specs.declared.acts.Answer.TheVariants as answer
use Rattle.act_model.specs.Event.{AreEvents}
use Rattle.act_model.specs.History.{Done}
use Rattle.act_model.specs.Machine.{Machine, find_row}
use Rattle.act_model.specs.Out.{Subject}
use Rattle.act_model.specs.Reply.{Reply}
use Rattle.act_model.specs.Rows.{RowState, accepted}
use Rattle.act_model.specs.Step.{Step}
use Rattle.act_model.specs.Whole.{whole}
use Rattle.archive_core.specs.Parts.{parts}
use Rattle.archive_core.specs.Stands.{Stands}
use Rattle.archive_core.specs.declared.archive.Archive.{Archive}
use Rattle.stream_merge.specs.Pieces.{NamedBytes}
use Rattle.stream_merge.specs.Reading.{IsDamaged}
use Rattle.stream_merge.specs.Reads.{AnswersRead}
use Rattle.stream_merge.specs.Pieces.{Faulted, OutOfMemory as NoMemory}
use Rattle.retrieval_query.specs.Openings.{PieceTold, openings, failing, named}
use Rattle.retrieval_query.specs.Raw.{IsRaw}
use Rattle.retrieval_query.specs.Retrieving.{ReadsHeaders, given_up}
use Rattle.retrieval_query.specs.declared.retrieved.Retrieved.{Retrieved}
use Rattle.retrieval_query.specs.declared.retrieved.Retrieved.TheVariants as got
use Rattle.command_words.specs.declared.status.Status.{Status}
use Rattle.command_words.specs.declared.status.Status.TheVariants.{Done as IsDone, NoSuchVariable, SinkFault, DiskFault, Damaged, OutOfMemory}
use Rattle.archiver_appliance.specs.Acting.{ActsAlone, ActsFrom}

-- The status of what a retrieval came to, and the file of which a read failed. One who acts alone never lacks acts.
abbrev pub IsRetrieved : {R : Type 0} → Retrieved R → Status → Option R → Type 0
IsRetrieved {R} (got.Finished count) status file = (status ≡ IsDone) × (file ≡ None)
IsRetrieved {R} got.NoSuchVariable status file = (status ≡ NoSuchVariable) × (file ≡ None)
IsRetrieved {R} (got.ReadFault failed) status file = (status ≡ DiskFault) × (file ≡ failed)
IsRetrieved {R} (got.Damaged name at) status file = (status ≡ Damaged name at) × (file ≡ None)
IsRetrieved {R} got.SinkFault status file = (status ≡ SinkFault) × (file ≡ None)
IsRetrieved {R} got.Spent status file = ⊥
IsRetrieved {R} got.Memory status file = (status ≡ OutOfMemory) × (file ≡ None)

-- THE ACTS

-- an answer without a pin
abbrev pub IsNoPin : Reply → Type 0
IsNoPin reply = (reply ≡ answer.NoSuchVariable) ⊎ (reply ≡ answer.DiskFault) ⊎ (reply ≡ answer.Memory)

-- no piece, or the last one that was asked for, couldn't be opened
abbrev pub FailsAtMost : ℕ → List PieceTold → List Done → Type 0
FailsAtMost pin told failed = (failed ≡ []) ⊎ (failed ≡ failing pin (length told) Faulted) ⊎ (failed ≡ failing pin (length told) NoMemory)

-- The acts of a retrieval: none, where memory was wanting for the first; one that makes no pin; or one that pins, then those that open the
-- pin's pieces one by one, and then the one that gives the pin up.
pub data IsRetrieval (name : List ℕ) (query : Query) : List Done → Type 0 where
  of_none : IsRetrieval name query []
  without_pin : (reply : Reply) → IsNoPin reply → IsRetrieval name query (record { act = Pin name query; answer = reply } ∷ [])
  with_pin : (pin : ℕ) (told_name : List ℕ) (about : About) (pieces : ℕ) (tail : List Sample) (told : List PieceTold) (failed : List Done) → FailsAtMost pin told failed
      → IsRetrieval name query (record { act = Pin name query; answer = answer.Pinned pin told_name about pieces tail } ∷ ((openings pin 0 told ++ failed) ++ given_up pin))

-- a piece that was opened is bad at a place: these were opened of the pin that was made first
pub record FindsBad (tells : Bool) (done : List Done) (name : Name) (at : ℕ) : Type 0 where
  pub pin : ℕ
  pub told_name : List ℕ
  pub about : About
  pub pieces : ℕ
  pub tail : List Sample
  pub act : Act
  pub told : List PieceTold
  pub is : done ≡ record { act = act; answer = answer.Pinned pin told_name about pieces tail } ∷ (openings pin 0 told ++ given_up pin)
  pub bad : IsTrue tells → IsDamaged about.ty (map named told) name at

-- an act was answered so
pub record HasAnswer (reply : Reply) (done : List Done) : Type 0 where
  pub before : List Done
  pub act : Act
  pub behind : List Done
  pub is : done ≡ before ++ record { act = act; answer = reply } ∷ behind

-- Why a retrieval ended so: by the answer of an act, by the count of the output or of an opened file, or by what a piece had. `rose` says
-- that the output's count did.
abbrev pub EndsBy : {R : Type 0} → Bool → (R → ℕ) → Type 0 → List ℕ → Query → Retrieved R → List Done → Type 0
EndsBy {R} tells faults rose name query (got.Finished count) done = Unit {0}
EndsBy {R} tells faults rose name query got.NoSuchVariable done = done ≡ record { act = Pin name query; answer = answer.NoSuchVariable } ∷ []
EndsBy {R} tells faults rose name query (got.ReadFault None) done = HasAnswer answer.DiskFault done
EndsBy {R} tells faults rose name query (got.ReadFault (Some file)) done = faults file ≢ 0
EndsBy {R} tells faults rose name query (got.Damaged file at) done = FindsBad tells done file at
EndsBy {R} tells faults rose name query got.SinkFault done = rose
EndsBy {R} tells faults rose name query got.Spent done = ⊥
EndsBy {R} tells faults rose name query got.Memory done = Unit {0}

-- THE TEXT

-- no row has the name
abbrev pub HasNone : List Row → List ℕ → Type 0
HasNone rows name = (i : ℕ) → HasName rows i name → ⊥

-- what an answer of a row is of
abbrev pub subject_of : Row → Query → Subject
subject_of row query = record { name = row.name; about = row.about; query = query }

-- this becomes of the raw text of the answer over the whole of the row that has the name, as it is held
pub record Answers (held : Stores) (name : List ℕ) (query : Query) (Becomes : List ℕ → Type 0) : Type 0 where
  pub id : ℕ
  pub row : Row
  pub here : slice_get held.rows id ≡ Some row
  pub is_named : row.name ≡ name
  pub text : List ℕ
  pub raw : IsRaw (subject_of row query) (answer_of (whole_in id held) query) text
  pub becomes : Becomes text

-- Of what is held and stands, `get` wrote the whole answer, or nothing where no row has the name. After a fault a front of the answer
-- went out, or nothing where no pin was made.
abbrev pub Gets : Stores → List ℕ → Query → Option (List ℕ) → Option (List ℕ) → Status → Type 0
Gets held name query a b IsDone = Answers held name query (Appends a b)
Gets held name query a b NoSuchVariable = (b ≡ a) × HasNone held.rows name
Gets held name query a b SinkFault = Answers held name query (AppendsFront a b)
Gets held name query a b DiskFault = (b ≡ a) ⊎ Answers held name query (AppendsFront a b)
Gets held name query a b OutOfMemory = (b ≡ a) ⊎ Answers held name query (AppendsFront a b)
Gets held name query a b _ = ⊥

-- A retrieval made just its acts, and wrote so much of the answer.
pub record RetrievesFrom (Before : Files → Type 0) (tells : Bool) (config : ConfigState) (held : Stores) (name : List ℕ) (query : Query) (a b : Option (List ℕ)) (old new : Past) (status : Status) : Type 0 where
  pub done : List Done
  pub are : IsRetrieval name query done
  pub acts : ActsFrom Before tells config held done old new
  pub writes : IsTrue tells → IsTrue held.stands → Gets held name query a b status

-- What a retrieval wrote of some samples: their raw text at its end, and otherwise a front of it.
abbrev pub WritesRaw : {R : Type 0} → Subject → List Sample → Option (List ℕ) → Option (List ℕ) → Retrieved R → Type 0
WritesRaw {R} subject samples a b (got.Finished count) = (text : List ℕ) × IsRaw subject samples text × Appends a b text
WritesRaw {R} subject samples a b _ = (text : List ℕ) × IsRaw subject samples text × AppendsFront a b text

-- Where a pin was made, what was written is of some events of the variable that the pin's answer told, whose moments rise.
pub record WritesOfPin {R : Type 0} (name : List ℕ) (query : Query) (done : List Done) (a b : Option (List ℕ)) (result : Retrieved R) : Type 0 where
  pub pin : ℕ
  pub told_name : List ℕ
  pub about : About
  pub pieces : ℕ
  pub tail : List Sample
  pub rest : List Done
  pub is : done ≡ record { act = Pin name query; answer = answer.Pinned pin told_name about pieces tail } ∷ rest
  pub samples : List Sample
  pub events : AreEvents about.ty samples
  pub rising : IsRising samples
  pub writes : WritesRaw (record { name = told_name; about = about; query = query }) samples a b result

-- Where no pin was made, it ended before anything was written.
abbrev pub IsPinless : {R : Type 0} → Retrieved R → Type 0
IsPinless {R} got.NoSuchVariable = Unit {0}
IsPinless {R} (got.ReadFault None) = Unit {0}
IsPinless {R} got.Memory = Unit {0}
IsPinless {R} _ = ⊥

-- What was written is of all that was accepted of the variable, under the name and under earlier ones, in the state that the pin led to.
pub record WritesAccepted {R : Type 0} (m : Machine) (name : List ℕ) (query : Query) (a b : Option (List ℕ)) (result : Retrieved R) : Type 0 where
  pub reply : Reply
  pub pinned : Machine
  pub step : Step 0 (Pin name query) m reply pinned
  pub i : ℕ
  pub row : RowState
  pub found : find_row pinned name ≡ Some i
  pub here : slice_get pinned.rows i ≡ Some row
  pub writes : WritesRaw (record { name = row.name; about = row.about; query = query }) (answer_of (whole accepted pinned.rows i) query) a b result

-- What a retrieval made of an archive on which nobody else acts.
pub record Retrieves {D R : Type 0} (disk : Ghosts D R) (tells : Bool) (faults : R → ℕ) (rose : Type 0) (old : Archive D R) (name : List ℕ) (query : Query) (a b : Option (List ℕ)) (result : Retrieved R) (new : Archive D R) : Type 0 where
  pub done : List Done
  pub made : ActsAlone disk old done new
  pub are : IsRetrieval name query done
  pub ends : EndsBy tells faults rose name query result done
  pub some : (IsPinless result × (b ≡ a)) ⊎ WritesOfPin name query done a b result
  pub whole : IsTrue tells → (m : Machine) → Stands disk.tells (parts disk old) m → m.told ≡ true → ReadsHeaders m.rule → (IsPinless result × (b ≡ a)) ⊎ WritesAccepted m name query a b result

-- The pieces of a pin were opened one by one and then it was given up, by just these acts. What was written is the answer over what was read
-- of them and of the tail that the pin told.
pub record ReadsPin {D R : Type 0} (disk : Ghosts D R) (old : Archive D R) (name : List ℕ) (query : Query) (a b : Option (List ℕ)) (new : Archive D R) : Type 0 where
  pub pin : ℕ
  pub told_name : List ℕ
  pub about : About
  pub pieces : ℕ
  pub tail : List Sample
  pub told : List PieceTold
  pub left : ℕ
  pub all : length told + left ≡ pieces
  pub made : ActsAlone disk old (record { act = Pin name query; answer = answer.Pinned pin told_name about pieces tail } ∷ (openings pin 0 told ++ given_up pin)) new
  pub samples : List Sample
  pub answers : AnswersRead about.ty query (map named told) left tail samples
  pub text : List ℕ
  pub raw : IsRaw (record { name = told_name; about = about; query = query }) samples text
  pub written : Appends a b text

-- so it is where the whole text was written
abbrev pub ReadsPinAt : {D R : Type 0} → Ghosts D R → Archive D R → List ℕ → Query → Option (List ℕ) → Option (List ℕ) → Retrieved R → Archive D R → Type 0
ReadsPinAt {D} {R} disk old name query a b (got.Finished count) new = ReadsPin disk old name query a b new
ReadsPinAt {D} {R} disk old name query a b _ new = Unit {0}

-- a store lists the file of the row that has the name, or of one under it, and these are the listed bytes of it
pub record IsListedFront (files : Files) (rows : List Row) (lists : Listings) (asked : List ℕ) (piece : NamedBytes) : Type 0 where
  pub place : ℕ
  pub within : place < 3
  pub entry : Entry
  pub listed : Contains (lists place) entry
  pub row : ℕ
  pub own : HasName rows row asked
  pub among : Contains (line rows row) entry.series
  pub is_named : piece.name ≡ file_of (place + 1, rows) entry
  pub bytes : HasFile files piece.name (λ b. piece.bytes ≡ take entry.len b)

-- Whatever the listed files are, the text is the answer over what was read of those that were opened, each list of samples over those before
-- it: of each file all from where its reading began, or as much as there is up to a sample behind the interval. Which of a row's files are
-- opened isn't said.
pub record ReadsListed (files : Files) (rows : List Row) (lists : Listings) (name : List ℕ) (query : Query) (a b : Option (List ℕ)) : Type 0 where
  pub id : ℕ
  pub row : Row
  pub here : slice_get rows id ≡ Some row
  pub is_named : row.name ≡ name
  pub pieces : List NamedBytes
  pub listed : (piece : NamedBytes) → Contains pieces piece → IsListedFront files rows lists name piece
  pub samples : List Sample
  pub answers : AnswersRead row.about.ty query pieces 0 [] samples
  pub text : List ℕ
  pub raw : IsRaw (subject_of row query) samples text
  pub written : Appends a b text

abbrev pub GetsRead : Files → List Row → Listings → List ℕ → Query → Option (List ℕ) → Option (List ℕ) → Status → Type 0
GetsRead files rows lists name query a b IsDone = ReadsListed files rows lists name query a b
GetsRead files rows lists name query a b _ = Unit {0}

-- Whatever the listed files are, this becomes of the raw text of events of the row that has the name, whose moments rise.
pub record WritesEvents (rows : List Row) (name : List ℕ) (query : Query) (Becomes : List ℕ → Type 0) : Type 0 where
  pub id : ℕ
  pub row : Row
  pub here : slice_get rows id ≡ Some row
  pub is_named : row.name ≡ name
  pub samples : List Sample
  pub events : AreEvents row.about.ty samples
  pub rising : IsRising samples
  pub text : List ℕ
  pub raw : IsRaw (subject_of row query) samples text
  pub becomes : Becomes text

-- the whole of such a text was written, or else nothing or a front of one
abbrev pub GetsSome : List Row → List ℕ → Query → Option (List ℕ) → Option (List ℕ) → Status → Type 0
GetsSome rows name query a b IsDone = WritesEvents rows name query (Appends a b)
GetsSome rows name query a b _ = (b ≡ a) ⊎ WritesEvents rows name query (AppendsFront a b)
