-- What `drill` does and writes: it serves the feeds of the asked hours on an archive in memory, opens it again and moves what is due, and
-- tells how much is accepted of each variable, and how many files each store lists, in states that the archive came to then.
use Rattle.std.specs.Prelude.{◌≡◌, ℕ, ◌+◌, ◌-◌, ◌^◌, ◌≤◌, ◌⊎◌, List, [], ◌∷◌, ◌++◌, length, min, Bool, true, false, IsTrue, Option, Some, None, codes, slice_get, slice_index}
use Rattle.std.specs.Io.KnownBytes.{Appends}
use Rattle.edge_io.specs.Stream.{AppendsFront}
use Rattle.edge_io.specs.Doors.{Both, ListedLinks, ledger_of}
use Rattle.disk_model.specs.Past.{Past}
use Rattle.disk_model.specs.declared.disk.Disk.{Ghosts}
use Rattle.etl_rules.specs.Config.{ConfigState}
use Rattle.partition_names.specs.declared.granularity.Granularity.{Granularity}
use Rattle.partition_names.specs.declared.granularity.Granularity.TheVariants.{Hour, Day, Year}
use Rattle.partition_names.specs.declared.part.Part.{Part}
use Rattle.series_model.specs.Retrieval.{answer}
use Rattle.series_model.specs.declared.sample.Query.{Query}
use Rattle.drill_feed.specs.Feeds.{feed_door}
use Rattle.drill_feed.specs.Report.{IsVariableLine, tiers_text}
use Rattle.drill_feed.specs.Workload.{name_text, now_of}
use Rattle.drill_feed.specs.declared.report.Tally.{Tally}
use Rattle.drill_feed.specs.declared.tiers.Tiers.{Tiers}
use Rattle.pb_wire.specs.declared.payload.PayloadType.TheVariants.{ScalarInt}
use Rattle.pb_messages.specs.declared.about.Method.TheVariants.{Monitor}
use Rattle.turn_rooms.specs.Histories.{most_acts}
use Rattle.tier_store.specs.Change.{IsEither}
use Rattle.tier_store.specs.Stores.{Stores}
use Rattle.store_reopen.specs.Reopen.{OpensEither}
use Rattle.act_model.specs.declared.acts.Act.TheVariants.{Register}
use Rattle.act_model.specs.declared.acts.Answer.TheVariants.{Registered}
use Rattle.act_model.specs.Changes.{made}
use Rattle.act_model.specs.History.{Done, Entry, Runs}
use Rattle.act_model.specs.Machine.{Change, Machine, find_row}
use Rattle.act_model.specs.Parts.{AreParts}
use Rattle.act_model.specs.Rows.{RowState, Store, accepted, tier}
use Rattle.act_model.specs.Whole.{whole}
use Rattle.act_model.specs.Rule.{index_of}
use Rattle.act_model.specs.Sound.{IsSound}
use Rattle.archive_core.specs.Parts.{parts}
use Rattle.archive_core.specs.Stands.{HoldsDurable, Stands}
use Rattle.archive_core.specs.declared.archive.Archive.{Archive}
use Rattle.retrieval_query.specs.Retrieving.{ReadsHeaders}
use Rattle.serving.specs.End.{EndsWell}
use Rattle.serving.specs.declared.due.DueMoved.{DueMoved}
use Rattle.serving.specs.Due.{MovesAll}
use Rattle.service.specs.declared.posts.Post.{Post}
use Rattle.service.specs.declared.served.Kind.TheVariants.{Feed}
use Rattle.service.specs.declared.service.AllServed.{AllServed}
use Rattle.service.specs.Doors.{IsServed}
use Rattle.archiver_appliance.specs.Acting.{Acts, IsOpenedOn, OpensAgain}
use Rattle.archiver_appliance.specs.Serving.{PostsLeft}
use Rattle.archiver_appliance.specs.Tallying.{AreTallied}
use Rattle.command_words.specs.declared.status.Status.{Status}
use Rattle.command_words.specs.declared.status.Status.TheVariants.{Done as IsDone, SinkFault, OutOfMemory, Spent}

-- THE STATES

-- a state that a run came to
pub record CameTo (start : Machine) (entries : List Entry) (Such : Machine → Type 0) : Type 0 where
  pub front : List Entry
  pub back : List Entry
  pub split : entries ≡ front ++ back
  pub at : Machine
  pub to : Runs start front at
  pub such : Such at

-- so much is accepted of the variable in this interval
pub record HasTally (name : List ℕ) (query : Query) (tally : Option Tally) (m : Machine) : Type 0 where
  pub i : ℕ
  pub row : RowState
  pub found : find_row m name ≡ Some i
  pub here : slice_get m.rows i ≡ Some row
  pub tallied : AreTallied (answer (whole accepted m.rows i) query) tally

-- each store has so many partitions of the variable
pub record HasFiles (name : List ℕ) (files : List ℕ) (m : Machine) : Type 0 where
  pub i : ℕ
  pub row : RowState
  pub found : find_row m name ≡ Some i
  pub here : slice_get m.rows i ≡ Some row
  pub each : (store : Store) → (ps : List Part) × AreParts m.rule store (tier row store) ps × (slice_index files (index_of store) ≡ length ps)

-- THE TEXT

-- from the first sample of the workload to the moment that the clocks tell
abbrev pub query_of : ℕ → Query
query_of hours = record { from = 1704067200000000000; to = now_of hours }

-- the line of a variable, which has no moments where it has no samples
abbrev pub IsLine : List ℕ → Option Tally → List ℕ → Type 0
IsLine name None line = line ≡ name ++ codes " 0\n"
IsLine name (Some tally) line = IsVariableLine name tally line

-- a number as a u32 can tell it
abbrev pub told_u32 : ℕ → ℕ
told_u32 n = min n (2 ^ 32 - 1)

-- the numbers of the three stores' files, and some more
abbrev pub added : List ℕ → List ℕ → List ℕ
added (a ∷ b ∷ c ∷ []) (x ∷ y ∷ z ∷ []) = told_u32 (a + x) ∷ told_u32 (b + y) ∷ told_u32 (c + z) ∷ []
added files more = files

abbrev pub tiers_of : List ℕ → Tiers
tiers_of files = record { short = slice_index files 0; medium = slice_index files 1; long = slice_index files 2 }

module _ (start : Machine) (entries : List Entry) (hours : ℕ) where
  -- the line of a variable by a state of the run, and the numbers of its files by a later one
  pub record TellsVariable (variable : ℕ) (line : List ℕ) (files : List ℕ) : Type 0 where
    pub tally : Option Tally
    pub counted : CameTo start entries (HasTally (name_text variable) (query_of hours) tally)
    pub is : IsLine (name_text variable) tally line
    pub listed : CameTo start entries (HasFiles (name_text variable) files)

  -- so it is of as many first variables
  pub data Tells : ℕ → List ℕ → List ℕ → Type 0 where
    tells_none : Tells 0 [] (0 ∷ 0 ∷ 0 ∷ [])
    tells_more : {variable : ℕ} {text files : List ℕ} (line more : List ℕ) → Tells variable text files → TellsVariable variable line more → Tells (variable + 1) (text ++ line) (added files more)

-- acts led from a state to one that the archive stands for, and this is told of the states between
pub record Led {D R : Type 0} (disk : Ghosts D R) (m : Machine) (new : Archive D R) (Told : Machine → List Entry → Type 0) : Type 0 where
  pub entries : List Entry
  pub after : Machine
  pub runs : Runs m entries after
  pub stands : Stands disk.tells (parts disk new) after
  pub such : Told m entries

-- so it is from whatever state the archive stood for, where its samples are told
abbrev pub TellsOn : {D R : Type 0} → Ghosts D R → Archive D R → Archive D R → (Machine → List Entry → Type 0) → Type 0
TellsOn {D} {R} disk old new Told = IsTrue disk.tells → (m : Machine) → Stands disk.tells (parts disk old) m → m.told ≡ true → ReadsHeaders m.rule → Led disk m new Told

-- THE FEEDS

-- the shipped settings
abbrev pub shipped : ConfigState
shipped = record { granularity = Hour ∷ Day ∷ Year ∷ []; hold = 5 ∷ 2 ∷ []; gather = 3 ∷ 1 ∷ [] }

-- the same, but that no mover finds so many partitions that a move is due
abbrev pub unmoving : ConfigState
unmoving = record { granularity = Hour ∷ Day ∷ Year ∷ []; hold = 4294967295 ∷ 4294967295 ∷ []; gather = 3 ∷ 1 ∷ [] }

-- the two posts by which the feeds of so many hours come
abbrev pub feed_posts : ℕ → List (Post (ListedLinks Both))
feed_posts hours = record { kind = Feed; door = feed_door hours 0 } ∷ record { kind = Feed; door = feed_door hours 1 } ∷ []

-- they were left so by a service
abbrev pub FeedsLeft : ℕ → Bool → AllServed → List (Post (ListedLinks Both)) → Type 0
FeedsLeft hours began told news =
    PostsLeft (λ (d : ListedLinks Both). d.closed) (λ (d : ListedLinks Both). d.calls.faults) (λ (d : ListedLinks Both). Some (ledger_of d)) (λ kind (l : Both). IsServed kind (λ (l : Both). Some l.output.written) (λ (l : Both). l.input.calls.faults) (λ (l : Both). l.output.calls.faults) l) began told (feed_posts hours) news

-- the act that gave a variable its row
abbrev pub registers : ℕ → ℕ → Done
registers variable row = record { act = Register (name_text variable) (record { ty = ScalarInt; method = Monitor; count = None; headers = [] }); answer = Registered row }

-- so many first variables got theirs, one after another
pub data AreRegistered : ℕ → List Done → Type 0 where
  none_registered : AreRegistered 0 []
  one_registered : {variable : ℕ} {done : List Done} (row : ℕ) → AreRegistered variable done → AreRegistered (variable + 1) (done ++ registers variable row ∷ [])

-- an archive stands for the machine that is opened by these settings on what is held, with so many doors
pub record IsBegunWith {D R : Type 0} (disk : Ghosts D R) (config : ConfigState) (held : Stores) (doors : ℕ) (archive : Archive D R) : Type 0 where
  pub start : Machine
  pub opened : IsOpenedOn disk.tells config held start
  pub stands : Stands disk.tells (parts disk archive) start
  pub with_doors : start.doors ≡ doors

-- It was opened so for the feeds, and so many variables were registered.
pub record HasRegistered (tells : Bool) (held : Stores) (variables : ℕ) (m : Machine) : Type 0 where
  pub start : Machine
  pub sound : IsSound start
  pub opened : IsOpenedOn tells unmoving held start
  pub with_doors : start.doors ≡ 2
  pub done : List Done
  pub registered : AreRegistered variables done
  pub acts : Acts start done m
  pub doors : m.doors ≡ 2

-- Then the feeds were served by acts of which this is told, and this is the state that they led to.
pub record ServesFeeds (hours : ℕ) (held : Stores) (began : Bool) (told : AllServed) (fed : Machine) : Type 0 where
  pub ready : Machine
  pub begun : HasRegistered true held 4 ready
  pub posts : List (Post (ListedLinks Both))
  pub left : FeedsLeft hours began told posts
  pub entries : List Entry
  pub runs : Runs ready entries fed
  pub none : began ≡ false → entries ≡ []
  pub spent : told.spent ≡ true → most_acts ≤ length entries
  pub ends : told.spent ≡ false → told.memory ≡ false → told.disk_fault ≡ false → (mover : ℕ) × EndsWell ready entries fed mover

-- nothing befell a service
abbrev pub IsClean : AllServed → Type 0
IsClean told = (told.spent ≡ false) × (told.memory ≡ false) × (told.disk_fault ≡ false) × (told.door_faults ≡ 0)

-- the feeds were served to their ends, and whatever a crash then may leave of the disk holds what they left
pub record AreFed (hours : ℕ) (held : Stores) (past : Past) : Type 0 where
  pub told : AllServed
  pub clean : IsClean told
  pub fed : Machine
  pub feeds : ServesFeeds hours held true told fed
  pub leaves : OpensAgain shipped fed past
  pub stands : fed.told ≡ true

-- they were not, for want of acts
pub record WereSpent (hours : ℕ) (held : Stores) : Type 0 where
  pub told : AllServed
  pub lacks : told.spent ≡ true
  pub fed : Machine
  pub feeds : ServesFeeds hours held true told fed

-- stores hold what is durable of a state, or of that with the change that stands in doubt
abbrev pub HoldsLeft : Stores → Machine → Type 0
HoldsLeft held m = HoldsDurable held m ⊎ ((change : Change) × (m.doubt ≡ Some change) × HoldsDurable held (made [] change m))

-- THE RUN

-- stores that hold nothing
abbrev pub nothing_held : Stores
nothing_held = record { rows = []; short = []; medium = []; long = []; stands = true }

-- whatever a crash now may leave of a disk opens, and stands
pub record OpensWell (gs : List Granularity) (past : Past) : Type 0 where
  pub before : Stores
  pub after : Stores
  pub opens : OpensEither gs past before after
  pub stands : IsTrue before.stands

-- this holds of what stands on a disk, before a change in doubt or after it
abbrev pub OfHeld : List Granularity → Past → (Stores → Type 0) → Type 0
OfHeld gs past Such = (before after : Stores) → OpensEither gs past before after → IsTrue before.stands → (held : Stores) × IsEither before after held × IsTrue held.stands × Such held

-- The feeds of so many hours were served on what was held, and their archive's disk was opened again with the shipped settings and no doors.
-- All that was due at the hours' end was moved; and of states that it came to behind these moves it is told how much is accepted of each
-- variable in these hours, and how many files the stores list.
pub record IsDrillText (hours : ℕ) (first : Stores) (text : List ℕ) : Type 0 where
  pub told : AllServed
  pub clean : IsClean told
  pub fed : Machine
  pub feeds : ServesFeeds hours first true told fed
  pub held : Stores
  pub left : HoldsLeft held fed
  pub stands : IsTrue held.stands
  pub start : Machine
  pub opened : IsOpenedOn true shipped held start
  pub without_doors : start.doors ≡ 0
  pub moves : List Done
  pub moved : DueMoved
  pub all_moved : MovesAll (now_of hours) moved moves
  pub settled : Machine
  pub acts : Acts start moves settled
  pub entries : List Entry
  pub lines : List ℕ
  pub files : List ℕ
  pub tells : Tells settled entries hours 4 lines files
  pub whole : text ≡ lines ++ tiers_text (tiers_of files)

-- The text was written, or a front of it where a write failed; and nothing where something was wanting: acts for the feeds, or memory.
abbrev pub Drills : ℕ → Option (List ℕ) → Option (List ℕ) → Status → Type 0
Drills hours a b IsDone = (text : List ℕ) × IsDrillText hours nothing_held text × Appends a b text
Drills hours a b SinkFault = (text : List ℕ) × IsDrillText hours nothing_held text × AppendsFront a b text
Drills hours a b OutOfMemory = b ≡ a
Drills hours a b Spent = (b ≡ a) × WereSpent hours nothing_held
Drills hours a b _ = ⊥
