-- What holds of an archive, whatever is asked of it and by whomever, and wherever it stops. Each law is proved over all states, acts and
-- histories; the functions in `src/laws.rt` have them as their clauses.
use Rattle.std.specs.Prelude.{◌≡◌, ◌≢◌, ◌⊎◌, ◌↔◌, ℕ, ◌≤◌, List, [], ◌∷◌, ◌++◌, length, true, Some, slice_get, Bool, None}
use Rattle.std.specs.FinMap.{get}
use Rattle.series_model.specs.Limits.{intake_room}
use Rattle.series_model.specs.declared.sample.Query.{Query}
use Rattle.series_model.specs.declared.sample.Sample.{Sample}
use Rattle.series_model.specs.Archive.{Extends, IsPrefix}
use Rattle.series_model.specs.Series.{IsRising, RisesFrom, end_of, over}
use Rattle.pb_messages.specs.declared.about.About.{About}
use Rattle.disk_model.specs.Files.{Name}
use Rattle.act_model.specs.declared.acts.Act.{Act}
use Rattle.act_model.specs.declared.acts.Act.TheVariants.{Flush, MoveBegin, MoveStep, Details, Pin, OpenPiece}
use Rattle.act_model.specs.declared.acts.Answer.TheVariants.{Flushed, Begun, Damaged, Retired, Described, Pinned, NotYours, Piece, Memory}
use Rattle.act_model.specs.declared.details.Details.{Details as Told}
use Rattle.act_model.specs.Reply.{Reply, OpenedFile}
use Rattle.act_model.specs.Rows.{RowState, durable, accepted}
use Rattle.act_model.specs.Rule.{Rule}
use Rattle.act_model.specs.Whole.{AllFollow, past, whole}
use Rattle.act_model.specs.Machine.{Machine, PinState, MoveState, find_row}
use Rattle.act_model.specs.MoveStep.{GoesOn}
use Rattle.act_model.specs.Step.{Step, MayAsk, refuse_by, change_by}
use Rattle.act_model.specs.Answers.{is_answer_to}
use Rattle.act_model.specs.Sound.{IsSound}
use Rattle.act_model.specs.Growth.{Onward, RowsLike, RowsLast}
use Rattle.act_model.specs.Crash.{kept_of, kept, LeftBetween, LeftWithin, Between, LiesBetween, WholesBetween}
use Rattle.act_model.specs.NextLife.{opened}
use Rattle.act_model.specs.History.{Entry, Done, Runs, own, mine, StepsAt, CutAt}
use Rattle.act_model.specs.Lives.{Stops, Lives}
use Rattle.act_model.specs.Pinned.{AllKeep, PinStands, IsOpenedAs, IsPinMade, IsRead}

-- STEPS

-- every step keeps the state sound
abbrev pub StepKeepsSound : Type 0
StepKeepsSound =
    (who : ℕ) (act : Act) (old new : Machine) (answer : Reply) → IsSound old → MayAsk act → Step who act old answer new
    → IsSound new

-- so does every run
abbrev pub RunKeepsSound : Type 0
RunKeepsSound = (entries : List Entry) (old new : Machine) → IsSound old → Runs old entries new → IsSound new

-- an act is answered by its own answers alone
abbrev pub AnswersAreOfActs : Type 0
AnswersAreOfActs =
    (who : ℕ) (act : Act) (old new : Machine) (answer : Reply) → Step who act old answer new
    → is_answer_to act answer ≡ true

-- LISTS THAT GROW

-- what is durable is a front of what is accepted
abbrev pub DurableIsAccepted : Type 0
DurableIsAccepted = (row : RowState) → IsPrefix (durable row) (accepted row)

-- every step goes onward: no row goes, and both its lists only grow
abbrev pub StepGoesOnward : Type 0
StepGoesOnward =
    (who : ℕ) (act : Act) (old new : Machine) (answer : Reply) → IsSound old → MayAsk act → Step who act old answer new
    → Onward old new

-- so does every run
abbrev pub RunGoesOnward : Type 0
RunGoesOnward = (entries : List Entry) (old new : Machine) → IsSound old → Runs old entries new → Onward old new

-- the whole of each row rises, ends where admission takes the next sample, and begins with what is durable of it
abbrev pub WholeIsOneList : Type 0
WholeIsOneList =
    (m : Machine) → m.told ≡ true → IsSound m → (i : ℕ) (row : RowState) → slice_get m.rows i ≡ Some row
    → IsRising (whole accepted m.rows i) × (row.next ≡ end_of (whole accepted m.rows i)) × IsPrefix (whole durable m.rows i) (whole accepted m.rows i)

-- a row's whole is its own list where it has no base, else its own over the whole of its base
abbrev pub WholeIsOverBase : Type 0
WholeIsOverBase =
    (own : RowState → List Sample) (m : Machine) → IsSound m → (i : ℕ) (row : RowState) → slice_get m.rows i ≡ Some row
    → (row.base ≡ None → whole own m.rows i ≡ own row) × ((b : ℕ) → row.base ≡ Some b → whole own m.rows i ≡ over (whole own m.rows b) (own row))

-- with every run the whole of each row grows, what is accepted of it and what is durable
abbrev pub WholeGrows : Type 0
WholeGrows =
    (entries : List Entry) (old new : Machine) → old.told ≡ true → IsSound old → Runs old entries new
    → Extends (whole accepted new.rows) (whole accepted old.rows) × Extends (whole durable new.rows) (whole durable old.rows)

-- each own list follows the whole of its base exactly where it rises from the end of that
abbrev pub FollowsFromEnd : Type 0
FollowsFromEnd =
    (own : RowState → List Sample) (m : Machine) → IsSound m
    → AllFollow own m.rows ↔ ((i : ℕ) (row : RowState) → slice_get m.rows i ≡ Some row → RisesFrom (end_of (past own m.rows row.base)) (own row))

-- one flush of 64 MiB or more leaves nothing in the intake
abbrev pub FlushLeavesNone : Type 0
FlushLeavesNone =
    (who limit samples left doors : ℕ) (old new : Machine) → IsSound old → intake_room ≤ limit
    → Step who (Flush limit) old (Flushed samples left doors) new → left ≡ 0

-- however a move goes on, each row's lists stay as they were
abbrev pub MoveKeepsLists : Type 0
MoveKeepsLists =
    (n : ℕ) (mid new : Machine) (answer : Reply) → mid.told ≡ true → IsSound mid → GoesOn n mid answer new
    → RowsLike mid.rows new.rows

-- a move begins under a number that no move had, and its row and its number of parts are those that are told
abbrev pub BegunIsNew : Type 0
BegunIsNew =
    (who store now n row parts : ℕ) (old new : Machine) (answer : Reply) → Step who (MoveBegin store now) old answer new
    → answer ≡ Begun n row parts
    → (get old.moves n ≡ None) × ((move : MoveState) × (get new.moves n ≡ Some move) × (move.row ≡ row) × (move.parts ≡ parts))

-- a move whose parts have left is over, and all its parts are told
abbrev pub RetiredIsWhole : Type 0
RetiredIsWhole =
    (who n parts : ℕ) (old new : Machine) (answer : Reply) → Step who (MoveStep n) old answer new → answer ≡ Retired parts
    → ((move : MoveState) × (get old.moves n ≡ Some move) × (move.parts ≡ parts)) × (get new.moves n ≡ None)

-- no file is found damaged where the disk tells its files and they stand as they are listed
abbrev pub NoneIsDamaged : Type 0
NoneIsDamaged =
    (who n at : ℕ) (name : Name) (old new : Machine) (answer : Reply) → old.told ≡ true → Step who (MoveStep n) old answer new
    → answer ≡ Damaged name at → ⊥

-- the numbers of accepted and of durable samples that are told of a variable are those of the whole of its row, as the act leaves it
abbrev pub DetailsAreOfRow : Type 0
DetailsAreOfRow =
    (who : ℕ) (name : List ℕ) (details : Told) (old new : Machine) (answer : Reply) → new.told ≡ true
    → Step who (Details name) old answer new → answer ≡ Described details
    → (i : ℕ) × ((row : RowState) × (find_row new name ≡ Some i) × (slice_get new.rows i ≡ Some row) × (details.accepted ≡ length (whole accepted new.rows i)) × (details.durable ≡ length (whole durable new.rows i)))

-- CRASHES

-- what an act that ends leaves durable is among what a crash within it may leave
abbrev pub EndsAsACrashMayLeave : Type 0
EndsAsACrashMayLeave =
    (who : ℕ) (act : Act) (old new : Machine) (answer : Reply) → IsSound old → MayAsk act → Step who act old answer new
    → (left : Machine) × LeftWithin (refuse_by act) (change_by act) old left × (kept left ≡ kept new)

-- what a crash between acts leaves of a row extends what was durable, and is extended by what was accepted
abbrev pub LeftBetweenActs : Type 0
LeftBetweenActs =
    (old left : Machine) → old.told ≡ true → IsSound old → LeftBetween old left → (i : ℕ) (row : RowState)
    → slice_get left.rows i ≡ Some row → Between old.rows i row

-- so does what a crash at any moment within an act leaves
abbrev pub LeftWithinAct : Type 0
LeftWithinAct =
    (act : Act) (old left : Machine) → old.told ≡ true → IsSound old → LeftWithin (refuse_by act) (change_by act) old left
    → (i : ℕ) (row : RowState) → slice_get left.rows i ≡ Some row → Between old.rows i row

-- What a crash within any act of a run leaves of a row extends what was durable at the run's start, and is extended by what is accepted
-- at its end. A row that has nothing in what is left isn't looked at: the act may have failed to add it.
abbrev pub LeftInRun : Type 0
LeftInRun =
    (before_it after_it : List Entry) (act : Act) (start mid end left : Machine) → start.told ≡ true → IsSound start
    → Runs start before_it mid → Runs mid after_it end
    → LeftWithin (refuse_by act) (change_by act) mid left
    → (i : ℕ) (row : RowState) → slice_get left.rows i ≡ Some row → (durable row ≡ [] → ⊥) → LiesBetween start end i row

-- so it is of the wholes
abbrev pub WholesLeftInRun : Type 0
WholesLeftInRun =
    (before_it after_it : List Entry) (act : Act) (start mid end left : Machine) → start.told ≡ true → IsSound start
    → Runs start before_it mid → Runs mid after_it end
    → LeftWithin (refuse_by act) (change_by act) mid left
    → WholesBetween start left end

-- LIVES

-- what a crash between acts leaves opens as a sound state
abbrev pub OpensBetweenActs : Type 0
OpensBetweenActs =
    (old left : Machine) → IsSound old → LeftBetween old left → (rule : Rule) (told : Bool) (doors faults : ℕ)
    → IsSound (opened rule told doors faults (kept left))

-- so does what a crash within an act leaves
abbrev pub OpensWithinAct : Type 0
OpensWithinAct =
    (act : Act) (old left : Machine) → IsSound old → LeftWithin (refuse_by act) (change_by act) old left
    → (rule : Rule) (told : Bool) (doors faults : ℕ) → IsSound (opened rule told doors faults (kept left))

-- each row that was left is there, in its state, over its base and with what each store lists, and just what is durable of it is accepted
abbrev pub OpensWithRows : Type 0
OpensWithRows =
    (rule : Rule) (told : Bool) (doors faults : ℕ) (left : Machine) (i : ℕ) (row : RowState)
    → slice_get left.rows i ≡ Some row
    → (new : RowState) × (slice_get (opened rule told doors faults (kept left)).rows i ≡ Some new) × (kept_of new ≡ kept_of row) × (accepted new ≡ durable row)

-- where each own list followed its base's whole in what was left, it does in what opens
abbrev pub OpensFollowing : Type 0
OpensFollowing =
    (rule : Rule) (told : Bool) (doors faults : ℕ) (left : Machine) → AllFollow durable left.rows
    → AllFollow accepted (opened rule told doors faults (kept left)).rows

-- lives one after another end in a sound state
abbrev pub LivesKeepSound : Type 0
LivesKeepSound = (start now : Machine) → IsSound start → Lives start now → IsSound now

-- what was durable of a row in one life is there in all later ones, for the same variable; so it is of its whole
abbrev pub LivesLoseNothing : Type 0
LivesLoseNothing =
    (start now : Machine) → start.told ≡ true → IsSound start → Lives start now
    → RowsLast start.rows now.rows × Extends (whole durable now.rows) (whole durable start.rows)

-- where each own list followed its base's whole in one life, it does in all later ones: so it always does where the first had no row
abbrev pub LivesFollow : Type 0
LivesFollow =
    (start now : Machine) → start.told ≡ true → IsSound start → Lives start now → AllFollow accepted start.rows
    → AllFollow accepted now.rows

-- what a life leaves of a row was accepted in it, and holds all that was durable in it
abbrev pub LivesLeaveAccepted : Type 0
LivesLeaveAccepted =
    (start last left : Machine) → start.told ≡ true → IsSound start → Lives start last → Stops last left
    → (i : ℕ) (row : RowState) → slice_get left.rows i ≡ Some row → Between last.rows i row

-- PINS

-- a pin's pieces and the tail that it tells answer its query as all that is accepted
abbrev pub PinAnswers : Type 0
PinAnswers =
    (who n count : ℕ) (name told_name : List ℕ) (query : Query) (about : About) (tail : List Sample) (old new : Machine)
    → Step who (Pin name query) old (Pinned n told_name about count tail) new
    → IsPinMade who name query n told_name about count tail new

-- a pin stands as it was made until its owner unpins it
abbrev pub PinStandsUntilUnpinned : Type 0
PinStandsUntilUnpinned =
    (n : ℕ) (pin : PinState) (entries : List Entry) (old new : Machine) → IsSound old → Runs old entries new
    → AllKeep pin.owner n entries → get old.pins n ≡ Some pin → PinStands n pin new

-- so it does through any acts of others
abbrev pub PinStandsBesideOthers : Type 0
PinStandsBesideOthers =
    (n : ℕ) (pin : PinState) (entries : List Entry) (old new : Machine) → IsSound old → Runs old entries new
    → own pin.owner entries ≡ [] → get old.pins n ≡ Some pin → PinStands n pin new

-- a piece that is opened has the bytes that were pinned, whatever was copied, published, retired, revived or swept since
abbrev pub PieceOpensAsPinned : Type 0
PieceOpensAsPinned =
    (n i : ℕ) (pin : PinState) (entries : List Entry) (old mid new : Machine) → old.told ≡ true → IsSound old
    → Runs old entries mid → AllKeep pin.owner n entries → get old.pins n ≡ Some pin
    → (who : ℕ) (reader : OpenedFile) (name : Name) (head_len len : ℕ)
    → Step who (OpenPiece n i) mid (Piece reader name head_len len) new
    → IsOpenedAs mid pin i reader name head_len len

-- in one history a pin that is made and a piece that is opened of it later belong together
abbrev pub PieceIsRead : Type 0
PieceIsRead =
    (who n count i head_len len : ℕ) (name told_name : List ℕ) (query : Query) (about : About) (tail : List Sample) (reader : OpenedFile) (file : Name)
    (xs ys zs : List Entry) (start end : Machine) → start.told ≡ true → IsSound start
    → Runs start (xs ++ (record { who = who; act = Pin name query; answer = Pinned n told_name about count tail }
    ∷ (ys ++ (record { who = who; act = OpenPiece n i; answer = Piece reader file head_len len } ∷ zs)))) end
    → AllKeep who n ys → IsRead start.rule who name query n told_name about count tail i reader file head_len len

-- a pin of one opens for nobody else
abbrev pub OthersOpenNone : Type 0
OthersOpenNone =
    (who n i : ℕ) (pin : PinState) (old new : Machine) (answer : Reply) → Step who (OpenPiece n i) old answer new
    → get old.pins n ≡ Some pin → pin.owner ≢ who → (answer ≡ NotYours pin.owner) ⊎ (answer ≡ Memory)

-- HISTORIES

-- runs one after another are a run
abbrev pub RunsJoin : Type 0
RunsJoin = (xs ys : List Entry) (old mid new : Machine) → Runs old xs mid → Runs mid ys new → Runs old (xs ++ ys) new

-- each entry of a run is a step from the state that those before it lead to
abbrev pub EntriesAreSteps : Type 0
EntriesAreSteps =
    (front back : List Entry) (e : Entry) (old new : Machine) → Runs old (front ++ e ∷ back) new
    → StepsAt old front e back new

-- where one's own acts are cut, the history of all is cut: so each of one's own acts is a step of the one history
abbrev pub OwnActsAreSteps : Type 0
OwnActsAreSteps =
    (who : ℕ) (entries : List Entry) (earlier later : List Done) (d : Done) → mine who entries ≡ earlier ++ d ∷ later
    → CutAt who entries earlier d later

-- what was done under a number in two histories, one after the other
abbrev pub OwnActsJoin : Type 0
OwnActsJoin = (who : ℕ) (xs ys : List Entry) → mine who (xs ++ ys) ≡ mine who xs ++ mine who ys
