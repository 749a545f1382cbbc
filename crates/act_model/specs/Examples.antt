-- Small histories worked out, each over an archive that begins with one variable, A:B of type SCALAR_INT. They show what the definitions say in plain
-- cases: each act has this answer and no other, want of memory and faults of the disk apart. `src/examples.rt` has each of them as a
-- clause.
use Rattle.std.specs.Prelude.{◌≡◌, ◌⊎◌, ℕ, ◌+◌, ◌*◌, List, [], ◌∷◌, length, codes, true, Some, None}
use Rattle.std.specs.FinMap.{empty}
use Rattle.series_model.specs.declared.sample.Sample.{Sample}
use Rattle.series_model.specs.declared.sample.Query.{Query}
use Rattle.series_model.specs.declared.admission.Reason.TheVariants.{Paused, NotLater, Future}
use Rattle.pb_messages.specs.declared.about.About.{About}
use Rattle.pb_messages.specs.declared.about.Method.{Method}
use Rattle.pb_messages.specs.declared.about.Method.TheVariants.{Monitor, Scan}
use Rattle.pb_messages.specs.declared.about.State.TheVariants as state
use Rattle.pb_wire.specs.declared.payload.PayloadType.TheVariants.{ScalarInt}
use Rattle.act_model.specs.declared.acts.Act.{Act}
use Rattle.act_model.specs.declared.acts.Act.TheVariants.{Pause, Resume, Rename, Offer, Tick, Flush, Pin, OpenPiece, Unpin}
use Rattle.act_model.specs.declared.acts.Answer.TheVariants.{KeyTaken, NotRunning, NotPaused, Done, RenameNotPaused, NotDurable, Renamed, Dropped, IntakeFull, Kept, Held, TickNone, NotDue, TickKept, Flushed, Pinned, NoPin, NotYours, NoPiece, Unpinned, DiskFault, Memory}
use Rattle.act_model.specs.Reply.{Reply}
use Rattle.act_model.specs.Rows.{RowState, fresh_row}
use Rattle.act_model.specs.Machine.{Machine}
use Rattle.act_model.specs.Step.{Step}
use Rattle.act_model.specs.History.{Entry}

-- want of memory, or a fault of the disk
abbrev pub IsFailure : Reply → Type 0
IsFailure answer = (answer ≡ Memory) ⊎ (answer ≡ DiskFault)

-- the act has no other answer than this, failures apart
abbrev pub OnlyAnswered : ℕ → Act → Machine → Reply → Type 0
OnlyAnswered who act m answer = (other : Reply) (new : Machine) → Step who act m other new → (other ≡ answer) ⊎ IsFailure other

-- the acts are answered so, one after another
abbrev pub Follows : Machine → List Entry → Type 0
Follows m [] = Unit {0}
Follows m (e ∷ rest) = (next : Machine) × Step e.who e.act m e.answer next × OnlyAnswered e.who e.act m e.answer × Follows next rest

abbrev pub by : ℕ → Act → Reply → Entry
by who act answer = record { who = who; act = act; answer = answer }

-- 2024-01-01T00:00:00Z
abbrev pub t0 : ℕ
t0 = 1_704_067_200 * 1_000_000_000

abbrev pub second : ℕ
second = 1_000_000_000

-- the line of a SCALAR_INT of 1
abbrev pub line : List ℕ
line = 8 ∷ 1 ∷ 16 ∷ 0 ∷ 29 ∷ 1 ∷ 0 ∷ 0 ∷ 0 ∷ []

abbrev pub name : List ℕ
name = codes "A:B"

abbrev pub about : Method → About
about method = record { ty = ScalarInt; method = method; count = None; headers = [] }

-- an archive of one row, over a disk that tells its files
abbrev pub with_row : RowState → Machine
with_row row = record { rule = record { granularity = []; hold = []; gather = []; header = λ message. None }; rows = row ∷ []; limbo = []; pins = empty; moves = empty; doubt = None; doors = 0; faults = 0; told = true }

-- the variable with these samples in the intake, the last of them just before a moment
abbrev pub with_tail : List Sample → ℕ → RowState
with_tail xs next = record (fresh_row name (about Monitor)) { tail = xs; next = next }

abbrev pub offer : ℕ → ℕ → Act
offer t now = Offer name ScalarInt t line now

-- ADMISSION

-- A row's last sample is at t0, and it is one hour later. A sample at t0 is dropped as not later, one at t0 + 1 ns is kept, one half an
-- hour ahead is kept, and one a second further ahead is dropped.
abbrev pub LateAndEarlyOffers : Type 0
LateAndEarlyOffers =
    let now = t0 + 3600 * second in
    Follows (with_row (with_tail (record { t = t0; line = line } ∷ []) (t0 + 1)))
    (by 1 (offer t0 now) (Dropped (NotLater t0))
    ∷ by 1 (offer (t0 + 1) now) Kept
    ∷ by 1 (offer (t0 + 5400 * second) now) Kept
    ∷ by 1 (offer (t0 + 5401 * second) now) (Dropped (Future now)) ∷ [])

-- SAMPLING

-- A row holds an offer and is paused. While it is paused offers are dropped and a tick keeps nothing. Once it is resumed it holds nothing,
-- and is due at once.
abbrev pub APauseGivesUpWhatIsHeld : Type 0
APauseGivesUpWhatIsHeld =
    Follows (with_row (fresh_row name (about (Scan (10 * second)))))
    (by 1 (offer t0 t0) Held
    ∷ by 2 (Tick 0 t0) (TickKept t0)
    ∷ by 1 (offer (t0 + 1 * second) (t0 + 1 * second)) Held
    ∷ by 1 (Resume name) NotPaused
    ∷ by 1 (Pause name) Done
    ∷ by 1 (Pause name) NotRunning
    ∷ by 1 (offer (t0 + 2 * second) (t0 + 2 * second)) (Dropped Paused)
    ∷ by 2 (Tick 0 (t0 + 13 * second)) TickNone
    ∷ by 1 (Resume name) Done
    ∷ by 2 (Tick 0 (t0 + 3 * second)) TickNone
    ∷ by 2 (Tick 0 (t0 + 4 * second)) (NotDue (t0 + 13 * second)) ∷ [])

-- A FULL INTAKE

abbrev pub three_lines : List ℕ → List ℕ → List ℕ → RowState
three_lines a b c = with_tail (record { t = t0 + 1; line = a } ∷ record { t = t0 + 2; line = b } ∷ record { t = t0 + 3; line = c } ∷ []) (t0 + 4)

abbrev pub four_lines : List ℕ → List ℕ → List ℕ → List ℕ → RowState
four_lines a b c d = with_tail (record { t = t0 + 1; line = a } ∷ record { t = t0 + 2; line = b } ∷ record { t = t0 + 3; line = c } ∷ record { t = t0 + 4; line = d } ∷ []) (t0 + 5)

-- Three kept lines of 16,777,215 bytes leave room for just one more. With that one the intake is full, so the next offer finds no room,
-- though one that isn't later is dropped; after a flush it is kept.
abbrev pub AFullIntakeIsFlushed : Type 0
AFullIntakeIsFlushed =
    (a b c d : List ℕ) → length a ≡ 16_777_215 → length b ≡ 16_777_215 → length c ≡ 16_777_215 → length d ≡ 16_777_215
    → Follows (with_row (three_lines a b c))
    (by 1 (Offer name ScalarInt (t0 + 4) d t0) Kept
    ∷ by 1 (offer (t0 + 4) t0) (Dropped (NotLater (t0 + 4)))
    ∷ by 1 (offer (t0 + 5) t0) (IntakeFull 67_108_864)
    ∷ by 2 (Flush 67_108_864) (Flushed 4 0 0)
    ∷ by 1 (offer (t0 + 5) t0) Kept ∷ [])

-- RENAMES

-- the other names
abbrev pub new_name : List ℕ
new_name = codes "A:C"

-- with the same key as A:B
abbrev pub like_name : List ℕ
like_name = codes "A-B"

-- the sample of so many seconds after t0
abbrev pub sample_at : ℕ → Sample
sample_at seconds = record { t = t0 + seconds * second; line = line }

-- the variable with two samples in the short term, of one second and of five
abbrev pub with_two : RowState
with_two = record (fresh_row name (about Monitor)) { short = sample_at 1 ∷ sample_at 5 ∷ []; next = t0 + 5 * second + 1 }

abbrev pub offer_to : List ℕ → ℕ → Act
offer_to name seconds = Offer name ScalarInt (t0 + seconds * second) line (t0 + seconds * second)

-- A running variable gets no new name. Once it is paused, it gets none with its own key, and A:C: it goes on in row 1, and its old row is
-- neither paused nor resumed any more, and takes no sample. The new row is paused. Resumed, it drops what isn't later than the past, and
-- keeps what is.
abbrev pub ARenamedVariableGoesOn : Type 0
ARenamedVariableGoesOn =
    Follows (with_row with_two)
    (by 1 (Rename name new_name) (RenameNotPaused state.Running 0 0)
    ∷ by 1 (Pause name) Done
    ∷ by 1 (Rename name like_name) (KeyTaken 0)
    ∷ by 1 (Rename name new_name) (Renamed 1)
    ∷ by 1 (Pause name) NotRunning
    ∷ by 1 (Resume name) NotPaused
    ∷ by 1 (offer_to name 9) (Dropped Paused)
    ∷ by 1 (Resume new_name) Done
    ∷ by 1 (offer_to new_name 5) (Dropped (NotLater (t0 + 5 * second)))
    ∷ by 1 (offer_to new_name 9) Kept ∷ [])

-- A paused variable of which a sample is accepted and not durable gets no new name, before that sample is flushed.
abbrev pub ANewNameWaitsForTheFlush : Type 0
ANewNameWaitsForTheFlush =
    Follows (with_row (record with_two { state = state.Paused; tail = sample_at 9 ∷ []; next = t0 + 9 * second + 1 }))
    (by 1 (Rename name new_name) (NotDurable (t0 + 9 * second) (Some (t0 + 5 * second)))
    ∷ by 1 (Flush 1) (Flushed 1 0 0)
    ∷ by 1 (Rename name new_name) (Renamed 1) ∷ [])

-- PINS

abbrev pub all_moments : Query
all_moments = record { from = 0; to = t0 + 3600 * second }

-- A pin of one is not another's to read or to give up. Once its owner has given it up, there is none.
abbrev pub PinsAreTheirOwners : Type 0
PinsAreTheirOwners =
    Follows (with_row (with_tail (record { t = t0; line = line } ∷ []) (t0 + 1)))
    (by 0 (Pin name all_moments) (Pinned 0 name (about Monitor) 0 (record { t = t0; line = line } ∷ []))
    ∷ by 1 (OpenPiece 0 0) (NotYours 0)
    ∷ by 0 (OpenPiece 0 0) (NoPiece 0)
    ∷ by 1 (Unpin 0) (NotYours 0)
    ∷ by 0 (Unpin 0) Unpinned
    ∷ by 0 (OpenPiece 0 0) NoPin
    ∷ by 0 (Unpin 0) NoPin ∷ [])
