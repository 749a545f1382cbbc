-- What the two histories so far have to say to one another.
use Rattle.std.proofs.Common.{◌≡◌, ℕ, ◌≤◌, List, [], ◌∷◌, ◌++◌, length, true, false, Some, refl}
use Rattle.std.specs.Prelude.{slice_get}
use Rattle.closed_pairs.proofs.Legal.{LegalJoint}
use Rattle.series_model.specs.declared.sample.Sample.{Sample}
use Rattle.series_model.specs.Archive.{IsPrefix}
use Rattle.series_model.specs.Series.{IsRising, over}
use Rattle.pb_messages.specs.declared.about.State.{State}
use Rattle.act_model.specs.Rows.{is_running}
use Rattle.act_model.specs.Sound.{IsSound}
use Rattle.two_histories.specs.Histories.{left_by}
use Rattle.two_histories.specs.Store.{Lists}
use Rattle.two_histories.proofs.Halves.{WasAccepted}
use Rattle.two_histories.proofs.Lists.{prefix_rises, prefix_end, tail_later}
use Rattle.two_histories.specs.ArchiveIntake.{IntakeHalf, IntakeRow, known_at, tail_at}
use Rattle.two_histories.specs.IntakeStep.{IntakeEntry}
use Rattle.two_histories.specs.ArchiveStore.{StoreHalf, StoreRow, durable_at, doubted, machine_of}
use Rattle.two_histories.specs.StoreStep.{StoreEntry}
use Rattle.two_histories.specs.ArchiveHistories.{accepted_by, added, first_accepted, StoreFits, IntakeFits, store_knows, intake_knows}
use Rattle.two_histories.proofs.IntakeLaws.{IntakeSound}
use Rattle.two_histories.proofs.Stepping.{IsClosedAt}

pub accepted_more : (lists : Lists) (m : IntakeHalf) (i : List IntakeEntry) (f : IntakeEntry) (r : ℕ) → accepted_by lists m (i ++ f ∷ []) r ≡ accepted_by lists m i r ++ added f.part (left_by m i) f.after r
accepted_more lists m [] f r = refl
accepted_more lists m (e ∷ i) f r = accepted_more (λ k. lists k ++ added e.part m e.after k) e.after i f r

module _ (s0 : StoreHalf) (i0 : IntakeHalf) where
  abbrev pub Legal : List StoreEntry → List IntakeEntry → Type 0
  Legal s i = LegalJoint store_knows intake_knows (StoreFits s0) (IntakeFits s0 i0) s i

  abbrev pub A : List IntakeEntry → Lists
  A i r = accepted_by (first_accepted s0 i0) i0 i r

  abbrev pub T : List IntakeEntry → Lists
  T i r = tail_at (left_by i0 i).rows r

  abbrev pub D : List StoreEntry → Lists
  D s r = durable_at (left_by s0 s).rows r

  -- what is durable of a row beside the intake's history
  pub record AtRow (durable : List Sample) (i : List IntakeEntry) (r : ℕ) : Type 0 where
    pub flushed : IsPrefix durable (A i r)
    pub each : (ahead : List IntakeEntry) → IsPrefix ahead i → WasAccepted durable (A ahead r) (T ahead r) (A i r)

  -- more is durable
  pub at_more : (durable more : List Sample) (i : List IntakeEntry) (r : ℕ) → IsRising (A i r) → AtRow durable i r → IsPrefix durable more → IsPrefix more (A i r) → AtRow more i r
  at_more durable more i r rising at up low =
      record {
        flushed = low;
        each = λ ahead p.
            let old = at.each ahead p in
            record { prefix = old.prefix; is_tail = tail_later durable more (A ahead r) (T ahead r) (prefix_end durable more up (prefix_rises more (A i r) low rising)) old.is_tail };
      }

  -- a row of the intake is one of the store, of its variable
  abbrev pub KnowsRows : StoreHalf → IntakeHalf → Type 0
  KnowsRows m x = (r : ℕ) (k : IntakeRow) → known_at x.rows r ≡ Some k → (row : StoreRow) × (slice_get m.rows r ≡ Some row) × ((row.about ≡ k.about) × (row.name ≡ k.name))

  pub record JoinedAt (m : StoreHalf) (i : List IntakeEntry) : Type 0 where
    pub sound : IsSound (machine_of 0 m)
    pub told : m.told ≡ true
    pub rising : (r : ℕ) → IsRising (A i r)
    pub at : (r : ℕ) → AtRow (durable_at m.rows r) i r
    pub doubts : (r : ℕ) (row : StoreRow) → slice_get m.rows r ≡ Some row → IsPrefix (over (durable_at m.rows r) (doubted m.doubt r)) (A i r)
    pub sounds : (ahead : List IntakeEntry) → IsPrefix ahead i → IntakeSound (left_by i0 ahead) (A ahead)
    pub knows : (ahead : List IntakeEntry) → IsPrefix ahead i → KnowsRows m (left_by i0 ahead)

  -- a row as it was and as it is: of one variable, with a change number that tells its state
  pub record IsLater (row now : StoreRow) : Type 0 where
    pub about : now.about ≡ row.about
    pub name : now.name ≡ row.name
    pub up : row.changed ≤ now.changed
    pub same : row.changed ≡ now.changed → now.state ≡ row.state

  -- what was there stays
  pub record Grown (m : StoreHalf) (s : List StoreEntry) : Type 0 where
    pub durable : (front : List StoreEntry) → IsPrefix front s → (r : ℕ) → IsPrefix (D front r) (durable_at m.rows r)
    pub rows : (front : List StoreEntry) → IsPrefix front s → (r : ℕ) (row : StoreRow) → slice_get (left_by s0 front).rows r ≡ Some row → (now : StoreRow) × (slice_get m.rows r ≡ Some now) × IsLater row now
    pub few : (r : ℕ) (row : StoreRow) → slice_get m.rows r ≡ Some row → row.changed ≤ length s
    pub told : (front : List StoreEntry) → IsPrefix front s → (left_by s0 front).told ≡ true

  -- the row had this change number and this state once
  pub record WasAt (s : List StoreEntry) (r changed : ℕ) (state : State) : Type 0 where
    pub front : List StoreEntry
    pub before : IsPrefix front s
    pub row : StoreRow
    pub here : slice_get (left_by s0 front).rows r ≡ Some row
    pub number : row.changed ≡ changed
    pub state_is : row.state ≡ state

  -- What the intake knew of changes: no other than the store's, and none is forgotten. It always knew a row as the archive was opened.
  pub record KnowsChanges (m : StoreHalf) (s : List StoreEntry) (i : List IntakeEntry) : Type 0 where
    pub was : (ahead : List IntakeEntry) → IsPrefix ahead i → (r : ℕ) (k : IntakeRow) → known_at (left_by i0 ahead).rows r ≡ Some k → WasAt s r k.changed k.state
    pub onward : (ahead : List IntakeEntry) → IsPrefix ahead i → (r : ℕ) (k : IntakeRow) → known_at (left_by i0 ahead).rows r ≡ Some k → (now : IntakeRow) × (known_at (left_by i0 i).rows r ≡ Some now) × (k.changed ≤ now.changed)
    pub first : (ahead : List IntakeEntry) → IsPrefix ahead i → (r : ℕ) (row : StoreRow) → slice_get m.rows r ≡ Some row → row.changed ≡ 0 → (k : IntakeRow) × (known_at (left_by i0 ahead).rows r ≡ Some k)

  -- Nothing more is accepted of the row, and all that was is durable: since a change that the intake knows it hasn't been running.
  pub record IsIdle (m : StoreHalf) (s : List StoreEntry) (i : List IntakeEntry) (r : ℕ) : Type 0 where
    pub from : ℕ
    pub known : (k : IntakeRow) × (known_at (left_by i0 i).rows r ≡ Some k) × (from ≤ k.changed)
    pub idle : (changed : ℕ) (state : State) → WasAt s r changed state → from ≤ changed → is_running state ≡ false
    pub all : A i r ≡ durable_at m.rows r

  pub record IsJoined (s : List StoreEntry) (i : List IntakeEntry) : Type 0 where
    pub joined : JoinedAt (left_by s0 s) i
    pub grown : Grown (left_by s0 s) s
    pub changes : KnowsChanges (left_by s0 s) s i
    pub closed : (r : ℕ) → IsClosedAt (left_by s0 s) r → IsIdle (left_by s0 s) s i r
