-- What clauses say of twins and their passes.
use Rattle.std.specs.Prelude.{◌≡◌, ◌≢◌, ℕ, ◌+◌, ◌<◌, ◌≤◌, [], ◌∷◌, ◌++◌, length, Contains, ◌⊎◌}
use Rattle.turn_rooms.specs.declared.beside.ActBeside.{ActBeside}
use Rattle.turn_rooms.specs.declared.view.RoomSeen.{RoomSeen}
use Rattle.turn_rooms.specs.declared.view.SeatNumbers.{SeatNumbers}
use Rattle.turn_rooms.specs.declared.twins.Twin.{Twin}
use Rattle.turn_rooms.specs.declared.twins.TwinPass.{TwinPass}
use Rattle.turn_rooms.specs.Histories.{most_numbers, by}
use Rattle.turn_rooms.specs.Views.{first_standing}
use Rattle.turn_rooms.specs.Ties.{knowing, HalfHistory}
use Rattle.turn_rooms.specs.LaneTurns.{LaneRests, LaneSees, LaneGoes}

module _ {S T A B C D : Type 0} where
  -- the halves as they were opened
  abbrev pub store_opened : Twin S T A B C D → S
  store_opened r = r.table.shared.key.value.0

  abbrev pub intake_opened : Twin S T A B C D → T
  intake_opened r = r.table.shared.key.value.1

  -- what the pass saw of either half
  abbrev pub store_seen : TwinPass S T A B C D → RoomSeen S (ActBeside A) B
  store_seen p = p.seat.me.0.store

  abbrev pub intake_seen : TwinPass S T A B C D → RoomSeen T (ActBeside C) D
  intake_seen p = p.seat.me.0.intake

  abbrev pub pass_standing : TwinPass S T A B C D → SeatNumbers
  pass_standing p = p.seat.me.0.standing

  -- the histories that it knows
  abbrev pub store_known : TwinPass S T A B C D → HalfHistory S A B
  store_known p = (store_seen p).known

  abbrev pub intake_known : TwinPass S T A B C D → HalfHistory T C D
  intake_known p = (intake_seen p).known

-- No other pass is left
pub record IsLastTwin {S T A B C D : Type 0} (p : TwinPass S T A B C D) : Type 0 where
  pub first : Contains (pass_standing p).stands 0
  pub given : (q : ℕ) → Contains (pass_standing p).gave q → Contains (pass_standing p).stands q

-- It stands for all that it stood for, and for all that it came to know as given out
pub record TwinTakesBack {S T A B C D : Type 0} (old new : TwinPass S T A B C D) : Type 0 where
  pub still : (q : ℕ) → Contains (pass_standing old).stands q → Contains (pass_standing new).stands q
  pub given : (q : ℕ) → Contains (pass_standing new).gave q → Contains (pass_standing old).gave q ⊎ Contains (pass_standing new).stands q

module _ {S T A B C D : Type 0} (steps : S → ℕ → ℕ → A → B → S → Type 0) (steps' : T → ℕ → ℕ → C → D → T → Type 0)
    (together : S → T → Type 0) (r : Twin S T A B C D) where
  -- A pass of this twin, at any moment of a turn
  pub record TwinBelongs (p : TwinPass S T A B C D) : Type 0 where
    pub halves : together (store_opened r) (intake_opened r)
    pub table : p.seat.table_id ≡ r.table.shared.table_id
    pub number : (pass_standing p).number ≡ p.number
    pub live : Contains (pass_standing p).stands p.number
    pub joins : (pass_standing p).joins ≡ []

  -- A pass of this twin at rest: it knows two legal histories, holds no half and has no read word
  pub record IsTwinPassOf (p : TwinPass S T A B C D) : Type 0 where
    pub belongs : TwinBelongs p
    pub hands : p.seat.me.1 ≡ []
    pub store : LaneRests (knowing steps) (store_opened r) (store_seen p)
    pub intake : LaneRests (knowing steps') (intake_opened r) (intake_seen p)

  -- A pass after turns on the store
  pub record StoreGoes (old new : TwinPass S T A B C D) : Type 0 where
    pub rooms : IsTwinPassOf new
    pub same_number : new.number ≡ old.number
    pub same_standing : pass_standing new ≡ pass_standing old
    pub same_intake : intake_seen new ≡ intake_seen old
    pub goes : LaneGoes old.number (pass_standing old) (store_seen old) (store_seen new)

  -- A pass after turns on the intake
  pub record IntakeGoes (old new : TwinPass S T A B C D) : Type 0 where
    pub rooms : IsTwinPassOf new
    pub same_number : new.number ≡ old.number
    pub same_standing : pass_standing new ≡ pass_standing old
    pub same_store : store_seen new ≡ store_seen old
    pub goes : LaneGoes old.number (pass_standing old) (intake_seen old) (intake_seen new)

  -- A twin that was opened, and its first pass
  pub record TwinOpens (store : S) (intake : T) (p : TwinPass S T A B C D) : Type 0 where
    pub rooms : IsTwinPassOf p
    pub opens_store : store_opened r ≡ store
    pub opens_intake : intake_opened r ≡ intake
    pub number : p.number ≡ 0
    pub standing : pass_standing p ≡ first_standing
    pub knows_store : store_known p ≡ []
    pub knows_intake : intake_known p ≡ []
    pub taken_store : (store_seen p).taken ≡ []
    pub taken_intake : (intake_seen p).taken ≡ []

  -- A pass that drew no number
  pub record TwinStays (old new : TwinPass S T A B C D) : Type 0 where
    pub rooms : IsTwinPassOf new
    pub same_number : new.number ≡ old.number
    pub same_store : store_seen new ≡ store_seen old
    pub same_intake : intake_seen new ≡ intake_seen old
    pub same_stands : (pass_standing new).stands ≡ (pass_standing old).stands
    pub same_gave : (pass_standing new).gave ≡ (pass_standing old).gave

  -- A pass with a new number was made, which knows what the other knows
  pub record TwinParts (old new note : TwinPass S T A B C D) : Type 0 where
    pub rooms : IsTwinPassOf new
    pub note_rooms : IsTwinPassOf note
    pub same_number : new.number ≡ old.number
    pub same_store : store_seen new ≡ store_seen old
    pub same_intake : intake_seen new ≡ intake_seen old
    pub same_stands : (pass_standing new).stands ≡ (pass_standing old).stands
    pub same_drained : (pass_standing new).drained ≡ (pass_standing old).drained
    pub gives : (pass_standing new).gave ≡ note.number ∷ (pass_standing old).gave
    pub note_knows_store : store_known note ≡ store_known old
    pub note_knows_intake : intake_known note ≡ intake_known old
    pub note_store_acts : by note.number (store_known note) ≡ []
    pub note_intake_acts : by note.number (intake_known note) ≡ []
    pub note_store_taken : (store_seen note).taken ≡ []
    pub note_intake_taken : (intake_seen note).taken ≡ []
    pub note_stands : (pass_standing note).stands ≡ note.number ∷ []
    pub note_gave : (pass_standing note).gave ≡ []
    pub note_drained : (pass_standing note).drained ≡ (pass_standing old).drained
    pub new_number : (q : ℕ) → Contains (pass_standing old).stands q ⊎ Contains (pass_standing old).gave q → q < note.number
    pub not_last : note.number < most_numbers

  -- The pass took in another: what both knew are beginnings of what it knows
  pub record TwinMeets (old new note : TwinPass S T A B C D) : Type 0 where
    pub rooms : IsTwinPassOf new
    pub same_number : new.number ≡ old.number
    pub stands_for : (pass_standing new).stands ≡ (pass_standing old).stands ++ (pass_standing note).stands
    pub apart : (q : ℕ) → Contains (pass_standing old).stands q → ¬ Contains (pass_standing note).stands q
    pub gave_all : (pass_standing new).gave ≡ (pass_standing old).gave ++ (pass_standing note).gave
    pub drained : (pass_standing new).drained ≡ (pass_standing old).drained + (pass_standing note).drained
    pub same_store_taken : (store_seen new).taken ≡ (store_seen old).taken
    pub same_intake_taken : (intake_seen new).taken ≡ (intake_seen old).taken
    pub store : LaneSees (pass_standing old) (store_seen old) (store_seen new)
    pub intake : LaneSees (pass_standing old) (intake_seen old) (intake_seen new)
    pub note_store : LaneSees (pass_standing note) (store_seen note) (store_seen new)
    pub note_intake : LaneSees (pass_standing note) (intake_seen note) (intake_seen new)
    -- where no other pass is left, the histories have no acts but those of the numbers that the pass stands for
    pub whole : IsLastTwin new → (q : ℕ) → ¬ Contains (pass_standing new).stands q → (by q (store_known new) ≡ []) × (by q (intake_known new) ≡ [])
    -- and where one of the two found that all numbers are drawn, the pass stands for all of them
    pub all_drawn : IsLastTwin new → 0 < (pass_standing new).drained → most_numbers ≤ length (pass_standing new).stands

-- The pass knows all acts of the other, which ended in it, or in one that ended in it: it stands for its numbers beside its own
pub record TwinKnowsAllOf {S T A B C D : Type 0} (ended now : TwinPass S T A B C D) : Type 0 where
  pub stands_for : (q : ℕ) → Contains (pass_standing ended).stands q → Contains (pass_standing now).stands q
  pub apart : (q : ℕ) → Contains (pass_standing ended).stands q → q ≢ now.number
  pub store_acts : (q : ℕ) → Contains (pass_standing ended).stands q → by q (store_known now) ≡ by q (store_known ended)
  pub intake_acts : (q : ℕ) → Contains (pass_standing ended).stands q → by q (intake_known now) ≡ by q (intake_known ended)
