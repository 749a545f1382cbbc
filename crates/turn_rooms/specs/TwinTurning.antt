-- The steps of a turn on either half, for this crate alone.
use Rattle.std.specs.Prelude.{◌≡◌, ℕ, [], ◌∷◌, length, Option}
use mathlib.Core.List.{IsPrefix}
use Rattle.turn_rooms.specs.declared.twins.Twin.{Twin}
use Rattle.turn_rooms.specs.declared.twins.TwinPass.{TwinPass}
use Rattle.turn_rooms.specs.Histories.{Legal}
use Rattle.turn_rooms.specs.Ties.{knowing, asked, HalfHistory, Tied}
use Rattle.turn_rooms.specs.LaneTurns.{LaneRests, LaneHasRead, LaneHas, LaneSees, LaneLooks, LaneTakes, LaneMisses, LaneGives}
use Rattle.turn_rooms.specs.TwinPasses.{TwinBelongs, store_opened, intake_opened, store_seen, intake_seen, store_known, intake_known, pass_standing}

module _ {S T A B C D : Type 0} (steps : S → ℕ → ℕ → A → B → S → Type 0) (steps' : T → ℕ → ℕ → C → D → T → Type 0)
    (together : S → T → Type 0) (r : Twin S T A B C D) where
  abbrev P : Type 0
  P = TwinPass S T A B C D

  -- a step on word 0
  pub record StoreMoves (old new : P) : Type 0 where
    pub belongs : TwinBelongs steps steps' together r new
    pub same_number : new.number ≡ old.number
    pub same_standing : pass_standing new ≡ pass_standing old
    pub same_intake : intake_seen new ≡ intake_seen old

  pub record StoreLooked (old new : P) (word : ℕ) : Type 0 where
    pub moves : StoreMoves old new
    pub hands : new.seat.me.1 ≡ []
    pub looks : LaneLooks (knowing steps) (store_opened r) (pass_standing old) (store_seen old) (store_seen new) word

  pub record StoreReady (p : P) (word : ℕ) : Type 0 where
    pub belongs : TwinBelongs steps steps' together r p
    pub hands : p.seat.me.1 ≡ []
    pub store : LaneHasRead (knowing steps) (store_opened r) (store_seen p) word
    pub intake : LaneRests (knowing steps') (intake_opened r) (intake_seen p)

  pub record StoreOut (p : P) (room : S) : Type 0 where
    pub belongs : TwinBelongs steps steps' together r p
    pub hands : (k : Option S × Option T) × (p.seat.me.1 ≡ (0, k) ∷ [])
    pub store : LaneHas (knowing steps) (store_opened r) (store_seen p) room
    pub intake : LaneRests (knowing steps') (intake_opened r) (intake_seen p)

  pub record StoreTaken (allows : HalfHistory T C D → A → Type 0) (allows' : HalfHistory S A B → C → Type 0) (old new : P) (word : ℕ) (room : S) : Type 0 where
    pub moves : StoreMoves old new
    pub out : StoreOut new room
    pub takes : LaneTakes (knowing steps) (store_opened r) (pass_standing old) (store_seen old) (store_seen new) word room
    pub beside : (g : HalfHistory T C D) × Legal (knowing steps') (intake_opened r) g × Tied allows allows' (store_known new) g × IsPrefix (intake_known new) g

  pub record StoreMissed (old new : P) (word found : ℕ) : Type 0 where
    pub moves : StoreMoves old new
    pub hands : new.seat.me.1 ≡ []
    pub misses : LaneMisses (knowing steps) (store_opened r) (pass_standing old) (store_seen old) (store_seen new) word found

  pub record StoreGiven (old new : P) (act : A) (answer : B) : Type 0 where
    pub moves : StoreMoves old new
    pub hands : new.seat.me.1 ≡ []
    pub gives : LaneGives (knowing steps) (store_opened r) (pass_standing old) old.number (store_seen old) (store_seen new)
        (asked (length (intake_known old)) act) answer

  -- a step on word 1
  pub record IntakeMoves (old new : P) : Type 0 where
    pub belongs : TwinBelongs steps steps' together r new
    pub same_number : new.number ≡ old.number
    pub same_standing : pass_standing new ≡ pass_standing old
    pub same_store : store_seen new ≡ store_seen old

  pub record IntakeLooked (old new : P) (word : ℕ) : Type 0 where
    pub moves : IntakeMoves old new
    pub hands : new.seat.me.1 ≡ []
    pub looks : LaneLooks (knowing steps') (intake_opened r) (pass_standing old) (intake_seen old) (intake_seen new) word

  pub record IntakeReady (p : P) (word : ℕ) : Type 0 where
    pub belongs : TwinBelongs steps steps' together r p
    pub hands : p.seat.me.1 ≡ []
    pub store : LaneRests (knowing steps) (store_opened r) (store_seen p)
    pub intake : LaneHasRead (knowing steps') (intake_opened r) (intake_seen p) word

  pub record IntakeOut (p : P) (room : T) : Type 0 where
    pub belongs : TwinBelongs steps steps' together r p
    pub hands : (k : Option S × Option T) × (p.seat.me.1 ≡ (1, k) ∷ [])
    pub store : LaneRests (knowing steps) (store_opened r) (store_seen p)
    pub intake : LaneHas (knowing steps') (intake_opened r) (intake_seen p) room

  pub record IntakeTaken (allows : HalfHistory T C D → A → Type 0) (allows' : HalfHistory S A B → C → Type 0) (old new : P) (word : ℕ) (room : T) : Type 0 where
    pub moves : IntakeMoves old new
    pub out : IntakeOut new room
    pub takes : LaneTakes (knowing steps') (intake_opened r) (pass_standing old) (intake_seen old) (intake_seen new) word room
    pub beside : (h : HalfHistory S A B) × Legal (knowing steps) (store_opened r) h × Tied allows allows' h (intake_known new) × IsPrefix (store_known new) h

  pub record IntakeMissed (old new : P) (word found : ℕ) : Type 0 where
    pub moves : IntakeMoves old new
    pub hands : new.seat.me.1 ≡ []
    pub misses : LaneMisses (knowing steps') (intake_opened r) (pass_standing old) (intake_seen old) (intake_seen new) word found

  pub record IntakeGiven (old new : P) (act : C) (answer : D) : Type 0 where
    pub moves : IntakeMoves old new
    pub hands : new.seat.me.1 ≡ []
    pub gives : LaneGives (knowing steps') (intake_opened r) (pass_standing old) old.number (intake_seen old) (intake_seen new)
        (asked (length (store_known old)) act) answer

  -- tries on the store that added nothing
  pub record StoreWaits (old new : P) : Type 0 where
    pub moves : StoreMoves old new
    pub sees : LaneSees (pass_standing old) (store_seen old) (store_seen new)
    pub more_taken : IsPrefix (store_seen old).taken (store_seen new).taken

  -- tries on the intake that added nothing
  pub record IntakeWaits (old new : P) : Type 0 where
    pub moves : IntakeMoves old new
    pub sees : LaneSees (pass_standing old) (intake_seen old) (intake_seen new)
    pub more_taken : IsPrefix (intake_seen old).taken (intake_seen new).taken
