-- The rule of a twin's table, and what its steps tell.
use Rattle.std.specs.Prelude.{◌≡◌, ◌≢◌, ℕ, ◌<◌, List, [], ◌∷◌, map, length, Option, IfSome, Contains}
use mathlib.Core.Option as maybe
use mathlib.Core.List.{IsPrefix}
use Rattle.atomic_table.specs.Table.{State, Me, Step}
use Rattle.turn_rooms.specs.declared.room.RoomEntry.{RoomEntry}
use Rattle.turn_rooms.specs.declared.beside.ActBeside.{ActBeside}
use Rattle.turn_rooms.specs.declared.view.RoomSeen.{RoomSeen}
use Rattle.turn_rooms.specs.declared.view.SeatNumbers.{SeatNumbers}
use Rattle.turn_rooms.specs.declared.twin_view.TwinView.{TwinView}
use Rattle.turn_rooms.specs.Histories.{most_numbers, by, Legal}
use Rattle.turn_rooms.specs.Views.{learned, counted, drew, settled}
use Rattle.turn_rooms.specs.Numbers.{Numbered, AreApart, StandsForMany}
use Rattle.turn_rooms.specs.Rules.{Recorded, Told, Whole}
use Rattle.turn_rooms.specs.Lanes.{lifted, lane_view, lane_looks, lane_learns, lane_takes, lane_gives}
use Rattle.turn_rooms.specs.Ties.{knowing, HalfHistory, Tied}
use Rattle.turn_rooms.specs.TwinViews.{in_store, in_intake, out_store, out_intake, saying, twin_view, with_store, with_intake, with_standing}

module _ {S A B T C D : Type 0} where
  abbrev pub twin_standings : List (TwinView S A B T C D) → List SeatNumbers
  twin_standings vs = map (λ v. v.standing) vs

  abbrev pub store_sights : List (TwinView S A B T C D) → List (RoomSeen S (ActBeside A) B × SeatNumbers)
  store_sights vs = map (λ v. (v.store, v.standing)) vs

  abbrev pub intake_sights : List (TwinView S A B T C D) → List (RoomSeen T (ActBeside C) D × SeatNumbers)
  intake_sights vs = map (λ v. (v.intake, v.standing)) vs

-- Words 0 and 1 and the two slots are the halves', word 2 counts the numbers, and the two histories are tied
pub record TwinRuled {S A B T C D : Type 0} (steps : S → ℕ → ℕ → A → B → S → Type 0) (steps' : T → ℕ → ℕ → C → D → T → Type 0)
    (allows : HalfHistory T C D → A → Type 0) (allows' : HalfHistory S A B → C → Type 0) (begun : S) (begun' : T)
    (s : State (Option S × Option T) (TwinView S A B T C D)) : Type 0 where
  pub store_history : HalfHistory S A B
  pub intake_history : HalfHistory T C D
  pub store_word : ℕ
  pub intake_word : ℕ
  pub drawn : ℕ
  pub store_home : maybe.Option (Option S)
  pub intake_home : maybe.Option (Option T)
  pub words : s.words ≡ store_word ∷ intake_word ∷ drawn ∷ []
  pub homes : s.homes ≡ lifted in_store store_home ∷ lifted in_intake intake_home ∷ []
  pub numbers : Numbered drawn (twin_standings s.views)
  pub store : Recorded (knowing steps) begun store_history drawn store_word store_home (store_sights s.views)
  pub intake : Recorded (knowing steps') begun' intake_history drawn intake_word intake_home (intake_sights s.views)
  pub tied : Tied allows allows' store_history intake_history

-- What the steps tell
module _ {S A B T C D : Type 0} (steps : S → ℕ → ℕ → A → B → S → Type 0) (steps' : T → ℕ → ℕ → C → D → T → Type 0)
    (allows : HalfHistory T C D → A → Type 0) (allows' : HalfHistory S A B → C → Type 0) where
  abbrev pub TwinSeated : Type 0
  TwinSeated = Me (Option S × Option T) (TwinView S A B T C D)

  abbrev pub TwinStep : Type 0
  TwinStep = Step (Option S × Option T)

  -- what is known of the intake where the store is taken: a legal history to which the store's is tied, and which goes on from the known one
  abbrev pub BesideStore : TwinView S A B T C D → HalfHistory S A B → Type 0
  BesideStore v h = (g : HalfHistory T C D) × IfSome v.intake.begun (λ z. Legal (knowing steps') z g) × Tied allows allows' h g × IsPrefix v.intake.known g

  abbrev pub BesideIntake : TwinView S A B T C D → HalfHistory T C D → Type 0
  BesideIntake v g = (h : HalfHistory S A B) × IfSome v.store.begun (λ z. Legal (knowing steps) z h) × Tied allows allows' h g × IsPrefix v.store.known h

  -- what an entry needs: it names what its seat knows of the other half, and that allows it
  abbrev pub MayStore : TwinView S A B T C D → RoomEntry S (ActBeside A) B → Type 0
  MayStore v e = (e.act.other ≡ length v.intake.known) × allows v.intake.known e.act.act

  abbrev pub MayIntake : TwinView S A B T C D → RoomEntry T (ActBeside C) D → Type 0
  MayIntake v e = (e.act.other ≡ length v.store.known) × allows' v.store.known e.act.act

  abbrev pub store_looks : TwinStep → TwinSeated → ℕ → TwinSeated → Type 0
  store_looks = lane_looks (knowing steps) (λ v. v.store) (λ v. v.standing) with_store

  abbrev pub intake_looks : TwinStep → TwinSeated → ℕ → TwinSeated → Type 0
  intake_looks = lane_looks (knowing steps') (λ v. v.intake) (λ v. v.standing) with_intake

  abbrev pub store_takes : TwinStep → TwinSeated → ℕ → TwinSeated → Type 0
  store_takes = lane_takes (knowing steps) (λ v. v.store) (λ v. v.standing) with_store in_store 0 BesideStore

  abbrev pub intake_takes : TwinStep → TwinSeated → ℕ → TwinSeated → Type 0
  intake_takes = lane_takes (knowing steps') (λ v. v.intake) (λ v. v.standing) with_intake in_intake 1 BesideIntake

  abbrev pub store_gives : Option (A × B) → TwinStep → TwinSeated → ℕ → TwinSeated → Type 0
  store_gives said = lane_gives (knowing steps) (λ v. v.store) (λ v. v.standing) with_store out_store (λ v. saying (length v.intake.known) said)

  abbrev pub intake_gives : Option (C × D) → TwinStep → TwinSeated → ℕ → TwinSeated → Type 0
  intake_gives said = lane_gives (knowing steps') (λ v. v.intake) (λ v. v.standing) with_intake out_intake (λ v. saying (length v.store.known) said)

  abbrev pub store_learns : TwinStep → TwinSeated → ℕ → TwinSeated → Type 0
  store_learns = lane_learns (knowing steps) (λ v. v.store) (λ v. v.standing) with_store

  -- the second load after a join
  abbrev pub twin_settles : TwinStep → TwinSeated → ℕ → TwinSeated → Type 0
  twin_settles st m found m' =
      (g : HalfHistory T C D) × Told (knowing steps') (lane_view (λ v. v.intake) (λ v. v.standing) m.0) g × AreApart m.0.standing
      × Whole (knowing steps') m.0.standing g
      × (m' ≡ (twin_view m.0.store (learned m.0.intake g) (settled m.0.standing), m.1)) × (0 < m.0.standing.drained → StandsForMany most_numbers m.0.standing)

  abbrev pub twin_counts : TwinStep → TwinSeated → ℕ → TwinSeated → Type 0
  twin_counts st m found m' = (m' ≡ (with_standing m.0 (counted m.0.standing found), m.1)) × StandsForMany found m.0.standing

  abbrev pub twin_draws : TwinStep → TwinSeated → ℕ → TwinSeated → Type 0
  twin_draws st m found m' =
      (found ≡ st.first
      → (m' ≡ (with_standing m.0 (drew m.0.standing found), m.1)) × ((q : ℕ) → Contains m.0.standing.stands q → q < found)
      × ((q : ℕ) → Contains m.0.standing.gave q → q < found)
      × (by found m.0.store.known ≡ []) × (by found m.0.intake.known ≡ []))
      × (found ≢ st.first → m' ≡ m)
