-- What one who is seated made, as acts by its pass.
use Rattle.std.proofs.Common.{◌≡◌, ◌∙◌, ℕ, ◌+◌, ◌≤◌, List, length, Option, Result, ap, refl, sym, subst, arith}
use Rattle.std.specs.Prelude.{IsErr}
use Rattle.std.proofs.lemmas.List.{length-append}
use Rattle.edge_io.specs.Moments.{Gives, Moments}
use Rattle.turn_rooms.specs.declared.room.RoomEntry.{RoomEntry}
use Rattle.turn_rooms.specs.declared.rooms.Pass.{Pass}
use Rattle.turn_rooms.specs.declared.rooms.Rooms.{Rooms}
use Rattle.turn_rooms.specs.Histories.{most_acts}
use Rattle.turn_rooms.specs.Passes.{IsPassOf, known}
use Rattle.act_model.specs.declared.acts.Act.{Act}
use Rattle.act_model.specs.declared.acts.Answer.{Answer}
use Rattle.act_model.specs.declared.actor.Spent.{Spent}
use Rattle.act_model.specs.History.{Done, Entry, mine}
use Rattle.act_model.specs.Machine.{Machine}
use Rattle.act_model.specs.Reply.{Reply}
use Rattle.archive_actors.specs.declared.seated.Seated.{Seated}
use Rattle.archive_actors.specs.declared.shared.Shared.{Shared}
use Rattle.archive_actors.specs.Seats.{HasLearnt, KnowsAll}
use Rattle.serving.specs.Acting.{Acts}
use Rattle.serving.specs.Rounds.{IsShift}
use Rattle.service.specs.declared.door.DoorServed.{DoorServed}
use Rattle.service.specs.declared.door.DoorServed.TheVariants as door
use Rattle.service.specs.declared.posts.WorkEnd.TheVariants as ended
use Rattle.service.specs.Doors.{Shift}
use Rattle.service.specs.Seats.{seat_by, seat_pass, seat_rooms}
use Rattle.service.specs.Service.{FindsNone, ShiftEnds, Tends}
use Rattle.service.specs.Serving.{WasSpent}

module _ {S B : Type 0} (steps : S → ℕ → ℕ → Act → B → S → Type 0) (reply : B → Reply) where
  acts_learnt : (rooms later : Rooms S Act B) (old new : Pass S Act B) (entries : List Entry) (Such : List Done → Type 0) → IsPassOf steps rooms old → HasLearnt steps reply rooms old entries later new → Such (mine old.number entries)
      → Acts steps reply rooms old Such new
  acts_learnt rooms later old new entries Such is learnt such = record {
    goes = learnt.goes is;
    more = learnt.acts;
    goes_on = learnt.goes_on;
    such = subst (λ (es : List Entry). Such (mine old.number es)) learnt.are such;
  }

  -- the same, where the seat was made of a pass of rooms
  acts_seated : (rooms at later : Rooms S Act B) (old sat new : Pass S Act B) (entries : List Entry) (Such : List Done → Type 0) → at ≡ rooms → sat ≡ old → IsPassOf steps rooms old → HasLearnt steps reply at sat entries later new → Such (mine sat.number entries)
      → Acts steps reply rooms old Such new
  acts_seated rooms at later old sat new entries Such same_rooms same_pass is learnt such =
      let first = subst (λ (p : Pass S Act B). HasLearnt steps reply at p entries later new) same_pass learnt in
      acts_learnt rooms later old new entries Such is (subst (λ (r : Rooms S Act B). HasLearnt steps reply r old entries later new) same_rooms first)
      (subst (λ (p : Pass S Act B). Such (mine p.number entries)) same_pass such)

  -- the same of one beside the doors, whose pass is lent back
  pub tends_seated : (E : Type 0) (Such : Result E Spent → List ℕ → List Done → Type 0) (end : Result E Spent) (rooms at later : Rooms S Act B) (old sat new back : Pass S Act B) (clock clock' : Option Moments) (moments : List ℕ) (ds : List Done) (entries : List Entry)
      → at ≡ rooms → sat ≡ old → new ≡ back → IsPassOf steps rooms old → Gives clock clock' moments → HasLearnt steps reply at sat entries later new → mine sat.number entries ≡ ds → Such end moments ds → (IsErr end → KnowsAll new)
      → Tends steps reply rooms Such old clock end back clock'
  tends_seated E Such end rooms at later old sat new back clock clock' moments ds entries same_rooms same_pass lent is gives learnt these such spent = rw (← lent) (record {
    moments = moments;
    at = gives;
    acts = acts_seated rooms at later old sat new entries (Such end moments) same_rooms same_pass is learnt (subst (λ (es : List Done). Such end moments es) (sym these) such);
    all = λ err. let whole = spent err in omega arith;
  })

-- WORKERS AT DOORS

module _ {T X Y : Type 0} (steps : Shared X Y → ℕ → ℕ → Act → Answer Y → Shared X Y → Type 0) (stands : Shared X Y → Machine → Type 0) (reply : Answer Y → Reply) where
  -- where no act was left, the pass knows as many as there can be
  knows_most : (b : Seated T X Y) → WasSpent (seat_by steps stands reply) b → most_acts ≤ length (known (seat_pass b))
  knows_most b spent =
      let earlier = known (seat_pass spent.0) in
      let learnt = spent.3.1 in
      let more : length (known (seat_pass b)) ≡ length earlier + length learnt.acts = ap (λ (h : List (RoomEntry (Shared X Y) Act (Answer Y))). length h) learnt.goes_on ∙ length-append earlier learnt.acts in
      let all : length earlier ≡ most_acts = spent.1 in
      omega (arith, more, all)

  -- how a worker at a door ended, whose pass is lent back
  pub shift_ends : (rooms : Rooms (Shared X Y) Act (Answer Y)) (old back : Pass (Shared X Y) Act (Answer Y)) (a b : Seated T X Y) (served : DoorServed) → seat_rooms a ≡ rooms → seat_pass a ≡ old → seat_pass b ≡ back → IsPassOf steps rooms old
      → Shift (seat_by steps stands reply) a served b → (served ≡ door.Spent → WasSpent (seat_by steps stands reply) b) → ShiftEnds steps reply rooms old (ended.Door served) back
  shift_ends rooms old back a b (door.Done lacked failed) same_rooms same_pass lent is s spent =
      subst (λ (p : Pass (Shared X Y) Act (Answer Y)). Acts steps reply rooms old IsShift p) lent
      (acts_seated steps reply rooms (seat_rooms a) (seat_rooms b) old (seat_pass a) (seat_pass b) s.1.entries IsShift same_rooms same_pass is s.1.leads.1 (subst IsShift (sym s.1.just_these) s.2))
  shift_ends rooms old back a b door.Spent same_rooms same_pass lent is s spent =
      let made = acts_seated steps reply rooms (seat_rooms a) (seat_rooms b) old (seat_pass a) (seat_pass b) s.1.entries (λ ds. Unit {0}) same_rooms same_pass is s.1.leads.1 tt in
      subst (λ (p : Pass (Shared X Y) Act (Answer Y)). FindsNone steps reply rooms old p) lent (record { goes = made.goes; all = knows_most b (spent refl) })
