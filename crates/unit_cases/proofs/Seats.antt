-- Passes of rooms stand for what the value stands for that the rooms were opened with.
use Rattle.std.proofs.Common.{◌≡◌, ℕ, List, sym, subst, ap}
use Rattle.turn_rooms.specs.declared.room.RoomEntry.{RoomEntry}
use Rattle.turn_rooms.specs.declared.rooms.Pass.{Pass}
use Rattle.turn_rooms.specs.declared.rooms.Rooms.{Rooms}
use Rattle.turn_rooms.specs.declared.view.RoomSeen.{RoomSeen}
use Rattle.turn_rooms.specs.Histories.{end_of}
use Rattle.turn_rooms.specs.Passes.{Meets, Opens, Parts, opened, known}
use Rattle.act_model.specs.declared.acts.Act.{Act}
use Rattle.act_model.specs.Machine.{Machine}
use Rattle.act_model.specs.Reply.{Reply}
use Rattle.archive_actors.specs.Seats.{StandsFor}
use Rattle.archive_actors.specs.SeatLaws.{known_further}
use Rattle.archive_actors.specs.Steps.{RoomStep}

module _ {S B : Type 0} (steps : S → ℕ → ℕ → Act → B → S → Type 0) (stands : S → Machine → Type 0) (rooms : Rooms S Act B) where
  pub first_seated : (room : S) (first : Pass S Act B) → Opens steps rooms room first → (m : Machine) × stands room m → (m : Machine) × StandsFor steps stands rooms first m
  first_seated room first opens here =
      let m = here.0 in
      let begun : stands (opened rooms) m = subst (λ (s : S). stands s m) (sym opens.opens) here.1 in (
        m,
        record {
          is_pass = opens.rooms;
          begun = (m, begun);
          now = subst (λ (h : List (RoomEntry S Act B)). stands (end_of (opened rooms) h) m) (sym opens.knows) begun;
        },
      )

  -- the same pass of the same rooms, by other names
  pub same_seated : (others : Rooms S Act B) (pass other : Pass S Act B) → others ≡ rooms → pass ≡ other → (m : Machine) × StandsFor steps stands others other m → (m : Machine) × StandsFor steps stands rooms pass m
  same_seated others pass other same_rooms same_pass here =
      let there : (m : Machine) × StandsFor steps stands rooms other m = subst (λ (r : Rooms S Act B). (m : Machine) × StandsFor steps stands r other m) same_rooms here in
      subst (λ (p : Pass S Act B). (m : Machine) × StandsFor steps stands rooms p m) (sym same_pass) there

  pub both_seated : (old new note : Pass S Act B) → Parts steps rooms old new note → (m : Machine) × StandsFor steps stands rooms old m
      → ((m : Machine) × StandsFor steps stands rooms new m) × ((m : Machine) × StandsFor steps stands rooms note m)
  both_seated old new note made here =
      let m = here.0 in
      let same : known new ≡ known old = ap (λ (s : RoomSeen S Act B). s.known) made.same_seen in (
        (
          m,
          record {
            is_pass = made.rooms;
            begun = here.1.begun;
            now = subst (λ (h : List (RoomEntry S Act B)). stands (end_of (opened rooms) h) m) (sym same) here.1.now;
          },
        ),
        (
          m,
          record {
            is_pass = made.note_rooms;
            begun = here.1.begun;
            now = subst (λ (h : List (RoomEntry S Act B)). stands (end_of (opened rooms) h) m) (sym made.note_knows) here.1.now;
          },
        ),
      )

-- a pass in which another ended stands for what comes of what it stood for
module _ {S B : Type 0} (steps : S → ℕ → ℕ → Act → B → S → Type 0) (stands : S → Machine → Type 0) (reply : B → Reply)
    (stepped : (old new : S) (who n : ℕ) (act : Act) (answer : B) → steps old who n act answer new → RoomStep stands reply old who n act answer new) where
  pub met_seated : (rooms : Rooms S Act B) (old new note : Pass S Act B) → Meets steps rooms old new note → (m : Machine) × StandsFor steps stands rooms old m → (m : Machine) × StandsFor steps stands rooms new m
  met_seated rooms old new note met here =
      let further = known_further steps stands reply stepped rooms old new met.goes_on.0 here.0 met.rooms (sym met.goes_on.1) here.1 in
      (further.after, further.stands_for)
