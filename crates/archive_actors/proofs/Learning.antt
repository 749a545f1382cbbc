-- What follows of what passes know.
use Rattle.std.proofs.Common.{◌≡◌, ℕ, List, [], ◌∷◌, ◌++◌, sym, ◌∙◌, ap, subst}
use Rattle.std.proofs.lemmas.List.{append-nil}
use mathlib.Core.List.{IsPrefix}
use Rattle.turn_rooms.specs.declared.room.RoomEntry.{RoomEntry}
use Rattle.turn_rooms.specs.declared.rooms.Pass.{Pass}
use Rattle.turn_rooms.specs.declared.rooms.Rooms.{Rooms}
use Rattle.turn_rooms.specs.declared.view.RoomSeen.{RoomSeen}
use Rattle.turn_rooms.specs.Histories.{Legal, end_of}
use Rattle.turn_rooms.specs.Passes.{IsPassOf, Meets, Parts, opened, known}
use Rattle.turn_rooms.specs.Passes.{Goes as RoomGoes}
use Rattle.act_model.specs.declared.acts.Act.{Act}
use Rattle.act_model.specs.Machine.{Machine}
use Rattle.act_model.specs.Reply.{Reply}
use Rattle.act_model.specs.Sound.{IsSound}
use Rattle.act_model.proofs.Histories.{runs_append, runs_onward, steps_at}
use Rattle.archive_actors.specs.Steps.{RoomStep, kept, all_kept}
use Rattle.archive_actors.specs.Seats.{StandsFor, ActsAfter}
use Rattle.archive_actors.specs.SeatLaws.{legal_runs, known_further, seat_legal}

module _ {S B : Type 0} (steps : S → ℕ → ℕ → Act → B → S → Type 0) (stands : S → Machine → Type 0) (reply : B → Reply)
    (stepped : (old new : S) (who n : ℕ) (act : Act) (answer : B) → steps old who n act answer new → RoomStep stands reply old who n act answer new) where
  -- each act of a pass that knows more than another is a step in a state that goes onward from those that the other stood for
  acts_after : ((s : S) (m : Machine) → stands s m → IsSound m) → (rooms : Rooms S Act B) (earlier old : Pass S Act B) → IsPassOf steps rooms old → IsPrefix (known earlier) (known old)
      → ActsAfter steps stands reply rooms earlier old
  acts_after sound rooms earlier old pass front m here later new others act answer learnt =
      let first = known_further steps stands reply stepped rooms earlier old front.0 m pass (sym front.1) here in
      let then_it = seat_legal steps stands reply stepped rooms old (others ++ kept reply old.number act answer ∷ []) later new first.after learnt first.stands_for in
      let at = steps_at others [] (kept reply old.number act answer) first.after then_it.after then_it.runs in (
        at.at,
        at.after,
        runs_onward (all_kept reply front.0 ++ others) m at.at (sound (end_of (opened rooms) (known earlier)) m here.now) (runs_append (all_kept reply front.0) others m first.after at.at first.runs at.to),
        at.step,
        subst (λ (w : Machine). StandsFor steps stands later new w) at.from then_it.stands_for,
      )

  pub acts_after_met : ((s : S) (m : Machine) → stands s m → IsSound m) → (rooms : Rooms S Act B) (old new note : Pass S Act B) → Meets steps rooms old new note
      → ActsAfter steps stands reply rooms old new × ActsAfter steps stands reply rooms note new
  acts_after_met sound rooms old new note met = (
    acts_after sound rooms old new met.rooms met.goes_on,
    acts_after sound rooms note new met.rooms met.note_goes_on,
  )

  pub acts_after_parted : ((s : S) (m : Machine) → stands s m → IsSound m) → (rooms : Rooms S Act B) (old new note : Pass S Act B) → Parts steps rooms old new note
      → ActsAfter steps stands reply rooms old new × ActsAfter steps stands reply rooms old note
  acts_after_parted sound rooms old new note made =
      let same : known new ≡ known old = ap (λ (s : RoomSeen S Act B). s.known) made.same_seen in (
        acts_after sound rooms old new made.rooms ([], append-nil (known old) ∙ sym same),
        acts_after sound rooms old note made.note_rooms ([], append-nil (known old) ∙ sym made.note_knows),
      )

  -- after turns a pass stands for some state
  pub stands_on : (rooms : Rooms S Act B) (old new : Pass S Act B) (m : Machine) → RoomGoes steps rooms old new → StandsFor steps stands rooms old m → (n : Machine) × StandsFor steps stands rooms new n
  stands_on rooms old new m goes here =
      let further = known_further steps stands reply stepped rooms old new goes.goes_on.0 m goes.rooms (sym goes.goes_on.1) here in
      (further.after, further.stands_for)

  -- wherever a legal history goes, the room stands for some state
  pub stands_later : (rooms : Rooms S Act B) (pass : Pass S Act B) (m : Machine) (acts : List (RoomEntry S Act B)) → StandsFor steps stands rooms pass m → Legal steps (opened rooms) acts → (n : Machine) × stands (end_of (opened rooms) acts) n
  stands_later rooms pass m acts here legal =
      let goes = legal_runs steps stands reply stepped 0 (opened rooms) acts here.begun.0 legal here.begun.1 in
      (goes.after, goes.stands_for)
