-- Where no act was left for one of those who worked, the last pass knows as many as there can be.
use Rattle.std.proofs.Common.{◌≡◌, ℕ, ◌+◌, ◌≤◌, List, [], ◌∷◌, ◌++◌, length, Bool, true, Option, Result, Ok, Err, refl, sym, ◌∙◌, ap, subst, map, arith}
use Rattle.std.specs.Prelude.{All, IsErr}
use Rattle.std.specs.List.{list_any}
use Rattle.std.proofs.lemmas.List.{length-append}
use Rattle.std.proofs.lemmas.List.Elements.{All-head, All-tail}
use mathlib.Core.List.{IsPrefix}
use Rattle.edge_io.specs.Moments.{Moments}
use Rattle.edge_io.specs.declared.link.Door.{Ghosts as OfDoor}
use Rattle.edge_io.specs.declared.stream.Source.{Ghosts as OfSource}
use Rattle.edge_io.specs.declared.stream.Sink.{Ghosts as OfSink}
use Rattle.disk_model.specs.declared.disk.ReadAt.{Ghosts as OfFile}
use Rattle.turn_rooms.specs.declared.room.RoomEntry.{RoomEntry}
use Rattle.turn_rooms.specs.declared.rooms.Pass.{Pass}
use Rattle.turn_rooms.specs.declared.rooms.Rooms.{Rooms}
use Rattle.turn_rooms.specs.Histories.{most_acts}
use Rattle.turn_rooms.specs.Passes.{known}
use Rattle.turn_rooms.proofs.Lists.{prefix_length}
use Rattle.act_model.specs.declared.acts.Act.{Act}
use Rattle.act_model.specs.declared.acts.Answer.{Answer}
use Rattle.act_model.specs.declared.actor.Spent.{Spent as NoAct}
use Rattle.act_model.specs.Machine.{Machine}
use Rattle.act_model.specs.Reply.{Reply}
use Rattle.archive_actors.specs.declared.seated.Seated.{Seated}
use Rattle.archive_actors.specs.declared.shared.Shared.{Shared}
use Rattle.serving.specs.declared.ends.FlushEnd.{FlushEnd}
use Rattle.serving.specs.declared.ends.MoverEnd.{MoverEnd}
use Rattle.service.specs.declared.door.DoorServed.{DoorServed}
use Rattle.service.specs.declared.door.DoorServed.TheVariants as ended
use Rattle.service.specs.declared.posts.Post.{Post}
use Rattle.service.specs.declared.served.Kind.{Kind}
use Rattle.service.specs.declared.service.AllServed.{AllServed}
use Rattle.service.specs.Doors.{ServesDoorAt}
use Rattle.service.specs.Seats.{seat_by, seat_pass}
use Rattle.service.specs.Service.{AllWorked, PostWork, ServesPost, at_door, at_flushes, at_moves, finds_none}
use Rattle.service.specs.Serving.{WasSpent}

-- ONE AT A DOOR

seat_full : {R X Y : Type 0} (steps : Shared X Y → ℕ → ℕ → Act → Answer Y → Shared X Y → Type 0) (stands : Shared X Y → Machine → Type 0) (reply : Answer Y → Reply) (b : Seated R X Y) → WasSpent (seat_by steps stands reply) b → most_acts ≤ length (known (seat_pass b))
seat_full {R} {X} {Y} steps stands reply b spent =
    let earlier = known (seat_pass spent.0) in
    let learnt = spent.3.1 in
    let more : length (known (seat_pass b)) ≡ length earlier + length learnt.acts = ap (λ (h : List (RoomEntry (Shared X Y) Act (Answer Y))). length h) learnt.goes_on ∙ length-append earlier learnt.acts in
    let all : length earlier ≡ most_acts = spent.1 in
    omega (arith, more, all)

pub door_full : {R X Y D L : Type 0} (steps : Shared X Y → ℕ → ℕ → Act → Answer Y → Shared X Y → Type 0) (stands : Shared X Y → Machine → Type 0) (reply : Answer Y → Reply) (file : OfFile Y) (source : OfSource L) (sink : OfSink L) (door : OfDoor D L)
    (Told : ℕ → Type 0) (kind : Kind) (place : ℕ) (a : Seated R X Y) (clock : Option Moments) (was : D) (b : Seated R X Y) (clock' : Option Moments) (now : D)
    → ServesDoorAt (seat_by steps stands reply) file source sink door Told kind place a clock was ended.Spent b clock' now → most_acts ≤ length (known (seat_pass b))
door_full steps stands reply file source sink door Told kind place a clock was b clock' now s = seat_full steps stands reply b (s.spent refl)

-- ALL WHO WORKED

module _ {A S B C D : Type 0} (Serves : Kind → ℕ → A → Option Moments → D → DoorServed → A → Option Moments → D → Type 0) (pass_of : A → Pass S Act B) (rooms_of : A → Rooms S Act B) (coming : C → Option Moments)
    (full : (kind : Kind) (place : ℕ) (a : A) (clock : Option Moments) (was : D) (b : A) (clock' : Option Moments) (now : D) → Serves kind place a clock was ended.Spent b clock' now → most_acts ≤ length (known (pass_of b))) (rooms : Rooms S Act B) (new : Pass S Act B) where
  abbrev W : Type 0
  W = PostWork A C D

  abbrev Known : Pass S Act B → Type 0
  Known n = IsPrefix (known n) (known new)

  abbrev Serving : W → Type 0
  Serving = ServesPost Serves pass_of rooms_of coming rooms

  knows_all : (n : Pass S Act B) → Known n → most_acts ≤ length (known n) → most_acts ≤ length (known new)
  knows_all n front all = let more = prefix_length (known n) (known new) front in omega (arith, more, all)

  at_doors : (works : List W) (others : List (Pass S Act B)) (ends : List _) → All Serving works → All Known (map (λ (w : W). pass_of w.seat') works ++ others) → (All Known others → list_any finds_none ends ≡ true → most_acts ≤ length (known new))
      → list_any finds_none (map (λ (w : W). at_door w.served) works ++ ends) ≡ true → most_acts ≤ length (known new)
  at_doors [] others ends serve front last found = last front found
  at_doors (w ∷ ws) others ends serve front last found =
      by_end w.served refl (at_doors ws others ends (All-tail Serving w ws serve) (All-tail Known (pass_of w.seat') (map (λ (w : W). pass_of w.seat') ws ++ others) front) last)
    where
      by_end : (s : DoorServed) → w.served ≡ s → (list_any finds_none (map (λ (w : W). at_door w.served) ws ++ ends) ≡ true → most_acts ≤ length (known new)) → most_acts ≤ length (known new)
      by_end (ended.Done lacked failed) is rest = rest (subst (λ (s : DoorServed). list_any finds_none (at_door s ∷ (map (λ (w : W). at_door w.served) ws ++ ends)) ≡ true) is found)
      by_end ended.Spent is rest =
          let serves = (All-head Serving w ws serve).serves in
          knows_all (pass_of w.seat') (All-head Known (pass_of w.seat') (map (λ (w : W). pass_of w.seat') ws ++ others) front)
          (full w.post.kind w.place w.seat (coming w.clock) w.post.door w.seat' (coming w.clock') w.post'.door (subst (λ (s : DoorServed). Serves w.post.kind w.place w.seat (coming w.clock) w.post.door s w.seat' (coming w.clock') w.post'.door) is serves))

  beside : (flushed : Result FlushEnd NoAct) (moved : Result MoverEnd NoAct) (f m : Pass S Act B) → (IsErr flushed → most_acts ≤ length (known f)) → (IsErr moved → most_acts ≤ length (known m)) → All Known (f ∷ m ∷ []) → list_any finds_none (at_flushes flushed ∷ at_moves moved ∷ []) ≡ true → most_acts ≤ length (known new)
  beside (Err e) moved f m flushes moves front found = knows_all f (All-head Known f (m ∷ []) front) (flushes refl)
  beside (Ok e) (Err n) f m flushes moves front found = knows_all m (All-head Known m [] (All-tail Known f (m ∷ []) front)) (moves refl)
  beside (Ok e) (Ok n) f m flushes moves front found = absurd cc

  pub all_spent : (steps : S → ℕ → ℕ → Act → B → S → Type 0) (reply : B → Reply) (told : AllServed) (old : Pass S Act B) (olds news : List (Post D)) → AllWorked Serves pass_of rooms_of coming steps reply rooms told old new olds news → told.spent ≡ true → most_acts ≤ length (known new)
  all_spent steps reply told old olds news all spent =
      at_doors all.works (all.flusher' ∷ all.mover' ∷ []) (at_flushes all.flushed ∷ at_moves all.moved ∷ []) all.serve all.met.knows_more (beside all.flushed all.moved all.flusher' all.mover' all.flushes.all all.moves.all)
      (sym (ap (λ (t : AllServed). t.spent) all.told_is) ∙ spent)
