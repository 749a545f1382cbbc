-- A turn as an act: its entry is the last that a pass then knows, and no other new one is of the pass's number.
use Rattle.std.proofs.Common.{◌≡◌, ℕ, List, [], ◌∷◌, ◌++◌, length, refl, sym, ◌∙◌, ap, subst, arith, append_assoc, length-append, cond}
use Rattle.std.specs.Prelude.{◌==◌, Bool, true, false}
use Rattle.std.proofs.lemmas.List.Elements.{filter-append}
use Rattle.std.proofs.lemmas.List.{nil_from_length}
use Rattle.std.proofs.lemmas.Bool.Decides.{nat_tests}
use Rattle.turn_rooms.specs.declared.room.RoomEntry.{RoomEntry}
use Rattle.turn_rooms.specs.declared.rooms.Pass.{Pass}
use Rattle.turn_rooms.specs.declared.rooms.Rooms.{Rooms}
use Rattle.turn_rooms.specs.Histories.{by, entry}
use Rattle.turn_rooms.specs.Passes.{Adds, Full, known}
use Rattle.turn_rooms.specs.Passes.{Goes as RoomGoes}
use Rattle.act_model.specs.declared.acts.Act.{Act}
use Rattle.act_model.specs.History.{Entry, own}
use Rattle.act_model.specs.Reply.{Reply}
use Rattle.archive_actors.specs.Steps.{kept, all_kept}
use Rattle.archive_actors.specs.Seats.{HasLearnt, KnowsAll}
use Rattle.archive_actors.specs.SeatLaws.{kept_append}

module _ {S B : Type 0} where
  kept_one : (reply : B → Reply) (e : RoomEntry S Act B) (b : Bool) (xs : List Entry) (ys : List (RoomEntry S Act B)) → xs ≡ all_kept reply ys
      → cond b (kept reply e.who e.act e.answer ∷ xs) xs ≡ all_kept reply (cond b (e ∷ ys) ys)
  kept_one reply e true xs ys is = ap (λ (es : List Entry). kept reply e.who e.act e.answer ∷ es) is
  kept_one reply e false xs ys is = is

  -- what is kept of the acts of one number
  kept_own : (reply : B → Reply) (q : ℕ) (acts : List (RoomEntry S Act B)) → own q (all_kept reply acts) ≡ all_kept reply (by q acts)
  kept_own reply q [] = refl
  kept_own reply q (e ∷ es) = kept_one reply e (e.who == q) (own q (all_kept reply es)) (by q es) (kept_own reply q es)

  -- where no act of a number is new, no entry of it is
  none_kept : (reply : B → Reply) (q : ℕ) (acts : List (RoomEntry S Act B)) → by q acts ≡ [] → own q (all_kept reply acts) ≡ []
  none_kept reply q acts none = kept_own reply q acts ∙ ap (λ (es : List (RoomEntry S Act B)). all_kept reply es) none

  by_append : (q : ℕ) (xs ys : List (RoomEntry S Act B)) → by q (xs ++ ys) ≡ by q xs ++ by q ys
  by_append q xs ys = filter-append (λ (e : RoomEntry S Act B). e.who == q) xs ys

  by_itself : (e : RoomEntry S Act B) → by e.who (e ∷ []) ≡ e ∷ []
  by_itself e = let same : (e.who == e.who) ≡ true = grind (arith, nat_tests) in ap (λ (b : Bool). cond b (e ∷ []) []) same

  -- no act of the number is among those between, where the last is one more of it
  none_between : (q : ℕ) (old mid : List (RoomEntry S Act B)) (e : RoomEntry S Act B) → e.who ≡ q → by q ((old ++ mid) ++ e ∷ []) ≡ by q old ++ e ∷ [] → by q mid ≡ []
  none_between q old mid e mine is =
      let one : by q (e ∷ []) ≡ e ∷ [] = subst (λ (k : ℕ). by k (e ∷ []) ≡ e ∷ []) mine (by_itself e) in
      let all : by q ((old ++ mid) ++ e ∷ []) ≡ (by q old ++ by q mid) ++ e ∷ [] = by_append q (old ++ mid) (e ∷ []) ∙ (ap (λ (es : List (RoomEntry S Act B)). es ++ by q (e ∷ [])) (by_append q old mid) ∙ ap (λ (es : List (RoomEntry S Act B)). (by q old ++ by q mid) ++ es) one) in
      let long = ap length (sym all ∙ is) in
      nil_from_length (by q mid) (omega (arith, long, length-append (by q old ++ by q mid) (e ∷ []), length-append (by q old) (by q mid), length-append (by q old) (e ∷ [])))

  none_behind : (q : ℕ) (old more new : List (RoomEntry S Act B)) → old ++ more ≡ new → by q new ≡ by q old → by q more ≡ []
  none_behind q old more new is same =
      let long = ap length (sym (by_append q old more) ∙ (ap (λ (es : List (RoomEntry S Act B)). by q es) is ∙ same)) in
      nil_from_length (by q more) (omega (arith, long, length-append (by q old) (by q more)))

module _ {S B : Type 0} (steps : S → ℕ → ℕ → Act → B → S → Type 0) (reply : B → Reply) (rooms : Rooms S Act B) (old new : Pass S Act B) where
  -- a turn that was taken
  pub taken_turn : (loaded : ℕ) (act : Act) (answer : B) → RoomGoes steps rooms old new → Adds old new loaded act answer
      → (others : List Entry) × HasLearnt steps reply rooms old (others ++ kept reply old.number act answer ∷ []) rooms new × (own old.number others ≡ [])
  taken_turn loaded act answer goes adds =
      let mid = adds.follows.0 in
      let last : RoomEntry S Act B = entry old.number act answer adds.after in
      let is : known new ≡ (known old ++ mid) ++ last ∷ [] = adds.ends ∙ ap (λ (h : List (RoomEntry S Act B)). h ++ last ∷ []) (sym adds.follows.1) in
      let mine : by old.number (known new) ≡ by old.number (known old) ++ last ∷ [] = ap (λ (k : ℕ). by k (known new)) (sym goes.same_number) ∙ adds.own in
      let none = none_between old.number (known old) mid last refl (ap (λ (h : List (RoomEntry S Act B)). by old.number h) (sym is) ∙ mine) in
      let learnt : HasLearnt steps reply rooms old (all_kept reply mid ++ kept reply old.number act answer ∷ []) rooms new = record {
        same_rooms = refl;
        same_number = goes.same_number;
        acts = mid ++ last ∷ [];
        goes_on = is ∙ append_assoc (known old) mid (last ∷ []);
        are = sym (kept_append reply mid (last ∷ []));
        goes = λ is. goes;
      } in
      (all_kept reply mid, learnt, none_kept reply old.number mid none)

  -- a room that has had all its acts
  pub no_turn : (loaded : ℕ) → RoomGoes steps rooms old new → Full old new loaded
      → (others : List Entry) × HasLearnt steps reply rooms old others rooms new × (own old.number others ≡ []) × KnowsAll new
  no_turn loaded goes full =
      let more = goes.goes_on.0 in
      let same : by old.number (known new) ≡ by old.number (known old) = ap (λ (k : ℕ). by k (known new)) (sym goes.same_number) ∙ full.own in
      let none = none_behind old.number (known old) more (known new) goes.goes_on.1 same in
      let learnt : HasLearnt steps reply rooms old (all_kept reply more) rooms new = record {
        same_rooms = refl;
        same_number = goes.same_number;
        acts = more;
        goes_on = sym goes.goes_on.1;
        are = refl;
        goes = λ is. goes;
      } in
      (all_kept reply more, learnt, none_kept reply old.number more none, full.all)
