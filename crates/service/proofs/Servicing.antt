-- What all who worked leave: of their passes, of the posts, and what is told of them.
use Rattle.std.proofs.Common.{◌≡◌, ℕ, zero, suc, ◌+◌, ◌≤◌, List, [], ◌∷◌, ◌++◌, length, map, Bool, true, false, if◌then◌else◌, Option, Result, Ok, Err, refl, sym, ap, ◌∙◌, subst, arith, append_assoc, cond}
use Rattle.std.specs.Prelude.{◌||◌, All, count_by}
use mathlib.Core.List.{IsPrefix}
use Rattle.std.specs.List.{AllZip, list_any, range_with_len}
use Rattle.std.proofs.lemmas.List.{map-append, length-map, length-append}
use Rattle.std.proofs.lemmas.List.Elements.{All-append, All-cons, All-head, All-nil, All-tail}
use Rattle.std.proofs.lemmas.List.Folds.{list_any-append}
use Rattle.std.proofs.lemmas.List.Sums.{sum_by-append}
use Rattle.edge_io.specs.Moments.{Moments}
use Rattle.turn_rooms.specs.declared.room.RoomEntry.{RoomEntry}
use Rattle.turn_rooms.specs.declared.rooms.Pass.{Pass}
use Rattle.turn_rooms.specs.declared.rooms.Rooms.{Rooms}
use Rattle.turn_rooms.specs.Histories.{end_of, most_acts}
use Rattle.turn_rooms.specs.Passes.{Goes, IsPassOf, KnowsAllOf, known, opened}
use Rattle.turn_rooms.proofs.Lists.{prefix_length}
use Rattle.act_model.specs.declared.acts.Act.{Act}
use Rattle.act_model.specs.declared.actor.Spent.{Spent}
use Rattle.act_model.specs.History.{Done}
use Rattle.act_model.specs.Machine.{Machine}
use Rattle.act_model.specs.Reply.{Reply}
use Rattle.act_model.specs.Sound.{IsSound}
use Rattle.archive_actors.specs.Seats.{StandsFor}
use Rattle.archive_actors.specs.Steps.{RoomStep}
use Rattle.serving.specs.declared.ends.FlushEnd.{FlushEnd}
use Rattle.serving.specs.declared.ends.FlushEnd.TheVariants.{LeavesNone, FailsToWrite, LacksMemory}
use Rattle.serving.specs.declared.ends.MoverEnd.{MoverEnd}
use Rattle.serving.specs.declared.ends.MoverEnd.TheVariants.{Rests, MeetsFault, MeetsNoMemory}
use Rattle.serving.specs.Rounds.{IsFlushing, IsMoving, IsShift}
use Rattle.serving.specs.Flushes.{FlushesTo}
use Rattle.serving.specs.Moves.{MovesTo}
use Rattle.serving.proofs.Timed.{flushing_is, moving_is}
use Rattle.workers.specs.Pairs.{AllGive}
use Rattle.workers.specs.declared.worker.Worker.{Worker}
use Rattle.workers.specs.Left.{Drawn, IsNew, LeftWith, Met}
use Rattle.workers.proofs.Leaving.{left_acted}
use Rattle.serving.specs.Acting.{Acts, EndsInTurns, HasFlushFault}
use Rattle.serving.proofs.Histories.{all_parts, ends_in_turns, flush_fault}
use Rattle.service.proofs.Tending.{give_length}
use Rattle.service.specs.declared.door.DoorServed.{DoorServed}
use Rattle.service.specs.declared.door.DoorServed.TheVariants as door
use Rattle.service.specs.declared.posts.WorkEnd.{WorkEnd}
use Rattle.service.specs.declared.posts.WorkEnd.TheVariants as ended
use Rattle.service.specs.declared.posts.Post.{Post}
use Rattle.service.specs.declared.posts.Task.{Task}
use Rattle.service.specs.declared.posts.Task.TheVariants as task
use Rattle.service.specs.declared.served.Kind.{Kind}
use Rattle.service.specs.declared.service.AllServed.{AllServed}
use Rattle.service.specs.Service.{AllWorked, CanWork, DoneAt, PostWork, ServesPost, ShiftEnds, TaskEnds, Tends, WorkDone, at_flushes, at_moves, fails, fails_to_write, finds_none, lacks, told_of, with_end}

-- WHAT IS TOLD

or_none : (b : Bool) → (b || false) ≡ b
or_none true = refl
or_none false = refl

any_more : (test : WorkEnd → Bool) (xs : List WorkEnd) (x : WorkEnd) → list_any test (xs ++ x ∷ []) ≡ (list_any test xs || test x)
any_more test xs x = list_any-append test xs (x ∷ []) ∙ ap (λ (b : Bool). list_any test xs || b) (or_none (test x))

count_both : {X : Type 0} (test : X → Bool) (xs ys : List X) → count_by test (xs ++ ys) ≡ count_by test xs + count_by test ys
count_both test xs ys = sum_by-append (λ x. cond (test x) 1 0) xs ys

count_one : {X : Type 0} (test : X → Bool) (x : X) → count_by test (x ∷ []) ≡ (if test x then 1 else 0)
count_one test x = omega arith

count_more : (test : WorkEnd → Bool) (xs : List WorkEnd) (x : WorkEnd) → count_by test (xs ++ x ∷ []) ≡ count_by test xs + (if test x then 1 else 0)
count_more test xs x = count_both test xs (x ∷ []) ∙ ap (λ (n : ℕ). count_by test xs + n) (count_one test x)

pub told_more : (xs : List WorkEnd) (x : WorkEnd) → told_of (xs ++ x ∷ []) ≡ with_end (told_of xs) x
told_more xs x = rw (count_more fails xs x, any_more fails_to_write xs x, any_more finds_none xs x, any_more lacks xs x) refl

-- so it is of none
none_first : (a b : Bool) → (a || b) ≡ false → a ≡ false
none_first true b none = absurd cc
none_first false b none = refl

none_second : (a b : Bool) → (a || b) ≡ false → b ≡ false
none_second true b none = absurd cc
none_second false b none = none

only_second : (a b c : Bool) → a ≡ false → c ≡ false → ((a || b) || c) ≡ true → b ≡ true
only_second true b c p q is = absurd cc
only_second false true c p q is = refl
only_second false false true p q is = absurd cc
only_second false false false p q is = absurd cc

-- LISTS

both : {X : Type 0} (x y : X) (xs ys : List X) → x ≡ y → xs ≡ ys → x ∷ xs ≡ y ∷ ys
both {X} x y xs ys p q = ap (λ (z : X). z ∷ xs) p ∙ ap (λ (zs : List X). y ∷ zs) q

-- what begins a range is one
front_of_range : (a n : ℕ) (xs ys : List ℕ) → xs ++ ys ≡ range_with_len a n → xs ≡ range_with_len a (length xs)
front_of_range a n [] ys is = refl
front_of_range a zero (x ∷ xs) ys is = absurd cc
front_of_range a (suc n) (x ∷ xs) ys is =
    let first : x ≡ a = cc in
    let rest : xs ++ ys ≡ range_with_len (a + 1) n = cc in
    both x a xs (range_with_len (a + 1) (length xs)) first (front_of_range (a + 1) n xs ys rest)

-- WHO MAY ACT

module _ {S B : Type 0} (C : Type 0) (steps : S → ℕ → ℕ → Act → B → S → Type 0) (rooms : Rooms S Act B) where
  abbrev V : Type 0
  V = Worker S C WorkEnd Act B

  abbrev passes_of : List V → List (Pass S Act B)
  passes_of ws = map (λ (v : V). v.pass) ws

  -- who was drawn of a pass that may act may act
  can_each : (stands_for : S → Machine → Type 0) (old : Pass S Act B) (m : Machine) → StandsFor steps stands_for rooms old m → (ws : List V) → All (λ (n : Pass S Act B). IsPassOf steps rooms n) (passes_of ws) → All (λ (n : Pass S Act B). IsNew old n) (passes_of ws)
      → All (λ (w : V). CanWork steps stands_for rooms w) ws
  can_each stands_for old m here [] are new = All-nil (λ (w : V). CanWork steps stands_for rooms w)
  can_each stands_for old m here (w ∷ ws) are new =
      let fresh = All-head (λ (n : Pass S Act B). IsNew old n) w.pass (passes_of ws) new in
      let can : CanWork steps stands_for rooms w = (
        m,
        record {
          is_pass = All-head (λ (n : Pass S Act B). IsPassOf steps rooms n) w.pass (passes_of ws) are;
          begun = here.begun;
          now = subst (λ (h : List (RoomEntry S Act B)). stands_for (end_of (opened rooms) h) m) (sym fresh.knows) here.now;
        },
      ) in
      All-cons (λ (w : V). CanWork steps stands_for rooms w) w ws can
      (can_each stands_for old m here ws (All-tail (λ (n : Pass S Act B). IsPassOf steps rooms n) w.pass (passes_of ws) are) (All-tail (λ (n : Pass S Act B). IsNew old n) w.pass (passes_of ws) new))

  pub drawn_can : (stands_for : S → Machine → Type 0) (old mid : Pass S Act B) (ws : List V) → Drawn steps rooms old mid (passes_of ws) → (m : Machine) × StandsFor steps stands_for rooms old m → All (λ (w : V). CanWork steps stands_for rooms w) ws
  drawn_can stands_for old mid ws drawn here = can_each stands_for old here.0 here.1 ws drawn.left.each drawn.each

-- THE PASSES

module _ (A S B C D : Type 0) (Serves : Kind → ℕ → A → Option Moments → D → DoorServed → A → Option Moments → D → Type 0) (pass_of : A → Pass S Act B) (rooms_of : A → Rooms S Act B) (coming : C → Option Moments)
    (steps : S → ℕ → ℕ → Act → B → S → Type 0) (reply : B → Reply) (rooms : Rooms S Act B) where
  abbrev W : Type 0
  W = Worker S C WorkEnd Act B

  abbrev At : W → Post D → W → Post D → Type 0
  At w p w' p' = DoneAt Serves pass_of rooms_of coming steps reply rooms w p w' p'

  abbrev passes : List W → List (Pass S Act B)
  passes ws = map (λ (w : W). w.pass) ws

  abbrev ends : List W → List WorkEnd
  ends ws = map (λ (w : W). w.end) ws

  shift_goes : (old new : Pass S Act B) (end : WorkEnd) → ShiftEnds steps reply rooms old end new → Goes steps rooms old new
  shift_goes old new ended.NotBegun s = absurd s
  shift_goes old new (ended.Door (door.Done lacked failed)) s = s.goes
  shift_goes old new (ended.Flushed end) s = absurd s
  shift_goes old new (ended.Moved end) s = absurd s
  shift_goes old new (ended.Door door.Spent) s = s.goes
  shift_goes old new ended.Spent s = absurd s

  task_goes : (what : Task) (old new : Pass S Act B) (clock clock' : Option Moments) (end : WorkEnd) → TaskEnds steps reply rooms what old clock end new clock' → Goes steps rooms old new
  task_goes task.Flush old new clock clock' end s = s.2.acts.goes
  task_goes task.Move old new clock clock' end s = s.2.acts.goes

  doors_go : (ws : List W) (ps : List (Post D)) (ws' : List W) (ps' : List (Post D)) → AllGive At ws ps ws' ps' → AllZip (Goes steps rooms) (passes ws) (passes ws')
  doors_go [] ps ws' ps' g = subst (λ (xs : List W). AllZip (Goes steps rooms) [] (passes xs)) (sym g.0) tt
  doors_go (w ∷ ws) [] ws' ps' g = absurd g
  doors_go (w ∷ ws) (p ∷ ps) [] ps' g = absurd g
  doors_go (w ∷ ws) (p ∷ ps) (w' ∷ ws') [] g = absurd g
  doors_go (w ∷ ws) (p ∷ ps) (w' ∷ ws') (p' ∷ ps') g = (shift_goes w.pass w'.pass w'.end g.0.acts, doors_go ws ps ws' ps' g.1)

  zip_append : {X : Type 0} (R : X → X → Type 0) (xs xs' ys ys' : List X) → AllZip R xs xs' → AllZip R ys ys' → AllZip R (xs ++ ys) (xs' ++ ys')
  zip_append R [] [] ys ys' a b = b
  zip_append R [] (x' ∷ xs') ys ys' a b = absurd a
  zip_append R (x ∷ xs) [] ys ys' a b = absurd a
  zip_append R (x ∷ xs) (x' ∷ xs') ys ys' a b = (a.0, zip_append R xs xs' ys ys' a.1 b)

  pub all_go : (olds : List W) (ps : List (Post D)) (news : List W) (ps' : List (Post D)) → WorkDone Serves pass_of rooms_of coming steps reply rooms olds ps news ps' → AllZip (Goes steps rooms) (passes olds) (passes news)
  all_go olds ps news ps' d =
      let both = zip_append (Goes steps rooms) (passes d.at) (passes d.at') (passes (d.flusher ∷ d.mover ∷ [])) (passes (d.flusher' ∷ d.mover' ∷ [])) (doors_go d.at ps d.at' ps' d.doors)
      (task_goes task.Flush d.flusher.pass d.flusher'.pass (coming d.flusher.clock) (coming d.flusher'.clock) d.flusher'.end d.flushes, (task_goes task.Move d.mover.pass d.mover'.pass (coming d.mover.clock) (coming d.mover'.clock) d.mover'.end d.moves, tt)) in
      rw (d.old_is, d.new_is, map-append (λ (w : W). w.pass) d.at (d.flusher ∷ d.mover ∷ []), map-append (λ (w : W). w.pass) d.at' (d.flusher' ∷ d.mover' ∷ [])) both

  -- THE POSTS

  abbrev PW : Type 0
  PW = PostWork A C D

  -- what was done at the posts, post by post
  record Works (ws : List W) (ps : List (Post D)) (ws' : List W) (ps' : List (Post D)) : Type 0 where
    works : List PW
    serve : All (ServesPost Serves pass_of rooms_of coming rooms) works
    passes_are : map (λ (w : PW). pass_of w.seat) works ≡ passes ws
    passes_are' : map (λ (w : PW). pass_of w.seat') works ≡ passes ws'
    posts_are : ps ≡ map (λ (w : PW). w.post) works
    posts_are' : ps' ≡ map (λ (w : PW). w.post') works
    places_are : map (λ (w : PW). w.place) works ≡ map (λ (w : W). w.place) ws
    ends_are : ends ws' ≡ map (λ (w : PW). ended.Door w.served) works

  works_of : (ws : List W) (ps : List (Post D)) (ws' : List W) (ps' : List (Post D)) → AllGive At ws ps ws' ps' → length ws ≡ length ps → Works ws ps ws' ps'
  works_of [] [] ws' ps' g many =
      subst (λ (xs : List W). Works [] [] xs ps') (sym g.0) (subst (λ (qs : List (Post D)). Works [] [] [] qs) (sym g.1)
      (record { works = []; serve = All-nil (ServesPost Serves pass_of rooms_of coming rooms); passes_are = refl; passes_are' = refl; posts_are = refl; posts_are' = refl; places_are = refl; ends_are = refl }))
  works_of [] (p ∷ ps) ws' ps' g many = absurd (omega (arith, many))
  works_of (w ∷ ws) [] ws' ps' g many = absurd g
  works_of (w ∷ ws) (p ∷ ps) [] ps' g many = absurd g
  works_of (w ∷ ws) (p ∷ ps) (w' ∷ ws') [] g many = absurd g
  works_of (w ∷ ws) (p ∷ ps) (w' ∷ ws') (p' ∷ ps') g many =
      let rest = works_of ws ps ws' ps' g.1 (omega (arith, many)) in
      let d = g.0.door in
      let one : PW = record { place = w.place; seat = d.seat; seat' = d.seat'; clock = w.clock; clock' = w'.clock; post = p; post' = p'; served = d.served } in
      record {
        works = one ∷ rest.works;
        serve = All-cons (ServesPost Serves pass_of rooms_of coming rooms) one rest.works (record { rooms_are = d.rooms_are; same_kind = g.0.kind; serves = d.serves }) rest.serve;
        passes_are = both (pass_of d.seat) w.pass (map (λ (v : PW). pass_of v.seat) rest.works) (passes ws) d.pass_is rest.passes_are;
        passes_are' = both (pass_of d.seat') w'.pass (map (λ (v : PW). pass_of v.seat') rest.works) (passes ws') d.pass_is' rest.passes_are';
        posts_are = ap (λ (qs : List (Post D)). p ∷ qs) rest.posts_are;
        posts_are' = ap (λ (qs : List (Post D)). p' ∷ qs) rest.posts_are';
        places_are = ap (λ (ks : List ℕ). w.place ∷ ks) rest.places_are;
        ends_are = both w'.end (ended.Door d.served) (ends ws') (map (λ (v : PW). ended.Door v.served) rest.works) d.end_is rest.ends_are;
      }

  -- what is told, said of those at the doors and of the last two
  told_all : (news at' : List W) (f m : W) → news ≡ at' ++ f ∷ m ∷ [] → told_of (ends news) ≡ with_end (with_end (told_of (ends at')) f.end) m.end
  told_all news at' f m is =
      let split : ends news ≡ (ends at' ++ f.end ∷ []) ++ m.end ∷ [] =
      ap (λ (ws : List W). ends ws) is ∙ (map-append (λ (w : W). w.end) at' (f ∷ m ∷ []) ∙ sym (append_assoc (ends at') (f.end ∷ []) (m.end ∷ []))) in
      ap told_of split ∙ (told_more (ends at' ++ f.end ∷ []) m.end ∙ ap (λ (t : AllServed). with_end t m.end) (told_more (ends at') f.end))

  module _ (olds : List W) (ps : List (Post D)) (news : List W) (ps' : List (Post D)) (d : WorkDone Serves pass_of rooms_of coming steps reply rooms olds ps news ps') where
    told_is : told_of (ends news) ≡ with_end (with_end (told_of (ends d.at')) d.flusher'.end) d.mover'.end
    told_is = told_all news d.at' d.flusher' d.mover' d.new_is

    at_many : length olds ≡ length ps + 2 → length d.at ≡ length ps
    at_many many = let long = ap length d.old_is ∙ length-append d.at (d.flusher ∷ d.mover ∷ []) in omega arith

    -- where it isn't told of all, it holds of none
    none_spent : (told_of (ends news)).spent ≡ false → (list_any finds_none (ends d.at') ≡ false) × (finds_none d.flusher'.end ≡ false) × (finds_none d.mover'.end ≡ false)
    none_spent none =
        let said : ((list_any finds_none (ends d.at') || finds_none d.flusher'.end) || finds_none d.mover'.end) ≡ false = sym (ap (λ (t : AllServed). t.spent) told_is) ∙ none in
        let front = none_first (list_any finds_none (ends d.at') || finds_none d.flusher'.end) (finds_none d.mover'.end) said in (
          none_first (list_any finds_none (ends d.at')) (finds_none d.flusher'.end) front,
          none_second (list_any finds_none (ends d.at')) (finds_none d.flusher'.end) front,
          none_second (list_any finds_none (ends d.at') || finds_none d.flusher'.end) (finds_none d.mover'.end) said,
        )

    none_lacked : (told_of (ends news)).memory ≡ false → (list_any lacks (ends d.at') ≡ false) × (lacks d.flusher'.end ≡ false) × (lacks d.mover'.end ≡ false)
    none_lacked none =
        let said : ((list_any lacks (ends d.at') || lacks d.flusher'.end) || lacks d.mover'.end) ≡ false = sym (ap (λ (t : AllServed). t.memory) told_is) ∙ none in
        let front = none_first (list_any lacks (ends d.at') || lacks d.flusher'.end) (lacks d.mover'.end) said in (
          none_first (list_any lacks (ends d.at')) (lacks d.flusher'.end) front,
          none_second (list_any lacks (ends d.at')) (lacks d.flusher'.end) front,
          none_second (list_any lacks (ends d.at') || lacks d.flusher'.end) (lacks d.mover'.end) said,
        )

    none_failed : (told_of (ends news)).disk_fault ≡ false → fails_to_write d.flusher'.end ≡ false
    none_failed none =
        let said : ((list_any fails_to_write (ends d.at') || fails_to_write d.flusher'.end) || fails_to_write d.mover'.end) ≡ false = sym (ap (λ (t : AllServed). t.disk_fault) told_is) ∙ none in
        none_second (list_any fails_to_write (ends d.at')) (fails_to_write d.flusher'.end) (none_first (list_any fails_to_write (ends d.at') || fails_to_write d.flusher'.end) (fails_to_write d.mover'.end) said)

    -- as many are there as began
    pub done_length : length news ≡ length olds
    done_length =
        let one = ap length d.old_is ∙ length-append d.at (d.flusher ∷ d.mover ∷ []) in
        let other = ap length d.new_is ∙ length-append d.at' (d.flusher' ∷ d.mover' ∷ []) in
        let same = give_length At d.at ps d.at' ps' d.doors in
        omega arith

    -- their list by another name
    module _ (final : List W) (is : final ≡ news) where
      pub left_all : (mid : Pass S Act B) → LeftWith steps rooms mid (passes olds) → LeftWith steps rooms mid (passes final)
      left_all mid left = subst (λ (ws : List W). LeftWith steps rooms mid (passes ws)) (sym is) (left_acted steps rooms mid (passes olds) (passes news) left (all_go olds ps news ps' d))

      pub met_all : (mid new : Pass S Act B) → Met steps rooms mid new (passes final) → Met steps rooms mid new (passes news)
      met_all mid new met = subst (λ (ws : List W). Met steps rooms mid new (passes ws)) is met

      pub told_as : (t : AllServed) → t ≡ told_of (ends final) → t ≡ told_of (ends news)
      told_as t same = same ∙ ap (λ (ws : List W). told_of (ends ws)) is

    -- THE END

    door_shifts : (ws : List W) (qs : List (Post D)) (ws' : List W) (qs' : List (Post D)) → AllGive At ws qs ws' qs' → list_any finds_none (ends ws') ≡ false → AllZip (λ (n n' : Pass S Act B). Acts steps reply rooms n IsShift n') (passes ws) (passes ws')
    door_shifts [] qs ws' qs' g none = subst (λ (xs : List W). AllZip (λ (n n' : Pass S Act B). Acts steps reply rooms n IsShift n') [] (passes xs)) (sym g.0) tt
    door_shifts (w ∷ ws) [] ws' qs' g none = absurd g
    door_shifts (w ∷ ws) (q ∷ qs) [] qs' g none = absurd g
    door_shifts (w ∷ ws) (q ∷ qs) (w' ∷ ws') [] g none = absurd g
    door_shifts (w ∷ ws) (q ∷ qs) (w' ∷ ws') (q' ∷ qs') g none = (by_end w'.end g.0.acts (none_first (finds_none w'.end) (list_any finds_none (ends ws')) none), door_shifts ws qs ws' qs' g.1 (none_second (finds_none w'.end) (list_any finds_none (ends ws')) none))
      where
        by_end : (end : WorkEnd) → ShiftEnds steps reply rooms w.pass end w'.pass → finds_none end ≡ false → Acts steps reply rooms w.pass IsShift w'.pass
        by_end ended.NotBegun s n = absurd s
        by_end (ended.Door (door.Done lacked failed)) s n = s
        by_end (ended.Flushed end) s n = absurd s
        by_end (ended.Moved end) s n = absurd s
        by_end (ended.Door door.Spent) s n = absurd cc
        by_end ended.Spent s n = absurd s

    abbrev flushed : Result FlushEnd Spent
    flushed = d.flushes.0

    abbrev moved : Result MoverEnd Spent
    moved = d.moves.0

    acts_as : (P Q : List Done → Type 0) → ((ds : List Done) → P ds → Q ds) → (a b : Pass S Act B) → Acts steps reply rooms a P b → Acts steps reply rooms a Q b
    acts_as P Q go a b s = record { goes = s.goes; more = s.more; goes_on = s.goes_on; such = go _ s.such }

    flushed_so : (end : FlushEnd) (a b : Pass S Act B) (clock clock' : Option Moments) → Tends steps reply rooms FlushesTo a clock (Ok end) b clock' → Acts steps reply rooms a (IsFlushing end) b
    flushed_so end a b clock clock' t = acts_as (FlushesTo (Ok end) t.moments) (IsFlushing end) (flushing_is end t.moments) a b t.acts

    moved_so : (end : MoverEnd) (a b : Pass S Act B) (clock clock' : Option Moments) → Tends steps reply rooms MovesTo a clock (Ok end) b clock' → Acts steps reply rooms a (IsMoving end) b
    moved_so end a b clock clock' t = acts_as (MovesTo (Ok end) t.moments) (IsMoving end) (moving_is end t.moments) a b t.acts

    flushed_all : (f : Result FlushEnd Spent) (a b : Pass S Act B) (clock clock' : Option Moments) → Tends steps reply rooms FlushesTo a clock f b clock' → finds_none (at_flushes f) ≡ false → lacks (at_flushes f) ≡ false → fails_to_write (at_flushes f) ≡ false
        → Acts steps reply rooms a (IsFlushing LeavesNone) b
    flushed_all (Ok LeavesNone) a b clock clock' t n l w = flushed_so LeavesNone a b clock clock' t
    flushed_all (Ok FailsToWrite) a b clock clock' t n l w = absurd cc
    flushed_all (Ok LacksMemory) a b clock clock' t n l w = absurd cc
    flushed_all (Err spent) a b clock clock' t n l w = absurd cc

    moved_all : (f : Result MoverEnd Spent) (a b : Pass S Act B) (clock clock' : Option Moments) → Tends steps reply rooms MovesTo a clock f b clock' → finds_none (at_moves f) ≡ false → lacks (at_moves f) ≡ false
        → (end : MoverEnd) × Acts steps reply rooms a (IsMoving end) b × (end ≡ MeetsNoMemory → ⊥)
    moved_all (Ok Rests) a b clock clock' t n l = (Rests, moved_so Rests a b clock clock' t, λ is. cc)
    moved_all (Ok MeetsFault) a b clock clock' t n l = (MeetsFault, moved_so MeetsFault a b clock clock' t, λ is. cc)
    moved_all (Ok MeetsNoMemory) a b clock clock' t n l = absurd cc
    moved_all (Err spent) a b clock clock' t n l = absurd cc

    -- how the last two ended, as it is told of their ends
    of_flusher : (test : WorkEnd → Bool) (b : Bool) → test d.flusher'.end ≡ b → test (at_flushes flushed) ≡ b
    of_flusher test b is = sym (ap test d.flushes.1) ∙ is

    of_mover : (test : WorkEnd → Bool) (b : Bool) → test d.mover'.end ≡ b → test (at_moves moved) ≡ b
    of_mover test b is = sym (ap test d.moves.1) ∙ is

    module _ (old mid new : Pass S Act B) (drawn : Drawn steps rooms old mid (passes olds)) (met : Met steps rooms mid new (passes news)) where
      drawn_as : Drawn steps rooms old mid (passes d.at ++ d.flusher.pass ∷ d.mover.pass ∷ [])
      drawn_as = subst (λ (ns : List (Pass S Act B)). Drawn steps rooms old mid ns) (ap (λ (ws : List W). passes ws) d.old_is ∙ map-append (λ (w : W). w.pass) d.at (d.flusher ∷ d.mover ∷ [])) drawn

      met_as : Met steps rooms mid new (passes d.at' ++ d.flusher'.pass ∷ d.mover'.pass ∷ [])
      met_as = subst (λ (ns : List (Pass S Act B)). Met steps rooms mid new ns) (ap (λ (ws : List W). passes ws) d.new_is ∙ map-append (λ (w : W). w.pass) d.at' (d.flusher' ∷ d.mover' ∷ [])) met

      pub all_end : (stands_for : S → Machine → Type 0) → ((old new : S) (who n : ℕ) (act : Act) (answer : B) → steps old who n act answer new → RoomStep stands_for reply old who n act answer new)
          → ((s : S) (m : Machine) → stands_for s m → IsSound m) → length olds ≡ length ps + 2
          → (m : Machine) → StandsFor steps stands_for rooms old m → m.doors ≡ length ps → (told_of (ends news)).spent ≡ false → (told_of (ends news)).memory ≡ false → (told_of (ends news)).disk_fault ≡ false
          → (mover : ℕ) × EndsInTurns steps stands_for reply rooms old new m mover
      all_end stands_for stepped sound many m here doors spent memory fault =
          let some = none_spent spent in
          let enough = none_lacked memory in
          let last = moved_all moved d.mover.pass d.mover'.pass (coming d.mover.clock) (coming d.mover'.clock) d.moves.2 (of_mover finds_none false some.2) (of_mover lacks false enough.2) in (
            d.mover.pass.number,
            ends_in_turns steps stands_for reply stepped sound rooms old mid new d.flusher.pass d.flusher'.pass d.mover.pass d.mover'.pass (passes d.at) (passes d.at') last.0 m here
                (doors ∙ (sym (at_many many) ∙ sym (length-map d.at (λ (w : W). w.pass)))) drawn_as (door_shifts d.at ps d.at' ps' d.doors some.0)
                (flushed_all flushed d.flusher.pass d.flusher'.pass (coming d.flusher.clock) (coming d.flusher'.clock) d.flushes.2 (of_flusher finds_none false some.1) (of_flusher lacks false enough.1) (of_flusher fails_to_write false (none_failed fault)))
                last.1 last.2 met_as,
          )

      pub all_worked : (count : ℕ) → map (λ (w : W). w.place) olds ≡ range_with_len 0 count → length olds ≡ length ps + 2 → AllWorked Serves pass_of rooms_of coming steps reply rooms (told_of (ends news)) old new ps ps'
      all_worked count placed many =
          let k = works_of d.at ps d.at' ps' d.doors (at_many many) in
          let place = λ (w : W). w.place in
          let split : map place d.at ++ d.flusher.place ∷ d.mover.place ∷ [] ≡ range_with_len 0 count = sym (ap (λ (ws : List W). map place ws) d.old_is ∙ map-append place d.at (d.flusher ∷ d.mover ∷ [])) ∙ placed in
          let front = front_of_range 0 count (map place d.at) (d.flusher.place ∷ d.mover.place ∷ []) split in
          let as_many : length (map place d.at) ≡ length k.works = sym (ap length k.places_are) ∙ length-map k.works (λ (w : PW). w.place) in
          let ends_are : ends news ≡ map (λ (w : PW). ended.Door w.served) k.works ++ at_flushes flushed ∷ at_moves moved ∷ [] =
          ap (λ (ws : List W). ends ws) d.new_is ∙ (map-append (λ (w : W). w.end) d.at' (d.flusher' ∷ d.mover' ∷ [])
          ∙ (ap (λ (es : List WorkEnd). es ++ d.flusher'.end ∷ d.mover'.end ∷ []) k.ends_are
          ∙ ap (λ (es : List WorkEnd). map (λ (w : PW). ended.Door w.served) k.works ++ es) (both d.flusher'.end (at_flushes flushed) (d.mover'.end ∷ []) (at_moves moved ∷ []) d.flushes.1 (ap (λ (e : WorkEnd). e ∷ []) d.moves.1)))) in
          record {
            works = k.works;
            posts = k.posts_are;
            posts' = k.posts_are';
            places = k.places_are ∙ (front ∙ ap (λ (n : ℕ). range_with_len 0 n) as_many);
            serve = k.serve;
            flusher = d.flusher.pass;
            flusher' = d.flusher'.pass;
            flusher_clock = d.flusher.clock;
            flusher_clock' = d.flusher'.clock;
            flushed = flushed;
            flushes = d.flushes.2;
            mover = d.mover.pass;
            mover' = d.mover'.pass;
            mover_clock = d.mover.clock;
            mover_clock' = d.mover'.clock;
            moved = moved;
            moves = d.moves.2;
            mid = mid;
            drawn = subst (λ (ns : List (Pass S Act B)). Drawn steps rooms old mid (ns ++ d.flusher.pass ∷ d.mover.pass ∷ [])) (sym k.passes_are) drawn_as;
            met = subst (λ (ns : List (Pass S Act B)). Met steps rooms mid new (ns ++ d.flusher'.pass ∷ d.mover'.pass ∷ [])) (sym k.passes_are') met_as;
            told_is = ap told_of ends_are;
          }

      -- no act was left for one
      full : (ws' : List W) → All (λ (w : W). finds_none w.end ≡ true → most_acts ≤ length (known w.pass)) ws' → All (λ (n : Pass S Act B). IsPrefix (known n) (known new)) (passes ws') → list_any finds_none (ends ws') ≡ true → most_acts ≤ length (known new)
      full [] each front some = absurd cc
      full (w ∷ ws) each front some =
          by_test (finds_none w.end) refl
          (full ws (All-tail (λ (w : W). finds_none w.end ≡ true → most_acts ≤ length (known w.pass)) w ws each) (All-tail (λ (n : Pass S Act B). IsPrefix (known n) (known new)) w.pass (passes ws) front))
        where
          by_test : (b : Bool) → finds_none w.end ≡ b → (list_any finds_none (ends ws) ≡ true → most_acts ≤ length (known new)) → most_acts ≤ length (known new)
          by_test true is rest =
              let here = All-head (λ (w : W). finds_none w.end ≡ true → most_acts ≤ length (known w.pass)) w ws each is in
              let more = prefix_length (known w.pass) (known new) (All-head (λ (n : Pass S Act B). IsPrefix (known n) (known new)) w.pass (passes ws) front) in
              omega arith
          by_test false is rest = rest (sym (ap (λ (b : Bool). b || list_any finds_none (ends ws)) is) ∙ some)

      doors_full : (ws : List W) (qs : List (Post D)) (ws' : List W) (qs' : List (Post D)) → AllGive At ws qs ws' qs' → All (λ (w : W). finds_none w.end ≡ true → most_acts ≤ length (known w.pass)) ws'
      doors_full [] qs ws' qs' g = subst (λ (xs : List W). All (λ (w : W). finds_none w.end ≡ true → most_acts ≤ length (known w.pass)) xs) (sym g.0) (All-nil (λ (w : W). finds_none w.end ≡ true → most_acts ≤ length (known w.pass)))
      doors_full (w ∷ ws) [] ws' qs' g = absurd g
      doors_full (w ∷ ws) (q ∷ qs) [] qs' g = absurd g
      doors_full (w ∷ ws) (q ∷ qs) (w' ∷ ws') [] g = absurd g
      doors_full (w ∷ ws) (q ∷ qs) (w' ∷ ws') (q' ∷ qs') g = All-cons (λ (w : W). finds_none w.end ≡ true → most_acts ≤ length (known w.pass)) w' ws' (by_end w'.end g.0.acts) (doors_full ws qs ws' qs' g.1)
        where
          by_end : (end : WorkEnd) → ShiftEnds steps reply rooms w.pass end w'.pass → finds_none end ≡ true → most_acts ≤ length (known w'.pass)
          by_end ended.NotBegun s n = absurd s
          by_end (ended.Door (door.Done lacked failed)) s n = absurd cc
          by_end (ended.Flushed end) s n = absurd s
          by_end (ended.Moved end) s n = absurd s
          by_end (ended.Door door.Spent) s n = s.all
          by_end ended.Spent s n = absurd s

      flush_full : (f : Result FlushEnd Spent) (a b : Pass S Act B) (clock clock' : Option Moments) → Tends steps reply rooms FlushesTo a clock f b clock' → finds_none (at_flushes f) ≡ true → most_acts ≤ length (known b)
      flush_full (Ok end) a b clock clock' t n = absurd cc
      flush_full (Err spent) a b clock clock' t n = t.all refl

      move_full : (f : Result MoverEnd Spent) (a b : Pass S Act B) (clock clock' : Option Moments) → Tends steps reply rooms MovesTo a clock f b clock' → finds_none (at_moves f) ≡ true → most_acts ≤ length (known b)
      move_full (Ok end) a b clock clock' t n = absurd cc
      move_full (Err spent) a b clock clock' t n = t.all refl

      pub all_full : (told_of (ends news)).spent ≡ true → most_acts ≤ length (known new)
      all_full spent =
          let Full = λ (w : W). finds_none w.end ≡ true → most_acts ≤ length (known w.pass) in
          let two : All Full (d.flusher' ∷ d.mover' ∷ []) = All-cons Full d.flusher' (d.mover' ∷ []) (λ n. flush_full flushed d.flusher.pass d.flusher'.pass (coming d.flusher.clock) (coming d.flusher'.clock) d.flushes.2 (of_flusher finds_none true n))
          (All-cons Full d.mover' [] (λ n. move_full moved d.mover.pass d.mover'.pass (coming d.mover.clock) (coming d.mover'.clock) d.moves.2 (of_mover finds_none true n)) (All-nil Full)) in
          let each : All Full news = subst (λ (ws : List W). All Full ws) (sym d.new_is) (All-append Full d.at' (d.flusher' ∷ d.mover' ∷ []) (doors_full d.at ps d.at' ps' d.doors) two) in
          full news each met.knows_more spent

      -- the disk failed in the last flush
      door_writes : (ws : List W) (qs : List (Post D)) (ws' : List W) (qs' : List (Post D)) → AllGive At ws qs ws' qs' → list_any fails_to_write (ends ws') ≡ false
      door_writes [] qs ws' qs' g = ap (λ (xs : List W). list_any fails_to_write (ends xs)) g.0
      door_writes (w ∷ ws) [] ws' qs' g = absurd g
      door_writes (w ∷ ws) (q ∷ qs) [] qs' g = absurd g
      door_writes (w ∷ ws) (q ∷ qs) (w' ∷ ws') [] g = absurd g
      door_writes (w ∷ ws) (q ∷ qs) (w' ∷ ws') (q' ∷ qs') g = ap (λ (b : Bool). b || list_any fails_to_write (ends ws')) (by_end w'.end g.0.acts) ∙ door_writes ws qs ws' qs' g.1
        where
          by_end : (end : WorkEnd) → ShiftEnds steps reply rooms w.pass end w'.pass → fails_to_write end ≡ false
          by_end ended.NotBegun s = absurd s
          by_end (ended.Door (door.Done lacked failed)) s = refl
          by_end (ended.Flushed end) s = absurd s
          by_end (ended.Moved end) s = absurd s
          by_end (ended.Door door.Spent) s = refl
          by_end ended.Spent s = absurd s

      mover_writes : (f : Result MoverEnd Spent) → fails_to_write (at_moves f) ≡ false
      mover_writes (Ok end) = refl
      mover_writes (Err spent) = refl

      by_flusher : (f : Result FlushEnd Spent) (a b : Pass S Act B) (clock clock' : Option Moments) → Tends steps reply rooms FlushesTo a clock f b clock' → fails_to_write (at_flushes f) ≡ true → Acts steps reply rooms a (IsFlushing FailsToWrite) b
      by_flusher (Ok LeavesNone) a b clock clock' t f = absurd cc
      by_flusher (Ok FailsToWrite) a b clock clock' t f = flushed_so FailsToWrite a b clock clock' t
      by_flusher (Ok LacksMemory) a b clock clock' t f = absurd cc
      by_flusher (Err spent) a b clock clock' t f = absurd cc

      pub all_fault : (told_of (ends news)).disk_fault ≡ true → HasFlushFault reply old new
      all_fault fault =
          let said : ((list_any fails_to_write (ends d.at') || fails_to_write d.flusher'.end) || fails_to_write d.mover'.end) ≡ true = sym (ap (λ (t : AllServed). t.disk_fault) told_is) ∙ fault in
          let writes : fails_to_write d.flusher'.end ≡ true = only_second (list_any fails_to_write (ends d.at')) (fails_to_write d.flusher'.end) (fails_to_write d.mover'.end) (door_writes d.at ps d.at' ps' d.doors) (ap fails_to_write d.moves.1 ∙ mover_writes moved) said in
          let more = met.back.goes_on.0 in
          let is : known new ≡ known old ++ more = sym met.back.goes_on.1 ∙ ap (λ (h : List _). h ++ more) drawn.knows in
          let fresh = (all_parts (λ (n : Pass S Act B). IsNew old n) (passes d.at) (d.flusher.pass ∷ d.mover.pass ∷ []) drawn_as.each).1 in
          let knows = (all_parts (λ (n : Pass S Act B). KnowsAllOf n new) (passes d.at') (d.flusher'.pass ∷ d.mover'.pass ∷ []) met_as.each).1 in
          flush_fault steps reply rooms old new d.flusher.pass d.flusher'.pass more is (by_flusher flushed d.flusher.pass d.flusher'.pass (coming d.flusher.clock) (coming d.flusher'.clock) d.flushes.2 (of_flusher fails_to_write true writes))
          (All-head (λ (n : Pass S Act B). IsNew old n) d.flusher.pass (d.mover.pass ∷ []) fresh) (All-head (λ (n : Pass S Act B). KnowsAllOf n new) d.flusher'.pass (d.mover'.pass ∷ []) knows)
