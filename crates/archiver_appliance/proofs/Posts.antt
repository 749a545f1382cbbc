-- What a service leaves of its posts, and what its status says of them.
use Rattle.std.proofs.Common.{◌≡◌, ◌⊎◌, inl, inr, ℕ, ◌+◌, ◌<◌, ◌≤◌, List, length, [], ◌∷◌, ◌++◌, Bool, true, false, Option, Some, Result, Ok, Err, refl, sym, ◌∙◌, ap, subst, map, cond, arith}
use Rattle.std.specs.Prelude.{All, nat_lt, count_by, slice_get}
use Rattle.std.specs.List.{list_any}
use Rattle.std.proofs.lemmas.Bool.{false≢true}
use Rattle.std.proofs.lemmas.Bool.Decides.{nat_tests}
use Rattle.std.proofs.lemmas.List.Sums.{sum_by-append}
use Rattle.std.proofs.lemmas.List.Elements.{All-cons, All-head, All-nil, All-tail}
use Rattle.edge_io.specs.Doors.{Ledger}
use Rattle.edge_io.specs.Moments.{Moments}
use Rattle.edge_io.specs.Stream.{Rose}
use Rattle.edge_io.specs.declared.link.Door.{Ghosts as OfDoor}
use Rattle.edge_io.specs.declared.stream.Source.{Ghosts as OfSource}
use Rattle.edge_io.specs.declared.stream.Sink.{Ghosts as OfSink}
use Rattle.disk_model.specs.declared.disk.ReadAt.{Ghosts as OfFile}
use Rattle.store_reopen.specs.declared.error.ReopenErr.{ReopenErr}
use Rattle.store_reopen.specs.declared.error.ReopenErr.TheVariants as reopening
use Rattle.turn_rooms.specs.declared.rooms.Pass.{Pass}
use Rattle.turn_rooms.specs.declared.rooms.Rooms.{Rooms}
use Rattle.turn_rooms.specs.Histories.{most_acts, most_numbers}
use Rattle.turn_rooms.specs.Passes.{known, stands}
use Rattle.act_model.specs.declared.acts.Act.{Act}
use Rattle.act_model.specs.declared.actor.Actor.{Ghosts as OfActor}
use Rattle.act_model.specs.declared.actor.Spent.{Spent as NoAct}
use Rattle.act_model.specs.History.{Entry}
use Rattle.act_model.specs.Machine.{Machine}
use Rattle.act_model.specs.Reply.{Reply}
use Rattle.serving.specs.declared.ends.FlushEnd.{FlushEnd}
use Rattle.serving.specs.declared.ends.MoverEnd.{MoverEnd}
use Rattle.service.specs.declared.door.DoorServed.{DoorServed}
use Rattle.service.specs.declared.door.DoorServed.TheVariants as ended
use Rattle.service.specs.declared.posts.Post.{Post}
use Rattle.service.specs.declared.served.Kind.{Kind}
use Rattle.service.specs.declared.service.AllServed.{AllServed}
use Rattle.service.specs.Doors.{IsServed, ServesDoorAt}
use Rattle.service.specs.Service.{AllWorked, NumbersSpent, PostWork, ServesAll, ServesPost, at_door, at_flushes, at_moves, fails, finds_none, told_of, told_want}
use Rattle.archiver_appliance.specs.Serving.{CameOfPosts, DoorLeft, EachOf, HasFailed, IsUnserved, PostServed, PostsLeft, ServesPosts, are_not, on_archive, first_of, status_of}
use Rattle.command_words.specs.declared.command.Command.{Command}
use Rattle.command_words.specs.declared.command.Command.TheVariants.{Drill, Extract, OverStore}
use Rattle.command_words.specs.declared.command.StoreCommand.TheVariants as asked
use Rattle.command_words.specs.declared.service_words.ServeWords.{ServeWords}
use Rattle.command_words.specs.Command.{IsCommand}
use Rattle.archiver_appliance.specs.Judging.{refusal_of}
use Rattle.archiver_appliance.specs.Run.{AreDoorsQuiet}
use Rattle.archiver_appliance.proofs.Completeness.{IsServing}
use Rattle.archiver_appliance.proofs.Spending.{all_spent}
use Rattle.command_words.specs.declared.status.Status.{Status}
use Rattle.command_words.specs.declared.status.Status.TheVariants.{Done, DoorFault}

-- HOW EACH DOOR WAS LEFT

-- what is left of a door's service where its links' sessions are left out
module _ {A D L R : Type 0} (actor : OfActor A R) (file : OfFile R) (source : OfSource L) (sink : OfSink L) (door : OfDoor D L) (Told : ℕ → Type 0) where
  pub door_left : (kind : Kind) (place : ℕ) (a : A) (clock : Option Moments) (was : D) (served : DoorServed) (b : A) (clock' : Option Moments) (now : D)
      → ServesDoorAt actor file source sink door Told kind place a clock was served b clock' now
      → DoorLeft door.is_closed door.door_faults door.ledger (λ kind l. IsServed kind sink.written source.read_faults sink.write_faults l) kind was served now
  door_left kind place a clock was (ended.Done lacked failed) b clock' now s =
      (record { links = s.asked.0.left.links; returned = s.asked.0.left.returned; are = s.asked.0.are; faults_rise = s.asked.0.left.faults_rise }, s.asked.1)
  door_left kind place a clock was ended.Spent b clock' now s = record { links = s.asked.links; returned = s.asked.returned; are = λ no. absurd (false≢true (sym no)); faults_rise = s.asked.faults_rise }

module _ {A S B C D L : Type 0} (Serves : Kind → ℕ → A → Option Moments → D → DoorServed → A → Option Moments → D → Type 0) (pass_of : A → Pass S Act B) (rooms_of : A → Rooms S Act B) (coming : C → Option Moments) (is_closed : D → Bool) (faults : D → ℕ) (ledger : D → Option (Ledger L)) (Is : Kind → L → Type 0)
    (leaves : (kind : Kind) (place : ℕ) (a : A) (clock : Option Moments) (was : D) (served : DoorServed) (b : A) (clock' : Option Moments) (now : D) → Serves kind place a clock was served b clock' now → DoorLeft is_closed faults ledger Is kind was served now)
    (full : (kind : Kind) (place : ℕ) (a : A) (clock : Option Moments) (was : D) (b : A) (clock' : Option Moments) (now : D) → Serves kind place a clock was ended.Spent b clock' now → most_acts ≤ length (known (pass_of b))) (rooms : Rooms S Act B) where
  abbrev W : Type 0
  W = PostWork A C D

  each_left : (works : List W) → All (ServesPost Serves pass_of rooms_of coming rooms) works → EachOf (PostServed is_closed faults ledger Is) (map (λ (w : W). w.served) works) (map (λ (w : W). w.post) works) (map (λ (w : W). w.post') works)
  each_left [] all = tt
  each_left (w ∷ ws) all =
      let one = All-head (ServesPost Serves pass_of rooms_of coming rooms) w ws all in
      (record { kind = one.same_kind; door = leaves w.post.kind w.place w.seat (coming w.clock) w.post.door w.served w.seat' (coming w.clock') w.post'.door one.serves }, each_left ws (All-tail (ServesPost Serves pass_of rooms_of coming rooms) w ws all))

  ends_at : (works : List W) → map (λ (w : W). at_door w.served) works ≡ map at_door (map (λ (w : W). w.served) works)
  ends_at [] = refl
  ends_at (w ∷ ws) = ap (λ es. at_door w.served ∷ es) (ends_at ws)

  -- what is left of the posts, what the last pass knows then, and what more is said where all worked
  pub record LeftKnowing (Worked : Type 0) (told : AllServed) (old new : Pass S Act B) (olds news : List (Post D)) : Type 0 where
    pub began : Bool
    pub posts : PostsLeft is_closed faults ledger Is began told olds news
    pub worked : began ≡ true → Worked
    pub none : began ≡ false → known new ≡ known old
    pub spent : told.spent ≡ true → most_acts ≤ length (known new)

  -- where the pass stands for so few numbers that those of all who serve are left
  pub posts_left : (steps : S → ℕ → ℕ → Act → B → S → Type 0) (reply : B → Reply) (told : AllServed) (old new : Pass S Act B) (olds news : List (Post D)) (Worked : Type 0) → (AllWorked Serves pass_of rooms_of coming steps reply rooms told old new olds news → Worked)
      → length (stands old) + (length olds + 2) ≤ most_numbers → ServesAll Serves pass_of rooms_of coming steps reply rooms told old new olds news → LeftKnowing Worked told old new olds news
  posts_left steps reply told old new olds news Worked works few (inl all) = record {
    began = true;
    worked = λ yes. works all;
    posts = record {
      served = map (λ (w : W). w.served) all.works;
      each = rw (all.posts, all.posts') (each_left all.works all.serve);
      flushed = all.flushed;
      moved = all.moved;
      told_is = all.told_is ∙ ap (λ es. told_of (es ++ at_flushes all.flushed ∷ at_moves all.moved ∷ [])) (ends_at all.works);
    };
    none = λ is. absurd (false≢true (sym is));
    spent = λ spent. all_spent Serves pass_of rooms_of coming full rooms new steps reply told old olds news all spent;
  }
  posts_left steps reply told old new olds news Worked works few (inr nobody) =
      let lacks = want nobody.1 in
      record {
        began = false;
        posts = record { same = nobody.0; want = lacks.0 };
        worked = λ is. absurd (false≢true is);
        none = λ is. ap (λ (p : Pass S Act B). known p) lacks.1;
        spent = λ spent. absurd (false≢true (sym (ap (λ (t : AllServed). t.spent) lacks.0) ∙ spent));
      }
    where
      want : ((told ≡ told_want true false) × NumbersSpent old new (length olds + 2)) ⊎ ((told ≡ told_want false true) × (new ≡ old)) → (told ≡ told_want false true) × (new ≡ old)
      want (inl n) = let many : most_numbers < length (stands old) + (length olds + 2) = n.1.2 in absurd (omega (arith, few, many))
      want (inr none) = none

-- WHAT THE STATUS SAYS OF THE POSTS

-- a disk that isn't opened is told as one whose posts couldn't be served
pub refusal_unserved : {D R : Type 0} (err : ReopenErr D R) → IsUnserved (refusal_of err)
refusal_unserved (reopening.DiskFault d) = tt
refusal_unserved (reopening.Damaged d name at) = tt
refusal_unserved (reopening.GranularityDiffers d kept other) = tt
refusal_unserved (reopening.Memory d) = tt

done_first : (failed fault memory spent : Bool) → first_of failed fault memory spent ≡ Done → (failed ≡ false) × (spent ≡ false)
done_first true fault memory spent is = absurd cc
done_first false true memory spent is = absurd cc
done_first false false true spent is = absurd cc
done_first false false false true is = absurd cc
done_first false false false false is = (refl, refl)

fault_first : (failed fault memory spent : Bool) → first_of failed fault memory spent ≡ DoorFault → failed ≡ true
fault_first true fault memory spent is = refl
fault_first false true memory spent is = absurd cc
fault_first false false true spent is = absurd cc
fault_first false false false true is = absurd cc
fault_first false false false false is = absurd cc

-- none of those beside the doors is a door that failed
no_more_fail : (flushed : Result FlushEnd NoAct) (moved : Result MoverEnd NoAct) → count_by fails (at_flushes flushed ∷ at_moves moved ∷ []) ≡ 0
no_more_fail (Ok f) (Ok m) = omega arith
no_more_fail (Ok f) (Err n) = omega arith
no_more_fail (Err e) (Ok m) = omega arith
no_more_fail (Err e) (Err n) = omega arith

module _ {D L : Type 0} (is_closed : D → Bool) (faults : D → ℕ) (ledger : D → Option (Ledger L)) (Is : Kind → L → Type 0) where
  abbrev Closed : Post D → Type 0
  Closed p = is_closed p.door ≡ true

  module _ (flushed : Result FlushEnd NoAct) (moved : Result MoverEnd NoAct) where
    -- how many doors failed, and whether one had no act left
    abbrev failed_of : List DoorServed → ℕ
    failed_of served = count_by fails (map at_door served ++ at_flushes flushed ∷ at_moves moved ∷ [])

    abbrev spent_of : List DoorServed → Bool
    spent_of served = list_any finds_none (map at_door served ++ at_flushes flushed ∷ at_moves moved ∷ [])

    one_more : (lacked : Bool) (ss : List DoorServed) → failed_of (ended.Done lacked true ∷ ss) ≡ 1 + failed_of ss
    one_more lacked ss = sum_by-append (λ x. cond (fails x) 1 0) (at_door (ended.Done lacked true) ∷ []) (map at_door ss ++ at_flushes flushed ∷ at_moves moved ∷ [])

    no_more : (lacked : Bool) (ss : List DoorServed) → failed_of (ended.Done lacked false ∷ ss) ≡ failed_of ss
    no_more lacked ss = refl

    none_spent : (ss : List DoorServed) → failed_of (ended.Spent ∷ ss) ≡ failed_of ss
    none_spent ss = refl

    all_closed : (served : List DoorServed) (olds news : List (Post D)) → EachOf (PostServed is_closed faults ledger Is) served olds news → failed_of served ≡ 0 → spent_of served ≡ false → All Closed news
    all_closed [] [] [] each none left = All-nil Closed
    all_closed (ended.Done lacked true ∷ ss) (o ∷ os) (n ∷ ns) each none left = absurd (omega (arith, one_more lacked ss, none))
    all_closed (ended.Done lacked false ∷ ss) (o ∷ os) (n ∷ ns) each none left = All-cons Closed n ns each.0.door.1 (all_closed ss os ns each.1 (sym (no_more lacked ss) ∙ none) left)
    all_closed (ended.Spent ∷ ss) (o ∷ os) (n ∷ ns) each none left = absurd (false≢true (sym left))
    all_closed ss os ns each none left = absurd each

    behind : (o n : Post D) (os ns : List (Post D)) → HasFailed faults os ns → HasFailed faults (o ∷ os) (n ∷ ns)
    behind o n os ns f = record { place = f.place + 1; old = f.old; new = f.new; was = grind (arith, f.was); now = grind (arith, f.now); rose = f.rose }

    one_failed : (served : List DoorServed) (olds news : List (Post D)) → EachOf (PostServed is_closed faults ledger Is) served olds news → 0 < failed_of served → HasFailed faults olds news
    one_failed [] [] [] each some = absurd (omega (arith, no_more_fail flushed moved, some))
    one_failed (ended.Done lacked true ∷ ss) (o ∷ os) (n ∷ ns) each some = record { place = 0; old = o; new = n; was = refl; now = refl; rose = each.0.door.1 }
    one_failed (ended.Done lacked false ∷ ss) (o ∷ os) (n ∷ ns) each some = behind o n os ns (one_failed ss os ns each.1 (subst (λ (k : ℕ). 0 < k) (no_more lacked ss) some))
    one_failed (ended.Spent ∷ ss) (o ∷ os) (n ∷ ns) each some = behind o n os ns (one_failed ss os ns each.1 (subst (λ (k : ℕ). 0 < k) (none_spent ss) some))
    one_failed ss os ns each some = absurd each

  module _ (Unopened : Type 0) (Made : Bool → AllServed → Type 0) (told : AllServed) (olds news : List (Post D)) where
    when_done : (began : Bool) → PostsLeft is_closed faults ledger Is began told olds news → status_of told ≡ Done → All Closed news
    when_done true all is =
        let clean = done_first (nat_lt 0 told.door_faults) told.disk_fault told.memory told.spent is in
        let none : told.door_faults ≡ 0 = grind (arith, nat_tests, clean.0) in
        all_closed all.flushed all.moved all.served olds news all.each (sym (ap (λ (t : AllServed). t.door_faults) all.told_is) ∙ none) (sym (ap (λ (t : AllServed). t.spent) all.told_is) ∙ clean.1)
    when_done false nobody is = let done : status_of (told_want false true) ≡ Done = subst (λ (t : AllServed). status_of t ≡ Done) nobody.want is in absurd cc

    when_failed : (began : Bool) → PostsLeft is_closed faults ledger Is began told olds news → status_of told ≡ DoorFault → HasFailed faults olds news
    when_failed true all is =
        let failed = fault_first (nat_lt 0 told.door_faults) told.disk_fault told.memory told.spent is in
        let some : 0 < told.door_faults = grind (arith, nat_tests, failed) in
        one_failed all.flushed all.moved all.served olds news all.each (subst (λ (n : ℕ). 0 < n) (ap (λ (t : AllServed). t.door_faults) all.told_is) some)
    when_failed false nobody is = let fault : status_of (told_want false true) ≡ DoorFault = subst (λ (t : AllServed). status_of t ≡ DoorFault) nobody.want is in absurd cc

    pub serves_posts : (began : Bool) → PostsLeft is_closed faults ledger Is began told olds news → Made began told → ServesPosts is_closed faults ledger Is Unopened Made (status_of told) olds news
    serves_posts began left made = record { came = on_archive began told refl left made; closed = when_done began left; failed = when_failed began left }

  -- where nothing could be opened or made
  pub serves_nobody : (Unopened : Type 0) (Made : Bool → AllServed → Type 0) (status : Status) (posts : List (Post D)) → IsUnserved status → Unopened → ServesPosts is_closed faults ledger Is Unopened Made status posts posts
  serves_nobody Unopened Made status posts not unopened = record {
    came = are_not not refl unopened;
    closed = λ is. absurd (subst IsUnserved is not);
    failed = λ is. absurd (subst IsUnserved is not);
  }

  -- the same, where less is told of the archive
  pub serves_weaker : (Unopened Unopened' : Type 0) (Made Made' : Bool → AllServed → Type 0) (status : Status) (olds news : List (Post D)) → (Unopened → Unopened') → ((began : Bool) (told : AllServed) → Made began told → Made' began told) → ServesPosts is_closed faults ledger Is Unopened Made status olds news → ServesPosts is_closed faults ledger Is Unopened' Made' status olds news
  serves_weaker Unopened Unopened' Made Made' status olds news less weaker serves = record { came = came serves.came; closed = serves.closed; failed = serves.failed }
    where
      came : CameOfPosts is_closed faults ledger Is Unopened Made status olds news → CameOfPosts is_closed faults ledger Is Unopened' Made' status olds news
      came (on_archive began told is left made) = on_archive began told is left (weaker began told made)
      came (are_not not same unopened) = are_not not same (less unopened)

  -- no door failed, where none's count rose
  pub no_door : (Unopened : Type 0) (Made : Bool → AllServed → Type 0) (status : Status) (olds news : List (Post D)) → ServesPosts is_closed faults ledger Is Unopened Made status olds news → ((i : ℕ) (old new : Post D) → slice_get olds i ≡ Some old → slice_get news i ≡ Some new → Rose (faults old.door) (faults new.door) → ⊥) → status ≡ DoorFault → ⊥
  no_door Unopened Made status olds news serves quiet is = let f = serves.failed is in quiet f.place f.old f.new f.was f.now f.rose

-- so it is of words that ask to serve, whatever else they might have asked for
module _ {D L : Type 0} (is_closed : D → Bool) (faults : D → ℕ) (ledger : D → Option (Ledger L)) (Is : Kind → L → Type 0) (Unopened : Type 0) (Made : Bool → AllServed → Type 0) (words : List (List ℕ)) (status : Status) (olds news : List (Post D))
    (serves : (numbers : ServeWords) → IsCommand words (OverStore (asked.Serve numbers)) → ServesPosts is_closed faults ledger Is Unopened Made status olds news) where
  pub doors_hold : (command : Command) → IsCommand words command → AreDoorsQuiet faults command olds news → IsServing command → status ≡ DoorFault → ⊥
  doors_hold (OverStore (asked.Serve numbers)) asks quiet serving is = no_door is_closed faults ledger Is Unopened Made status olds news (serves numbers asks) quiet is
  doors_hold (Extract query) asks quiet serving is = serving
  doors_hold (Drill drill) asks quiet serving is = serving
  doors_hold (OverStore asked.Ingest) asks quiet serving is = serving
  doors_hold (OverStore (asked.Get name query)) asks quiet serving is = serving
  doors_hold (OverStore asked.Etl) asks quiet serving is = serving
  doors_hold (OverStore asked.Status) asks quiet serving is = serving
  doors_hold (OverStore asked.Check) asks quiet serving is = serving
  doors_hold (OverStore asked.Adopt) asks quiet serving is = serving
