-- From stores that were just opened to a service on them, and the disk that is given back.
use Rattle.std.proofs.Common.{◌≡◌, ◌⊎◌, inl, inr, ℕ, ◌+◌, ◌^◌, ◌<◌, List, [], ◌∷◌, ◌++◌, Bool, true, false, Option, Some, None, length, refl, sym, ◌∙◌, ap, subst, map, arith}
use Rattle.std.proofs.lemmas.Bool.Decides.{nat_tests}
use Rattle.std.specs.Prelude.{Contains, IsTrue, ◌≤◌, ◌==◌, nat_lt}
use Rattle.edge_io.specs.Moments.{Gives, Moments}
use Rattle.disk_model.specs.Files.{Files, Rose as DiskRose}
use Rattle.disk_model.specs.Past.{MayLeave, Past, Passes}
use Rattle.disk_model.specs.declared.disk.Disk.{Ghosts}
use Rattle.disk_model.proofs.Passing.{passes_then, passes_weaker}
use Rattle.etl_rules.specs.Config.{ConfigState}
use Rattle.partition_names.specs.declared.granularity.Granularity.{Granularity}
use Rattle.tier_store.specs.Change.{Has}
use Rattle.tier_store.specs.Seen.{seen, granularities}
use Rattle.tier_store.specs.Stores.{Stores}
use Rattle.tier_store.specs.declared.store.TierStore.{TierStore}
use Rattle.store_reopen.specs.Reopen.{IsUnopened, stores_of}
use Rattle.turn_rooms.specs.declared.room.RoomEntry.{RoomEntry}
use Rattle.turn_rooms.specs.declared.rooms.Pass.{Pass}
use Rattle.turn_rooms.specs.declared.rooms.Rooms.{Rooms}
use Rattle.turn_rooms.specs.declared.view.SeatNumbers.{SeatNumbers}
use Rattle.turn_rooms.proofs.Lists.{has_first, no_element}
use Rattle.turn_rooms.specs.Histories.{Legal, end_of, most_acts, most_numbers}
use Rattle.std.proofs.lemmas.List.{length-map}
use Rattle.turn_rooms.specs.Passes.{IsLast, IsPassOf, Opens, known, opened, stands}
use Rattle.act_model.specs.declared.acts.Act.{Act}
use Rattle.act_model.specs.declared.acts.Act.TheVariants.{Flush}
use Rattle.act_model.specs.declared.acts.Answer.{Answer}
use Rattle.act_model.specs.declared.acts.Answer.TheVariants as answer
use Rattle.act_model.specs.Growth.{Onward}
use Rattle.act_model.specs.History.{Done, Entry, Runs, done_of, mine, own}
use Rattle.act_model.specs.Laws.{AnswersAreOfActs}
use Rattle.act_model.specs.Machine.{Machine}
use Rattle.act_model.specs.Reply.{Reply, reply_of}
use Rattle.act_model.specs.Rule.{Rule}
use Rattle.act_model.specs.Sound.{IsSound}
use Rattle.act_model.proofs.Histories.{mine-append, runs_onward}
use Rattle.archive_actors.specs.Seats.{StandsFor}
use Rattle.archive_actors.specs.SeatLaws.{kept_append}
use Rattle.archive_actors.specs.Steps.{SharedStands, all_kept, kept}
use Rattle.archive_actors.specs.declared.shared.Shared.{Shared}
use Rattle.archive_core.specs.Opening.{OpensAs}
use Rattle.archive_core.proofs.Acting.{room_runs_on}
use Rattle.archive_core.specs.Parts.{parts}
use Rattle.archive_core.specs.Running.{HoldsBetween, RunsOn}
use Rattle.archive_core.specs.Stands.{Stands}
use Rattle.archive_core.specs.declared.archive.Archive.{Archive}
use Rattle.archiver_appliance.specs.declared.observed.Observed.{Observed}
use Rattle.serving.specs.End.{EndsWell}
use Rattle.serving.proofs.Works.{own_map}
use Rattle.serving.specs.Acting.{EndsInTurns, HasFlushFault}
use Rattle.service.specs.declared.service.AllServed.{AllServed}
use Rattle.archiver_appliance.specs.Acting.{IsFresh, rule_of}
use Rattle.archiver_appliance.specs.Drilling.{IsBegunWith}
use Rattle.archiver_appliance.specs.Outside.{HasNotFallen, IsCausedBy}
use Rattle.archiver_appliance.specs.Serving.{ArchiveStep, HasFailedFlush, LeavesArchive, LeavesRoom, ServesFrom, first_of, status_of}
use Rattle.command_words.specs.declared.command.StoreCommand.TheVariants as command
use Rattle.archiver_appliance.proofs.Acting.{both_hold, count_given, handed, opens_again, rose_given, tells_headers, unopened_given}
use Rattle.service.proofs.Counting.{runs_counts, runs_rose}

-- a clock that isn't read gives nothing
pub gives_nothing : (a : Option Moments) → Gives a a []
gives_nothing None = tt
gives_nothing (Some a) = (tt, λ k. ap a (omega arith))

-- WHAT IS OPENED

module _ {D R : Type 0} (disk : Ghosts D R) (store : TierStore D R) (fresh : IsFresh disk store) (doors : ℕ) (archive : Archive D R) (opens : OpensAs disk.tells (seen disk store) store.config doors (parts disk archive)) where
  pub begins_with : (held : Stores) → Has disk.tells (seen disk store) held → IsBegunWith disk store.config held doors archive
  begins_with held has =
      let config = store.config in
      let made = opens held (rule_of config) has (sym fresh.ready.granularity) (tells_headers config) refl refl in
      record {
        start = made.0;
        opened = record { told = made.5; holds = made.2; rule = made.1.of_rule; settled = made.3.settled; fresh = made.1.fresh };
        stands = made.3.stands;
        with_doors = made.4;
      }

  pub stands_with : (m : Machine) × Stands disk.tells (parts disk archive) m
  stands_with = let one = begins_with fresh.has.0 fresh.has.1 in (one.start, one.stands)

-- A FLUSH THAT FAILED

done_as : Act → Reply → Done
done_as act reply = record { act = act; answer = reply }

failed_last : (e : Entry) (back : List Entry) (limit : ℕ) → own e.who back ≡ [] → e.act ≡ Flush limit → e.answer ≡ answer.DiskFault → mine e.who (e ∷ back) ≡ done_as (Flush limit) answer.DiskFault ∷ []
unfolding done_as
failed_last e back limit none act answered =
    let same : (e.who == e.who) ≡ true = grind (arith, nat_tests) in
    let first : mine e.who (e ∷ back) ≡ done_of e ∷ mine e.who back = rw same refl in
    let rest : mine e.who back ≡ [] = ap (λ (es : List Entry). map done_of es) none in
    let made : done_of e ≡ done_as (Flush limit) answer.DiskFault = ap (λ (a : Act). done_as a e.answer) act ∙ ap (λ (r : Reply). done_as (Flush limit) r) answered in
    first ∙ (ap (λ (ds : List Done). done_of e ∷ ds) rest ∙ ap (λ (d : Done). d ∷ []) made)

-- the disk has counted it
pub flush_rose : AnswersAreOfActs → (entries : List Entry) (old new : Machine) → IsSound old → Runs old entries new → HasFailedFlush entries → DiskRose old.faults new.faults
unfolding done_as
flush_rose answers entries old new sound runs f =
    let who = f.flush.who in
    let is : mine who entries ≡ mine who f.front ++ done_as (Flush f.limit) answer.DiskFault ∷ [] =
    ap (λ (es : List Entry). mine who es) f.is ∙ (mine-append who f.front (f.flush ∷ f.back) ∙ ap (λ (ds : List Done). mine who f.front ++ ds) (failed_last f.flush f.back f.limit f.last f.act f.answered)) in
    runs_rose answers who entries old new (mine who f.front) [] (Flush f.limit) sound runs is

-- THE ROOM

-- the first pass is the last
pub first_is_last : {S A B : Type 0} (steps : S → ℕ → ℕ → A → B → S → Type 0) (rooms : Rooms S A B) (pass : Pass S A B) → Opens steps rooms (opened rooms) pass → IsLast pass
first_is_last steps rooms pass opens = record {
  first = subst (λ (n : SeatNumbers). Contains n.stands 0) (sym opens.standing) (has_first 0 []);
  given = λ q given. absurd (no_element q (subst (λ (n : SeatNumbers). Contains n.gave q) opens.standing given));
}

-- and stands for so few numbers that those for all posts, and two more, are left
pub numbers_left : {S A B : Type 0} (steps : S → ℕ → ℕ → A → B → S → Type 0) (rooms : Rooms S A B) (pass : Pass S A B) → Opens steps rooms (opened rooms) pass → (posts : ℕ) → posts < 2 ^ 32 → length (stands pass) + (posts + 2) ≤ most_numbers
numbers_left steps rooms pass opens posts few = let one : length (stands pass) ≡ 1 = ap (λ (n : SeatNumbers). length n.stands) opens.standing in omega arith

module _ {D R : Type 0} (disk : Ghosts D R) (steps : Shared (Observed D R) R → ℕ → ℕ → Act → Answer R → Shared (Observed D R) R → Type 0) (reply : Answer R → Reply) (rooms : Rooms (Shared (Observed D R) R) Act (Answer R)) (old : Pass (Shared (Observed D R) R) Act (Answer R))
    (opens : Opens steps rooms (opened rooms) old) where
  abbrev Stood : Shared (Observed D R) R → Machine → Type 0
  Stood room m = SharedStands (λ o n. Stands disk.tells (parts disk o.archive.value) n) room m

  -- a room that was just opened stands for what its archive stands for
  pub stands_first : (m : Machine) → Stands disk.tells (parts disk (opened rooms).archive.archive.value) m → StandsFor steps Stood rooms old m
  stands_first m s = record { is_pass = opens.rooms; begun = (m, s); now = subst (λ (h : List (RoomEntry (Shared (Observed D R) R) Act (Answer R))). Stood (end_of (opened rooms) h) m) (sym opens.knows) s }

  module _ (new : Pass (Shared (Observed D R) R) Act (Answer R)) where
    -- all that is known in the end was learnt
    all_learnt : (more : List (RoomEntry (Shared (Observed D R) R) Act (Answer R))) → known new ≡ known old ++ more → known new ≡ more
    all_learnt more is = is ∙ ap (λ (h : List (RoomEntry (Shared (Observed D R) R) Act (Answer R))). h ++ more) opens.knows

    failed_flush : HasFlushFault reply old new → HasFailedFlush (all_kept reply (known new))
    failed_flush f = record {
      front = all_kept reply f.front;
      flush = kept reply f.flush.who f.flush.act f.flush.answer;
      back = all_kept reply f.back;
      is = ap (λ (h : List (RoomEntry (Shared (Observed D R) R) Act (Answer R))). all_kept reply h) (all_learnt f.more f.goes_on ∙ f.is) ∙ kept_append reply f.front (f.flush ∷ f.back);
      last = own_map (λ (e : RoomEntry (Shared (Observed D R) R) Act (Answer R)). kept reply e.who e.act e.answer) (λ (e : RoomEntry (Shared (Observed D R) R) Act (Answer R)). e.who) (λ e. refl) f.flush.who f.back
          ∙ ap (λ (h : List (RoomEntry (Shared (Observed D R) R) Act (Answer R))). all_kept reply h) f.last;
      limit = f.limit;
      act = f.act;
      answered = f.answer;
    }

    pub leaves_room : (doors : ℕ) (Given : Machine → List Entry → Type 0) (began : Bool) (told : AllServed) (left : Archive D R) → IsPassOf steps rooms new → left ≡ (end_of (opened rooms) (known new)).archive.archive.value → (began ≡ false → known new ≡ known old)
        → (began ≡ true → (m : Machine) → Stands disk.tells (parts disk (opened rooms).archive.archive.value) m → Given m (all_kept reply (known new))) → (told.spent ≡ true → most_acts ≤ length (known new)) → (told.disk_fault ≡ true → HasFlushFault reply old new)
        → ((m : Machine) → StandsFor steps Stood rooms old m → m.doors ≡ doors → told.spent ≡ false → told.memory ≡ false → told.disk_fault ≡ false → (mover : ℕ) × EndsInTurns steps Stood reply rooms old new m mover)
        → LeavesRoom disk steps reply (opened rooms) doors Given began told left
    leaves_room doors Given began told left is_pass is none given spent failed ends = record {
      acts = known new;
      legal = is_pass.belongs.legal;
      is_left = is;
      none = λ is. none is ∙ opens.knows;
      given = given;
      spent = spent;
      failed = λ fault. failed_flush (failed fault);
      ends = λ m s as_many spent memory fault.
          let one = ends m (stands_first m s) as_many spent memory fault in
          let e = one.1 in
          let same = sym (all_learnt e.more e.goes_on) in (
            one.0,
            e.after,
            subst (λ (h : List (RoomEntry (Shared (Observed D R) R) Act (Answer R))). Runs m (all_kept reply h) e.after) same e.runs,
            subst (λ (a : Archive D R). Stands disk.tells (parts disk a) e.after) (sym is) e.stands_for.now,
            subst (λ (h : List (RoomEntry (Shared (Observed D R) R) Act (Answer R))). EndsWell m (all_kept reply h) e.after one.0) same e.ends,
          );
    }

-- AN ARCHIVE THAT IS SHARED

-- whatever order the turns take, the acts run in the machine, and lose no more than it does
pub turns_run_on : {D R : Type 0} (disk : Ghosts D R) (reads : Bool) (bytes : R → List ℕ) (faults : R → ℕ) (acts : List (RoomEntry (Shared (Observed D R) R) Act (Answer R))) (room : Shared (Observed D R) R) (m : Machine)
    → Stands disk.tells (parts disk room.archive.archive.value) m → Legal (ArchiveStep disk reads bytes faults) room acts
    → RunsOn disk.tells (parts disk room.archive.archive.value) m (all_kept (reply_of reads bytes faults) acts) (parts disk (end_of room acts).archive.archive.value)
turns_run_on {D} {R} disk reads bytes faults acts room m stands legal = room_runs_on disk.tells (λ (o : Observed D R). parts disk o.archive.value) reads bytes faults acts room m stands legal

pub leaves_archive : {D R : Type 0} (disk : Ghosts D R) (steps : Shared (Observed D R) R → ℕ → ℕ → Act → Answer R → Shared (Observed D R) R → Type 0) (reply : Answer R → Reply) (room : Shared (Observed D R) R) (old : Archive D R) (doors : ℕ) (Given : Machine → List Entry → Type 0) (began : Bool) (told : AllServed) (left : Archive D R) → room.archive.archive.value ≡ old
    → ((acts : List (RoomEntry (Shared (Observed D R) R) Act (Answer R))) (m : Machine) → Stands disk.tells (parts disk room.archive.archive.value) m → Legal steps room acts → RunsOn disk.tells (parts disk room.archive.archive.value) m (all_kept reply acts) (parts disk (end_of room acts).archive.archive.value))
    → LeavesRoom disk steps reply room doors Given began told left → LeavesArchive disk old doors Given began told left
leaves_archive {D} {R} disk steps reply room old doors Given began told left is law leaves = subst (λ (a : Archive D R). LeavesArchive disk a doors Given began told left) is (record {
  entries = all_kept reply leaves.acts;
  run = λ m stands. subst (λ (a : Archive D R). RunsOn disk.tells (parts disk room.archive.archive.value) m (all_kept reply leaves.acts) (parts disk a)) (sym leaves.is_left) (law leaves.acts m stands leaves.legal);
  none = λ is. ap (λ (h : List (RoomEntry (Shared (Observed D R) R) Act (Answer R))). all_kept reply h) (leaves.none is);
  given = leaves.given;
  spent = λ so. subst (λ (n : ℕ). most_acts ≤ n) (sym (length-map leaves.acts (λ (e : RoomEntry (Shared (Observed D R) R) Act (Answer R)). kept reply e.who e.act e.answer))) (leaves.spent so);
  failed = leaves.failed;
  ends = leaves.ends;
})

-- THE STATUS

first_caused : {R : Type 0} (faults : R → ℕ) (rose : Type 0) (door fault memory spent : Bool) → (fault ≡ true → rose) → IsCausedBy faults ⊥ ⊥ rose (first_of door fault memory spent) None
first_caused faults rose true fault memory spent cause = tt
first_caused faults rose false true memory spent cause = cause refl
first_caused faults rose false false true spent cause = tt
first_caused faults rose false false false true cause = tt
first_caused faults rose false false false false cause = tt

pub status_caused : {R : Type 0} (faults : R → ℕ) (rose : Type 0) (told : AllServed) → (told.disk_fault ≡ true → rose) → IsCausedBy faults ⊥ ⊥ rose (status_of told) None
status_caused {R} faults rose told cause = first_caused faults rose (nat_lt 0 told.door_faults) told.disk_fault told.memory told.spent cause

-- ALL THAT WAS DONE

module _ {D R : Type 0} (disk : Ghosts D R) (old left : Archive D R) (entries : List Entry) (m : Machine) (stands : Stands disk.tells (parts disk old) m) (run : RunsOn disk.tells (parts disk old) m entries (parts disk left)) where
  pub run_counts : HasNotFallen (disk.faults old.half.store.disk) (disk.faults left.half.store.disk)
  run_counts =
      let one : HasNotFallen m.faults run.after.faults = runs_counts entries m run.after stands.sound run.runs in
      subst (λ (n : ℕ). HasNotFallen n (disk.faults left.half.store.disk)) stands.faults (subst (λ (n : ℕ). HasNotFallen m.faults n) run.stands.faults one)

  pub run_rose : AnswersAreOfActs → HasFailedFlush entries → DiskRose (disk.faults old.half.store.disk) (disk.faults left.half.store.disk)
  run_rose answers f =
      let one : DiskRose m.faults run.after.faults = flush_rose answers entries m run.after stands.sound run.runs f in
      subst (λ (n : ℕ). DiskRose n (disk.faults left.half.store.disk)) stands.faults (subst (λ (n : ℕ). DiskRose m.faults n) run.stands.faults one)

pub serves_from : {D R : Type 0} (disk : Ghosts D R) (config : ConfigState) (held : Stores) (doors : ℕ) (old left : Archive D R) (entries : List Entry) (Given : Machine → List Entry → Type 0) (began : Bool) (told : AllServed) → (begun : IsBegunWith disk config held doors old) → RunsOn disk.tells (parts disk old) begun.start entries (parts disk left)
    → (began ≡ false → entries ≡ []) → (began ≡ true → Given begun.start entries) → (told.spent ≡ true → most_acts ≤ length entries) → (told.disk_fault ≡ true → HasFailedFlush entries)
    → ((m : Machine) → Stands disk.tells (parts disk old) m → m.doors ≡ doors → told.spent ≡ false → told.memory ≡ false → told.disk_fault ≡ false → (mover : ℕ) × (after : Machine) × Runs m entries after × Stands disk.tells (parts disk left) after × EndsWell m entries after mover)
    → ServesFrom (λ image. ⊥) disk.tells config held doors Given began told (disk.past old.half.store.disk) (disk.past left.half.store.disk)
serves_from {D} {R} disk config held doors old left entries Given began told begun run none given spent failed ends = record {
  start = begun.start;
  opened = begun.opened;
  with_doors = begun.with_doors;
  entries = entries;
  end = run.after;
  runs = run.runs;
  leaves = λ t. opens_again disk left run.after run.stands config (rule_is run.after run.runs) t;
  any_moment = λ t stood. passes_weaker (λ a image. HoldsBetween (granularities (seen disk old.half.store).manifests) begun.start entries run.after image) (λ a image. ⊥ ⊎ HoldsBetween (stores_of config) begun.start entries run.after image) (disk.past old.half.store.disk) (disk.past left.half.store.disk)
      (run.any_moment t (begun.opened.told ∙ both_hold disk.tells held.stands t stood)) (λ a image l h. inr (subst (λ (gs : List Granularity). HoldsBetween gs begun.start entries run.after image) gs_is h));
  none = none;
  given = given;
  spent = spent;
  failed = failed;
  ends = λ acts memory fault.
      let e = ends begun.start begun.stands begun.with_doors acts memory fault in
      record { end = e.1; mover = e.0; runs = e.2; well = e.4; leaves = λ t. opens_again disk left e.1 e.3 config (rule_is e.1 e.2) t };
}
  where
    rule_is : (end : Machine) → Runs begun.start entries end → end.rule.granularity ≡ stores_of config
    rule_is end runs = let on : Onward begun.start end = runs_onward entries begun.start end begun.stands.sound runs in ap (λ (r : Rule). r.granularity) (on.rule ∙ begun.opened.rule)

    gs_is : granularities (seen disk old.half.store).manifests ≡ stores_of config
    gs_is = sym begun.stands.rule.granularity ∙ ap (λ (r : Rule). r.granularity) begun.opened.rule

-- an opening before them
pub serves_behind : (Before : Files → Type 0) (tells : Bool) (config : ConfigState) (held : Stores) (doors : ℕ) (Given : Machine → List Entry → Type 0) (began : Bool) (told : AllServed) (old mid new : Past) → Passes (λ a image. Before image) old mid → ServesFrom (λ image. ⊥) tells config held doors Given began told mid new
    → ServesFrom Before tells config held doors Given began told old new
serves_behind Before tells config held doors Given began told old mid new opening from = record {
  start = from.start;
  opened = from.opened;
  with_doors = from.with_doors;
  entries = from.entries;
  end = from.end;
  runs = from.runs;
  leaves = from.leaves;
  any_moment = λ t stood.
      let All : Files → Files → Type 0 = λ a image. Before image ⊎ HoldsBetween (stores_of config) from.start from.entries from.end image in
      passes_then All (λ a image. ⊥ ⊎ HoldsBetween (stores_of config) from.start from.entries from.end image) old mid new (passes_weaker (λ a image. Before image) All old mid opening (λ a image left h. inl h)) (from.any_moment t stood)
      (λ a b c left h now is. by_either c is);
  none = from.none;
  given = from.given;
  spent = from.spent;
  failed = from.failed;
  ends = from.ends;
}
  where
    by_either : (c : Files) → ⊥ ⊎ HoldsBetween (stores_of config) from.start from.entries from.end c → Before c ⊎ HoldsBetween (stores_of config) from.start from.entries from.end c
    by_either c (inl none) = absurd none
    by_either c (inr h) = inr h

-- THE DISK THAT IS HANDED BACK

module _ {D R : Type 0} (disk : Ghosts D R) (store : TierStore D R) (fresh : IsFresh disk store) (doors : ℕ) (old left : Archive D R) (same : old.half.store ≡ store) (opens : OpensAs disk.tells (seen disk store) store.config doors (parts disk old))
    (after : TierStore D R) (given : D) (back : after ≡ left.half.store) (is : given ≡ after.disk) (Given : Machine → List Entry → Type 0) (began : Bool) (told : AllServed) (leaves : LeavesArchive disk old doors Given began told left) where
  pub served_from : (held : Stores) → Has disk.tells (seen disk store) held → ServesFrom (λ image. ⊥) disk.tells store.config held doors Given began told (disk.past store.disk) (disk.past given)
  served_from held has =
      let begun = begins_with disk store fresh doors old opens held has in
      let from = serves_from disk store.config held doors old left leaves.entries Given began told begun (leaves.run begun.start begun.stands) leaves.none (λ yes. leaves.given yes begun.start begun.stands) leaves.spent leaves.failed leaves.ends in
      subst (λ (s : TierStore D R). ServesFrom (λ image. ⊥) disk.tells store.config held doors Given began told (disk.past s.disk) (disk.past given)) same
      (subst (λ (d : D). ServesFrom (λ image. ⊥) disk.tells store.config held doors Given began told (disk.past old.half.store.disk) (disk.past d)) (handed disk left after given back is) from)

  first : (m : Machine) × Stands disk.tells (parts disk old) m
  first = stands_with disk store fresh doors old opens

  all_run : RunsOn disk.tells (parts disk old) first.0 leaves.entries (parts disk left)
  all_run = leaves.run first.0 first.1

  pub served_counts : HasNotFallen (disk.faults store.disk) (disk.faults given)
  served_counts = count_given disk left after given back is store old same (run_counts disk old left leaves.entries first.0 first.1 all_run)

  pub served_caused : {F : Type 0} (faults : F → ℕ) → AnswersAreOfActs → IsCausedBy faults ⊥ ⊥ (DiskRose (disk.faults store.disk) (disk.faults given)) (status_of told) None
  served_caused {F} faults answers =
      status_caused faults (DiskRose (disk.faults store.disk) (disk.faults given)) told
      (λ fault. rose_given disk left after given back is store old same (run_rose disk old left leaves.entries first.0 first.1 all_run answers (leaves.failed fault)))

  pub served_unopened : (IsTrue disk.tells → MayLeave (disk.past left.half.store.disk) (disk.files left.half.store.disk)) → IsTrue disk.tells → IsUnopened (disk.files given) (disk.opened given)
  served_unopened may so = unopened_given disk left after given back is all_run.after all_run.stands may so
