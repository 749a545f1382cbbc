-- What `serve` makes of what a disk holds, and of the posts that it is handed.
use Rattle.std.specs.Prelude.{◌≡◌, ◌⊎◌, ◌≤◌, ℕ, nat_lt, List, [], ◌∷◌, ◌++◌, Bool, true, false, IsTrue, Option, Some, Result, option_map, All, length, map, slice_get}
use Rattle.disk_model.specs.Files.{Files}
use Rattle.disk_model.specs.Past.{Past, Passes}
use Rattle.edge_io.specs.Doors.{Ledger}
use Rattle.edge_io.specs.Stream.{Rose}
use Rattle.etl_rules.specs.Config.{ConfigState}
use Rattle.tier_store.specs.Stores.{Stores}
use Rattle.store_reopen.specs.Reopen.{stores_of}
use Rattle.disk_model.specs.declared.disk.Disk.{Ghosts}
use Rattle.turn_rooms.specs.declared.room.RoomEntry.{RoomEntry}
use Rattle.turn_rooms.specs.Histories.{Legal, end_of, most_acts}
use Rattle.act_model.specs.declared.acts.Act.{Act}
use Rattle.act_model.specs.declared.acts.Act.TheVariants.{Flush}
use Rattle.act_model.specs.declared.actor.Spent.{Spent as NoAct}
use Rattle.act_model.specs.declared.acts.Answer.{Answer}
use Rattle.act_model.specs.declared.acts.Answer.TheVariants as answer
use Rattle.act_model.specs.History.{Entry, Runs, own}
use Rattle.act_model.specs.Machine.{Machine}
use Rattle.act_model.specs.Reply.{Reply}
use Rattle.archive_actors.specs.Steps.{SharedStep, all_kept}
use Rattle.archive_actors.specs.declared.shared.Shared.{Shared}
use Rattle.archive_core.specs.Leaving.{Leaves}
use Rattle.archive_core.specs.Parts.{parts}
use Rattle.archive_core.specs.Running.{HoldsBetween, RunsOn}
use Rattle.archive_core.specs.Stands.{Stands}
use Rattle.archive_core.specs.declared.archive.Archive.{Archive}
use Rattle.archiver_appliance.specs.declared.observed.Observed.{Observed}
use Rattle.serving.specs.End.{EndsWell}
use Rattle.serving.specs.declared.ends.FlushEnd.{FlushEnd}
use Rattle.serving.specs.declared.ends.MoverEnd.{MoverEnd}
use Rattle.service.specs.declared.door.DoorServed.{DoorServed}
use Rattle.service.specs.declared.door.DoorServed.TheVariants as door
use Rattle.service.specs.declared.posts.Post.{Post}
use Rattle.service.specs.declared.served.Kind.{Kind}
use Rattle.service.specs.declared.service.AllServed.{AllServed}
use Rattle.service.specs.Doors.{IsAtEnd, with_back}
use Rattle.service.specs.Service.{at_door, at_flushes, at_moves, told_of, told_want}
use Rattle.command_words.specs.declared.status.Status.{Status}
use Rattle.command_words.specs.declared.status.Status.TheVariants.{Done, DiskFault, Damaged, OutOfMemory, GranularityDiffers, DoorFault, Spent}
use Rattle.archiver_appliance.specs.Acting.{IsOpenedOn, OpensAgain}

-- THE STATUS

-- the first of these that befell: a door failed, the disk failed in the last flush, memory was wanting, or no act was left
abbrev pub first_of : Bool → Bool → Bool → Bool → Status
first_of true fault memory spent = DoorFault
first_of false true memory spent = DiskFault
first_of false false true spent = OutOfMemory
first_of false false false true = Spent
first_of false false false false = Done

-- the status of what a service came to
abbrev pub status_of : AllServed → Status
status_of told = first_of (nat_lt 0 told.door_faults) told.disk_fault told.memory told.spent

-- THE POSTS

-- such are the things at the same place of three lists of one length
abbrev pub EachOf : {X Y Z : Type 0} → (X → Y → Z → Type 0) → List X → List Y → List Z → Type 0
EachOf Is [] [] [] = Unit {0}
EachOf Is (x ∷ xs) (y ∷ ys) (z ∷ zs) = Is x y z × EachOf Is xs ys zs
EachOf Is xs ys zs = ⊥

-- the count of faults of a post's door rose
pub record HasFailed {D : Type 0} (faults : D → ℕ) (olds news : List (Post D)) : Type 0 where
  pub place : ℕ
  pub old : Post D
  pub new : Post D
  pub was : slice_get olds place ≡ Some old
  pub now : slice_get news place ≡ Some new
  pub rose : Rose (faults old.door) (faults new.door)

-- Memory was wanting for those who were to serve, and the posts are as they were.
pub record NobodyServed {D : Type 0} (told : AllServed) (olds news : List (Post D)) : Type 0 where
  pub same : news ≡ olds
  pub want : told ≡ told_want false true

-- a run ends so where no archive could be opened or made
abbrev pub IsUnserved : Status → Type 0
IsUnserved DiskFault = Unit {0}
IsUnserved (Damaged name at) = Unit {0}
IsUnserved OutOfMemory = Unit {0}
IsUnserved (GranularityDiffers kept asked) = Unit {0}
IsUnserved _ = ⊥

module _ {D L : Type 0} (is_closed : D → Bool) (faults : D → ℕ) (ledger : D → Option (Ledger L)) (Is : Kind → L → Type 0) where
  -- Just the links that a door gave came back, in order, where it tells them. Where memory was wanting for none, each is as those of its kind
  -- are once they were served.
  pub record GaveBack (lacked : Bool) (kind : Kind) (old new : D) : Type 0 where
    pub links : List L
    pub returned : ledger new ≡ option_map (with_back links) (ledger old)
    pub are : lacked ≡ false → All (Is kind) links
    pub faults_rise : faults old ≤ faults new

  -- A door was served to its end, at which it failed or gives no link any more, or until no act was left.
  abbrev pub DoorLeft : Kind → D → DoorServed → D → Type 0
  DoorLeft kind old (door.Done lacked failed) new = GaveBack lacked kind old new × IsAtEnd is_closed faults old failed new
  DoorLeft kind old door.Spent new = GaveBack true kind old new

  -- a post's door was served, and the post is of its kind still
  pub record PostServed (served : DoorServed) (old new : Post D) : Type 0 where
    pub kind : new.kind ≡ old.kind
    pub door : DoorLeft old.kind old.door served new.door

  -- Each post's door was served beside one who flushed and one who moved, and what is told is how each of them ended.
  pub record PostsServed (told : AllServed) (olds news : List (Post D)) : Type 0 where
    pub served : List DoorServed
    pub each : EachOf PostServed served olds news
    pub flushed : Result FlushEnd NoAct
    pub moved : Result MoverEnd NoAct
    pub told_is : told ≡ told_of (map at_door served ++ at_flushes flushed ∷ at_moves moved ∷ [])

  -- the posts were served, or those who were to serve them never began
  abbrev pub PostsLeft : Bool → AllServed → List (Post D) → List (Post D) → Type 0
  PostsLeft true told olds news = PostsServed told olds news
  PostsLeft false told olds news = NobodyServed told olds news

  -- They were left so on an archive, of which `Made` holds, and the status is the first that befell the service. Or no archive could be opened
  -- or made of what the disk held, where `Unopened` holds, and they are as they were.
  pub data CameOfPosts (Unopened : Type 0) (Made : Bool → AllServed → Type 0) (status : Status) (olds news : List (Post D)) : Type 0 where
    on_archive : (began : Bool) (told : AllServed) → status ≡ status_of told → PostsLeft began told olds news → Made began told → CameOfPosts Unopened Made status olds news
    are_not : IsUnserved status → news ≡ olds → Unopened → CameOfPosts Unopened Made status olds news

  -- So it is. At the end that is good no door gives a link any more, and one is told to have failed only where one did.
  pub record ServesPosts (Unopened : Type 0) (Made : Bool → AllServed → Type 0) (status : Status) (olds news : List (Post D)) : Type 0 where
    pub came : CameOfPosts Unopened Made status olds news
    pub closed : status ≡ Done → All (λ (p : Post D). is_closed p.door ≡ true) news
    pub failed : status ≡ DoorFault → HasFailed faults olds news

-- THE ARCHIVE

-- the disk failed in a flush, and whoever made it made no act after it
pub record HasFailedFlush (entries : List Entry) : Type 0 where
  pub front : List Entry
  pub flush : Entry
  pub back : List Entry
  pub is : entries ≡ front ++ flush ∷ back
  pub last : own flush.who back ≡ []
  pub limit : ℕ
  pub act : flush.act ≡ Flush limit
  pub answered : flush.answer ≡ answer.DiskFault

-- a step of an archive that many share
abbrev pub ArchiveStep : {D R : Type 0} → Ghosts D R → Bool → (R → List ℕ) → (R → ℕ) → Shared (Observed D R) R → ℕ → ℕ → Act → Answer R → Shared (Observed D R) R → Type 0
ArchiveStep {D} {R} disk told bytes faults = SharedStep (λ o n. Stands disk.tells (parts disk o.archive.value) n) (λ o e p. Leaves disk.tells (parts disk o.archive.value) e (parts disk p.archive.value)) told bytes faults

-- All acts that were made in a room in which an archive is shared, and the archive as they left it: none where nobody began. `Given` says
-- what was given by them to those who came, from whatever the archive stood for. Where nothing was wanting and the last flush didn't fail,
-- they came to their end from whatever the archive stood for with as many doors.
pub record LeavesRoom {D R : Type 0} (disk : Ghosts D R) (steps : Shared (Observed D R) R → ℕ → ℕ → Act → Answer R → Shared (Observed D R) R → Type 0) (reply : Answer R → Reply) (room : Shared (Observed D R) R) (doors : ℕ) (Given : Machine → List Entry → Type 0) (began : Bool) (told : AllServed) (left : Archive D R) : Type 0 where
  pub acts : List (RoomEntry (Shared (Observed D R) R) Act (Answer R))
  pub legal : Legal steps room acts
  pub is_left : left ≡ (end_of room acts).archive.archive.value
  pub none : began ≡ false → acts ≡ []
  pub given : began ≡ true → (m : Machine) → Stands disk.tells (parts disk room.archive.archive.value) m → Given m (all_kept reply acts)
  pub spent : told.spent ≡ true → most_acts ≤ length acts
  pub failed : told.disk_fault ≡ true → HasFailedFlush (all_kept reply acts)
  pub ends : (m : Machine) → Stands disk.tells (parts disk room.archive.archive.value) m → m.doors ≡ doors → told.spent ≡ false → told.memory ≡ false → told.disk_fault ≡ false
      → (mover : ℕ) × (after : Machine) × Runs m (all_kept reply acts) after × Stands disk.tells (parts disk left) after × EndsWell m (all_kept reply acts) after mover

-- So it is of an archive that was shared: all that was done on it is one run from each state that it stood for.
pub record LeavesArchive {D R : Type 0} (disk : Ghosts D R) (old : Archive D R) (doors : ℕ) (Given : Machine → List Entry → Type 0) (began : Bool) (told : AllServed) (left : Archive D R) : Type 0 where
  pub entries : List Entry
  pub run : (m : Machine) → Stands disk.tells (parts disk old) m → RunsOn disk.tells (parts disk old) m entries (parts disk left)
  pub none : began ≡ false → entries ≡ []
  pub given : began ≡ true → (m : Machine) → Stands disk.tells (parts disk old) m → Given m entries
  pub spent : told.spent ≡ true → most_acts ≤ length entries
  pub failed : told.disk_fault ≡ true → HasFailedFlush entries
  pub ends : (m : Machine) → Stands disk.tells (parts disk old) m → m.doors ≡ doors → told.spent ≡ false → told.memory ≡ false → told.disk_fault ≡ false
      → (mover : ℕ) × (after : Machine) × Runs m entries after × Stands disk.tells (parts disk left) after × EndsWell m entries after mover

-- What all did came to its end: no doors are left and all that is accepted is durable; each row was ticked, and each store was left with
-- nothing to move or told a fault, when no doors were left. What a crash leaves then holds all of it.
pub record IsServedWell (tells : Bool) (config : ConfigState) (start : Machine) (entries : List Entry) (past : Past) : Type 0 where
  pub end : Machine
  pub mover : ℕ
  pub runs : Runs start entries end
  pub well : EndsWell start entries end mover
  pub leaves : IsTrue tells → OpensAgain config end past

-- The archive was opened on what is held, with so many doors; all that anybody did on it were steps, in one order, and none where nobody
-- began; and the disk was given back. `Given` says what was given by these acts to those who came, and it is told of them what befell. At each moment a crash left what `Before` says, as of an opening;
-- or what one within one of the acts leaves, which stands: of each variable it extends what was durable at first, and is extended by what is
-- accepted in the end.
pub record ServesFrom (Before : Files → Type 0) (tells : Bool) (config : ConfigState) (held : Stores) (doors : ℕ) (Given : Machine → List Entry → Type 0) (began : Bool) (told : AllServed) (old new : Past) : Type 0 where
  pub start : Machine
  pub opened : IsOpenedOn tells config held start
  pub with_doors : start.doors ≡ doors
  pub entries : List Entry
  pub end : Machine
  pub runs : Runs start entries end
  pub leaves : IsTrue tells → OpensAgain config end new
  pub any_moment : IsTrue tells → IsTrue held.stands → Passes (λ a image. Before image ⊎ HoldsBetween (stores_of config) start entries end image) old new
  pub none : began ≡ false → entries ≡ []
  pub given : began ≡ true → Given start entries
  pub spent : told.spent ≡ true → most_acts ≤ length entries
  pub failed : told.disk_fault ≡ true → HasFailedFlush entries
  pub ends : told.spent ≡ false → told.memory ≡ false → told.disk_fault ≡ false → IsServedWell tells config start entries new
