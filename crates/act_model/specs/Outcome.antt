-- How an act ends. One that touches no file has one end, or wants memory (`Ends`). One that does touch files settles a doubt first, and
-- is then refused, done, failed or short of memory (`Acts`): a failure leaves the doubt that was there, none, the act's own change in
-- doubt, or all of it done but for files that were to be removed, and never takes back what was accepted.
use Rattle.std.specs.FinMap.{FinMap}
use Rattle.std.specs.Ordering.{nat_cmp}
use Rattle.std.specs.Prelude.{◌≡◌, ◌≤◌, ◌⊎◌, Option, Some, None, [], Bool, true, false}
use Rattle.disk_model.specs.Files.{Rose}
use Rattle.act_model.specs.Changes.{Settles, made}
use Rattle.act_model.specs.Machine.{Machine, MoveState, Change}
use Rattle.act_model.specs.Reply.{Reply}
use Rattle.act_model.specs.declared.acts.Answer.TheVariants.{Retired, Swept, DiskFault, Memory}

-- an answer, and the state after it
pub record Outcome : Type 0 where
  pub answer : Reply
  pub after : Machine

-- all but the disk's count stays
abbrev pub Same : Machine → Machine → Type 0
Same old new = new ≡ record old { faults = new.faults }

-- an act that touches no file: this end, or want of memory
abbrev pub Ends : Outcome → Machine → Reply → Machine → Type 0
Ends end old answer new = ((answer ≡ end.answer) × (new ≡ end.after)) ⊎ ((answer ≡ Memory) × (new ≡ old))

-- a fault ends the move that the act goes on with, if it does
abbrev pub stops : (FinMap nat_cmp MoveState → FinMap nat_cmp MoveState) → Machine → Machine
stops stopped m = record m { moves = stopped m.moves }

-- the act goes on with no move
abbrev pub all_go : FinMap nat_cmp MoveState → FinMap nat_cmp MoveState
all_go moves = moves

-- the answers of acts that remove files when all else is done
abbrev pub removes_files : Reply → Bool
removes_files (Retired parts) = true
removes_files (Swept files) = true
removes_files other = false

-- An act that settles a doubt first. `refuse` has the refusals that stand before DiskFault, `run` what follows them, `change` the one
-- durable change that the act may make there, and `stopped` what a fault does to the moves.
pub data Acts (refuse : Machine → Option Reply) (run : Machine → Reply → Machine → Type 0) (change : Machine → Option Change) (stopped : FinMap nat_cmp MoveState → FinMap nat_cmp MoveState) : Machine → Reply → Machine → Type 0 where
  -- refused before a doubt is settled
  refused_at_once : {old : Machine} (answer : Reply) → refuse old ≡ Some answer → Acts refuse run change stopped old answer old
  -- refused once it is
  refused : {old mid new : Machine} (answer : Reply) → refuse old ≡ None → Settles old mid → refuse mid ≡ Some answer → Same mid new
      → old.faults ≤ new.faults → Acts refuse run change stopped old answer new
  -- done
  runs : {old mid new : Machine} (answer : Reply) → refuse old ≡ None → Settles old mid → refuse mid ≡ None → run mid answer new
      → old.faults ≤ new.faults → Acts refuse run change stopped old answer new
  -- the doubt stays
  faults_first : {old new : Machine} → refuse old ≡ None → Same (stops stopped old) new → Rose old.faults new.faults
      → Acts refuse run change stopped old DiskFault new
  -- the doubt was settled, and nothing was changed
  faults_between : {old mid new : Machine} → refuse old ≡ None → Settles old mid → Same (stops stopped mid) new → Rose old.faults new.faults
      → Acts refuse run change stopped old DiskFault new
  -- the act's change is in doubt
  faults_within : {old mid new : Machine} (doubted : Change) → refuse old ≡ None → Settles old mid → refuse mid ≡ None
      → change mid ≡ Some doubted → Same (record (stops stopped mid) { doubt = Some doubted }) new → Rose old.faults new.faults
      → Acts refuse run change stopped old DiskFault new
  -- all is done as for this answer, but a file of it couldn't be removed
  faults_removing : {old mid new : Machine} (answer : Reply) → removes_files answer ≡ true → refuse old ≡ None → Settles old mid → refuse mid ≡ None
      → run mid answer new → Rose old.faults new.faults → Acts refuse run change stopped old DiskFault new
  -- no memory, before a doubt was settled or after it
  wants_memory : {old new : Machine} → Same old new → old.faults ≤ new.faults → Acts refuse run change stopped old Memory new
  wants_memory_settled : {old mid new : Machine} → refuse old ≡ None → Settles old mid → Same mid new → old.faults ≤ new.faults
      → Acts refuse run change stopped old Memory new

-- the change is made, and nothing else
abbrev pub Makes : Change → Machine → Machine → Type 0
Makes change mid new = Same (made [] change mid) new
