-- Strays of an archive: files of stores 1 to 3 that no list, no limbo and no running move knows. No act makes one that goes well.
use Rattle.std.specs.Prelude.{◌≡◌, ℕ, Bool, List, [], Option, Some, Contains, IsTrue}
use Rattle.disk_model.specs.Files.{Name}
use Rattle.etl_mover.specs.Move.{Moving}
use Rattle.etl_mover.specs.declared.moving.Stage.TheVariants.{Copying}
use Rattle.moves.specs.Table.{at as move_at}
use Rattle.moves.specs.declared.table.Running.{Running}
use Rattle.tier_store.specs.Seen.{IsSettled}
use Rattle.tier_store.specs.Strays.{IsStray, targets}
use Rattle.act_model.specs.Reply.{Reply}
use Rattle.act_model.specs.declared.acts.Answer.TheVariants.{Damaged, DiskFault, Memory}
use Rattle.archive_core.specs.Leaving.{files_of}
use Rattle.archive_core.specs.Parts.{Parts}

-- a running move has written the file, and is to list it
pub record IsTarget (slots : List (Option (Running Moving))) (n : Name) : Type 0 where
  pub number : ℕ
  pub running : Running Moving
  pub runs : move_at slots number ≡ Some running
  pub stage : running.moving.stage ≡ Copying
  pub target : Contains (targets running.moving) n

-- no store lists the file, it isn't in limbo, and no running move has written it
pub record IsStrayIn (p : Parts) (n : Name) : Type 0 where
  pub stray : IsStray (files_of p) [] n
  pub unwritten : IsTarget p.slots n → ⊥

-- Nothing stands in doubt then, and whatever is a stray was one before.
pub record Tidies (tells : Bool) (p q : Parts) : Type 0 where
  pub settled : IsSettled q.at
  pub strays : IsTrue tells → (n : Name) → IsStrayIn q n → IsStrayIn p n

-- no fault was answered, no damage, and no want of memory
abbrev pub IsWell : Reply → Type 0
IsWell DiskFault = ⊥
IsWell (Damaged name place) = ⊥
IsWell Memory = ⊥
IsWell _ = Unit {0}

-- what an act leaves of strays, where nothing stood in doubt
abbrev pub ActsTidily : Bool → Parts → Reply → Parts → Type 0
ActsTidily tells p answer q = IsSettled p.at → IsWell answer → Tidies tells p q
