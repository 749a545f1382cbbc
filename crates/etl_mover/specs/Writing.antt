-- What a call writes to one file ahead of what is listed.
use Rattle.std.specs.Prelude.{◌≡◌, ◌≢◌, ◌≤◌, ℕ, List, ◌++◌, length, take, Option, None, Some}
use Rattle.disk_model.specs.Files.{Name, Files, HasFile, At}
use Rattle.disk_model.specs.Past.{Passes, Only}
use Rattle.gate_journal.specs.DiskShown.{DiskShown}
use Rattle.store_files.specs.Fronts.{Keeps}
use Rattle.durable_write.specs.Flush.{start_of}

-- it has the bytes behind the first ones of a file that goes on, or alone where the file is made anew, and has synced them
pub record WritesFile (name : Name) (at : Option ℕ) (bytes : List ℕ) (files : Files) (new : DiskShown) : Type 0 where
  pub grown : (len : ℕ) (b : List ℕ) → at ≡ Some len → files name ≡ Some b → new.files name ≡ Some (take len b ++ bytes)
  pub made : at ≡ None → new.files name ≡ Some bytes
  pub closed : at ≡ None → new.opened name ≤ 0
  pub durable : Only new.past name (new.files name)

-- whatever it answers, a crash at any moment and reads give each front up to the place where the bytes go, and every other name as it was
pub record LeavesFile (name : Name) (at : Option ℕ) (old new : DiskShown) : Type 0 where
  pub any_moment : Passes (At name (Keeps (start_of at))) old.past new.past
  pub front : Keeps (start_of at) (old.files name) (new.files name)
  pub long : (len : ℕ) → at ≡ Some len → HasFile new.files name (λ b. len ≤ length b)
  pub elsewhere : (n : Name) → n ≢ name → new.files n ≡ old.files n
  pub fewer : (n : Name) → new.opened n ≤ old.opened n
