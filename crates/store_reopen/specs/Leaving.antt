-- What calls leave of a disk that tells its files.
use Rattle.std.specs.Prelude.{◌≤◌}
use Rattle.disk_model.specs.Files.{Name, Files}
use Rattle.disk_model.specs.Past.{Passes}
use Rattle.disk_model.specs.declared.disk.Disk.{Ghosts}

-- Files went from what they were by this relation, as reads give them and as a crash at any moment leaves them. No name was opened further.
pub record Leaves {D R : Type 0} (disk : Ghosts D R) (Step : Files → Files → Type 0) (old new : D) : Type 0 where
  pub any_moment : Passes Step (disk.past old) (disk.past new)
  pub now : Step (disk.files old) (disk.files new)
  pub fewer : (n : Name) → disk.opened new n ≤ disk.opened old n
