-- What a change of the file `adopt` leaves of a disk.
use Rattle.std.specs.Prelude.{◌≡◌, ◌≢◌, None, IsSome}
use Rattle.disk_model.specs.Files.{Name, Files}
use Rattle.disk_model.specs.Past.{Past, Only}
use Rattle.disk_model.specs.declared.disk.Disk.{Ghosts}
use Rattle.store_reopen.specs.Leaving.{Leaves}
use Rattle.store_reopen.specs.Strays.{adoption_name}

-- every other file is as it was
abbrev pub LeavesOthers : Files → Files → Type 0
LeavesOthers old new = (n : Name) → n ≢ adoption_name → new n ≡ old n

abbrev pub Marks : {D R : Type 0} → Ghosts D R → D → D → Type 0
Marks {D} {R} disk old new = Leaves disk LeavesOthers old new

-- and once it is there it stays
abbrev pub Begins : Files → Files → Type 0
Begins old new = LeavesOthers old new × (new adoption_name ≡ None → old adoption_name ≡ None)

-- the file is there, and no crash takes it away
abbrev pub IsThereForGood : Files → Past → Type 0
IsThereForGood files past = IsSome (files adoption_name) × Only past adoption_name (files adoption_name)
