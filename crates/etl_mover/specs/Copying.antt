-- Where the lines of a part go, and which entries are to be listed then.
use Rattle.std.specs.Prelude.{◌≡◌, ◌⊎◌, ◌≢◌, ℕ, List, [], ◌∷◌, ◌++◌, Option, None, Some, nat_eq, nat_lt, if◌then◌else◌}
use Rattle.partition_names.specs.declared.part.Part.{Part}
use Rattle.store_manifest.specs.declared.entry.Entry.{Entry}
use Rattle.etl_mover.specs.declared.copying.Start.{Start}

-- the last entry, or the one that is listed where there is none
abbrev pub last_of : List Entry → Option Entry → Option Entry
last_of [] listed = listed
last_of (e ∷ es) listed = last_of es (Some e)

-- behind what is listed of a file, or is to be
abbrev pub behind : Entry → Start
behind e = record { entry = e; at = Some e.len }

-- in a file that is made anew, whose header's line takes so many bytes
abbrev pub anew : ℕ → Part → ℕ → Start
anew series to head_len = record { entry = record { series = series; part = to; len = head_len; head_len = head_len; first = to.start; last = to.start; count = 0 }; at = None }

-- in the file that is revived, or in a new one
abbrev pub fresh : ℕ → Part → ℕ → Option Entry → Start
fresh series to head_len None = anew series to head_len
fresh series to head_len (Some old) = behind old

-- In the last file where its partition begins here, and nowhere where that begins later.
abbrev pub after : Entry → ℕ → Start → Option Start
after e begin start = if nat_eq e.part.start begin then Some (behind e) else (if nat_lt begin e.part.start then None else Some start)

abbrev pub starts : Option Entry → ℕ → Part → ℕ → Option Entry → Option Start
starts None series to head_len revived = Some (fresh series to head_len revived)
starts (Some e) series to head_len revived = after e to.start (fresh series to head_len revived)

-- the entry takes the place of the last one, which is of its partition
pub record TakesPlace (entry : Entry) (old new : List Entry) : Type 0 where
  pub rest : List Entry
  pub last : Entry
  pub are : old ≡ rest ++ last ∷ []
  pub same : last.part.start ≡ entry.part.start
  pub becomes : new ≡ rest ++ entry ∷ []

-- or stands behind the others, whose last, if there is one, is of another
pub record StandsBehind (entry : Entry) (old new : List Entry) : Type 0 where
  pub other : (rest : List Entry) (last : Entry) → old ≡ rest ++ last ∷ [] → last.part.start ≢ entry.part.start
  pub becomes : new ≡ old ++ entry ∷ []

abbrev pub SetsLast : Entry → List Entry → List Entry → Type 0
SetsLast entry old new = TakesPlace entry old new ⊎ StandsBehind entry old new
