-- What the stores list, one store after another.
use Rattle.std.specs.Prelude.{◌-◌, ℕ, List, [], ◌++◌, Option, None, Some, slice_get}
use Rattle.disk_model.specs.Files.{Name}
use Rattle.pins.specs.Choosing.{listed}
use Rattle.pins.specs.declared.choosing.Listed.{Listed}
use Rattle.pv_catalog.specs.declared.row.Row.{Row}
use Rattle.store_manifest.specs.Manifest.{ManifestState}
use Rattle.store_manifest.specs.declared.entry.Entry.{Entry}
use Rattle.durable_write.specs.Held.{file_of}

-- all that a manifest lists
abbrev pub all_entries : Option ManifestState → List Entry
all_entries None = []
all_entries (Some m) = m.entries

-- what the store of this number lists: its manifest is at the place of the number less one
abbrev pub entries_at : ℕ → List ManifestState → List Entry
entries_at store ms = all_entries (slice_get ms (store - 1))

-- the listed files of a store, in the order of rows and time
abbrev pub files_at : ℕ → List ManifestState → List Listed
files_at store ms = listed store (entries_at store ms)

-- those of stores 1, 2 and 3, one store after another
abbrev pub files_listed : List ManifestState → List Listed
files_listed ms = (files_at 1 ms ++ files_at 2 ms) ++ files_at 3 ms

-- where a listed file is
abbrev pub name_of : List Row → Listed → Name
name_of rows l = file_of (l.store, rows) l.entry
