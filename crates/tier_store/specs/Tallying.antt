-- What the entries alone say of the samples of files that are read one after another.
use Rattle.std.specs.Prelude.{◌≡◌, ◌≤◌, ◌+◌, ℕ, List, [], ◌∷◌, ◌++◌, max, slice_get}
use Rattle.std.specs.List.{flat_map, sum_by}
use Rattle.pv_catalog.specs.Lines.{line}
use Rattle.pv_catalog.specs.declared.row.Row.{Row}
use Rattle.store_manifest.specs.Manifest.{ManifestState}
use Rattle.store_manifest.specs.declared.entry.Entry.{Entry}
use Rattle.tier_store.specs.Counting.{behind}
use Rattle.tier_store.specs.Pinning.{entries_of}
use Rattle.tier_store.specs.declared.tallying.Tally.{Tally}

-- No file begins before this moment, and each begins later than the files before it end.
abbrev pub RiseFrom : ℕ → List Entry → Type 0
RiseFrom n [] = Unit {0}
RiseFrom n (e ∷ es) = (n ≤ e.first) × RiseFrom (max n (e.last + 1)) es

-- the first moment behind all of them, and no earlier than this one
abbrev pub end_of_files : ℕ → List Entry → ℕ
end_of_files n [] = n
end_of_files n (e ∷ es) = end_of_files (max n (e.last + 1)) es

-- how many samples the entries say
abbrev pub listed_count : List Entry → ℕ
listed_count entries = sum_by (λ (e : Entry). e.count) entries

-- where the files rise from the end of a tally on, another has what the entries say more
abbrev pub Adds : Tally → List Entry → Tally → Type 0
Adds old entries new = RiseFrom (behind old.last) entries → (new.count ≡ old.count + listed_count entries) × (behind new.last ≡ end_of_files (behind old.last) entries)

-- what the stores list of a row, in the order in which it is read: of store 3, of store 2 and of store 1
abbrev pub entries_in : ℕ → List ManifestState → List Entry
entries_in row ms = (entries_of row (slice_get ms 2) ++ entries_of row (slice_get ms 1)) ++ entries_of row (slice_get ms 0)

-- what they list of the rows of a row's line, in the order in which it is read: of the first one, and at last of the row itself
abbrev pub entries_of_line : ℕ → List Row → List ManifestState → List Entry
entries_of_line row rows ms = flat_map (λ k. entries_in k ms) (line rows row)
