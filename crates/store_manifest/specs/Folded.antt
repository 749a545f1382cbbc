-- What the batches of a file were read as.
use Rattle.std.specs.Prelude.{◌≡◌, ℕ, List, []}
use Rattle.store_manifest.specs.declared.folding.Folded.{Folded}
use Rattle.store_manifest.specs.declared.folding.Folded.TheVariants.{Nothing, Good, Bad}
use Rattle.store_manifest.specs.Batches.{Configured, IsBadBatch}
use Rattle.store_manifest.specs.Listing.{entries_of, AreLists}

-- there was none, or they make a granularity and entries, or this is the number of the bad one
abbrev pub IsFolded : List (List ℕ) → Folded → Type 0
IsFolded batches Nothing = batches ≡ []
IsFolded batches (Good g lists) = AreLists lists.listed.entries × Configured g batches (entries_of lists.listed.entries)
IsFolded batches (Bad number) = IsBadBatch batches number
