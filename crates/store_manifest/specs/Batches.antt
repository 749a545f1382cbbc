-- What the batches of a manifest stand for.
use Rattle.std.specs.Prelude.{◌≡◌, ◌≢◌, ℕ, List, [], ◌∷◌, ◌++◌, map}
use Rattle.std.specs.Int.{to_le_bytes, w32, w64}
use Rattle.std.specs.List.{AllByRecursion}
use Rattle.gate_journal.specs.FirstBad.{IsFirstBad}
use Rattle.partition_names.specs.declared.granularity.Granularity.{Granularity}
use Rattle.partition_names.specs.Granularity.{number_of}
use Rattle.store_manifest.specs.declared.entry.Entry.{Entry}
use Rattle.store_manifest.specs.declared.entry.Change.{Change}
use Rattle.store_manifest.specs.declared.entry.Change.TheVariants.{Set, Drop}
use Rattle.store_manifest.specs.Entries.{all_changed, CanFollow, InTurn}
use Rattle.store_manifest.specs.Numbers.{HasSizes}

-- what says the granularity: a byte 1 and the granularity's number
abbrev pub config : Granularity → List ℕ
config g = 1 ∷ number_of g ∷ []

-- the members of an entry that is set, behind its kind
unfoldable pub members_of : Entry → List ℕ
members_of e =
    to_le_bytes w32 e.series
    ++ (
    to_le_bytes w64 e.part.start
    ++ (
    to_le_bytes w64 e.len
    ++ (
    to_le_bytes w32 e.head_len
    ++ (to_le_bytes w64 e.first ++ (to_le_bytes w64 e.last ++ to_le_bytes w64 e.count))
    )
    )
    )

-- the bytes of one change: a byte 2 and the entry's members, or a byte 3, the series and the partition's start
abbrev pub encoded : Change → List ℕ
encoded (Set e) = 2 ∷ members_of e
encoded (Drop series start) = 3 ∷ (to_le_bytes w32 series ++ to_le_bytes w64 start)

abbrev pub batch_of : List Change → List ℕ
batch_of [] = []
batch_of (c ∷ cs) = encoded c ++ batch_of cs

-- these bytes are changes that may be made one after another, and make these entries of those
pub record Makes (g : Granularity) (entries : List Entry) (bytes : List ℕ) (next : List Entry) : Type 0 where
  pub changes : List Change
  pub bytes_are : bytes ≡ batch_of changes
  pub follow : InTurn (λ es c. HasSizes c × CanFollow g es c) entries changes
  pub next_is : next ≡ all_changed entries changes

-- a batch of one or more changes
abbrev pub IsBatch : Granularity → List Entry → List ℕ → List Entry → Type 0
IsBatch g entries batch next = (batch ≢ []) × Makes g entries batch next

-- batches of changes, one after another
abbrev pub AreBatches : Granularity → List Entry → List (List ℕ) → List Entry → Type 0
AreBatches g entries [] last = last ≡ entries
AreBatches g entries (b ∷ bs) last = (next : List Entry) × IsBatch g entries b next × AreBatches g next bs last

-- the change sets an entry
abbrev pub IsSet : Change → Type 0
IsSet (Set e) = Unit {0}
IsSet (Drop series start) = ⊥

-- these bytes only set entries, one after another, and make these entries of those
abbrev pub OnlySets : Granularity → List Entry → List ℕ → List Entry → Type 0
OnlySets g entries bytes next = (made : Makes g entries bytes next) × AllByRecursion IsSet made.changes

-- a first batch: it says the granularity, and what it sets behind that, if anything, makes these entries
abbrev pub Begins : Granularity → List ℕ → List Entry → Type 0
Begins g batch entries = (rest : List ℕ) × (batch ≡ config g ++ rest) × OnlySets g [] rest entries

-- the first batch of a checkpoint: it sets each entry, in the order of series and start
abbrev pub whole : Granularity → List Entry → List ℕ
whole g entries = config g ++ batch_of (map (λ e. Set e) entries)

-- a first batch, and then batches of changes, that make these entries
abbrev pub Configured : Granularity → List (List ℕ) → List Entry → Type 0
Configured g [] entries = ⊥
Configured g (b ∷ bs) entries = (first : List Entry) × Begins g b first × AreBatches g first bs entries

-- the batches of a manifest of this granularity that lists these entries. No batch counts as configured, and lists nothing
abbrev pub Folds : Granularity → List (List ℕ) → List Entry → Type 0
Folds g [] entries = entries ≡ []
Folds g (b ∷ bs) entries = Configured g (b ∷ bs) entries

-- the batches of a manifest that says this granularity and lists these entries
abbrev pub FoldsTo : List (List ℕ) → Granularity × List Entry → Type 0
FoldsTo batches said = Folds said.0 batches said.1

-- the batches before this one are a manifest's, and with it they are none
abbrev pub IsBadBatch : List (List ℕ) → ℕ → Type 0
IsBadBatch batches number = IsFirstBad FoldsTo batches number
