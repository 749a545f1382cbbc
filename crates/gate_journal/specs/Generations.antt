-- The files of a journal that goes on in a further file at each checkpoint: their names, and the batches that they have together.
use Rattle.std.specs.Prelude.{◌≡◌, ◌≢◌, ◌↔◌, ◌⊎◌, ◌≤◌, ◌<◌, ◌+◌, ◌^◌, ℕ, Bool, true, false, zero, suc, List, [], ◌∷◌, ◌++◌, length, codes, decimal, get_or}
use Rattle.std.specs.Int.{to_le_bytes, w64}
use Rattle.disk_model.specs.Files.{Name, Files}
use Rattle.gate_journal.specs.Batches.{HasBatches, IsBadJournal, IsShort, open_gates}

-- the file that tells the current generation
unfoldable pub at_name : Name → Name
at_name name = (name.0, name.1 ++ codes ".at")

-- a generation's file: the name itself for generation 0, and from then on with a point and the generation behind it
unfoldable pub generation_name : Name → ℕ → Name
generation_name name zero = name
generation_name name (suc g) = (name.0, name.1 ++ codes "." ++ decimal (suc g))

-- one of the files of the journal of this name
abbrev pub IsOwn : Name → Name → Type 0
IsOwn name n = (n ≡ at_name name) ⊎ ((g : ℕ) × (g < 2 ^ 64) × (n ≡ generation_name name g))

-- the batches of the file that tells the current generation: each generation from 1 up to that, in eight little-endian bytes
unfoldable pub generation_batches : ℕ → List (List ℕ)
generation_batches zero = []
generation_batches (suc g) = generation_batches g ++ to_le_bytes w64 (suc g) ∷ []

-- The batches that an image holds for the journal of this name are those of the current generation's file. It is there whole from
-- generation 1 on.
pub record HasBatchesOf (name : Name) (image : Files) (bs : List (List ℕ)) : Type 0 where
  pub generation : ℕ
  pub small : generation < 2 ^ 64
  pub told : HasBatches (image (at_name name)) (generation_batches generation)
  pub batches : HasBatches (image (generation_name name generation)) bs
  pub there : 1 ≤ generation → IsShort (image (generation_name name generation)) → ⊥

-- the batch behind so many generations isn't the next one
pub record IsOutOfTurn (bs : List (List ℕ)) (g : ℕ) : Type 0 where
  pub small : g < 2 ^ 64
  pub batch : List ℕ
  pub rest : List (List ℕ)
  pub split : bs ≡ generation_batches g ++ (batch ∷ rest)
  pub wrong : g + 1 < 2 ^ 64 → batch ≢ to_le_bytes w64 (g + 1)

-- the file that tells the generation has a batch behind an open gate at this place that isn't the next generation
pub record IsBadGeneration (name : Name) (image : Files) (place : ℕ) : Type 0 where
  pub batches : List (List ℕ)
  pub generation : ℕ
  pub has : HasBatches (image (at_name name)) batches
  pub out_of_turn : IsOutOfTurn batches generation
  pub is_at : place ≡ length (open_gates (generation_batches generation))

-- the current generation's file isn't of its form at this place, or from generation 1 on is absent or shorter than two bytes
pub record IsBadCurrent (name : Name) (image : Files) (file : Name) (place : ℕ) : Type 0 where
  pub generation : ℕ
  pub small : generation < 2 ^ 64
  pub told : HasBatches (image (at_name name)) (generation_batches generation)
  pub is : file ≡ generation_name name generation
  pub bad : IsBadJournal (image file) place ⊎ ((1 ≤ generation) × IsShort (image file) × (place ≡ 0))

-- an image that holds no batches for the journal of this name, and the file and the place that tell why
abbrev pub IsBadOf : Name → Files → Name → ℕ → Type 0
IsBadOf name image file place = ((file ≡ at_name name) × (IsBadJournal (image file) place ⊎ IsBadGeneration name image place)) ⊎ IsBadCurrent name image file place

-- one image has gone over to another by R, and every name that isn't one of the journal's has what it had
pub record AtOwn (name : Name) (R : Files → Files → Type 0) (old new : Files) : Type 0 where
  pub here : R old new
  pub elsewhere : (n : Name) → (IsOwn name n → ⊥) → new n ≡ old n

-- whatever was there, now it holds the one list or the other
abbrev pub HasOneOf : Name → List (List ℕ) → List (List ℕ) → Files → Files → Type 0
HasOneOf name before after old new = HasBatchesOf name new before ⊎ HasBatchesOf name new after

-- it holds the batches that it held, and none where it held none, and tells the generation that it told
pub record KeepsBatches (name : Name) (old new : Files) : Type 0 where
  pub batches : (bs : List (List ℕ)) → HasBatchesOf name old bs ↔ HasBatchesOf name new bs
  pub told : (g : ℕ) → HasBatches (old (at_name name)) (generation_batches g) → HasBatches (new (at_name name)) (generation_batches g)

-- the stores of two names differ, or their paths at some place in both
abbrev pub AreApart : Name → Name → Type 0
AreApart name other = (name.0 ≢ other.0) ⊎ ((i : ℕ) × (i < length name.1) × (i < length other.1) × (get_or name.1 i 0 ≢ get_or other.1 i 0))

-- batches of the file that tells the generation, taken in one after another
abbrev pub Tells : Bool → ℕ → List (List ℕ) → Type 0
Tells false generation batches = (generation < 2 ^ 64) × (batches ≡ generation_batches generation)
Tells true generation batches = IsOutOfTurn batches generation

-- the file of the generation before this one
pub record IsBefore (name : Name) (generation : ℕ) (n : Name) : Type 0 where
  pub number : ℕ
  pub before : number + 1 ≡ generation
  pub is : n ≡ generation_name name number
