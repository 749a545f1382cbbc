-- One journal: whether it was opened, and where it is bad.
use Rattle.std.specs.Prelude.{◌≡◌, ◌⊎◌, ℕ, List, length, take}
use Rattle.disk_model.specs.Files.{Name, Files}
use Rattle.gate_journal.specs.Batches.{open_gates}
use Rattle.gate_journal.specs.Generations.{generation_name, IsOwn, HasBatchesOf, IsBadOf}
use Rattle.store_manifest.specs.Batches as manifest
use Rattle.pv_catalog.specs.Catalogue.{catalogue_name}
use Rattle.pv_catalog.specs.Rows as catalogue

-- no reader of any file of the journal of this name was opened
abbrev pub NoneOpened : Name → (Name → ℕ) → Type 0
NoneOpened name opened = (n : Name) → IsOwn name n → opened n ≡ 0

-- a batch means nothing behind those before it, and its open gate stands at this place of the current generation's file
pub record HasBadBatch (IsBad : List (List ℕ) → ℕ → Type 0) (name : Name) (files : Files) (file : Name) (at : ℕ) : Type 0 where
  pub batches : List (List ℕ)
  pub number : ℕ
  pub has : HasBatchesOf name files batches
  pub bad : IsBad batches number
  pub current : file ≡ generation_name name has.generation
  pub gate : at ≡ length (open_gates (take number batches))

-- where the gate of a batch of the journal of this name is found
abbrev pub IsGate : Name → Files → ℕ → Name → ℕ → Type 0
IsGate name files number file at = (bs : List (List ℕ)) → (has : HasBatchesOf name files bs) → (file ≡ generation_name name has.generation) × (at ≡ length (open_gates (take number bs)))

-- this place of this file tells why the journal of this name holds no batches, or is that of the first batch that means nothing
abbrev pub IsBadFile : (List (List ℕ) → ℕ → Type 0) → Name → Files → Name → ℕ → Type 0
IsBadFile IsBad name files file at = IsBadOf name files file at ⊎ HasBadBatch IsBad name files file at

-- the catalogue is bad at this place of this file
abbrev pub IsBadCatalogue : Files → Name → ℕ → Type 0
IsBadCatalogue files file at = IsBadFile catalogue.IsBadBatch catalogue_name files file at

-- the manifest of this name is bad at this place of this file
abbrev pub IsBadManifest : Name → Files → Name → ℕ → Type 0
IsBadManifest name files file at = IsBadFile manifest.IsBadBatch name files file at
