-- What the calls of an adoption make behind the load of the journals.
use Rattle.std.specs.Prelude.{◌≡◌, ◌⊎◌, ◌+◌, ℕ, Bool, true, false, List, Some, slice_get}
use Rattle.disk_model.specs.Files.{Name, Files}
use Rattle.disk_model.specs.declared.disk.Disk.{Ghosts}
use Rattle.partition_names.specs.declared.granularity.Granularity.{Granularity}
use Rattle.pv_catalog.specs.Catalogue.{CatalogueState}
use Rattle.pv_catalog.specs.declared.row.Row.{Row}
use Rattle.store_manifest.specs.Manifest.{ManifestState}
use Rattle.tier_store.specs.Change.{Has}
use Rattle.tier_store.specs.Stores.{Stores}
use Rattle.store_reopen.specs.Adoption.{AdoptsFrom, Counts, IsAdoption, IsUnlisted}
use Rattle.store_reopen.specs.Marking.{Marks}
use Rattle.store_reopen.specs.Reopen.{loaded}
use Rattle.store_reopen.specs.Steps.{Step, MakesSteps, made_by}
use Rattle.store_reopen.specs.declared.adopted.Adopted.{Adopted}

-- no file of stores 1 to 3 that these manifests don't list was opened
abbrev pub NoneUnlistedOpened : List Row → List ManifestState → (Name → ℕ) → Type 0
NoneUnlistedOpened rows manifests opened = (i : ℕ) (m : ManifestState) (n : Name) → slice_get manifests i ≡ Some m → n.0 ≡ i + 1
    → IsUnlisted ((i + 1, rows), m.entries) n → opened n ≡ 0

-- Steps of the rule for this image were made, or where that isn't `done`, a front of them and maybe the next one.
pub record Follows {D R : Type 0} (disk : Ghosts D R) (whole done : Bool) (gs : List Granularity) (image : Files) (held : Stores) (c : CatalogueState)
    (ms : List ManifestState) (old : D) (catalogue_now : CatalogueState) (manifests_now : List ManifestState) (new : D) : Type 0 where
  pub steps : List Step
  pub rule : IsAdoption whole gs image held steps
  pub makes : MakesSteps done disk.tells steps (loaded disk c ms old) (loaded disk catalogue_now manifests_now new)

-- it was followed to its end, and these are its numbers
pub record FollowsAll {D R : Type 0} (disk : Ghosts D R) (gs : List Granularity) (image : Files) (held : Stores) (c : CatalogueState)
    (ms : List ManifestState) (old : D) (catalogue_now : CatalogueState) (manifests_now : List ManifestState) (new : D) (told : Adopted) : Type 0 where
  pub all : Follows disk true true gs image held c ms old catalogue_now manifests_now new
  pub counts : Counts image held all.steps all.rule.unlisted told

-- it was left, before its first step or behind it
abbrev pub LeavesOff : {D R : Type 0} → Ghosts D R → List Granularity → Files → Stores → CatalogueState → List ManifestState → D → CatalogueState
    → List ManifestState → D → Type 0
LeavesOff {D} {R} disk gs image held c ms old catalogue_now manifests_now new = Marks disk old new ⊎ ((whole : Bool)
    × Follows disk whole false gs image held c ms old catalogue_now manifests_now new)

-- an adoption that is done has this of journals that were loaded of a disk
pub record HasAdoptedOf {D R : Type 0} (disk : Ghosts D R) (gs : List Granularity) (old : D) (catalogue : CatalogueState) (manifests : List ManifestState)
    (new : D) (told : Adopted) (before after : Stores) : Type 0 where
  pub adopts : AdoptsFrom true disk gs old new before after
  pub has : Has disk.tells (loaded disk catalogue manifests new) (made_by adopts.steps adopts.held)
  pub counts : Counts (disk.files old) adopts.held adopts.steps adopts.rule.unlisted told
