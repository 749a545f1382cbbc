-- Calls of an adoption that make steps of its rule, one after another.
use Rattle.std.specs.Prelude.{Bool, true, false, List, ◌++◌}
use Rattle.disk_model.specs.declared.disk.Disk.{Ghosts}
use Rattle.pv_catalog.specs.Catalogue.{CatalogueState}
use Rattle.store_manifest.specs.Manifest.{ManifestState}
use Rattle.store_reopen.specs.Reopen.{loaded}
use Rattle.store_reopen.specs.Steps.{Step, MakesSteps}

-- what a rule makes, whole or as far as it got
abbrev pub Rule : Type 1
Rule = Bool → List Step → Type 0

-- Steps were made, and with those that are left to make they are the rule's.
pub record Goes {D R : Type 0} (disk : Ghosts D R) (rule left : Rule) (catalogue : CatalogueState) (manifests : List ManifestState) (old : D)
    (catalogue_now : CatalogueState) (manifests_now : List ManifestState) (new : D) : Type 0 where
  pub steps : List Step
  pub makes : MakesSteps true disk.tells steps (loaded disk catalogue manifests old) (loaded disk catalogue_now manifests_now new)
  pub by : (whole : Bool) (more : List Step) → left whole more → rule whole (steps ++ more)

-- A front of some steps was made, and maybe the next one. They are the rule's as far as it got.
pub record Stops {D R : Type 0} (disk : Ghosts D R) (rule : Rule) (catalogue : CatalogueState) (manifests : List ManifestState) (old : D)
    (catalogue_now : CatalogueState) (manifests_now : List ManifestState) (new : D) : Type 0 where
  pub steps : List Step
  pub makes : MakesSteps false disk.tells steps (loaded disk catalogue manifests old) (loaded disk catalogue_now manifests_now new)
  pub by : rule false steps
