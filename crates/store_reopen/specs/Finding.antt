-- What was found of the files that no manifest lists, by what the manifests say.
use Rattle.std.specs.Prelude.{◌≡◌, ◌+◌, ◌++◌, ℕ, List, IfSome, Some, slice_get}
use Rattle.disk_model.specs.Files.{Files}
use Rattle.found_files.specs.declared.finding.Candidate.{Candidate}
use Rattle.partition_names.specs.Part.{IsPart}
use Rattle.pv_catalog.specs.declared.row.Row.{Row}
use Rattle.store_manifest.specs.Manifest.{ManifestState}
use Rattle.store_reopen.specs.Adoption.{AreUnlisted}
use Rattle.store_reopen.specs.declared.finding.Unlisted.{Unlisted}

-- it is of the store of this manifest, and so is the candidate's partition
pub record IsOfPlace (manifests : List ManifestState) (x : Unlisted) : Type 0 where
  pub manifest : ManifestState
  pub here : slice_get manifests x.place ≡ Some manifest
  pub unit : IfSome x.candidate (λ (c : Candidate). IsPart manifest.granularity c.part)

-- all unlisted files of store 3, then of store 2, then of store 1
pub record AreUnlistedOf (image : Files) (rows : List Row) (manifests : List ManifestState) (xs : List Unlisted) : Type 0 where
  pub each : ℕ → List Unlisted
  pub are_each : (i : ℕ) (m : ManifestState) → slice_get manifests i ≡ Some m → AreUnlisted m.granularity image ((i + 1, rows), m.entries) i (each i)
  pub are : xs ≡ each 2 ++ each 1 ++ each 0
