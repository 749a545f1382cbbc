use Rattle.std.proofs.Common.{◌≡◌, ◌≤◌, ◌<◌, ℕ, All, Some}
use Rattle.std.specs.Prelude.{slice_get}
use Rattle.store_manifest.specs.Manifest.{ManifestState}
use Rattle.store_reopen.specs.Verdict.{HasRow}
use Rattle.store_reopen.proofs.files.check_rows.Given as goal

abbrev pub invariant-loop-place : goal.invariant-loop-place
invariant-loop-place l = record {
  few : l.place ≤ 3;
  of_rows : (k : ℕ) (m : ManifestState) → k < l.place → slice_get l.manifests k ≡ Some m → All (HasRow l.rows) m.entries;
}
