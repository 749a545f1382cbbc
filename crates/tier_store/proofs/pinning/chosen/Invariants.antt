use Rattle.std.proofs.Common.{◌≡◌, ℕ, take}
use Rattle.std.specs.List.{flat_map}
use Rattle.pins.specs.Choosing.{IsChoice}
use Rattle.tier_store.specs.Pinning.{files_to, listed_in}
use Rattle.tier_store.proofs.pinning.chosen.Given as goal

-- what is listed of the rows so far was told
abbrev pub invariant-loop-row : goal.invariant-loop-row
invariant-loop-row l =
    IsChoice (flat_map (λ (k : ℕ). listed_in k l.manifests) (take l.row-index l.rows)) l.choice × (l.choice.from ≡ l.fn.query.from) × (l.choice.to ≡ files_to l.fn.query l.tail)
