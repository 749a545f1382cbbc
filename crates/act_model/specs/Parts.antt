-- The partitions of what a store lists of a row: they follow one another, none is empty, and together they have all of it.
use Rattle.std.specs.List.{AllByRecursion, flat_map}
use Rattle.std.specs.Prelude.{◌≡◌, ℕ, ◌<◌, ◌≤◌, List, [], ◌∷◌, true}
use Rattle.partition_names.specs.declared.part.Part.{Part}
use Rattle.series_model.specs.declared.sample.Sample.{Sample}
use Rattle.act_model.specs.Rows.{Store, window, is_empty}
use Rattle.act_model.specs.Rule.{Rule, IsPartition}

-- the parts follow one another, and each has samples of the list
abbrev pub PartsFrom : ℕ → List Sample → List Part → Type 0
PartsFrom n xs [] = Unit {0}
PartsFrom n xs (p ∷ parts) = (n ≤ p.start) × (p.start < p.end) × (is_empty (window p xs) ≡ true → ⊥) × PartsFrom p.end xs parts

-- the partitions of a store's list
pub record AreParts (rule : Rule) (store : Store) (xs : List Sample) (parts : List Part) : Type 0 where
  pub rise : PartsFrom 0 xs parts
  pub each_one : AllByRecursion (IsPartition rule store) parts
  pub all : xs ≡ flat_map (λ p. window p xs) parts
