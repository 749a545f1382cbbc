-- Which partitions the stores have, and when they move on to the next.
use Rattle.std.specs.Prelude.{◌≤◌, ℕ, List, All, length}
use Rattle.std.specs.List.{AllAdjacentBelow}
use Rattle.partition_names.specs.declared.granularity.Granularity.{Granularity}
use Rattle.partition_names.specs.Granularity.{Holds}

-- What contracts see of a configuration: the granularities of stores 1 to 3, and for stores 1 and 2 how many ripe partitions make
-- a move due, and how many a move takes.
pub record ConfigState : Type 0 where
  pub granularity : List Granularity
  pub hold : List ℕ
  pub gather : List ℕ

-- Each store's granularity is held by the next store's, and a move takes at least one partition.
pub record IsGood (config : ConfigState) : Type 0 where
  pub nested : AllAdjacentBelow (λ fine coarse. Holds coarse fine) config.granularity (length config.granularity)
  pub moves : All (λ n. 1 ≤ n) config.gather
