-- The rule of an archive's stores. Each store keeps its samples in partitions, units of the calendar of its granularity, so no two of them
-- hold one moment; of the first two stores the rule says when partitions move on. It also says how the files of the stores begin.
use Rattle.std.specs.Prelude.{◌≡◌, ℕ, ℤ, List, Option, Some, slice_get}
use Rattle.pb_wire.specs.declared.payload.PayloadType.{PayloadType}
use Rattle.partition_names.specs.declared.granularity.Granularity.{Granularity}
use Rattle.partition_names.specs.declared.part.Part.{Part}
use Rattle.partition_names.specs.Part.{IsPart}
use Rattle.act_model.specs.Rows.{Store, Short, Medium, Long}

-- what a file's header says of its samples: their type, and the year that they stand in
pub record Header : Type 0 where
  pub ty : PayloadType
  pub year : ℤ

-- The granularities of the three stores; for the first two how many ripe partitions make a move due, and how many a move takes; and what
-- a message says as the header of a file, None where it is no header (PB file format).
pub record Rule : Type 0 where
  pub granularity : List Granularity
  pub hold : List ℕ
  pub gather : List ℕ
  pub header : List ℕ → Option Header

-- where the rule has the store's granularity
abbrev pub index_of : Store → ℕ
index_of Short = 0
index_of Medium = 1
index_of Long = 2

-- a partition of the store's granularity
pub record IsPartition (rule : Rule) (store : Store) (part : Part) : Type 0 where
  pub unit : Granularity
  pub of_store : slice_get rule.granularity (index_of store) ≡ Some unit
  pub is : IsPart unit part

-- a partition of the store ends at this moment
pub record IsPartitionEnd (rule : Rule) (store : Store) (to : ℕ) : Type 0 where
  pub part : Part
  pub partition : IsPartition rule store part
  pub end : to ≡ part.end
