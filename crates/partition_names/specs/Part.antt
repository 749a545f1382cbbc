-- Partitions.
use Rattle.std.specs.Prelude.{◌≡◌, ℕ, ◌+◌, ◌*◌, ◌<◌, ◌≤◌}
use Rattle.partition_names.specs.declared.granularity.Granularity.{Granularity}
use Rattle.partition_names.specs.declared.unit.CivilMinute.{CivilMinute}
use Rattle.partition_names.specs.declared.part.Part.{Part}
use Rattle.partition_names.specs.Unit.{IsUnitStart, unit_seconds, moment_of}
use Rattle.partition_names.specs.Name.{name_of}

-- the partition is the unit of the UTC calendar that begins at this minute, in the years 1991 to 2499
pub record IsPartFrom (g : Granularity) (from : CivilMinute) (part : Part) : Type 0 where
  pub unit : IsUnitStart g from
  pub start : part.start ≡ moment_of from
  pub end : part.end ≡ part.start + unit_seconds g from * 1_000_000_000
  pub name : part.name ≡ name_of g from

-- the partition is a unit of the UTC calendar
abbrev pub IsPart : Granularity → Part → Type 0
IsPart g part = (from : CivilMinute) × IsPartFrom g from part

-- the partition holds the moment
abbrev pub HoldsMoment : Part → ℕ → Type 0
HoldsMoment part t = (part.start ≤ t) × (t < part.end)
