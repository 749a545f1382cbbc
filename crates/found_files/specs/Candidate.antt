-- The files that may be listed as they stand.
use Rattle.std.specs.Prelude.{◌≡◌, ◌<◌, ◌↔◌, ℕ, List, IsTrue, Some, length}
use Rattle.disk_model.specs.Files.{Name, Files}
use Rattle.partition_names.specs.declared.granularity.Granularity.{Granularity}
use Rattle.partition_names.specs.declared.part.Part.{Part}
use Rattle.partition_names.specs.Part.{IsPart}
use Rattle.partition_names.specs.Path.{path_of}
use Rattle.pb_file.specs.declared.good.Front.{Front}
use Rattle.pb_file.specs.GoodFront.{IsShapedAs}
use Rattle.pv_name.specs.Name.{IsName}
use Rattle.found_files.specs.declared.finding.Candidate.{Candidate}
use Rattle.found_files.specs.Reading.{IsFrontOf}

-- the candidate is of this partition and front of a file of so many bytes, whose path is that of the name in its header
pub record IsNamed (n : Name) (part : Part) (front : Front) (len : ℕ) (c : Candidate) : Type 0 where
  pub of_part : c.part ≡ part
  pub of_front : c.front ≡ front
  pub name : c.name ≡ front.info.name
  pub valid : IsName c.name
  pub path : path_of c.name part.name ≡ n.1
  pub cut : IsTrue c.cut ↔ (front.len < len)

-- The file of this name may be listed in a store of this granularity. Its path is that of a variable and of one of the granularity's partitions; it has
-- a front for that partition, and the header in it tells the variable. The header's year is then the partition's.
pub record IsCandidate (g : Granularity) (files : Files) (n : Name) (c : Candidate) : Type 0 where
  pub unit : IsPart g c.part
  pub bytes : List ℕ
  pub there : files n ≡ Some bytes
  pub front : IsFrontOf c.part bytes c.front
  pub named : IsNamed n c.part c.front (length bytes) c

-- what is known of one also where the disk doesn't tell its files
pub record IsShapedOf (g : Granularity) (n : Name) (c : Candidate) : Type 0 where
  pub unit : IsPart g c.part
  pub len : ℕ
  pub shape : IsShapedAs c.part len c.front
  pub named : IsNamed n c.part c.front len c
