-- Limbo: files that left their store and are kept, since a pin may still read them. Where new samples come into the partition of one, it
-- is listed again, with its old samples in front of the new ones (`put`): so the bytes that a reader has pinned are never written over.
-- With nothing in limbo, what is put stands behind what is listed.
use Rattle.std.specs.Prelude.{◌≡◌, ◌⊎◌, ℕ, ◌≤◌, true, List, [], ◌∷◌, ◌++◌, filter, ◌&&◌, ◌==◌, if◌then◌else◌, Option, Some, None, slice_get}
use Rattle.std.specs.List.{AllByRecursion}
use Rattle.series_model.specs.declared.sample.Sample.{Sample}
use Rattle.series_model.specs.Archive.{IsPrefix}
use Rattle.series_model.specs.Series.{end_of, end_from, IsRising, RisesFrom}
use Rattle.partition_names.specs.declared.part.Part.{Part}
use Rattle.act_model.specs.Rows.{RowState, Store, same_store, tier, window, holds, is_empty}

-- A file of a row, a store and a partition: the line of its header, and its samples. Files of limbo and a pin's pieces are such.
pub record RowFile : Type 0 where
  pub row : ℕ
  pub store : Store
  pub part : Part
  pub head : List ℕ
  pub samples : List Sample

-- those of one row and store
abbrev pub files_of : ℕ → Store → List RowFile → List RowFile
files_of i store limbo = filter (λ (f : RowFile). f.row == i && same_store f.store store) limbo

-- what comes back before a sample: what limbo has of its partition, where that isn't listed
abbrev pub revived : List RowFile → List Sample → Sample → List Sample
revived [] listed s = []
revived (f ∷ rest) listed s = if holds f.part s.t then (if is_empty (window f.part listed) then f.samples else []) else revived rest listed s

-- samples go behind what is listed, each into its partition
abbrev pub put : List Sample → List RowFile → List Sample → List Sample
put [] limbo listed = listed
put (s ∷ rest) limbo listed = put rest limbo (listed ++ (revived limbo listed s ++ s ∷ []))

-- what a row's store lists
abbrev pub tier_at : List RowState → ℕ → Store → List Sample
tier_at rows i store = of (slice_get rows i)
  where
    of : Option RowState → List Sample
    of None = []
    of (Some row) = tier row store

-- those that aren't listed
abbrev pub unlisted : List RowState → List RowFile → List RowFile
unlisted rows limbo = filter (λ (f : RowFile). is_empty (window f.part (tier_at rows f.row f.store))) limbo

-- all files of limbo end no later than n
abbrev pub Covered : ℕ → List RowFile → Type 0
Covered n limbo = AllByRecursion (λ (f : RowFile). IsRising f.samples × (end_of f.samples ≤ n)) limbo

-- a file of limbo is of its partition
pub record IsOfPart (f : RowFile) : Type 0 where
  pub from : RisesFrom f.part.start f.samples
  pub to : end_from f.part.start f.samples ≤ f.part.end

-- a sample in the partition of a file of limbo is later than the file
abbrev pub Fits : List RowFile → Sample → Type 0
Fits limbo s = AllByRecursion (λ (f : RowFile). holds f.part s.t ≡ true → end_from f.part.start f.samples ≤ s.t) limbo

-- one of the files is of this partition
abbrev pub IsThere : Part → List RowFile → Type 0
IsThere p [] = ⊥
IsThere p (f ∷ limbo) = (f.part ≡ p) ⊎ IsThere p limbo

-- all files of the partition begin with these samples
abbrev pub Extend : List Sample → Part → List RowFile → Type 0
Extend piece p limbo = AllByRecursion (λ (f : RowFile). f.part ≡ p → IsPrefix piece f.samples) limbo

-- not of the same row, store and partition
abbrev pub IsElsewhere : RowFile → RowFile → Type 0
IsElsewhere f g = g.row ≡ f.row → g.store ≡ f.store → g.part ≡ f.part → ⊥

-- no two files have one place
abbrev pub PlacesDiffer : List RowFile → Type 0
PlacesDiffer [] = Unit {0}
PlacesDiffer (f ∷ limbo) = AllByRecursion (IsElsewhere f) limbo × PlacesDiffer limbo
