-- What a check of a partition's file tells.
use Rattle.std.specs.Prelude.{◌≡◌, ◌⊎◌, ℕ, ◌≤◌, List, [], ◌∷◌, ◌++◌, length, take, drop}
use Rattle.std.specs.List.{AllByRecursion}
use Rattle.series_model.specs.declared.sample.Sample.{Sample}
use Rattle.series_model.specs.Series.{end_of}
use Rattle.pb_messages.specs.declared.info.PayloadInfo.{PayloadInfo}
use Rattle.partition_names.specs.declared.part.Part.{Part}
use Rattle.partition_names.specs.Part.{HoldsMoment}
use Rattle.pb_file.specs.declared.check.Verdict.{Verdict}
use Rattle.pb_file.specs.declared.check.Verdict.TheVariants.{Good, Damaged, ReadFault, Memory}
use Rattle.pb_lines.specs.File.{IsFile, HasNoHeader, HasNoSample}

-- the partition holds each sample
abbrev pub AllInside : Part → List Sample → Type 0
AllInside part samples = AllByRecursion (λ s. HoldsMoment part s.t) samples

-- there is a first and a last sample, at these moments
pub record Spans (samples : List Sample) (first last : ℕ) : Type 0 where
  pub begins : (s : Sample) × (rest : List Sample) × (samples ≡ s ∷ rest) × (first ≡ s.t)
  pub ends : (front : List Sample) × (s : Sample) × (samples ≡ front ++ s ∷ []) × (last ≡ s.t)

-- The bytes are a file of so many samples, at least one, all in the partition, the first and the last at these moments.
pub record IsGood (part : Part) (bytes : List ℕ) (count first last : ℕ) : Type 0 where
  pub head : List ℕ
  pub info : PayloadInfo
  pub samples : List Sample
  pub file : IsFile bytes head info samples
  pub inside : AllInside part samples
  pub number : count ≡ length samples
  pub span : Spans samples first last

-- The bytes before the place are a file whose samples the partition holds. There stands no sample that is later and in the
-- partition, or the bytes end without any sample.
pub record IsDamagedBehind (part : Part) (bytes : List ℕ) (at : ℕ) : Type 0 where
  pub head : List ℕ
  pub info : PayloadInfo
  pub samples : List Sample
  pub front : IsFile (take at bytes) head info samples
  pub inside : AllInside part samples
  pub bad : HasNoSample info (λ t. (end_of samples ≤ t) × HoldsMoment part t) (drop at bytes) ⊎ ((samples ≡ []) × (at ≡ length bytes))

-- the bytes are no file of the partition: this is the place of the first line that fails, or their end where no sample stands in them
abbrev pub IsDamaged : Part → List ℕ → ℕ → Type 0
IsDamaged part bytes at = ((at ≡ 0) × HasNoHeader bytes) ⊎ IsDamagedBehind part bytes at

-- what the verdict says of the bytes
abbrev pub Says : Part → List ℕ → Verdict → Type 0
Says part bytes (Good count first last) = IsGood part bytes count first last
Says part bytes (Damaged at) = IsDamaged part bytes at
Says part bytes ReadFault = Unit {0}
Says part bytes Memory = Unit {0}

-- neither a read failed nor memory ran out
abbrev pub IsDecided : Verdict → Type 0
IsDecided ReadFault = ⊥
IsDecided Memory = ⊥
IsDecided _ = Unit {0}
