-- A flush while it is planned: the files that the writes so far make, and what a row has with them.
use Rattle.std.specs.Prelude.{◌≡◌, ◌≢◌, ◌⊎◌, ◌<◌, ◌≤◌, ◌+◌, ℕ, ℤ, Option, None, Some, IfSome, List, [], ◌∷◌, ◌++◌, All, length, filter, nat_eq, nat_le, nat_lt, if◌then◌else◌, slice_get, IsTrue}
use Rattle.std.specs.List.{AllByRecursion}
use Rattle.arch_time.specs.YearTime.{IsSampleYear}
use Rattle.line_escape.specs.Escaping.{escaped}
use Rattle.pb_messages.specs.InfoSpelling.{info_text, FitsInfo}
use Rattle.series_model.specs.declared.sample.Sample.{Sample}
use Rattle.series_model.specs.declared.batch.RowSamples.{RowSamples}
use Rattle.series_model.specs.Series.{over}
use Rattle.partition_names.specs.declared.granularity.Granularity.{Granularity}
use Rattle.partition_names.specs.declared.part.Part.{Part}
use Rattle.partition_names.specs.Part.{IsPart, HoldsMoment}
use Rattle.store_manifest.specs.declared.entry.Entry.{Entry}
use Rattle.pv_catalog.specs.declared.row.Row.{Row}
use Rattle.durable_write.specs.declared.file_write.FileWrite.{FileWrite}
use Rattle.durable_write.specs.declared.plan.Target.{Target}
use Rattle.durable_write.specs.declared.plan.Destination.{Destination}
use Rattle.durable_write.specs.declared.plan.Destination.TheVariants.{Late, Open, Listed, New}
use Rattle.durable_write.specs.Held.{Filed, Held, AreFiled, samples_of, count_of}
use Rattle.durable_write.specs.Flush.{MakesFiles, PlacesRise, put_all, StartsIn, header_of, with_batch, HoldsBoth, EndsRow}

-- THE LAST FILE OF A ROW

-- the files of one row
abbrev pub of_row : ℕ → List Filed → List Filed
of_row row files = filter (λ f. nat_eq f.entry.series row) files

-- all of their partitions start before n
abbrev pub StartBefore : ℕ → List Filed → Type 0
StartBefore n files = AllByRecursion (λ (f : Filed). f.entry.part.start < n) files

-- the file is the last of the row's, and the others' partitions start before its own
pub record IsLast (files : List Filed) (row : ℕ) (f : Filed) : Type 0 where
  pub earlier : List Filed
  pub are : of_row row files ≡ earlier ++ f ∷ []
  pub before : StartBefore f.entry.part.start earlier

-- the entry is that of the row's last file; None where it has no file
abbrev pub EndsAt : List Filed → ℕ → Option Entry → Type 0
EndsAt files row None = of_row row files ≡ []
EndsAt files row (Some e) = (f : Filed) × IsLast files row f × (f.entry ≡ e)

-- the entry is the last of a series; None where it has none
abbrev pub IsLastOf : List Entry → ℕ → Option Entry → Type 0
IsLastOf entries series None = filter (λ (e : Entry). nat_eq e.series series) entries ≡ []
IsLastOf entries series (Some e) = (front : List Entry) × (filter (λ (e : Entry). nat_eq e.series series) entries ≡ front ++ e ∷ [])

-- the later of the last entry of a series and another, if that is of the series; of one place the other
abbrev pub later_of : ℕ → Option Entry → Entry → Option Entry
later_of series None e = if nat_eq e.series series then Some e else None
later_of series (Some last) e = if nat_eq e.series series then (if nat_lt e.part.start last.part.start then Some last else Some e) else Some last

-- the last entry once these stand among the others
abbrev pub last_with : ℕ → Option Entry → List Entry → Option Entry
last_with series last [] = last
last_with series last (e ∷ es) = last_with series (later_of series last e) es

-- PIECES

-- the entry with one sample more
abbrev pub grown : Sample → Entry → Entry
grown s e = record e { len = e.len + (length s.line + 1); last = s.t; count = e.count + 1 }

-- the entry of a file of a header's line alone, where the first sample will be at t
abbrev pub begun : ℕ → Part → ℕ → ℕ → Entry
begun series part head_len t = record { series = series; part = part; len = head_len; head_len = head_len; first = t; last = t; count = 0 }

-- the write with the sample's line at its end
pub record IsAppended (s : Sample) (old new : FileWrite) : Type 0 where
  pub entry : new.entry ≡ grown s old.entry
  pub at : new.at ≡ old.at
  pub bytes : new.bytes.items ≡ old.bytes.items ++ (s.line ++ 10 ∷ [])

-- what is listed last is a file of the row, of one of its partitions
abbrev pub IsTarget : Target → Type 0
IsTarget target = IfSome target.listed (λ (e : Entry). IsPart target.granularity e.part × (e.series ≡ target.series))

-- P of the last write, if there is one
abbrev pub OfLast : (FileWrite → Type 0) → List FileWrite → Type 0
OfLast P writes = (rest : List FileWrite) (p : FileWrite) → writes ≡ rest ++ p ∷ [] → P p

-- as many entries as one commit of a manifest may set: 49 bytes each in the greatest batch
abbrev pub most_writes : ℕ
most_writes = 21_913_098

-- the writes are few enough to be listed in one commit, of partitions, and none is of a row behind this one
pub record IsDraft (g : Granularity) (row : ℕ) (writes : List FileWrite) : Type 0 where
  pub parts : All (λ (p : FileWrite). IsPart g p.entry.part) writes
  pub few : length writes ≤ most_writes
  pub rows : All (λ (p : FileWrite). p.entry.series ≤ row) writes

-- The entry is that of the row's last file: of the last write if that is of the row, else the last that is listed.
abbrev pub IsLastEntry : Target → List FileWrite → Option Entry → Type 0
IsLastEntry target writes last = ((rest : List FileWrite) × (p : FileWrite) × (writes ≡ rest ++ p ∷ []) × (p.entry.series ≡ target.series) × (last ≡ Some p.entry)) ⊎ (OfLast (λ p. p.entry.series < target.series) writes × (last ≡ target.listed))

-- the moment is later than all of the row, and its partition than all of the row's
pub record IsBehind (target : Target) (writes : List FileWrite) (t : ℕ) : Type 0 where
  pub last : Option Entry
  pub is_last : IsLastEntry target writes last
  pub later : IfSome last (λ (e : Entry). IsPart target.granularity e.part × (e.last < t) × (e.part.end ≤ t))

-- the last write is of the row, and the moment is later than it and in its partition
pub record IsInLast (target : Target) (writes : List FileWrite) (t : ℕ) : Type 0 where
  pub rest : List FileWrite
  pub write : FileWrite
  pub are : writes ≡ rest ++ write ∷ []
  pub own : write.entry.series ≡ target.series
  pub later : write.entry.last < t
  pub within : t < write.entry.part.end

-- no write is of the row, and the moment is later than its last listed file and in its partition
pub record IsInListed (target : Target) (writes : List FileWrite) (t : ℕ) (e : Entry) : Type 0 where
  pub listed : target.listed ≡ Some e
  pub none : OfLast (λ p. p.entry.series < target.series) writes
  pub later : e.last < t
  pub within : t < e.part.end

-- what holds of the write if there is one: it is the last, and of the row
abbrev pub IsLastWrite : List FileWrite → ℕ → FileWrite → Type 0
IsLastWrite writes series p = ((rest : List FileWrite) × (writes ≡ rest ++ p ∷ [])) × (p.entry.series ≡ series)

-- where a moment lies by the row's last file: in its samples, behind them in its partition, or behind that
abbrev pub side_of : Entry → ℕ → Destination → Destination
side_of e t inside = if nat_le t e.last then Late else (if nat_lt t e.part.end then inside else New)

-- where a sample of this moment goes
abbrev pub GoesTo : Target → List FileWrite → ℕ → Destination → Type 0
GoesTo target writes t Late = (e : Entry) × IsLastEntry target writes (Some e) × (t ≤ e.last)
GoesTo target writes t Open = IsInLast target writes t
GoesTo target writes t (Listed e) = IsInListed target writes t e
GoesTo target writes t New = IsBehind target writes t

-- the write is the header's line of the row's file of the partition that holds the moment
pub record IsBegun (target : Target) (row : Row) (t : ℕ) (start : FileWrite) : Type 0 where
  pub part : Part
  pub year : ℤ
  pub is_part : IsPart target.granularity part
  pub holds : HoldsMoment part t
  pub starts : StartsIn part year
  pub fits : IsSampleYear year → FitsInfo (header_of row year)
  pub entry : start.entry ≡ begun target.series part (length (escaped (info_text (header_of row year))) + 1) t
  pub at : start.at ≡ None
  pub bytes : start.bytes.items ≡ escaped (info_text (header_of row year)) ++ 10 ∷ []

-- the write has the sample, and stands behind the others
pub record IsPushed (s : Sample) (start : FileWrite) (old new : List FileWrite) : Type 0 where
  pub write : FileWrite
  pub appended : IsAppended s start write
  pub are : new ≡ old ++ write ∷ []
  pub room : length old < most_writes

-- the last write has one sample more
pub record IsExtended (s : Sample) (old new : List FileWrite) : Type 0 where
  pub rest : List FileWrite
  pub start : FileWrite
  pub write : FileWrite
  pub are : old ≡ rest ++ start ∷ []
  pub appended : IsAppended s start write
  pub becomes : new ≡ rest ++ write ∷ []

-- THE ROW'S SAMPLES

-- the writes make these files, each ends its row, and the last of them is the last of its row
pub record IsPlanned (g : Granularity) (held : Held) (writes : List FileWrite) (fs : List Filed) : Type 0 where
  pub makes : MakesFiles g held writes fs
  pub last : (rest : List Filed) (f : Filed) → fs ≡ rest ++ f ∷ [] → IsLast (put_all held.files fs) f.entry.series f
  pub ends : All (EndsRow held.files) fs

-- the samples of a row with these files
abbrev pub samples_with : Held → List Filed → ℕ → List Sample
samples_with held fs row = samples_of row (put_all held.files fs)

-- the row has these samples over its own, which are n more, and each other row has what it had
pub record Gains (held : Held) (row : ℕ) (xs : List Sample) (n : ℕ) (fs more : List Filed) : Type 0 where
  pub own : samples_with held more row ≡ over (samples_with held fs row) xs
  pub others : (r : ℕ) → r ≢ row → samples_with held more r ≡ samples_with held fs r
  pub count : count_of (put_all held.files more) ≡ count_of (put_all held.files fs) + n

-- what is held has this row, and of its files the last that is listed
pub record HoldsRow (target : Target) (row : Row) (held : Held) : Type 0 where
  pub stands : slice_get held.rows target.series ≡ Some row
  pub filed : AreFiled target.granularity held
  pub apart : PlacesRise held.files
  pub ends : EndsAt held.files target.series target.listed

-- Whatever is held that has this row: where the old writes make files, so do the new ones, and the row gains the samples where what
-- is held stands.
pub record Adds (target : Target) (row : Row) (xs : List Sample) (n : ℕ) (old new : List FileWrite) : Type 0 where
  pub made : (held : Held) → HoldsRow target row held → (fs : List Filed) → IsPlanned target.granularity held old fs → (more : List Filed) × IsPlanned target.granularity held new more × (IsTrue held.stands → Gains held target.series xs n fs more)

-- each row has the lists over its own, and n samples more are held
pub record Reaches (held : Held) (parts : List RowSamples) (n : ℕ) (fs : List Filed) : Type 0 where
  pub samples : (row : ℕ) → samples_with held fs row ≡ with_batch row (samples_of row held.files) parts
  pub count : count_of (put_all held.files fs) ≡ count_of held.files + n

-- Whatever is held of these entries, listed and in limbo: the writes make files of it, with which the lists are flushed where it stands.
pub record Plans (g : Granularity) (rows : List Row) (entries limbo : List Entry) (parts : List RowSamples) (n : ℕ) (writes : List FileWrite) : Type 0 where
  pub made : (held : Held) → HoldsBoth g rows entries limbo held → (fs : List Filed) × IsPlanned g held writes fs × (IsTrue held.stands → Reaches held parts n fs)

-- the new writes are a plan of one list more than the old ones
pub record PlansOn (g : Granularity) (rows : List Row) (entries limbo : List Entry) (part : RowSamples) (n : ℕ) (old new : List FileWrite) : Type 0 where
  pub on : (parts : List RowSamples) (m : ℕ) → Plans g rows entries limbo parts m old → Plans g rows entries limbo (parts ++ part ∷ []) (m + n) new

-- one order of the lists for another: those of each row keep their order
abbrev pub KeepsRows : List RowSamples → List RowSamples → Type 0
KeepsRows parts order = (row : ℕ) → filter (λ (p : RowSamples). nat_eq p.row row) order ≡ filter (λ (p : RowSamples). nat_eq p.row row) parts
