-- What a flush makes of what is held, and what it appends to each file.
use Rattle.std.specs.Prelude.{◌≡◌, ◌≤◌, ◌+◌, ◌&&◌, ℕ, ℤ, Bool, List, [], ◌∷◌, ◌++◌, length, map, nat_eq, if◌then◌else◌, All, Option, None, Some, slice_get, IsTrue}
use Rattle.std.specs.List.{AllZip}
use Rattle.series_model.specs.Limits.{intake_room}
use Rattle.series_model.specs.declared.sample.Sample.{Sample}
use Rattle.series_model.specs.declared.batch.RowSamples.{RowSamples}
use Rattle.series_model.specs.Series.{over, IsRising}
use Rattle.partition_names.specs.declared.granularity.Granularity.{Granularity}
use Rattle.partition_names.specs.declared.part.Part.{Part}
use Rattle.arch_time.specs.YearTime.{moment, IsInYear, IsMomentYear}
use Rattle.line_escape.specs.Escaping.{escaped}
use Rattle.pb_messages.specs.declared.info.PayloadInfo.{PayloadInfo}
use Rattle.pb_messages.specs.InfoSpelling.{info_text}
use Rattle.store_manifest.specs.declared.entry.Entry.{Entry}
use Rattle.pv_catalog.specs.declared.row.Row.{Row}
use Rattle.durable_write.specs.declared.file_write.FileWrite.{FileWrite}
use Rattle.store_manifest.specs.Entries.{Place, put, comes_before}
use Rattle.pb_lines.specs.File.{IsSample, lines_of}
use Rattle.durable_write.specs.Held.{Filed, Held, IsFiled, IsListed, AreFiled, ListsStill, entry_of, filed_at, listing_of, bytes_of, samples_of, count_of}

-- THE BATCH

-- the line is a sample's of the row's type at its moment
abbrev pub IsSampleOf : Row → Sample → Type 0
IsSampleOf row s = (year : ℤ) × IsSample row.about.ty year s

-- the row stands, and the samples are its type's and rise in time
pub record IsOfRow (rows : List Row) (p : RowSamples) : Type 0 where
  pub row : Row
  pub stands : slice_get rows p.row ≡ Some row
  pub samples : All (IsSampleOf row) p.samples
  pub rising : IsRising p.samples

-- the bytes of its lines with their newlines
abbrev pub bytes_in : List RowSamples → ℕ
bytes_in [] = 0
bytes_in (p ∷ ps) = length (lines_of p.samples) + bytes_in ps

-- a batch may be flushed: at most 64 MiB of samples of rows that stand
pub record CanFlush (rows : List Row) (batch : List RowSamples) : Type 0 where
  pub each : All (IsOfRow rows) batch
  pub few : bytes_in batch ≤ intake_room

-- a row's samples, and over them each of the batch's lists of that row
abbrev pub with_batch : ℕ → List Sample → List RowSamples → List Sample
with_batch row xs [] = xs
with_batch row xs (p ∷ ps) = with_batch row (if nat_eq p.row row then over xs p.samples else xs) ps

-- THE FILES

abbrev pub is_place : Place → Place → Bool
is_place a b = nat_eq a.0 b.0 && nat_eq a.1 b.1

-- the file that is listed at a place, if one is
abbrev pub file_at : Place → List Filed → Option Filed
file_at p [] = None
file_at p (f ∷ fs) = if is_place (filed_at f) p then Some f else file_at p fs

-- its listed bytes, none where it isn't listed
abbrev pub listed_bytes : Option Filed → List ℕ
listed_bytes None = []
listed_bytes (Some f) = bytes_of f

abbrev pub bytes_at : Place → List Filed → List ℕ
bytes_at p files = listed_bytes (file_at p files)

-- how long it is listed, if it is
abbrev pub listed_len : Option Filed → Option ℕ
listed_len None = None
listed_len (Some f) = Some f.entry.len

abbrev pub len_at : Place → List Filed → Option ℕ
len_at p files = listed_len (file_at p files)

-- where a file goes on: behind its listed length, and at its start where it isn't listed
abbrev pub start_of : Option ℕ → ℕ
start_of None = 0
start_of (Some len) = len

-- the header of a row's file of this year
abbrev pub header_of : Row → ℤ → PayloadInfo
header_of row year = record { ty = row.about.ty; name = row.name; year = year; count = row.about.count; headers = row.about.headers }

-- the partition starts in this year
pub record StartsIn (part : Part) (year : ℤ) : Type 0 where
  pub secs : ℕ
  pub nano : ℕ
  pub moments : IsMomentYear year
  pub in_year : IsInYear year secs nano
  pub at : moment year secs nano ≡ part.start

-- the file's header is what is written of its row and of the year of its partition
pub record HasOwnHeader (rows : List Row) (f : Filed) : Type 0 where
  pub row : Row
  pub year : ℤ
  pub stands : slice_get rows f.entry.series ≡ Some row
  pub starts : StartsIn f.entry.part year
  pub head : f.head ≡ escaped (info_text (header_of row year))

-- WHAT A FLUSH MAKES

-- a file has the header that it had, or, where it wasn't listed, what is written of its row and of the year of its partition
abbrev pub HasHeaderOf : List Row → Filed → Option Filed → Type 0
HasHeaderOf rows f None = HasOwnHeader rows f
HasHeaderOf rows f (Some old) = f.head ≡ old.head

-- The rows stay, and what was listed is listed still. Each row has its samples with the batch's over them. Headers stay, and new files
-- have their rows' own.
pub record IsFlushed (old : Held) (batch : List RowSamples) (new : Held) : Type 0 where
  pub store : new.store ≡ old.store
  pub rows : new.rows ≡ old.rows
  pub stands : new.stands ≡ old.stands
  pub still : ListsStill (listing_of old) (listing_of new)
  pub samples : IsTrue old.stands → (row : ℕ) → samples_of row new.files ≡ with_batch row (samples_of row old.files) batch
  pub headers : IsTrue old.stands → All (λ (f : Filed). HasHeaderOf old.rows f (file_at (filed_at f) old.files)) new.files

-- THE PIECES

-- f is a file of the row, made of its listed bytes and the write's, or of the row's own header and the write's
pub record GrowsOwn (g : Granularity) (held : Held) (p : FileWrite) (f : Filed) : Type 0 where
  pub filed : IsFiled g held.rows f
  pub bytes : bytes_of f ≡ bytes_at (filed_at f) held.files ++ p.bytes.items
  pub anew : file_at (filed_at f) held.files ≡ None → HasOwnHeader held.rows f

-- The write is what the file of its entry gets behind its listed bytes, and f is the file with it. The header of a file that was there stays as long.
pub record Grows (g : Granularity) (held : Held) (p : FileWrite) (f : Filed) : Type 0 where
  pub entry : p.entry ≡ f.entry
  pub listed : IsListed g held.rows f
  pub head : (old : Filed) → file_at (filed_at f) held.files ≡ Some old → f.entry.head_len ≡ old.entry.head_len
  pub at : p.at ≡ len_at (filed_at f) held.files
  pub len : p.entry.len ≡ start_of p.at + length p.bytes.items
  pub some : 1 ≤ length p.bytes.items
  pub own : IsTrue held.stands → GrowsOwn g held p f

-- each place comes before the next
abbrev pub PlacesRise : List Filed → Type 0
PlacesRise [] = Unit {0}
PlacesRise (f ∷ fs) = All (λ (h : Filed). IsTrue (comes_before (filed_at f) (filed_at h))) fs × PlacesRise fs

-- the files with others listed in their places, one after another
abbrev pub put_all : List Filed → List Filed → List Filed
put_all files [] = files
put_all files (f ∷ fs) = put_all (put filed_at f files) fs

abbrev pub with_files : Held → List Filed → Held
with_files held fs = record { store = held.store; rows = held.rows; files = put_all held.files fs; stands = held.stands }

-- the writes make these files, each of another place
pub record MakesFiles (g : Granularity) (held : Held) (writes : List FileWrite) (fs : List Filed) : Type 0 where
  pub each : AllZip (Grows g held) writes fs
  pub apart : PlacesRise fs

-- Of these rows, what is held has files of these entries: those that are listed, and among them those that are in limbo. There may be
-- none in limbo.
pub record HoldsBoth (g : Granularity) (rows : List Row) (entries limbo : List Entry) (held : Held) : Type 0 where
  pub of_rows : held.rows ≡ rows
  pub filed : AreFiled g held
  pub listed : List Filed
  pub others : List Filed
  pub are_listed : entries ≡ map entry_of listed
  pub are_others : limbo ≡ map entry_of others
  pub apart : PlacesRise listed
  pub both : held.files ≡ put_all listed others

-- no file of its row stands in a partition behind its own
abbrev pub EndsRow : List Filed → Filed → Type 0
EndsRow files f = All (λ (k : Filed). k.entry.series ≡ f.entry.series → k.entry.part.start ≤ f.entry.part.start) files

-- The writes make files, with which the batch is flushed, and `count` samples more are held. Each file ends its row.
pub record Flushes (g : Granularity) (held : Held) (batch : List RowSamples) (writes : List FileWrite) (count : ℕ) : Type 0 where
  pub files : List Filed
  pub makes : MakesFiles g held writes files
  pub flushed : IsFlushed held batch (with_files held files)
  pub more : IsTrue held.stands → count_of (put_all held.files files) ≡ count_of held.files + count
  pub ends : All (EndsRow held.files) files
