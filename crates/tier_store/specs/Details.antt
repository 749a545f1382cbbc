-- What is told of a variable: of its row, of the files that the stores list of it, and of its samples.
use Rattle.std.specs.Prelude.{◌≡◌, ◌≤◌, ℕ, List, Bool, IsTrue, length, Some, slice_get, slice_index}
use Rattle.disk_model.specs.Files.{Files, HasFile}
use Rattle.partition_names.specs.declared.granularity.Granularity.{Granularity}
use Rattle.act_model.specs.Details.{first_time, last_time}
use Rattle.act_model.specs.declared.acts.Answer.{Answer}
use Rattle.act_model.specs.declared.acts.Answer.TheVariants.{Described, NoSuchVariable}
use Rattle.act_model.specs.declared.details.Details.{Details}
use Rattle.pv_catalog.specs.Rows.{HasName}
use Rattle.pv_catalog.specs.declared.row.Row.{Row}
use Rattle.series_model.specs.Series.{end_of, over}
use Rattle.series_model.specs.declared.sample.Sample.{Sample}
use Rattle.store_manifest.specs.declared.entry.Entry.{Entry}
use Rattle.durable_write.specs.Held.{Filed, Shelf, IsFiled, IsIn, file_of}
use Rattle.durable_write.specs.Plan.{of_row}
use Rattle.tier_store.specs.Counting.{behind}
use Rattle.tier_store.specs.Pinning.{HasNoName}
use Rattle.tier_store.specs.Stores.{Stores, whole_in}
use Rattle.tier_store.specs.declared.tallying.Tally.{Tally}

-- how many samples there are, and the moments of the first and of the last
pub record IsTally (samples : List Sample) (t : Tally) : Type 0 where
  pub count : t.count ≡ length samples
  pub first : t.first ≡ first_time samples
  pub last : behind t.last ≡ end_of samples

-- the file of an entry is at least as long as it is listed
abbrev pub IsLong : Files → Shelf → Entry → Type 0
IsLong files shelf e = HasFile files (file_of shelf e) (λ b. e.len ≤ length b)

-- a file of its row, which is there as it is listed
pub record IsWhole (g : Granularity) (shelf : Shelf) (files : Files) (f : Filed) : Type 0 where
  pub filed : IsFiled g shelf.1 f
  pub inside : IsIn shelf files f

-- These numbers are told of samples that are durable, and of those of a tail that are later.
pub record AreCounted (durable tail : List Sample) (d : Details) : Type 0 where
  pub durable_is : d.durable ≡ length durable
  pub accepted_is : d.accepted ≡ length (over durable tail)
  pub first : d.first ≡ first_time (over durable tail)
  pub last : d.last ≡ last_time (over durable tail)

-- What is told of a row: what the catalogue has of it, how many files each store lists of it, and, where a disk tells its files and what is
-- held stands, of the whole of it and of the tail's samples over that, how many there are and their first and last moment.
pub record IsDescribed (tells : Bool) (held : Stores) (i : ℕ) (tail : List Sample) (d : Details) : Type 0 where
  pub row : Row
  pub here : slice_get held.rows i ≡ Some row
  pub known : (d.name ≡ row.name) × (d.about ≡ row.about) × (d.state ≡ row.state)
  pub short : slice_index d.files 0 ≡ length (of_row i held.short)
  pub medium : slice_index d.files 1 ≡ length (of_row i held.medium)
  pub long : slice_index d.files 2 ≡ length (of_row i held.long)
  pub counted : IsTrue tells → IsTrue held.stands → AreCounted (whole_in i held) tail d

-- No row has the name, or what is told is so of the row that has it.
pub data SaysDescribed {R : Type 0} (tells : Bool) (name : List ℕ) (tail : List Sample) : Answer R → Stores → Type 0 where
  none_has : {held : Stores} → HasNoName held.rows name → SaysDescribed tells name tail NoSuchVariable held
  is_described : {held : Stores} (i : ℕ) (d : Details) → HasName held.rows i name → IsDescribed tells held i tail d → SaysDescribed tells name tail (Described d) held
