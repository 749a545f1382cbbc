-- A flush beside files in limbo: those that a store doesn't list, but that are on the disk as they were listed. Where samples reach the
-- partition of one it is revived: it goes on behind its old length and is listed again.
use Rattle.std.specs.Prelude.{◌≡◌, ◌≤◌, ◌<◌, List, All, map, None, Some, IsTrue}
use Rattle.partition_names.specs.declared.granularity.Granularity.{Granularity}
use Rattle.series_model.specs.declared.batch.RowSamples.{RowSamples}
use Rattle.store_manifest.specs.declared.entry.Entry.{Entry}
use Rattle.durable_write.specs.Held.{Filed, Held, IsFiled, IsListed, ListsStill, Shelf, entry_of, file_of, filed_at, listing_of, shelf_of}
use Rattle.durable_write.specs.Flush.{EndsRow, IsFlushed, PlacesRise, file_at, put_all, with_files}

-- the same rows, with these files alone
abbrev pub having : Held → List Filed → Held
having held fs = record { store = held.store; rows = held.rows; files = fs; stands = held.stands }

-- nothing is listed at the places of these files
abbrev pub AreUnlisted : List Filed → List Filed → Type 0
AreUnlisted files limbo = All (λ (f : Filed). file_at (filed_at f) files ≡ None) limbo

-- Files in limbo: each is of a row and a partition, is one of its row where what is held stands, and isn't listed. No two are of one place.
pub record AreInLimbo (g : Granularity) (held : Held) (limbo : List Filed) : Type 0 where
  pub listed : All (IsListed g held.rows) limbo
  pub filed : IsTrue held.stands → All (IsFiled g held.rows) limbo
  pub unlisted : AreUnlisted held.files limbo
  pub one : All (λ (f : Filed). All (λ (h : Filed). filed_at h ≡ filed_at f → h ≡ f) limbo) limbo

-- where the entries list the file's name, they do so to its length at least
abbrev pub ListsNoShorter : Shelf → List Entry → Filed → Type 0
ListsNoShorter shelf entries f = All (λ (e : Entry). file_of shelf e ≡ file_of shelf f.entry → f.entry.len ≤ e.len) entries

-- The batch is flushed as if the files in limbo were listed. Of these just those are listed then that were written: each written file ends
-- its row, and one that was there is longer now, behind a header of the same length. What was listed is listed still, and neither that nor what was in limbo is cut.
pub record FlushesOver (held : Held) (limbo : List Filed) (batch : List RowSamples) (new : Held) : Type 0 where
  pub written : List Filed
  pub lists : new ≡ with_files held written
  pub still : ListsStill (listing_of held) (listing_of new)
  pub no_shorter : All (ListsNoShorter (shelf_of held) (map entry_of new.files)) (put_all held.files limbo)
  pub flushed : IsFlushed (with_files held limbo) batch (with_files (with_files held limbo) written)
  pub rise : PlacesRise written
  pub ends : All (EndsRow (put_all held.files limbo)) written
  pub longer : All (λ (f : Filed). (old : Filed) → file_at (filed_at f) (put_all held.files limbo) ≡ Some old → old.entry.len < f.entry.len) written
  pub heads : All (λ (f : Filed). (old : Filed) → file_at (filed_at f) (put_all held.files limbo) ≡ Some old → f.entry.head_len ≡ old.entry.head_len) written
