-- What a step of copying writes, as samples: those that follow of a part's file, in a file of the destination.
use Rattle.std.specs.Prelude.{◌≡◌, ◌≢◌, ◌+◌, ℕ, List, [], ◌++◌, Option, None, Some, take}
use Rattle.etl_mover.specs.Growing.{BecomesFile}
use Rattle.etl_mover.specs.Move.{Moving}
use Rattle.etl_mover.specs.Step.{written_at}
use Rattle.pb_lines.specs.File.{lines_of}
use Rattle.partition_names.specs.declared.granularity.Granularity.{Granularity}
use Rattle.pv_catalog.specs.declared.row.Row.{Row}
use Rattle.series_model.specs.declared.sample.Sample.{Sample}
use Rattle.store_manifest.specs.Entries.{Place}
use Rattle.store_manifest.specs.declared.entry.Entry.{Entry}
use Rattle.durable_write.specs.Flush.{file_at}
use Rattle.durable_write.specs.Held.{Filed, Held, IsFiled, bytes_of, filed_at}

-- the first moment that is later than an entry's last one, and 0 where there is no entry
abbrev pub end_after : Option Entry → ℕ
end_after None = 0
end_after (Some e) = e.last + 1

abbrev pub listed_samples : Option Filed → List Sample
listed_samples None = []
listed_samples (Some f) = f.samples

-- the samples of the file at a place, none where there is no file
abbrev pub samples_at : Place → List Filed → List Sample
samples_at p files = listed_samples (file_at p files)

-- the bytes begin with those of the file of a move's part
pub record IsPartFile (fine : Granularity) (rows : List Row) (move : Moving) (part : Entry) (bytes : List ℕ) (f : Filed) : Type 0 where
  pub filed : IsFiled fine rows f
  pub series : f.entry.series ≡ move.series
  pub part_is : f.entry.part ≡ part.part
  pub head_len : f.entry.head_len ≡ part.head_len
  pub begin : take f.entry.len bytes ≡ bytes_of f

-- The bytes that are written at a place are those of the next samples behind the ones that the file has, at least one; with them it is a file of
-- its row, and is to be listed by this entry.
pub record WritesNext (g : Granularity) (base : Held) (at : Option ℕ) (head lines : List ℕ) (entry : Entry) (left : List Sample) : Type 0 where
  pub file : Filed
  pub copied : List Sample
  pub more : List Sample
  pub next : left ≡ copied ++ more
  pub some : copied ≢ []
  pub entry_is : file.entry ≡ entry
  pub samples : file.samples ≡ samples_at (filed_at file) base.files ++ copied
  pub text : lines ≡ lines_of copied
  pub becomes : BecomesFile g base at (written_at at head lines) file
