-- What becomes of a destination's file.
use Rattle.std.specs.Prelude.{◌≡◌, ◌+◌, ℕ, List, ◌++◌, length, Option, IsTrue}
use Rattle.partition_names.specs.declared.granularity.Granularity.{Granularity}
use Rattle.durable_write.specs.Held.{Filed, Held, IsFiled, IsListed, bytes_of, filed_at}
use Rattle.durable_write.specs.Flush.{bytes_at, len_at, start_of}

-- the file is of its row, and has these bytes behind those that were ahead of it
pub record HasBytes (g : Granularity) (held : Held) (bytes : List ℕ) (f : Filed) : Type 0 where
  pub filed : IsFiled g held.rows f
  pub are : bytes_of f ≡ bytes_at (filed_at f) held.files ++ bytes

-- bytes go behind place `at` of the file of f's entry, where a file is ahead that is to be listed so long; elsewhere it is made anew
pub record IsPlaced (g : Granularity) (held : Held) (at : Option ℕ) (f : Filed) : Type 0 where
  pub listed : IsListed g held.rows f
  pub place : at ≡ len_at (filed_at f) held.files

-- and f is the file with these bytes there
pub record BecomesFile (g : Granularity) (held : Held) (at : Option ℕ) (bytes : List ℕ) (f : Filed) : Type 0 where
  pub placed : IsPlaced g held at f
  pub len : f.entry.len ≡ start_of at + length bytes
  pub own : IsTrue held.stands → HasBytes g held bytes f
