-- What the three stores hold together: the rows, and in each store the partition files that are listed.
use Rattle.std.specs.Prelude.{ℕ, zero, suc, ◌+◌, List, [], ◌∷◌, Bool, nat_eq, if◌then◌else◌}
use Rattle.series_model.specs.declared.sample.Sample.{Sample}
use Rattle.series_model.specs.Series.{over}
use Rattle.pv_catalog.specs.Lines.{line}
use Rattle.pv_catalog.specs.declared.row.Row.{Row}
use Rattle.durable_write.specs.Held.{Filed, Held, samples_of}

-- The rows, and the files that stores 1, 2 and 3 list of them, each in the order of rows and time. Where it stands, the files of all
-- three are as they are listed. Where it doesn't, somebody else has damaged some: nothing is known of their bytes and samples then.
pub record Stores : Type 0 where
  pub rows : List Row
  pub short : List Filed
  pub medium : List Filed
  pub long : List Filed
  pub stands : Bool

-- the list of the store at this place, which is its number less one
abbrev pub at_place : ℕ → List Filed → List Filed → List Filed → List Filed
at_place zero short medium long = short
at_place (suc zero) short medium long = medium
at_place (suc (suc i)) short medium long = long

abbrev pub list_at : ℕ → Stores → List Filed
list_at i s = at_place i s.short s.medium s.long

-- the store at this place
abbrev pub tier : ℕ → Stores → Held
tier i s = record { store = i + 1; rows = s.rows; files = list_at i s; stands = s.stands }

-- the same stores, but at this place with other files
abbrev pub with_list : ℕ → List Filed → Stores → Stores
with_list i files s = record {
  rows = s.rows;
  short = if nat_eq i 0 then files else s.short;
  medium = if nat_eq i 1 then files else s.medium;
  long = if nat_eq i 2 then files else s.long;
  stands = s.stands;
}

-- the same files under other rows
abbrev pub with_rows : Stores → List Row → Stores
with_rows s rows = record { rows = rows; short = s.short; medium = s.medium; long = s.long; stands = s.stands }

-- What is held of a row itself: a later store's samples go before an earlier one's, which are held where they are later than all of those.
abbrev pub samples_in : ℕ → Stores → List Sample
samples_in row s = over (over (samples_of row s.long) (samples_of row s.medium)) (samples_of row s.short)

-- over samples those of rows, one row after another
abbrev pub overs : Stores → List Sample → List ℕ → List Sample
overs s xs [] = xs
overs s xs (row ∷ rows) = overs s (over xs (samples_in row s)) rows

-- The whole of a row: what is held of the variable under all its names up to the row's, the first one's before. A variable that was renamed
-- has a row for each name, over the one before it.
abbrev pub whole_in : ℕ → Stores → List Sample
whole_in row s = overs s [] (line s.rows row)
