-- The store half. Of its tiers only what they make durable stands here: moves, sweeps and files change nothing of it. Each list is a row's own.
use Rattle.std.specs.Prelude.{◌≡◌, ℕ, Bool, List, Option, Some, None, nat_lt, if◌then◌else◌}
use Rattle.series_model.specs.declared.sample.Sample.{Sample}
use Rattle.series_model.specs.Series.{over, since, end_of}
use Rattle.two_histories.specs.Histories.{HalfEntry}

-- samples by row
abbrev pub Lists : Type 0
Lists = ℕ → List Sample

-- change numbers by row; a row that isn't there has none
abbrev pub Numbers : Type 0
Numbers = ℕ → Option ℕ

-- what a failed write may have done: appended a batch, or added or altered rows
pub data StoreChange : Type 0 where
  Appends : (batch : Lists) → StoreChange
  Alters : (rows : ℕ → Bool) → StoreChange

-- what is durable of each row, its change number, and the change in doubt
pub record StoreHalf : Type 0 where
  pub durable : Lists
  pub changed : Numbers
  pub doubt : Option StoreChange

-- Flush carries the batch and the number that a Look told, Alter is Register, Pause and Resume of a row, or Rename, which adds one and retires
-- another, and Pin and Details carry a Look's tail
pub data StorePart : Type 0 where
  Flush : (batch : Lists) → (upto : ℕ) → StorePart
  Alter : (rows : ℕ → Bool) → StorePart
  Pin : (row : ℕ) → (tail : List Sample) → StorePart
  Rest : StorePart

-- a flush tells the end of each row, the rows changed since, and its own length; a pin what it shows
pub data StoreAnswer : Type 0 where
  Flushed : (ends : ℕ → ℕ) → (rows : Numbers) → (len : ℕ) → StoreAnswer
  Altered : StoreAnswer
  Pinned : (samples : List Sample) → StoreAnswer
  Rested : StoreAnswer
  Refused : StoreAnswer

abbrev pub StoreEntry : Type 0
StoreEntry = HalfEntry StorePart StoreAnswer StoreHalf

-- these rows have this number
abbrev pub with_number : (ℕ → Bool) → ℕ → Numbers → Numbers
with_number rows n numbers r = if rows r then Some n else numbers r

-- the half with the change made, by the entry with which its history has this length
abbrev pub made : ℕ → StoreChange → StoreHalf → StoreHalf
made n (Appends batch) m = record m { durable = λ r. over (m.durable r) (batch r) }
made n (Alters rows) m = record m { changed = with_number rows n m.changed }

-- a doubt is settled, as not made or as made
pub data Settles (n : ℕ) : StoreHalf → StoreHalf → Type 0 where
  no_doubt : {m : StoreHalf} → m.doubt ≡ None → Settles n m m
  as_not_made : {m : StoreHalf} (change : StoreChange) → m.doubt ≡ Some change → Settles n m (record m { doubt = None })
  as_made : {m : StoreHalf} (change : StoreChange) → m.doubt ≡ Some change → Settles n m (record (made n change m) { doubt = None })

-- the change that a part makes
abbrev pub change_by : StorePart → Option StoreChange
change_by (Flush batch upto) = Some (Appends batch)
change_by (Alter rows) = Some (Alters rows)
change_by (Pin row tail) = None
change_by Rest = None

-- what is written of a change: of a batch, the samples later than each row's last
abbrev pub written : StoreChange → StoreHalf → StoreChange
written (Appends batch) m = Appends (λ r. since (end_of (m.durable r)) (batch r))
written (Alters rows) m = Alters rows

abbrev pub ends_of : StoreHalf → ℕ → ℕ
ends_of m r = end_of (m.durable r)

-- the number, where it is greater
abbrev pub newer : ℕ → Option ℕ → Option ℕ
newer upto None = None
newer upto (Some n) = if nat_lt upto n then Some n else None

-- one step; a part that is refused, fails or lacks memory may have settled a doubt, and one that fails may leave its own
pub data StoreStep (n : ℕ) : StoreHalf → StorePart → StoreAnswer → StoreHalf → Type 0 where
  stays : {old : StoreHalf} {part : StorePart} → StoreStep n old part Refused old
  settles : {old mid : StoreHalf} {part : StorePart} → Settles n old mid → StoreStep n old part Refused mid
  fails : {old mid : StoreHalf} {part : StorePart} (change : StoreChange) → change_by part ≡ Some change → Settles n old mid
      → StoreStep n old part Refused (record mid { doubt = Some (written change mid) })
  flushes : {old mid : StoreHalf} (batch : Lists) (upto : ℕ) → Settles n old mid
      → StoreStep n old (Flush batch upto) (Flushed (ends_of (made n (Appends batch) mid)) (λ r. newer upto (mid.changed r)) n) (made n (Appends batch) mid)
  alters : {old mid : StoreHalf} (rows : ℕ → Bool) → Settles n old mid → StoreStep n old (Alter rows) Altered (made n (Alters rows) mid)
  pins : {old mid : StoreHalf} (row : ℕ) (tail : List Sample) → Settles n old mid → StoreStep n old (Pin row tail) (Pinned (over (mid.durable row) tail)) mid
  rests : {old mid : StoreHalf} → Settles n old mid → StoreStep n old Rest Rested mid
