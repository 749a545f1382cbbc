-- What a crash leaves of an archive: its rows with what their stores list, as they are or with one change made. What was accepted and not
-- yet durable is gone. `LeftBetween` is of a crash between acts, `LeftWithin` of one at any moment within an act, and `Between`,
-- `LiesBetween` and, of whole rows, `WholesBetween` compare what is left with what was there.
use Rattle.std.specs.Prelude.{◌≡◌, ℕ, List, [], map, Option, Some, None, slice_get}
use Rattle.series_model.specs.declared.sample.Sample.{Sample}
use Rattle.series_model.specs.Archive.{Extends, IsPrefix}
use Rattle.pb_messages.specs.declared.about.About.{About}
use Rattle.pb_messages.specs.declared.about.State.{State}
use Rattle.act_model.specs.Reply.{Reply}
use Rattle.act_model.specs.Rows.{RowState, durable, accepted}
use Rattle.act_model.specs.Machine.{Machine, Change}
use Rattle.act_model.specs.Changes.{made, Settles}
use Rattle.act_model.specs.Whole.{AllFollow, whole}

-- a row as a disk keeps it
pub record DurableRow : Type 0 where
  pub name : List ℕ
  pub about : About
  pub state : State
  pub base : Option ℕ
  pub short : List Sample
  pub medium : List Sample
  pub long : List Sample

abbrev pub kept_of : RowState → DurableRow
kept_of row = record { name = row.name; about = row.about; state = row.state; base = row.base; short = row.short; medium = row.medium; long = row.long }

-- the durable part of a state
abbrev pub kept : Machine → List DurableRow
kept m = map kept_of m.rows

-- What a crash may leave: the state as it is, or with its doubt made. What goes to limbo is no part of it.
pub data LeftBetween (m : Machine) : Machine → Type 0 where
  as_it_is : LeftBetween m m
  with_doubt : (change : Change) → m.doubt ≡ Some change → LeftBetween m (made [] change m)

-- what a crash within an act may leave: that, the settled one, or the settled one with the act's one change made
pub data LeftWithin (refuse : Machine → Option Reply) (change : Machine → Option Change) (old : Machine) : Machine → Type 0 where
  before_it : {left : Machine} → LeftBetween old left → LeftWithin refuse change old left
  settled_there : {mid : Machine} → Settles old mid → LeftWithin refuse change old mid
  with_change : {mid : Machine} (one : Change) → Settles old mid → refuse mid ≡ None → change mid ≡ Some one
      → LeftWithin refuse change old (made [] one mid)

-- what is left has each row over its base, with no less of its own than was durable and no more than was accepted; a row that wasn't there
-- has nothing of its own
pub data Between (rows : List RowState) (i : ℕ) (left : RowState) : Type 0 where
  of_row_there : (row : RowState) → slice_get rows i ≡ Some row → left.base ≡ row.base → IsPrefix (durable row) (durable left)
      → IsPrefix (durable left) (accepted row) → Between rows i left
  of_no_row : durable left ≡ [] → Between rows i left

-- the row of what is left, beside that row at the start and at the end of a run
pub record LiesBetween (start end : Machine) (i : ℕ) (left : RowState) : Type 0 where
  pub extends : (row : RowState) → slice_get start.rows i ≡ Some row → (left.base ≡ row.base) × IsPrefix (durable row) (durable left)
  pub extended : (row : RowState) → slice_get end.rows i ≡ Some row → (left.base ≡ row.base) × IsPrefix (durable left) (accepted row)

-- The wholes of what is left, beside those at the start and at the end of a run: each holds what was durable of it at the start, and is the
-- front of what is accepted at the end, but for rows that have nothing of their own in what is left. Where each own list followed its base's
-- whole at the start, it does in what is left and at the end.
pub record WholesBetween (start left end : Machine) : Type 0 where
  pub extend : Extends (whole durable left.rows) (whole durable start.rows)
  pub extended : (i : ℕ) (row : RowState) → slice_get left.rows i ≡ Some row → (durable row ≡ [] → ⊥)
      → IsPrefix (whole durable left.rows i) (whole accepted end.rows i)
  pub follow : AllFollow accepted start.rows → AllFollow durable left.rows × AllFollow accepted end.rows
