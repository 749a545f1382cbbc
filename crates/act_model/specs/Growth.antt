-- How an archive changes over time. With every act it goes onward (`Onward`): no row goes or becomes another variable's, and of each row
-- what is durable and what is accepted only grow; a row that is retired stays as it is. So the whole of each row grows too, and where each
-- own list followed its base's whole, it still does. A move changes neither list (`RowsLike`). Over a crash and the next opening rows last
-- (`RowsLast`): each is there, for the same variable and over the same base, with no less that is durable.
use Rattle.std.specs.Prelude.{◌≡◌, ℕ, List, true, Some, slice_get}
use Rattle.series_model.specs.Archive.{IsPrefix}
use Rattle.pb_messages.specs.declared.about.State.TheVariants.{Retired}
use Rattle.act_model.specs.Rows.{RowState, durable, accepted}
use Rattle.act_model.specs.Machine.{Machine}
use Rattle.act_model.specs.Whole.{AllFollow}

-- the same variable's row, with no less durable and no less accepted
pub record RowOn (row new : RowState) : Type 0 where
  pub name : new.name ≡ row.name
  pub about : new.about ≡ row.about
  pub base : new.base ≡ row.base
  pub retired : row.state ≡ Retired → (new.state ≡ Retired) × (accepted new ≡ accepted row)
  pub durable_on : IsPrefix (durable row) (durable new)
  pub accepted_on : IsPrefix (accepted row) (accepted new)

-- each row is there still, and goes on
abbrev pub RowsOn : List RowState → List RowState → Type 0
RowsOn rows news = (i : ℕ) (row : RowState) → slice_get rows i ≡ Some row → (new : RowState) × (slice_get news i ≡ Some new) × RowOn row new

-- the same disk under the same rule, and rows that go on and follow their bases as before
pub record Onward (old new : Machine) : Type 0 where
  pub told : new.told ≡ old.told
  pub rule : new.rule ≡ old.rule
  pub rows : old.told ≡ true → RowsOn old.rows new.rows
  pub follow : old.told ≡ true → AllFollow accepted old.rows → AllFollow accepted new.rows

-- the same is durable, and the same is accepted
pub record RowLike (row new : RowState) : Type 0 where
  pub durable_is : durable new ≡ durable row
  pub accepted_is : accepted new ≡ accepted row

-- each row is there still, with both lists as they were
abbrev pub RowsLike : List RowState → List RowState → Type 0
RowsLike rows news = (i : ℕ) (row : RowState) → slice_get rows i ≡ Some row → (new : RowState) × (slice_get news i ≡ Some new) × RowLike row new

-- the same variable's row, with no less durable
pub record RowLasts (row new : RowState) : Type 0 where
  pub name : new.name ≡ row.name
  pub about : new.about ≡ row.about
  pub base : new.base ≡ row.base
  pub durable_on : IsPrefix (durable row) (durable new)

-- each row is there still, and lasts
abbrev pub RowsLast : List RowState → List RowState → Type 0
RowsLast rows news = (i : ℕ) (row : RowState) → slice_get rows i ≡ Some row → (new : RowState) × (slice_get news i ≡ Some new) × RowLasts row new
