-- Register: a variable gets a row. It is refused where a row has the name, where a row has the name's key, and where there are 65,536
-- rows, in this order. The new row is running and has no samples.
use Rattle.std.specs.Prelude.{◌≡◌, ℕ, List, length, if◌then◌else◌, nat_le, Option, Some, None}
use Rattle.series_model.specs.Limits.{most_rows}
use Rattle.pb_messages.specs.declared.about.About.{About}
use Rattle.act_model.specs.Machine.{Machine, AddsRow, find_row, with_key}
use Rattle.act_model.specs.Outcome.{Acts, all_go, Makes}
use Rattle.act_model.specs.Reply.{Reply}
use Rattle.act_model.specs.declared.acts.Answer.TheVariants.{NameTaken, KeyTaken, CatalogueFull, Registered}

-- why the name gets no row, if it gets none
abbrev pub register_refused : List ℕ → Machine → Option Reply
register_refused name m = by_name (find_row m name)
  where
    by_key : Option ℕ → Option Reply
    by_key (Some i) = Some (KeyTaken i)
    by_key None = if nat_le most_rows (length m.rows) then Some CatalogueFull else None

    by_name : Option ℕ → Option Reply
    by_name (Some i) = Some (NameTaken i)
    by_name None = by_key (with_key m name)

-- the row is added, and told by its number
abbrev pub Registers : List ℕ → About → Machine → Reply → Machine → Type 0
Registers name about mid answer new = (answer ≡ Registered (length mid.rows)) × Makes (AddsRow name about) mid new

abbrev pub RegisterStep : List ℕ → About → Machine → Reply → Machine → Type 0
RegisterStep name about old answer new = Acts (register_refused name) (Registers name about) (λ m. Some (AddsRow name about)) all_go old answer new
