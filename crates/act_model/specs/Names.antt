-- Names: the names of rows are told in the order of their numbers, so many at a time.
use Rattle.std.specs.Prelude.{ℕ, ◌+◌, List, length, take, drop, map, nat_lt}
use Rattle.act_model.specs.Machine.{Machine}
use Rattle.act_model.specs.Outcome.{Ends}
use Rattle.act_model.specs.Reply.{Reply}
use Rattle.act_model.specs.Rows.{RowState}
use Rattle.act_model.specs.declared.acts.Answer.TheVariants.{NamesAre}

-- so many names from a number on
abbrev pub names_from : ℕ → ℕ → Machine → List (List ℕ)
names_from from most m = take most (drop from (map (λ (row : RowState). row.name) m.rows))

abbrev pub NamesStep : ℕ → ℕ → Machine → Reply → Machine → Type 0
NamesStep from most old answer new = Ends (record { answer = NamesAre (names_from from most old) (nat_lt (from + most) (length old.rows)); after = old }) old answer new
