-- Which move is to be made, as the machine has it by samples, from what the stores list.
use Rattle.std.specs.FinMap.{get}
use Rattle.std.specs.Prelude.{◌≡◌, ◌<◌, ℕ, List, map, take, true, Option, Some, None, IsSome, IsTrue, slice_index}
use Rattle.moves.specs.Series.{of_series}
use Rattle.moves.specs.declared.parts.MoveRule.{MoveRule}
use Rattle.moves.specs.declared.series.ToMove.{ToMove}
use Rattle.moves.specs.declared.series.ToMove.TheVariants as chosen
use Rattle.partition_names.specs.declared.part.Part.{Part}
use Rattle.pv_catalog.specs.Catalogue.{CatalogueState}
use Rattle.store_manifest.specs.Manifest.{ManifestState}
use Rattle.durable_write.specs.Held.{Filed, entry_of}
use Rattle.durable_write.specs.Plan.{of_row}
use Rattle.tier_store.specs.Beginning.{parts_at}
use Rattle.tier_store.specs.Change.{IsKnown}
use Rattle.tier_store.specs.Seen.{granularities}
use Rattle.tier_store.specs.Stores.{Stores, list_at}
use Rattle.act_model.specs.Machine.{Machine, MoveState}
use Rattle.act_model.specs.MoveBegin.{Begins, IsMoving, new_move, with_move}
use Rattle.act_model.specs.Outcome.{Same}
use Rattle.act_model.specs.Rows.{Store}
use Rattle.act_model.specs.Rule.{Rule, index_of}
use Rattle.act_model.specs.declared.acts.Answer.TheVariants as answer
use Rattle.archive_core.specs.MoveTies.{ends_from}
use Rattle.archive_core.specs.Stands.{HoldsDurable}

-- WHAT THE STORES LIST

-- The stores have what is durable of the machine, in partitions of its rule, and stand where its samples are told.
pub record HaveDurable (catalogue : CatalogueState) (ms : List ManifestState) (s : Stores) (m : Machine) : Type 0 where
  pub known : IsKnown catalogue ms s
  pub holds : HoldsDurable s m
  pub rule : m.rule.granularity ≡ granularities ms
  pub stands : m.told ≡ true → IsTrue s.stands

-- the files that a store lists of a row
abbrev pub row_files : Stores → Store → ℕ → List Filed
row_files s store i = of_row i (list_at (index_of store) s)

-- their partitions
abbrev pub file_parts : List Filed → List Part
file_parts files = map (λ (f : Filed). f.entry.part) files

-- THE CHOICE

-- what the rule says of moves out of a store, at a moment
abbrev pub move_rule : Rule → Store → ℕ → MoveRule
move_rule rule store now = record { hold = slice_index rule.hold (index_of store); gather = slice_index rule.gather (index_of store); at = now }

-- how many partitions of a row are to move out of a store
abbrev pub parts_to_move : Machine → Stores → Store → ℕ → ℕ → ℕ
parts_to_move m s store now i = parts_at (move_rule m.rule store now) (index_of store) s i

-- where the n oldest partitions of a row in a store end
abbrev pub move_end : Stores → Store → ℕ → ℕ → ℕ
move_end s store i n = ends_from 0 (take n (of_series i (map entry_of (list_at (index_of store) s))))

-- by rows these are the numbers of the moves that run
pub record AreNumbers (m : Machine) (running : ℕ → Option ℕ) : Type 0 where
  pub runs : (i n : ℕ) → running i ≡ Some n → IsMoving m i n
  pub all : (n : ℕ) (move : MoveState) → get m.moves n ≡ Some move → IsSome (running move.row)

-- The machine goes on as chosen: the move begins under the least number that is free, or none does.
abbrev pub GoesOnBy : Machine → Stores → Store → ℕ → ToMove → Type 0
GoesOnBy m s store now (chosen.Begin i n) = (k : ℕ) (new : Machine) → get m.moves k ≡ None → ((j : ℕ) → j < k → IsSome (get m.moves j)) → Same (with_move k (new_move store i n (move_end s store i n)) m) new → Begins store now m (answer.Begun k i n) new
GoesOnBy m s store now (chosen.Running k) = (new : Machine) → Same m new → Begins store now m (answer.Busy k) new
GoesOnBy m s store now chosen.Nothing = (new : Machine) → Same m new → Begins store now m (answer.Nothing m.doors) new
