-- A move that is taken out of the table for its next step, and the machine once what it has copied is listed.
use Rattle.std.specs.FinMap.{get}
use Rattle.std.specs.Prelude.{◌≡◌, ℕ, [], Bool, Some}
use Rattle.etl_mover.specs.Move.{Moving}
use Rattle.moves.specs.declared.table.Running.{Running}
use Rattle.tier_store.specs.Pinned.{beside}
use Rattle.act_model.specs.Changes.{made}
use Rattle.act_model.specs.Machine.{Machine, MoveState, Change, HasPublished, Publishes}
use Rattle.act_model.specs.MoveBegin.{with_move}
use Rattle.act_model.specs.MoveStep.{moved, without_move}
use Rattle.act_model.specs.Sound.{IsSound}
use Rattle.archive_core.specs.MoveTies.{IsMoveOf}
use Rattle.archive_core.specs.Parts.{Parts}
use Rattle.archive_core.specs.Stands.{Rests}

-- Without the move of this number the archive stands for the machine without it, and nothing stands in doubt. The move is the machine's.
pub record Taken (tells : Bool) (p : Parts) (n : ℕ) (running : Running Moving) (m : Machine) (move : MoveState) : Type 0 where
  pub here : get m.moves n ≡ Some move
  pub sound : IsSound m
  pub rests : Rests tells p (without_move n m)
  pub is : IsMoveOf tells (beside p.at p.limbo) m.told m.rows m.limbo rests.stands.store.before move running

-- what a move has copied is listed
abbrev pub listing : MoveState → Change
listing move = Publishes move.row move.store move.copied

-- the machine once it is, with the move at its next stage
abbrev pub with_listed : ℕ → MoveState → Machine → Machine
with_listed n move m = with_move n (moved move HasPublished move.copied) (made [] (listing move) m)
