-- A board as an archive of one variable without samples, over a disk that tells nothing of its files.
use Rattle.std.specs.Prelude.{◌≡◌, ℕ, ◌==◌, [], ◌∷◌, false, if◌then◌else◌, Option, None, Some}
use Rattle.std.specs.FinMap.{get}
use Rattle.act_model.specs.declared.acts.Act.{Act}
use Rattle.act_model.specs.History.{Entry}
use Rattle.act_model.specs.Machine.{Machine, PinState}
use Rattle.act_model.specs.Reply.{Reply}
use Rattle.act_model.specs.Rows.{fresh_row}
use Rattle.act_model.specs.Sound.{IsSound}
use Rattle.act_model.specs.Step.{Step}
use Rattle.unit_cases.specs.declared.board.Board.{Board}

-- pin 0 is this one's and has no pieces; there is no other
abbrev pub pin_of : Option ℕ → ℕ → Option PinState
pin_of None pin = None
pin_of (Some who) pin = if pin == 0 then Some (record { owner = who; pieces = [] }) else None

-- the machines that a board stands for
pub record BoardStands (board : Board) (m : Machine) : Type 0 where
  pub sound : IsSound m
  pub rows : m.rows ≡ fresh_row board.name board.about ∷ []
  pub pins : (pin : ℕ) → get m.pins pin ≡ pin_of board.owner pin
  pub limbo : m.limbo ≡ []
  pub untold : m.told ≡ false
  pub doors : m.doors ≡ board.doors
  pub certain : m.doubt ≡ None

-- nothing of a board is on a disk, so nothing is said of what its acts leave there
abbrev pub BoardLeaves : Board → Entry → Board → Type 0
BoardLeaves old entry new = Unit {0}

-- this act with this answer leads from each state that the one stands for to one that the other stands for
abbrev pub StepsTo : ℕ → Act → Board → Reply → Board → Type 0
StepsTo who act old reply new = (m : Machine) → BoardStands old m → (n : Machine) × Step who act m reply n × BoardStands new n
