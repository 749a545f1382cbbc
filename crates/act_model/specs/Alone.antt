-- One who acts on an archive alone. What such an actor knows is a chain of values of the archive, each one act further than the one
-- before, whatever state that one stands for.
use Rattle.std.specs.Prelude.{◌≡◌, ℕ, List, [], ◌∷◌}
use Rattle.act_model.specs.Machine.{Machine}
use Rattle.act_model.specs.Step.{Step, MayAsk}
use Rattle.act_model.specs.History.{Entry, own}

module _ {A : Type 0} (stands : A → Machine → Type 0) where
  -- an act that may be asked leads from one value to another: whatever machine the one stands for, the other stands for one that is a step further
  abbrev pub Applied : A → Entry → A → Type 0
  Applied old e new = MayAsk e.act × ((m : Machine) → stands old m → (n : Machine) × Step e.who e.act m e.answer n × stands new n)

-- Of each act it is known besides what it leaves, as of a disk.
module _ {A : Type 0} (stands : A → Machine → Type 0) (leaves : A → Entry → A → Type 0) where
  -- one value leads to another by these acts, one after another
  abbrev pub Chain : A → List Entry → A → Type 0
  Chain old [] new = new ≡ old
  Chain old (e ∷ rest) new = (mid : A) × Applied stands old e mid × leaves old e mid × Chain mid rest new

  -- just these acts, all under this number
  pub record Alone (who : ℕ) (old : A) (entries : List Entry) (new : A) : Type 0 where
    pub chain : Chain old entries new
    pub all_mine : own who entries ≡ entries
