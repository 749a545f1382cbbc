-- What the archive stands for once a move begins.
use Rattle.std.specs.Prelude.{ℕ, Bool}
use Rattle.act_model.specs.Machine.{Machine}
use Rattle.act_model.specs.MoveBegin.{Begins}
use Rattle.act_model.specs.Reply.{Reply}
use Rattle.act_model.specs.Rows.{Store}
use Rattle.archive_core.specs.Parts.{Parts}
use Rattle.archive_core.specs.Stands.{Stands}

-- the machine goes on so, and the archive stands for what it comes to
abbrev pub BeginsThere : Bool → Store → ℕ → Machine → Reply → Parts → Type 0
BeginsThere tells store now m given p = (n : Machine) × Begins store now m given n × Stands tells p n
