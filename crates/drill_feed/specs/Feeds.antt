-- The doors of a drill, and the connections that they give.
use Rattle.std.specs.Prelude.{ℕ, ◌+◌, ◌*◌, [], ◌∷◌, false}
use Rattle.edge_io.specs.Memory.{Calls}
use Rattle.edge_io.specs.Doors.{Both, ListedLinks}
use Rattle.drill_feed.specs.Workload.{chunk_text}

-- calls of which none was made, and none fails
abbrev pub none_fails : Calls
none_fails = record { failing = []; made = 0; faults = 0 }

-- the connection of a variable's feed, with room for what it is replied
abbrev pub feed_link : ℕ → ℕ → Both
feed_link hours variable = record { input = record { left = chunk_text hours variable; calls = none_fails }; output = record { written = []; room = 128; calls = none_fails } }

-- a door that has given none of its two connections
abbrev pub feed_door : ℕ → ℕ → ListedLinks Both
feed_door hours number = record { left = feed_link hours (2 * number) ∷ feed_link hours (2 * number + 1) ∷ []; out = 0; back = []; closed = false; calls = none_fails }
