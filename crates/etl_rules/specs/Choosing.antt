-- How many of a series' partitions move from a store to the next. A partition is ripe once it has ended. A store that holds none back
-- moves all that are ripe; otherwise nothing moves until as many are ripe as the store holds, and then the oldest, as many as a move
-- gathers.
use Rattle.std.specs.Prelude.{ℕ, ◌==◌, nat_le, min, List, count_by, if◌then◌else◌}

-- how many of these ends of partitions are not after now
abbrev pub ripe : ℕ → List ℕ → ℕ
ripe now ends = count_by (λ at. nat_le at now) ends

-- how many move, of so many that are ripe
abbrev pub chosen : ℕ → ℕ → ℕ → ℕ
chosen hold gather count = if hold == 0 then count else if nat_le hold count then min gather count else 0
