-- How many files each store lists in the end, by the shipped settings: hours, of which a move takes 3 where 5 are ripe; days, of which a
-- move takes 1 where 2 are ripe; and years.
use Rattle.std.specs.Prelude.{◌≡◌, ℕ, zero, suc, ◌+◌, ◌-◌, ◌*◌, ◌/◌, ◌==◌, List, map, if◌then◌else◌}
use Rattle.std.specs.List.{range_with_len}
use Rattle.etl_rules.specs.Choosing.{chosen, ripe}
use Rattle.drill_feed.specs.declared.tiers.Tiers.{Tiers}

-- how many of so many ripe partitions are left after so many moves
abbrev pub after_moves : ℕ → ℕ → ℕ → ℕ → ℕ
after_moves hold gather count zero = count
after_moves hold gather count (suc moves) = let left = after_moves hold gather count moves in left - chosen hold gather left

-- so many are left when no move is due any more
pub record IsLeft (hold gather count left : ℕ) : Type 0 where
  pub moves : ℕ
  pub after : left ≡ after_moves hold gather count moves
  pub settled : chosen hold gather left ≡ 0

-- the ends of so many first hours and days, in hours since the first sample's minute
abbrev pub hour_ends : ℕ → List ℕ
hour_ends count = map (λ hour. hour + 1) (range_with_len 0 count)

abbrev pub day_ends : ℕ → List ℕ
day_ends count = map (λ day. 24 * (day + 1)) (range_with_len 0 count)

-- how many days hold one of so many first hours
abbrev pub days_of : ℕ → ℕ
days_of hours = (hours + 23) / 24

-- Of each of the four variables each hour is a partition of the short store. Now is one hour behind the end of the last.
pub record AreTiers (hours : ℕ) (tiers : Tiers) : Type 0 where
  pub hours_left : ℕ
  pub days_left : ℕ
  pub hours_moved : ℕ
  pub days_moved : ℕ
  pub hours_settle : IsLeft 5 3 (ripe (hours + 1) (hour_ends hours)) hours_left
  pub hours_go : hours_left + hours_moved ≡ ripe (hours + 1) (hour_ends hours)
  pub days_settle : IsLeft 2 1 (ripe (hours + 1) (day_ends (days_of hours_moved))) days_left
  pub days_go : days_left + days_moved ≡ ripe (hours + 1) (day_ends (days_of hours_moved))
  pub short : tiers.short ≡ 4 * (hours - hours_moved)
  pub medium : tiers.medium ≡ 4 * (days_of hours_moved - days_moved)
  pub long : tiers.long ≡ 4 * (if days_moved == 0 then 0 else 1)
