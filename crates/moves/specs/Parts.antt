-- How many of the oldest partitions of a series move from a store to the next.
use Rattle.std.specs.Prelude.{ℕ, ◌-◌, Bool, false, List, length, map, count_by, min, max, nat_le, Option, Some, None, slice_get}
use Rattle.series_model.specs.Limits.{most_parts}
use Rattle.etl_rules.specs.Choosing.{chosen, ripe}
use Rattle.store_manifest.specs.declared.entry.Entry.{Entry}
use Rattle.moves.specs.declared.parts.MoveRule.{MoveRule}

-- the moment at which its partition ends
abbrev pub end_of : Entry → ℕ
end_of e = e.part.end

-- its last sample isn't later than that of the other, if there is one
abbrev pub is_covered : Option Entry → Entry → Bool
is_covered None e = false
is_covered (Some last) e = nat_le e.last last.last

-- how many partitions of the source are covered: their last samples aren't later than the destination's last one
abbrev pub covered : List Entry → List Entry → ℕ
covered source destination = count_by (is_covered (slice_get destination (length destination - 1))) source

-- the larger of the chosen and the covered, but at most as many as one move may have
abbrev pub parts_of : MoveRule → List Entry → List Entry → ℕ
parts_of rule source destination = min most_parts (max (chosen rule.hold rule.gather (ripe rule.at (map end_of source))) (covered source destination))
