-- Counts of faults, and what a whole write leaves.
use Rattle.std.specs.Prelude.{ℕ, ◌+◌, ◌-◌, ◌^◌, ◌≤◌, List, Option, None, min, take, length}
use Rattle.std.specs.Io.KnownBytes.{Appends}

-- A count of faults rose by one at least. It stays at the last number that a u64 can show, where it counts as risen.
abbrev pub Rose : ℕ → ℕ → Type 0
Rose before now = min (before + 1) (2 ^ 64 - 1) ≤ now

-- known bytes grow by a front of these bytes
abbrev pub AppendsFront : Option (List ℕ) → Option (List ℕ) → List ℕ → Type 0
AppendsFront old new bytes = (n : ℕ) × (n ≤ length bytes) × Appends old new (take n bytes)

-- One direction of a link: the bytes that are left to read or were written, where they are told, and how often it failed.
pub record Direction : Type 0 where
  pub bytes : Option (List ℕ)
  pub faults : ℕ

-- what has no other direction
abbrev pub no_direction : Direction
no_direction = record { bytes = None; faults = 0 }
