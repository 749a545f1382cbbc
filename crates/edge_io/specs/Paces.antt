-- How long writes may still wait.
use Rattle.std.specs.Prelude.{◌≡◌, ℕ, ◌+◌, ◌-◌, ◌*◌, min}
use Rattle.std.specs.Duration.{as_nanos}
use Rattle.edge_io.specs.declared.tcp.Pace.{Pace}
use Rattle.edge_io.specs.declared.tcp.Patience.{Patience}

-- all that a pace allows, in nanoseconds
abbrev pub most_of : Pace → ℕ
most_of pace = pace.most * 1_000_000

-- Nothing has waited yet.
pub record IsWhole (p : Pace) (patience : Patience) : Type 0 where
  pub pace : patience.pace ≡ p
  pub left : as_nanos patience.left ≡ most_of p

-- A write waited so many nanoseconds.
pub record Waited (time : ℕ) (old new : Patience) : Type 0 where
  pub pace : new.pace ≡ old.pace
  pub left : as_nanos new.left ≡ as_nanos old.left - time

-- So many bytes were taken.
pub record Took (count : ℕ) (old new : Patience) : Type 0 where
  pub pace : new.pace ≡ old.pace
  pub left : as_nanos new.left ≡ min (as_nanos old.left + count * old.pace.byte * 1_000_000) (most_of old.pace)
