-- Sources and sinks in memory, whose listed calls fail.
use Rattle.std.specs.Prelude.{ℕ, ◌+◌, ◌-◌, ◌^◌, List, Contains, min, Bool, if◌then◌else◌}

-- The numbers of the calls that fail, the first call being 1; how many calls were made, and how many failed.
pub record Calls : Type 0 where
  pub failing : List ℕ
  pub made : ℕ
  pub faults : ℕ

-- one more, up to the last number of a u64
abbrev pub counted : ℕ → ℕ
counted n = min (n + 1) (2 ^ 64 - 1)

-- after a call that failed or not
abbrev pub after_call : Calls → Bool → Calls
after_call calls failed = record calls { made = counted calls.made; faults = if failed then counted calls.faults else calls.faults }

-- the next call's number is listed
abbrev pub IsNextListed : Calls → Type 0
IsNextListed calls = Contains calls.failing (counted calls.made)

-- a source in memory: the bytes that are left, and its calls
pub record Input : Type 0 where
  pub left : List ℕ
  pub calls : Calls

-- a sink in memory: the bytes that were written, how many it has room for in all, and its calls
pub record Output : Type 0 where
  pub written : List ℕ
  pub room : ℕ
  pub calls : Calls
