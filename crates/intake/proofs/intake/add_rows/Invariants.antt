use Rattle.std.proofs.Common.{◌≡◌, ℕ, ◌≤◌, ◌^◌, vec_len}
use Rattle.intake.specs.Tails.{tail_at, held_bytes}
use Rattle.intake.proofs.intake.add_rows.Given as goal

-- the rows so far have tails, and those that are new hold nothing
abbrev pub invariant-loop-row : goal.invariant-loop-row
invariant-loop-row l = record {
  there : vec_len l.tails ≡ l._row;
  more : vec_len l.fn.tails ≤ l._row;
  same : (other : ℕ) → tail_at l.tails.items other ≡ tail_at l.fn.tails.items other;
  held : held_bytes l.tails.items ≡ held_bytes l.fn.tails.items;
  few : vec_len l.tails ≤ 2 ^ 32;
}
