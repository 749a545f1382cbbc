use Rattle.std.proofs.Common.{◌≡◌, ℕ, ◌<◌, ◌≤◌}
use Rattle.intake.specs.Tails.{tail_at}
use Rattle.series_model.specs.Series.{since}
use Rattle.intake_half.specs.Taking.{end_in}
use Rattle.intake_half.proofs.taking.trim_tails.Given as goal

-- the rows so far have let go, and the others have what they had
abbrev pub invariant-loop-row : goal.invariant-loop-row
invariant-loop-row l = record {
  trimmed : (row : ℕ) → row < l.row → (tail_at l.intake row).samples ≡ since (end_in l.ends row) (tail_at l.fn.intake row).samples;
  others : (row : ℕ) → l.row ≤ row → (tail_at l.intake row).samples ≡ (tail_at l.fn.intake row).samples;
}
