use Rattle.std.proofs.Common.{◌≡◌, ◌+◌, ◌++◌, drop}
use Rattle.intake.specs.Tails.{held_bytes, batch_from}
use Rattle.intake.proofs.intake.Intake.lend.Given as goal

-- what is taken so far, and what the rest of the rows still give, is the batch
abbrev pub invariant-loop-row : goal.invariant-loop-row
invariant-loop-row l = record {
  batch : batch_from l.limit l.self 0 0 ≡ l.parts.items ++ batch_from l.limit (drop l.row l.self) l.row l.taken;
  bytes : l.taken + held_bytes (drop l.row l.self) ≡ held_bytes l.self;
}
