use Rattle.stream_merge.specs.Merging.{IsGoing}
use Rattle.unit_cases.proofs.merges.told_by.Given as goal

-- it answered with lines so far
abbrev pub invariant-lines : goal.invariant-lines
invariant-lines g l = record {
  going : IsGoing g.R.ReadAt.tells g.R.ReadAt.bytes l.merge;
  may : g.P.Pieces.may_open l.pieces;
}
