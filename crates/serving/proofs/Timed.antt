-- Rounds at moments, as rounds of the law of the end.
use Rattle.std.proofs.Common.{ℕ, List, Ok}
use Rattle.act_model.specs.History.{Done}
use Rattle.serving.specs.declared.ends.FlushEnd.{FlushEnd}
use Rattle.serving.specs.declared.ends.MoverEnd.{MoverEnd}
use Rattle.serving.specs.Rounds.{AreRounds, no_round, one_more, IsFlushRound, IsFlushing, IsMoveRound, IsMoving}
use Rattle.serving.specs.Flushes.{FlushRoundAt, FlushesTo}
use Rattle.serving.specs.Moves.{MoveRoundAt, MovesTo}
use Rattle.serving.specs.Timed.{AreRoundsAt, no_round_at, one_more_at}

rounds_of : (Round : ℕ → List Done → Type 0) (Plain : List Done → Type 0) → ((now : ℕ) (ds : List Done) → Round now ds → Plain ds) → (moments : List ℕ) (ds : List Done) → AreRoundsAt Round moments ds → AreRounds Plain ds
rounds_of Round Plain go all ds no_round_at = no_round
rounds_of Round Plain go all ds (one_more_at {moments} {before} {round} now rounds last) = one_more (rounds_of Round Plain go moments before rounds) (go now round last)

pub flushing_is : (end : FlushEnd) (moments : List ℕ) (ds : List Done) → FlushesTo (Ok end) moments ds → IsFlushing end ds
flushing_is end moments ds r = record { before = r.before; round = r.last; is = r.is; rounds = rounds_of FlushRoundAt IsFlushRound (λ now ds p. p.0) r.earlier r.before r.rounds; last = r.ends.0 }

pub moving_is : (end : MoverEnd) (moments : List ℕ) (ds : List Done) → MovesTo (Ok end) moments ds → IsMoving end ds
moving_is end moments ds r = record { before = r.before; round = r.last; is = r.is; rounds = rounds_of MoveRoundAt IsMoveRound (λ now ds p. p.0) r.earlier r.before r.rounds; last = r.ends.0.0; ends = r.ends.1 }
