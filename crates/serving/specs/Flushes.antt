-- What the flusher did, by how it ended.
use Rattle.std.specs.Prelude.{◌≡◌, ◌⊎◌, ℕ, ◌≤◌, List, [], ◌∷◌, length, Bool, true, Option, Some, None, Result, Ok, Err}
use Rattle.series_model.specs.Limits.{intake_room, most_rows}
use Rattle.act_model.specs.declared.acts.Act.TheVariants.{Doors, Tick, Flush}
use Rattle.act_model.specs.declared.acts.Answer.TheVariants.{NoRow}
use Rattle.act_model.specs.declared.actor.Spent.{Spent}
use Rattle.act_model.specs.Reply.{Reply}
use Rattle.act_model.specs.History.{Done}
use Rattle.serving.specs.declared.ends.FlushEnd.{FlushEnd}
use Rattle.serving.specs.Rounds.{AreTicks, EndsAtNoRow, FlushedSo, IsFlushRound, IsLastFlush}
use Rattle.serving.specs.Timed.{RoundsAt}

-- the one Tick of a row, and whether there was none
abbrev pub TicksRow : ℕ → ℕ → Bool → List Done → Type 0
TicksRow now row none ds = (reply : Reply) × (ds ≡ record { act = Tick row now; answer = reply } ∷ []) × (none ≡ true → reply ≡ NoRow)

-- Ticks of all rows
abbrev pub TicksAll : ℕ → List Done → Type 0
TicksAll now ds = AreTicks now 0 ds × (EndsAtNoRow ds ⊎ (most_rows ≤ length ds))

-- where an end is told, the flush was answered so
abbrev pub EndsFlush : Option FlushEnd → Reply → Type 0
EndsFlush None reply = Unit {0}
EndsFlush (Some end) reply = FlushedSo end reply

-- the one Flush, and how it ended
abbrev pub FlushesAll : Option FlushEnd → List Done → Type 0
FlushesAll end ds = (reply : Reply) × (ds ≡ record { act = Flush intake_room; answer = reply } ∷ []) × EndsFlush end reply

-- a round, whose ticks are at this moment
abbrev pub FlushRoundAt : ℕ → List Done → Type 0
FlushRoundAt now ds = (round : IsFlushRound ds) × (round.now ≡ now)

-- the last round, whose ticks are at this moment
abbrev pub LastFlushAt : FlushEnd → ℕ → List Done → Type 0
LastFlushAt end now ds = (last : IsLastFlush end ds) × (last.round.now ≡ now)

-- a round, the last one where an end is told
abbrev pub IsRoundSo : ℕ → Option FlushEnd → List Done → Type 0
IsRoundSo now None ds = FlushRoundAt now ds
IsRoundSo now (Some end) ds = LastFlushAt end now ds

-- a beginning of a round, behind which no act was left
pub data FlushCutAt (now : ℕ) : List Done → Type 0 where
  no_doors_asked : FlushCutAt now []
  rows_ticked : {ticks : List Done} (first : Done) → first.act ≡ Doors → AreTicks now 0 ticks → FlushCutAt now (first ∷ ticks)

-- The flusher's rounds at these moments, of which the last ended so, or had no act left.
abbrev pub FlushesTo : Result FlushEnd Spent → List ℕ → List Done → Type 0
FlushesTo (Ok end) moments ds = RoundsAt FlushRoundAt (LastFlushAt end) moments ds
FlushesTo (Err spent) moments ds = RoundsAt FlushRoundAt FlushCutAt moments ds
