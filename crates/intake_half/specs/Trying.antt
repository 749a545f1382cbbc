-- A sample is tried: by the last two reasons to drop it, by the room that is left, and by the memory for it.
use Rattle.std.specs.Prelude.{◌≡◌, ◌≤◌, ◌<◌, ◌+◌, ◌++◌, ◌∷◌, [], ℕ, List, length, true, Some, None, Result, Ok, Err}
use Rattle.intake.specs.Tails.{TailState, tail_at, held_bytes, KeepsTails, SetsTail}
use Rattle.intake.specs.Row.{SampledRow, after}
use Rattle.series_model.specs.Limits.{intake_room}
use Rattle.series_model.specs.declared.sample.Sample.{Sample}
use Rattle.series_model.specs.declared.sampling.ScanEvent.TheVariants.{Offered, Ticked}
use Rattle.series_model.specs.Admission.{refused_by_time}
use Rattle.act_model.specs.declared.answers.Offered.{Offered as OfferAnswer}
use Rattle.act_model.specs.declared.answers.Offered.TheVariants as offer
use Rattle.act_model.specs.declared.answers.Ticked.{Ticked as TickAnswer}
use Rattle.act_model.specs.declared.answers.Ticked.TheVariants as answer
use Rattle.intake_half.specs.declared.memory.RowMemory.{RowMemory}
use Rattle.intake_half.specs.declared.trying.NotKept.{NotKept}
use Rattle.intake_half.specs.declared.trying.NotKept.TheVariants as refusal

-- So it ends, of a row that takes samples from `next` on, where `held` bytes are held: for a sample at `t` whose line has `len` bytes. Memory is
-- wanting only where no reason speaks against the sample and there is room for it.
abbrev pub IsTried : ℕ → ℕ → ℕ → ℕ → ℕ → Result (Unit {0}) NotKept → Type 0
IsTried next held t len now (Ok a) = (refused_by_time next t now ≡ None) × (held + (len + 1) ≤ intake_room)
IsTried next held t len now (Err (refusal.Dropped reason)) = refused_by_time next t now ≡ Some reason
IsTried next held t len now (Err (refusal.IntakeFull bytes)) = (refused_by_time next t now ≡ None) × (intake_room < held + (len + 1)) × (bytes ≡ held)
IsTried next held t len now (Err refusal.Memory) = (refused_by_time next t now ≡ None) × (held + (len + 1) ≤ intake_room)

-- So an offer ends to a row with this memory, over these tails, where none of the first three reasons applies: what it is answered, and
-- the tails and the memory then.
abbrev pub IsOffered : List TailState → RowMemory → ℕ → Sample → ℕ → OfferAnswer → List TailState → RowMemory → Type 0
IsOffered old memory row s now offer.Held new kept = (sampled : SampledRow) × (memory.scan ≡ Some sampled) × KeepsTails old new × (kept ≡ record memory { scan = Some (after sampled (Offered s)) })
IsOffered old memory row s now offer.Kept new kept = (memory.scan ≡ None) × IsTried memory.next (held_bytes old) s.t (length s.line) now (Ok tt) × SetsTail row ((tail_at old row).samples ++ s ∷ []) old new × (kept ≡ record memory { next = s.t + 1 })
IsOffered old memory row s now (offer.Dropped reason) new kept = (memory.scan ≡ None) × (refused_by_time memory.next s.t now ≡ Some reason) × KeepsTails old new × (kept ≡ memory)
IsOffered old memory row s now (offer.IntakeFull bytes) new kept = (memory.scan ≡ None) × IsTried memory.next (held_bytes old) s.t (length s.line) now (Err (refusal.IntakeFull bytes)) × KeepsTails old new × (kept ≡ memory)
IsOffered old memory row s now offer.Memory new kept = (memory.scan ≡ None) × IsTried memory.next (held_bytes old) s.t (length s.line) now (Err refusal.Memory) × KeepsTails old new × (kept ≡ memory)

-- the row has given up what it held for a tick, and is due a period later
abbrev pub moved_on : RowMemory → SampledRow → ℕ → RowMemory
moved_on memory sampled now = record memory { scan = Some (after sampled (Ticked now true)) }

-- So a tick that is due ends, of a sampled row with this memory, over these tails: what it is answered, and the tails and the memory then.
abbrev pub IsTickedDue : List TailState → RowMemory → SampledRow → ℕ → ℕ → TickAnswer → List TailState → RowMemory → Type 0
IsTickedDue old memory sampled row now answer.TickNone new kept = (sampled.cell.held ≡ None) × KeepsTails old new × (kept ≡ moved_on memory sampled now)
IsTickedDue old memory sampled row now (answer.Dropped reason) new kept = (s : Sample) × (sampled.cell.held ≡ Some s) × (refused_by_time memory.next s.t now ≡ Some reason) × KeepsTails old new × (kept ≡ moved_on memory sampled now)
IsTickedDue old memory sampled row now (answer.IntakeFull bytes) new kept = (s : Sample) × (sampled.cell.held ≡ Some s) × IsTried memory.next (held_bytes old) s.t (length s.line) now (Err (refusal.IntakeFull bytes)) × KeepsTails old new × (kept ≡ memory)
IsTickedDue old memory sampled row now answer.Memory new kept = (s : Sample) × (sampled.cell.held ≡ Some s) × IsTried memory.next (held_bytes old) s.t (length s.line) now (Err refusal.Memory) × KeepsTails old new × (kept ≡ memory)
IsTickedDue old memory sampled row now (answer.TickKept t) new kept =
    (s : Sample) × (sampled.cell.held ≡ Some s) × (t ≡ s.t) × IsTried memory.next (held_bytes old) s.t (length s.line) now (Ok tt) × SetsTail row ((tail_at old row).samples ++ s ∷ []) old new × (kept ≡ record (moved_on memory sampled now) { next = s.t + 1 })
IsTickedDue old memory sampled row now answer.NoRow new kept = ⊥
IsTickedDue old memory sampled row now (answer.NotDue due) new kept = ⊥
