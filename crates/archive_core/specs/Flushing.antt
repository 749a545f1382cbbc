-- Flushing: what the intake gives up of a batch, whether store 1 lists a batch by where its rows end, and how a flush is answered.
use Rattle.std.specs.Prelude.{◌≡◌, ◌<◌, ℕ, List, [], ◌∷◌, Option, Some, IfSome, Result, Ok, Err, Vec}
use Rattle.std.specs.declared.alloc.Global.{Global}
use Rattle.intake.specs.Tails.{TailState, tail_at, held_bytes}
use Rattle.disk_model.specs.declared.disk.DiskErr.{DiskErr}
use Rattle.series_model.specs.Series.{end_of, since, IsRising}
use Rattle.series_model.specs.declared.batch.RowSamples.{RowSamples}
use Rattle.store_manifest.specs.Manifest.{ManifestState}
use Rattle.act_model.specs.Changes.{of_row}
use Rattle.act_model.specs.Reply.{Reply}
use Rattle.act_model.specs.declared.acts.Answer.TheVariants as answer
use Rattle.archive_core.specs.declared.memory.Doubt.{Doubt}
use Rattle.archive_core.specs.declared.memory.Doubt.TheVariants as doubt
use Rattle.archive_core.specs.declared.memory.RowEnd.{RowEnd}
use Rattle.archive_core.specs.Ends.{disk_reply}
use Rattle.archive_core.specs.Memory.{row_ends}
use Rattle.archive_core.specs.Opening.{end_at}
use Rattle.archive_core.specs.Parts.{Parts}

-- of each row what is later than all that the batch has of it stays, where that rises in time
abbrev pub GivesUp : List RowSamples → List TailState → List TailState → Type 0
GivesUp batch old new = (i : ℕ) → IsRising (of_row i batch) → (tail_at new i).samples ≡ since (end_of (of_row i batch)) (tail_at old i).samples

-- store 1 lists the first of these ends, so all that the batch has of its first row
abbrev pub ListsEnds : List ManifestState → List RowEnd → Type 0
ListsEnds manifests [] = Unit {0}
ListsEnds manifests (end ∷ ends) = IfSome end.last (λ last. last < end_at manifests 0 end.row)

-- Where the doubted change is a flush, and store 1 lists its batch, the intake gives that up, whichever batch with its ends it was. All else stays.
pub record IsTrimmed (manifests : List ManifestState) (d : Option Doubt) (old new : List TailState) : Type 0 where
  pub other : ((ends : Vec RowEnd Global) → d ≡ Some (doubt.Flush ends) → ListsEnds manifests ends.items → ⊥) → new ≡ old
  pub own : (ends : Vec RowEnd Global) → d ≡ Some (doubt.Flush ends) → ListsEnds manifests ends.items → (batch : List RowSamples) → row_ends batch ≡ ends.items → GivesUp batch old new

-- what is answered where so many samples became durable, by what the archive then is, or none did
abbrev pub flush_reply : Parts → Result ℕ DiskErr → Reply
flush_reply p (Ok samples) = answer.Flushed samples (held_bytes p.tails) p.doors
flush_reply p (Err e) = disk_reply e
