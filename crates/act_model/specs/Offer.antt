-- Offer: a sample comes for a variable. Where no reason to drop it applies and the intake has room, a monitored row's tail gains it; a
-- sampled row holds it until a tick. No file is touched.
use Rattle.std.specs.Prelude.{ℕ, ◌+◌, List, [], ◌∷◌, ◌++◌, length, if◌then◌else◌, nat_lt, Option, Some, None, slice_get}
use Rattle.pb_messages.specs.declared.about.Method.{Method}
use Rattle.pb_messages.specs.declared.about.Method.TheVariants.{Monitor, Scan}
use Rattle.pb_wire.specs.declared.payload.PayloadType.{PayloadType}
use Rattle.series_model.specs.Limits.{intake_room}
use Rattle.series_model.specs.Admission.{refused_by_row, refused_by_time}
use Rattle.series_model.specs.Sampling.{cell_after}
use Rattle.series_model.specs.declared.admission.Reason.{Reason}
use Rattle.series_model.specs.declared.admission.Reason.TheVariants.{Unknown}
use Rattle.series_model.specs.declared.sample.Sample.{Sample}
use Rattle.series_model.specs.declared.sampling.ScanEvent.TheVariants.{Offered}
use Rattle.act_model.specs.Changes.{with_rows, at}
use Rattle.act_model.specs.Machine.{Machine, find_row, held_bytes}
use Rattle.act_model.specs.Outcome.{Outcome, Ends}
use Rattle.act_model.specs.Reply.{Reply}
use Rattle.act_model.specs.Rows.{RowState, number_of, standing}
use Rattle.act_model.specs.declared.acts.Answer.TheVariants.{Dropped, IntakeFull, Kept, Held}

-- the row's tail gains the sample
abbrev pub gains : Sample → RowState → RowState
gains s row = record row { next = s.t + 1; tail = row.tail ++ s ∷ [] }

-- the row holds the sample
abbrev pub with_held : Sample → RowState → RowState
with_held s row = record row { cell = cell_after 0 row.cell (Offered s) }

-- the sample is tried by the last two reasons, and then by the room that is left
abbrev pub tried : Machine → RowState → Sample → ℕ → Outcome → Outcome
tried m row s now kept = after_reason (refused_by_time row.next s.t now)
  where
    after_reason : Option Reason → Outcome
    after_reason (Some reason) = record { answer = Dropped reason; after = m }
    after_reason None =
        if nat_lt intake_room (held_bytes m.rows + (length s.line + 1))
        then record { answer = IntakeFull (held_bytes m.rows); after = m }
        else kept

-- how an offer to this row ends
abbrev pub offered_to : Machine → ℕ → RowState → PayloadType → Sample → ℕ → Outcome
offered_to m i row ty s now = after_reason (refused_by_row (Some (standing row)) (number_of ty))
  where
    by_method : Method → Outcome
    by_method Monitor = tried m row s now (record { answer = Kept; after = with_rows m (at i (gains s)) })
    by_method (Scan period) = record { answer = Held; after = with_rows m (at i (with_held s)) }

    after_reason : Option Reason → Outcome
    after_reason (Some reason) = record { answer = Dropped reason; after = m }
    after_reason None = by_method row.about.method

-- how an offer ends
abbrev pub offered : Machine → List ℕ → PayloadType → Sample → ℕ → Outcome
offered m name ty s now = to_row (find_row m name)
  where
    to_there : ℕ → Option RowState → Outcome
    to_there i (Some row) = offered_to m i row ty s now
    to_there i None = record { answer = Dropped Unknown; after = m }

    to_row : Option ℕ → Outcome
    to_row (Some i) = to_there i (slice_get m.rows i)
    to_row None = record { answer = Dropped Unknown; after = m }

abbrev pub OfferStep : List ℕ → PayloadType → Sample → ℕ → Machine → Reply → Machine → Type 0
OfferStep name ty s now old answer new = Ends (offered old name ty s now) old answer new
