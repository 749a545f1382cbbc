-- Tick: a sampled row's period may be over. Where it is, what the row holds is tried as an offer is, and the row is due a period later,
-- but for a sample that found no room: that one stays for the next tick. No file is touched.
use Rattle.std.specs.Prelude.{ℕ, true, if◌then◌else◌, nat_le, Option, Some, None, slice_get}
use Rattle.series_model.specs.Sampling.{cell_after}
use Rattle.series_model.specs.declared.sample.Sample.{Sample}
use Rattle.series_model.specs.declared.sampling.ScanEvent.TheVariants.{Ticked}
use Rattle.act_model.specs.Changes.{with_rows, at}
use Rattle.act_model.specs.Machine.{Machine}
use Rattle.act_model.specs.Offer.{gains, tried}
use Rattle.act_model.specs.Outcome.{Outcome, Ends}
use Rattle.act_model.specs.Reply.{Reply}
use Rattle.act_model.specs.Rows.{RowState, is_running, period_of}
use Rattle.act_model.specs.declared.acts.Answer.TheVariants.{Dropped, NoRow, TickNone, NotDue, TickKept}

-- nothing is held, and the row is due a period later
abbrev pub moved_on : ℕ → ℕ → RowState → RowState
moved_on period now row = record row { cell = cell_after period row.cell (Ticked now true) }

-- how a tick ends that is due
abbrev pub ticked_due : Machine → ℕ → RowState → ℕ → ℕ → Outcome
ticked_due m i row period now = by_held row.cell.held
  where
    -- what is dropped gives up what is held too, and what finds no room stays
    settled : Outcome → Outcome
    settled end = by_answer end.answer
      where
        by_answer : Reply → Outcome
        by_answer (Dropped reason) = record { answer = Dropped reason; after = with_rows m (at i (moved_on period now)) }
        by_answer other = end

    by_held : Option Sample → Outcome
    by_held None = record { answer = TickNone; after = with_rows m (at i (moved_on period now)) }
    by_held (Some s) = settled (tried m row s now (record { answer = TickKept s.t; after = with_rows m (at i (λ r. moved_on period now (gains s r))) }))

-- how a tick of this row ends
abbrev pub ticked_row : Machine → ℕ → RowState → ℕ → Outcome
ticked_row m i row now = by_period (period_of row.about.method)
  where
    by_period : Option ℕ → Outcome
    by_period None = record { answer = TickNone; after = m }
    by_period (Some period) =
        if is_running row.state
        then (if nat_le row.cell.due now then ticked_due m i row period now else record { answer = NotDue row.cell.due; after = m })
        else record { answer = TickNone; after = m }

-- how a tick ends
abbrev pub ticked : Machine → ℕ → ℕ → Outcome
ticked m i now = at_row (slice_get m.rows i)
  where
    at_row : Option RowState → Outcome
    at_row None = record { answer = NoRow; after = m }
    at_row (Some row) = ticked_row m i row now

abbrev pub TickStep : ℕ → ℕ → Machine → Reply → Machine → Type 0
TickStep i now old answer new = Ends (ticked old i now) old answer new
