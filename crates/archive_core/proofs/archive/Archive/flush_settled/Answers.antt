use Rattle.std.proofs.Common.{◌≡◌, ℕ, List, Some, Ok, Err, Result, refl, sym, ◌∙◌, ap, subst}
use Rattle.std.proofs.lemmas.Result.{err_from_is_err_and}
use Rattle.intake.specs.Tails.{batch_of}
use Rattle.disk_model.specs.declared.disk.DiskErr.{DiskErr}
use Rattle.disk_model.specs.declared.disk.DiskErr.TheVariants.{Fault, Memory}
use Rattle.series_model.specs.declared.batch.RowSamples.{RowSamples}
use Rattle.durable_write.specs.Ends.{end_of_disk}
use Rattle.durable_write.specs.Flush.{CanFlush}
use Rattle.tier_store.specs.Frame.{Frame}
use Rattle.tier_store.specs.Pinned.{beside}
use Rattle.tier_store.specs.Revival.{AreWhole}
use Rattle.tier_store.specs.Seen.{seen}
use Rattle.tier_store.specs.Stores.{Stores}
use Rattle.tier_store.proofs.Frames.{nothing_fronts}
use Rattle.act_model.specs.Machine.{Machine, Appends}
use Rattle.archive_core.specs.Acting.{Changed}
use Rattle.archive_core.specs.Ends.{ChangesTo}
use Rattle.archive_core.specs.Flushing.{GivesUp}
use Rattle.archive_core.specs.Leaving.{files_of}
use Rattle.archive_core.specs.Memory.{row_ends}
use Rattle.archive_core.specs.Parts.{Parts, parts}
use Rattle.archive_core.specs.Stands.{Rests}
use Rattle.archive_core.specs.declared.memory.Doubt.TheVariants as kind
use Rattle.archive_core.proofs.Settled.{with_same, frame_with, rests_has}
use Rattle.archive_core.proofs.Acting.{Called, call_done, call_failed, call_spent, call_tidy, not_called}
use Rattle.archive_core.proofs.Flushed.{can, first_low, flush_as, flush_call, flush_called, flush_counts, flush_unclear, makes_flush}
use Rattle.archive_core.proofs.archive.Archive.flush_settled.Goals.{After-flush_lent-flushed}
use Rattle.archive_core.proofs.archive.Archive.flush_settled.Goals as goal

-- what the stores' call did, by what it answered
told : (g : _) (c : After-flush_lent-flushed g) (m : Machine) (r : Rests g.D.Disk.tells (parts g.D.Disk c.args.self.now) m) (x : Result ℕ DiskErr) → c.flush_lent-flushed.result ≡ x
    → Called g.D.Disk.tells (flush_call g.D.Disk.tells (parts g.D.Disk c.args.self.now) m r c.args.limit c.requires.limit (g.met.D.Disk.seen c.args.self.now.half.store.disk)) (seen g.D.Disk c.args.self.now.half.store) (seen g.D.Disk c.flush_lent-flushed.new.self) r.stands.store.before (end_of_disk x)
told g c m r x is =
    let p = parts g.D.Disk c.args.self.now in
    let files = (r.stands.store.whole 0 first_low).0 in
    flush_called g.D.Disk.tells p m r c.args.limit c.requires.limit (g.met.D.Disk.seen c.args.self.now.half.store.disk) (seen g.D.Disk c.flush_lent-flushed.new.self) (end_of_disk x)
    (flush_as g.D.Disk.tells p.at p.limbo files (seen g.D.Disk c.flush_lent-flushed.new.self) c.deref-2.result.now (batch_of c.args.limit p.tails) c.flush_lent-flushed.result x (λ (s : Stores). AreWhole 0 g.D.Disk.tells p.at p.limbo s.stands files) (c.deref-2.ensures.value ∙ c.in_ok-batch.ensures) is (c.flush_lent-flushed.ensures.changes files))

-- what is kept of the batch
kept : (g : _) (c : After-flush_lent-flushed g) → row_ends (batch_of c.args.limit (parts g.D.Disk c.args.self.now).tails) ≡ c.in_ok-ends.ends.items
kept g c = sym (c.in_ok-ends.ensures ∙ ap row_ends (c.deref.ensures.value ∙ c.in_ok-batch.ensures))

-- what it left where limbo is as it was
frame : (g : _) (c : After-flush_lent-flushed g) → Frame g.D.Disk.tells (files_of (parts g.D.Disk c.args.self.now)) (beside (seen g.D.Disk c.flush_lent-flushed.new.self) c.args.self.now.half.store.limbo.items)
frame g c = frame_with g.D.Disk.tells (files_of (parts g.D.Disk c.args.self.now)) (seen g.D.Disk c.flush_lent-flushed.new.self) c.flush_lent-flushed.new.self.limbo.items c.args.self.now.half.store.limbo.items (ap (λ l. l.items) c.flush_lent-flushed.ensures.limbo) c.flush_lent-flushed.ensures.frame

-- with the stores' limbo and pins
with_all : (g : _) (c : After-flush_lent-flushed g) (P : Parts → Type 0) (q : Parts) → q.limbo ≡ c.args.self.now.half.store.limbo.items → q.pinned ≡ c.args.self.now.half.store.pinned → P q → P (record q { limbo = c.flush_lent-flushed.new.self.limbo.items; pinned = c.flush_lent-flushed.new.self.pinned })
with_all g c P q limbo pinned is = with_same P q c.flush_lent-flushed.new.self.limbo.items c.flush_lent-flushed.new.self.pinned (ap (λ l. l.items) c.flush_lent-flushed.ensures.limbo ∙ sym limbo) (c.flush_lent-flushed.ensures.pins ∙ sym pinned) is

pub returns-in_err-batch-clause-changed : goal.returns-in_err-batch-clause-changed
returns-in_err-batch-clause-changed g c =
    let p = parts g.D.Disk c.args.self.now in
    let end = err_from_is_err_and c.from_residual.result c.from_residual.ensures.1 in
    subst (λ (x : Result ℕ DiskErr). Changed g.D.Disk.tells (Appends (batch_of c.args.limit p.tails)) p p x) (sym (end.1 ∙ ap (λ (d : DiskErr). Err d) end.2))
    (record { changes = λ m r. not_called g.D.Disk.tells (Appends (batch_of c.args.limit p.tails)) p m r p.kept r.stands.rows; fronts = nothing_fronts g.D.Disk.tells (files_of p); tidy = tt })

pub returns-in_err-ends-clause-changed : goal.returns-in_err-ends-clause-changed
returns-in_err-ends-clause-changed g c =
    let p = parts g.D.Disk c.args.self.now in
    let end = err_from_is_err_and c.from_residual-in_err-ends.result c.from_residual-in_err-ends.ensures.1 in
    subst (λ (x : Result ℕ DiskErr). Changed g.D.Disk.tells (Appends (batch_of c.args.limit p.tails)) p p x) (sym (end.1 ∙ ap (λ (d : DiskErr). Err d) end.2))
    (record { changes = λ m r. not_called g.D.Disk.tells (Appends (batch_of c.args.limit p.tails)) p m r p.kept r.stands.rows; fronts = nothing_fronts g.D.Disk.tells (files_of p); tidy = tt })

pub flush_lent-flushed-requires : goal.flush_lent-flushed-requires
flush_lent-flushed-requires g c =
    let was = c.requires.rests in
    let p = parts g.D.Disk c.args.self.now in
    let whole = was.1.stands.store.whole 0 first_low in
    record {
      can = subst (λ (b : List RowSamples). CanFlush c.args.self.now.half.store.catalogue.rows b) (sym (c.deref-2.ensures.value ∙ c.in_ok-batch.ensures)) (can g.D.Disk.tells p was.0 was.1 c.args.limit c.requires.limit (g.met.D.Disk.seen c.args.self.now.half.store.disk));
      stands = was.1.stands.limbo.stands;
      has = (was.1.stands.store.before, whole.0, rests_has g.D.Disk.tells p was.0 was.1, whole.1);
    }

pub returns-in-Ok-clause-changed : goal.returns-in-Ok-clause-changed
returns-in-Ok-clause-changed g c =
    let a = (goal.at.returns-in-Ok-clause-changed g c).After-flush_lent-flushed in
    let p = parts g.D.Disk c.args.self.now in
    let new = seen g.D.Disk c.flush_lent-flushed.new.self in
    let batch = batch_of c.args.limit p.tails in
    let seen_now = g.met.D.Disk.seen c.args.self.now.half.store.disk in
    record {
      changes = λ m r.
          let gives = c.give_up.ensures batch (kept g a ∙ sym c.deref-in-Ok.ensures.value) in
          with_all g a (λ (q : Parts). ChangesTo {A = ℕ} g.D.Disk.tells (Appends batch) p m q (Ok c.in-Ok.samples)) (record p { at = new; tails = c.give_up.new.intake }) refl refl
          (call_done g.D.Disk.tells (flush_call g.D.Disk.tells p m r c.args.limit c.requires.limit seen_now) (Appends batch) (kind.Flush c.in_ok-ends.ends) p.kept p m r (makes_flush g.D.Disk.tells p m r c.args.limit c.requires.limit seen_now c.in_ok-ends.ends (kept g a)) (λ at after grow. grow) new (frame g a) c.in-Ok.samples p.kept c.give_up.new.intake
          (flush_unclear g.D.Disk.tells p m r c.args.limit c.requires.limit seen_now c.in_ok-ends.ends new.catalogue.rows) gives (told g a m r (Ok c.in-Ok.samples) c.in-Ok.is));
      fronts = c.flush_lent-flushed.ensures.frame.fronts;
      tidy = call_tidy g.D.Disk.tells p _ c.flush_lent-flushed.result c.in-Ok.samples c.in-Ok.is refl c.flush_lent-flushed.ensures.tidy;
    }

pub returns-in-Ok-clause-count : goal.returns-in-Ok-clause-count
returns-in-Ok-clause-count g c = λ m r on.
    flush_counts g.D.Disk.tells (parts g.D.Disk c.args.self.now) m r c.args.limit c.requires.limit (g.met.D.Disk.seen c.args.self.now.half.store.disk) (seen g.D.Disk c.flush_lent-flushed.new.self) c.in-Ok.samples (told g (goal.at.returns-in-Ok-clause-count g c).After-flush_lent-flushed m r (Ok c.in-Ok.samples) c.in-Ok.is) on

pub returns-in-Err-Fault-clause-changed : goal.returns-in-Err-Fault-clause-changed
returns-in-Err-Fault-clause-changed g c =
    let fault : c.in-Err-Fault.field-0 ≡ Fault = rw c.in-Err-Fault.is at c.in-Err-Fault.field-0-is in
    let a = (goal.at.returns-in-Err-Fault-clause-changed g c).After-flush_lent-flushed in
    let p = parts g.D.Disk c.args.self.now in
    let new = seen g.D.Disk c.flush_lent-flushed.new.self in
    let batch = batch_of c.args.limit p.tails in
    let seen_now = g.met.D.Disk.seen c.args.self.now.half.store.disk in
    record {
      changes = λ m r. with_all g a (λ (q : Parts). ChangesTo {A = ℕ} g.D.Disk.tells (Appends batch) p m q (Err Fault)) (record p { at = new; doubt = Some (kind.Flush c.in_ok-ends.ends) }) refl refl
          (call_failed g.D.Disk.tells (flush_call g.D.Disk.tells p m r c.args.limit c.requires.limit seen_now) (Appends batch) (kind.Flush c.in_ok-ends.ends) p.kept p m r (makes_flush g.D.Disk.tells p m r c.args.limit c.requires.limit seen_now c.in_ok-ends.ends (kept g a)) (λ at after grow. grow) new (frame g a)
          (told g a m r (Err Fault) (c.in-Err-Fault.is ∙ ap (λ (e : DiskErr). Err e) fault)));
      fronts = c.flush_lent-flushed.ensures.frame.fronts;
      tidy = tt;
    }

pub returns-in-Err-Memory-clause-changed : goal.returns-in-Err-Memory-clause-changed
returns-in-Err-Memory-clause-changed g c =
    let memory : c.in-Err-Memory.field-0 ≡ Memory = rw c.in-Err-Memory.is at c.in-Err-Memory.field-0-is in
    let a = (goal.at.returns-in-Err-Memory-clause-changed g c).After-flush_lent-flushed in
    let p = parts g.D.Disk c.args.self.now in
    let new = seen g.D.Disk c.flush_lent-flushed.new.self in
    let batch = batch_of c.args.limit p.tails in
    let seen_now = g.met.D.Disk.seen c.args.self.now.half.store.disk in
    record {
      changes = λ m r. with_all g a (λ (q : Parts). ChangesTo {A = ℕ} g.D.Disk.tells (Appends batch) p m q (Err Memory)) (record p { at = new }) refl refl
          (call_spent g.D.Disk.tells (flush_call g.D.Disk.tells p m r c.args.limit c.requires.limit seen_now) (Appends batch) (kind.Flush c.in_ok-ends.ends) p.kept p m r (makes_flush g.D.Disk.tells p m r c.args.limit c.requires.limit seen_now c.in_ok-ends.ends (kept g a)) (λ at after grow. grow) new (frame g a)
          (told g a m r (Err Memory) (c.in-Err-Memory.is ∙ ap (λ (e : DiskErr). Err e) memory)));
      fronts = c.flush_lent-flushed.ensures.frame.fronts;
      tidy = tt;
    }
