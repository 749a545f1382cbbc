use Rattle.std.proofs.Common.{◌≡◌, Some, Ok, Err, Result, refl, sym, ◌∙◌, ap, subst}
use Rattle.std.specs.Prelude.{slice_set}
use Rattle.std.proofs.lemmas.Option.{slice_get_within}
use Rattle.pb_messages.specs.declared.about.State.{State}
use Rattle.disk_model.specs.declared.disk.DiskErr.{DiskErr}
use Rattle.disk_model.specs.declared.disk.DiskErr.TheVariants.{Fault, Memory}
use Rattle.pv_catalog.specs.declared.error.StateErr.{StateErr}
use Rattle.pv_catalog.specs.declared.error.StateErr.TheVariants.{NotRunning, NotPaused, Disk}
use Rattle.durable_write.specs.Ends.{end_of_switch}
use Rattle.tier_store.specs.Change.{Changes}
use Rattle.tier_store.specs.Frame.{Frame}
use Rattle.tier_store.specs.Pinned.{beside}
use Rattle.tier_store.specs.Seen.{seen}
use Rattle.act_model.specs.Machine.{SetsState}
use Rattle.archive_core.specs.Acting.{Changed}
use Rattle.archive_core.specs.Ends.{ChangesTo}
use Rattle.archive_core.specs.Leaving.{files_of}
use Rattle.intake_half.specs.Memory.{cleared}
use Rattle.archive_core.specs.Parts.{InMemory, Parts, parts_beside}
use Rattle.archive_core.specs.Switching.{switching, to_of}
use Rattle.archive_core.specs.declared.memory.Doubt.TheVariants as kind
use Rattle.archive_core.proofs.Settled.{with_same, frame_with, rests_has}
use Rattle.archive_core.proofs.Acting.{call_done, call_failed, call_spent, call_tidy, called}
use Rattle.archive_core.proofs.KeptRows.{memory_there}
use Rattle.archive_core.proofs.Lists.{element}
use Rattle.archive_core.proofs.Switched.{makes_switch, switch_clears, switch_unrefused}
use Rattle.archive_core.proofs.archive.StoreHalf.switch.Goals.{After-switch_in}
use Rattle.archive_core.proofs.archive.StoreHalf.switch.Goals as goal

-- what the stores' call did, by what it answered
told : (g : _) (c : After-switch_in g) (r : Result (Unit {0}) StateErr) → c.switch_in.result ≡ r → Changes g.D.Disk.tells (switching c.args.switch c.args.row) (seen g.D.Disk c.args.self.now.store) (seen g.D.Disk c.switch_in.new.store) (end_of_switch r)
told g c r is = subst (λ (x : Result (Unit {0}) StateErr). Changes g.D.Disk.tells (switching c.args.switch c.args.row) (seen g.D.Disk c.args.self.now.store) (seen g.D.Disk c.switch_in.new.store) (end_of_switch x)) is c.switch_in.ensures.changes

-- what it left where limbo is as it was
frame : (g : _) (c : After-switch_in g) (w : InMemory) → Frame g.D.Disk.tells (files_of (parts_beside g.D.Disk c.args.self.now w)) (beside (seen g.D.Disk c.switch_in.new.store) c.args.self.now.store.limbo.items)
frame g c w = frame_with g.D.Disk.tells (files_of (parts_beside g.D.Disk c.args.self.now w)) (seen g.D.Disk c.switch_in.new.store) c.switch_in.new.store.limbo.items c.args.self.now.store.limbo.items (ap (λ l. l.items) c.switch_in.ensures.limbo) c.switch_in.ensures.frame

-- with the stores' limbo and pins
with_all : (g : _) (c : After-switch_in g) (P : Parts → Type 0) (q : Parts) → q.limbo ≡ c.args.self.now.store.limbo.items → q.pinned ≡ c.args.self.now.store.pinned → P q → P (record q { limbo = c.switch_in.new.store.limbo.items; pinned = c.switch_in.new.store.pinned })
with_all g c P q limbo pinned is = with_same P q c.switch_in.new.store.limbo.items c.switch_in.new.store.pinned (ap (λ l. l.items) c.switch_in.ensures.limbo ∙ sym limbo) (c.switch_in.ensures.pins ∙ sym pinned) is

pub switch_in-requires : goal.switch_in-requires
switch_in-requires g c =
    let was = c.requires.rests in
    record { row = slice_get_within c.args.self.now.store.catalogue.rows c.args.row c.requires.state.row c.requires.state.here; has = (was.2.stands.store.before, rests_has g.D.Disk.tells (parts_beside g.D.Disk c.args.self.now was.0) was.1 was.2) }

pub unreachable-requires : goal.unreachable-requires
unreachable-requires g c =
    let was = c.requires.rests in
    switch_unrefused g.D.Disk.tells (parts_beside g.D.Disk c.args.self.now was.0) was.1 was.2 c.args.row c.args.switch c.requires.state (seen g.D.Disk c.switch_in.new.store) NotRunning (told g (goal.at.unreachable-requires g c).After-switch_in (Err NotRunning) (c.in-Err-NotRunning.is ∙ ap (λ (e : StateErr). Err e) c.in-Err-NotRunning.field-0-is))

pub unreachable-requires-in-Err-NotPaused : goal.unreachable-requires-in-Err-NotPaused
unreachable-requires-in-Err-NotPaused g c =
    let was = c.requires.rests in
    switch_unrefused g.D.Disk.tells (parts_beside g.D.Disk c.args.self.now was.0) was.1 was.2 c.args.row c.args.switch c.requires.state (seen g.D.Disk c.switch_in.new.store) NotPaused (told g (goal.at.unreachable-requires-in-Err-NotPaused g c).After-switch_in (Err NotPaused) (c.in-Err-NotPaused.is ∙ ap (λ (e : StateErr). Err e) c.in-Err-NotPaused.field-0-is))

pub returns-in-Ok : goal.returns-in-Ok
returns-in-Ok g c = λ w after clears.
    let a = (goal.at.returns-in-Ok g c).After-switch_in in
    let p = parts_beside g.D.Disk c.args.self.now w in
    let new = seen g.D.Disk c.switch_in.new.store in
    let call = switching c.args.switch c.args.row in
    let change = SetsState c.args.row (to_of c.args.switch) in
    let done = told g a (Ok tt) c.in-Ok.is in
    record {
      changes = λ m r.
          let kept = element w.kept c.args.row (memory_there c.args.self.now.store.catalogue.rows _ _ m.rows r.stands.rows c.args.row (slice_get_within c.args.self.now.store.catalogue.rows c.args.row c.requires.state.row c.requires.state.here)) in
          subst (λ (x : InMemory). ChangesTo {A = Unit {0}} g.D.Disk.tells change p m (parts_beside g.D.Disk (record c.args.self.now { store = c.switch_in.new.store }) x) (Ok tt)) (sym (clears kept.0 kept.1))
          (with_all g a (λ (q : Parts). ChangesTo {A = Unit {0}} g.D.Disk.tells change p m q (Ok tt)) (record p { at = new; kept = slice_set w.kept c.args.row (cleared kept.0) }) refl refl
          (call_done g.D.Disk.tells call change (kind.State c.args.row (to_of c.args.switch)) p.kept p m r (makes_switch g.D.Disk.tells p m r c.args.row c.args.switch c.requires.state) (λ at after grow. grow) new (frame g a w) tt (slice_set p.kept c.args.row (cleared kept.0)) p.tails
          (switch_clears g.D.Disk.tells p m r c.args.row c.args.switch c.requires.state new tt kept.0 kept.1 done) refl (called g.D.Disk.tells call p.at new r.stands.store.before (end_of_switch (Ok tt)) (rests_has g.D.Disk.tells p m r) done)));
      fronts = c.switch_in.ensures.frame.fronts;
      tidy = call_tidy g.D.Disk.tells p _ c.switch_in.result tt c.in-Ok.is refl c.switch_in.ensures.tidy;
    }

pub returns-in-Err-Disk-Fault : goal.returns-in-Err-Disk-Fault
returns-in-Err-Disk-Fault g c = λ w after same.
    let a = (goal.at.returns-in-Err-Disk-Fault g c).After-switch_in in
    let p = parts_beside g.D.Disk c.args.self.now w in
    let new = seen g.D.Disk c.switch_in.new.store in
    let call = switching c.args.switch c.args.row in
    let change = SetsState c.args.row (to_of c.args.switch) in
    let failed = told g a (Err (Disk Fault)) (c.in-Err-Disk-Fault.is ∙ ap (λ (e : StateErr). Err e) (c.in-Err-Disk-Fault.field-0-is ∙ ap (λ (e : DiskErr). Disk e) c.in-Err-Disk-Fault.field-0-0-is)) in
    subst (λ (x : InMemory). Changed {A = Unit {0}} g.D.Disk.tells change p (parts_beside g.D.Disk (record c.args.self.now { store = c.switch_in.new.store; doubt = Some (kind.State c.args.row c.to-to.result) }) x) (Err Fault)) (sym same) (record {
      changes = λ m r. subst (λ (to : State). ChangesTo {A = Unit {0}} g.D.Disk.tells change p m (record p { at = new; limbo = c.switch_in.new.store.limbo.items; pinned = c.switch_in.new.store.pinned; doubt = Some (kind.State c.args.row to) }) (Err Fault)) (sym c.to-to.ensures)
          (with_all g a (λ (q : Parts). ChangesTo {A = Unit {0}} g.D.Disk.tells change p m q (Err Fault)) (record p { at = new; doubt = Some (kind.State c.args.row (to_of c.args.switch)) }) refl refl
          (call_failed g.D.Disk.tells call change (kind.State c.args.row (to_of c.args.switch)) p.kept p m r (makes_switch g.D.Disk.tells p m r c.args.row c.args.switch c.requires.state) (λ at after grow. grow) new (frame g a w) (called g.D.Disk.tells call p.at new r.stands.store.before (end_of_switch (Err (Disk Fault))) (rests_has g.D.Disk.tells p m r) failed)));
      fronts = c.switch_in.ensures.frame.fronts;
      tidy = tt;
    })

pub returns-in-Err-Disk-Memory : goal.returns-in-Err-Disk-Memory
returns-in-Err-Disk-Memory g c = λ w after same.
    let a = (goal.at.returns-in-Err-Disk-Memory g c).After-switch_in in
    let p = parts_beside g.D.Disk c.args.self.now w in
    let new = seen g.D.Disk c.switch_in.new.store in
    let call = switching c.args.switch c.args.row in
    let change = SetsState c.args.row (to_of c.args.switch) in
    let spent = told g a (Err (Disk Memory)) (c.in-Err-Disk-Memory.is ∙ ap (λ (e : StateErr). Err e) (c.in-Err-Disk-Memory.field-0-is ∙ ap (λ (e : DiskErr). Disk e) c.in-Err-Disk-Memory.field-0-0-is)) in
    subst (λ (x : InMemory). Changed {A = Unit {0}} g.D.Disk.tells change p (parts_beside g.D.Disk (record c.args.self.now { store = c.switch_in.new.store }) x) (Err Memory)) (sym same) (record {
      changes = λ m r. with_all g a (λ (q : Parts). ChangesTo {A = Unit {0}} g.D.Disk.tells change p m q (Err Memory)) (record p { at = new }) refl refl
          (call_spent g.D.Disk.tells call change (kind.State c.args.row (to_of c.args.switch)) p.kept p m r (makes_switch g.D.Disk.tells p m r c.args.row c.args.switch c.requires.state) (λ at after grow. grow) new (frame g a w) (called g.D.Disk.tells call p.at new r.stands.store.before (end_of_switch (Err (Disk Memory))) (rests_has g.D.Disk.tells p m r) spent));
      fronts = c.switch_in.ensures.frame.fronts;
      tidy = tt;
    })
