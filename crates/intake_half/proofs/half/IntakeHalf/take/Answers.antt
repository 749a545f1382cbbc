use Rattle.std.proofs.Common.{◌≡◌, List, Option, Some, Result, Ok, Err, arith, ap, subst, sym, ◌∙◌}
use Rattle.std.specs.Prelude.{OnErr, slice_get}
use Rattle.two_histories.specs.ArchiveIntake.{IntakeHalf, IntakeRow}
use Rattle.two_histories.specs.ArchiveStore.{RegisteredRow}
use Rattle.intake_half.specs.Known.{AreKept, seen_from}
use Rattle.intake_half.specs.Taking.{end_in}
use Rattle.intake_half.specs.declared.known.KnownRow.{KnownRow}
use Rattle.intake_half.proofs.Seeing.{slots_same}
use Rattle.intake_half.proofs.Telling.{room_kept, took}
use Rattle.intake_half.proofs.half.IntakeHalf.take.Goals as goal

-- what holds where there is an error
err_of : {A E P : Type 0} (r : Result A E) → P → OnErr r P
err_of (Ok a) p = tt
err_of (Err e) p = p

pub make_room-requires-clause-agree : goal.make_room-requires-clause-agree
make_room-requires-clause-agree c = λ i j one other here there.
    c.requires.told_ones i j one other (subst (λ (xs : List RegisteredRow). slice_get xs i ≡ Some one) c.deref.ensures.value here) (subst (λ (xs : List RegisteredRow). slice_get xs j ≡ Some other) c.deref.ensures.value there)

pub invariant_of-self : goal.invariant_of-self
invariant_of-self c =
    room_kept c.self.inside.slots.items c.make_room.new.slots.items c.self.inside.intake c.self.inside.names c.make_room.new.names c.args.rows.items c.self.invariant (rw (← c.self.view_is) at c.requires) c.make_room.ensures.few c.make_room.ensures.same
    (λ name number was agree. c.make_room.ensures.names name number was (λ i told here. agree i told (subst (λ (xs : List RegisteredRow). slice_get xs i ≡ Some told) c.deref.ensures.value here)))

pub returns-in_err-make_room-clause-err : goal.returns-in_err-make_room-clause-err
returns-in_err-make_room-clause-err c = rw (← c.self.view_is)
    (err_of c.from_residual.result (ap (λ (ks : List IntakeRow). let h : IntakeHalf = record { rows = ks; upto = c.self.inside.upto; doors = c.self.inside.doors } in h) (slots_same c.self.inside.intake 0 c.make_room.new.slots.items c.self.inside.slots.items c.make_room.ensures.same)))

pub take_rows-requires : goal.take_rows-requires
take_rows-requires c = λ i told here. (c.in_ok-make_room.ensures.there i told (subst (λ (xs : List RegisteredRow). slice_get xs i ≡ Some told) (sym c.deref.ensures.value) here)).0

pub invariant_of-self-2 : goal.invariant_of-self-2
invariant_of-self-2 c =
    subst (λ (s : List (Option KnownRow)). AreKept s c.trim_tails.new.intake c.make_room.new.names) (sym c.take_rows.ensures) (took (end_in c.args.ends.now) c.args.rows.items c.self.inside.upto c.self.inside.doors c.self.inside.slots.items c.make_room.new.slots.items c.self.inside.intake c.trim_tails.new.intake c.self.inside.names c.make_room.new.names c.self.invariant (rw (← c.self.view_is) at c.requires) c.make_room.ensures.few c.make_room.ensures.same
    (λ name number was agree. c.make_room.ensures.names name number was (λ i told here. agree i told (subst (λ (xs : List RegisteredRow). slice_get xs i ≡ Some told) c.deref.ensures.value here)))
    (λ i told here. c.in_ok-make_room.ensures.there i told (subst (λ (xs : List RegisteredRow). slice_get xs i ≡ Some told) (sym c.deref.ensures.value) here))
    (λ j low. c.trim_tails.ensures.trimmed j (omega (arith, low, c.len.ensures, c.make_room.new.slots.ok.0)))
    (λ j high. c.trim_tails.ensures.others j (omega (arith, high, c.len.ensures, c.make_room.new.slots.ok.0)))).kept

pub returns-clause-ok : goal.returns-clause-ok
returns-clause-ok c = rw (← c.self.view_is)
    (ap (λ (s : List (Option KnownRow)). let h : IntakeHalf = record { rows = seen_from c.trim_tails.new.intake 0 s; upto = c.self.inside.upto; doors = c.self.inside.doors } in h) c.take_rows.ensures ∙ (took (end_in c.args.ends.now) c.args.rows.items c.self.inside.upto c.self.inside.doors c.self.inside.slots.items c.make_room.new.slots.items c.self.inside.intake c.trim_tails.new.intake c.self.inside.names c.make_room.new.names c.self.invariant (rw (← c.self.view_is) at c.requires) c.make_room.ensures.few c.make_room.ensures.same
    (λ name number was agree. c.make_room.ensures.names name number was (λ i told here. agree i told (subst (λ (xs : List RegisteredRow). slice_get xs i ≡ Some told) c.deref.ensures.value here)))
    (λ i told here. c.in_ok-make_room.ensures.there i told (subst (λ (xs : List RegisteredRow). slice_get xs i ≡ Some told) (sym c.deref.ensures.value) here))
    (λ j low. c.trim_tails.ensures.trimmed j (omega (arith, low, c.len.ensures, c.make_room.new.slots.ok.0)))
    (λ j high. c.trim_tails.ensures.others j (omega (arith, high, c.len.ensures, c.make_room.new.slots.ok.0)))).taken_is)
