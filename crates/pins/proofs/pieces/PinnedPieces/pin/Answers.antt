use Rattle.std.proofs.Common.{◌≡◌, Ok, Some, List, map, ap, ◌∙◌, subst, Result}
use Rattle.std.specs.FinMap as maps
use Rattle.std.specs.Prelude.{OnOk}
use Rattle.disk_model.specs.Files.{Name}
use Rattle.pins.specs.Pinned.{PinnedNames, dropped}
use Rattle.pins.specs.declared.table.PinErr.{PinErr}
use Rattle.pins.specs.Pieces.{PinOf, file_of}
use Rattle.pins.proofs.EntryLemmas.{inserted}
use Rattle.pins.proofs.PinLemmas.{agree_inserted, undone, dropped_made}
use Rattle.pins.proofs.pieces.PinnedPieces.pin.Goals as goal

pub invariant_of-self-in-Ok : goal.invariant_of-self-in-Ok
invariant_of-self-in-Ok c n =
    let same : ◌≡◌ {A = List Name} c.deref-2.result.now (map file_of c.args.pieces.items) = c.deref-2.ensures.value ∙ (c.in_ok-files.ensures ∙ ap (map file_of) c.deref.ensures.value) in
    let pin : PinOf = record { owner = c.args.owner; pieces = c.args.pieces.items } in
    rw (c.in_ok-number.ensures.pinned, inserted c.self.inside.pieces c.insert.new.self c.in_ok-number.number pin c.in-Ok.ensures.updates)
    (agree_inserted c.self.inside.pins (maps.from_entries c.self.inside.pieces.entries) c.in_ok-number.number (record { owner = c.args.owner; files = c.deref-2.result.now }) pin c.self.invariant (ap (λ (l : List Name). Some (let s : PinnedNames = record { owner = c.args.owner; files = l } in s)) same) n)

pub returns-in-Ok-clause-pinned : goal.returns-in-Ok-clause-pinned
returns-in-Ok-clause-pinned c = rw (← c.self.view_is) (inserted c.self.inside.pieces c.insert.new.self c.in_ok-number.number (record { owner = c.args.owner; pieces = c.args.pieces.items }) c.in-Ok.ensures.updates)

pub invariant_of-self-in-Err : goal.invariant_of-self-in-Err
invariant_of-self-in-Err c n =
    let state : PinnedNames = record { owner = c.args.owner; files = c.deref-2.result.now } in
    let made = c.in_ok-number.ensures.pinned in
    let ok : ◌≡◌ {A = Result (Unit {0}) PinErr} c.drop_pin.result (Ok tt) = c.drop_pin.ensures.answer ∙ (ap (λ m. dropped c.args.owner (maps.get m c.in_ok-number.number)) made ∙ dropped_made c.self.inside.pins c.in_ok-number.number state) in
    let after : c.drop_pin.new.self ≡ maps.remove c.pin.new.self c.in_ok-number.number = subst (λ (r : Result (Unit {0}) PinErr). OnOk r (c.drop_pin.new.self ≡ maps.remove c.pin.new.self c.in_ok-number.number)) ok c.drop_pin.ensures.after in
    let back : c.drop_pin.new.self ≡ c.self.inside.pins = after ∙ (ap (λ m. maps.remove m c.in_ok-number.number) made ∙ undone c.self.inside.pins c.in_ok-number.number state (c.in_ok-number.ensures.free)) in
    rw (back, c.in-Err.ensures.err) (c.self.invariant n)
