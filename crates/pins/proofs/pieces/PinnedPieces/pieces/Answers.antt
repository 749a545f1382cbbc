use Rattle.std.proofs.Common.{◌≡◌, Some, None, arith, sym, ◌∙◌, ap, Ok}
use Rattle.std.specs.FinMap as map
use Rattle.pins.specs.Pieces.{PinOf}
use Rattle.pins.proofs.EntryLemmas.{get-tree}
use Rattle.pins.proofs.PinLemmas.{asked_none, asked_other, asked_own}
use Rattle.pins.proofs.pieces.PinnedPieces.pieces.Goals as goal

pub returns-in_default-clause-refused : goal.returns-in_default-clause-refused
returns-in_default-clause-refused c =
    let found : map.get c.args.self.now c.args.pin ≡ None = rw (← c.self.view_is) (get-tree c.self.inside.pieces.entries c.args.pin ∙ sym c.in_default.ensures.value) in
    asked_none c.args.owner _ found

pub returns-then-owner-clause-refused : goal.returns-then-owner-clause-refused
returns-then-owner-clause-refused c =
    let found : map.get c.args.self.now c.args.pin ≡ Some c.in-Some.found.now = rw (← c.self.view_is) (get-tree c.self.inside.pieces.entries c.args.pin ∙ sym c.in-Some.ensures.value) in
    asked_other c.args.owner _ _ c.in-Some.found.now found c.owner-then-owner.ensures (omega (arith, c.owner.ensures, c.owner-then-owner.ensures, c.if-owner.true))

pub returns-clause-found : goal.returns-clause-found
returns-clause-found c =
    let found : map.get c.args.self.now c.args.pin ≡ Some c.in-Some.found.now = rw (← c.self.view_is) (get-tree c.self.inside.pieces.entries c.args.pin ∙ sym c.in-Some.ensures.value) in
    let own : c.in-Some.found.now.owner ≡ c.args.owner = omega (arith, c.owner.ensures, c.if-owner.false) in
    let same : ◌≡◌ {A = PinOf} c.in-Some.found.now (record { owner = c.args.owner; pieces = c.pieces.result.now }) = λ i. record { owner = own i; pieces = sym c.pieces.ensures i } in
    asked_own c.args.owner _ c.in-Some.found.now found own ∙ ap (λ (p : PinOf). Ok p) same
