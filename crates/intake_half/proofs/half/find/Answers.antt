use Rattle.std.proofs.Common.{◌≡◌, true, false, Some, ℕ, sym, ◌∙◌, ap}
use Rattle.std.specs.Option.{option_copied}
use Rattle.std.proofs.lemmas.Option.{same_Some}
use Rattle.std.proofs.lemmas.Bool.Decides.{Decides-eqb}
use Rattle.std.proofs.lemmas.Slice.Eq.{slice_eq-Decides}
use Rattle.intake_half.specs.Known.{slot_at, slot_in}
use Rattle.intake_half.specs.declared.known.KnownRow.{KnownRow}
use Rattle.intake_half.proofs.Elements.{read_at}
use Rattle.intake_half.proofs.half.find.Goals as goal

pub returns-then-eq-clause-found : goal.returns-then-eq-clause-found
returns-then-eq-clause-found c =
    let slot = read_at c.args.slots.now c.in_ok-row.row c.in_ok-slot.slot.now c.in_ok-slot.ensures.lookup.1 c.in_ok-slot.ensures.lookup.3.0 in
    let known : Some c.in_ok-known.known.now ≡ c.in_ok-slot.slot.now = sym (ap option_copied (c.in_ok-known.was {u = tt})) ∙ c.as_ref.ensures.value in
    record {
      row = c.in_ok-known.known.now;
      here = ap slot_in slot ∙ sym known;
      is = sym c.bytes.ensures.value ∙ (slice_eq-Decides Decides-eqb c.bytes.result.now c.args.name.now c.eq.result c.eq.ensures).0 c.if-eq.true;
    }

pub returns-else-eq-clause-only : goal.returns-else-eq-clause-only
returns-else-eq-clause-only c i at has =
    let slot = read_at c.args.slots.now c.in_ok-row.row c.in_ok-slot.slot.now c.in_ok-slot.ensures.lookup.1 c.in_ok-slot.ensures.lookup.3.0 in
    let known : Some c.in_ok-known.known.now ≡ c.in_ok-slot.slot.now = sym (ap option_copied (c.in_ok-known.was {u = tt})) ∙ c.as_ref.ensures.value in
    let here : slot_at c.args.slots.now c.in_ok-row.row ≡ Some c.in_ok-known.known.now = ap slot_in slot ∙ sym known in
    let number : c.in_ok-row.row ≡ i = same_Some c.in_ok-row.row i (sym (c.in_ok-row.was {u = tt}) ∙ (c.number.ensures ∙ at)) in
    let row : c.in_ok-known.known.now ≡ has.row = same_Some c.in_ok-known.known.now has.row (sym here ∙ (ap (λ (n : ℕ). slot_at c.args.slots.now n) number ∙ has.here)) in
    let name : c.in_ok-known.known.now.name ≡ c.args.name.now = ap (λ (r : KnownRow). r.name) row ∙ has.is in
    let yes : c.eq.result ≡ true = (slice_eq-Decides Decides-eqb c.bytes.result.now c.args.name.now c.eq.result c.eq.ensures).1 (c.bytes.ensures.value ∙ name) in
    let no : c.eq.result ≡ false = c.if-eq.false in
    absurd cc
