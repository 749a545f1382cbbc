use Rattle.std.proofs.Common.{◌≡◌, inl, inr, ℕ, ◌<◌, Some, length, sym, ◌∙◌, ap, subst, arith}
use Rattle.std.specs.Prelude.{slice_get}
use Rattle.std.proofs.lemmas.Bool.{cases_lt}
use Rattle.two_histories.specs.ArchiveStore.{RegisteredRow}
use Rattle.intake_half.specs.Known.{number_of}
use Rattle.intake_half.proofs.Elements.{read_at}
use Rattle.intake_half.proofs.Telling.{named_on, some_told}
use Rattle.intake_half.proofs.taking.make_room.Goals as goal

pub loop-told-preserved : goal.loop-told-preserved
loop-told-preserved c =
    let one = c.told-item.result in
    let at = read_at c.args.rows.now c.loop-told.told-index one c.told-item.is c.loop-told-test.true in
    let there = c.in_ok-make_place.ensures.there in
    let named = c.in_ok-make_place.ensures.named in
    record {
      there = λ i told low here. elim (cases_lt i c.loop-told.told-index) [
        | inl before ↦
            let old = c.loop-told.invariant.there i told before here in
            ((let more = c.make_place.ensures.more in let low = old.0 in omega arith), named_on c.loop-told.names c.make_place.new.names one told.name told.row old.1 (λ same. c.requires.agree i c.loop-told.told-index told one here at same) named c.make_place.ensures.others)
        | inr past ↦
            let number : i ≡ c.loop-told.told-index = omega arith in
            let same : told ≡ one = some_told (sym here ∙ (ap (λ (n : ℕ). slice_get c.args.rows.now n) number ∙ at)) in
            subst (λ (r : RegisteredRow). (r.row < length c.make_place.new.slots.items) × (number_of c.make_place.new.names r.name ≡ Some r.row)) (sym same) (there, named)
      ];
      few = c.make_place.ensures.few;
      same = λ i. c.make_place.ensures.same i ∙ c.loop-told.invariant.same i;
      names = λ name number was agree. named_on c.loop-told.names c.make_place.new.names one name number (c.loop-told.invariant.names name number was agree) (agree c.loop-told.told-index one at) named c.make_place.ensures.others;
    }
