use Rattle.std.proofs.Common.{◌≡◌, ◌+◌, ℕ, inl, inr, length, refl, sym, ◌∙◌, ap, subst, arith, List}
use Rattle.std.specs.Prelude.{slice_get}
use Rattle.std.proofs.lemmas.Option.{same_Some}
use Rattle.durable_write.proofs.Staying.{same_cases}
use Rattle.store_manifest.specs.Manifest.{ManifestState}
use Rattle.store_manifest.specs.declared.entry.Entry.{Entry}
use Rattle.etl_mover.specs.Copying.{last_of}
use Rattle.etl_mover.specs.Move.{of_series}
use Rattle.tier_store.specs.Reviving.{IsCovered, IsUncovered}
use Rattle.tier_store.proofs.CopyParts.{some_entry}
use Rattle.tier_store.proofs.store.TierStore.first_uncovered.Goals as goal

pub loop-n-init : goal.loop-n-init
loop-n-init g c = record { low = omega arith; high = c.requires.low; each = λ m here k e low high at. absurd (omega (arith, low, high)) }

pub unreachable-requires : goal.unreachable-requires
unreachable-requires g c =
    let here = c.manifest.ensures c.args.place refl in
    let few = c.requires.listed c.manifest.result.now here in
    let are : c.entries-entries.result.now ≡ of_series c.args.moving.now.series c.manifest.result.now.entries = c.entries-entries.ensures ∙ ap (λ (k : ℕ). of_series k c.manifest.result.now.entries) c.series.ensures in
    let kept = ap length c.kept.ensures in
    let there = some_entry (of_series c.args.moving.now.series c.manifest.result.now.entries) c.loop-n.n (omega (arith, few, kept, c.loop-n-test.true)) in
    absurd (cc (sym c.in_default.is ∙ (c.entry_at.ensures ∙ (ap (λ (l : List Entry). slice_get l c.loop-n.n) are ∙ there.1))))

pub returns-then-not-is_covered : goal.returns-then-not-is_covered
returns-then-not-is_covered g c m here =
    let inv = c.loop-n.invariant in
    let one : c.manifest.result.now ≡ m = same_Some c.manifest.result.now m (sym (c.manifest.ensures c.args.place refl) ∙ here) in
    let are : c.entries-entries.result.now ≡ of_series c.args.moving.now.series m.entries = c.entries-entries.ensures ∙ (ap (λ (k : ℕ). of_series k c.manifest.result.now.entries) c.series.ensures ∙ ap (λ (x : ManifestState). of_series c.args.moving.now.series x.entries) one) in
    record {
      low = inv.low;
      high = inv.high;
      each = inv.each m here;
      next = λ e low at.
          let same : c.in-Some.part ≡ e = same_Some c.in-Some.part e (sym c.in-Some.is ∙ (c.entry_at.ensures ∙ (ap (λ (l : List Entry). slice_get l c.loop-n.n) are ∙ at))) in
          subst (IsUncovered c.args.self.now.limbo.items (c.args.place + 2) c.args.moving.now.series (last_of c.args.moving.now.pending c.args.moving.now.listed)) same (c.is_covered.ensures.uncovered c.if-not-is_covered.true);
    }

pub loop-n-preserved : goal.loop-n-preserved
loop-n-preserved g c =
    let inv = c.loop-n.invariant in
    let kept = ap length c.kept.ensures in
    record {
      low = let low = inv.low in omega (arith, low);
      high = omega (arith, kept, c.loop-n-test.true);
      each = λ m here k e low high at. elim (same_cases k c.loop-n.n) [
        | inr apart ↦ inv.each m here k e low (omega (arith, high, apart)) at
        | inl same ↦
            let one : c.manifest.result.now ≡ m = same_Some c.manifest.result.now m (sym (c.manifest.ensures c.args.place refl) ∙ here) in
            let are : c.entries-entries.result.now ≡ of_series c.args.moving.now.series m.entries = c.entries-entries.ensures ∙ (ap (λ (k : ℕ). of_series k c.manifest.result.now.entries) c.series.ensures ∙ ap (λ (x : ManifestState). of_series c.args.moving.now.series x.entries) one) in
            let is : c.in-Some.part ≡ e = same_Some c.in-Some.part e (sym c.in-Some.is ∙ (c.entry_at.ensures ∙ (ap (λ (l : List Entry). slice_get l c.loop-n.n) are ∙ (ap (λ (j : ℕ). slice_get (of_series c.args.moving.now.series m.entries) j) (sym same) ∙ at)))) in
            subst (IsCovered c.args.self.now.limbo.items (c.args.place + 2) c.args.moving.now.series (last_of c.args.moving.now.pending c.args.moving.now.listed)) is (c.is_covered.ensures.covered c.if-not-is_covered.false)
      ];
    }

pub returns : goal.returns
returns g c m here =
    let inv = c.loop-n.invariant in
    let kept = ap length c.kept.ensures in
    record { low = inv.low; high = inv.high; each = inv.each m here; next = λ e low at. absurd (omega (arith, low, kept, c.loop-n-test.false)) }
