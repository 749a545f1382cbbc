use Rattle.std.proofs.Common.{◌≡◌, List, Option, Some, refl, sym, ◌∙◌, subst}
use Rattle.std.specs.Prelude.{All, slice_get, IfSome}
use Rattle.partition_names.specs.declared.granularity.Granularity.{Granularity}
use Rattle.partition_names.specs.Part.{IsPart}
use Rattle.std.proofs.lemmas.Option.{get_or_from_slice_get}
use Rattle.series_model.specs.declared.batch.RowSamples.{RowSamples}
use Rattle.store_manifest.specs.declared.entry.Entry.{Entry}
use Rattle.durable_write.specs.declared.plan.Target.{Target}
use Rattle.pv_catalog.specs.declared.row.Row.{Row}
use Rattle.durable_write.specs.Flush.{IsSampleOf, IsOfRow}
use Rattle.durable_write.specs.Plan.{Adds, PlansOn}
use Rattle.durable_write.proofs.Batches.{target_of, plans_on}
use Rattle.durable_write.proofs.plan.add_part.Goals as goal

pub add_samples-requires-clause-samples : goal.add_samples-requires-clause-samples
add_samples-requires-clause-samples c =
    let rows = c.args.rows.now in
    let row = c.index-rows-part.result in
    let of = subst (λ (p : RowSamples). IsOfRow rows p) (sym c.part.view_is) c.requires.part in
    let same : of.row ≡ row = sym (get_or_from_slice_get rows c.part.inside.row of.row row of.stands) ∙ sym c.index-rows-part.is in
    subst (λ (r : Row). All (IsSampleOf r) c.part.inside.samples.now) same of.samples

pub add_samples-requires-clause-target : goal.add_samples-requires-clause-target
add_samples-requires-clause-target c =
    let P : Granularity → Type 0 = λ g. IfSome c.last_file-listed.result (λ (e : Entry). IsPart g e.part × (e.series ≡ c.part.inside.row)) in
    let Q : Option Entry → Type 0 = λ o. IfSome o (λ (e : Entry). IsPart c.args.manifest.now.granularity e.part × (e.series ≡ c.part.inside.row)) in
    let last = c.last_file-listed.ensures in
    subst P (sym c.granularity.ensures) (subst Q (sym last.2) (target_of c.args.manifest.now.granularity c.args.manifest.now.entries c.args.limbo.now c.part.inside.row last.0 c.requires.listed c.requires.limbo last.1))

pub returns-clause-added : goal.returns-clause-added
returns-clause-added c =
    let rows = c.args.rows.now in
    let part : RowSamples = record { row = c.part.inside.row; samples = c.part.inside.samples.now } in
    let row = c.index-rows-part.result in
    let target : Target = record { granularity = c.granularity.result; series = part.row; listed = c.last_file-listed.result } in
    let of = subst (λ (p : RowSamples). IsOfRow rows p) (sym c.part.view_is) c.requires.part in
    let same : of.row ≡ row = sym (get_or_from_slice_get rows part.row of.row row of.stands) ∙ sym c.index-rows-part.is in
    let P : Row → Type 0 = λ r. slice_get rows part.row ≡ Some r in
    let G : Granularity → Type 0 = λ g. PlansOn g rows c.args.manifest.now.entries c.args.limbo.now part c.in_ok-count.count c.args.writes.now.items c.add_samples.new.writes.items in
    let On : RowSamples → Type 0 = λ p. PlansOn c.args.manifest.now.granularity rows c.args.manifest.now.entries c.args.limbo.now p c.in_ok-count.count c.args.writes.now.items c.add_samples.new.writes.items in
    let last = c.last_file-listed.ensures in
    subst On c.part.view_is (subst G c.granularity.ensures (plans_on target rows c.args.manifest.now.entries c.args.limbo.now part row c.in_ok-count.count c.args.writes.now.items c.add_samples.new.writes.items last.0 refl (subst P same of.stands) last.1 last.2 c.in_ok-count.ensures.added))
