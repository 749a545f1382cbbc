use Rattle.std.proofs.Common.{List, [], ◌+◌, sym, ◌∙◌, ap, subst, take-append-drop}
use Rattle.store_manifest.specs.declared.entry.Entry.{Entry}
use Rattle.store_manifest.specs.declared.entry.Change.{Change}
use Rattle.store_manifest.specs.Entries.{Place, changed}
use Rattle.store_manifest.specs.Listing.{IsAround}
use Rattle.store_manifest.proofs.Around.{spliced_around}
use Rattle.store_manifest.proofs.series.change_list.Goals as goal

pub returns-in-Ok-clause-items : goal.returns-in-Ok-clause-items
returns-in-Ok-clause-items c =
    let xs = c.args.list.now.items in
    let at = c.in-Ok.at in
    let p : Place = (c.in-Drop.series, c.in-Drop.start) in
    let P : List Entry → Type 0 = λ l. IsAround p l at (at + 1) in
    c.remove.ensures.items
    ∙ spliced_around p xs [] at (at + 1) (subst P c.as_slice.ensures c.in-Ok.ensures.found.1)
    ∙ ap (λ (z : Change). changed xs z) (sym c.in-Drop.is)

pub returns-in_default-clause-items : goal.returns-in_default-clause-items
returns-in_default-clause-items c =
    let xs = c.args.list.now.items in
    let at = c.in_default.field-0 in
    let p : Place = (c.in-Drop.series, c.in-Drop.start) in
    let P : List Entry → Type 0 = λ l. IsAround p l at at in
    sym (take-append-drop at xs) ∙ spliced_around p xs [] at at (subst P c.as_slice.ensures c.in_default.ensures.absent.1) ∙ ap (λ (z : Change). changed xs z) (sym c.in-Drop.is)
