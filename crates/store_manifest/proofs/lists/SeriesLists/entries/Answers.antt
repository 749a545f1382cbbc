use Rattle.std.proofs.Common.{ap, sym, ◌∙◌, Option}
use Rattle.store_manifest.specs.EntryList.{ListState}
use Rattle.store_manifest.specs.Listing.{own}
use Rattle.store_manifest.proofs.Slots.{shown}
use Rattle.store_manifest.proofs.InMemory.{shows_own}
use Rattle.store_manifest.proofs.lists.SeriesLists.entries.Goals as goal

pub returns-in-Some : goal.returns-in-Some
returns-in-Some c =
    c.as_slice.ensures
    ∙ ap (λ (o : Option ListState). shown own c.args.series o) c.in-Some.ensures.value
    ∙ sym (shows_own c.args.series c.args.self.now.listed.entries c.requires)

pub returns-in-None : goal.returns-in-None
returns-in-None c =
    ap (λ (o : Option ListState). shown own c.args.series o) c.in-None.ensures.value ∙ sym (shows_own c.args.series c.args.self.now.listed.entries c.requires)
