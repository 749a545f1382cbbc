use Rattle.std.proofs.Common.{List, ◌∙◌, sym, ap, subst}
use Rattle.store_manifest.specs.Entries.{is_listed}
use Rattle.store_manifest.specs.Listing.{OfSeries}
use Rattle.store_manifest.specs.declared.entry.Entry.{Entry}
use Rattle.tier_store.proofs.Removals.{of_series}
use Rattle.store_reopen.proofs.AdoptedDisk.{of_series_alone}
use Rattle.store_reopen.proofs.strays.is_listed.Goals as goal

pub returns : goal.returns
returns c =
    let all = c.args.manifest.now.entries in
    let of = subst (OfSeries c.args.series) (sym c.entries.ensures) (of_series c.args.series all c.requires) in
    c.begins_at.ensures c.args.series of ∙ ap (λ (es : List Entry). is_listed es (c.args.series, c.args.start)) c.entries.ensures ∙ of_series_alone c.args.series c.args.start all
