use Rattle.tier_store.proofs.PinnedFiles.{none_named, row_within}
use Rattle.tier_store.proofs.store.TierStore.pin_named.Goals as goal

pub pin_row-requires-clause-row : goal.pin_row-requires-clause-row
pin_row-requires-clause-row g c = row_within c.args.self.now.catalogue.rows c.in-Some.row c.args.name.now c.in-Some.ensures.found

pub returns-in_default-clause-pinned : goal.returns-in_default-clause-pinned
returns-in_default-clause-pinned g c =
    let self = c.args.self.now in
    none_named self.catalogue.rows _ c.args.who c.args.name.now c.args.query c.args.tail self.pinned c.find.result c.in_default.is c.find.ensures.only
