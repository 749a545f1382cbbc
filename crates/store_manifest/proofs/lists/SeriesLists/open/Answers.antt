use Rattle.std.proofs.Common.{sym, ◌∙◌}
use Rattle.store_manifest.specs.Listing.{list_of}
use Rattle.store_manifest.proofs.InMemory.{opened, opened_entries, none_from_test, differ_other}
use Rattle.store_manifest.proofs.lists.SeriesLists.open.Goals as goal

pub returns-clause-good : goal.returns-clause-good
returns-clause-good c = opened c.args.series c.new.result c.args.self.now.listed.entries c.insert.new.self.entries c.requires c.new.ensures c.in_ok-insert.ensures.ordered c.in_ok-insert.ensures.entries

pub returns-clause-entries : goal.returns-clause-entries
returns-clause-entries c =
    opened_entries
    c.args.series
    c.new.result
    c.args.self.now.listed.entries
    c.insert.new.self.entries
    c.new.ensures
    c.in_ok-insert.ensures.entries
    (none_from_test (list_of c.args.series c.args.self.now.listed.entries) (sym c.contains_key.ensures ∙ c.if-contains_key.false))

pub returns-clause-others : goal.returns-clause-others
returns-clause-others c s apart = differ_other c.args.self.now.listed.entries c.insert.new.self.entries c.args.series s _ c.in_ok-insert.ensures.updates.0 apart
