use Rattle.std.proofs.Common.{sym, ◌∙◌}
use Rattle.store_manifest.proofs.InMemory.{roomy_lists, roomy_entries}
use Rattle.store_manifest.proofs.lists.SeriesLists.make_room.Goals as goal

pub returns-in-Some-clause-good : goal.returns-in-Some-clause-good
returns-in-Some-clause-good c =
    let written = c.get_mut.follows.holds c.reserve.new.self in
    roomy_lists c.args.series c.in-Some.list.now c.reserve.new.self c.open.new.self.listed.entries (c.get_mut.follows.lender c.reserve.new.self).entries c.in_ok-open.ensures.good (sym c.in-Some.ensures.value) written.0 written.4 c.reserve.ensures.items

pub returns-in-Some-clause-entries : goal.returns-in-Some-clause-entries
returns-in-Some-clause-entries c =
    let written = c.get_mut.follows.holds c.reserve.new.self in
    roomy_entries c.args.series c.in-Some.list.now c.reserve.new.self c.open.new.self.listed.entries (c.get_mut.follows.lender c.reserve.new.self).entries c.in_ok-open.ensures.good (sym c.in-Some.ensures.value) written.0 written.4 c.reserve.ensures.items
    ∙ c.in_ok-open.ensures.entries
