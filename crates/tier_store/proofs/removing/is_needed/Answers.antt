use Rattle.tier_store.proofs.Removals.{needed_among}
use Rattle.tier_store.proofs.removing.is_needed.Goals as goal

pub returns-else-is_pinned : goal.returns-else-is_pinned
returns-else-is_pinned c = needed_among c.pins.result.now c.args.pinned.now c.args.copied.now c.args.name.now c.is_pinned.result c.is_among.result c.pins.ensures c.is_pinned.ensures c.if-is_pinned.false c.is_among.ensures
