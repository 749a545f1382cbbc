use Rattle.std.proofs.Common.{ap, ◌∙◌}
use Rattle.std.specs.List.{flat_map}
use Rattle.std.proofs.lemmas.List.{take_all}
use Rattle.moves.specs.Table.{inner}
use Rattle.archive_core.specs.Written.{names_of_slot}
use Rattle.archive_core.proofs.Lists.{read_at, are_written}
use Rattle.archive_core.proofs.written.written_names.Goals as goal

pub add_names-requires : goal.add_names-requires
add_names-requires c = record { listable = c.requires.listable c.loop-slot.slot-index c.in-Some.running (ap inner (read_at c.args.slots.now c.loop-slot.slot-index c.slot-item.result c.slot-item.is c.loop-slot-test.true) ∙ c.in-Some.is) }

pub returns : goal.returns
returns c = are_written c.args.rows.now c.args.slots.now c.loop-slot.names.items (c.loop-slot.invariant ∙ ap (flat_map (names_of_slot c.args.rows.now)) (take_all c.loop-slot.slot-index c.args.slots.now c.loop-slot-test.false))
