use Rattle.std.proofs.Common.{arith}
use Rattle.intake_half.proofs.Stepping.{batch_fits, look_step}
use Rattle.intake_half.proofs.half.IntakeHalf.look_for_batch.Goals as goal

pub bytes_in-requires : goal.bytes_in-requires
bytes_in-requires c =
    let low = batch_fits c.self.inside.slots.items c.self.inside.intake c.self.inside.names c.self.inside.upto c.self.inside.doors c.self.invariant c.args.limit c.in_ok-batch.batch c.requires c.in_ok-batch.ensures in
    omega (arith, low, c.held.ensures.value, c.held.ensures.most)

pub overflow_sub-left : goal.overflow_sub-left
overflow_sub-left c =
    let low = batch_fits c.self.inside.slots.items c.self.inside.intake c.self.inside.names c.self.inside.upto c.self.inside.doors c.self.invariant c.args.limit c.in_ok-batch.batch c.requires c.in_ok-batch.ensures in
    omega (arith, low, c.held.ensures.value, c.bytes_in.ensures)

pub returns : goal.returns
returns c = rw (← c.self.view_is) (look_step c.self.inside.slots.items c.self.inside.intake c.self.inside.names c.self.inside.upto c.self.inside.doors c.self.invariant c.args.limit _ c.in_ok-batch.batch c.requires c.in_ok-batch.ensures (omega (arith, c.held.ensures.value, c.bytes_in.ensures)))
