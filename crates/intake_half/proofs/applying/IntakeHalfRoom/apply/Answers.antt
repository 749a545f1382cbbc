use Rattle.two_histories.specs.IntakeStep.{LooksForBatch, LooksAt, Takes, TakesFlush, sees_doors, sees_row, takes, takes_flush, lacks_memory}
use Rattle.intake_half.specs.Taking.{end_in}
use Rattle.intake_half.proofs.Stepping.{doors_told, door_counted}
use Rattle.intake_half.proofs.applying.IntakeHalfRoom.apply.Goals as goal

pub returns-in-Doors : goal.returns-in-Doors
returns-in-Doors c = rw (c.in-Doors.is, c.doors.ensures) (doors_told c.args._who c.args.self.now)

pub returns-in-DoorDone : goal.returns-in-DoorDone
returns-in-DoorDone c = rw (c.in-DoorDone.is, c.door_done.ensures.left, c.door_done.ensures.half) (door_counted c.args._who c.args.self.now)

pub returns-in-LookForDoors : goal.returns-in-LookForDoors
returns-in-LookForDoors c = rw (c.in-LookForDoors.is, c.doors-in-LookForDoors.ensures) sees_doors

pub returns-in-Ok-look_at : goal.returns-in-Ok-look_at
returns-in-Ok-look_at c = rw (c.in-LookAt.is, c.doors-in-Ok-look_at.ensures, c.in-Ok-look_at.ensures) (sees_row c.in-LookAt.name)

pub returns-in-Ok-take : goal.returns-in-Ok-take
returns-in-Ok-take c = rw (c.in-Take.is, c.in-Ok-take.ensures.ok, c.deref.ensures.value) (takes (end_in c.in-Take.ends.items) c.in-Take.rows.items)

pub returns-in-Ok-take_flush : goal.returns-in-Ok-take_flush
returns-in-Ok-take_flush c = rw (c.in-TakeFlush.is, c.in-Ok-take_flush.ensures.ok, c.deref-in-TakeFlush.ensures.value) (takes_flush c.in-TakeFlush.len (end_in c.in-TakeFlush.ends.items) c.in-TakeFlush.rows.items)

-- MEMORY IS WANTING

pub returns-in-LookForBatch : goal.returns-in-LookForBatch
returns-in-LookForBatch c = rw c.in-LookForBatch.is (lacks_memory (LooksForBatch c.in-LookForBatch.limit) tt)

pub returns-in-LookAt : goal.returns-in-LookAt
returns-in-LookAt c = rw c.in-LookAt.is (lacks_memory (LooksAt c.in-LookAt.name) tt)

pub returns-in-Take : goal.returns-in-Take
returns-in-Take c = rw (c.in-Take.is, c.in-Err-take.ensures.err) (lacks_memory (Takes (end_in c.in-Take.ends.items) c.in-Take.rows.items) tt)

pub returns : goal.returns
returns c = rw (c.in-TakeFlush.is, c.in-Err-take_flush.ensures.err) (lacks_memory (TakesFlush c.in-TakeFlush.len (end_in c.in-TakeFlush.ends.items) c.in-TakeFlush.rows.items) tt)
