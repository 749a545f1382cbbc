use Rattle.tier_store.specs.Pinned.{seen_all}
use Rattle.std.proofs.Common.{Err, ◌∙◌, ap, refl, subst, sym}
use Rattle.std.specs.Prelude.{IsSome}
use Rattle.disk_model.specs.declared.disk.DiskErr.{DiskErr}
use Rattle.tier_store.specs.Opening.{answer_of}
use Rattle.act_model.specs.Reply.{reply_of}
use Rattle.archive_core.specs.Parts.{memory_in, parts, parts_beside}
use Rattle.archive_core.specs.Stepping.{TakesMove}
use Rattle.archive_core.proofs.Publishing.{cut_by_fault, cut_by_memory, gone_then, moves_on, not_running}
use Rattle.archive_core.proofs.archive.Archive.step_move.Goals.{In-Some}
use Rattle.archive_core.proofs.archive.Archive.step_move.Goals as goal

pub returns-then-not-runs : goal.returns-then-not-runs
returns-then-not-runs g c = λ who. not_running g.D.Disk.tells who c.args.number (parts g.D.Disk c.args.self.now) (sym c.runs.ensures ∙ c.if-not-runs.true)

pub returns-in-Err-Fault : goal.returns-in-Err-Fault
returns-in-Err-Fault g c = λ who.
    cut_by_fault g.D.Disk.tells who c.args.number (parts g.D.Disk c.args.self.now) (sym c.runs.ensures ∙ c.if-not-runs.false) (parts g.D.Disk c.settle.new.self) c.settle.result c.settle.ensures.settling (λ settled. ap (seen_all g.D.Disk) (c.settle.ensures.quiet settled)) c.take.new.self.slots.items
    (c.in-Err-Fault.is ∙ ap (λ (d : DiskErr). Err d) c.in-Err-Fault.field-0-is) c.in-Err-Fault.ensures.still c.take.ensures.others

pub returns-in-Err-Memory : goal.returns-in-Err-Memory
returns-in-Err-Memory g c = λ who. cut_by_memory g.D.Disk.tells who c.args.number (parts g.D.Disk c.args.self.now) (sym c.runs.ensures ∙ c.if-not-runs.false) (parts g.D.Disk c.settle.new.self) c.settle.result c.settle.ensures.settling (λ settled. ap (seen_all g.D.Disk) (c.settle.ensures.quiet settled)) c.in-Err-Memory.ensures.still

pub returns-in_default : goal.returns-in_default
returns-in_default g c = λ who.
    gone_then g.D.Disk.tells who c.args.number (parts g.D.Disk c.args.self.now) (sym c.runs.ensures ∙ c.if-not-runs.false) (parts g.D.Disk c.settle.new.self) c.settle.result c.settle.ensures.settling (λ settled. ap (seen_all g.D.Disk) (c.settle.ensures.quiet settled)) c.in-Ok.ensures.settled c.take-2.new.self.slots.items c.take-2.ensures.others (sym c.take-2.ensures.taken ∙ c.in_default.is)

takes : (g : _) (c : In-Some g) → TakesMove c.args.number c.in-Some.running c.settle.new.self.half.moves.slots.items c.take-2.new.self.slots.items
takes g c = record { ran = sym c.take-2.ensures.taken ∙ c.in-Some.is; others = c.take-2.ensures.others }

pub go_on-requires : goal.go_on-requires
go_on-requires g c =
    let then = c.in-Ok.ensures.settled c.requires.stands.0 c.requires.stands.1 in
    record { taken = (memory_in c.settle.new.self, (c.settle.new.self.half.moves.slots.items, record then.0 { faults = (parts g.D.Disk c.settle.new.self).at.faults }, takes g (goal.at.go_on-requires g c).In-Some, then.2)); room = c.take-2.ensures.room (subst IsSome (sym c.in-Some.is) refl) }

pub returns : goal.returns
returns g c = λ who.
    let t = takes g (goal.at.returns g c).In-Some in
    moves_on g.D.Disk.tells who c.args.number (parts g.D.Disk c.args.self.now) (sym c.runs.ensures ∙ c.if-not-runs.false) (parts g.D.Disk c.settle.new.self) c.settle.result c.settle.ensures.settling (λ settled. ap (seen_all g.D.Disk) (c.settle.ensures.quiet settled)) c.in-Ok.ensures.settled c.in-Some.running t.ran (parts_beside g.D.Disk c.go_on.new.self (memory_in c.settle.new.self))
    (reply_of g.D.Reader.ReadAt.tells g.D.Reader.ReadAt.bytes g.D.Reader.ReadAt.faults (answer_of c.go_on.result)) (λ m r. c.go_on.ensures (memory_in c.settle.new.self) c.settle.new.self.half.moves.slots.items m t r) c.requires.stands.0 c.requires.stands.1
