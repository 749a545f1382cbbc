use Rattle.std.proofs.Common.{◌≡◌, Option, None, Some, refl, sym, ◌∙◌, subst}
use Rattle.std.specs.Prelude.{IfSome}
use Rattle.store_manifest.specs.declared.entry.Entry.{Entry}
use Rattle.std.specs.Option.{option_copied}
use Rattle.etl_mover.specs.Step.{CanRevive, CanCopy, IsPlacedOrNot}
use Rattle.etl_mover.proofs.Steps.{advances_none, all_copied, no_part, reads_none}
use Rattle.etl_mover.proofs.moving.Move.copy.Goals as goal

pub copy_next-requires-clause-next : goal.copy_next-requires-clause-next
copy_next-requires-clause-next g c = sym c.next_part.ensures ∙ c.in-Some.is

pub copy_next-requires-clause-head : goal.copy_next-requires-clause-head
copy_next-requires-clause-head g c = c.requires.head c.in-Some.part (sym c.next_part.ensures ∙ c.in-Some.is)

pub copy_next-requires-clause-revived : goal.copy_next-requires-clause-revived
copy_next-requires-clause-revived g c = subst (λ (o : Option Entry). IfSome o (CanRevive c.args.self.now)) (sym c.copied.ensures) c.requires.revived

pub copy_next-requires-clause-can : goal.copy_next-requires-clause-can
copy_next-requires-clause-can g c tells = subst (λ (o : Option Entry). CanCopy c.args.self.now o c.args.len (g.D.Disk.files c.args.disk.now) (g.D.Disk.opened c.args.disk.now)) (sym c.copied.ensures) (c.requires.can tells)

pub returns-in_default-clause-copies : goal.returns-in_default-clause-copies
returns-in_default-clause-copies g c tells part start b goes = absurd (no_part c.args.self.now _ part start (sym c.next_part.ensures ∙ c.in_default.is) goes)

pub returns-in_default-clause-leaves : goal.returns-in_default-clause-leaves
returns-in_default-clause-leaves g c tells part start goes = absurd (no_part c.args.self.now _ part start (sym c.next_part.ensures ∙ c.in_default.is) goes)

pub returns-in_default-clause-nowhere : goal.returns-in_default-clause-nowhere
returns-in_default-clause-nowhere g c tells never = reads_none _

pub returns-in_default-clause-running : goal.returns-in_default-clause-running
returns-in_default-clause-running g c fine is = is

pub returns-in_default-clause-advances : goal.returns-in_default-clause-advances
returns-in_default-clause-advances g c = advances_none c.args.self.now _ c.args.len

pub returns-in_default-clause-done : goal.returns-in_default-clause-done
returns-in_default-clause-done g c = (λ is. all_copied c.requires.running.0 c.args.self.now c.requires.running.1 (sym c.next_part.ensures ∙ c.in_default.is), λ is. refl)

pub returns-clause-copies : goal.returns-clause-copies
returns-clause-copies g c = rw c.copied.ensures at c.copy_next.ensures.copies

pub returns-clause-leaves : goal.returns-clause-leaves
returns-clause-leaves g c = rw c.copied.ensures at c.copy_next.ensures.leaves

pub returns-clause-nowhere : goal.returns-clause-nowhere
returns-clause-nowhere g c = rw c.copied.ensures at c.copy_next.ensures.nowhere

pub returns-clause-running : goal.returns-clause-running
returns-clause-running g c = c.copy_next.ensures.running

pub returns-clause-advances : goal.returns-clause-advances
returns-clause-advances g c = rw c.copied.ensures at c.copy_next.ensures.advances

pub returns-clause-done : goal.returns-clause-done
returns-clause-done g c = c.copy_next.ensures.done

pub returns-in_default-clause-either : goal.returns-in_default-clause-either
returns-in_default-clause-either g c part next low =
    let none : ◌≡◌ {A = Option Entry} None (Some part) = sym (sym c.next_part.ensures ∙ c.in_default.is) ∙ next in
    absurd (cc (none))

pub returns-clause-either : goal.returns-clause-either
returns-clause-either g c part next low =
    let same : ◌≡◌ {A = Option Entry} (Some c.in-Some.part) (Some part) = sym (sym c.next_part.ensures ∙ c.in-Some.is) ∙ next in
    let one : c.in-Some.part ≡ part = cc (same) in
    subst (λ (e : Entry). IsPlacedOrNot c.args.self.now (option_copied c.args.revived) e) one (subst (λ (o : Option Entry). IsPlacedOrNot c.args.self.now o c.in-Some.part) c.copied.ensures (c.copy_next.ensures.either low))
