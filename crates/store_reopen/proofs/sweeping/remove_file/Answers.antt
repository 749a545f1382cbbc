use Rattle.std.proofs.Common.{◌≡◌, sym, ◌∙◌, ap}
use Rattle.disk_model.specs.Files.{Files}
use Rattle.tier_store.proofs.Removals.{size_there}
use Rattle.store_reopen.proofs.Marking.{removes_one, removes_read, removes_then}
use Rattle.store_reopen.proofs.sweeping.remove_file.Goals as goal

pub remove-requires : goal.remove-requires
remove-requires g c tells =
    let there = size_there (g.D.Disk.files c.args.disk.now) c.args.name.now c.in-Some.field-0 (sym c.in-Some.is ∙ c.in_ok-size.ensures.size tells) in
    record { bytes = there.bytes; file = ap (λ (f : Files). f c.args.name.now) (c.size.ensures.same tells) ∙ there.file; holds = tt }

pub returns-in-Some-clause-removes : goal.returns-in-Some-clause-removes
returns-in-Some-clause-removes g c tells =
    removes_then g.D.Disk (λ n. n ≡ c.args.name.now) _ _ _ (removes_read g.D.Disk (λ n. n ≡ c.args.name.now) c.args.disk.now c.size.new.self (c.size.ensures.same tells) (c.size.ensures.opened tells) (c.size.ensures.crash tells))
    (removes_one g.D.Disk c.remove.result c.args.name.now c.size.new.self c.remove.new.self (c.remove.ensures.removed tells) (c.remove.ensures.unremoved tells) (c.remove.ensures.crash tells) (c.remove.ensures.opened tells) (c.remove.ensures.no_more tells))
