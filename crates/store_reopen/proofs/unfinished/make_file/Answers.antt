use Rattle.std.proofs.Common.{◌≡◌, ◌≢◌, ◌≤◌, [], Some, sym, ◌∙◌, ap, subst}
use Rattle.std.specs.Prelude.{IsSome, OnErr, OnOk}
use Rattle.disk_model.specs.Files.{At, Becomes, Files, KeptOr, Name}
use Rattle.disk_model.specs.Past.{Passes}
use Rattle.store_reopen.specs.Strays.{adoption_name}
use Rattle.store_reopen.proofs.Marking.{begins_made, begins_read, begins_then, made_there, marks_made, marks_read, marks_then, some_of}
use Rattle.gate_journal.proofs.Begin.{no_file}
use Rattle.store_reopen.proofs.unfinished.make_file.Goals as goal

pub create-requires : goal.create-requires
create-requires g c tells = ap (λ (f : Files). f c.args.name.now) (c.size.ensures.same tells) ∙ no_file (g.D.Disk.files c.args.disk.now c.args.name.now) (sym (c.in_ok-size.ensures.size tells) ∙ c.in-None.is)

pub returns-in-Some-clause-there : goal.returns-in-Some-clause-there
returns-in-Some-clause-there g c tells =
    subst (λ (f : Files). IsSome (f adoption_name)) (sym (c.size.ensures.same tells))
    (subst (λ (n : Name). IsSome (g.D.Disk.files c.args.disk.now n)) c.requires (some_of (g.D.Disk.files c.args.disk.now c.args.name.now) _ (sym (c.in_ok-size.ensures.size tells) ∙ c.in-Some.is)))

pub returns-in-Some-clause-marks : goal.returns-in-Some-clause-marks
returns-in-Some-clause-marks g c tells = marks_read g.D.Disk c.args.disk.now c.size.new.self (c.size.ensures.same tells) (c.size.ensures.opened tells) (c.size.ensures.crash tells)

pub returns-in_err-size-clause-marks : goal.returns-in_err-size-clause-marks
returns-in_err-size-clause-marks g c tells = marks_read g.D.Disk c.args.disk.now c.size.new.self (c.size.ensures.same tells) (c.size.ensures.opened tells) (c.size.ensures.crash tells)

pub returns-in-None-clause-there : goal.returns-in-None-clause-there
returns-in-None-clause-there g c tells =
    made_there c.create.result (g.D.Disk.files c.size.new.self) (g.D.Disk.files c.create.new.self) (subst (λ (n : Name). OnOk c.create.result (At n (Becomes (Some [])) (g.D.Disk.files c.size.new.self) (g.D.Disk.files c.create.new.self))) c.requires (c.create.ensures.made tells))

pub returns-in-None-clause-marks : goal.returns-in-None-clause-marks
returns-in-None-clause-marks g c tells =
    let mid = c.size.new.self in
    let new = c.create.new.self in
    let is = c.requires in
    marks_then g.D.Disk c.args.disk.now mid new (marks_read g.D.Disk c.args.disk.now mid (c.size.ensures.same tells) (c.size.ensures.opened tells) (c.size.ensures.crash tells))
    (marks_made g.D.Disk c.create.result mid new (subst (λ (n : Name). OnOk c.create.result (At n (Becomes (Some [])) (g.D.Disk.files mid) (g.D.Disk.files new))) is (c.create.ensures.made tells))
    (subst (λ (n : Name). OnErr c.create.result (At n (KeptOr (Some [])) (g.D.Disk.files mid) (g.D.Disk.files new))) is (c.create.ensures.unmade tells)) (subst (λ (n : Name). Passes (At n (KeptOr (Some []))) (g.D.Disk.past mid) (g.D.Disk.past new)) is (c.create.ensures.crash tells))
    (subst (λ (m : Name). (n : Name) → n ≢ m → g.D.Disk.opened new n ≡ g.D.Disk.opened mid n) is (c.create.ensures.opened tells)) (subst (λ (n : Name). g.D.Disk.opened new n ≤ g.D.Disk.opened mid n) is (c.create.ensures.no_more tells)))

pub returns-in-Some-clause-stays : goal.returns-in-Some-clause-stays
returns-in-Some-clause-stays g c tells = begins_read (g.D.Disk.past c.args.disk.now) (g.D.Disk.past c.size.new.self) (c.size.ensures.crash tells)

pub returns-in_err-size-clause-stays : goal.returns-in_err-size-clause-stays
returns-in_err-size-clause-stays g c tells = begins_read (g.D.Disk.past c.args.disk.now) (g.D.Disk.past c.size.new.self) (c.size.ensures.crash tells)

pub returns-in-None-clause-stays : goal.returns-in-None-clause-stays
returns-in-None-clause-stays g c tells =
    let mid = g.D.Disk.past c.size.new.self in
    let new = g.D.Disk.past c.create.new.self in
    begins_then (g.D.Disk.past c.args.disk.now) mid new (begins_read (g.D.Disk.past c.args.disk.now) mid (c.size.ensures.crash tells))
    (begins_made mid new (subst (λ (n : Name). Passes (At n (KeptOr (Some []))) mid new) c.requires (c.create.ensures.crash tells)))
