use Rattle.std.proofs.Common.{sym, ◌∙◌, ap}
use Rattle.disk_model.specs.Files.{Files}
use Rattle.gate_journal.proofs.Begin.{created, no_file}
use Rattle.gate_journal.proofs.load_plain.present.Goals as goal

pub returns-in_err-create-in-None-clause-crash : goal.returns-in_err-create-in-None-clause-crash
returns-in_err-create-in-None-clause-crash g c tells =
    let name = c.args.name.now in
    let none = ap (λ (f : Files). f name) (sym (c.sync.ensures.same tells)) ∙ no_file (g.D.Disk.files c.sync.new.self name) (sym (c.in_ok-size.ensures.size tells) ∙ c.in-None.is) in
    created (g.D.Disk.files c.args.disk.now name) name _ _ _ _ none (c.sync.ensures.crash tells) (c.in_ok-sync.ensures.durable tells) (c.size.ensures.crash tells) (c.create.ensures.crash tells)

pub returns-in_ok-create-in-None-clause-crash : goal.returns-in_ok-create-in-None-clause-crash
returns-in_ok-create-in-None-clause-crash g c tells =
    let name = c.args.name.now in
    let none = ap (λ (f : Files). f name) (sym (c.sync.ensures.same tells)) ∙ no_file (g.D.Disk.files c.sync.new.self name) (sym (c.in_ok-size.ensures.size tells) ∙ c.in-None.is) in
    created (g.D.Disk.files c.args.disk.now name) name _ _ _ _ none (c.sync.ensures.crash tells) (c.in_ok-sync.ensures.durable tells) (c.size.ensures.crash tells) (c.create.ensures.crash tells)
