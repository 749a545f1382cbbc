use Rattle.std.proofs.Common.{inl, None, refl, sym, ◌∙◌}
use Rattle.disk_model.specs.Files.{KeptOr}
use Rattle.gate_journal.specs.DiskShown.{shown_by}
use Rattle.gate_journal.proofs.Files.{has_file, only_reads, reads_then, then_reads}
use Rattle.gate_journal.proofs.anew.clear.Goals as goal

pub remove_synced-requires-clause-file : goal.remove_synced-requires-clause-file
remove_synced-requires-clause-file g c tells =
    has_file (g.D.Disk.files c.args.disk.now) (g.D.Disk.files c.size.new.self) c.args.name.now c.in-Some.field-0 (c.size.ensures.same tells) (sym (c.in_ok-size.ensures.size tells) ∙ c.in-Some.is)

pub returns-in_err-size-clause-removes : goal.returns-in_err-size-clause-removes
returns-in_err-size-clause-removes g c tells =
    only_reads c.args.name.now (KeptOr None) (λ x. inl refl) (shown_by g.D.Disk c.args.disk.now) (shown_by g.D.Disk c.size.new.self) (c.requires.unopened tells)
    (record { same = c.size.ensures.same tells; same_opened = c.size.ensures.opened tells; any_moment = c.size.ensures.crash tells })

pub returns-in-Some-clause-removes : goal.returns-in-Some-clause-removes
returns-in-Some-clause-removes g c tells =
    reads_then c.args.name.now (KeptOr None) (λ x. inl refl) (shown_by g.D.Disk c.args.disk.now) (shown_by g.D.Disk c.size.new.self) (shown_by g.D.Disk c.remove_synced.new.disk)
    (record { same = c.size.ensures.same tells; same_opened = c.size.ensures.opened tells; any_moment = c.size.ensures.crash tells }) (c.remove_synced.ensures.removes tells)

pub returns-in-None-clause-removes : goal.returns-in-None-clause-removes
returns-in-None-clause-removes g c tells =
    let was = shown_by g.D.Disk c.args.disk.now in
    let sized = shown_by g.D.Disk c.size.new.self in
    let looked = only_reads c.args.name.now (KeptOr None) (λ x. inl refl) was sized (c.requires.unopened tells) (record { same = c.size.ensures.same tells; same_opened = c.size.ensures.opened tells; any_moment = c.size.ensures.crash tells }) in
    then_reads c.args.name.now (KeptOr None) (λ x. inl refl) was sized (shown_by g.D.Disk c.sync.new.self) looked
    (record { same = c.sync.ensures.same tells; same_opened = c.sync.ensures.opened tells; any_moment = c.sync.ensures.crash tells })
