use Rattle.std.proofs.Common.{inl, inr, None, refl, ◌∙◌, ap, subst, arith}
use Rattle.std.proofs.lemmas.Result.{on_ok_weaker}
use Rattle.disk_model.specs.Files.{Content, Files, KeptOr}
use Rattle.disk_model.specs.Past.{Only}
use Rattle.gate_journal.specs.DiskShown.{shown_by}
use Rattle.gate_journal.proofs.Files.{then_reads}
use Rattle.gate_journal.proofs.anew.remove_synced.Goals as goal

pub returns-in_err-remove-clause-removes : goal.returns-in_err-remove-clause-removes
returns-in_err-remove-clause-removes g c tells = record {
  files = c.in_err-remove.ensures.unremoved tells;
  any_moment = c.remove.ensures.crash tells;
  opened = c.remove.ensures.opened tells;
  unopened = omega (arith, c.remove.ensures.no_more tells, c.requires.unopened tells);
}

pub returns-clause-removes : goal.returns-clause-removes
returns-clause-removes g c tells =
    let gone = c.in_ok-remove.ensures.removed tells in
    then_reads c.args.name.now (KeptOr None) (λ x. inl refl) (shown_by g.D.Disk c.args.disk.now) (shown_by g.D.Disk c.remove.new.self) (shown_by g.D.Disk c.sync.new.self)
    (record { files = record { here = inr gone.here; elsewhere = gone.elsewhere }; any_moment = c.remove.ensures.crash tells; opened = c.remove.ensures.opened tells; unopened = c.in_ok-remove.ensures.closed tells })
    (record { same = c.sync.ensures.same tells; same_opened = c.sync.ensures.opened tells; any_moment = c.sync.ensures.crash tells })

pub returns-clause-gone : goal.returns-clause-gone
returns-clause-gone g c tells =
    let gone = (c.in_ok-remove.ensures.removed tells).here in
    let P : Content → Type 0 = λ content. Only (g.D.Disk.past c.sync.new.self) c.args.name.now content in
    on_ok_weaker c.sync.result (λ durable. (ap (λ (f : Files). f c.args.name.now) (c.sync.ensures.same tells) ∙ gone, subst P gone durable)) (c.sync.ensures.durable tells)
