use Rattle.std.proofs.Common.{◌∙◌, refl, ap}
use Rattle.std.specs.Prelude.{decimal}
use Rattle.disk_model.specs.Files.{Name}
use Rattle.command_words.specs.declared.status.Status.TheVariants.{Damaged}
use Rattle.command_words.specs.Complaint.{complaint_of}
use Rattle.command_words.proofs.Complaining.{told_as, damaged_line}
use Rattle.command_words.proofs.complaint.tell_damage.Goals as goal

pub returns-clause-told : goal.returns-clause-told
returns-clause-told g c =
    let status = Damaged c.args.name.now c.args.at in
    told_as (g.E.Sink.written c.args.complaints.now) (g.E.Sink.written c.tell.new.complaints) (g.E.Sink.write_faults c.args.complaints.now) (g.E.Sink.write_faults c.tell.new.complaints) _ (complaint_of status)
    (damaged_line c.as_bytes.result.now c.as_slice.result.now c.as_bytes-2.result.now c.args.name.now c.args.at status (c.as_bytes.ensures.value ∙ c.format.ensures.text ∙ ap (λ (n : Name). decimal n.0) c.name.view_is)
    (c.as_slice.ensures.value ∙ ap (λ (n : Name). n.1) c.name.view_is) (c.as_bytes-2.ensures.value ∙ c.format-2.ensures.text) refl) c.tell.ensures.told
