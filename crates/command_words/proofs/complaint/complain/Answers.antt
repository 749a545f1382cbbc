use Rattle.std.proofs.Common.{◌∙◌, ap}
use Rattle.std.specs.Prelude.{decimal}
use Rattle.command_words.specs.Complaint.{complaint_of}
use Rattle.command_words.proofs.Complaining.{told_as, refused_line, granularity_line}
use Rattle.command_words.proofs.complaint.complain.Goals as goal

pub returns-in-Usage-clause-told : goal.returns-in-Usage-clause-told
returns-in-Usage-clause-told g c = rw c.in-Usage.is c.tell-in-Usage.ensures.told

pub returns-in-NoSuchVariable-clause-told : goal.returns-in-NoSuchVariable-clause-told
returns-in-NoSuchVariable-clause-told g c = rw c.in-NoSuchVariable.is c.tell-in-NoSuchVariable.ensures.told

pub returns-in-SourceFault-clause-told : goal.returns-in-SourceFault-clause-told
returns-in-SourceFault-clause-told g c = rw c.in-SourceFault.is c.tell-in-SourceFault.ensures.told

pub returns-in-SinkFault-clause-told : goal.returns-in-SinkFault-clause-told
returns-in-SinkFault-clause-told g c = rw c.in-SinkFault.is c.tell-in-SinkFault.ensures.told

pub returns-in-DiskFault-clause-told : goal.returns-in-DiskFault-clause-told
returns-in-DiskFault-clause-told g c = rw c.in-DiskFault.is c.tell-in-DiskFault.ensures.told

pub returns-in-OutOfMemory-clause-told : goal.returns-in-OutOfMemory-clause-told
returns-in-OutOfMemory-clause-told g c = rw c.in-OutOfMemory.is c.tell-in-OutOfMemory.ensures.told

pub returns-in-DoorFault-clause-told : goal.returns-in-DoorFault-clause-told
returns-in-DoorFault-clause-told g c = rw c.in-DoorFault.is c.tell-in-DoorFault.ensures.told

pub returns-in-Spent-clause-told : goal.returns-in-Spent-clause-told
returns-in-Spent-clause-told g c = rw c.in-Spent.is c.tell-in-Spent.ensures.told

pub returns-in-Refused-clause-told : goal.returns-in-Refused-clause-told
returns-in-Refused-clause-told g c =
    told_as (g.E.Sink.written c.args.complaints.now) (g.E.Sink.written c.tell-in-Refused.new.complaints) (g.E.Sink.write_faults c.args.complaints.now) (g.E.Sink.write_faults c.tell-in-Refused.new.complaints) _ (complaint_of c.args.status.now)
    (refused_line c.as_bytes.result.now c.as_bytes-in-Refused.result.now c.in-Refused.line c.in-Refused.fault c.args.status.now (c.as_bytes.ensures.value ∙ c.format.ensures.text)
    (c.as_bytes-in-Refused.ensures.value ∙ c.format-in-Refused.ensures.text ∙ ap decimal c.number.ensures) c.in-Refused.is) c.tell-in-Refused.ensures.told

pub returns-in-Damaged-clause-told : goal.returns-in-Damaged-clause-told
returns-in-Damaged-clause-told g c = rw c.in-Damaged.is c.tell_damage.ensures.told

pub returns-in-GranularityDiffers-clause-told : goal.returns-in-GranularityDiffers-clause-told
returns-in-GranularityDiffers-clause-told g c =
    told_as (g.E.Sink.written c.args.complaints.now) (g.E.Sink.written c.tell-in-GranularityDiffers.new.complaints) (g.E.Sink.write_faults c.args.complaints.now) (g.E.Sink.write_faults c.tell-in-GranularityDiffers.new.complaints) _ (complaint_of c.args.status.now)
    (granularity_line c.name.result.now c.name-in-GranularityDiffers.result.now c.in-GranularityDiffers.kept c.in-GranularityDiffers.asked c.args.status.now c.name.ensures c.name-in-GranularityDiffers.ensures c.in-GranularityDiffers.is)
    c.tell-in-GranularityDiffers.ensures.told
