use Rattle.gate_journal.proofs.OneReading.{each_image_reads}
use Rattle.gate_journal.proofs.laws.every_image_is_read.Goals as goal

pub returns : goal.returns
returns c = each_image_reads
