-- An error of one file's journal, with the file's name.
use Rattle.disk_model.specs.Files.{Name}
use Rattle.gate_journal.specs.declared.load_plain.PlainErr.{PlainErr}
use Rattle.gate_journal.specs.declared.load_plain.PlainErr.TheVariants.{Disk as OfDisk, BadJournal as BadPlain}
use Rattle.gate_journal.specs.declared.load.JournalErr.{JournalErr}
use Rattle.gate_journal.specs.declared.load.JournalErr.TheVariants.{Disk as OfDiskToo, BadJournal as BadNamed}

abbrev pub named_err : PlainErr → Name → JournalErr
named_err (OfDisk e) name = OfDiskToo e
named_err (BadPlain at) name = BadNamed name at
