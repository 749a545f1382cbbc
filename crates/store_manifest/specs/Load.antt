-- What a load of a manifest tells.
use Rattle.gate_journal.specs.declared.load.JournalErr.{JournalErr}
use Rattle.gate_journal.specs.declared.load.JournalErr.TheVariants as journal
use Rattle.store_manifest.specs.declared.error.ManifestErr.{ManifestErr}
use Rattle.store_manifest.specs.declared.error.ManifestErr.TheVariants.{Disk, BadJournal}

-- what its journal tells it tells too
abbrev pub of_journal : JournalErr → ManifestErr
of_journal (journal.Disk e) = Disk e
of_journal (journal.BadJournal name at) = BadJournal name at
