use Rattle.std.proofs.Common.{ℕ, List, length, take, ◌∙◌, ap, Err}
use Rattle.gate_journal.specs.Batches.{open_gates}
use Rattle.gate_journal.specs.DiskShown.{shown_by}
use Rattle.store_reopen.proofs.Having.{settled_file_of}
use Rattle.gate_journal.proofs.OneReading.{one_list}
use Rattle.store_reopen.proofs.journals.gate_of.Goals as goal

pub returns-in_ok-file-in-Ok-clause-gate : goal.returns-in_ok-file-in-Ok-clause-gate
returns-in_ok-file-in-Ok-clause-gate g c tells bs has =
    let old = g.D.Disk.files c.args.disk.now in
    let same = one_list c.args.name.now old c.in-Ok.batches bs (c.in-Ok.ensures.batches tells) has in
    let current = settled_file_of c.in-Ok.journal c.args.name.now old (shown_by g.D.Disk c.load.new.disk) bs c.in-Ok.batches c.in-Ok.ensures.journal.0 (c.in-Ok.ensures.settled tells) (c.load.ensures.leaves tells).kept.here has in (
      c.in_ok-file-in-Ok.ensures ∙ c.file.ensures ∙ current,
      c.in_ok-at-in-Ok.ensures ∙ ap (λ (l : List (List ℕ)). length (open_gates (take c.args.number l))) same,
    )

pub returns-in-Err-BadJournal-clause-gate : goal.returns-in-Err-BadJournal-clause-gate
returns-in-Err-BadJournal-clause-gate g c tells bs has =
    absurd (c.one_bad_place.ensures.excluded c.args.name.now (g.D.Disk.files c.args.disk.now) bs c.in-Err-BadJournal.file c.in-Err-BadJournal.at has (c.in-Err-BadJournal.ensures.bad tells c.in-Err-BadJournal.file c.in-Err-BadJournal.at (ap Err c.in-Err-BadJournal.field-0-is)))
