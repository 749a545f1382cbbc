-- What an error with a file's name tells of the error of that file's journal.
use Rattle.std.proofs.Common.{◌≡◌, ℕ, ap}
use Rattle.disk_model.specs.Files.{Name}
use Rattle.gate_journal.specs.Named.{named_err}
use Rattle.gate_journal.specs.declared.load_plain.PlainErr.{PlainErr}
use Rattle.gate_journal.specs.declared.load_plain.PlainErr.TheVariants.{Disk as OfPlain, BadJournal as BadPlain}
use Rattle.gate_journal.specs.declared.load.JournalErr.TheVariants.{BadJournal as BadNamed}

pub named_bad : (error : PlainErr) (name file : Name) (at : ℕ) → named_err error name ≡ BadNamed file at → (error ≡ BadPlain at) × (file ≡ name)
named_bad (OfPlain e) name file at is = absurd (cc is)
named_bad (BadPlain place) name file at is =
    let same : place ≡ at = cc is in
    let which : file ≡ name = cc is in (ap (λ (n : ℕ). BadPlain n) same, which)
