-- A journal over a disk in memory, between two steps and behind one that failed.
use Rattle.std.specs.Prelude.{◌≡◌, ℕ, Bool, true, false, List}
use Rattle.disk_model.specs.Disk.{DiskRecord}
use Rattle.disk_model.specs.Record.{files_of, opened_of, past_of}
use Rattle.gate_journal.specs.Journal.{JournalState, IsSettledWith, IsUndecided}
use Rattle.gate_journal.specs.DiskShown.{DiskShown}

-- what the disk shows of itself
abbrev pub shown : DiskRecord → DiskShown
shown disk = record { files = files_of disk.calls; opened = opened_of disk.calls; past = past_of disk.calls }

-- it may commit, and its batches are on the disk
abbrev pub Rests : JournalState → DiskRecord → Type 0
Rests journal disk = (journal.sound ≡ true) × ((batches : List (List ℕ)) × IsSettledWith journal (shown disk) batches)

-- its last step may have been made or not
abbrev pub Waits : JournalState → DiskRecord → Type 0
Waits journal disk =
    (journal.sound ≡ false) × ((before : List (List ℕ)) × (after : List (List ℕ)) × IsUndecided journal (shown disk) before after)

-- the one where a step was made, and else the other
abbrev pub GoesOn : JournalState → DiskRecord → Bool → Type 0
GoesOn journal disk true = Rests journal disk
GoesOn journal disk false = Waits journal disk
