-- With which statuses the commands end, and for which causes.
use Rattle.std.proofs.Common.{◌≡◌, ℕ, List, Option, Some, None, Result, Ok, Err, refl, sym, subst}
use Rattle.std.specs.Prelude.{IfOk}
use Rattle.feed_session.specs.Session.{ReadsOf}
use Rattle.feed_session.specs.declared.end.Fed.{Fed}
use Rattle.feed_session.specs.declared.end.Fed.TheVariants as fed
use Rattle.pb_lines.specs.Stream.{Item}
use Rattle.store_reopen.specs.declared.error.ReopenErr.{ReopenErr}
use Rattle.store_reopen.specs.declared.error.ReopenErr.TheVariants as reopening
use Rattle.store_reports.specs.Status as summary
use Rattle.store_reports.specs.Telling as telling
use Rattle.store_reports.specs.declared.report.Damage.{Damage}
use Rattle.store_reports.specs.declared.inspection.CheckErr.{CheckErr}
use Rattle.store_reports.specs.declared.inspection.CheckErr.TheVariants as checked
use Rattle.store_reports.specs.declared.summary.StatusErr.{StatusErr}
use Rattle.store_reports.specs.declared.summary.StatusErr.TheVariants as summed
use Rattle.command_words.specs.declared.command.StoreCommand.{StoreCommand}
use Rattle.command_words.specs.declared.command.StoreCommand.TheVariants as command
use Rattle.command_words.specs.declared.status.Status.{Status}
use Rattle.command_words.specs.declared.status.Status.TheVariants.{SinkFault, DiskFault, OutOfMemory}
use Rattle.archiver_appliance.specs.Ingesting.{IsIngested}
use Rattle.archiver_appliance.specs.Judging.{IsOfOpened, refusal_of}
use Rattle.archiver_appliance.specs.Outside.{IsCausedBy}
use Rattle.archiver_appliance.specs.Reporting.{Tells, reported_status, checked_status}
use Rattle.archiver_appliance.specs.Run.{EndsAs, NoDamage}

-- A DISK THAT ISN'T OPENED

pub refused_ends : {D R : Type 0} (asked : StoreCommand) (source : Option (List ℕ)) (err : ReopenErr D R) → EndsAs asked source (refusal_of err)
refused_ends {D} {R} asked source (reopening.DiskFault disk) = tt
refused_ends {D} {R} asked source err = tt

-- AN INGEST

pub ingest_ends : (source : Option (List ℕ)) (items : List Item) (came : Fed) (status : Status) → IsIngested came status → ReadsOf came source items → EndsAs command.Ingest source status
ingest_ends source items (fed.Fed kept held dropped) status told reads = subst (λ (s : Status). EndsAs command.Ingest source s) (sym told) (items, reads)
ingest_ends source items (fed.Refused line fault) status told reads = subst (λ (s : Status). EndsAs command.Ingest source s) (sym told) (tt, (items, reads))
ingest_ends source items fed.PeerFault status told reads = subst (λ (s : Status). EndsAs command.Ingest source s) (sym told) tt
ingest_ends source items fed.DiskFault status told reads = subst (λ (s : Status). EndsAs command.Ingest source s) (sym told) tt
ingest_ends source items fed.Spent status told reads = absurd told
ingest_ends source items fed.Memory status told reads = subst (λ (s : Status). EndsAs command.Ingest source s) (sym told) tt

pub ingest_caused : {R : Type 0} (faults : R → ℕ) (read disk : Type 0) (came : Fed) (status : Status) → IsIngested came status → (came ≡ fed.PeerFault → read) → (came ≡ fed.DiskFault → disk) → IsCausedBy faults read ⊥ disk status None
ingest_caused {R} faults read disk (fed.Fed kept held dropped) status told peer failed = subst (λ (s : Status). IsCausedBy faults read ⊥ disk s None) (sym told) tt
ingest_caused {R} faults read disk (fed.Refused line fault) status told peer failed = subst (λ (s : Status). IsCausedBy faults read ⊥ disk s None) (sym told) tt
ingest_caused {R} faults read disk fed.PeerFault status told peer failed = subst (λ (s : Status). IsCausedBy faults read ⊥ disk s None) (sym told) (peer refl)
ingest_caused {R} faults read disk fed.DiskFault status told peer failed = subst (λ (s : Status). IsCausedBy faults read ⊥ disk s None) (sym told) (failed refl)
ingest_caused {R} faults read disk fed.Spent status told peer failed = absurd told
ingest_caused {R} faults read disk fed.Memory status told peer failed = subst (λ (s : Status). IsCausedBy faults read ⊥ disk s None) (sym told) tt

-- A REPORT OF ROWS

pub tells_of : (text : List ℕ) (a b : Option (List ℕ)) (came : Result Unit StatusErr) → summary.Writes a b came text → Tells text a b (reported_status came)
tells_of text a b (Ok done) w = w
tells_of text a b (Err summed.SinkFault) w = w
tells_of text a b (Err summed.DiskFault) w = w
tells_of text a b (Err summed.OutOfMemory) w = w

-- A CHECK

-- no damage is found
pub check_stands : {R : Type 0} (came : Result (Option Damage) (CheckErr R)) → IfOk came (λ damage. damage ≡ None) → NoDamage (checked_status came)
check_stands {R} (Ok (Some damage)) none = cc
check_stands {R} (Ok None) none = tt
check_stands {R} (Err checked.SinkFault) none = tt
check_stands {R} (Err checked.DiskFault) none = tt
check_stands {R} (Err (checked.ReadFault file)) none = tt
check_stands {R} (Err checked.OutOfMemory) none = tt

pub check_opened : {R : Type 0} (came : Result (Option Damage) (CheckErr R)) → IsOfOpened (checked_status came)
check_opened {R} (Ok (Some damage)) = tt
check_opened {R} (Ok None) = tt
check_opened {R} (Err checked.SinkFault) = tt
check_opened {R} (Err checked.DiskFault) = tt
check_opened {R} (Err (checked.ReadFault file)) = tt
check_opened {R} (Err checked.OutOfMemory) = tt
