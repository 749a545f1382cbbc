-- What the commands that the same words ask for have in common.
use Rattle.std.proofs.Common.{ℕ, List, Option, arith, subst}
use Rattle.command_words.specs.declared.command.Command.TheVariants.{OverStore}
use Rattle.command_words.specs.declared.command.StoreCommand.{StoreCommand}
use Rattle.command_words.specs.declared.command.StoreCommand.TheVariants.{Ingest, Get, Etl, Status, Check, Serve, Adopt}
use Rattle.command_words.specs.Command.{IsCommand}
use Rattle.command_words.proofs.Words.{same_letter, same_name}
use Rattle.pv_catalog.specs.Rows.{HasName}
use Rattle.tier_store.specs.Stores.{Stores}
use Rattle.archiver_appliance.specs.Run.{IsReport, IsServable}

-- words ask for one command: what one needs of its name and the input, the other needs
pub servable_same : (words : List (List ℕ)) (a b : StoreCommand) (source : Option (List ℕ)) (first : Stores) → IsCommand words (OverStore a) → IsCommand words (OverStore b) → IsServable a source first → IsServable b source first
servable_same words Ingest Ingest source first one two can = can
servable_same words (Get a q) (Get b r) source first one two can = (can.0, subst (λ (n : List ℕ). HasName first.rows can.0 n) (same_name words a b q r one two) can.1)
servable_same words a Etl source first one two can = tt
servable_same words a Status source first one two can = tt
servable_same words a Check source first one two can = tt
servable_same words a (Serve numbers) source first one two can = tt
servable_same words a Adopt source first one two can = tt
servable_same words a b source first one two can = absurd (omega (arith, same_letter words (OverStore a) (OverStore b) one two))

-- or is a report, as that is
pub report_same : (words : List (List ℕ)) (c d : StoreCommand) → IsCommand words (OverStore c) → IsCommand words (OverStore d) → IsReport d → IsReport c
report_same words Ingest Ingest one two report = report
report_same words Ingest d one two report = absurd (omega (arith, same_letter words (OverStore Ingest) (OverStore d) one two))
report_same words Etl Etl one two report = report
report_same words Etl d one two report = absurd (omega (arith, same_letter words (OverStore Etl) (OverStore d) one two))
report_same words (Serve m) (Serve n) one two report = report
report_same words (Serve m) d one two report = absurd (omega (arith, same_letter words (OverStore (Serve m)) (OverStore d) one two))
report_same words Adopt Adopt one two report = report
report_same words Adopt d one two report = absurd (omega (arith, same_letter words (OverStore Adopt) (OverStore d) one two))
report_same words c d one two report = tt
