-- The laws as a contract.
use Rattle.two_histories.proofs.ArchiveLaw as law
use Rattle.two_histories.proofs.ActingAlone.{intake_acts_alone, intake_begins}
use Rattle.two_histories.proofs.KeptOffers.{kept_is_accepted, kept_is_durable}
use Rattle.two_histories.proofs.archive.two_histories_of_an_archive.Goals as goal

pub returns-clause-store_stays_sound : goal.returns-clause-store_stays_sound
returns-clause-store_stays_sound c = law.store_stays_sound

pub returns-clause-nothing_is_lost : goal.returns-clause-nothing_is_lost
returns-clause-nothing_is_lost c = law.nothing_is_lost

pub returns-clause-bases_are_durable : goal.returns-clause-bases_are_durable
returns-clause-bases_are_durable c = law.bases_are_durable

pub returns-clause-reported_is_durable : goal.returns-clause-reported_is_durable
returns-clause-reported_is_durable c = law.reported_is_durable

pub returns-clause-names_stay_apart : goal.returns-clause-names_stay_apart
returns-clause-names_stay_apart c = law.names_stay_apart

pub returns-clause-intake_acts_alone : goal.returns-clause-intake_acts_alone
returns-clause-intake_acts_alone c = intake_acts_alone

pub returns-clause-kept_is_accepted : goal.returns-clause-kept_is_accepted
returns-clause-kept_is_accepted c = kept_is_accepted

pub returns-clause-kept_is_durable : goal.returns-clause-kept_is_durable
returns-clause-kept_is_durable c = kept_is_durable

pub returns-clause-intake_begins : goal.returns-clause-intake_begins
returns-clause-intake_begins c = intake_begins
