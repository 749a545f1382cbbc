use Rattle.std.proofs.Common.{◌+◌, [], None, inr, true, sym, ◌∙◌, ap, subst}
use Rattle.durable_write.specs.Writing.{LeavesListed}
use Rattle.durable_write.proofs.Staying.{leaves_none}
use Rattle.feed_session.specs.Session.{EndsIn}
use Rattle.archiver_appliance.proofs.Acting.{acts_from, acts_given, begins, count_given, handed, has_not_fallen, has_risen, nested_in, ran, rose_given, stands_at_first, unopened_back, unopened_given}
use Rattle.archiver_appliance.proofs.Chained.{session_feeding}
use Rattle.archiver_appliance.proofs.Ingests.{fails_last, leaves_none as leaves_nothing}
use Rattle.archiver_appliance.proofs.Rooms.{all_twice}
use Rattle.archiver_appliance.proofs.LeftFiles.{lists_given}
use Rattle.archiver_appliance.proofs.Outcomes.{ingest_caused, ingest_ends}
use Rattle.archiver_appliance.proofs.ingesting.ingest_into.Goals as goal

pub of-requires-clause-nested : goal.of-requires-clause-nested
of-requires-clause-nested g c = nested_in g.D.Disk c.args.store c.requires.fresh

pub returns-in-Err-clause-lists : goal.returns-in-Err-clause-lists
returns-in-Err-clause-lists g c = λ told i m here.
    let same = c.out_of_memory.ensures.disk ∙ ap (λ s. s.disk) c.in-Err.ensures.back in
    subst (λ d. LeavesListed ((i + 1, c.args.store.catalogue.rows), m.entries) (g.D.Disk.files c.args.store.disk) (g.D.Disk.files d) (g.D.Disk.past c.args.store.disk) (g.D.Disk.past d)) (sym same) (leaves_none ((i + 1, c.args.store.catalogue.rows), m.entries) (g.D.Disk.files c.args.store.disk) (g.D.Disk.past c.args.store.disk))

pub returns-in-Err-clause-unopened : goal.returns-in-Err-clause-unopened
returns-in-Err-clause-unopened g c = unopened_back g.D.Disk c.args.store c.in-Err.store _ c.requires.fresh c.in-Err.ensures.back c.out_of_memory.ensures.disk (λ told. g.met.D.Disk.seen c.args.store.disk told)

pub ingest_alone-fed-requires : goal.ingest_alone-fed-requires
ingest_alone-fed-requires g c = record { stands = stands_at_first g.D.Disk c.args.store c.requires.fresh c.in-Ok.archive c.in-Ok.ensures.opened }

pub returns-clause-ingests : goal.returns-clause-ingests
returns-clause-ingests g c = inr (λ held has.
    let disk = g.D.Disk in
    let old = c.in-Ok.archive in
    let new = c.ingest_alone-fed.new.archive in
    let session = c.ingest_alone-fed.ensures.session in
    let begun = begins disk c.args.store c.requires.fresh old c.in-Ok.ensures.opened held has in
    let from = acts_from disk c.args.store.config held old new session.1 begun session.3 in
    let acts = acts_given disk new c.into_store.result c.into_disk.result c.into_store.ensures c.into_disk.ensures c.args.store.config held session.1 c.args.store old c.in-Ok.ensures.store from.0 in
    let run = ran disk old new session.1 begun.start begun.stands session.3 in
    record {
      came = c.ingest_alone-fed.result;
      told = c.ingested_status.ensures;
      taken = session.0;
      done = session.1;
      session = session.2;
      acts = acts;
      durable = leaves_nothing acts.acts.entries acts.start acts.end session.0 session.2.last session.1 acts.acts.no_others acts.acts.just_these session.2.all acts.acts.runs c.ingest_alone-fed.result session.2.begun session.2.ends;
      twice = all_twice session.3.entries begun.start run.after begun.stands.sound run.runs session.3.no_others session.1 session.3.just_these [] None session.0 session.2.last session.2.all session.2.items;
    })

pub returns-clause-lists : goal.returns-clause-lists
returns-clause-lists g c = λ told.
    let disk = g.D.Disk in
    let old = c.in-Ok.archive in
    let new = c.ingest_alone-fed.new.archive in
    let session = c.ingest_alone-fed.ensures.session in
    let feeding = session_feeding true c.ingest_alone-fed.result session.0 _ _ _ session.1 session.2 in
    lists_given disk old new session.1 session.3 c.args.store c.in-Ok.ensures.store c.into_disk.result (handed disk new c.into_store.result c.into_disk.result c.into_store.ensures c.into_disk.ensures) c.requires.fresh.has.0 c.requires.fresh.has.1 feeding told

pub returns-clause-ends : goal.returns-clause-ends
returns-clause-ends g c = let session = c.ingest_alone-fed.ensures.session in ingest_ends _ _ c.ingest_alone-fed.result _ c.ingested_status.ensures session.2.reads

pub returns-clause-caused : goal.returns-clause-caused
returns-clause-caused g c =
    let disk = g.D.Disk in
    let old = c.in-Ok.archive in
    let new = c.ingest_alone-fed.new.archive in
    let session = c.ingest_alone-fed.ensures.session in
    let first = stands_at_first disk c.args.store c.requires.fresh old c.in-Ok.ensures.opened in
    ingest_caused g.D.Reader.ReadAt.faults _ _ c.ingest_alone-fed.result _ c.ingested_status.ensures c.ingest_alone-fed.ensures.peer_fault (λ is.
    let fails = subst (λ e. EndsIn e session.2.begun session.2.last) is session.2.ends in
    rose_given disk new c.into_store.result c.into_disk.result c.into_store.ensures c.into_disk.ensures c.args.store old c.in-Ok.ensures.store
    (has_risen disk old new session.1 first.0 first.1 session.3 c.soundness_stays.ensures.answers _ fails.act (fails_last session.0 session.2.last session.1 session.2.all fails)))

pub returns-clause-disk_faults : goal.returns-clause-disk_faults
returns-clause-disk_faults g c =
    let disk = g.D.Disk in
    let old = c.in-Ok.archive in
    let new = c.ingest_alone-fed.new.archive in
    let session = c.ingest_alone-fed.ensures.session in
    let first = stands_at_first disk c.args.store c.requires.fresh old c.in-Ok.ensures.opened in
    count_given disk new c.into_store.result c.into_disk.result c.into_store.ensures c.into_disk.ensures c.args.store old c.in-Ok.ensures.store (has_not_fallen disk old new session.1 first.0 first.1 session.3)

pub returns-clause-unopened : goal.returns-clause-unopened
returns-clause-unopened g c =
    let disk = g.D.Disk in
    let old = c.in-Ok.archive in
    let new = c.ingest_alone-fed.new.archive in
    let session = c.ingest_alone-fed.ensures.session in
    let first = stands_at_first disk c.args.store c.requires.fresh old c.in-Ok.ensures.opened in
    let run = ran disk old new session.1 first.0 first.1 session.3 in
    unopened_given disk new c.into_store.result c.into_disk.result c.into_store.ensures c.into_disk.ensures run.after run.stands (λ told. g.met.D.Disk.seen new.half.store.disk told)
