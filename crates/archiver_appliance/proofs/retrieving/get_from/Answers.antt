use Rattle.std.proofs.Common.{rules, ◌≡◌, inl, inr, ℕ, List, Bool, refl, sym, ◌∙◌, ap, subst}
use Rattle.disk_model.specs.Files.{Name}
use Rattle.disk_model.specs.Past.{Passes}
use Rattle.disk_model.proofs.Passing.{passes_none}
use Rattle.edge_io.specs.Stream.{Rose}
use Rattle.store_reopen.specs.Reopen.{lists_of}
use Rattle.tier_store.specs.Seen.{seen}
use Rattle.archive_core.specs.Parts.{parts}
use Rattle.retrieval_query.specs.Retrieving.{ReadsHeaders}
use Rattle.retrieval_query.specs.declared.retrieved.Retrieved.TheVariants as got
use Rattle.archiver_appliance.specs.Acting.{IsOpenedOn}
use Rattle.archiver_appliance.specs.Judging.{IsDamagedFile, IsOneOf}
use Rattle.archiver_appliance.specs.Retrieving.{EndsBy, Gets, GetsRead, GetsSome, HasNone, IsRetrieval}
use Rattle.command_words.specs.Status.{number_of}
use Rattle.command_words.specs.declared.status.Status.{Status}
use Rattle.archiver_appliance.proofs.Acting.{acts_from, acts_given, begins, both_hold, count_given, handed, has_not_fallen, has_risen_within, nested_in, ran, rose_given, stands_at_first, unopened_back, unopened_given}
use Rattle.archiver_appliance.proofs.Answering.{found_damaged, found_none, gets_held, none_ends, reads_headers, retrieved_caused, some_events, unknown_none}
use Rattle.archiver_appliance.proofs.Chained.{retrieval_looking}
use Rattle.archiver_appliance.proofs.Damages.{none_damaged}
use Rattle.archiver_appliance.proofs.LeftFiles.{damaged_given, files_given, moments_given}
use Rattle.archiver_appliance.proofs.ReadFiles.{read_given}
use Rattle.archiver_appliance.proofs.retrieving.get_from.Goals as goal

pub of-requires-clause-nested : goal.of-requires-clause-nested
of-requires-clause-nested g c = nested_in g.D.Disk c.args.store c.requires.fresh

pub get_alone-got-requires : goal.get_alone-got-requires
get_alone-got-requires g c = record { stands = stands_at_first g.D.Disk c.args.store c.requires.fresh c.in-Ok.archive c.in-Ok.ensures.opened }

pub returns-clause-retrieves : goal.returns-clause-retrieves
returns-clause-retrieves g c = inr (λ held has.
    let disk = g.D.Disk in
    let old = c.in-Ok.archive in
    let new = c.get_alone-got.new.archive in
    let r = c.get_alone-got.ensures.retrieves in
    let config = c.args.store.config in
    let begun = begins disk c.args.store c.requires.fresh old c.in-Ok.ensures.opened held has in
    let run = ran disk old new r.done begun.start begun.stands r.made in
    let from = acts_from disk config held old new r.done begun r.made in
    let name = c.as_bytes.result.now in
    let a = g.K.Sink.written c.args.sink.now in
    let b = g.K.Sink.written c.get_alone-got.new.sink in
    record {
      done = r.done;
      are = subst (λ (n : List ℕ). IsRetrieval n c.args.query r.done) c.as_bytes.ensures.value r.are;
      acts = acts_given disk new c.into_store.result c.into_disk.result c.into_store.ensures c.into_disk.ensures config held r.done c.args.store old c.in-Ok.ensures.store from.0;
      writes = λ told stands.
          let is_told = begun.opened.told ∙ both_hold _ _ told stands in
          let unknown : c.get_alone-got.result ≡ got.NoSuchVariable → (b ≡ a) × HasNone held.rows name = λ none.
          let ends = subst (λ x. EndsBy g.D.Reader.ReadAt.tells g.D.Reader.ReadAt.faults (Rose (g.K.Sink.write_faults c.args.sink.now) (g.K.Sink.write_faults c.get_alone-got.new.sink)) name c.args.query x r.done) none r.ends in (
            ap g.K.Sink.written (c.get_alone-got.ensures.untouched none),
            subst (λ rows. HasNone rows name) has.known.rows (subst (λ s. HasNone s.catalogue.rows name) c.in-Ok.ensures.store
                (unknown_none disk.tells (parts disk old) begun.start begun.stands begun.opened.settled r.made.entries run.after r.done r.made.no_others r.made.just_these run.runs name c.args.query ends)),
          ) in
          let undamaged : (file : Name) (at : ℕ) → c.get_alone-got.result ≡ got.Damaged file at → ⊥ = λ file at is.
          let ends = subst (λ x. EndsBy g.D.Reader.ReadAt.tells g.D.Reader.ReadAt.faults (Rose (g.K.Sink.write_faults c.args.sink.now) (g.K.Sink.write_faults c.get_alone-got.new.sink)) name c.args.query x r.done) is r.ends in
          none_damaged disk.tells (seen disk c.args.store) held c.requires.fresh.ready.rows has told stands (g.met.D.Disk.seen c.args.store.disk told) name file at
          (damaged_given disk old new r.done r.made c.args.store c.in-Ok.ensures.store begun.start run.after begun.stands begun.opened.settled run.runs held has name c.args.query r.are g.D.Reader.ReadAt.tells file at ends told (g.met.D.Disk.readers_tell told)) in
          subst (λ (n : List ℕ). Gets held n c.args.query a b c.got_status-status.result.0) c.as_bytes.ensures.value
          (gets_held config held begun.start begun.stands.sound (subst (λ (t : Bool). IsOpenedOn t config held begun.start) told begun.opened) is_told name c.args.query a b c.get_alone-got.result c.got_status-status.result.0 c.got_status-status.result.1 c.got_status-status.ensures unknown
          undamaged (r.whole (g.met.D.Disk.readers_tell told) begun.start begun.stands is_told (subst ReadsHeaders (sym begun.opened.rule) (reads_headers config))));
    })

pub returns-in-Err-clause-some : goal.returns-in-Err-clause-some
returns-in-Err-clause-some g c =
    let written = g.K.Sink.written c.args.sink.now in
    subst (λ (s : Status). GetsSome c.args.store.catalogue.rows c.args.name.now c.args.query written written s) (sym c.out_of_memory.ensures.status) (inl refl)

pub returns-clause-some : goal.returns-clause-some
returns-clause-some g c =
    let disk = g.D.Disk in
    let old = c.in-Ok.archive in
    let new = c.get_alone-got.new.archive in
    let r = c.get_alone-got.ensures.retrieves in
    let has = c.requires.fresh.has in
    let begun = begins disk c.args.store c.requires.fresh old c.in-Ok.ensures.opened has.0 has.1 in
    let run = ran disk old new r.done begun.start begun.stands r.made in
    subst (λ (n : List ℕ). GetsSome c.args.store.catalogue.rows n c.args.query (g.K.Sink.written c.args.sink.now) (g.K.Sink.written c.get_alone-got.new.sink) c.got_status-status.result.0) c.as_bytes.ensures.value
    (subst (λ s. GetsSome s.catalogue.rows c.as_bytes.result.now c.args.query (g.K.Sink.written c.args.sink.now) (g.K.Sink.written c.get_alone-got.new.sink) c.got_status-status.result.0) c.in-Ok.ensures.store (some_events disk.tells (parts disk old) begun.start begun.stands begun.opened.settled r.made.entries run.after r.done r.made.no_others r.made.just_these run.runs c.as_bytes.result.now c.args.query (g.K.Sink.written c.args.sink.now) (g.K.Sink.written c.get_alone-got.new.sink) c.get_alone-got.result c.got_status-status.result.0 c.got_status-status.result.1 c.got_status-status.ensures r.some))

pub returns-clause-listed : goal.returns-clause-listed
returns-clause-listed g c told =
    let disk = g.D.Disk in
    let old = c.in-Ok.archive in
    let new = c.get_alone-got.new.archive in
    let r = c.get_alone-got.ensures.retrieves in
    let has = c.requires.fresh.has in
    let begun = begins disk c.args.store c.requires.fresh old c.in-Ok.ensures.opened has.0 has.1 in
    let run = ran disk old new r.done begun.start begun.stands r.made in
    let status = c.got_status-status.result.0 in
    record {
      read =
          subst (λ (n : List ℕ). GetsRead (disk.files c.args.store.disk) c.args.store.catalogue.rows (lists_of c.args.store.manifests.items) n c.args.query (g.K.Sink.written c.args.sink.now) (g.K.Sink.written c.get_alone-got.new.sink) status) c.as_bytes.ensures.value
          (read_given disk old new c.args.store c.in-Ok.ensures.store c.in-Ok.ensures.intake begun.start begun.stands begun.opened.settled has.0 has.1 c.as_bytes.result.now c.args.query (g.K.Sink.written c.args.sink.now) (g.K.Sink.written c.get_alone-got.new.sink) c.get_alone-got.result status c.got_status-status.result.1 c.got_status-status.ensures (c.get_alone-got.ensures.read (g.met.D.Disk.readers_tell told))
          (λ done made. let run = ran disk old new done begun.start begun.stands made in (run.after, run.runs)) told);
      damaged = λ file at is.
          let name = c.as_bytes.result.now in
          let damaged = found_damaged c.get_alone-got.result c.got_status-status.result.0 c.got_status-status.result.1 c.got_status-status.ensures file at is in
          let ends = subst (λ x. EndsBy g.D.Reader.ReadAt.tells g.D.Reader.ReadAt.faults (Rose (g.K.Sink.write_faults c.args.sink.now) (g.K.Sink.write_faults c.get_alone-got.new.sink)) name c.args.query x r.done) damaged r.ends in
          subst (λ (n : List ℕ). IsDamagedFile (disk.files c.args.store.disk) c.args.store.catalogue.rows (lists_of c.args.store.manifests.items) n file at) c.as_bytes.ensures.value
          (damaged_given disk old new r.done r.made c.args.store c.in-Ok.ensures.store begun.start run.after begun.stands begun.opened.settled run.runs has.0 has.1 name c.args.query r.are g.D.Reader.ReadAt.tells file at ends told (g.met.D.Disk.readers_tell told));
    }

pub returns-clause-found : goal.returns-clause-found
returns-clause-found g c =
    let disk = g.D.Disk in
    let old = c.in-Ok.archive in
    let new = c.get_alone-got.new.archive in
    let r = c.get_alone-got.ensures.retrieves in
    let has = c.requires.fresh.has in
    let begun = begins disk c.args.store c.requires.fresh old c.in-Ok.ensures.opened has.0 has.1 in
    let run = ran disk old new r.done begun.start begun.stands r.made in
    record {
      none =
          subst (λ (n : List ℕ). HasNone c.args.store.catalogue.rows n → IsOneOf (number_of c.got_status-status.result.0) 4 7 9) c.as_bytes.ensures.value
          (subst (λ s. HasNone s.catalogue.rows c.as_bytes.result.now → IsOneOf (number_of c.got_status-status.result.0) 4 7 9) c.in-Ok.ensures.store (none_ends disk.tells (parts disk old) begun.start begun.stands begun.opened.settled r.made.entries run.after r.done r.made.no_others r.made.just_these run.runs c.as_bytes.result.now c.args.query (g.K.Sink.written c.args.sink.now) (g.K.Sink.written c.get_alone-got.new.sink) c.get_alone-got.result c.got_status-status.result.0 c.got_status-status.result.1 c.got_status-status.ensures r.some));
      named = λ is.
          let none = found_none c.get_alone-got.result c.got_status-status.result.0 c.got_status-status.result.1 c.got_status-status.ensures is in
          let ends = subst (λ x. EndsBy g.D.Reader.ReadAt.tells g.D.Reader.ReadAt.faults (Rose (g.K.Sink.write_faults c.args.sink.now) (g.K.Sink.write_faults c.get_alone-got.new.sink)) c.as_bytes.result.now c.args.query x r.done) none r.ends in (
            subst (λ (n : List ℕ). HasNone c.args.store.catalogue.rows n) c.as_bytes.ensures.value (subst (λ s. HasNone s.catalogue.rows c.as_bytes.result.now) c.in-Ok.ensures.store
                (unknown_none disk.tells (parts disk old) begun.start begun.stands begun.opened.settled r.made.entries run.after r.done r.made.no_others r.made.just_these run.runs c.as_bytes.result.now c.args.query ends)),
            c.get_alone-got.ensures.untouched none,
          );
    }

pub returns-clause-caused : goal.returns-clause-caused
returns-clause-caused g c =
    let disk = g.D.Disk in
    let old = c.in-Ok.archive in
    let new = c.get_alone-got.new.archive in
    let r = c.get_alone-got.ensures.retrieves in
    let has = c.requires.fresh.has in
    let begun = begins disk c.args.store c.requires.fresh old c.in-Ok.ensures.opened has.0 has.1 in
    let run = ran disk old new r.done begun.start begun.stands r.made in
    retrieved_caused g.D.Reader.ReadAt.tells g.D.Reader.ReadAt.faults _ _ c.as_bytes.result.now c.args.query r.done c.get_alone-got.result c.got_status-status.result.0 c.got_status-status.result.1 c.got_status-status.ensures r.ends (λ a.
    rose_given disk new c.into_store.result c.into_disk.result c.into_store.ensures c.into_disk.ensures c.args.store old c.in-Ok.ensures.store (has_risen_within disk old new r.done begun.start begun.stands r.made c.soundness_stays.ensures.answers a.before a.behind a.act a.is))

pub returns-clause-disk_faults : goal.returns-clause-disk_faults
returns-clause-disk_faults g c =
    let disk = g.D.Disk in
    let old = c.in-Ok.archive in
    let new = c.get_alone-got.new.archive in
    let r = c.get_alone-got.ensures.retrieves in
    let first = stands_at_first disk c.args.store c.requires.fresh old c.in-Ok.ensures.opened in
    count_given disk new c.into_store.result c.into_disk.result c.into_store.ensures c.into_disk.ensures c.args.store old c.in-Ok.ensures.store (has_not_fallen disk old new r.done first.0 first.1 r.made)

pub returns-in-Err-clause-left : goal.returns-in-Err-clause-left
returns-in-Err-clause-left g c told = record {
  files = search rules;
  any_moment = subst (λ d. Passes (λ a b. b ≡ a) (g.D.Disk.past c.args.store.disk) (g.D.Disk.past d)) (sym (c.out_of_memory.ensures.disk ∙ ap (λ s. s.disk) c.in-Err.ensures.back)) (passes_none (λ a b. b ≡ a) (g.D.Disk.past c.args.store.disk) (λ a left. refl));
  unopened = unopened_back g.D.Disk c.args.store c.in-Err.store _ c.requires.fresh c.in-Err.ensures.back c.out_of_memory.ensures.disk (λ told. g.met.D.Disk.seen c.args.store.disk told) told;
}

pub returns-clause-left : goal.returns-clause-left
returns-clause-left g c told =
    let disk = g.D.Disk in
    let old = c.in-Ok.archive in
    let new = c.get_alone-got.new.archive in
    let r = c.get_alone-got.ensures.retrieves in
    let back = handed disk new c.into_store.result c.into_disk.result c.into_store.ensures c.into_disk.ensures in
    let looking = retrieval_looking c.as_bytes.result.now c.args.query r.are in
    let first = stands_at_first disk c.args.store c.requires.fresh old c.in-Ok.ensures.opened in
    let run = ran disk old new r.done first.0 first.1 r.made in
    record {
      files = files_given disk old new r.done r.made c.args.store c.in-Ok.ensures.store c.into_disk.result back looking c.requires.fresh.has.1.settled told;
      any_moment = moments_given disk old new r.done r.made c.args.store c.in-Ok.ensures.store c.into_disk.result back looking c.requires.fresh.has.1.settled told;
      unopened = unopened_given disk new c.into_store.result c.into_disk.result c.into_store.ensures c.into_disk.ensures run.after run.stands (λ told. g.met.D.Disk.seen new.half.store.disk told) told;
    }
