use Rattle.std.proofs.Common.{refl, sym, subst}
use Rattle.std.specs.Prelude.{IsTrue}
use Rattle.edge_io.specs.Stream.{Rose}
use Rattle.store_reopen.specs.NotOpened.{IsCauseOf}
use Rattle.store_reopen.specs.Reopen.{disk_in, stores_of}
use Rattle.command_words.specs.declared.command.StoreCommand.{StoreCommand}
use Rattle.command_words.specs.declared.command.StoreCommand.TheVariants as command
use Rattle.command_words.specs.declared.status.Status.{Status}
use Rattle.archiver_appliance.specs.Judging.{refusal_of}
use Rattle.archiver_appliance.specs.Outside.{outside}
use Rattle.archiver_appliance.specs.Run.{EndsAs, IsAdopt, IsReading}
use Rattle.archiver_appliance.proofs.Judgements.{OneVerdict}
use Rattle.archiver_appliance.proofs.Refusals.{is_adopt, refused_does}
use Rattle.archiver_appliance.proofs.Doing.{check_does, etl_does, get_does, ingest_does, never_damaged, refused_none, rows_opened, status_does, three_of}
use Rattle.archiver_appliance.proofs.Obeying.{alone_all, as_asked, as_came, at_most, caused_since, fallen_since, if_serves, no_less, refusal_caused, same_count}
use Rattle.archiver_appliance.proofs.ServingAll.{serve_does, serve_makes}
use Rattle.archiver_appliance.proofs.Posts.{refusal_unserved, serves_nobody}
use Rattle.archiver_appliance.proofs.opened.over_archive.Goals as goal

pub returns-in-Adopt : goal.returns-in-Adopt
returns-in-Adopt g c =
    let e = c.adopt_found.ensures in
    let old = outside g.S.Source g.K.Sink g.C.Clock g.D.Disk c.args.source.now c.args.sink.now c.args.clock.now c.args.disk in
    let new = outside g.S.Source g.K.Sink g.C.Clock g.D.Disk c.args.source.now c.adopt_found.new.sink c.args.clock.now c.adopt_found.result.disk in
    as_asked c.in-Adopt.is (record {
      does = e.does (g.S.Source.left c.args.source.now) (g.C.Clock.coming c.args.clock.now) (g.S.Source.read_faults c.args.source.now);
      caused = caused_since g.D.Reader.ReadAt.faults ⊥ (Rose old.write_faults new.write_faults) old new (g.D.Disk.faults c.args.disk) c.adopt_found.result.status c.adopt_found.result.failed (same_count _) (λ n. absurd n) (λ x. x) e.caused;
      none_fell = record { source = same_count _; sink = e.write_faults; disk = no_less _ _ e.disk_faults };
      alone = (refl, refl, refl);
      refused = λ is. (refl, e.refused is, refl);
      serves = tt;
      unopened = e.unopened;
    })

pub adopt_found-requires-clause-found : goal.adopt_found-requires-clause-found
adopt_found-requires-clause-found g c = c.requires.found c.in-Adopt.is

pub returns-in-Err : goal.returns-in-Err
returns-in-Err g c =
    let config = c.args.config.now in
    let err = c.in-Err.err in
    let e = c.in-Err.ensures in
    let old = outside g.S.Source g.K.Sink g.C.Clock g.D.Disk c.args.source.now c.args.sink.now c.args.clock.now c.args.disk in
    let new = outside g.S.Source g.K.Sink g.C.Clock g.D.Disk c.args.source.now c.args.sink.now c.args.clock.now (disk_in err) in
    let verdict : OneVerdict = record { whole = c.one_verdict.ensures.whole; same = c.one_verdict.ensures.same; undamaged = c.one_verdict.ensures.undamaged } in
    let apart : IsAdopt c.args.command → ⊥ = λ adopts. c.in_default.not-Adopt (is_adopt c.args.command adopts) in
    as_came _ _ _ _ _ _ _ _ _ _ _ _ _ _ _ c.refused.ensures.disk c.refused.ensures.status c.refused.ensures.failed (record {
      does = refused_does g.D.Disk.tells config c.args.command old new verdict err apart refl refl refl (λ told. (g.met.D.Disk g.world.𝓛 g.world.𝓜 g.world.𝓡 ((λ s x. x), (λ x. x), (λ x. x), λ x. x)).seen c.args.disk told) e.opens e.reads
          (λ told d name at is. subst (λ x. IsCauseOf g.D.Disk (stores_of config) c.args.disk x) is e.told told) (λ told d kept other is. subst (λ x. IsCauseOf g.D.Disk (stores_of config) c.args.disk x) is e.told told);
      caused = refusal_caused g.D.Reader.ReadAt.faults g.D.Disk.faults (g.D.Disk.faults c.args.disk) _ _ err (λ d is. subst (λ x. IsCauseOf g.D.Disk (stores_of config) c.args.disk x) is e.told);
      none_fell = record { source = same_count _; sink = same_count _; disk = no_less _ _ e.faults };
      alone = alone_all g.C.Clock.coming c.args.source.now c.args.sink.now c.args.disk (disk_in err) c.args.clock.now c.args.posts.now c.args.command;
      refused = λ is. (refl, refl, refl);
      serves = if_serves c.args.command (serves_nobody _ _ _ _ _ _ (refusal_of err) c.args.posts.now (refusal_unserved err) (refl, e.opens));
      unopened = e.unopened;
    })

pub returns-in-Ingest : goal.returns-in-Ingest
returns-in-Ingest g c =
    let config = c.args.config.now in
    let opened = c.in-Ok.ensures in
    let e = c.ingest_into.ensures in
    let verdict : OneVerdict = record { whole = c.one_verdict.ensures.whole; same = c.one_verdict.ensures.same; undamaged = c.one_verdict.ensures.undamaged } in
    let old = outside g.S.Source g.K.Sink g.C.Clock g.D.Disk c.args.source.now c.args.sink.now c.args.clock.now c.args.disk in
    let new = outside g.S.Source g.K.Sink g.C.Clock g.D.Disk c.ingest_into.new.source c.args.sink.now c.ingest_into.new.clock c.ingest_into.result.disk in
    as_asked c.in-Ingest.is (record {
      does = ingest_does g.S.Source g.K.Sink g.C.Clock g.D.Disk config c.args.disk c.in-Ok.store verdict opened.opened opened.opens
          c.args.source.now c.ingest_into.new.source c.args.sink.now c.args.sink.now c.args.clock.now c.ingest_into.new.clock c.ingest_into.result.disk c.ingest_into.result.status
          refl opened.settings e.ingests e.lists (three_of config c.in-Ok.store.manifests.items opened.opened.ready.granularity) e.opened e.undamaged e.ends;
      caused = caused_since g.D.Reader.ReadAt.faults (Rose old.read_faults new.read_faults) ⊥ old new (g.D.Disk.faults c.in-Ok.store.disk) c.ingest_into.result.status c.ingest_into.result.failed opened.faults (λ x. x) (λ n. absurd n) e.caused;
      none_fell = record { source = e.read_faults; sink = same_count _; disk = fallen_since (g.D.Disk.faults c.args.disk) (g.D.Disk.faults c.in-Ok.store.disk) _ opened.faults e.disk_faults };
      alone = (refl, refl);
      refused = λ is.
          let four = refused_none config g.D.Disk.tells (g.D.Disk.files c.args.disk) c.ingest_into.result.status e.opened opened.opened.whole is in
          absurd (subst (λ (s : Status). EndsAs command.Ingest (g.S.Source.left c.args.source.now) s) four e.ends);
      serves = tt;
      unopened = e.unopened;
    })

pub returns-in-Get : goal.returns-in-Get
returns-in-Get g c =
    let config = c.args.config.now in
    let opened = c.in-Ok.ensures in
    let e = c.get_from.ensures in
    let verdict : OneVerdict = record { whole = c.one_verdict.ensures.whole; same = c.one_verdict.ensures.same; undamaged = c.one_verdict.ensures.undamaged } in
    let reading : IsTrue g.D.Disk.tells → IsReading (stores_of config) c.args.command (g.D.Disk.files c.args.disk) = λ told. subst (λ (x : StoreCommand). IsReading (stores_of config) x (g.D.Disk.files c.args.disk)) (sym c.in-Get.is) tt in
    let old = outside g.S.Source g.K.Sink g.C.Clock g.D.Disk c.args.source.now c.args.sink.now c.args.clock.now c.args.disk in
    let new = outside g.S.Source g.K.Sink g.C.Clock g.D.Disk c.args.source.now c.get_from.new.sink c.args.clock.now c.get_from.result.disk in
    as_asked c.in-Get.is (record {
      does = get_does g.S.Source g.K.Sink g.C.Clock g.D.Disk config c.args.disk c.in-Ok.store verdict opened.opened opened.opens
          c.args.source.now c.args.source.now c.args.sink.now c.get_from.new.sink c.args.clock.now c.args.clock.now c.get_from.result.disk c.get_from.result.status
          c.in-Get.name c.in-Get.query (λ told. opened.reads told (reading told)) (λ told. (e.left told).files) (λ told. (e.left told).any_moment) refl refl opened.settings e.retrieves e.some (λ told. (e.listed told).read) e.found.none (λ is. (e.found.named is).0) (λ told. (e.listed told).damaged) e.opened e.ends;
      caused = caused_since g.D.Reader.ReadAt.faults ⊥ (Rose old.write_faults new.write_faults) old new (g.D.Disk.faults c.in-Ok.store.disk) c.get_from.result.status c.get_from.result.failed opened.faults (λ n. absurd n) (λ x. x) e.caused;
      none_fell = record { source = same_count _; sink = e.write_faults; disk = fallen_since (g.D.Disk.faults c.args.disk) (g.D.Disk.faults c.in-Ok.store.disk) _ opened.faults e.disk_faults };
      alone = (refl, refl, refl);
      refused = λ is. (refl, (e.found.named (refused_none config g.D.Disk.tells (g.D.Disk.files c.args.disk) c.get_from.result.status e.opened opened.opened.whole is)).1, refl);
      serves = tt;
      unopened = λ told. (e.left told).unopened;
    })

pub returns-in-Etl : goal.returns-in-Etl
returns-in-Etl g c =
    let config = c.args.config.now in
    let opened = c.in-Ok.ensures in
    let e = c.move_due.ensures in
    let verdict : OneVerdict = record { whole = c.one_verdict.ensures.whole; same = c.one_verdict.ensures.same; undamaged = c.one_verdict.ensures.undamaged } in
    let old = outside g.S.Source g.K.Sink g.C.Clock g.D.Disk c.args.source.now c.args.sink.now c.args.clock.now c.args.disk in
    let new = outside g.S.Source g.K.Sink g.C.Clock g.D.Disk c.args.source.now c.move_due.new.sink c.move_due.new.clock c.move_due.result.disk in
    as_asked c.in-Etl.is (record {
      does = etl_does g.S.Source g.K.Sink g.C.Clock g.D.Disk config c.args.disk c.in-Ok.store verdict opened.opened opened.opens
          c.args.source.now c.args.source.now c.args.sink.now c.move_due.new.sink c.args.clock.now c.move_due.new.clock c.move_due.result.disk c.move_due.result.status
          refl opened.settings e.moves (λ told held has stands. never_damaged c.move_due.result.status (e.damaged told held has stands)) e.part e.opened e.ends;
      caused = caused_since g.D.Reader.ReadAt.faults ⊥ (Rose old.write_faults new.write_faults) old new (g.D.Disk.faults c.in-Ok.store.disk) c.move_due.result.status c.move_due.result.failed opened.faults (λ n. absurd n) (λ x. x) e.caused;
      none_fell = record { source = same_count _; sink = e.write_faults; disk = fallen_since (g.D.Disk.faults c.args.disk) (g.D.Disk.faults c.in-Ok.store.disk) _ opened.faults e.disk_faults };
      alone = (refl, refl);
      refused = λ is.
          let four = refused_none config g.D.Disk.tells (g.D.Disk.files c.args.disk) c.move_due.result.status e.opened opened.opened.whole is in
          absurd (subst (λ (s : Status). EndsAs command.Etl (g.S.Source.left c.args.source.now) s) four (e.ends (g.S.Source.left c.args.source.now)));
      serves = tt;
      unopened = e.unopened;
    })

pub returns-in-Status : goal.returns-in-Status
returns-in-Status g c =
    let config = c.args.config.now in
    let opened = c.in-Ok.ensures in
    let e = c.tell_rows.ensures in
    let verdict : OneVerdict = record { whole = c.one_verdict.ensures.whole; same = c.one_verdict.ensures.same; undamaged = c.one_verdict.ensures.undamaged } in
    let reading : IsTrue g.D.Disk.tells → IsReading (stores_of config) c.args.command (g.D.Disk.files c.args.disk) = λ told. subst (λ (x : StoreCommand). IsReading (stores_of config) x (g.D.Disk.files c.args.disk)) (sym c.in-Status.is) tt in
    let old = outside g.S.Source g.K.Sink g.C.Clock g.D.Disk c.args.source.now c.args.sink.now c.args.clock.now c.args.disk in
    let new = outside g.S.Source g.K.Sink g.C.Clock g.D.Disk c.args.source.now c.tell_rows.new.sink c.args.clock.now c.tell_rows.result.disk in
    as_asked c.in-Status.is (record {
      does = status_does g.S.Source g.K.Sink g.C.Clock g.D.Disk config c.args.disk c.in-Ok.store verdict opened.opened opened.opens
          c.args.source.now c.args.source.now c.args.sink.now c.tell_rows.new.sink c.args.clock.now c.args.clock.now c.tell_rows.result.disk c.tell_rows.result.status
          (λ told. opened.reads told (reading told)) e.files e.any_moment e.ends e.held e.listed;
      caused = caused_since g.D.Reader.ReadAt.faults ⊥ (Rose old.write_faults new.write_faults) old new (g.D.Disk.faults c.in-Ok.store.disk) c.tell_rows.result.status c.tell_rows.result.failed opened.faults (λ n. absurd n) (λ x. x) e.caused;
      none_fell = record { source = same_count _; sink = e.write_faults; disk = no_less _ _ (at_most _ _ _ opened.faults e.disk_faults) };
      alone = (refl, refl, refl);
      refused = λ is.
          let four = refused_none config g.D.Disk.tells (g.D.Disk.files c.args.disk) c.tell_rows.result.status (rows_opened _ _ _ _ _ _ c.tell_rows.result.status e.listed) opened.opened.whole is in
          absurd (subst (λ (s : Status). EndsAs command.Status (g.S.Source.left c.args.source.now) s) four (e.ends (g.S.Source.left c.args.source.now)));
      serves = tt;
      unopened = e.unopened;
    })

pub returns-in-Check : goal.returns-in-Check
returns-in-Check g c =
    let config = c.args.config.now in
    let opened = c.in-Ok.ensures in
    let e = c.tell_files.ensures in
    let verdict : OneVerdict = record { whole = c.one_verdict.ensures.whole; same = c.one_verdict.ensures.same; undamaged = c.one_verdict.ensures.undamaged } in
    let reading : IsTrue g.D.Disk.tells → IsReading (stores_of config) c.args.command (g.D.Disk.files c.args.disk) = λ told. subst (λ (x : StoreCommand). IsReading (stores_of config) x (g.D.Disk.files c.args.disk)) (sym c.in-Check.is) tt in
    let old = outside g.S.Source g.K.Sink g.C.Clock g.D.Disk c.args.source.now c.args.sink.now c.args.clock.now c.args.disk in
    let new = outside g.S.Source g.K.Sink g.C.Clock g.D.Disk c.args.source.now c.tell_files.new.sink c.args.clock.now c.tell_files.result.disk in
    as_asked c.in-Check.is (record {
      does = check_does g.S.Source g.K.Sink g.C.Clock g.D.Disk config c.args.disk c.in-Ok.store verdict opened.opened opened.opens
          c.args.source.now c.args.source.now c.args.sink.now c.tell_files.new.sink c.args.clock.now c.args.clock.now c.tell_files.result.disk c.tell_files.result.status
          (λ told. opened.reads told (reading told)) e.files e.any_moment e.ends e.held e.checks;
      caused = caused_since g.D.Reader.ReadAt.faults ⊥ (Rose old.write_faults new.write_faults) old new (g.D.Disk.faults c.in-Ok.store.disk) c.tell_files.result.status c.tell_files.result.failed opened.faults (λ n. absurd n) (λ x. x) e.caused;
      none_fell = record { source = same_count _; sink = e.write_faults; disk = no_less _ _ (at_most _ _ _ opened.faults e.disk_faults) };
      alone = (refl, refl, refl);
      refused = λ is.
          let four = refused_none config g.D.Disk.tells (g.D.Disk.files c.args.disk) c.tell_files.result.status e.opened opened.opened.whole is in
          absurd (subst (λ (s : Status). EndsAs command.Check (g.S.Source.left c.args.source.now) s) four (e.ends (g.S.Source.left c.args.source.now)));
      serves = tt;
      unopened = e.unopened;
    })

pub returns-in-Serve : goal.returns-in-Serve
returns-in-Serve g c =
    let config = c.args.config.now in
    let opened = c.in-Ok.ensures in
    let e = c.serve_posts.ensures in
    let verdict : OneVerdict = record { whole = c.one_verdict.ensures.whole; same = c.one_verdict.ensures.same; undamaged = c.one_verdict.ensures.undamaged } in
    let old = outside g.S.Source g.K.Sink g.C.Clock g.D.Disk c.args.source.now c.args.sink.now c.args.clock.now c.args.disk in
    let new = outside g.S.Source g.K.Sink g.C.Clock g.D.Disk c.args.source.now c.args.sink.now c.serve_posts.new.clock c.serve_posts.result.disk in
    as_asked c.in-Serve.is (record {
      does = serve_does g.S.Source g.K.Sink g.C.Clock g.D.Disk config c.args.disk c.in-Ok.store verdict opened.opened opened.opens
          c.args.source.now c.args.sink.now c.args.clock.now c.serve_posts.new.clock c.serve_posts.result.disk c.serve_posts.result.status _ _ _ _ _ _ _ _
          c.in-Serve.field-0 e.serves e.opened e.undamaged (e.ends c.in-Serve.field-0);
      caused = caused_since g.D.Reader.ReadAt.faults ⊥ ⊥ old new (g.D.Disk.faults c.in-Ok.store.disk) c.serve_posts.result.status c.serve_posts.result.failed opened.faults (λ n. absurd n) (λ n. absurd n) e.caused;
      none_fell = record { source = same_count _; sink = same_count _; disk = fallen_since (g.D.Disk.faults c.args.disk) (g.D.Disk.faults c.in-Ok.store.disk) _ opened.faults e.disk_faults };
      alone = (refl, refl, e.clock);
      refused = λ is.
          let four = refused_none config g.D.Disk.tells (g.D.Disk.files c.args.disk) c.serve_posts.result.status e.opened opened.opened.whole is in
          absurd (subst (λ (s : Status). EndsAs (command.Serve c.in-Serve.field-0) (g.S.Source.left c.args.source.now) s) four (e.ends c.in-Serve.field-0 (g.S.Source.left c.args.source.now)));
      serves = serve_makes g.S.Source g.K.Sink g.C.Clock g.D.Disk config c.args.disk c.in-Ok.store verdict opened.opened opened.opens
          c.args.source.now c.args.sink.now c.args.clock.now c.serve_posts.new.clock c.serve_posts.result.disk c.serve_posts.result.status _ _ _ _ _ _ _ _ opened.settings e.serves;
      unopened = e.unopened;
    })
