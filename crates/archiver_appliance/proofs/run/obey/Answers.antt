use Rattle.std.proofs.Common.{map, refl, subst}
use Rattle.command_words.specs.declared.command.Command.{Command}
use Rattle.command_words.specs.declared.command.Command.TheVariants.{Drill, Extract, OverStore}
use Rattle.command_words.specs.declared.command.StoreCommand.{StoreCommand}
use Rattle.command_words.specs.Command.{IsCommand}
use Rattle.archiver_appliance.specs.Obeying.{carried_out, faulty}
use Rattle.archiver_appliance.proofs.Obeying.{drill_caused, extract_caused, no_less, same_count}
use Rattle.archiver_appliance.proofs.run.obey.Goals as goal

pub returns-in-None : goal.returns-in-None
returns-in-None g c = faulty c.in-None.ensures.none refl refl refl

pub returns-in-Some-Extract : goal.returns-in-Some-Extract
returns-in-Some-Extract g c =
    let e = c.extract.ensures in
    carried_out (Extract c.in-Some-Extract.query) (subst (λ (a : Command). IsCommand (map (λ w. w.now) c.args.words.now) a) c.in-Some-Extract.field-0-is c.in-Some-Extract.ensures.found)
    (record {
      does = e.text;
      caused = extract_caused g.D.Reader.ReadAt.faults _ _ _ c.in-Some-Extract.query (g.S.Source.left c.args.source.now) (g.K.Sink.written c.args.sink.now) (g.K.Sink.written c.extract.new.sink) c.extract.result e.text e.source_fault e.sink_fault;
      none_fell = record { source = e.source_faults; sink = e.sink_faults; disk = no_less _ _ (same_count _) };
      alone = (refl, refl, refl);
      refused = tt;
      serves = tt;
      unopened = c.requires.unopened;
    })

pub returns-in-Some-Drill : goal.returns-in-Some-Drill
returns-in-Some-Drill g c =
    let e = c.run_drill.ensures in
    carried_out (Drill c.in-Some-Drill.drill) (subst (λ (a : Command). IsCommand (map (λ w. w.now) c.args.words.now) a) c.in-Some-Drill.field-0-is c.in-Some-Drill.ensures.found)
    (record {
      does = e.drills;
      caused = drill_caused g.D.Reader.ReadAt.faults _ _ _ c.in-Some-Drill.drill.hours (g.K.Sink.written c.args.sink.now) (g.K.Sink.written c.run_drill.new.sink) c.run_drill.result e.drills e.failed;
      none_fell = record { source = same_count _; sink = e.faults; disk = no_less _ _ (same_count _) };
      alone = (refl, refl, refl, refl);
      refused = tt;
      serves = tt;
      unopened = c.requires.unopened;
    })

pub returns-in-Some-OverStore : goal.returns-in-Some-OverStore
returns-in-Some-OverStore g c =
    carried_out (OverStore c.in-Some-OverStore.command) (subst (λ (a : Command). IsCommand (map (λ w. w.now) c.args.words.now) a) c.in-Some-OverStore.field-0-is c.in-Some-OverStore.ensures.found) c.over_archive.ensures

pub over_archive-requires-clause-found : goal.over_archive-requires-clause-found
over_archive-requires-clause-found g c κs within is =
    let words = map (λ w. w.now) c.args.words.now in
    c.requires.found (subst (λ (a : StoreCommand). IsCommand words (OverStore a)) is (subst (λ (a : Command). IsCommand words a) c.in-Some-OverStore.field-0-is c.in-Some-OverStore.ensures.found))
