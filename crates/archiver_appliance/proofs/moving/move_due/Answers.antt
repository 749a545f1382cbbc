use Rattle.std.proofs.Common.{inr, ◌∙◌, [], ap, subst, sym}
use Rattle.store_reopen.specs.Reopen.{stores_of}
use Rattle.act_model.specs.Rule.{Rule}
use Rattle.act_model.proofs.Histories.{runs_onward}
use Rattle.command_words.specs.declared.status.Status.{Status}
use Rattle.archive_core.specs.Parts.{parts}
use Rattle.archiver_appliance.specs.Judging.{FindsPart}
use Rattle.archiver_appliance.proofs.Chained.{done_alone}
use Rattle.archiver_appliance.proofs.MovedParts.{finds_part, part_damaged}
use Rattle.act_model.specs.declared.acts.Answer.TheVariants as answer
use Rattle.serving.specs.declared.moves.MoveErr.TheVariants as err
use Rattle.archiver_appliance.proofs.Acting.{acts_from, acts_given, begins, both_hold, count_given, handed, has_not_fallen, has_risen, nested_in, ran, rose_given, stands_at_first, unopened_back, unopened_given}
use Rattle.archiver_appliance.proofs.StoppedMoves.{last_answered, moved_caused, moved_damaged, moved_last, run_undamaged}
use Rattle.archiver_appliance.proofs.moving.move_due.Goals as goal

pub of-requires-clause-nested : goal.of-requires-clause-nested
of-requires-clause-nested g c = nested_in g.D.Disk c.args.store c.requires.fresh

pub returns-in-Err-clause-unopened : goal.returns-in-Err-clause-unopened
returns-in-Err-clause-unopened g c = unopened_back g.D.Disk c.args.store c.in-Err.store _ c.requires.fresh c.in-Err.ensures.back c.out_of_memory.ensures.disk (λ told. g.met.D.Disk.seen c.args.store.disk told)

pub move_alone-moved-requires : goal.move_alone-moved-requires
move_alone-moved-requires g c = record { stands = stands_at_first g.D.Disk c.args.store c.requires.fresh c.in-Ok.archive c.in-Ok.ensures.opened }

pub returns-clause-moves : goal.returns-clause-moves
returns-clause-moves g c = inr (λ held has.
    let disk = g.D.Disk in
    let old = c.in-Ok.archive in
    let new = c.move_alone-moved.new.archive in
    let made = c.move_alone-moved.ensures.moves in
    let begun = begins disk c.args.store c.requires.fresh old c.in-Ok.ensures.opened held has in
    let from = acts_from disk c.args.store.config held old new made.0 begun made.2 in
    record {
      came = c.move_alone-moved.result;
      now = c.now-now.result;
      at = c.now-now.ensures.gives;
      done = made.0;
      moves = made.1;
      acts = acts_given disk new c.into_store.result c.into_disk.result c.into_store.ensures c.into_disk.ensures c.args.store.config held made.0 c.args.store old c.in-Ok.ensures.store from.0;
      tells_moved = c.moved_status.ensures.tells;
    })

pub returns-clause-damaged : goal.returns-clause-damaged
returns-clause-damaged g c = λ told held has stands file at is.
    let disk = g.D.Disk in
    let old = c.in-Ok.archive in
    let new = c.move_alone-moved.new.archive in
    let made = c.move_alone-moved.ensures.moves in
    let begun = begins disk c.args.store c.requires.fresh old c.in-Ok.ensures.opened held has in
    let run = ran disk old new made.0 begun.start begun.stands made.2 in
    let came = moved_damaged c.move_alone-moved.result _ _ _ file at c.moved_status.ensures.tells is in
    let last = last_answered (answer.Damaged file at) (moved_last _ _ _ (err.Damaged file at) came (λ other. cc (other)) made.1) in
    run_undamaged c.soundness_stays.ensures.answers c.moves_are_as_told.ensures.damaged made.2.entries begun.start run.after last.0 [] last.1 file at begun.stands.sound (begun.opened.told ∙ both_hold _ _ told stands) run.runs (made.2.just_these ∙ last.2)

pub returns-in-Err-clause-part : goal.returns-in-Err-clause-part
returns-in-Err-clause-part g c = λ told. subst (λ (s : Status). FindsPart (stores_of c.args.store.config) (g.D.Disk.files c.out_of_memory.result.disk) s) (sym c.out_of_memory.ensures.status) tt

pub returns-clause-part : goal.returns-clause-part
returns-clause-part g c = λ told.
    let disk = g.D.Disk in
    let old = c.in-Ok.archive in
    let new = c.move_alone-moved.new.archive in
    let made = c.move_alone-moved.ensures.moves in
    let has = c.requires.fresh.has in
    let begun = begins disk c.args.store c.requires.fresh old c.in-Ok.ensures.opened has.0 has.1 in
    let run = ran disk old new made.0 begun.start begun.stands made.2 in
    let rule = ap (λ (r : Rule). r.granularity) ((runs_onward made.2.entries begun.start run.after begun.stands.sound run.runs).rule ∙ begun.opened.rule) in
    let handed_back = handed disk new c.into_store.result c.into_disk.result c.into_store.ensures c.into_disk.ensures in
    subst (λ d. FindsPart (stores_of c.args.store.config) (disk.files d) c.moved_status.result) handed_back
    (finds_part (stores_of c.args.store.config) (disk.files new.half.store.disk) c.moved_status.result (λ name at is.
    let came = moved_damaged c.move_alone-moved.result _ _ _ name at c.moved_status.ensures.tells is in
    let last = last_answered (answer.Damaged name at) (moved_last _ _ _ (err.Damaged name at) came (λ other. cc (other)) made.1) in
    part_damaged c.soundness_stays.ensures.answers c.moves_are_as_told.ensures.damaged disk.tells (parts disk) last.0 last.1 name at made.2.entries old new begun.start run.after begun.stands run.stands
    (done_alone made.2.entries made.0 made.2.no_others made.2.just_these ∙ last.2) made.2.chain told (g.met.D.Disk.seen new.half.store.disk told) (stores_of c.args.store.config) rule))

pub returns-clause-caused : goal.returns-clause-caused
returns-clause-caused g c =
    let disk = g.D.Disk in
    let old = c.in-Ok.archive in
    let new = c.move_alone-moved.new.archive in
    let made = c.move_alone-moved.ensures.moves in
    let first = stands_at_first disk c.args.store c.requires.fresh old c.in-Ok.ensures.opened in
    moved_caused g.D.Reader.ReadAt.faults _ _ c.move_alone-moved.result _ _ _ c.moved_status.ensures.tells c.moved_status.ensures.failed (λ is.
    let last = last_answered answer.DiskFault (moved_last _ _ _ err.DiskFault is (λ other. cc (other)) made.1) in
    rose_given disk new c.into_store.result c.into_disk.result c.into_store.ensures c.into_disk.ensures c.args.store old c.in-Ok.ensures.store (has_risen disk old new made.0 first.0 first.1 made.2 c.soundness_stays.ensures.answers last.0 last.1 last.2))

pub returns-clause-disk_faults : goal.returns-clause-disk_faults
returns-clause-disk_faults g c =
    let disk = g.D.Disk in
    let old = c.in-Ok.archive in
    let new = c.move_alone-moved.new.archive in
    let made = c.move_alone-moved.ensures.moves in
    let first = stands_at_first disk c.args.store c.requires.fresh old c.in-Ok.ensures.opened in
    count_given disk new c.into_store.result c.into_disk.result c.into_store.ensures c.into_disk.ensures c.args.store old c.in-Ok.ensures.store (has_not_fallen disk old new made.0 first.0 first.1 made.2)

pub returns-clause-unopened : goal.returns-clause-unopened
returns-clause-unopened g c =
    let disk = g.D.Disk in
    let old = c.in-Ok.archive in
    let new = c.move_alone-moved.new.archive in
    let made = c.move_alone-moved.ensures.moves in
    let first = stands_at_first disk c.args.store c.requires.fresh old c.in-Ok.ensures.opened in
    let run = ran disk old new made.0 first.0 first.1 made.2 in
    unopened_given disk new c.into_store.result c.into_disk.result c.into_store.ensures c.into_disk.ensures run.after run.stands (λ told. g.met.D.Disk.seen new.half.store.disk told)
