use Rattle.std.proofs.Common.{List, refl, ap, subst}
use Rattle.series_model.specs.declared.sample.Sample.{Sample}
use Rattle.tier_store.specs.Details.{SaysDescribed}
use Rattle.tier_store.specs.Opening.{end_of_answer}
use Rattle.tier_store.specs.Seen.{granularities}
use Rattle.tier_store.specs.Telling.{ReadsOf}
use Rattle.act_model.specs.Details.{Describes}
use Rattle.act_model.specs.Reply.{reply_of}
use Rattle.archive_core.specs.Ends.{AskEnds}
use Rattle.archive_core.specs.Leaving.{files_of}
use Rattle.archive_core.specs.Parts.{Parts, parts_beside}
use Rattle.archive_core.proofs.Settled.{with_same, frame_with, rests_has}
use Rattle.archive_core.proofs.Opened.{details_end, reads_beside}
use Rattle.archive_core.proofs.Batches.{tidy_reads}
use Rattle.archive_core.proofs.archive.StoreHalf.details.Goals as goal

pub details-requires : goal.details-requires
details-requires g c = let was = c.requires.rests in record { has = (was.2.stands.store.before, rests_has g.D.Disk.tells (parts_beside g.D.Disk c.args.self.now was.0) was.1 was.2) }

pub returns-clause-asked : goal.returns-clause-asked
returns-clause-asked g c = λ w row named tail.
    let q = parts_beside g.D.Disk c.args.self.now w in
    let new = parts_beside g.D.Disk (record c.args.self.now { store = c.details.new.self }) w in
    let call = c.details.ensures in
    let limbo = ap (λ l. l.items) call.same.3 in
    let lists = ap (λ l. l.items) call.same.1 in
    let frame = frame_with g.D.Disk.tells (files_of q) new.at new.limbo q.limbo limbo call.frame in
    let alone = reads_beside g.D.Disk.tells q new (call.same.0, lists) limbo (λ told. (call.reads.files told, call.reads.any_moment told)) in
    let given = reply_of g.D.Reader.ReadAt.tells g.D.Reader.ReadAt.bytes g.D.Reader.ReadAt.faults c.details.result in
    record {
      asks = λ m r.
          let has = rests_has g.D.Disk.tells q m r in
          let says = subst (λ (xs : List Sample). ReadsOf (SaysDescribed {R = g.row.D-Reader.Denot} g.D.Disk.tells c.args.name.now xs) (end_of_answer c.details.result) r.stands.store.before) tail (call.says r.stands.store.before has) in
          with_same (λ (x : Parts). AskEnds g.D.Disk.tells (Describes c.args.name.now) q m x given) (record q { at = new.at }) new.limbo new.pinned limbo call.same.2
          (details_end g.row.D-Reader.Denot g.D.Disk.tells g.D.Reader.ReadAt.tells g.D.Reader.ReadAt.bytes g.D.Reader.ReadAt.faults q m r row c.args.name.now named c.details.result new.at says (call.kept r.stands.store.before has) (ap granularities lists) frame call.reads);
      reads = alone;
      faults = call.reads.faults;
      tidy = λ settled. tidy_reads g.D.Disk.tells q new alone refl settled;
    }
