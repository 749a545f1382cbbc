use Rattle.std.proofs.Common.{List, subst, arith, All}
use Rattle.std.proofs.lemmas.List.{take_all}
use Rattle.disk_model.specs.Past.{Only}
use Rattle.found_files.specs.Reading.{OnlyReads}
use Rattle.found_files.specs.ReadRuns.{read_then}
use Rattle.store_reopen.specs.declared.finding.TakenFile.{TakenFile}
use Rattle.store_reopen.proofs.TakenFiles.{one_synced}
use Rattle.store_reopen.proofs.listing.sync_taken.Goals as goal

pub loop-one-preserved : goal.loop-one-preserved
loop-one-preserved g c =
    let disk = g.D.Disk in
    let first = c.args.disk.now in
    let mid = c.loop-one.disk in
    let new = c.sync.new.self in
    let step : OnlyReads disk mid new = record { files = c.sync.ensures.same; opened = c.sync.ensures.opened; any_moment = c.sync.ensures.crash; faults = c.sync.ensures.faults } in
    record {
      durable = λ tells. one_synced c.args.taken.now c.loop-one.one-index c.one-item.result (disk.files first) (disk.files mid) (disk.past mid) (disk.past new) c.loop-one-test.true c.one-item.is (c.loop-one.invariant.read.files tells) (c.sync.ensures.crash tells) (c.loop-one.invariant.durable tells) (c.in_ok-sync.ensures.durable tells);
      read = read_then disk first mid new c.loop-one.invariant.read step;
    }

pub returns-clause-durable : goal.returns-clause-durable
returns-clause-durable g c tells =
    subst (λ (xs : List TakenFile). All (λ (x : TakenFile). Only (g.D.Disk.past c.loop-one.disk) x.file (g.D.Disk.files c.args.disk.now x.file)) xs) (take_all c.loop-one.one-index c.args.taken.now (omega (arith, c.loop-one-test.false))) (c.loop-one.invariant.durable tells)
