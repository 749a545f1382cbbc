use Rattle.std.proofs.Common.{take}
use Rattle.std.specs.Prelude.{All, IsTrue}
use Rattle.disk_model.specs.Past.{Only}
use Rattle.found_files.specs.Reading.{OnlyReads}
use Rattle.store_reopen.specs.declared.finding.TakenFile.{TakenFile}
use Rattle.store_reopen.proofs.listing.sync_taken.Given as goal

abbrev pub invariant-loop-one : goal.invariant-loop-one
invariant-loop-one g l = record {
  durable : IsTrue g.D.Disk.tells → All (λ (x : TakenFile). Only (g.D.Disk.past l.disk) x.file (g.D.Disk.files l.fn.disk x.file)) (take l.one-index l.taken);
  read : OnlyReads g.D.Disk l.fn.disk l.disk;
}
