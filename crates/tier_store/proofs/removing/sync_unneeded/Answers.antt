use Rattle.std.proofs.Common.{◌≡◌, ◌+◌, List, take, subst, sym, ap, arith}
use Rattle.std.specs.Prelude.{IsErr, OnOk, Result}
use Rattle.std.proofs.lemmas.List.{take_all}
use Rattle.disk_model.specs.Files.{Content, Files, Rose}
use Rattle.disk_model.specs.Past.{Only}
use Rattle.disk_model.specs.declared.disk.DiskErr.{DiskErr}
use Rattle.gate_journal.specs.DiskShown.{shown_by}
use Rattle.durable_write.proofs.Staying.{rose_after}
use Rattle.tier_store.specs.Limbo.{AreFree}
use Rattle.tier_store.specs.declared.limbo.Retired.{Retired}
use Rattle.tier_store.proofs.Lines.{then_reads}
use Rattle.tier_store.proofs.Removals.{both_err, on_ok, both_done, rose_until, free_needed, free_more, only_read}
use Rattle.tier_store.proofs.removing.sync_unneeded.Goals as goal

pub loop-file-preserved-then-is_needed : goal.loop-file-preserved-then-is_needed
loop-file-preserved-then-is_needed g c = record {
  durable = λ tells. on_ok c.loop-file.done _ _ (free_needed c.args.pinned.now c.args.copied.now (λ n. Only (g.D.Disk.past c.loop-file.disk) n (g.D.Disk.files c.args.disk.now n)) c.args.files.now c.loop-file.file-index c.file-item.result c.loop-file-test.true c.file-item.is (c.is_needed.ensures.0 c.if-is_needed.true)) (c.loop-file.invariant.durable tells);
  reads = c.loop-file.invariant.reads;
  faults = c.loop-file.invariant.faults;
  cause = c.loop-file.invariant.cause;
}

pub loop-file-preserved : goal.loop-file-preserved
loop-file-preserved g c =
    let r = c.file-item.result in
    let mid = c.loop-file.disk in
    let new = c.sync-synced.new.self in
    let so_far = c.loop-file.invariant in
    let says = c.sync-synced.ensures in
    let synced = c.sync-synced.result in
    let done = c.loop-file.done in
    let first = g.D.Disk.files c.args.disk.now in
    record {
      durable = λ tells.
          let both = both_done synced done (Only (g.D.Disk.past new) r.name (g.D.Disk.files mid r.name)) (AreFree c.args.pinned.now c.args.copied.now (λ n. Only (g.D.Disk.past mid) n (first n)) (take c.loop-file.file-index c.args.files.now)) (AreFree c.args.pinned.now c.args.copied.now (λ n. Only (g.D.Disk.past new) n (first n)) (take (c.loop-file.file-index + 1) c.args.files.now))
          (λ durable rest.
          free_more c.args.pinned.now c.args.copied.now (λ n. Only (g.D.Disk.past mid) n (first n)) (λ n. Only (g.D.Disk.past new) n (first n)) c.args.files.now c.loop-file.file-index r c.loop-file-test.true c.file-item.is
          (only_read first (g.D.Disk.past mid) (g.D.Disk.past new) (says.crash tells))
          (subst (λ (content : Content). Only (g.D.Disk.past new) r.name content) (ap (λ (f : Files). f r.name) (so_far.reads tells).same) durable) rest) (says.durable tells) (so_far.durable tells) in
          subst (λ (x : Result (Unit {0}) DiskErr). OnOk x (AreFree c.args.pinned.now c.args.copied.now (λ n. Only (g.D.Disk.past new) n (first n)) (take (c.loop-file.file-index + 1) c.args.files.now))) (sym c.and-done.ensures) both;
      reads = λ tells.
          then_reads (shown_by g.D.Disk c.args.disk.now) (shown_by g.D.Disk mid) (shown_by g.D.Disk new) (so_far.reads tells) (record { same = says.same tells; same_opened = says.opened tells; any_moment = says.crash tells });
      faults = omega (arith, says.faults, so_far.faults);
      cause = λ is.
          both_err synced done (Rose (g.D.Disk.faults c.args.disk.now) (g.D.Disk.faults new)) (λ failed. rose_after (g.D.Disk.faults c.args.disk.now) (g.D.Disk.faults mid) (g.D.Disk.faults new) so_far.faults (says.cause failed))
          (λ failed. rose_until (g.D.Disk.faults c.args.disk.now) (g.D.Disk.faults mid) (g.D.Disk.faults new) says.faults (so_far.cause failed)) (subst (λ (x : Result (Unit {0}) DiskErr). IsErr x) c.and-done.ensures is);
    }

pub returns-clause-durable : goal.returns-clause-durable
returns-clause-durable g c tells =
    let all : take c.loop-file.file-index c.args.files.now ≡ c.args.files.now = take_all c.loop-file.file-index c.args.files.now (omega (arith, c.loop-file-test.false)) in
    subst (λ (rs : List Retired). OnOk c.loop-file.done (AreFree c.args.pinned.now c.args.copied.now (λ n. Only (g.D.Disk.past c.loop-file.disk) n (g.D.Disk.files c.args.disk.now n)) rs)) all (c.loop-file.invariant.durable tells)
