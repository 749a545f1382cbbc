use Rattle.std.proofs.Common.{◌≡◌, ◌≢◌, ◌<◌, List, length, take, sym, ◌∙◌, subst, arith, All}
use Rattle.std.proofs.lemmas.List.{take_all}
use Rattle.std.proofs.lemmas.Slice.Zip.{AllZip-long}
use Rattle.gate_journal.specs.DiskShown.{shown_by}
use Rattle.durable_write.specs.declared.file_write.FileWrite.{FileWrite}
use Rattle.durable_write.specs.Held.{Filed, file_of, shelf_of}
use Rattle.durable_write.specs.Flush.{Grows}
use Rattle.durable_write.specs.Writing.{IsWritten}
use Rattle.durable_write.proofs.Staying.{outside, still_safe}
use Rattle.durable_write.proofs.Written.{write_name, nth_grows, all_listed, more_behind, reads_behind, more_written}
use Rattle.durable_write.proofs.writing.write_files.Goals as goal

pub write_file-requires-clause-row : goal.write_file-requires-clause-row
write_file-requires-clause-row g c = subst (λ (p : FileWrite). p.entry.series < length c.args.rows.now) (sym c.write-item.is) (c.requires.rows c.loop-write.write-index c.write-item.result c.loop-write-test.true)

pub write_file-requires-clause-can : goal.write_file-requires-clause-can
write_file-requires-clause-can g c tells =
    let can = c.requires.can tells in
    let safe = still_safe can.0 (c.args.store, c.args.rows.now) (shown_by g.D.Disk c.args.disk.now) (shown_by g.D.Disk c.loop-write.disk) can.1 can.3
    (c.loop-write.invariant.crash tells can.0 can.1 can.2 can.3 can.4) (c.loop-write.invariant.still tells can.0 can.1 can.2 can.3 can.4) (c.loop-write.invariant.no_more tells) in
    let nth = nth_grows can.0 can.1 c.args.writes.now can.2 c.loop-write.write-index c.write-item.result can.4.each c.loop-write-test.true c.write-item.is in
    (can.0, can.1, nth.0, safe, nth.3)

pub returns-in_err-write_file-clause-any_moment : goal.returns-in_err-write_file-clause-any_moment
returns-in_err-write_file-clause-any_moment g c tells gr held fs safe makes =
    let nth = nth_grows gr held c.args.writes.now fs c.loop-write.write-index c.write-item.result makes.each c.loop-write-test.true c.write-item.is in
    more_behind gr (c.args.store, c.args.rows.now) held c.write-item.result nth.0 (shown_by g.D.Disk c.args.disk.now) (g.D.Disk.past c.loop-write.disk) (g.D.Disk.past c.write_file.new.disk) safe nth.3
    (c.loop-write.invariant.crash tells gr held fs safe makes) (c.write_file.ensures.any_moment tells)

pub returns-in_err-write_file-clause-behind : goal.returns-in_err-write_file-clause-behind
returns-in_err-write_file-clause-behind g c tells gr held fs safe makes =
    let nth = nth_grows gr held c.args.writes.now fs c.loop-write.write-index c.write-item.result makes.each c.loop-write-test.true c.write-item.is in
    reads_behind gr (c.args.store, c.args.rows.now) held c.write-item.result nth.0 (shown_by g.D.Disk c.args.disk.now) (g.D.Disk.files c.loop-write.disk) (g.D.Disk.files c.write_file.new.disk) safe nth.3
    (c.loop-write.invariant.behind tells gr held fs safe makes) (c.write_file.ensures.kept tells)

pub returns-in_err-write_file-clause-still : goal.returns-in_err-write_file-clause-still
returns-in_err-write_file-clause-still g c tells gr held fs safe makes =
    let nth = nth_grows gr held c.args.writes.now fs c.loop-write.write-index c.write-item.result makes.each c.loop-write-test.true c.write-item.is in
    let now = still_safe gr (c.args.store, c.args.rows.now) (shown_by g.D.Disk c.args.disk.now) (shown_by g.D.Disk c.loop-write.disk) held safe
    (c.loop-write.invariant.crash tells gr held fs safe makes) (c.loop-write.invariant.still tells gr held fs safe makes) (c.loop-write.invariant.no_more tells) in
    c.write_file.ensures.still tells gr held nth.0 now nth.3

pub loop-write-preserved : goal.loop-write-preserved
loop-write-preserved g c = record {
  crash = λ tells gr held fs safe makes.
      let nth = nth_grows gr held c.args.writes.now fs c.loop-write.write-index c.write-item.result makes.each c.loop-write-test.true c.write-item.is in
      more_behind gr (c.args.store, c.args.rows.now) held c.write-item.result nth.0 (shown_by g.D.Disk c.args.disk.now) (g.D.Disk.past c.loop-write.disk) (g.D.Disk.past c.write_file.new.disk) safe nth.3
      (c.loop-write.invariant.crash tells gr held fs safe makes) (c.write_file.ensures.any_moment tells);
  behind = λ tells gr held fs safe makes.
      let nth = nth_grows gr held c.args.writes.now fs c.loop-write.write-index c.write-item.result makes.each c.loop-write-test.true c.write-item.is in
      reads_behind gr (c.args.store, c.args.rows.now) held c.write-item.result nth.0 (shown_by g.D.Disk c.args.disk.now) (g.D.Disk.files c.loop-write.disk) (g.D.Disk.files c.write_file.new.disk) safe nth.3
      (c.loop-write.invariant.behind tells gr held fs safe makes) (c.write_file.ensures.kept tells);
  still = λ tells gr held fs safe makes.
      let nth = nth_grows gr held c.args.writes.now fs c.loop-write.write-index c.write-item.result makes.each c.loop-write-test.true c.write-item.is in
      let now = still_safe gr (c.args.store, c.args.rows.now) (shown_by g.D.Disk c.args.disk.now) (shown_by g.D.Disk c.loop-write.disk) held safe
      (c.loop-write.invariant.crash tells gr held fs safe makes) (c.loop-write.invariant.still tells gr held fs safe makes) (c.loop-write.invariant.no_more tells) in
      c.write_file.ensures.still tells gr held nth.0 now nth.3;
  written = λ tells gr held fs safe makes.
      let nth = nth_grows gr held c.args.writes.now fs c.loop-write.write-index c.write-item.result makes.each c.loop-write-test.true c.write-item.is in
      let now = still_safe gr (c.args.store, c.args.rows.now) (shown_by g.D.Disk c.args.disk.now) (shown_by g.D.Disk c.loop-write.disk) held safe
      (c.loop-write.invariant.crash tells gr held fs safe makes) (c.loop-write.invariant.still tells gr held fs safe makes) (c.loop-write.invariant.no_more tells) in
      let name : file_of (shelf_of held) nth.0.entry ≡ file_of (c.args.store, c.args.rows.now) c.write-item.result.entry = write_name gr (c.args.store, c.args.rows.now) held (shown_by g.D.Disk c.args.disk.now) c.write-item.result nth.0 safe nth.3 in
      more_written gr held fs c.loop-write.write-index nth.0 (g.D.Disk.files c.loop-write.disk) (g.D.Disk.files c.write_file.new.disk) (g.D.Disk.opened c.loop-write.disk) (g.D.Disk.opened c.write_file.new.disk)
      safe.valid.keys (all_listed gr held c.args.writes.now fs makes.each) makes.apart nth.1 nth.2 (c.loop-write.invariant.written tells gr held fs safe makes) (c.in_ok-write_file.ensures.written tells gr held nth.0 now nth.3)
      (λ n apart. (c.write_file.ensures.kept tells).elsewhere n (λ is. apart (is ∙ sym name))) (c.write_file.ensures.no_more tells);
  elsewhere = λ tells n other. (c.write_file.ensures.kept tells).elsewhere n (outside (c.args.store, c.args.rows.now) c.write-item.result.entry n other) ∙ c.loop-write.invariant.elsewhere tells n other;
  others = λ tells n apart.
      let own = subst (λ (p : FileWrite). n ≢ file_of (c.args.store, c.args.rows.now) p.entry) (sym c.write-item.is) (apart c.loop-write.write-index c.write-item.result c.loop-write-test.true) in
      (c.write_file.ensures.kept tells).elsewhere n own ∙ c.loop-write.invariant.others tells n apart;
  no_more = λ tells n. omega (arith, c.write_file.ensures.no_more tells n, c.loop-write.invariant.no_more tells n);
  faults = omega (arith, c.write_file.ensures.faults, c.loop-write.invariant.faults);
}

pub returns-clause-written : goal.returns-clause-written
returns-clause-written g c tells gr held fs safe makes =
    let long : length fs ≡ length c.args.writes.now = AllZip-long (Grows gr held) c.args.writes.now fs makes.each in
    let all : take c.loop-write.write-index fs ≡ fs = take_all c.loop-write.write-index fs (omega (arith, long, c.loop-write-test.false)) in
    subst (λ (files : List Filed). All (IsWritten held (g.D.Disk.files c.loop-write.disk) (g.D.Disk.opened c.loop-write.disk)) files) all (c.loop-write.invariant.written tells gr held fs safe makes)
