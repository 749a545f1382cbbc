use Rattle.std.proofs.Common.{◌≡◌, ◌≤◌, ◌-◌, IsTrue, None}
use Rattle.pb_file.proofs.Verdicts.{Checked}
use Rattle.pb_file.proofs.check.check_lines.Given as goal

abbrev pub invariant-lines : goal.invariant-lines
invariant-lines g l =
    let bytes = g.H.ReadAt.bytes in
    record {
      checked : IsTrue g.H.ReadAt.tells → Checked l.part l.walk (bytes l.initial.file) l.tally;
      same : IsTrue g.H.ReadAt.tells → bytes l.file ≡ bytes l.initial.file;
      going : l.walk.stop ≡ None;
      len : l.walk.len ≡ l.len;
      bound : l.tally.count ≤ l.walk.place;
      faults : g.H.ReadAt.faults l.initial.file ≤ g.H.ReadAt.faults l.file;
    }

abbrev pub decreases-lines : goal.decreases-lines
decreases-lines g l = l.len - l.walk.place
