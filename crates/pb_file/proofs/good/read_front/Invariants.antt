use Rattle.std.proofs.Common.{◌≡◌, ◌≤◌, ◌-◌, IsTrue, None}
use Rattle.pb_file.proofs.Fronts.{Fronted, Shaped}
use Rattle.pb_file.proofs.good.read_front.Given as goal

abbrev pub invariant-lines : goal.invariant-lines
invariant-lines g l =
    let bytes = g.H.ReadAt.bytes in
    record {
      fronted : IsTrue g.H.ReadAt.tells → Fronted l.part l.walk (bytes l.initial.file) l.tally l.head_len;
      shaped : Shaped l.part l.walk l.tally l.head_len;
      same : IsTrue g.H.ReadAt.tells → bytes l.file ≡ bytes l.initial.file;
      going : l.walk.stop ≡ None;
      len : l.walk.len ≡ l.len;
      within : l.walk.place ≤ l.len;
      bound : l.tally.count ≤ l.walk.place;
      leaves : g.H.ReadAt.leaves l.initial.file l.file;
      faults : g.H.ReadAt.faults l.initial.file ≤ g.H.ReadAt.faults l.file;
    }

abbrev pub decreases-lines : goal.decreases-lines
decreases-lines g l = l.len - l.walk.place
