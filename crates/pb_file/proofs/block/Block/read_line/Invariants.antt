use Rattle.std.proofs.Common.{◌≡◌, ◌≤◌, ◌+◌, ◌-◌, ◌++◌, IsTrue, length, take}
use Rattle.line_escape.specs.Unescaping.{HasNoNewline}
use Rattle.pb_file.specs.Block.{window_of, IsWindowOf}
use Rattle.pb_file.proofs.block.Block.read_line.Given as goal

abbrev pub invariant-pieces : goal.invariant-pieces
invariant-pieces g l =
    let bytes = g.H.ReadAt.bytes in
    record {
      place : l.place ≡ l.at + length l.line.items;
      within : l.place ≤ l.self.len;
      whole : HasNoNewline l.line.items;
      told : IsTrue g.H.ReadAt.tells → IsWindowOf (window_of l.initial.self) (bytes l.initial.file) → (take l.place (bytes l.initial.file) ≡ take l.at (bytes l.initial.file) ++ l.line.items) × IsWindowOf (window_of l.self) (bytes l.initial.file);
      same : IsTrue g.H.ReadAt.tells → bytes l.file ≡ bytes l.initial.file;
      leaves : g.H.ReadAt.leaves l.initial.file l.file;
      faults : g.H.ReadAt.faults l.initial.file ≤ g.H.ReadAt.faults l.file;
      len : l.self.len ≡ l.initial.self.len;
    }

abbrev pub decreases-pieces : goal.decreases-pieces
decreases-pieces g l = l.self.len - l.place
