use Rattle.std.proofs.Common.{◌≡◌, ◌≤◌, None}
use Rattle.std.specs.Prelude.{IfSome}
use Rattle.pb_lines.specs.Reader.{to_come, work_left}
use Rattle.pb_lines.proofs.Reading.{Later}
use Rattle.pb_lines.proofs.reader.ChunkReader.next.Given as goal

abbrev pub invariant-lines : goal.invariant-lines
invariant-lines g l = record {
  going : l.initial.self.refused ≡ None → Later l.initial.self l.self (to_come l.initial.self (g.S.Source.left l.initial.source)) (to_come l.self (g.S.Source.left l.source));
  refused : IfSome l.initial.self.refused (λ f. (l.self ≡ l.initial.self) × (l.source ≡ l.initial.source));
  faults : g.S.Source.read_faults l.initial.source ≤ g.S.Source.read_faults l.source;
  beside : g.S.Source.beside l.source ≡ g.S.Source.beside l.initial.source;
}

abbrev pub decreases-lines : goal.decreases-lines
decreases-lines g l = work_left l.self
