use Rattle.std.proofs.Common.{◌+◌, ◌-◌, ◌^◌, ◌≤◌, ◌≡◌, None, length}
use Rattle.std.specs.Io.KnownBytes.{Keeps}
use Rattle.edge_io.specs.Lines.{ahead, Stays, HoldsAnswer}
use Rattle.edge_io.proofs.lines.Lines.next.Given as goal

abbrev pub invariant-reads : goal.invariant-reads
invariant-reads g l = record {
  kept : Keeps (ahead l.initial.self (g.S.Source.left l.initial.source)) (ahead l.self (g.S.Source.left l.source));
  stays : Stays l.initial.self l.self;
  goes_on : l.self.stop ≡ None;
  unread : HoldsAnswer l.initial.self → (l.self ≡ l.initial.self) × (l.source ≡ l.initial.source);
  faults : g.S.Source.read_faults l.initial.source ≤ g.S.Source.read_faults l.source;
  beside : g.S.Source.beside l.source ≡ g.S.Source.beside l.initial.source;
}

abbrev pub decreases-reads : goal.decreases-reads
decreases-reads g l = 2 ^ 40 - (l.self.passed + length l.self.held)
