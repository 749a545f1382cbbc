use Rattle.std.proofs.Common.{◌≤◌, take}
use Rattle.std.specs.Io.KnownBytes.{Appends}
use Rattle.command_words.proofs.Complaining.{text_of}
use Rattle.command_words.proofs.complaint.write_pieces.Given as goal

abbrev pub invariant-loop-piece : goal.invariant-loop-piece
invariant-loop-piece g l = record {
  written : Appends (g.E.Sink.written l.fn.sink) (g.E.Sink.written l.sink) (text_of (take l.piece-index l.pieces));
  faults : g.E.Sink.write_faults l.fn.sink ≤ g.E.Sink.write_faults l.sink;
}
