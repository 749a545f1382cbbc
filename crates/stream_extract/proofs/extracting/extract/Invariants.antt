use Rattle.std.proofs.Common.{◌≡◌, ◌≤◌, None}
use Rattle.pb_lines.specs.Reader.{to_come, work_left}
use Rattle.stream_extract.proofs.Progress.{Progress}
use Rattle.stream_extract.proofs.extracting.extract.Given as goal

abbrev pub invariant-lines : goal.invariant-lines
invariant-lines g l = record {
  progress : Progress l.fn.query (g.K.Sink.written l.fn.sink) (g.K.Sink.written l.sink) l.initial.reader l.reader (g.S.Source.left l.fn.source) (to_come l.reader (g.S.Source.left l.source)) l.out.items l.later l.answer;
  going : l.reader.refused ≡ None;
  read_faults : g.S.Source.read_faults l.fn.source ≤ g.S.Source.read_faults l.source;
  write_faults : g.K.Sink.write_faults l.fn.sink ≤ g.K.Sink.write_faults l.sink;
}

abbrev pub decreases-lines : goal.decreases-lines
decreases-lines g l = work_left l.reader
