use Rattle.std.proofs.Common.{subst, refl, sym, ap, ◌∙◌, Some}
use Rattle.edge_io.specs.Lines.{LineReader, Reads, ahead}
use Rattle.edge_io.specs.declared.lines.LineRead.{LineRead}
use Rattle.edge_io.specs.declared.lines.LineRead.TheVariants as read
use Rattle.pb_lines.specs.declared.fault.ChunkFault.TheVariants.{Torn, LineTooLong, InputTooLong}
use Rattle.pb_lines.specs.Reader.{Chunks, EndsStream}
use Rattle.pb_lines.proofs.Reading.{IsStop, ends_reads, stop_reads, stop_counts, end_counts, none_taken, when_none}
use Rattle.pb_lines.proofs.reader.ChunkReader.fetch.Goals.{in-Torn, in-TooLong, in-InputTooLong}
use Rattle.pb_lines.proofs.reader.ChunkReader.fetch.Goals as goal

pub returns-in-End-clause-item : goal.returns-in-End-clause-item
returns-in-End-clause-item g c =
    let left = g.S.Source.left in
    let view = c.self.view_is in
    let old = c.args.self.now in
    let l = c.next.new.self in
    let stop = c.self.invariant.goes_on (ap (λ (v : Chunks). v.refused) view ∙ c.requires) in
    let R : LineReader → Type 0 = λ r. Reads r l (ahead r (left c.args.source.now)) (ahead l (left c.next.new.source)) read.End in
    let h = subst R (ap (λ (v : Chunks). v.lines) view) (when_none c.self.inside.lines.stop (R c.self.inside.lines) stop c.in-End.ensures.read) in
    let E : Chunks → Type 0 = λ v. EndsStream v c.end.new.self c.end.result in
    let ends = subst E (ap (λ (v : Chunks). record v { lines = l }) view) c.end.ensures.ends in
    ends_reads old c.end.new.self l (left c.args.source.now) (left c.next.new.source) c.end.result (ap (λ (v : Chunks). v.pending) (sym view) ∙ c.if-self.false) c.requires h.0 h.1 h.3 h.4 ends

pub returns-in-End-clause-lines : goal.returns-in-End-clause-lines
returns-in-End-clause-lines g c =
    let left = g.S.Source.left in
    let view = c.self.view_is in
    let l = c.next.new.self in
    let stop = c.self.invariant.goes_on (ap (λ (v : Chunks). v.refused) view ∙ c.requires) in
    let R : LineReader → Type 0 = λ r. Reads r l (ahead r (left c.args.source.now)) (ahead l (left c.next.new.source)) read.End in
    let h = subst R (ap (λ (v : Chunks). v.lines) view) (when_none c.self.inside.lines.stop (R c.self.inside.lines) stop c.in-End.ensures.read) in
    let E : Chunks → Type 0 = λ v. EndsStream v c.end.new.self c.end.result in
    let ends = subst E (ap (λ (v : Chunks). record v { lines = l }) view) c.end.ensures.ends in
    end_counts c.args.self.now c.end.new.self l c.end.result (ap (λ (v : Chunks). v.pending) (sym view) ∙ c.if-self.false) h.0 ends

pub returns-in-SourceFault-clause-lines : goal.returns-in-SourceFault-clause-lines
returns-in-SourceFault-clause-lines g c =
    let left = g.S.Source.left in
    let view = c.self.view_is in
    let l = c.next.new.self in
    let stop = c.self.invariant.goes_on (ap (λ (v : Chunks). v.refused) view ∙ c.requires) in
    let R : LineReader → Type 0 = λ r. Reads r l (ahead r (left c.args.source.now)) (ahead l (left c.next.new.source)) read.SourceFault in
    let h = subst R (ap (λ (v : Chunks). v.lines) view) (when_none c.self.inside.lines.stop (R c.self.inside.lines) stop c.in-SourceFault.ensures.read) in
    let idle = ap (λ (v : Chunks). v.pending) (sym view) ∙ c.if-self.false in
    none_taken c.args.self.now _ l idle h.0 c.if-self.false refl

pub returns-in-Memory-clause-lines : goal.returns-in-Memory-clause-lines
returns-in-Memory-clause-lines g c =
    let left = g.S.Source.left in
    let view = c.self.view_is in
    let l = c.next.new.self in
    let stop = c.self.invariant.goes_on (ap (λ (v : Chunks). v.refused) view ∙ c.requires) in
    let R : LineReader → Type 0 = λ r. Reads r l (ahead r (left c.args.source.now)) (ahead l (left c.next.new.source)) read.Memory in
    let h = subst R (ap (λ (v : Chunks). v.lines) view) (when_none c.self.inside.lines.stop (R c.self.inside.lines) stop c.in-Memory.ensures.read) in
    let idle = ap (λ (v : Chunks). v.pending) (sym view) ∙ c.if-self.false in
    none_taken c.args.self.now _ l idle h.0 c.if-self.false refl

pub returns-clause-item : goal.returns-clause-item
returns-clause-item g c =
    let left = g.S.Source.left in
    let view = c.self.view_is in
    let old = c.args.self.now in
    let l = c.next.new.self in
    let before = left c.args.source.now in
    let after = left c.next.new.source in
    let stop = c.self.invariant.goes_on (ap (λ (v : Chunks). v.refused) view ∙ c.requires) in
    let idle = ap (λ (v : Chunks). v.pending) (sym view) ∙ c.if-self.false in
    let R : LineRead → LineReader → Type 0 = λ ending r. Reads r l (ahead r before) (ahead l after) ending in
    elim c.match-next.branch [
      | in-Torn w ↦
          let h = subst (R read.Torn) (ap (λ (v : Chunks). v.lines) view) (when_none c.self.inside.lines.stop (R read.Torn c.self.inside.lines) stop w.in-Torn.ensures.read) in
          rw w.fault-is (stop_reads old _ l before after read.Torn Torn tt (ap (λ (v : Chunks). record v { lines = l; refused = Some Torn }) view) idle c.requires h)
      | in-TooLong w ↦
          let h = subst (R read.TooLong) (ap (λ (v : Chunks). v.lines) view) (when_none c.self.inside.lines.stop (R read.TooLong c.self.inside.lines) stop w.in-TooLong.ensures.read) in
          rw w.fault-is (stop_reads old _ l before after read.TooLong LineTooLong tt (ap (λ (v : Chunks). record v { lines = l; refused = Some LineTooLong }) view) idle c.requires h)
      | in-InputTooLong w ↦
          let h = subst (R read.InputTooLong) (ap (λ (v : Chunks). v.lines) view) (when_none c.self.inside.lines.stop (R read.InputTooLong c.self.inside.lines) stop w.in-InputTooLong.ensures.read) in
          rw w.fault-is (stop_reads old _ l before after read.InputTooLong InputTooLong tt (ap (λ (v : Chunks). record v { lines = l; refused = Some InputTooLong }) view) idle c.requires h)
    ]

pub returns-clause-lines : goal.returns-clause-lines
returns-clause-lines g c =
    let left = g.S.Source.left in
    let view = c.self.view_is in
    let old = c.args.self.now in
    let l = c.next.new.self in
    let before = left c.args.source.now in
    let after = left c.next.new.source in
    let stop = c.self.invariant.goes_on (ap (λ (v : Chunks). v.refused) view ∙ c.requires) in
    let idle = ap (λ (v : Chunks). v.pending) (sym view) ∙ c.if-self.false in
    let R : LineRead → LineReader → Type 0 = λ ending r. Reads r l (ahead r before) (ahead l after) ending in
    elim c.match-next.branch [
      | in-Torn w ↦
          let h = subst (R read.Torn) (ap (λ (v : Chunks). v.lines) view) (when_none c.self.inside.lines.stop (R read.Torn c.self.inside.lines) stop w.in-Torn.ensures.read) in
          stop_counts old _ l read.Torn c.match-next.fault (subst (IsStop read.Torn) (sym w.fault-is) tt) (ap (λ (v : Chunks). record v { lines = l; refused = Some c.match-next.fault }) view) idle h.0
      | in-TooLong w ↦
          let h = subst (R read.TooLong) (ap (λ (v : Chunks). v.lines) view) (when_none c.self.inside.lines.stop (R read.TooLong c.self.inside.lines) stop w.in-TooLong.ensures.read) in
          stop_counts old _ l read.TooLong c.match-next.fault (subst (IsStop read.TooLong) (sym w.fault-is) tt) (ap (λ (v : Chunks). record v { lines = l; refused = Some c.match-next.fault }) view) idle h.0
      | in-InputTooLong w ↦
          let h = subst (R read.InputTooLong) (ap (λ (v : Chunks). v.lines) view) (when_none c.self.inside.lines.stop (R read.InputTooLong c.self.inside.lines) stop w.in-InputTooLong.ensures.read) in
          stop_counts old _ l read.InputTooLong c.match-next.fault (subst (IsStop read.InputTooLong) (sym w.fault-is) tt) (ap (λ (v : Chunks). record v { lines = l; refused = Some c.match-next.fault }) view) idle h.0
    ]
