use Rattle.std.proofs.Common.{◌≡◌, ◌∙◌, ◌≤◌, sym, ap, length, drop, arith}
use Rattle.edge_io.specs.Lines.{LineReader}
use Rattle.edge_io.proofs.Ahead.{read_fills}
use Rattle.edge_io.proofs.lines.Lines.fill.Goals as goal

pub returns-clause-filled : goal.returns-clause-filled
returns-clause-filled g c =
    let held : c.args.self.now.held ≡ drop c.self.inside.start c.self.inside.buf.items = ap (λ (r : LineReader). r.held) (sym c.room-count.ensures.same ∙ sym c.self.view_is) in
    let within : c.self.inside.start ≤ length c.self.inside.buf.items = omega arith in
    let left = g.S.Source.left in
    rw held (read_fills c.self.inside.buf.items c.read_on-filled.new.buf.items c.self.inside.start (left c.args.source.now) (left c.read_on-filled.new.source) c.read_on-filled.result within c.read_on-filled.ensures.read)
