use Rattle.std.proofs.Common.{arith, None, Some, ◌∙◌}
use Rattle.pb_lines.specs.Reader.{to_come, lines_taken, bytes_taken, ReadsItem, ReadsLine, Counts, CountsOn}
use Rattle.pb_lines.proofs.Reading.{later_item, later_line, later_counts, when_none, if_none_by, refused_again, refused_so_far}
use Rattle.pb_lines.proofs.reader.ChunkReader.next.Goals as goal

pub returns-in-Some-clause-item : goal.returns-in-Some-clause-item
returns-in-Some-clause-item g c =
    let left = g.S.Source.left in
    let old = c.args.self.now in
    let mid = c.lines.self in
    let new = c.read_line.new.self in
    let before = to_come old (left c.args.source.now) in
    let middle = to_come mid (left c.lines.source) in
    let after = to_come new (left c.read_line.new.source) in
    if_none_by old.refused (ReadsItem old new before after c.in-Some.item) (λ none.
    let later = c.lines.invariant.going none in
    later_item old mid new before middle after c.in-Some.item later (when_none mid.refused (ReadsItem mid new middle after c.in-Some.item) later.going c.in-Some.ensures.item))

pub returns-in-Some-clause-lines : goal.returns-in-Some-clause-lines
returns-in-Some-clause-lines g c =
    let left = g.S.Source.left in
    let old = c.args.self.now in
    let mid = c.lines.self in
    let new = c.read_line.new.self in
    if_none_by old.refused (CountsOn old new c.in-Some.item) (λ none.
    let later = c.lines.invariant.going none in
    later_counts old mid new (to_come old (left c.args.source.now)) (to_come mid (left c.lines.source)) c.in-Some.item later (when_none mid.refused (Counts (lines_taken mid) (bytes_taken mid) new (Some c.in-Some.item)) later.going c.in-Some.ensures.lines))

pub returns-in-Some-clause-refused : goal.returns-in-Some-clause-refused
returns-in-Some-clause-refused g c = refused_again c.args.self.now c.lines.self c.read_line.new.self c.args.source.now c.lines.source c.read_line.new.source c.in-Some.item c.lines.invariant.refused c.in-Some.ensures.refused

pub lines-preserved : goal.lines-preserved
lines-preserved g c =
    let left = g.S.Source.left in
    let old = c.args.self.now in
    let mid = c.lines.self in
    let new = c.read_line.new.self in
    let before = to_come old (left c.args.source.now) in
    let middle = to_come mid (left c.lines.source) in
    let after = to_come new (left c.read_line.new.source) in
    record {
      going = λ none.
          let later = c.lines.invariant.going none in
          later_line old mid new before middle after later (when_none mid.refused (ReadsLine mid new middle after None) later.going c.in_default.ensures.item) (when_none mid.refused (Counts (lines_taken mid) (bytes_taken mid) new None) later.going c.in_default.ensures.lines);
      refused = refused_so_far old mid new c.args.source.now c.lines.source c.read_line.new.source None c.lines.invariant.refused c.in_default.ensures.refused;
      faults = omega (arith, c.lines.invariant.faults, c.in_default.ensures.faults);
      beside = c.in_default.ensures.beside ∙ c.lines.invariant.beside;
    }
