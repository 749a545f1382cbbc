use Rattle.pb_lines.specs.Reader.{to_come, lines_taken, bytes_taken, ReadsLine, Counts}
use Rattle.pb_lines.proofs.Reading.{takes_reads, reads_fetched, line_counts, if_going}
use Rattle.pb_lines.proofs.reader.ChunkReader.read_line.Goals as goal

pub returns-clause-item : goal.returns-clause-item
returns-clause-item g c =
    let left = g.S.Source.left in
    let old = c.args.self.now in
    let mid = c.fetch.new.self in
    let new = c.take_line.new.self in
    let after = left c.fetch.new.source in
    let fetched = c.in_default-fetch.ensures.line in
    if_going old.refused (ReadsLine old new (to_come old (left c.args.source.now)) (to_come new after) c.take_line.result) (
    reads_fetched old mid new (to_come old (left c.args.source.now)) (to_come mid after) (to_come new after) c.take_line.result fetched (takes_reads mid new after c.take_line.result fetched.pending fetched.refused fetched.line c.take_line.ensures))

pub returns-clause-lines : goal.returns-clause-lines
returns-clause-lines g c =
    let left = g.S.Source.left in
    let old = c.args.self.now in
    let mid = c.fetch.new.self in
    let new = c.take_line.new.self in
    if_going old.refused (Counts (lines_taken old) (bytes_taken old) new c.take_line.result) (line_counts old mid new (to_come old (left c.args.source.now)) (to_come mid (left c.fetch.new.source)) c.take_line.result c.in_default-fetch.ensures.line c.take_line.ensures)
