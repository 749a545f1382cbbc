use Rattle.tier_store.specs.Seen.{seen}
use Rattle.store_reports.specs.Status.{Gathers, Writes}
use Rattle.store_reports.proofs.Summing.{cause_ended, held_text, keeps_ended, reports_ended}
use Rattle.store_reports.proofs.summary.status.Goals as goal

pub returns-clause-reports : goal.returns-clause-reports
returns-clause-reports g c =
    let a = g.K.Sink.written c.args.sink.now in
    let b = g.K.Sink.written c.write_rows-told.new.sink in
    let d = g.K.Sink.written c.ended.new.sink in
    let told = c.write_rows-told.result in
    let r = c.ended.result in
    reports_ended g.D.Disk.tells (seen g.D.Disk c.args.store.now) (g.K.Sink.write_faults c.write_rows-told.new.sink) (g.K.Sink.write_faults c.ended.new.sink) told r (Gathers a b c.write_rows-told.new.buffer told) (Writes a d r) c.ended.ensures.ends (λ text. c.ended.ensures.writes a text)
    (c.write_rows-told.ensures.told c.new-buffer.ensures)

pub returns-clause-held : goal.returns-clause-held
returns-clause-held g c held has stands told = held_text g.D.Disk.tells (seen g.D.Disk c.args.store.now) held has stands told (g.K.Sink.written c.args.sink.now) (g.K.Sink.written c.ended.new.sink) c.ended.result (returns-clause-reports g c)

pub returns-clause-stores : goal.returns-clause-stores
returns-clause-stores g c =
    let before = g.K.Sink.write_faults c.write_rows-told.new.sink in
    let now = g.K.Sink.write_faults c.ended.new.sink in
    keeps_ended g.D.Disk c.args.store.now c.write_rows-told.new.store before now c.write_rows-told.result c.ended.result c.ended.ensures.ends c.write_rows-told.ensures.stores

pub returns-clause-cause : goal.returns-clause-cause
returns-clause-cause g c =
    let first = g.K.Sink.write_faults c.args.sink.now in
    let before = g.K.Sink.write_faults c.write_rows-told.new.sink in
    let now = g.K.Sink.write_faults c.ended.new.sink in
    cause_ended first before now c.write_rows-told.result c.ended.result c.write_rows-told.ensures.faults c.ended.ensures.faults c.ended.ensures.ends c.write_rows-told.ensures.cause
