use Rattle.std.proofs.Common.{subst}
use Rattle.store_reports.specs.Telling.{Tells}
use Rattle.store_reports.proofs.Telling.{told_front}
use Rattle.store_reports.proofs.inspection.ended.Goals as goal

pub returns-in-Err-finish-clause-checks : goal.returns-in-Err-finish-clause-checks
returns-in-Err-finish-clause-checks g c tells rows files es a told =
    let b = g.K.Sink.written c.args.sink.now in
    let all = subst (λ t. Tells tells rows files es a b c.args.report.buffer c.args.report.first t) c.in-Ok.is told in
    told_front tells rows files es a b (g.K.Sink.written c.finish.new.sink) c.args.report.buffer c.args.report.first all c.finish.ensures.front
