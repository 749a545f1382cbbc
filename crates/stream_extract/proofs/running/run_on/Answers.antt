use Rattle.std.proofs.Common.{refl, inl, sym, subst, ◌++◌}
use Rattle.pb_lines.specs.Reader.{Chunks}
use Rattle.pb_lines.specs.Run.{HoldsRun}
use Rattle.stream_extract.proofs.Runs.{runs, sends_none, text_long}
use Rattle.stream_extract.proofs.running.run_on.Goals as goal

pub returns-then-not-rises-clause-ok : goal.returns-then-not-rises-clause-ok
returns-then-not-rises-clause-ok g c = (c.args.out.now.items, inl (refl, refl, refl), sends_none (g.K.Sink.written c.args.sink.now) c.args.out.now.items)

pub returns-in_default-clause-ok : goal.returns-in_default-clause-ok
returns-in_default-clause-ok g c = (c.args.out.now.items, inl (refl, refl, refl), sends_none (g.K.Sink.written c.args.sink.now) c.args.out.now.items)

pub returns-in_default-find_run-clause-ok : goal.returns-in_default-find_run-clause-ok
returns-in_default-find_run-clause-ok g c = (c.args.out.now.items, inl (c.find_run.ensures.same, refl, refl), sends_none (g.K.Sink.written c.args.sink.now) c.args.out.now.items)

pub run_text-text-requires : goal.run_text-text-requires
run_text-text-requires g c =
    let P : Chunks → Type 0 = λ r. HoldsRun r c.in-Some.last c.in-Some.to c.in-Some-find_run.run' in
    (subst P (sym c.find_run.ensures.same) c.in-Some-find_run.ensures.run).is.within

pub take_samples-requires : goal.take_samples-requires
take_samples-requires g c =
    let P : Chunks → Type 0 = λ r. HoldsRun r c.in-Some.last c.in-Some.to c.in-Some-find_run.run' in
    text_long c.find_run.new.self c.in-Some.last c.in-Some.to c.in-Some-find_run.run' c.run_text-text.result.now (subst P (sym c.find_run.ensures.same) c.in-Some-find_run.ensures.run) c.run_text-text.ensures

pub take_run-requires : goal.take_run-requires
take_run-requires g c =
    let P : Chunks → Type 0 = λ r. HoldsRun r c.in-Some.last c.in-Some.to c.in-Some-find_run.run' in
    (c.in-Some.last, c.in-Some.to, subst P (sym c.find_run.ensures.same) c.in-Some-find_run.ensures.run)

pub returns-in-Ok-sent-clause-ok : goal.returns-in-Ok-sent-clause-ok
returns-in-Ok-sent-clause-ok g c =
    let total = c.take_samples.new.out.items ++ c.in-Ok.lines.now in
    (total, runs c.args.reader.now c.find_run.new.self c.take_run.new.self c.args.answer.now c.take_samples.new.self c.in-Some.last c.in-Some.to c.in-Some-find_run.run' c.run_text-text.result.now c.args.out.now.items total c.in-Some.ensures.some c.in-Some-find_run.ensures.run c.find_run.ensures.same c.run_text-text.ensures c.in-Ok.ensures.ok c.take_samples.ensures.query c.take_run.ensures.takes c.take_run.ensures.passes, c.in-Ok-sent.ensures.ok)

pub returns-in-Err-clause-fault : goal.returns-in-Err-clause-fault
returns-in-Err-clause-fault g c = λ _.
    let total = c.take_samples.new.out.items ++ c.in-Ok.lines.now in
    (total, runs c.args.reader.now c.find_run.new.self c.take_run.new.self c.args.answer.now c.take_samples.new.self c.in-Some.last c.in-Some.to c.in-Some-find_run.run' c.run_text-text.result.now c.args.out.now.items total c.in-Some.ensures.some c.in-Some-find_run.ensures.run c.find_run.ensures.same c.run_text-text.ensures c.in-Ok.ensures.ok c.take_samples.ensures.query c.take_run.ensures.takes c.take_run.ensures.passes, c.in-Err.ensures.front)
