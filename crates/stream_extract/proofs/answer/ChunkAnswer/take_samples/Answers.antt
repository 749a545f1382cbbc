use Rattle.std.proofs.Common.{refl, ap, arith}
use Rattle.stream_extract.specs.Answer.{Answering}
use Rattle.stream_extract.proofs.Answers.{follows_earlier, follows_within, follows_later}
use Rattle.stream_extract.proofs.answer.ChunkAnswer.take_samples.Goals as goal

pub returns-then-run-query-clause-ok : goal.returns-then-run-query-clause-ok
returns-then-run-query-clause-ok c = λ ys f.
    let from = ap (λ (v : Answering). v.query.from) c.self.view_is in
    follows_earlier c.args.self.now c.hold.new.self ys c.args.run.now.t c.args.run.now.last c.args.text.now c.last_line.result.now c.args.out.now.items c.args.out.now.items c.split_at.result.0.now f (omega (arith, c.if-run-query.true, from)) c.last_line.ensures c.in_ok-hold.ensures.ok refl c.split_at.ensures.front

pub returns-then-run-query-2-clause-ok : goal.returns-then-run-query-2-clause-ok
returns-then-run-query-2-clause-ok c = λ ys f.
    let from = ap (λ (v : Answering). v.query.from) c.self.view_is in
    let to = ap (λ (v : Answering). v.query.to) c.self.view_is in
    follows_within c.args.self.now c.reach.new.self ys c.args.run.now.t c.args.run.now.last c.args.text.now c.args.out.now.items c.reach.new.out.items c.args.text.now f (omega (arith, c.if-run-query.false, from)) (omega (arith, c.if-run-query-2.true, to)) c.in_ok-reach.ensures.ok c.in_ok-reach.ensures.out refl

pub returns-clause-ok : goal.returns-clause-ok
returns-clause-ok c = λ ys f.
    let from = ap (λ (v : Answering). v.query.from) c.self.view_is in
    let to = ap (λ (v : Answering). v.query.to) c.self.view_is in
    follows_later c.args.self.now c.reach.new.self ys c.args.run.now.t c.args.run.now.last c.args.text.now c.args.out.now.items c.reach.new.out.items c.split_at.result.0.now f (omega (arith, c.if-run-query.false, from)) (omega (arith, c.if-run-query-2.false, to)) c.in_ok-reach.ensures.ok c.in_ok-reach.ensures.out c.split_at.ensures.front
