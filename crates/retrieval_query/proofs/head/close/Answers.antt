use Rattle.std.proofs.Common.{sym, ◌∙◌, w32, to_z, of_z}
use Rattle.std.proofs.lemmas.Result.{on_ok_weaker, on_err_weaker}
use Rattle.retrieval_query.proofs.Sending.{here_is, some_here, none_last, closes_none, closes_none_front}
use Rattle.retrieval_query.proofs.Years.{nearest_back}
use Rattle.retrieval_query.proofs.head.close.Goals as goal

pub returns-clause-closes : goal.returns-clause-closes
returns-clause-closes g c subject last has =
    let a = g.K.Sink.written c.args.sink.now in
    let b = g.K.Sink.written c.open.new.sink in
    let head = c.in-Some.head in
    let here = some_here subject head last (here_is subject c.args.head.now head last c.in-Some.is has) in
    let none = none_last head.last last here.1 (sym c.is_some.ensures ∙ c.if-is_some.false) in
    on_ok_weaker c.open.result (λ o. closes_none a b c.args.buffer.now c.open.new.buffer subject last head.last (to_z w32 (of_z w32 head.info.year)) none here.1 (λ l. nearest_back head.info.year subject.query.from (here.2 l)) o) (c.open.ensures.opens subject here.0)

pub returns-clause-front : goal.returns-clause-front
returns-clause-front g c subject last has =
    let a = g.K.Sink.written c.args.sink.now in
    let b = g.K.Sink.written c.open.new.sink in
    let head = c.in-Some.head in
    let here = some_here subject head last (here_is subject c.args.head.now head last c.in-Some.is has) in
    let none = none_last head.last last here.1 (sym c.is_some.ensures ∙ c.if-is_some.false) in
    on_err_weaker c.open.result (λ o. closes_none_front a b c.args.buffer.now subject last head.last (to_z w32 (of_z w32 head.info.year)) none here.1 (λ l. nearest_back head.info.year subject.query.from (here.2 l)) o) (c.open.ensures.front subject here.0)
