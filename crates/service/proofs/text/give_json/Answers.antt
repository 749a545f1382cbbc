use Rattle.std.proofs.Common.{◌≡◌, ◌++◌, List, [], ℕ, refl, rules, subst, None, Some}
use Rattle.std.specs.Io.KnownBytes.{Appends}
use Rattle.edge_io.specs.Stream.{AppendsFront, Rose}
use Rattle.json_out.specs.Json.{json}
use Rattle.json_out.specs.Writing as json_text
use Rattle.json_out.specs.declared.output.JsonOut.{JsonOut}
use Rattle.series_model.specs.declared.sample.Sample.{Sample}
use Rattle.act_model.specs.Out.{Subject}
use Rattle.retrieval_query.specs.Pinning.{AnswersPinned, subject_of}
use Rattle.service.specs.Data.{BreaksText, FinishesText}
use Rattle.service.specs.declared.format.Format.TheVariants.{Json}
use Rattle.service.proofs.Answering.{answers_as, of_writes}
use Rattle.service.proofs.Binned.{json_finishes, json_breaks, some_told, told_as}
use Rattle.service.proofs.text.give_json.Goals as goal

pub returns-in-None-clause-answers : goal.returns-in-None-clause-answers
returns-in-None-clause-answers g c =
    let A = g.A.Actor in
    let R = g.A.Reader.ReadAt in
    let written = g.S.Sink.written in
    let count = g.S.Sink.write_faults in
    let start = c.args.sink.now in
    let v = c.args.variable in
    let out = c.new-out.result in
    let last = c.read_pinned-end.new.out in
    let end = c.read_pinned-end.result in
    let says = c.read_pinned-end.ensures.answers in
    let finished : JsonOut g.row.S.Denot → Subject → List Sample → JsonOut g.row.S.Denot → Type 0 = λ o s xs n. (n.sink.ghost_name ≡ o.sink.ghost_name) × json_text.Finishes (written o.sink.now) (written n.sink.now) o.buffer n.buffer s xs in
    let broke : JsonOut g.row.S.Denot → Subject → List Sample → JsonOut g.row.S.Denot → Type 0 = λ o s xs n. (n.sink.ghost_name ≡ o.sink.ghost_name) × json_text.Breaks (written o.sink.now) (written n.sink.now) o.buffer s xs in
    let same : last.sink.ghost_name ≡ out.sink.ghost_name = of_writes finished broke out last (subject_of v c.args.query) says.some.given end (λ w. w.0) (λ w. w.0) says.some.writes in
    let a = written out.sink.now in
    let b = written last.sink.now in
    let done : AnswersPinned A.number A.between A.is_spent A.stands R.tells R.faults (FinishesText (Json None)) (BreaksText (Json None)) (Rose (count start) (count last.sink.now)) c.args.actor.now v c.args.query (written start) end c.read_pinned-end.new.actor b =
    rw (← c.new-out.ensures.sink)
    (answers_as A.number A.between A.is_spent A.stands R.tells R.faults finished broke (FinishesText (Json None)) (BreaksText (Json None)) (Rose (count out.sink.now) (count last.sink.now)) c.args.actor.now c.read_pinned-end.new.actor v c.args.query out last a b end
    (λ xs w. (json v.name v.about xs, refl, subst (λ (l : List ℕ). Appends a b (l ++ json v.name v.about xs)) c.new-out.ensures.gathered w.1.0))
    (λ xs w. (json v.name v.about xs, refl, subst (λ (l : List ℕ). AppendsFront a b (l ++ json v.name v.about xs)) c.new-out.ensures.gathered w.1))
    says) in
    rw c.in-None.is (search (rules, same, done))

pub returns-in-Some-clause-answers : goal.returns-in-Some-clause-answers
returns-in-Some-clause-answers g c =
    let A = g.A.Actor in
    let R = g.A.Reader.ReadAt in
    let written = g.S.Sink.written in
    let count = g.S.Sink.write_faults in
    let start = c.args.sink.now in
    let v = c.args.variable in
    let op = c.in-Some.op in
    let out = c.new-out-in-Some.result in
    let last = c.read_pinned-end-in-Some.new.out in
    let end = c.read_pinned-end-in-Some.result in
    let says = c.read_pinned-end-in-Some.ensures.answers in
    let same : last.inner.sink.ghost_name ≡ out.inner.sink.ghost_name = some_told says.some (λ xs w. w.0) (λ xs w. w.0) in
    let a = written out.inner.sink.now in
    let b = written last.inner.sink.now in
    let empty : out.inner.buffer ≡ [] = rw c.new-out-in-Some.ensures.inner c.new.ensures.gathered in
    let told : AnswersPinned A.number A.between A.is_spent A.stands R.tells R.faults (FinishesText (Json (Some op))) (BreaksText (Json (Some op))) (Rose (count out.inner.sink.now) (count last.inner.sink.now)) c.args.actor.now v c.args.query a end c.read_pinned-end-in-Some.new.actor b =
    told_as (FinishesText (Json (Some op))) (BreaksText (Json (Some op))) a b says
    (λ xs w. json_finishes a b out.inner.buffer last.inner.buffer out.op op (subject_of v c.args.query) xs c.new-out-in-Some.ensures.op empty w.1)
    (λ xs w. json_breaks a b out.inner.buffer last.inner.buffer out.op op (subject_of v c.args.query) xs c.new-out-in-Some.ensures.op empty w.1) in
    let sink : out.inner.sink.now ≡ start = rw c.new-out-in-Some.ensures.inner c.new.ensures.sink in
    let done = rw sink at told in
    rw c.in-Some.is (search (rules, same, done))
