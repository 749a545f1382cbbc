use Rattle.std.proofs.Common.{◌≡◌, ◌++◌, List, [], ℕ, rules, subst, None, Some}
use Rattle.std.specs.Io.KnownBytes.{Appends}
use Rattle.edge_io.specs.Stream.{AppendsFront, Rose}
use Rattle.series_model.specs.declared.sample.Sample.{Sample}
use Rattle.act_model.specs.Out.{Subject}
use Rattle.retrieval_query.specs.Pinning.{AnswersPinned, subject_of}
use Rattle.retrieval_query.specs.Writing as raw_text
use Rattle.retrieval_query.specs.declared.raw.RawOut.{RawOut}
use Rattle.service.specs.Data.{BreaksText, FinishesText}
use Rattle.service.specs.declared.format.Format.TheVariants.{Raw}
use Rattle.service.proofs.Answering.{answers_as, of_writes}
use Rattle.service.proofs.Binned.{raw_finishes, raw_breaks, some_told, told_as}
use Rattle.service.proofs.text.give_raw.Goals as goal

pub returns-in-None-clause-answers : goal.returns-in-None-clause-answers
returns-in-None-clause-answers g c =
    let A = g.A.Actor in
    let R = g.A.Reader.ReadAt in
    let written = g.S.Sink.written in
    let count = g.S.Sink.write_faults in
    let start = c.args.sink.now in
    let v = c.args.variable in
    let out = c.new-out.result in
    let last = c.read_pinned-end.new.out in
    let end = c.read_pinned-end.result in
    let says = c.read_pinned-end.ensures.answers in
    let finished : RawOut g.row.S.Denot → Subject → List Sample → RawOut g.row.S.Denot → Type 0 = λ o s xs n. (n.sink.ghost_name ≡ o.sink.ghost_name) × raw_text.Finishes (written o.sink.now) (written n.sink.now) o.buffer n.buffer s xs in
    let broke : RawOut g.row.S.Denot → Subject → List Sample → RawOut g.row.S.Denot → Type 0 = λ o s xs n. (n.sink.ghost_name ≡ o.sink.ghost_name) × raw_text.Breaks (written o.sink.now) (written n.sink.now) o.buffer s xs in
    let same : last.sink.ghost_name ≡ out.sink.ghost_name = of_writes finished broke out last (subject_of v c.args.query) says.some.given end (λ w. w.0) (λ w. w.0) says.some.writes in
    let a = written out.sink.now in
    let b = written last.sink.now in
    let done : AnswersPinned A.number A.between A.is_spent A.stands R.tells R.faults (FinishesText (Raw None)) (BreaksText (Raw None)) (Rose (count start) (count last.sink.now)) c.args.actor.now v c.args.query (written start) end c.read_pinned-end.new.actor b =
    rw (← c.new-out.ensures.sink)
    (answers_as A.number A.between A.is_spent A.stands R.tells R.faults finished broke (FinishesText (Raw None)) (BreaksText (Raw None)) (Rose (count out.sink.now) (count last.sink.now)) c.args.actor.now c.read_pinned-end.new.actor v c.args.query out last a b end
    (λ xs w. (w.1.text, w.1.raw, subst (λ (l : List ℕ). Appends a b (l ++ w.1.text)) c.new-out.ensures.gathered w.1.all))
    (λ xs w. (w.1.text, w.1.raw, subst (λ (l : List ℕ). AppendsFront a b (l ++ w.1.text)) c.new-out.ensures.gathered w.1.front))
    says) in
    rw c.in-None.is (search (rules, same, done))

pub returns-in-Some-clause-answers : goal.returns-in-Some-clause-answers
returns-in-Some-clause-answers g c =
    let A = g.A.Actor in
    let R = g.A.Reader.ReadAt in
    let written = g.S.Sink.written in
    let count = g.S.Sink.write_faults in
    let start = c.args.sink.now in
    let v = c.args.variable in
    let op = c.in-Some.op in
    let out = c.new-out-in-Some.result in
    let last = c.read_pinned-end-in-Some.new.out in
    let end = c.read_pinned-end-in-Some.result in
    let says = c.read_pinned-end-in-Some.ensures.answers in
    let same : last.inner.sink.ghost_name ≡ out.inner.sink.ghost_name = some_told says.some (λ xs w. w.0) (λ xs w. w.0) in
    let a = written out.inner.sink.now in
    let b = written last.inner.sink.now in
    let empty : out.inner.buffer ≡ [] = rw c.new-out-in-Some.ensures.inner c.new.ensures.gathered in
    let told : AnswersPinned A.number A.between A.is_spent A.stands R.tells R.faults (FinishesText (Raw (Some op))) (BreaksText (Raw (Some op))) (Rose (count out.inner.sink.now) (count last.inner.sink.now)) c.args.actor.now v c.args.query a end c.read_pinned-end-in-Some.new.actor b =
    told_as (FinishesText (Raw (Some op))) (BreaksText (Raw (Some op))) a b says
    (λ xs w. raw_finishes a b out.inner.buffer last.inner.buffer out.op op (subject_of v c.args.query) xs c.new-out-in-Some.ensures.op empty w.1)
    (λ xs w. raw_breaks a b out.inner.buffer last.inner.buffer out.op op (subject_of v c.args.query) xs c.new-out-in-Some.ensures.op empty w.1) in
    let sink : out.inner.sink.now ≡ start = rw c.new-out-in-Some.ensures.inner c.new.ensures.sink in
    let done = rw sink at told in
    rw c.in-Some.is (search (rules, same, done))
