use Rattle.std.proofs.Common.{◌≡◌, ◌∙◌, arith, ap, refl, sym, subst, List, ℕ, Some, None, Result, Vec, Global}
use Rattle.std.specs.Prelude.{OnErr, ◌++◌, ◌∷◌, [], if◌then◌else◌}
use Rattle.std.specs.declared.alloc.AllocError.{AllocError}
use Rattle.edge_io.specs.Stream.{AppendsFront}
use Rattle.pb_lines.specs.Reader.{Chunks, to_come, ReadsItem, ReadsLine, line_number}
use Rattle.pb_lines.specs.declared.reader.ChunkItem.TheVariants as it
use Rattle.pb_lines.proofs.Reading.{when_none}
use Rattle.command_words.specs.declared.status.Status.TheVariants.{Done, Refused, SourceFault, OutOfMemory}
use Rattle.series_model.specs.declared.sample.Sample.{Sample}
use Rattle.series_model.specs.Series.{taken}
use Rattle.series_model.specs.Retrieval.{answer}
use Rattle.stream_extract.specs.Extract.{lines_text, known}
use Rattle.stream_extract.specs.Answer.{Covers, Adds, Takes}
use Rattle.stream_extract.proofs.Runs.{ran, sent, still_going}
use Rattle.stream_extract.proofs.Progress.{Progress, nothing_written, on_ok, on_err, starts, read_from, skipped, headed, sampled, finished, writes_front, ended_early, ended_whole}
use Rattle.stream_extract.proofs.extracting.extract.Goals.{in-None, in-Some-Header, in-Some-Sample, in-Some-ChunkEnd}
use Rattle.stream_extract.proofs.extracting.extract.Goals as goal

-- src/extract.rt
pub returns-in_default-clause-text : goal.returns-in_default-clause-text
returns-in_default-clause-text g c =
    let left = g.S.Source.left in
    let written = g.K.Sink.written in
    let a = written c.args.sink.now in
    nothing_written c.args.query a (left c.args.source.now)

pub lines-init : goal.lines-init
lines-init g c =
    let left = g.S.Source.left c.args.source.now in
    record {
      progress = rw c.new-out.ensures.items (starts c.args.query (g.K.Sink.written c.args.sink.now) c.in-Ok.reader left c.new-answer.result c.in-Ok.ensures c.new-answer.ensures.query);
      going = ap (λ (r : Chunks). r.refused) c.in-Ok.ensures;
      read_faults = omega arith;
      write_faults = omega arith;
    }

pub returns-then-is_err-clause-text : goal.returns-then-is_err-clause-text
returns-then-is_err-clause-text g c =
    let left = g.S.Source.left in
    let written = g.K.Sink.written in
    let a = written c.args.sink.now in
    let b = written c.lines.sink in
    let b' = written c.before_read.new.sink in
    let mid = c.lines.reader in
    let front = on_err c.before_read.result (AppendsFront b b' c.lines.out.items) c.if-is_err.ensures.value c.before_read.ensures.front in
    writes_front c.args.query a b b' c.in-Ok.reader mid (left c.args.source.now) (to_come mid (left c.lines.source)) c.lines.out.items c.lines.later c.lines.answer c.in-Ok.ensures c.lines.invariant.progress front

pub returns-in-Some-End-clause-text : goal.returns-in-Some-End-clause-text
returns-in-Some-End-clause-text g c =
    let p = read_from (g.K.Sink.written c.before_read.new.sink) c.before_read.new.out.items c.before_read.result c.lines.invariant.progress c.if-is_err.ensures.value c.before_read.ensures.ok in
    let mid = c.lines.reader in
    let new = c.read_line.new.self in
    let left = g.S.Source.left in
    let read = when_none mid.refused (ReadsItem mid new (to_come mid (left c.lines.source)) (to_come new (left c.read_line.new.source)) it.End) c.lines.invariant.going (rw c.in-Some-End.field-0-is at c.in-Some-End.ensures.item) in
    ended_whole c.in-Ok.ensures p (g.K.Sink.written c.ended.new.sink) _ c.deref.ensures.value c.ended.ensures.front Done c.ended.result c.ended.ensures.status None read.2 c.ended.ensures.all (λ whole. whole)

pub returns-in-Some-Refused-clause-text : goal.returns-in-Some-Refused-clause-text
returns-in-Some-Refused-clause-text g c =
    let p = read_from (g.K.Sink.written c.before_read.new.sink) c.before_read.new.out.items c.before_read.result c.lines.invariant.progress c.if-is_err.ensures.value c.before_read.ensures.ok in
    let mid = c.lines.reader in
    let new = c.read_line.new.self in
    let left = g.S.Source.left in
    let middle = to_come mid (left c.lines.source) in
    let fault = c.in-Some-Refused.fault in
    let line = line_number new in
    let read = when_none mid.refused (ReadsItem mid new middle (to_come new (left c.read_line.new.source)) (it.Refused fault)) c.lines.invariant.going (rw c.in-Some-Refused.field-0-is at c.in-Some-Refused.ensures.item) in
    ended_whole c.in-Ok.ensures p (g.K.Sink.written c.ended-in-Some-Refused.new.sink) _ c.deref-in-Some-Refused.ensures.value c.ended-in-Some-Refused.ensures.front (Refused line fault) c.ended-in-Some-Refused.result (rw c.refused.ensures at c.ended-in-Some-Refused.ensures.status)
    (Some (line, fault)) read.1 (rw c.refused.ensures at c.ended-in-Some-Refused.ensures.all) (λ whole. whole)

pub returns-in-Some-SourceFault-clause-text : goal.returns-in-Some-SourceFault-clause-text
returns-in-Some-SourceFault-clause-text g c =
    let p = read_from (g.K.Sink.written c.before_read.new.sink) c.before_read.new.out.items c.before_read.result c.lines.invariant.progress c.if-is_err.ensures.value c.before_read.ensures.ok in
    ended_early c.in-Ok.ensures p (g.K.Sink.written c.ended-in-Some-SourceFault.new.sink) _ c.deref-in-Some-SourceFault.ensures.value c.ended-in-Some-SourceFault.ensures.front SourceFault c.ended-in-Some-SourceFault.result c.ended-in-Some-SourceFault.ensures.status (λ front. front)

pub returns-in-Some-Memory-clause-text : goal.returns-in-Some-Memory-clause-text
returns-in-Some-Memory-clause-text g c =
    let p = read_from (g.K.Sink.written c.before_read.new.sink) c.before_read.new.out.items c.before_read.result c.lines.invariant.progress c.if-is_err.ensures.value c.before_read.ensures.ok in
    ended_early c.in-Ok.ensures p (g.K.Sink.written c.ended-in-Some-Memory.new.sink) _ c.deref-in-Some-Memory.ensures.value c.ended-in-Some-Memory.ensures.front OutOfMemory c.ended-in-Some-Memory.result c.ended-in-Some-Memory.ensures.status (λ front. front)

pub returns-then-is_err-2-clause-text : goal.returns-then-is_err-2-clause-text
returns-then-is_err-2-clause-text g c =
    let p = read_from (g.K.Sink.written c.before_read.new.sink) c.before_read.new.out.items c.before_read.result c.lines.invariant.progress c.if-is_err.ensures.value c.before_read.ensures.ok in
    let gathered = c.before_read.new.out.items in
    let kept : (r : Result (Unit {0}) AllocError) (out : Vec ℕ Global) → c.match-read_line.out ≡ out → c.match-read_line.done ≡ r → OnErr r (out.items ≡ gathered) → c.match-read_line.out.items ≡ gathered = λ r out is done err.
    ap (λ (out : Vec ℕ Global). out.items) is ∙ on_err r (out.items ≡ gathered) (rw done at c.if-is_err-2.ensures.value) err in
    let same : c.match-read_line.out.items ≡ gathered = elim c.match-read_line.branch [
      | in-None w ↦ ap (λ (out : Vec ℕ Global). out.items) w.out-is
      | in-Some-Header w ↦ kept w.add_header-done.result w.add_header-done.new.out w.out-is w.done-is w.add_header-done.ensures.err
      | in-Some-Sample w ↦ kept w.take-done.result w.take-done.new.out w.out-is w.done-is w.take-done.ensures.err
      | in-Some-ChunkEnd w ↦ kept w.finish-done.result w.finish-done.new.out w.out-is w.done-is w.finish-done.ensures.err
    ] in
    ended_early c.in-Ok.ensures p (g.K.Sink.written c.ended-then-is_err-2.new.sink) _ (c.deref-then-is_err-2.ensures.value ∙ same) c.ended-then-is_err-2.ensures.front OutOfMemory c.ended-then-is_err-2.result c.ended-then-is_err-2.ensures.status (λ front. front)

pub returns-in-Err-SinkFault-clause-text : goal.returns-in-Err-SinkFault-clause-text
returns-in-Err-SinkFault-clause-text g c =
    let left = g.S.Source.left in
    let written = g.K.Sink.written in
    let q = c.args.query in
    let a = written c.args.sink.now in
    let b = written c.before_read.new.sink in
    let first = c.in-Ok.reader in
    let mid = c.lines.reader in
    let all = left c.args.source.now in
    let middle = to_come mid (left c.lines.source) in
    let gathered = c.before_read.new.out.items in
    let p = read_from b gathered c.before_read.result c.lines.invariant.progress c.if-is_err.ensures.value c.before_read.ensures.ok in
    let new = c.read_line.new.self in
    let after = to_come new (left c.read_line.new.source) in
    let going = c.lines.invariant.going in
    let last = c.run_on.new.reader in
    let joined = c.match-read_line.answer in
    let read : Progress q a b first new all after c.match-read_line.out.items c.match-read_line.later joined = elim c.match-read_line.branch [
      | in-None w ↦
          let read = when_none mid.refused (ReadsLine mid new middle after None) going w.in-None.ensures.item in
          rw (w.answer-is, w.out-is, w.later-is) (skipped q a b first mid new all middle after gathered c.lines.later c.lines.answer p read)
      | in-Some-Header w ↦
          let read = when_none mid.refused (ReadsItem mid new middle after it.Header) going (rw w.in-Some-Header.field-0-is at w.in-Some-Header.ensures.item) in
          let added = on_ok w.add_header-done.result (w.add_header-done.new.out.items ≡ gathered ++ ((if c.lines.later then 10 ∷ [] else []) ++ (new.lines.line ++ 10 ∷ []))) (rw w.done-is at c.if-is_err-2.ensures.value) (rw w.line.ensures at w.add_header-done.ensures.ok) in
          rw (w.answer-is, w.out-is, w.later-is) (headed q a b first mid new all middle after gathered w.add_header-done.new.out.items c.lines.later c.lines.answer w.begin.new.self p read w.begin.ensures.covers w.begin.ensures.query added)
      | in-Some-Sample w ↦
          let read = when_none mid.refused (ReadsItem mid new middle after (it.Sample w.in-Some-Sample.t)) going (rw w.in-Some-Sample.field-0-is at w.in-Some-Sample.ensures.item) in
          let x : Sample = record { t = w.in-Some-Sample.t; line = new.lines.line } in
          let taken = on_ok w.take-done.result (Takes c.lines.answer w.take-done.new.self x gathered w.take-done.new.out.items) (rw w.done-is at c.if-is_err-2.ensures.value) (rw w.line-in-Some-Sample.ensures at w.take-done.ensures.ok) in
          rw (w.answer-is, w.out-is, w.later-is) (sampled q a b first mid new all middle after gathered w.take-done.new.out.items c.lines.later c.lines.answer w.take-done.new.self w.in-Some-Sample.t p read taken w.take-done.ensures.query)
      | in-Some-ChunkEnd w ↦
          let read = when_none mid.refused (ReadsItem mid new middle after it.ChunkEnd) going (rw w.in-Some-ChunkEnd.field-0-is at w.in-Some-ChunkEnd.ensures.item) in
          let Given : Type 0 = (xs : List Sample) → Covers c.lines.answer xs → Adds (lines_text (known c.lines.answer.query xs)) (lines_text (answer (taken xs) c.lines.answer.query)) gathered w.finish-done.new.out.items in
          let given = on_ok w.finish-done.result Given (rw w.done-is at c.if-is_err-2.ensures.value) w.finish-done.ensures.ok in
          rw (w.answer-is, w.out-is, w.later-is) (finished q a b first mid new all middle after gathered w.finish-done.new.out.items c.lines.later c.lines.answer w.finish-done.new.self p read given w.finish-done.ensures.query)
    ] in
    let f = c.in-Err-SinkFault.ensures.fault (rw c.in-Err-SinkFault.field-0-is refl) in
    writes_front q a b (written c.run_on.new.sink) first last all (to_come last (left c.read_line.new.source)) f.0 c.match-read_line.later c.run_on.new.answer c.in-Ok.ensures
    (ran q a b first new last all (left c.read_line.new.source) c.match-read_line.out.items f.0 c.match-read_line.later joined c.run_on.new.answer read f.1) f.2

pub returns-in-Err-Memory-clause-text : goal.returns-in-Err-Memory-clause-text
returns-in-Err-Memory-clause-text g c =
    let left = g.S.Source.left in
    let written = g.K.Sink.written in
    let q = c.args.query in
    let a = written c.args.sink.now in
    let b = written c.before_read.new.sink in
    let first = c.in-Ok.reader in
    let mid = c.lines.reader in
    let all = left c.args.source.now in
    let middle = to_come mid (left c.lines.source) in
    let gathered = c.before_read.new.out.items in
    let p = read_from b gathered c.before_read.result c.lines.invariant.progress c.if-is_err.ensures.value c.before_read.ensures.ok in
    let new = c.read_line.new.self in
    let after = to_come new (left c.read_line.new.source) in
    let going = c.lines.invariant.going in
    let joined = c.match-read_line.answer in
    let read : Progress q a b first new all after c.match-read_line.out.items c.match-read_line.later joined = elim c.match-read_line.branch [
      | in-None w ↦
          let read = when_none mid.refused (ReadsLine mid new middle after None) going w.in-None.ensures.item in
          rw (w.answer-is, w.out-is, w.later-is) (skipped q a b first mid new all middle after gathered c.lines.later c.lines.answer p read)
      | in-Some-Header w ↦
          let read = when_none mid.refused (ReadsItem mid new middle after it.Header) going (rw w.in-Some-Header.field-0-is at w.in-Some-Header.ensures.item) in
          let added = on_ok w.add_header-done.result (w.add_header-done.new.out.items ≡ gathered ++ ((if c.lines.later then 10 ∷ [] else []) ++ (new.lines.line ++ 10 ∷ []))) (rw w.done-is at c.if-is_err-2.ensures.value) (rw w.line.ensures at w.add_header-done.ensures.ok) in
          rw (w.answer-is, w.out-is, w.later-is) (headed q a b first mid new all middle after gathered w.add_header-done.new.out.items c.lines.later c.lines.answer w.begin.new.self p read w.begin.ensures.covers w.begin.ensures.query added)
      | in-Some-Sample w ↦
          let read = when_none mid.refused (ReadsItem mid new middle after (it.Sample w.in-Some-Sample.t)) going (rw w.in-Some-Sample.field-0-is at w.in-Some-Sample.ensures.item) in
          let x : Sample = record { t = w.in-Some-Sample.t; line = new.lines.line } in
          let taken = on_ok w.take-done.result (Takes c.lines.answer w.take-done.new.self x gathered w.take-done.new.out.items) (rw w.done-is at c.if-is_err-2.ensures.value) (rw w.line-in-Some-Sample.ensures at w.take-done.ensures.ok) in
          rw (w.answer-is, w.out-is, w.later-is) (sampled q a b first mid new all middle after gathered w.take-done.new.out.items c.lines.later c.lines.answer w.take-done.new.self w.in-Some-Sample.t p read taken w.take-done.ensures.query)
      | in-Some-ChunkEnd w ↦
          let read = when_none mid.refused (ReadsItem mid new middle after it.ChunkEnd) going (rw w.in-Some-ChunkEnd.field-0-is at w.in-Some-ChunkEnd.ensures.item) in
          let Given : Type 0 = (xs : List Sample) → Covers c.lines.answer xs → Adds (lines_text (known c.lines.answer.query xs)) (lines_text (answer (taken xs) c.lines.answer.query)) gathered w.finish-done.new.out.items in
          let given = on_ok w.finish-done.result Given (rw w.done-is at c.if-is_err-2.ensures.value) w.finish-done.ensures.ok in
          rw (w.answer-is, w.out-is, w.later-is) (finished q a b first mid new all middle after gathered w.finish-done.new.out.items c.lines.later c.lines.answer w.finish-done.new.self p read given w.finish-done.ensures.query)
    ] in
    let kept = c.in-Err-Memory.ensures.memory (rw c.in-Err-Memory.field-0-is refl) in
    let still = subst (λ s. Progress q a (written s) first new all after c.match-read_line.out.items c.match-read_line.later joined) (sym kept.1) read in
    ended_early c.in-Ok.ensures still (written c.ended-in-Err-Memory.new.sink) _ (c.deref-in-Err-Memory.ensures.value ∙ kept.0) c.ended-in-Err-Memory.ensures.front OutOfMemory c.ended-in-Err-Memory.result c.ended-in-Err-Memory.ensures.status (λ front. front)

pub lines-preserved : goal.lines-preserved
lines-preserved g c =
    let left = g.S.Source.left in
    let written = g.K.Sink.written in
    let q = c.args.query in
    let a = written c.args.sink.now in
    let b = written c.before_read.new.sink in
    let first = c.in-Ok.reader in
    let mid = c.lines.reader in
    let all = left c.args.source.now in
    let middle = to_come mid (left c.lines.source) in
    let gathered = c.before_read.new.out.items in
    let p = read_from b gathered c.before_read.result c.lines.invariant.progress c.if-is_err.ensures.value c.before_read.ensures.ok in
    let new = c.read_line.new.self in
    let after = to_come new (left c.read_line.new.source) in
    let going = c.lines.invariant.going in
    let ok = c.in-Ok-run_on.ensures.ok in
    let last = c.run_on.new.reader in
    let joined = c.match-read_line.answer in
    let read : Progress q a b first new all after c.match-read_line.out.items c.match-read_line.later joined = elim c.match-read_line.branch [
      | in-None w ↦
          let read = when_none mid.refused (ReadsLine mid new middle after None) going w.in-None.ensures.item in
          rw (w.answer-is, w.out-is, w.later-is) (skipped q a b first mid new all middle after gathered c.lines.later c.lines.answer p read)
      | in-Some-Header w ↦
          let read = when_none mid.refused (ReadsItem mid new middle after it.Header) going (rw w.in-Some-Header.field-0-is at w.in-Some-Header.ensures.item) in
          let added = on_ok w.add_header-done.result (w.add_header-done.new.out.items ≡ gathered ++ ((if c.lines.later then 10 ∷ [] else []) ++ (new.lines.line ++ 10 ∷ []))) (rw w.done-is at c.if-is_err-2.ensures.value) (rw w.line.ensures at w.add_header-done.ensures.ok) in
          rw (w.answer-is, w.out-is, w.later-is) (headed q a b first mid new all middle after gathered w.add_header-done.new.out.items c.lines.later c.lines.answer w.begin.new.self p read w.begin.ensures.covers w.begin.ensures.query added)
      | in-Some-Sample w ↦
          let read = when_none mid.refused (ReadsItem mid new middle after (it.Sample w.in-Some-Sample.t)) going (rw w.in-Some-Sample.field-0-is at w.in-Some-Sample.ensures.item) in
          let x : Sample = record { t = w.in-Some-Sample.t; line = new.lines.line } in
          let taken = on_ok w.take-done.result (Takes c.lines.answer w.take-done.new.self x gathered w.take-done.new.out.items) (rw w.done-is at c.if-is_err-2.ensures.value) (rw w.line-in-Some-Sample.ensures at w.take-done.ensures.ok) in
          rw (w.answer-is, w.out-is, w.later-is) (sampled q a b first mid new all middle after gathered w.take-done.new.out.items c.lines.later c.lines.answer w.take-done.new.self w.in-Some-Sample.t p read taken w.take-done.ensures.query)
      | in-Some-ChunkEnd w ↦
          let read = when_none mid.refused (ReadsItem mid new middle after it.ChunkEnd) going (rw w.in-Some-ChunkEnd.field-0-is at w.in-Some-ChunkEnd.ensures.item) in
          let Given : Type 0 = (xs : List Sample) → Covers c.lines.answer xs → Adds (lines_text (known c.lines.answer.query xs)) (lines_text (answer (taken xs) c.lines.answer.query)) gathered w.finish-done.new.out.items in
          let given = on_ok w.finish-done.result Given (rw w.done-is at c.if-is_err-2.ensures.value) w.finish-done.ensures.ok in
          rw (w.answer-is, w.out-is, w.later-is) (finished q a b first mid new all middle after gathered w.finish-done.new.out.items c.lines.later c.lines.answer w.finish-done.new.self p read given w.finish-done.ensures.query)
    ] in
    record {
      progress = sent q a b (written c.run_on.new.sink) first last all (to_come last (left c.read_line.new.source)) ok.0 c.run_on.new.out.items c.match-read_line.later c.run_on.new.answer (ran q a b first new last all (left c.read_line.new.source) c.match-read_line.out.items ok.0 c.match-read_line.later joined c.run_on.new.answer read ok.1) ok.2;
      going = still_going new last joined c.run_on.new.answer c.match-read_line.out.items ok.0 ok.1 (elim c.match-read_line.branch [
        | in-None w ↦ (when_none mid.refused (ReadsLine mid new middle after None) going w.in-None.ensures.item).2
        | in-Some-Header w ↦ (when_none mid.refused (ReadsItem mid new middle after it.Header) going (rw w.in-Some-Header.field-0-is at w.in-Some-Header.ensures.item)).3
        | in-Some-Sample w ↦ (when_none mid.refused (ReadsItem mid new middle after (it.Sample w.in-Some-Sample.t)) going (rw w.in-Some-Sample.field-0-is at w.in-Some-Sample.ensures.item)).2
        | in-Some-ChunkEnd w ↦ (when_none mid.refused (ReadsItem mid new middle after it.ChunkEnd) going (rw w.in-Some-ChunkEnd.field-0-is at w.in-Some-ChunkEnd.ensures.item)).2
      ]);
      read_faults = omega (arith, c.lines.invariant.read_faults, c.read_line.ensures.faults);
      write_faults = omega (arith, c.lines.invariant.write_faults, c.before_read.ensures.faults, c.in-Ok-run_on.ensures.faults);
    }
