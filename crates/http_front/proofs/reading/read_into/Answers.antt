use Rattle.std.proofs.Common.{◌+◌, take, refl, sym, ◌∙◌, subst, arith, rules}
use Rattle.std.specs.List.{slice_range}
use Rattle.std.specs.Io.KnownBytes.{IsAtEnd}
use Rattle.std.proofs.KnownBytes.{Consumes-nil}
use Rattle.std.proofs.lemmas.List.{length-take}
use Rattle.http_front.specs.Reading.{HasNoLine, AnswersHead}
use Rattle.http_front.proofs.ReadLemmas.{judged_so, taken_more}
use Rattle.http_front.proofs.Waiting.{still, waits_first, waits_on, no_line_from, brought}
use Rattle.http_front.proofs.reading.read_into.Goals as goal

pub returns-in-Some-clause-read : goal.returns-in-Some-clause-read
returns-in-Some-clause-read g c =
    let left = g.S.Source.left in
    let read = c.in-Ok.ensures.read in
    let taken = take (c.reads.len + c.in-Ok.more) c.read_behind.new.bytes in
    record {
      taken = taken;
      most = omega (arith, length-take (c.reads.len + c.in-Ok.more) c.read_behind.new.bytes, c.in-Ok.ensures.bound);
      consumes = taken_more (left c.args.source.now) (left c.reads.source) (left c.read_behind.new.source) c.reads.bytes c.read_behind.new.bytes read.0 c.reads.len c.in-Ok.more c.reads.invariant.taken read.1 read.2;
      judges = judged_so taken _ (IsAtEnd (left c.read_behind.new.source)) c.in-Some.answer (λ e. read.3 (c.due_after-due.ensures.end e)) c.in-Some.ensures.some;
    }

pub returns-in-Some-clause-failed : goal.returns-in-Some-clause-failed
returns-in-Some-clause-failed g c = λ e. absurd (c.in-Some.ensures.unfailed e)

pub returns-in-Some-clause-memory : goal.returns-in-Some-clause-memory
returns-in-Some-clause-memory g c =
    let left = g.S.Source.left in
    let read = c.in-Ok.ensures.read in
    let taken = take (c.reads.len + c.in-Ok.more) c.read_behind.new.bytes in
    λ e. record {
      taken = taken;
      consumes = taken_more (left c.args.source.now) (left c.reads.source) (left c.read_behind.new.source) c.reads.bytes c.read_behind.new.bytes read.0 c.reads.len c.in-Ok.more c.reads.invariant.taken read.1 read.2;
      answers = subst (AnswersHead taken) e (c.in-Some.ensures.memory e);
    }

pub reads-init : goal.reads-init
reads-init g c = record {
  size = c.requires.bytes;
  within = omega arith;
  waits = waits_first;
  taken = Consumes-nil (g.S.Source.left c.args.source.now);
  faults = omega arith;
  beside = refl;
}

pub reads-preserved : goal.reads-preserved
reads-preserved g c =
    let left = g.S.Source.left in
    let read = c.in-Ok.ensures.read in
    let all = take (c.reads.len + c.in-Ok.more) c.read_behind.new.bytes in
    let due = c.due_after-due.ensures in
    let on = still c.due_after-due.result all _ c.in-None.ensures.none (λ e. (due.nothing e).2) (λ e. (due.look e).1) in
    let same = brought c.reads.bytes c.read_behind.new.bytes read.0 c.reads.len c.in-Ok.more (omega (arith, c.reads.invariant.size, c.reads.invariant.within)) read.1 in
    record {
      size = search rules;
      within = omega (arith, on, c.in-Ok.ensures.bound);
      waits = waits_on c.due_after-due.result (take c.reads.len c.reads.bytes) read.0 all c.contains-is_line.result read.1 c.reads.invariant.waits c.in-None.ensures.none (λ e. (due.nothing e).0) (λ none. subst HasNoLine same (no_line_from (slice_range c.read_behind.new.bytes c.reads.len (c.reads.len + c.in-Ok.more)) (sym c.contains-is_line.ensures.value ∙ none)));
      taken = taken_more (left c.args.source.now) (left c.reads.source) (left c.read_behind.new.source) c.reads.bytes c.read_behind.new.bytes read.0 c.reads.len c.in-Ok.more c.reads.invariant.taken read.1 read.2;
      faults = search rules;
      beside = c.in-Ok.ensures.beside ∙ c.reads.invariant.beside;
    }
