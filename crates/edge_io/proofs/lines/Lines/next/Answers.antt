use Rattle.std.proofs.Common.{arith, refl, ◌∙◌, ◌≡◌}
use Rattle.std.proofs.KnownBytes.{Keeps-trans}
use Rattle.edge_io.specs.Lines.{ahead, Reads}
use Rattle.edge_io.proofs.Ahead.{held_answers, end_answers, wants_still, never_wants, Stays-trans, if_none}
use Rattle.edge_io.proofs.lines.Lines.next.Goals as goal

pub returns-in-Some-answer-clause-read : goal.returns-in-Some-answer-clause-read
returns-in-Some-answer-clause-read g c =
    let left = g.S.Source.left c.reads.source in
    let before = ahead c.args.self.now (g.S.Source.left c.args.source.now) in
    if_none c.args.self.now.stop (Reads c.args.self.now c.answer.new.self before (ahead c.answer.new.self left) c.in-Some-answer.answer) (
    held_answers c.args.self.now c.reads.self c.answer.new.self before left c.in-Some-answer.answer c.reads.invariant.kept c.reads.invariant.stays c.in-Some-answer.ensures.some
    )

pub reads-preserved : goal.reads-preserved
reads-preserved g c =
    let now = c.in_default-answer.ensures.none in
    let wants = now.1 in
    let left = g.S.Source.left in
    let filled = rw now.0 at c.in-More.ensures.filled in
    let stays = rw now.0 at c.in-More.ensures.stays in
    let stop = rw now.0 at c.in-More.ensures.stop in
    record {
      kept = Keeps-trans (ahead c.args.self.now (left c.args.source.now)) (ahead c.reads.self (left c.reads.source)) (ahead c.fill.new.self (left c.fill.new.source)) c.reads.invariant.kept filled.0;
      stays = Stays-trans c.args.self.now c.reads.self c.fill.new.self c.reads.invariant.stays stays;
      goes_on = stop ∙ c.reads.invariant.goes_on;
      unread = λ h. absurd (never_wants c.args.self.now c.reads.self (c.reads.source ≡ c.args.source.now) c.reads.invariant.unread c.reads.invariant.goes_on wants h);
      faults = omega (arith, c.reads.invariant.faults, c.in-More.ensures.faults);
      beside = c.in-More.ensures.beside ∙ c.reads.invariant.beside;
    }

pub returns-in-End-clause-read : goal.returns-in-End-clause-read
returns-in-End-clause-read g c =
    let now = c.in_default-answer.ensures.none in
    let left = g.S.Source.left in
    let before = ahead c.args.self.now (left c.args.source.now) in
    let filled = rw now.0 at c.in-End.ensures.filled in
    let stays = rw now.0 at c.in-End.ensures.stays in
    let stop = rw now.0 at c.in-End.ensures.stop in
    if_none c.args.self.now.stop (Reads c.args.self.now c.end.new.self before (ahead c.end.new.self (left c.fill.new.source)) c.end.result) (
    end_answers c.args.self.now c.fill.new.self c.end.new.self before (left c.fill.new.source) c.end.result (Keeps-trans before (ahead c.reads.self (left c.reads.source)) (ahead c.fill.new.self (left c.fill.new.source)) c.reads.invariant.kept filled.0) (Stays-trans c.args.self.now c.reads.self c.fill.new.self c.reads.invariant.stays stays) (stop ∙ c.reads.invariant.goes_on) (wants_still c.reads.self c.fill.new.self now.1 filled.1 stays.passed) (c.in-End.ensures.end refl) c.end.ensures.end c.end.ensures.torn)

pub returns-in-End-clause-unread : goal.returns-in-End-clause-unread
returns-in-End-clause-unread g c = λ h. absurd (never_wants c.args.self.now c.reads.self (c.reads.source ≡ c.args.source.now) c.reads.invariant.unread c.reads.invariant.goes_on c.in_default-answer.ensures.none.1 h)

pub returns-in-Fault-clause-unread : goal.returns-in-Fault-clause-unread
returns-in-Fault-clause-unread g c = λ h. absurd (never_wants c.args.self.now c.reads.self (c.reads.source ≡ c.args.source.now) c.reads.invariant.unread c.reads.invariant.goes_on c.in_default-answer.ensures.none.1 h)

pub returns-in-Memory-clause-unread : goal.returns-in-Memory-clause-unread
returns-in-Memory-clause-unread g c = λ h. absurd (never_wants c.args.self.now c.reads.self (c.reads.source ≡ c.args.source.now) c.reads.invariant.unread c.reads.invariant.goes_on c.in_default-answer.ensures.none.1 h)
