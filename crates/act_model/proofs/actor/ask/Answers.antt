-- The answer is the act's own, since the act's entry is a step of a run.
use Rattle.std.proofs.lemmas.Result.{IfOk-weaker}
use Rattle.act_model.specs.Reply.{reply_of}
use Rattle.act_model.proofs.AnswerLaws.{acted_answers}
use Rattle.act_model.proofs.actor.ask.Goals as goal

pub returns-clause-own : goal.returns-clause-own
returns-clause-own g c =
    IfOk-weaker c.act.result _ _
    (λ answer acted. record { own = acted_answers g.A.Actor.number g.A.Actor.between g.A.Actor.stands g.met.A.Actor.legal c.args.actor.now c.act.new.self c.args.act (reply_of g.A.Reader.ReadAt.tells g.A.Reader.ReadAt.bytes g.A.Reader.ReadAt.faults answer) c.requires.stands.0 c.requires.stands.1 acted })
    c.act.ensures.done
