use Rattle.act_model.proofs.Histories.{made_nothing}
use Rattle.service.proofs.Acts.{makes, makes_more, shift_made}
use Rattle.service.proofs.SpentActs.{now_spent}
use Rattle.service.proofs.door.serve_door.Goals as goal

pub returns-in-Ok-clause-serves : goal.returns-in-Ok-clause-serves
returns-in-Ok-clause-serves g c =
    let A = g.A.Actor in
    record {
      shift = shift_made A g.met.A.Actor.joined g.met.A.Actor.number_stays c.args.actor.now c.serve_links.new.actor c.ask_door_done.new.actor _ c.serve_links.ensures.acts c.in-Ok.ensures.asked.done;
      mid = c.serve_links.new.actor;
      asked = c.in-Done.ensures.asked;
      counted = (_, c.in-Ok.ensures.asked.done);
      spent = λ is. absurd cc;
    }

pub returns-in-Err-clause-serves : goal.returns-in-Err-clause-serves
returns-in-Err-clause-serves g c =
    let A = g.A.Actor in
    let none = c.in-Err.ensures.asked.spent in
    record {
      shift = makes_more A g.met.A.Actor.joined g.met.A.Actor.number_stays c.args.actor.now c.serve_links.new.actor c.ask_door_done.new.actor c.serve_links.ensures.acts
          (makes A c.serve_links.new.actor c.ask_door_done.new.actor _ none.0 tt);
      mid = c.serve_links.new.actor;
      asked = c.in-Done.ensures.asked.0.left;
      counted = none.0;
      spent = λ is. now_spent A g.met.A.Actor.nothing c.ask_door_done.new.actor none.1;
    }

pub returns-in-Spent-clause-serves : goal.returns-in-Spent-clause-serves
returns-in-Spent-clause-serves g c =
    let A = g.A.Actor in
    record {
      shift = c.serve_links.ensures.acts;
      mid = c.serve_links.new.actor;
      asked = c.in-Spent.ensures.asked;
      counted = made_nothing A.number A.between g.met.A.Actor.nothing c.serve_links.new.actor;
      spent = λ is. c.serve_links.ensures.spent c.in-Spent.is;
    }
