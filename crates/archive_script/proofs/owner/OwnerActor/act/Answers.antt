use Rattle.std.proofs.Common.{refl, []}
use Rattle.act_model.proofs.ActsAlone.{alone_one}
use Rattle.archive_script.proofs.owner.OwnerActor.act.Goals as goal

pub returns-clause-done : goal.returns-clause-done
returns-clause-done g c =
    record {
      others = [];
      leads = (refl, alone_one (g.X.Applies.stands) (g.X.Applies.leaves) c.args.self.now.who c.args.self.now.archive c.apply.new.self c.args.act _ c.requires.may_ask c.apply.ensures.step c.apply.ensures.leaves);
      not_mine = refl;
    }

pub returns-clause-stands : goal.returns-clause-stands
returns-clause-stands g c = let s = c.requires.stands in let x = c.apply.ensures.step s.0 s.1 in (x.0, x.2)
