use Rattle.std.proofs.Common.{ℕ, List, ◌∷◌, ◌++◌, [], ◌≡◌, ap, sym, ◌∙◌, arith, length, map, subst, length-append}
use Rattle.std.proofs.lemmas.List.{map-append, map-id}
use Rattle.std.proofs.lemmas.Iterator.Consumers.{YieldsList-end, YieldsList-turn}
use Rattle.std.proofs.lemmas.Iterator.Adapters.{YieldsList-from_vec}
use Rattle.act_model.specs.Reply.{Reply, reply_of}
use Rattle.act_model.specs.Step.{MayAsk}
use Rattle.act_model.specs.declared.acts.Act.{Act}
use Rattle.archive_core.specs.Parts.{parts}
use Rattle.archive_core.specs.Running.{MakesAll}
use Rattle.archive_core.proofs.Acting.{all_at, makes_more, makes_none}
use Rattle.archive_core.proofs.running.run_acts.Goals as goal

pub acts-init : goal.acts-init
acts-init g c = record {
  made = rw c.in_ok-answers.ensures.items (makes_none g.D.Disk.tells (parts g.D.Disk c.args.archive.now));
  many = c.in_ok-answers.ensures.len;
  room = omega (arith, c.in_ok-answers.ensures.capacity, c.len.ensures);
}

pub apply-requires-clause-stands : goal.apply-requires-clause-stands
apply-requires-clause-stands g c =
    let run = c.acts.invariant.made.run c.requires.stands.0 c.requires.stands.1 in
    (run.after, run.stands)

pub apply-requires-clause-may_ask : goal.apply-requires-clause-may_ask
apply-requires-clause-may_ask g c =
    let all = YieldsList-from_vec {s = c.into_iter-who-iterator.result} c.args.acts.items c.into_iter-who-iterator.ensures.into_iter_gives.0 (omega (arith, c.into_iter-who-iterator.ensures.into_iter_gives.1, c.args.acts.ok.0)) in
    let one : ℕ × Act = (c.in-Some.who, c.in-Some.act) in
    let t = YieldsList-turn all c.acts.yielded _ c.acts.yielded_by c.next.result c.next.new.self one c.in-Some.is c.next.ensures.steps in
    subst (λ (x : ℕ × Act). MayAsk x.1) (sym t.1) (all_at (λ (x : ℕ × Act). MayAsk x.1) c.args.acts.items (length c.acts.yielded) one c.requires.may_ask t.0)

pub acts-preserved : goal.acts-preserved
acts-preserved g c =
    let all = YieldsList-from_vec {s = c.into_iter-who-iterator.result} c.args.acts.items c.into_iter-who-iterator.ensures.into_iter_gives.0 (omega (arith, c.into_iter-who-iterator.ensures.into_iter_gives.1, c.args.acts.ok.0)) in
    let one : ℕ × Act = (c.in-Some.who, c.in-Some.act) in
    let t = YieldsList-turn all c.acts.yielded _ c.acts.yielded_by c.next.result c.next.new.self one c.in-Some.is c.next.ensures.steps in
    let reply = reply_of g.D.Reader.ReadAt.tells g.D.Reader.ReadAt.bytes g.D.Reader.ReadAt.faults in
    let may : MayAsk c.in-Some.act = subst (λ (x : ℕ × Act). MayAsk x.1) (sym t.1) (all_at (λ (x : ℕ × Act). MayAsk x.1) c.args.acts.items (length c.acts.yielded) one c.requires.may_ask t.0) in
    let told : map reply c.push_reserved.new.self.items ≡ map reply c.acts.answers.items ++ reply c.apply.result ∷ [] = ap (λ xs. map reply xs) c.push_reserved.ensures.items ∙ map-append reply c.acts.answers.items (c.apply.result ∷ []) in
    record {
      made = subst (λ (rs : List Reply). MakesAll g.D.Disk.tells (parts g.D.Disk c.args.archive.now) (c.acts.yielded ++ one ∷ []) rs (parts g.D.Disk c.apply.new.self)) (sym told)
          (makes_more g.D.Disk.tells (parts g.D.Disk c.args.archive.now) (parts g.D.Disk c.acts.archive) (parts g.D.Disk c.apply.new.self) c.acts.yielded (map reply c.acts.answers.items) c.in-Some.who c.in-Some.act (reply c.apply.result) c.acts.invariant.made may c.apply.ensures.step c.apply.ensures.leaves.crash);
      many = omega (arith, c.push_reserved.ensures.len, c.acts.invariant.many, length-append c.acts.yielded (one ∷ []));
      room = omega (arith, c.push_reserved.ensures.capacity, c.acts.invariant.room);
    }

pub returns-clause-made : goal.returns-clause-made
returns-clause-made g c =
    let all = YieldsList-from_vec {s = c.into_iter-who-iterator.result} c.args.acts.items c.into_iter-who-iterator.ensures.into_iter_gives.0 (omega (arith, c.into_iter-who-iterator.ensures.into_iter_gives.1, c.args.acts.ok.0)) in
    let t = YieldsList-end all c.acts.yielded _ c.acts.yielded_by c.next.result c.next.new.self c.in-None.is c.next.ensures.steps in
    subst (λ (xs : List (ℕ × Act)). MakesAll g.D.Disk.tells (parts g.D.Disk c.args.archive.now) xs (map (reply_of g.D.Reader.ReadAt.tells g.D.Reader.ReadAt.bytes g.D.Reader.ReadAt.faults) c.acts.answers.items) (parts g.D.Disk c.acts.archive)) (sym (map-id c.acts.yielded) ∙ t.0) c.acts.invariant.made
