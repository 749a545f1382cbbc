use Rattle.std.proofs.Common.{◌≡◌, ◌∙◌, ap, sym, subst, true, false, Bool, List, ℕ, ◌+◌, ◌++◌, Ok}
use Rattle.act_model.specs.declared.acts.Act.TheVariants.{Names}
use Rattle.act_model.specs.declared.acts.Answer.TheVariants.{NamesAre, Memory}
use Rattle.act_model.specs.History.{MadeOne}
use Rattle.http_front.specs.declared.request.WebCall.TheVariants.{AllPvs}
use Rattle.admin_commands.specs.declared.reply.WebReply.TheVariants.{Success}
use Rattle.admin_commands.specs.Bodies.{names_text}
use Rattle.admin_commands.specs.Serving.{Comes}
use Rattle.admin_commands.proofs.Gathering.{Gathered, gathers_all, gathers_more, gathering_stops, gathering_spent}
use Rattle.admin_commands.proofs.calls.gather_names.Goals as goal

pub returns-in_default-clause-gathers : goal.returns-in_default-clause-gathers
returns-in_default-clause-gathers g c =
    let told = c.in-Ok-NamesAre in
    gathering_stops g.A.Actor.number g.A.Actor.between g.A.Actor.is_spent g.met.A.Actor.joined g.met.A.Actor.number_stays c.args.actor.now c.pages.actor c.ask_page.new.actor c.pages.names.items c.pages.from (NamesAre told.page told.more) c.pages.invariant.gathered
    (rw c.in-Ok-NamesAre.field-0-is at c.in-Ok-NamesAre.ensures.asked.done)

pub returns-then-not-more-clause-gathers : goal.returns-then-not-more-clause-gathers
returns-then-not-more-clause-gathers g c =
    let number = g.A.Actor.number in
    let between = g.A.Actor.between in
    let spent = g.A.Actor.is_spent in
    let now = c.pages.actor in
    let new = c.ask_page.new.actor in
    let names : List (List ℕ) = c.pages.names.items in
    let page : List (List ℕ) = c.in-Ok-NamesAre.page in
    let made = rw c.in-Ok-NamesAre.field-0-is at c.in-Ok-NamesAre.ensures.asked.done in
    let last : c.in-Ok-NamesAre.more ≡ false = c.if-not-more.true in
    let all : c.from.result ≡ names ++ page = c.from.ensures ∙ (c.in-Ok.ensures.items ∙ ap (λ (w : List (List ℕ)). names ++ w) c.into_vec.ensures) in
    subst (λ (w : List (List ℕ)). Comes number between spent AllPvs c.args.actor.now (Ok (Success (names_text w))) new) (sym all)
    (gathers_all number between spent g.met.A.Actor.joined g.met.A.Actor.number_stays c.args.actor.now now new names page c.pages.from c.pages.invariant.gathered
    (subst (λ (b : Bool). MadeOne number between now (Names c.pages.from 1024) (NamesAre page b) new) last made))

pub pages-preserved : goal.pages-preserved
pages-preserved g c =
    let number = g.A.Actor.number in
    let between = g.A.Actor.between in
    let now = c.pages.actor in
    let new = c.ask_page.new.actor in
    let names : List (List ℕ) = c.pages.names.items in
    let page : List (List ℕ) = c.in-Ok-NamesAre.page in
    let made = rw c.in-Ok-NamesAre.field-0-is at c.in-Ok-NamesAre.ensures.asked.done in
    let below = rw c.in-Ok-NamesAre.field-0-is at c.in-Ok-NamesAre.ensures.below in
    let goes : c.in-Ok-NamesAre.more ≡ true = c.if-not-more.false in
    let all : c.append.new.self.items ≡ names ++ page = c.in-Ok.ensures.items ∙ ap (λ (w : List (List ℕ)). names ++ w) c.into_vec.ensures in
    record {
      stands = c.ask_page.ensures.stands;
      below = below goes;
      gathered = subst (λ (w : List (List ℕ)). Gathered number between c.args.actor.now w (c.pages.from + 1024) new) (sym all)
          (gathers_more number between g.A.Actor.is_spent g.met.A.Actor.joined g.met.A.Actor.number_stays c.args.actor.now now new names page c.pages.from c.pages.invariant.gathered
          (subst (λ (b : Bool). MadeOne number between now (Names c.pages.from 1024) (NamesAre page b) new) goes made));
    }

pub returns-in-Ok-Memory-clause-gathers : goal.returns-in-Ok-Memory-clause-gathers
returns-in-Ok-Memory-clause-gathers g c =
    gathering_stops g.A.Actor.number g.A.Actor.between g.A.Actor.is_spent g.met.A.Actor.joined g.met.A.Actor.number_stays c.args.actor.now c.pages.actor c.ask_page.new.actor c.pages.names.items c.pages.from Memory c.pages.invariant.gathered
    (rw c.in-Ok-Memory.field-0-is at c.in-Ok-Memory.ensures.asked.done)

pub returns-in-Err-clause-gathers : goal.returns-in-Err-clause-gathers
returns-in-Err-clause-gathers g c =
    gathering_spent g.A.Actor.number g.A.Actor.between g.A.Actor.is_spent g.met.A.Actor.joined g.met.A.Actor.number_stays c.args.actor.now c.pages.actor c.ask_page.new.actor c.pages.names.items c.pages.from c.pages.invariant.gathered
    c.in-Err.ensures.asked.spent.0 c.in-Err.ensures.asked.spent.1
