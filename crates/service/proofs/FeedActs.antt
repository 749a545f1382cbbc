-- A feed makes acts of a link alone: offers and flushes.
use Rattle.std.proofs.Common.{◌≡◌, ◌⊎◌, inl, inr, ℕ, List, [], ◌∷◌, ◌++◌, true, false, Option, None, refl, ap, sym, ◌∙◌, subst}
use Rattle.std.specs.List.{AllByRecursion}
use Rattle.edge_io.specs.Moments.{Moments}
use Rattle.pb_messages.specs.declared.info.PayloadInfo.{PayloadInfo}
use Rattle.pb_lines.specs.Stream.{Item, header, sample, chunk_end}
use Rattle.act_model.specs.declared.acts.Act.{Act}
use Rattle.act_model.specs.declared.acts.Answer.TheVariants.{IntakeFull}
use Rattle.act_model.specs.declared.actor.Actor.{Ghosts as OfActor}
use Rattle.act_model.specs.History.{Done, Entry}
use Rattle.act_model.specs.Reply.{Reply}
use Rattle.act_model.specs.Roles.{is_of_link}
use Rattle.feed_session.specs.Asks.{AreMade, AsksFor, asked_again, chunk_behind, flush_all}
use Rattle.feed_session.specs.Replies.{Feeds}
use Rattle.feed_session.specs.Session.{AreTaken, AsksLast, TakenItem, acts_of, chunk_after}
use Rattle.feed_session.specs.declared.end.Fed.{Fed}
use Rattle.service.specs.Serving.{MakesOnly}
use Rattle.service.proofs.Acts.{AreOfLink, makes, of_link-append}

-- what is asked for is a link's
abbrev AreAsked : List Act → Type 0
AreAsked acts = AllByRecursion (λ (act : Act). is_of_link act ≡ true) acts

asked-append : (xs ys : List Act) → AreAsked xs → AreAsked ys → AreAsked (xs ++ ys)
asked-append [] ys p q = q
asked-append (x ∷ xs) ys p q = (p.0, asked-append xs ys p.1 q)

asked_again_too : (act : Act) (reply : Reply) → is_of_link act ≡ true → AreAsked (asked_again act reply)
asked_again_too act (IntakeFull held) is = (refl, (is, tt))
asked_again_too act other is = tt

made_of_link : (asked : List Act) (done : List Done) (left : List Act) → AreAsked asked → AreMade asked done left → AreOfLink done
made_of_link asked [] left p made = tt
made_of_link [] (d ∷ done) left p made = absurd made
made_of_link (act ∷ asked) (d ∷ done) left p made = (
  ap is_of_link made.0 ∙ p.0,
  made_of_link (asked_again act d.answer ++ asked) done left (asked-append (asked_again act d.answer) asked (asked_again_too act d.answer p.0) p.1) made.1,
)

item_asked : (chunk : Option PayloadInfo) (item : Item) (moments : List ℕ) (acts : List Act) → AsksFor false chunk item moments acts → AreAsked acts
item_asked chunk (header info line) moments acts a = subst AreAsked (sym a.1) tt
item_asked chunk (sample x) moments acts a = subst AreAsked (sym a.4) (refl, tt)
item_asked chunk chunk_end moments acts a = subst AreAsked (sym a.1) tt

last_asked : (chunk : Option PayloadInfo) (begun : List Item) (moments : List ℕ) (acts : List Act) → AsksLast false chunk begun moments acts → AreAsked acts
last_asked chunk [] moments acts a = by_flush a.1
  where
    by_flush : (acts ≡ []) ⊎ (acts ≡ flush_all ∷ []) → AreAsked acts
    by_flush (inl is) = subst AreAsked (sym is) tt
    by_flush (inr is) = subst AreAsked (sym is) (refl, tt)
last_asked chunk (item ∷ []) moments acts a = item_asked chunk item moments acts a
last_asked chunk (item ∷ other ∷ items) moments acts a = absurd a

taken_of_link : (chunk : Option PayloadInfo) (ts : List TakenItem) → AreTaken false chunk ts → AreOfLink (acts_of ts)
taken_of_link chunk [] a = tt
taken_of_link chunk (t ∷ ts) a =
    of_link-append t.done (acts_of ts) (made_of_link a.0.asked t.done [] (item_asked chunk t.item t.moments a.0.asked a.0.asks) a.0.made) (taken_of_link (chunk_behind chunk t.item) ts a.1)

pub feed_makes : {A R : Type 0} (actor : OfActor A R) (end : Fed) (old new : A) (source : Option (List ℕ)) (clock clock' : Option Moments) (a b : Option (List ℕ))
    → Feeds actor.number actor.between end old new source clock clock' a b → MakesOnly actor is_of_link old new
feed_makes actor end old new source clock clock' a b f =
    let s = f.ended.session in
    makes actor old new f.ended.mine f.ended.made
    (subst AreOfLink (sym s.all)
    (of_link-append (acts_of f.taken) s.last (taken_of_link None f.taken s.items) (made_of_link s.asked s.last s.left (last_asked (chunk_after None f.taken) s.begun s.moments s.asked s.asks) s.made)))
