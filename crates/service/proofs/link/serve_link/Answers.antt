use Rattle.std.proofs.Common.{◌⊎◌, inl, inr, refl}
use Rattle.service.proofs.Completeness.{feed_completes, request_completes}
use Rattle.service.proofs.Ends.{fed_by_peer, fed_spent, fed_why, request_why}
use Rattle.service.proofs.FeedActs.{feed_makes}
use Rattle.service.proofs.LastLines.{feed_begun}
use Rattle.service.proofs.Replying.{replies_acts}
use Rattle.service.proofs.RequestActs.{request_makes}
use Rattle.service.proofs.SpentActs.{now_spent, request_spent}
use Rattle.service.proofs.link.serve_link.Goals as goal

-- neither of two
neither : {X Y : Type 0} → (X → ⊥) → (Y → ⊥) → X ⊎ Y → ⊥
neither no_x no_y (inl x) = no_x x
neither no_x no_y (inr y) = no_y y

pub returns-in-Feed-clause-serves : goal.returns-in-Feed-clause-serves
returns-in-Feed-clause-serves g c = rw c.in-Feed.is (c.feed.result, c.from.ensures, c.feed.ensures.feeds)

pub returns-in-Feed-clause-acts : goal.returns-in-Feed-clause-acts
returns-in-Feed-clause-acts g c = feed_makes g.A.Actor c.feed.result c.args.actor.now c.feed.new.actor _ _ _ _ _ c.feed.ensures.feeds

pub returns-in-Feed-clause-begun : goal.returns-in-Feed-clause-begun
returns-in-Feed-clause-begun g c = rw (c.in-Feed.is, c.from.ensures) (feed_begun g.row.A-Reader.Denot c.feed.ensures.feeds.end c.feed.result c.feed.ensures.feeds.taken _ _ c.feed.ensures.feeds.replies)

pub returns-in-Feed-clause-refused : goal.returns-in-Feed-clause-refused
returns-in-Feed-clause-refused g c = rw c.from.ensures (fed_why g.row.A-Reader.Denot c.feed.result)

pub returns-in-Feed-clause-peer_fault : goal.returns-in-Feed-clause-peer_fault
returns-in-Feed-clause-peer_fault g c peer = c.feed.ensures.peer_fault (fed_by_peer c.from.result c.feed.result c.from.ensures peer)

pub returns-in-Feed-clause-spent : goal.returns-in-Feed-clause-spent
returns-in-Feed-clause-spent g c spent =
    let A = g.A.Actor in
    now_spent A g.met.A.Actor.nothing c.feed.new.actor (c.feed.ensures.spent (fed_spent c.from.result c.feed.result c.from.ensures spent))

pub returns-in-Feed-clause-complete : goal.returns-in-Feed-clause-complete
returns-in-Feed-clause-complete g c m is quiet =
    let A = g.A.Actor in
    let met = g.met.A.Actor in
    let result = c.feed.result in
    let none = neither quiet.reads quiet.writes in
    rw (c.in-Feed.is, c.from.ensures) (
    feed_completes c.soundness_stays.ensures.answers A met.legal met.sound met.joined met.number_stays met.nothing c.args.actor.now c.feed.new.actor m is quiet.disk quiet.acts result _ _ _ _ _ c.feed.ensures.feeds
    (λ peer. none (c.feed.ensures.peer_fault peer)) (λ spent. quiet.acts (now_spent A met.nothing c.feed.new.actor (c.feed.ensures.spent spent))))

pub returns-in-Http-clause-serves : goal.returns-in-Http-clause-serves
returns-in-Http-clause-serves g c = rw c.in-Http.is (c.reply_to_request.ensures.replies, refl)

pub returns-in-Http-clause-acts : goal.returns-in-Http-clause-acts
returns-in-Http-clause-acts g c =
    let A = g.A.Actor in
    let R = g.A.Reader.ReadAt in
    let acts = replies_acts A R _ c.args.actor.now c.reply_to_request.new.actor _ _ _ c.reply_to_request.result c.reply_to_request.ensures.replies in
    request_makes A g.met.A.Actor.joined g.met.A.Actor.number_stays R _ c.args.actor.now c.reply_to_request.new.actor _ _ _ c.reply_to_request.result acts

pub returns-in-Http-clause-begun : goal.returns-in-Http-clause-begun
returns-in-Http-clause-begun g c = rw c.in-Http.is c.reply_to_request.ensures.begun

pub returns-in-Http-clause-refused : goal.returns-in-Http-clause-refused
returns-in-Http-clause-refused g c =
    let A = g.A.Actor in
    request_why A _ _ c.args.actor.now c.reply_to_request.new.actor _ _ _ c.reply_to_request.result c.reply_to_request.ensures.replies

pub returns-in-Http-clause-spent : goal.returns-in-Http-clause-spent
returns-in-Http-clause-spent g c spent =
    let A = g.A.Actor in
    let R = g.A.Reader.ReadAt in
    let acts = replies_acts A R _ c.args.actor.now c.reply_to_request.new.actor _ _ _ c.reply_to_request.result c.reply_to_request.ensures.replies in
    request_spent A g.met.A.Actor.nothing R _ c.args.actor.now c.reply_to_request.new.actor _ _ _ c.reply_to_request.result acts spent

pub returns-in-Http-clause-complete : goal.returns-in-Http-clause-complete
returns-in-Http-clause-complete g c m is quiet =
    let A = g.A.Actor in
    let R = g.A.Reader.ReadAt in
    let met = g.met.A.Actor in
    let reply = c.reply_to_request in
    let none = neither quiet.reads quiet.writes in
    rw c.in-Http.is (
    request_completes c.soundness_stays.ensures.answers A met.legal met.sound met.joined met.number_stays met.nothing c.args.actor.now reply.new.actor m is quiet.disk quiet.acts R _ _ _ reply.result quiet.writes
    (λ peer. none (reply.ensures.peer_fault peer)) quiet.files _ reply.ensures.replies)
