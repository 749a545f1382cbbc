use Rattle.std.proofs.Common.{[]}
use Rattle.feed_session.specs.Replies.{lines_of}
use Rattle.feed_session.proofs.Telling.{told_last}
use Rattle.feed_session.proofs.over_link.feed.Goals as goal

pub returns-clause-feeds : goal.returns-clause-feeds
returns-clause-feeds g c =
    let written = g.L.Sink.written in
    let chunks = c.feed_chunks-end.ensures.feeds in
    let end = c.feed_chunks-end.result in
    record {
      taken = chunks.taken;
      end = end;
      ended = chunks.ended;
      replies = told_last (written c.args.link.now) (written c.feed_chunks-end.new.link) (written c.tell_end.new.link) (lines_of [] chunks.taken) end c.tell_end.result chunks.told c.tell_end.ensures.tells;
    }
