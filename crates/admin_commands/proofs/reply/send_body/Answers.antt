use Rattle.std.proofs.Common.{List, ℕ}
use Rattle.edge_io.proofs.Writes.{appends_more, front_first, front_more}
use Rattle.http_front.specs.Reply.{head_text}
use Rattle.admin_commands.specs.Replies.{head_of}
use Rattle.admin_commands.proofs.reply.send_body.Goals as goal

pub returns-in_err-write_head-clause-front : goal.returns-in_err-write_head-clause-front
returns-in_err-write_head-clause-front g c =
    let written = g.K.Sink.written in
    let head : List ℕ = head_text (head_of c.args.status c.args.body.now) in
    front_first (written c.args.sink.now) (written c.write_head.new.sink) head c.args.body.now c.write_head.ensures.front

pub returns-in-Ok-clause-all : goal.returns-in-Ok-clause-all
returns-in-Ok-clause-all g c =
    let written = g.K.Sink.written in
    let head : List ℕ = head_text (head_of c.args.status c.args.body.now) in
    appends_more (written c.args.sink.now) (written c.write_head.new.sink) (written c.write_whole.new.sink) head c.args.body.now c.in_ok-write_head.ensures.all c.in-Ok.ensures.all

pub returns-in-Ok-clause-front : goal.returns-in-Ok-clause-front
returns-in-Ok-clause-front g c =
    let written = g.K.Sink.written in
    let head : List ℕ = head_text (head_of c.args.status c.args.body.now) in
    front_more (written c.args.sink.now) (written c.write_head.new.sink) (written c.write_whole.new.sink) head c.args.body.now c.in_ok-write_head.ensures.all c.write_whole.ensures.front

pub returns-in-Err-clause-front : goal.returns-in-Err-clause-front
returns-in-Err-clause-front g c =
    let written = g.K.Sink.written in
    let head : List ℕ = head_text (head_of c.args.status c.args.body.now) in
    front_more (written c.args.sink.now) (written c.write_head.new.sink) (written c.write_whole.new.sink) head c.args.body.now c.in_ok-write_head.ensures.all c.write_whole.ensures.front
