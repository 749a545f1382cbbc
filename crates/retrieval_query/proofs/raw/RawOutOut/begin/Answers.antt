use Rattle.std.proofs.Common.{refl, w32, to_z, of_z}
use Rattle.act_model.specs.Out.{Subject}
use Rattle.retrieval_query.proofs.Sending.{begins, nothing_breaks}
use Rattle.retrieval_query.proofs.Years.{nearest_back}
use Rattle.retrieval_query.proofs.raw.RawOutOut.begin.Goals as goal

pub returns-in_default-clause-broken : goal.returns-in_default-clause-broken
returns-in_default-clause-broken g c all events =
    let self = c.args.self.now in
    let subject : Subject = record { name = c.args.name.now; about = c.args.about.now; query = c.args.query } in
    (refl, nothing_breaks (g.K.Sink.written self.sink.now) self.buffer subject all c.nearest_year.result events c.nearest_year.ensures)

pub returns-clause-begun : goal.returns-clause-begun
returns-clause-begun g c =
    let self = c.args.self.now in
    let subject : Subject = record { name = c.args.name.now; about = c.args.about.now; query = c.args.query } in
    (refl, begins (g.K.Sink.written self.sink.now) self.buffer c.in-Ok.head subject (to_z w32 (of_z w32 c.nearest_year.result)) (c.in-Ok.ensures.info subject refl refl) c.in-Ok.ensures.last (nearest_back c.nearest_year.result c.args.query.from c.nearest_year.ensures))
