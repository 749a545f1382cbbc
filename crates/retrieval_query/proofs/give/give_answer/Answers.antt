use Rattle.std.proofs.Common.{◌∙◌, refl, ap, subst, arith, [], ◌∷◌, ◌++◌, ℕ, List, length, None, rules}
use Rattle.std.proofs.lemmas.Result.{err_from_is_err_and}
use Rattle.pb_wire.specs.declared.payload.PayloadType.{PayloadType}
use Rattle.series_model.specs.declared.sample.Sample.{Sample}
use Rattle.act_model.specs.Event.{IsEvent, AreEvents}
use Rattle.act_model.specs.Out.{Subject}
use Rattle.stream_merge.specs.Reading.{IsSampleOf}
use Rattle.stream_merge.specs.Merging.{line_from}
use Rattle.stream_merge.specs.Source.{open_pieces}
use Rattle.stream_merge.specs.declared.merge.Merge.{Merge}
use Rattle.stream_merge.proofs.Went.{goes_joined, goes_nowhere, goes_still, went_joined}
use Rattle.stream_merge.proofs.Holding.{merge_behind, same_pieces, goes_behind}
use Rattle.retrieval_query.proofs.Given.{event_from, few, giving_none, giving_more, sample_breaks, sample_breaks_whole, gives_whole, stops_some, stops_whole, stops_by, stops_out, never_sink}
use Rattle.retrieval_query.proofs.Given.{gives_read, held_answers}
use Rattle.retrieval_query.proofs.give.give_answer.Goals as goal

pub lines-init : goal.lines-init
unfolding giving_none
lines-init g c =
    let R = g.P.Reader.ReadAt in
    let P = g.P.Pieces in
    let subject : Subject = record { name = c.args.name.now; about = c.args.about.now; query = c.args.query } in
    record {
      going = c.requires.going;
      ty = c.requires.ty;
      may = c.requires.may;
      faults = c.begin.ensures.faults;
      goes = goes_nowhere R.tells R.bytes P.opened P.failed g.met.P.Pieces.none_opened c.args.pieces.now None c.args.merge.source.piece c.requires.none_open;
      giving = giving_none R.tells R.bytes P.left g.O.Out.gave g.O.Out.broke c.args.about.now.ty c.args.pieces.now c.args.merge c.args.out.now subject c.begin.new.self (line_from c.args.merge) c.in_ok-begin.ensures.begun;
      same = (refl, refl);
      reads = λ tells has. record { more = []; were = g.met.P.Pieces.none_opened c.args.pieces.now; has = has };
    }

pub returns-in_err-sample-in-Line-clause-gives : goal.returns-in_err-sample-in-Line-clause-gives
returns-in_err-sample-in-Line-clause-gives g c =
    let R = g.P.Reader.ReadAt in
    let P = g.P.Pieces in
    let goes = goes_joined R.tells R.bytes P.opened P.failed g.met.P.Pieces.opened_on c.args.pieces.now c.lines.pieces c.next.new.pieces None c.lines.merge.source.piece c.next.new.self.source.piece c.lines.invariant.goes c.in-Line.ensures.went in
    let p = err_from_is_err_and c.from_residual-in_err-sample-in-Line.result c.from_residual-in_err-sample-in-Line.ensures.1 in
    rw (p.1, p.2) (stops_out R.tells R.bytes R.faults P.opened P.failed c.args.about.now.ty c.args.pieces.now c.next.new.pieces c.in_err-sample-in-Line.field-0.0 (goes.pieces, goes.were))

pub returns-in_err-sample-in-Line-clause-gave : goal.returns-in_err-sample-in-Line-clause-gave
returns-in_err-sample-in-Line-clause-gave g c =
    let R = g.P.Reader.ReadAt in
    let P = g.P.Pieces in
    let inv = c.lines.invariant in
    let t = c.in-Line.t in
    let subject : Subject = record { name = c.args.name.now; about = c.args.about.now; query = c.args.query } in
    let line = c.next.new.line.items in
    let event : IsEvent c.args.about.now.ty (record { t = t; line = line }) = event_from c.args.about.now.ty (record { t = t; line = line }) (subst (λ (y : PayloadType). IsSampleOf y (record { t = t; line = line })) inv.ty (c.in-Line.ensures.line t refl).event) in
    let given = inv.giving.given in
    let breaks : (more : List Sample) → AreEvents subject.about.ty (given ++ record { t = t; line = line } ∷ more) → g.O.Out.broke c.args.out.now subject (given ++ record { t = t; line = line } ∷ more) c.sample-in-Line.new.self =
    subst (λ (l : List ℕ). (more : List Sample) → AreEvents subject.about.ty (given ++ record { t = t; line = l } ∷ more) → g.O.Out.broke c.args.out.now subject (given ++ record { t = t; line = l } ∷ more) c.sample-in-Line.new.self) c.deref.ensures.value (λ more events. c.in_err-sample-in-Line.ensures.broken c.args.out.now subject given more events inv.giving.has) in
    let p = err_from_is_err_and c.from_residual-in_err-sample-in-Line.result c.from_residual-in_err-sample-in-Line.ensures.1 in
    let low = (c.in-Line.ensures.line t refl).later.0 in
    rw p.1 (sample_breaks R.tells R.bytes P.left g.O.Out.gave g.O.Out.broke c.args.about.now.ty c.args.pieces.now c.args.merge c.args.out.now subject c.lines.pieces c.lines.merge c.lines.count (line_from c.lines.merge) c.lines.out inv.giving c.next.new.pieces c.next.new.self t line event low c.in-Line.ensures.lines c.sample-in-Line.new.self p.0 refl breaks)

pub returns-in_err-sample-in-Line-clause-whole : goal.returns-in_err-sample-in-Line-clause-whole
returns-in_err-sample-in-Line-clause-whole g c tells ps xs is rest all =
    let R = g.P.Reader.ReadAt in
    let P = g.P.Pieces in
    let inv = c.lines.invariant in
    let t = c.in-Line.t in
    let subject : Subject = record { name = c.args.name.now; about = c.args.about.now; query = c.args.query } in
    let line = c.next.new.line.items in
    let event : IsEvent c.args.about.now.ty (record { t = t; line = line }) = event_from c.args.about.now.ty (record { t = t; line = line }) (subst (λ (y : PayloadType). IsSampleOf y (record { t = t; line = line })) inv.ty (c.in-Line.ensures.line t refl).event) in
    let given = inv.giving.given in
    let breaks : (more : List Sample) → AreEvents subject.about.ty (given ++ record { t = t; line = line } ∷ more) → g.O.Out.broke c.args.out.now subject (given ++ record { t = t; line = line } ∷ more) c.sample-in-Line.new.self =
    subst (λ (l : List ℕ). (more : List Sample) → AreEvents subject.about.ty (given ++ record { t = t; line = l } ∷ more) → g.O.Out.broke c.args.out.now subject (given ++ record { t = t; line = l } ∷ more) c.sample-in-Line.new.self) c.deref.ensures.value (λ more events. c.in_err-sample-in-Line.ensures.broken c.args.out.now subject given more events inv.giving.has) in
    let p = err_from_is_err_and c.from_residual-in_err-sample-in-Line.result c.from_residual-in_err-sample-in-Line.ensures.1 in
    let low = (c.in-Line.ensures.line t refl).later.0 in
    rw p.1 (sample_breaks_whole R.tells R.bytes P.left g.O.Out.gave g.O.Out.broke c.args.about.now.ty c.args.pieces.now c.args.merge c.args.out.now subject c.lines.pieces c.lines.merge c.lines.count (line_from c.lines.merge) c.lines.out inv.giving c.next.new.pieces c.next.new.self t line event low c.in-Line.ensures.lines c.sample-in-Line.new.self p.0 breaks tells ps xs is rest all)

pub overflow_add-count-in-Line : goal.overflow_add-count-in-Line
overflow_add-count-in-Line g c =
    let R = g.P.Reader.ReadAt in
    let P = g.P.Pieces in
    let inv = c.lines.invariant in
    let t = c.in-Line.t in
    let subject : Subject = record { name = c.args.name.now; about = c.args.about.now; query = c.args.query } in
    let line = c.next.new.line.items in
    let s : Sample = record { t = t; line = line } in
    let event : IsEvent c.args.about.now.ty s = event_from c.args.about.now.ty s (subst (λ (y : PayloadType). IsSampleOf y s) inv.ty (c.in-Line.ensures.line t refl).event) in
    let low = few R.tells R.bytes P.left g.O.Out.gave g.O.Out.broke c.args.about.now.ty c.args.pieces.now c.args.merge c.args.out.now subject c.lines.pieces c.lines.merge c.lines.count (line_from c.lines.merge) c.lines.out inv.giving s event (c.in-Line.ensures.line t refl).later.0 in
    search (rules, low)

pub lines-preserved : goal.lines-preserved
unfolding giving_more
lines-preserved g c =
    let R = g.P.Reader.ReadAt in
    let P = g.P.Pieces in
    let inv = c.lines.invariant in
    let t = c.in-Line.t in
    let subject : Subject = record { name = c.args.name.now; about = c.args.about.now; query = c.args.query } in
    let line = c.next.new.line.items in
    let event : IsEvent c.args.about.now.ty (record { t = t; line = line }) = event_from c.args.about.now.ty (record { t = t; line = line }) (subst (λ (y : PayloadType). IsSampleOf y (record { t = t; line = line })) inv.ty (c.in-Line.ensures.line t refl).event) in
    let given = inv.giving.given in
    let has : g.O.Out.gave c.args.out.now subject (given ++ record { t = t; line = line } ∷ []) c.sample-in-Line.new.self =
    subst (λ (l : List ℕ). g.O.Out.gave c.args.out.now subject (given ++ record { t = t; line = l } ∷ []) c.sample-in-Line.new.self) c.deref.ensures.value (c.in_ok-sample-in-Line.ensures.given c.args.out.now subject given inv.giving.has) in
    let goes = goes_joined R.tells R.bytes P.opened P.failed g.met.P.Pieces.opened_on c.args.pieces.now c.lines.pieces c.next.new.pieces None c.lines.merge.source.piece c.next.new.self.source.piece inv.goes c.in-Line.ensures.went in
    let later = (c.in-Line.ensures.line t refl).later in
    record {
      going = (c.in-Line.ensures.line t refl).going;
      ty = c.in-Line.ensures.same.2 ∙ inv.ty;
      may = g.met.P.Pieces.goes_on c.args.pieces.now c.next.new.pieces goes.pieces c.requires.may goes.were;
      faults = omega (arith, inv.faults, c.sample-in-Line.ensures.faults);
      goes = goes;
      giving = giving_more R.tells R.bytes P.left g.O.Out.gave g.O.Out.broke c.args.about.now.ty c.args.pieces.now c.args.merge c.args.out.now subject c.lines.pieces c.lines.merge c.lines.count (line_from c.lines.merge) c.lines.out inv.giving c.next.new.pieces c.next.new.self t line event later.0 c.in-Line.ensures.lines (line_from c.next.new.self) c.sample-in-Line.new.self later.1 has;
      same = (c.in-Line.ensures.same.0 ∙ inv.same.0, c.in-Line.ensures.same.1 ∙ inv.same.1);
      reads = λ tells first.
          let on = inv.reads tells first in
          let next = c.in-Line.ensures.reads tells on.more given on.has in
          record { more = on.more ++ next.more; were = g.met.P.Pieces.opened_on c.args.pieces.now c.lines.pieces c.next.new.pieces on.more next.more on.were next.were; has = next.has };
    }

pub returns-in-End-clause-gives : goal.returns-in-End-clause-gives
returns-in-End-clause-gives g c =
    let R = g.P.Reader.ReadAt in
    let P = g.P.Pieces in
    let goes = goes_joined R.tells R.bytes P.opened P.failed g.met.P.Pieces.opened_on c.args.pieces.now c.lines.pieces c.next.new.pieces None c.lines.merge.source.piece c.next.new.self.source.piece c.lines.invariant.goes c.in-End.ensures.went in
    (goes.pieces, goes.were)

pub returns-in-End-clause-reads : goal.returns-in-End-clause-reads
returns-in-End-clause-reads g c tells query first =
    let P = g.P.Pieces in
    let inv = c.lines.invariant in
    let subject : Subject = record { name = c.args.name.now; about = c.args.about.now; query = c.args.query } in
    let on = inv.reads tells first in
    let end = c.in-End.ensures.reads tells on.more inv.giving.given on.has in
    gives_read P.opened g.O.Out.gave c.args.query c.lines.merge.query (P.count c.next.new.pieces) c.args.merge.source.tail.items c.lines.merge.source.tail.items c.args.out.now subject c.lines.merge.source.ty c.args.pieces.now c.lines.count c.next.new.pieces c.lines.out (on.more ++ end.0) inv.giving.given (inv.same.0 ∙ query) (ap (λ v. v.items) inv.same.1) inv.ty
    (g.met.P.Pieces.opened_on c.args.pieces.now c.lines.pieces c.next.new.pieces on.more end.0 on.were end.1) inv.giving.events inv.giving.number end.2 inv.giving.has

pub returns-in-End-clause-whole : goal.returns-in-End-clause-whole
returns-in-End-clause-whole g c tells ps xs is rest all =
    let R = g.P.Reader.ReadAt in
    let P = g.P.Pieces in
    let inv = c.lines.invariant in
    let subject : Subject = record { name = c.args.name.now; about = c.args.about.now; query = c.args.query } in
    gives_whole R.tells R.bytes P.left g.O.Out.gave g.O.Out.broke c.args.about.now.ty c.args.pieces.now c.args.merge c.args.out.now subject c.lines.pieces c.lines.merge c.lines.count (line_from c.lines.merge) c.lines.out inv.giving c.in-End.ensures.lines tells ps xs is rest

pub returns-in_default-next : goal.returns-in_default-next
returns-in_default-next g c =
    let R = g.P.Reader.ReadAt in
    let P = g.P.Pieces in
    let inv = c.lines.invariant in
    let subject : Subject = record { name = c.args.name.now; about = c.args.about.now; query = c.args.query } in
    let went = went_joined R.tells R.bytes P.opened P.failed g.met.P.Pieces.opened_on g.met.P.Pieces.failed_on c.args.about.now.ty c.lines.merge.source.ty c.args.pieces.now c.lines.pieces c.next.new.pieces None c.lines.merge.source.piece c.next.new.self.source.piece c.next.result inv.ty inv.goes c.next.ensures.went in
    record {
      gives = stops_by R.tells R.bytes R.faults P.opened P.failed c.args.about.now.ty c.args.pieces.now c.next.new.pieces c.lines.merge.source.piece c.next.new.self.source.piece _ _ _ _ _ c.next.result c.stopped_by.result went c.next.ensures.stops c.stopped_by.ensures;
      gave = stops_some R.tells R.bytes P.left g.O.Out.gave g.O.Out.broke c.args.about.now.ty c.args.pieces.now c.args.merge c.args.out.now subject c.lines.pieces c.lines.merge c.lines.count (line_from c.lines.merge) c.lines.out inv.giving g.met.O.Out.front c.stopped_by.result refl;
      whole = stops_whole R.tells R.bytes P.left g.O.Out.gave g.O.Out.broke c.args.about.now.ty c.args.pieces.now c.args.merge c.args.out.now subject c.lines.pieces c.lines.merge c.lines.count (line_from c.lines.merge) c.lines.out inv.giving g.met.O.Out.front c.stopped_by.result;
      faults = inv.faults;
      reads = λ tells query first. tt;
      cause = λ is. absurd (never_sink c.next.result c.stopped_by.result c.stopped_by.ensures is);
    }

-- A LINE IN MEMORY

pub returns-in_err-sample-clause-gave : goal.returns-in_err-sample-clause-gave
returns-in_err-sample-clause-gave g c =
    let R = g.P.Reader.ReadAt in
    let P = g.P.Pieces in
    let inv = c.lines.invariant in
    let m = c.lines.merge in
    let t = c.in-Some.t in
    let subject : Subject = record { name = c.args.name.now; about = c.args.about.now; query = c.args.query } in
    let line = c.in-Some.held.now in
    let s : Sample = record { t = t; line = line } in
    let behind = goes_behind R.tells R.bytes m t line inv.going c.in-Some.ensures in
    let event : IsEvent c.args.about.now.ty s = event_from c.args.about.now.ty s (subst (λ (y : PayloadType). IsSampleOf y s) inv.ty behind.event) in
    let p = err_from_is_err_and c.from_residual-in_err-sample.result c.from_residual-in_err-sample.ensures.1 in
    rw p.1 (sample_breaks R.tells R.bytes P.left g.O.Out.gave g.O.Out.broke c.args.about.now.ty c.args.pieces.now c.args.merge c.args.out.now subject c.lines.pieces m c.lines.count (line_from m) c.lines.out inv.giving c.lines.pieces (merge_behind m t line) t line event behind.later.0 (held_answers R.tells R.bytes (P.left c.lines.pieces) m t line (merge_behind m t line) behind)
    c.sample.new.self p.0 refl (λ more events. c.in_err-sample.ensures.broken c.args.out.now subject inv.giving.given more events inv.giving.has))

pub returns-in_err-sample-clause-whole : goal.returns-in_err-sample-clause-whole
returns-in_err-sample-clause-whole g c tells ps xs is rest all =
    let R = g.P.Reader.ReadAt in
    let P = g.P.Pieces in
    let inv = c.lines.invariant in
    let m = c.lines.merge in
    let t = c.in-Some.t in
    let subject : Subject = record { name = c.args.name.now; about = c.args.about.now; query = c.args.query } in
    let line = c.in-Some.held.now in
    let s : Sample = record { t = t; line = line } in
    let behind = goes_behind R.tells R.bytes m t line inv.going c.in-Some.ensures in
    let event : IsEvent c.args.about.now.ty s = event_from c.args.about.now.ty s (subst (λ (y : PayloadType). IsSampleOf y s) inv.ty behind.event) in
    let p = err_from_is_err_and c.from_residual-in_err-sample.result c.from_residual-in_err-sample.ensures.1 in
    rw p.1 (sample_breaks_whole R.tells R.bytes P.left g.O.Out.gave g.O.Out.broke c.args.about.now.ty c.args.pieces.now c.args.merge c.args.out.now subject c.lines.pieces m c.lines.count (line_from m) c.lines.out inv.giving c.lines.pieces (merge_behind m t line) t line event behind.later.0 (held_answers R.tells R.bytes (P.left c.lines.pieces) m t line (merge_behind m t line) behind)
    c.sample.new.self p.0 (λ more events. c.in_err-sample.ensures.broken c.args.out.now subject inv.giving.given more events inv.giving.has) tells ps xs is rest all)

pub overflow_add-count : goal.overflow_add-count
overflow_add-count g c =
    let R = g.P.Reader.ReadAt in
    let P = g.P.Pieces in
    let inv = c.lines.invariant in
    let m = c.lines.merge in
    let t = c.in-Some.t in
    let subject : Subject = record { name = c.args.name.now; about = c.args.about.now; query = c.args.query } in
    let line = c.in-Some.held.now in
    let s : Sample = record { t = t; line = line } in
    let behind = goes_behind R.tells R.bytes m t line inv.going c.in-Some.ensures in
    let event : IsEvent c.args.about.now.ty s = event_from c.args.about.now.ty s (subst (λ (y : PayloadType). IsSampleOf y s) inv.ty behind.event) in
    let low = few R.tells R.bytes P.left g.O.Out.gave g.O.Out.broke c.args.about.now.ty c.args.pieces.now c.args.merge c.args.out.now subject c.lines.pieces m c.lines.count (line_from m) c.lines.out inv.giving s event behind.later.0 in
    search (rules, low)

pub lines-preserved-in-Some : goal.lines-preserved-in-Some
unfolding giving_more
lines-preserved-in-Some g c =
    let R = g.P.Reader.ReadAt in
    let P = g.P.Pieces in
    let inv = c.lines.invariant in
    let m = c.lines.merge in
    let t = c.in-Some.t in
    let subject : Subject = record { name = c.args.name.now; about = c.args.about.now; query = c.args.query } in
    let line = c.in-Some.held.now in
    let s : Sample = record { t = t; line = line } in
    let behind = goes_behind R.tells R.bytes m t line inv.going c.in-Some.ensures in
    let event : IsEvent c.args.about.now.ty s = event_from c.args.about.now.ty s (subst (λ (y : PayloadType). IsSampleOf y s) inv.ty behind.event) in
    let after = c.pass.new.self in
    let on = c.pass.ensures.behind line c.in-Some.ensures refl in
    let given = inv.giving.given in
    record {
      going = on.going;
      ty = ap (λ (v : Merge g.row.P-Reader.Denot). v.source.ty) on.same ∙ inv.ty;
      may = inv.may;
      faults = omega (arith, inv.faults, c.sample.ensures.faults);
      goes = goes_still R.tells R.bytes P.opened P.failed c.args.pieces.now c.lines.pieces None m.source.piece after.source.piece inv.goes (λ told. ap (λ (v : Merge g.row.P-Reader.Denot). open_pieces R.bytes v.source.piece) on.same ∙ same_pieces R.bytes m.source.piece t (length line));
      giving = giving_more R.tells R.bytes P.left g.O.Out.gave g.O.Out.broke c.args.about.now.ty c.args.pieces.now c.args.merge c.args.out.now subject c.lines.pieces m c.lines.count (line_from m) c.lines.out inv.giving c.lines.pieces after t line event on.later.0 (held_answers R.tells R.bytes (P.left c.lines.pieces) m t line after on) (line_from after) c.sample.new.self on.later.1
          (c.in_ok-sample.ensures.given c.args.out.now subject given inv.giving.has);
      same = (ap (λ (v : Merge g.row.P-Reader.Denot). v.query) on.same ∙ inv.same.0, ap (λ (v : Merge g.row.P-Reader.Denot). v.source.tail) on.same ∙ inv.same.1);
      reads = λ tells first.
          let before = inv.reads tells first in
          record { more = before.more; were = before.were; has = c.pass.ensures.reads tells line c.in-Some.ensures refl (P.count c.lines.pieces) before.more given before.has };
    }
