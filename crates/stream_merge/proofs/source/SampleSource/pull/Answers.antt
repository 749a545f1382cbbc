use Rattle.std.proofs.Common.{◌≡◌, ◌+◌, ◌++◌, ◌∷◌, [], List, Some, None, inl, inr, refl, sym, ap, ◌∙◌, subst, take, arith, append-nil}
use Rattle.std.proofs.lemmas.List.{length-take-le}
use Rattle.pb_file.specs.Walk.{behind}
use Rattle.pb_wire.specs.declared.payload.PayloadType.{PayloadType}
use Rattle.stream_merge.specs.declared.source.SampleSource.{SampleSource}
use Rattle.stream_merge.specs.Pieces.{NamedBytes, Faulted, OutOfActs, OutOfMemory}
use Rattle.stream_merge.specs.Reading.{AreSamplesOf}
use Rattle.stream_merge.specs.Source.{CameOfPull, Pulls, RefusesAs, open_pieces}
use Rattle.stream_merge.specs.Beginning.{early_count}
use Rattle.stream_merge.proofs.Coming.{proceeds_first, proceeds_past, proceeds_opened, fails_opened, fails_past, pulls_tail, pulls_open, passes_end, passes_opened, passes_none, passed_all, opens_open, opens_any, less_opened}
use Rattle.stream_merge.proofs.Came.{came_open, came_refused, came_tail, pulls_refused, reads_refused, stays_of, stops_open, stops_refused, stops_tail}
use Rattle.stream_merge.proofs.Went.{goes_nowhere, goes_opened, goes_none, went_open, went_begun, went_tail}
use Rattle.stream_merge.specs.Reads.{HasRead, HasReadOpen, PullsNext}
use Rattle.stream_merge.proofs.SoFar.{read_ended, read_opened, read_same, reads_first, reads_then, pulls_more, pulls_of_tail}
use Rattle.stream_merge.proofs.source.SampleSource.pull.Goals as goal

pub returns-in_default : goal.returns-in_default
returns-in_default g c =
    let R = g.R.ReadAt in
    let P = g.P.Pieces in
    let inv = c.pieces.invariant in
    let e = c.read_open.ensures in
    let s = c.pieces.self in
    let new = c.read_open.new.self in
    let r = c.read_open.result in
    let first = c.args.self.now.piece in
    let left = P.left c.pieces.pieces in
    let stays = stays_of R.tells R.bytes R.faults s.ty s.piece new.piece c.read_open.new.line.items r e.came in
    record {
      came =
          let N : SampleSource g.row.R.Denot → Type 0 = λ x. CameOfPull R.tells R.bytes R.faults (P.count c.args.pieces.now) (P.count c.pieces.pieces) c.args.self.now x c.read_open.new.line.items r in
          subst N (sym e.same) (came_open R.tells R.bytes R.faults (P.count c.args.pieces.now) (P.count c.pieces.pieces) c.args.self.now s new.piece c.read_open.new.line.items r inv.same.0 inv.since inv.smaller e.came c.in_default.not-End);
      stops = stops_open R.tells R.bytes R.faults left (P.left c.args.pieces.now) _ _ _ c.args.self.now.ty s.ty first s.piece new.piece c.read_open.new.line.items r inv.same.0 inv.since inv.opens e.came;
      same = (ap (λ (x : SampleSource g.row.R.Denot). x.ty) e.same ∙ inv.same.0, ap (λ (x : SampleSource g.row.R.Denot). x.tail) e.same ∙ inv.same.1);
      lines = λ tells ps xs is coming placed.
          let n = behind c.args.last in
          let q = c.args.query in
          let room = c.args.steps.now + early_count q.from coming.here in
          let line = c.read_open.new.line.items in
          let N : SampleSource g.row.R.Denot → Type 0 = λ x. Pulls R.bytes left n q ps xs room x line c.read_open.new.steps r in
          subst N (sym e.same) (pulls_open R.bytes left n q ps xs room s new.piece c.pieces.steps c.read_open.new.steps line r (inv.lines tells ps xs is coming placed) (e.lines tells) e.one_step c.in_default.not-End);
      reads = λ tells ps read has.
          let N : SampleSource g.row.R.Denot → Type 0 = λ x. PullsNext R.bytes P.opened c.args.pieces.now ps c.pieces.pieces (P.count c.pieces.pieces) read x c.read_open.new.line.items r in
          subst N (sym e.same) (pulls_more R.bytes P.opened c.args.pieces.now c.pieces.pieces ps (P.count c.pieces.pieces) s new.piece read c.read_open.new.line.items r (stays tells) e.ends (e.reads tells) c.in_default.not-End (inv.reads tells ps read has));
      opens = λ tells ps is. opens_open R.bytes left first s.piece new.piece ps r (stays tells) c.in_default.not-End (inv.opens tells ps is);
      went = went_open R.tells R.bytes P.opened P.failed c.args.self.now.ty s.ty c.args.pieces.now c.pieces.pieces first s.piece new.piece R.faults c.read_open.new.line.items r inv.same.0 inv.went e.came c.in_default.not-End;
      faults = inv.faults;
      count = inv.count;
    }

pub pieces-preserved : goal.pieces-preserved
pieces-preserved g c =
    let R = g.R.ReadAt in
    let P = g.P.Pieces in
    let inv = c.pieces.invariant in
    let e = c.in-End.ensures in
    let o = c.in-Piece.ensures in
    let s = c.pieces.self in
    let new = c.read_open.new.self in
    let p = c.in-Ok.piece in
    let n : NamedBytes = record { name = c.in-Piece.name; bytes = take c.in-Piece.len (R.bytes c.in-Piece.reader) } in
    let none : new.piece ≡ None = e.came in
    let opened = c.in-Ok.ensures.opened in
    record {
      ready = opened.ready;
      same = (ap (λ (x : SampleSource g.row.R.Denot). x.ty) e.same ∙ inv.same.0, ap (λ (x : SampleSource g.row.R.Denot). x.tail) e.same ∙ inv.same.1, ap (λ (x : SampleSource g.row.R.Denot). x.at) e.same ∙ inv.same.2);
      lines = λ tells ps xs is coming placed.
          let k = behind c.args.last in
          let q = c.args.query in
          let room = c.args.steps.now + early_count q.from coming.here in
          let left = P.left c.pieces.pieces in
          let a = proceeds_past R.bytes left k q ps xs room s new c.pieces.steps c.read_open.new.steps e.same none (e.lines tells) (e.no_step refl) (inv.lines tells ps xs is coming placed) in
          let over = o.opens tells a.still.pieces a.still.left_is in
          proceeds_opened R.bytes left (P.left c.open_next.new.self) k q ps xs room new p n over.rest c.in-Piece.len c.read_open.new.steps c.open_at.new.steps none a over.first over.others (opened.lines tells) (length-take-le c.in-Piece.len (R.bytes c.in-Piece.reader) (o.bytes tells)) c.in-Ok.ensures.steps;
      reads = λ tells ps read has.
          let on = inv.reads tells ps read has in
          let k = P.count c.pieces.pieces in
          let gone = record s { piece = new.piece } in
          let back = ap (λ (x : SampleSource g.row.R.Denot). record x { piece = Some p }) e.same in
          let fresh : HasReadOpen R.bytes s.ty (Some p) [] = (
          let Q : PayloadType → Type 0 = λ ty. HasReadOpen R.bytes ty (Some p) [] in
          subst Q (ap (λ (x : SampleSource g.row.R.Denot). x.ty) e.same) (opened.unread tells)
          ) in
          reads_then R.bytes P.opened g.met.P.Pieces.opened_on c.args.pieces.now c.pieces.pieces c.open_next.new.self ps (n ∷ []) k (P.count c.open_next.new.self) s (record new { piece = Some p }) read read o.leads on
          (λ h. read_same R.bytes (record gone { piece = Some p }) (record new { piece = Some p }) (P.count c.open_next.new.self) (P.count c.open_next.new.self) ((ps ++ on.more) ++ n ∷ []) read back refl
          (read_opened R.bytes gone p n k (P.count c.open_next.new.self) (ps ++ on.more) read none o.count (opened.pieces tells) fresh (read_ended R.bytes s new.piece k (ps ++ on.more) read none (e.reads tells) h)));
      opens = λ tells ps is.
          let all = open_pieces R.bytes c.args.self.now.piece ++ ps in
          let passed = passes_end R.bytes (P.left c.pieces.pieces) all s.piece new.piece none (inv.opens tells ps is) in
          let over = o.opens tells passed.rest passed.left_is in
          passes_opened R.bytes (P.left c.open_next.new.self) all (Some p) passed.passed passed.rest over.rest n (passed_all R.bytes (P.left c.pieces.pieces) all new.piece none passed) over.first (opened.pieces tells) over.others;
      since = inl (omega (arith, o.count, inv.count));
      may = g.met.P.Pieces.goes_on c.pieces.pieces c.open_next.new.self (n ∷ []) inv.may o.leads;
      went = goes_opened R.tells R.bytes P.opened P.failed g.met.P.Pieces.opened_on c.args.pieces.now c.pieces.pieces c.open_next.new.self c.args.self.now.piece s.piece (Some p) n inv.went o.leads opened.pieces;
      faults = omega (arith, o.faults, inv.faults);
      count = omega (arith, o.count, inv.count);
      smaller = less_opened (P.count c.pieces.pieces) (P.count c.open_next.new.self) _ s new p e.same o.count opened.small inv.smaller;
    }

pub returns-in-Err-clause-came : goal.returns-in-Err-clause-came
returns-in-Err-clause-came g c =
    let R = g.R.ReadAt in
    came_refused R.tells R.bytes R.faults c.read_open.new.self.ty c.in-Piece.name c.in-Piece.len c.in-Piece.reader _ _ _ _ _ c.in-Err.merged c.in-Err.ensures.refused

pub returns-in-Err-clause-stops : goal.returns-in-Err-clause-stops
returns-in-Err-clause-stops g c =
    let R = g.R.ReadAt in
    let P = g.P.Pieces in
    let inv = c.pieces.invariant in
    let e = c.in-End.ensures in
    let s = c.pieces.self in
    let new = c.read_open.new.self in
    let first = c.args.self.now.piece in
    let T : PayloadType → Type 0 = λ y. RefusesAs R.tells R.bytes R.faults y c.in-Piece.name c.in-Piece.len c.in-Piece.reader c.in-Err.merged in
    let why = subst T (ap (λ (x : SampleSource g.row.R.Denot). x.ty) e.same ∙ inv.same.0) c.in-Err.ensures.refused in
    stops_refused R.tells R.bytes R.faults c.args.self.now.ty c.in-Piece.name c.in-Piece.len c.in-Piece.reader first (P.left c.args.pieces.now) _ _ _ c.in-Err.merged (omega (arith, c.in-Piece.ensures.count, inv.count))
    (λ tells ps is.
    let all = open_pieces R.bytes first ++ ps in
    let passed = passes_end R.bytes (P.left c.pieces.pieces) all s.piece new.piece e.came (inv.opens tells ps is) in
    let over = c.in-Piece.ensures.opens tells passed.rest passed.left_is in
    (passed.passed, over.rest, passed_all R.bytes (P.left c.pieces.pieces) all new.piece e.came passed ∙ ap (λ (l : List NamedBytes). passed.passed ++ l) over.first)) why

pub returns-in-NoMore-clause-lines : goal.returns-in-NoMore-clause-lines
returns-in-NoMore-clause-lines g c tells ps xs is coming placed =
    let R = g.R.ReadAt in
    let P = g.P.Pieces in
    let e = c.in-End.ensures in
    let s = c.pieces.self in
    let new = c.read_open.new.self in
    let k = behind c.args.last in
    let q = c.args.query in
    let room = c.args.steps.now + early_count q.from coming.here in
    let left = P.left c.pieces.pieces in
    let a = proceeds_past R.bytes left k q ps xs room s new c.pieces.steps c.read_open.new.steps e.same e.came (e.lines tells) (e.no_step refl) (c.pieces.invariant.lines tells ps xs is coming placed) in
    let last = c.read_tail.new.self in
    let none : new.piece ≡ None = e.came in
    let over = c.in-NoMore.ensures.opens tells a.still.pieces a.still.left_is in
    pulls_tail R.bytes left (P.left c.open_next.new.self) k q ps xs room new last c.read_open.new.steps c.read_tail.new.line.items c.read_tail.result a none (ap (λ (x : SampleSource g.row.R.Denot). x.piece) c.read_tail.ensures.same ∙ none) over.0 over.1 c.read_tail.ensures.line c.read_tail.ensures.end

pub returns-in-Err-clause-lines : goal.returns-in-Err-clause-lines
returns-in-Err-clause-lines g c tells ps xs is coming placed =
    let R = g.R.ReadAt in
    let P = g.P.Pieces in
    let e = c.in-End.ensures in
    let s = c.pieces.self in
    let new = c.read_open.new.self in
    let k = behind c.args.last in
    let q = c.args.query in
    let room = c.args.steps.now + early_count q.from coming.here in
    let left = P.left c.pieces.pieces in
    let a = proceeds_past R.bytes left k q ps xs room s new c.pieces.steps c.read_open.new.steps e.same e.came (e.lines tells) (e.no_step refl) (c.pieces.invariant.lines tells ps xs is coming placed) in
    let n : NamedBytes = record { name = c.in-Piece.name; bytes = take c.in-Piece.len (R.bytes c.in-Piece.reader) } in
    let o = c.in-Piece.ensures in
    let over = o.opens tells a.still.pieces a.still.left_is in
    let few = fails_opened R.bytes left (P.left c.open_next.new.self) k q ps xs room new n over.rest c.in-Piece.len c.read_open.new.steps c.open_at.new.steps a over.first over.others (length-take-le c.in-Piece.len (R.bytes c.in-Piece.reader) (o.bytes tells)) c.open_at.ensures.steps in
    pulls_refused R.tells R.bytes R.faults _ _ _ _ (P.left c.open_next.new.self) k q ps xs room new c.open_at.new.line.items c.open_at.new.steps c.in-Err.merged c.in-Err.ensures.refused few

pub returns-in-ReadFault-clause-lines : goal.returns-in-ReadFault-clause-lines
returns-in-ReadFault-clause-lines g c tells ps xs is coming placed =
    let P = g.P.Pieces in
    let e = c.in-End.ensures in
    fails_past g.R.ReadAt.bytes (P.left c.pieces.pieces) (P.left c.open_next.new.self) (behind c.args.last) c.args.query ps xs (c.args.steps.now + early_count c.args.query.from coming.here) c.pieces.self c.read_open.new.self c.pieces.steps
    c.read_open.new.steps e.same e.came (e.lines tells) (e.no_step refl) (c.pieces.invariant.lines tells ps xs is coming placed) (c.in-ReadFault.ensures.opens tells)

pub returns-in-Spent-clause-lines : goal.returns-in-Spent-clause-lines
returns-in-Spent-clause-lines g c tells ps xs is coming placed =
    let P = g.P.Pieces in
    let e = c.in-End.ensures in
    fails_past g.R.ReadAt.bytes (P.left c.pieces.pieces) (P.left c.open_next.new.self) (behind c.args.last) c.args.query ps xs (c.args.steps.now + early_count c.args.query.from coming.here) c.pieces.self c.read_open.new.self c.pieces.steps
    c.read_open.new.steps e.same e.came (e.lines tells) (e.no_step refl) (c.pieces.invariant.lines tells ps xs is coming placed) (c.in-Spent.ensures.opens tells)

pub returns-in-Memory-clause-lines : goal.returns-in-Memory-clause-lines
returns-in-Memory-clause-lines g c tells ps xs is coming placed =
    let P = g.P.Pieces in
    let e = c.in-End.ensures in
    fails_past g.R.ReadAt.bytes (P.left c.pieces.pieces) (P.left c.open_next.new.self) (behind c.args.last) c.args.query ps xs (c.args.steps.now + early_count c.args.query.from coming.here) c.pieces.self c.read_open.new.self c.pieces.steps
    c.read_open.new.steps e.same e.came (e.lines tells) (e.no_step refl) (c.pieces.invariant.lines tells ps xs is coming placed) (c.in-Memory.ensures.opens tells)

pub returns-in-NoMore-clause-reads : goal.returns-in-NoMore-clause-reads
returns-in-NoMore-clause-reads g c tells ps read has =
    let R = g.R.ReadAt in
    let P = g.P.Pieces in
    let e = c.in-End.ensures in
    let o = c.in-NoMore.ensures in
    let s = c.pieces.self in
    let new = c.read_open.new.self in
    let k = P.count c.pieces.pieces in
    let now = P.count c.open_next.new.self in
    let none : new.piece ≡ None = e.came in
    let on = c.pieces.invariant.reads tells ps read has in
    let over = reads_then R.bytes P.opened g.met.P.Pieces.opened_on c.args.pieces.now c.pieces.pieces c.open_next.new.self ps [] k now s new read read o.leads on
    (λ h. let Q : List NamedBytes → Type 0 = λ l. HasRead R.bytes new now l read in
    subst Q (sym (append-nil (ps ++ on.more))) (read_same R.bytes (record s { piece = new.piece }) new k now (ps ++ on.more) read e.same (sym o.count) (read_ended R.bytes s new.piece k (ps ++ on.more) read none (e.reads tells) h))) in
    pulls_of_tail R.bytes P.opened c.args.pieces.now c.open_next.new.self ps now new c.read_tail.new.self read c.read_tail.new.line.items c.read_tail.result c.read_tail.ensures.same none (omega (arith, o.count, o.none.0 refl)) c.read_tail.ensures.line c.read_tail.ensures.end over

pub returns-in-Err-clause-reads : goal.returns-in-Err-clause-reads
returns-in-Err-clause-reads g c tells ps read has =
    let R = g.R.ReadAt in
    let P = g.P.Pieces in
    reads_refused R.tells R.bytes R.faults _ _ _ _ P.opened c.args.pieces.now c.open_next.new.self ps (P.count c.open_next.new.self) c.read_open.new.self read c.open_at.new.line.items c.in-Err.merged c.in-Err.ensures.refused

pub returns-in-NoMore-clause-came : goal.returns-in-NoMore-clause-came
returns-in-NoMore-clause-came g c =
    let R = g.R.ReadAt in
    let P = g.P.Pieces in
    let new = c.read_open.new.self in
    let e = c.in-End.ensures in
    let inv = c.pieces.invariant in
    let tail : new.tail ≡ c.args.self.now.tail = ap (λ (x : SampleSource g.row.R.Denot). x.tail) e.same ∙ inv.same.1 in
    let S : _ → Type 0 = λ x. AreSamplesOf c.args.self.now.ty x.items in
    let read = c.read_tail.ensures in
    came_tail R.tells R.bytes R.faults (P.count c.args.pieces.now) (P.count c.pieces.pieces) (P.count c.open_next.new.self) c.args.self.now c.pieces.self new c.read_tail.new.self c.read_tail.new.line.items c.read_tail.result (subst S (sym tail) c.requires.tail) e.same e.came read.same
    c.in-NoMore.ensures.count inv.smaller read.line read.end read.smaller

pub returns-in-NoMore-clause-stops : goal.returns-in-NoMore-clause-stops
returns-in-NoMore-clause-stops g c =
    let R = g.R.ReadAt in
    stops_tail R.tells R.bytes R.faults c.args.self.now.ty c.args.self.now.piece (g.P.Pieces.left c.args.pieces.now) _ _ _ c.read_tail.result c.read_tail.ensures.whole

pub returns-in-NoMore-clause-opens : goal.returns-in-NoMore-clause-opens
returns-in-NoMore-clause-opens g c tells ps is =
    let R = g.R.ReadAt in
    let P = g.P.Pieces in
    let inv = c.pieces.invariant in
    let new = c.read_open.new.self in
    let last = c.read_tail.new.self in
    let first = c.args.self.now.piece in
    let all = open_pieces R.bytes first ++ ps in
    let left = P.left c.open_next.new.self in
    let none : new.piece ≡ None = c.in-End.ensures.came in
    let passed = passes_end R.bytes (P.left c.pieces.pieces) all c.pieces.self.piece new.piece none (inv.opens tells ps is) in
    let over = c.in-NoMore.ensures.opens tells passed.rest passed.left_is in
    opens_any R.bytes left first last.piece ps c.read_tail.result
    (passes_none R.bytes left all passed.passed passed.rest last.piece (ap (λ (x : SampleSource g.row.R.Denot). x.piece) c.read_tail.ensures.same ∙ none) (passed_all R.bytes (P.left c.pieces.pieces) all new.piece none passed) over.0 over.1)

pub pieces-init : goal.pieces-init
pieces-init g c =
    let R = g.R.ReadAt in
    let P = g.P.Pieces in
    let first = c.args.self.now.piece in
    record {
      ready = c.requires.ready;
      same = (refl, refl, refl);
      lines = λ tells ps xs is coming placed. proceeds_first R.bytes (P.left c.args.pieces.now) (behind c.args.last) c.args.query ps xs c.args.self.now c.args.steps.now is coming placed;
      reads = λ tells ps read has. reads_first R.bytes P.opened g.met.P.Pieces.none_opened c.args.pieces.now ps (P.count c.args.pieces.now) c.args.self.now read has;
      opens = λ tells ps is. record { passed = []; rest = ps; left_is = is; are = refl };
      since = inr refl;
      faults = omega arith;
      count = omega arith;
      may = c.requires.may;
      went = goes_nowhere R.tells R.bytes g.P.Pieces.opened g.P.Pieces.failed g.met.P.Pieces.none_opened c.args.pieces.now first first refl;
      smaller = omega arith;
    }

pub returns-in-Err-clause-went : goal.returns-in-Err-clause-went
returns-in-Err-clause-went g c =
    let R = g.R.ReadAt in
    let P = g.P.Pieces in
    let inv = c.pieces.invariant in
    let s = c.pieces.self in
    let new = c.read_open.new.self in
    let T : PayloadType → Type 0 = λ y. RefusesAs R.tells R.bytes R.faults y c.in-Piece.name c.in-Piece.len c.in-Piece.reader c.in-Err.merged in
    let why = subst T (ap (λ (x : SampleSource g.row.R.Denot). x.ty) c.in-End.ensures.same ∙ inv.same.0) c.in-Err.ensures.refused in
    went_begun R.tells R.bytes P.opened P.failed g.met.P.Pieces.opened_on c.args.self.now.ty c.args.pieces.now c.pieces.pieces c.open_next.new.self c.args.self.now.piece s.piece new.piece c.in-Piece.name c.in-Piece.len c.in-Piece.reader R.faults c.in-Err.merged inv.went c.in-Piece.ensures.leads why

pub returns-in-NoMore-clause-went : goal.returns-in-NoMore-clause-went
returns-in-NoMore-clause-went g c =
    let R = g.R.ReadAt in
    let P = g.P.Pieces in
    let inv = c.pieces.invariant in
    let last = c.read_tail.new.self in
    let none : last.piece ≡ None = ap (λ (x : SampleSource g.row.R.Denot). x.piece) c.read_tail.ensures.same ∙ c.in-End.ensures.came in
    went_tail R.tells R.bytes P.opened P.failed g.met.P.Pieces.opened_on c.args.self.now.ty c.args.pieces.now c.open_next.new.self c.args.self.now.piece last.piece c.read_tail.result c.read_tail.ensures.whole
    (goes_none R.tells R.bytes P.opened P.failed g.met.P.Pieces.opened_on c.args.pieces.now c.pieces.pieces c.open_next.new.self c.args.self.now.piece c.pieces.self.piece last.piece inv.went c.in-NoMore.ensures.leads none)

pub returns-in-ReadFault-clause-went : goal.returns-in-ReadFault-clause-went
returns-in-ReadFault-clause-went g c =
    let inv = c.pieces.invariant in
    g.met.P.Pieces.failed_on c.args.pieces.now c.pieces.pieces c.open_next.new.self inv.went.pieces Faulted inv.went.were c.in-ReadFault.ensures.leads

pub returns-in-Spent-clause-went : goal.returns-in-Spent-clause-went
returns-in-Spent-clause-went g c =
    let inv = c.pieces.invariant in
    g.met.P.Pieces.failed_on c.args.pieces.now c.pieces.pieces c.open_next.new.self inv.went.pieces OutOfActs inv.went.were c.in-Spent.ensures.leads

pub returns-in-Memory-clause-went : goal.returns-in-Memory-clause-went
returns-in-Memory-clause-went g c =
    let inv = c.pieces.invariant in
    inr (g.met.P.Pieces.failed_on c.args.pieces.now c.pieces.pieces c.open_next.new.self inv.went.pieces OutOfMemory inv.went.were c.in-Memory.ensures.leads)
