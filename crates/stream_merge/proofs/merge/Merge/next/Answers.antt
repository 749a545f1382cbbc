use Rattle.std.proofs.Common.{rules, ◌+◌, ◌<◌, ◌⊎◌, ◌++◌, ◌∷◌, [], List, Some, inl, inr, refl, sym, ap, ◌∙◌, subst, arith, append_assoc, append-nil}
use Rattle.stream_merge.specs.Pieces.{NamedBytes}
use Rattle.std.proofs.lemmas.Bool.{cases_lt}
use Rattle.series_model.specs.declared.sample.Sample.{Sample}
use Rattle.series_model.specs.declared.sample.Query.{Query}
use Rattle.pb_wire.specs.declared.payload.PayloadType.{PayloadType}
use Rattle.pb_file.specs.Walk.{behind}
use Rattle.stream_merge.specs.declared.source.SampleSource.{SampleSource}
use Rattle.stream_merge.specs.declared.pieces.Merged.TheVariants.{Line, End}
use Rattle.stream_merge.specs.Reading.{IsSampleOf}
use Rattle.stream_merge.specs.Beginning.{early_count}
use Rattle.stream_merge.specs.Source.{open_pieces, Grew, unread}
use Rattle.stream_merge.specs.Merging.{IsKept, kept_of, kept_count}
use Rattle.stream_merge.proofs.Coming.{opens_any}
use Rattle.stream_merge.proofs.Giving.{gives_first, gives_at, left_out, few_none, few_on, few_pulled, taken_on, due_answers, last_answers, gives_answers, gives_event, going_at, kept_now, none_is_kept, passes_join, passes_at, since_through, since_more, answers_none, opens_none, step_skip, step_keep, early_at, rose_lower, count_le, due_count, kept_length, gives_count}
use Rattle.stream_merge.proofs.Went.{goes_nowhere, goes_still, goes_joined, went_given, went_joined, gives_given, grew_same}
use Rattle.stream_merge.proofs.Came.{stops_given, stops_since}
use Rattle.stream_merge.proofs.Later.{given_later, next_low, kept_low, gives_later}
use Rattle.stream_merge.specs.Reads.{HasRead, HasGiven, GivesNext}
use Rattle.stream_merge.proofs.Answered.{is_not_read, given_skips, given_keeps, due_next, last_next, give_next, gives_none}
use Rattle.stream_merge.proofs.merge.Merge.next.Goals as goal

pub returns-then-is_due-clause-lines : goal.returns-then-is_due-clause-lines
returns-then-is_due-clause-lines g c tells ps xs is rest =
    let m = c.args.self.now in
    let e = c.give_due.ensures in
    due_answers g.R.ReadAt.bytes (g.P.Pieces.left c.args.pieces.now) m c.give_due.new.self m.source.ty ps xs c.give_due.new.line.items c.give_due.result is rest e.rest.1 e.rest.0 e.rest.2 e.none (c.is_due.ensures.due c.if-is_due.true) c.requires.going.kept e.line e.end e.whole

pub returns-then-is_due-clause-same : goal.returns-then-is_due-clause-same
returns-then-is_due-clause-same g c = let e = c.give_due.ensures in (e.rest.0, ap (λ (v : SampleSource g.row.R.Denot). v.tail) e.rest.1, ap (λ (v : SampleSource g.row.R.Denot). v.ty) e.rest.1)

pub returns-in-End-clause-same : goal.returns-in-End-clause-same
returns-in-End-clause-same g c =
    let e = c.give_kept.ensures in
    let inv = c.samples.invariant in
    (e.rest.0 ∙ inv.same.0, ap (λ (v : SampleSource g.row.R.Denot). v.tail) e.rest.1 ∙ c.in-End.ensures.same.1 ∙ inv.tail, ap (λ (v : SampleSource g.row.R.Denot). v.ty) e.rest.1 ∙ c.in-End.ensures.same.0 ∙ inv.same.1)

pub returns-then-t-self-clause-same : goal.returns-then-t-self-clause-same
returns-then-t-self-clause-same g c =
    let e = c.give.ensures in
    let inv = c.samples.invariant in
    (e.rest.0 ∙ inv.same.0, ap (λ (v : SampleSource g.row.R.Denot). v.tail) e.rest.1 ∙ c.in-Line.ensures.same.1 ∙ inv.tail, ap (λ (v : SampleSource g.row.R.Denot). v.ty) e.rest.1 ∙ c.in-Line.ensures.same.0 ∙ inv.same.1)

pub returns-then-is_due-clause-reads : goal.returns-then-is_due-clause-reads
returns-then-is_due-clause-reads g c tells ps given has =
    let R = g.R.ReadAt in
    let P = g.P.Pieces in
    let m = c.args.self.now in
    let e = c.give_due.ensures in
    due_next R.bytes P.opened c.args.pieces.now ps g.met.P.Pieces.none_opened m c.give_due.new.self (P.count c.args.pieces.now) m.source.ty given c.give_due.new.line.items c.give_due.result e.rest.1 e.rest.0 e.rest.2 e.none (c.is_due.ensures.due c.if-is_due.true) c.requires.going.kept e.line e.end e.whole has

pub returns-in-End-clause-reads : goal.returns-in-End-clause-reads
returns-in-End-clause-reads g c tells ps given has =
    let R = g.R.ReadAt in
    let P = g.P.Pieces in
    let inv = c.samples.invariant in
    let m = c.samples.self in
    let s = c.pull.new.self in
    let e = c.give_kept.ensures in
    let on = inv.reads tells ps given has in
    let k = P.count c.samples.pieces in
    let now = P.count c.pull.new.pieces in
    let pulled = c.in-End.ensures.reads tells (ps ++ on.more) on.has.read on.has.has in
    let all = on.more ++ pulled.0.more in
    let H : List NamedBytes → Type 0 = λ l. HasRead R.bytes s now l on.has.read in
    let N : Query → Type 0 = λ q. GivesNext R.bytes P.opened c.args.pieces.now ps c.pull.new.pieces now c.args.self.now.source.ty q c.args.self.now.source.tail.items given c.give_kept.new.self c.give_kept.new.line.items c.give_kept.result in
    let T : _ → Type 0 = λ v. GivesNext R.bytes P.opened c.args.pieces.now ps c.pull.new.pieces now c.args.self.now.source.ty m.query v.items given c.give_kept.new.self c.give_kept.new.line.items c.give_kept.result in
    subst N inv.same.0 (subst T (c.in-End.ensures.same.1 ∙ inv.tail)
    (last_next R.bytes P.opened c.args.pieces.now ps c.pull.new.pieces all m c.give_kept.new.self s k now (ps ++ on.more) c.args.self.now.source.ty given c.give_kept.new.line.items c.give_kept.result (g.met.P.Pieces.opened_on c.args.pieces.now c.samples.pieces c.pull.new.pieces on.more pulled.0.more on.were pulled.0.were)
    e.rest.1 e.rest.0 e.rest.2 e.none (c.in-End.ensures.same.0 ∙ inv.same.1) inv.early e.line e.end e.whole on.has (subst H (append_assoc ps on.more pulled.0.more) pulled.0.has) pulled.1))

pub returns-then-t-self-clause-reads : goal.returns-then-t-self-clause-reads
returns-then-t-self-clause-reads g c tells ps given has =
    let R = g.R.ReadAt in
    let P = g.P.Pieces in
    let inv = c.samples.invariant in
    let m = c.samples.self in
    let s = c.pull.new.self in
    let e = c.give.ensures in
    let p = c.in-Line.ensures in
    let t = c.in-Line.t in
    let on = inv.reads tells ps given has in
    let k = P.count c.samples.pieces in
    let now = P.count c.pull.new.pieces in
    let own = c.pull.new.line.items in
    let pulled = p.reads tells (ps ++ on.more) on.has.read on.has.has in
    let all = on.more ++ pulled.more in
    let H : List NamedBytes → Type 0 = λ l. HasRead R.bytes s now l (on.has.read ++ record { t = t; line = own } ∷ []) in
    let N : Query → Type 0 = λ q. GivesNext R.bytes P.opened c.args.pieces.now ps c.pull.new.pieces now c.args.self.now.source.ty q c.args.self.now.source.tail.items given c.give.new.self c.give.new.line.items c.give.result in
    let T : _ → Type 0 = λ v. GivesNext R.bytes P.opened c.args.pieces.now ps c.pull.new.pieces now c.args.self.now.source.ty m.query v.items given c.give.new.self c.give.new.line.items c.give.result in
    subst N inv.same.0 (subst T (p.same.1 ∙ inv.tail)
    (give_next R.bytes P.opened c.args.pieces.now ps c.pull.new.pieces all m c.give.new.self s k now (ps ++ on.more) c.args.self.now.source.ty given t own c.give.new.line.items c.give.result (g.met.P.Pieces.opened_on c.args.pieces.now c.samples.pieces c.pull.new.pieces on.more pulled.more on.were pulled.were)
    e.rest.1 e.rest.0 e.rest.2 (p.same.0 ∙ inv.same.1) (c.is_later.ensures.0 c.if-not-is_later.false) c.if-t-self.true inv.early e.gives e.swapped e.stays on.has (subst H (append_assoc ps on.more pulled.more) pulled.has) (is_not_read R.bytes m.source k (unread now s) p.came.smaller)))

pub returns-in-End-clause-lines : goal.returns-in-End-clause-lines
returns-in-End-clause-lines g c tells ps xs is rest =
    let R = g.R.ReadAt in
    let m = c.samples.self in
    let e = c.give_kept.ensures in
    let still = (c.samples.invariant.lines tells ps xs is rest).still in
    let pulled = c.in-End.ensures.lines tells still.pieces still.rest.coming still.left_is still.rest.comes still.rest.placed in
    last_answers R.bytes (g.P.Pieces.left c.pull.new.pieces) m c.give_kept.new.self c.pull.new.self [] xs c.give_kept.new.line.items c.give_kept.result e.rest.1 e.rest.0 e.rest.2 e.none refl pulled.still pulled.placed c.samples.invariant.early
    (left_out m.source.ty m.query m.last m.kept m.kept_line.items xs still.rest.coming [] c.samples.invariant.going.kept pulled.same still.rest.are) e.line e.end e.whole

pub returns-in-End-clause-opens : goal.returns-in-End-clause-opens
returns-in-End-clause-opens g c tells ps is =
    let R = g.R.ReadAt in
    let P = g.P.Pieces in
    let first = c.args.self.now.source.piece in
    let all = open_pieces R.bytes first ++ ps in
    let left = P.left c.pull.new.pieces in
    let p = c.samples.invariant.opens tells ps is in
    let q = c.in-End.ensures.opens tells p.rest p.left_is in
    opens_any R.bytes left first c.give_kept.new.self.source.piece ps c.give_kept.result (passes_at R.bytes left all c.pull.new.self c.give_kept.new.self c.give_kept.ensures.rest.1 (passes_join R.bytes (P.left c.samples.pieces) left all c.samples.self.source.piece c.pull.new.self.piece p q))

pub returns-in_default : goal.returns-in_default
returns-in_default g c =
    let R = g.R.ReadAt in
    let P = g.P.Pieces in
    let inv = c.samples.invariant in
    let e = c.pull.ensures in
    let r = c.pull.result in
    let first = c.args.self.now.source.piece in
    let none = c.in_default.not-Line in
    let more = c.in_default.not-End in
    let since : (P.count c.pull.new.pieces < P.count c.args.pieces.now) ⊎ Grew R.faults first c.samples.self.source.piece = since_more (λ (h : P.count c.samples.pieces < P.count c.args.pieces.now). omega (arith, h, e.count)) inv.since in
    record {
      line = λ t is. absurd (none t is);
      stops = stops_since R.tells R.bytes R.faults first c.samples.self.source.piece c.args.self.now.source.ty c.samples.self.source.ty (P.left c.args.pieces.now) (P.left c.samples.pieces) _ _ _ _ _ r (λ (h : P.count c.pull.new.pieces < P.count c.samples.pieces). omega (arith, h, inv.count)) (rose_lower (P.faults c.args.pieces.now) (P.faults c.samples.pieces) (P.faults c.pull.new.pieces) inv.faults) since inv.same.1 inv.opens e.stops;
      same = (inv.same.0, e.same.1 ∙ inv.tail, e.same.0 ∙ inv.same.1);
      lines = λ tells ps xs is rest. answers_none R.bytes (P.left c.pull.new.pieces) _ xs c.pull.new.line.items r none more;
      reads = λ tells ps given has. gives_none R.bytes P.opened c.args.pieces.now ps c.pull.new.pieces (P.count c.pull.new.pieces) _ c.args.self.now.source.ty c.args.self.now.query c.args.self.now.source.tail.items given c.pull.new.line.items r none more;
      opens = λ tells ps is. opens_none R.bytes (P.left c.pull.new.pieces) first c.pull.new.self.piece ps r none more;
      went = went_joined R.tells R.bytes P.opened P.failed g.met.P.Pieces.opened_on g.met.P.Pieces.failed_on c.args.self.now.source.ty c.samples.self.source.ty c.args.pieces.now c.samples.pieces c.pull.new.pieces first c.samples.self.source.piece c.pull.new.self.piece r inv.same.1 inv.went e.went;
      faults = omega (arith, e.faults, inv.faults);
      count = omega (arith, e.count, inv.count);
      steps = λ tells ps xs is rest.
          let m = c.samples.self in
          let on = inv.lines tells ps xs is rest in
          let still = on.still in
          let left = P.left c.pull.new.pieces in
          let used = c.samples.steps + early_count m.query.from still.rest.comes.here in
          few_on R.bytes (P.left c.samples.pieces) left ps xs m c.args.self.now rest c.args.steps.now c.samples.steps c.pull.new.steps on
          (few_pulled R.bytes left (behind m.last) m.query still.pieces still.rest.coming used c.pull.new.self c.pull.new.line.items c.pull.new.steps r (e.lines tells still.pieces still.rest.coming still.left_is still.rest.comes still.rest.placed));
    }

pub samples-preserved-then-not-is_later : goal.samples-preserved-then-not-is_later
samples-preserved-then-not-is_later g c =
    let R = g.R.ReadAt in
    let P = g.P.Pieces in
    let inv = c.samples.invariant in
    let m = c.samples.self in
    let s = c.pull.new.self in
    let e = c.in-Line.ensures in
    let t = c.in-Line.t in
    let first = c.args.self.now.source.piece in
    let left = P.left c.pull.new.pieces in
    let since : (P.count c.pull.new.pieces < P.count c.args.pieces.now) ⊎ Grew R.faults first m.source.piece = since_more (λ (h : P.count c.samples.pieces < P.count c.args.pieces.now). omega (arith, h, e.count)) inv.since in
    let K : PayloadType → Type 0 = λ ty. IsKept ty m.last m.kept m.kept_line.items in
    record {
      going = going_at R.tells R.bytes m (record m { source = s }) s refl e.same.0 e.same.1 e.came.ready inv.going (subst K (sym e.same.0) inv.going.kept);
      early = inv.early;
      same = (inv.same.0, e.same.0 ∙ inv.same.1);
      tail = e.same.1 ∙ inv.tail;
      reads = λ tells ps given has.
          let on = inv.reads tells ps given has in
          let k = P.count c.samples.pieces in
          let now = P.count c.pull.new.pieces in
          let pulled = e.reads tells (ps ++ on.more) on.has.read on.has.has in
          let x : Sample = record { t = t; line = c.pull.new.line.items } in
          let H : List NamedBytes → Type 0 = λ l. HasRead R.bytes s now l (on.has.read ++ x ∷ []) in
          let low : t < behind m.last = elim (cases_lt t (behind m.last)) [
            | inl lt ↦ lt
            | inr ge ↦ absurd (let later = c.is_later.ensures.1 ge in let not = c.if-not-is_later.true in cc)
          ] in
          record {
            more = on.more ++ pulled.more;
            were = g.met.P.Pieces.opened_on c.args.pieces.now c.samples.pieces c.pull.new.pieces on.more pulled.more on.were pulled.were;
            has = given_skips R.bytes m s k now (ps ++ on.more) (ps ++ (on.more ++ pulled.more)) given x low on.has (subst H (append_assoc ps on.more pulled.more) pulled.has) (is_not_read R.bytes m.source k (unread now s) e.came.smaller);
          };
      lines = λ tells ps xs is rest.
          let on = inv.lines tells ps xs is rest in
          let still = on.still in
          let room = c.args.steps.now + early_count c.args.self.now.query.from rest.comes.here in
          let pulled = e.lines tells still.pieces still.rest.coming still.left_is still.rest.comes still.rest.placed in
          let x : Sample = record { t = t; line = c.pull.new.line.items } in
          let ks = kept_of m.kept m.kept_line.items in
          let low : t < behind m.last = elim (cases_lt t (behind m.last)) [
            | inl lt ↦ lt
            | inr ge ↦ absurd (let later = c.is_later.ensures.1 ge in let not = c.if-not-is_later.true in cc)
          ] in
          let all = left_out m.source.ty m.query m.last m.kept m.kept_line.items xs still.rest.coming (x ∷ pulled.rest) inv.going.kept pulled.same still.rest.are in
          let taken = taken_on R.bytes (P.left c.samples.pieces) ps pulled.still.pieces xs m room c.samples.steps (c.pull.new.steps + early_count m.query.from pulled.still.coming.here) on (pulled.free (inl low)) in
          gives_at R.bytes left ps room (record m { source = s }) s m.query m.last ks pulled.rest xs c.pull.new.steps refl refl refl refl pulled.still pulled.placed taken (step_skip m.query (behind m.last) x pulled.rest (x ∷ pulled.rest) xs ks refl low all);
      opens = λ tells ps is.
          let p = inv.opens tells ps is in
          passes_join R.bytes (P.left c.samples.pieces) left (open_pieces R.bytes first ++ ps) m.source.piece s.piece p (e.opens tells p.rest p.left_is);
      since = since_through R.faults first m.source.piece s.piece _ _ (λ (h : P.count c.pull.new.pieces < P.count c.samples.pieces). omega (arith, h, inv.count)) e.came.grew since;
      faults = omega (arith, e.faults, inv.faults);
      count = omega (arith, e.count, inv.count);
      went = goes_joined R.tells R.bytes P.opened P.failed g.met.P.Pieces.opened_on c.args.pieces.now c.samples.pieces c.pull.new.pieces first m.source.piece s.piece inv.went e.went;
      low = inv.low;
      smaller = omega (arith, e.came.smaller, inv.smaller);
    }

pub returns-then-t-self-clause-lines : goal.returns-then-t-self-clause-lines
returns-then-t-self-clause-lines g c tells ps xs is rest =
    let R = g.R.ReadAt in
    let m = c.samples.self in
    let inv = c.samples.invariant in
    let e = c.give.ensures in
    let t = c.in-Line.t in
    let still = (inv.lines tells ps xs is rest).still in
    let pulled = c.in-Line.ensures.lines tells still.pieces still.rest.coming still.left_is still.rest.comes still.rest.placed in
    let line = c.pull.new.line in
    let x : Sample = record { t = t; line = line.items } in
    let all = left_out m.source.ty m.query m.last m.kept m.kept_line.items xs still.rest.coming (x ∷ pulled.rest) inv.going.kept pulled.same still.rest.are in
    gives_answers R.bytes (g.P.Pieces.left c.pull.new.pieces) c.give.new.self m.kept m.kept_line.items c.pull.new.self m.query (behind m.last) t line.items c.give.new.line.items pulled.rest (x ∷ pulled.rest) xs c.give.result e.rest.1 e.rest.0 e.rest.2 refl pulled.still pulled.later (c.is_later.ensures.0 c.if-not-is_later.false) c.if-t-self.true inv.early all e.gives e.swapped e.stays

pub returns-then-t-self-clause-opens : goal.returns-then-t-self-clause-opens
returns-then-t-self-clause-opens g c tells ps is =
    let R = g.R.ReadAt in
    let P = g.P.Pieces in
    let first = c.args.self.now.source.piece in
    let all = open_pieces R.bytes first ++ ps in
    let left = P.left c.pull.new.pieces in
    let p = c.samples.invariant.opens tells ps is in
    let q = c.in-Line.ensures.opens tells p.rest p.left_is in
    opens_any R.bytes left first c.give.new.self.source.piece ps c.give.result (passes_at R.bytes left all c.pull.new.self c.give.new.self c.give.ensures.rest.1 (passes_join R.bytes (P.left c.samples.pieces) left all c.samples.self.source.piece c.pull.new.self.piece p q))

pub samples-preserved : goal.samples-preserved
samples-preserved g c =
    let R = g.R.ReadAt in
    let P = g.P.Pieces in
    let inv = c.samples.invariant in
    let m = c.samples.self in
    let m₂ = c.keep.new.self in
    let s = c.pull.new.self in
    let e = c.in-Line.ensures in
    let k = c.keep.ensures in
    let t = c.in-Line.t in
    let x : Sample = record { t = t; line = c.pull.new.line.items } in
    let first = c.args.self.now.source.piece in
    let left = P.left c.pull.new.pieces in
    let T : PayloadType → Type 0 = λ ty. IsSampleOf ty x in
    let since : (P.count c.pull.new.pieces < P.count c.args.pieces.now) ⊎ Grew R.faults first m.source.piece = since_more (λ (h : P.count c.samples.pieces < P.count c.args.pieces.now). omega (arith, h, e.count)) inv.since in
    let S : SampleSource g.row.R.Denot → Type 0 = λ v. (P.count c.pull.new.pieces < P.count c.args.pieces.now) ⊎ Grew R.faults first v.piece in
    record {
      going = going_at R.tells R.bytes m m₂ s k.rest.1 e.same.0 e.same.1 e.came.ready inv.going (kept_now s.ty m₂.last m₂.kept m₂.kept_line.items t c.pull.new.line.items k.some k.rest.2 k.kept (subst T (sym e.same.0) e.came.event));
      early = early_at m₂.kept t m.query.from m₂.query.from k.some (ap (λ (v : Query). v.from) k.rest.0) c.if-t-self.false;
      same = (k.rest.0 ∙ inv.same.0, ap (λ (v : SampleSource g.row.R.Denot). v.ty) k.rest.1 ∙ e.same.0 ∙ inv.same.1);
      tail = ap (λ (v : SampleSource g.row.R.Denot). v.tail) k.rest.1 ∙ e.same.1 ∙ inv.tail;
      reads = λ tells ps given has.
          let on = inv.reads tells ps given has in
          let n = P.count c.samples.pieces in
          let now = P.count c.pull.new.pieces in
          let pulled = e.reads tells (ps ++ on.more) on.has.read on.has.has in
          let H : List NamedBytes → Type 0 = λ l. HasRead R.bytes s now l (on.has.read ++ x ∷ []) in
          record {
            more = on.more ++ pulled.more;
            were = g.met.P.Pieces.opened_on c.args.pieces.now c.samples.pieces c.pull.new.pieces on.more pulled.more on.were pulled.were;
            has = given_keeps R.bytes m m₂ s n now (ps ++ on.more) (ps ++ (on.more ++ pulled.more)) given s.ty x k.rest.1 k.rest.0 k.rest.2 k.some k.kept (c.is_later.ensures.0 c.if-not-is_later.false) c.if-t-self.false inv.early on.has (subst H (append_assoc ps on.more pulled.more) pulled.has) (is_not_read R.bytes m.source n (unread now s) e.came.smaller);
          };
      lines = λ tells ps xs is rest.
          let on = inv.lines tells ps xs is rest in
          let still = on.still in
          let room = c.args.steps.now + early_count c.args.self.now.query.from rest.comes.here in
          let pulled = e.lines tells still.pieces still.rest.coming still.left_is still.rest.comes still.rest.placed in
          let all = left_out m.source.ty m.query m.last m.kept m.kept_line.items xs still.rest.coming (x ∷ pulled.rest) inv.going.kept pulled.same still.rest.are in
          let taken = taken_on R.bytes (P.left c.samples.pieces) ps pulled.still.pieces xs m room c.samples.steps (c.pull.new.steps + early_count m.query.from pulled.still.coming.here) on (pulled.free (inr c.if-t-self.false)) in
          gives_at R.bytes left ps room m₂ s m.query (Some t) (x ∷ []) pulled.rest xs c.pull.new.steps k.rest.1 k.rest.0 k.rest.2 k.kept pulled.still pulled.later taken
          (step_keep m.query (behind m.last) m.kept m.kept_line.items x pulled.rest (x ∷ pulled.rest) xs refl (c.is_later.ensures.0 c.if-not-is_later.false) c.if-t-self.false inv.early all);
      opens = λ tells ps is.
          let p = inv.opens tells ps is in
          passes_at R.bytes left (open_pieces R.bytes first ++ ps) s m₂ k.rest.1 (passes_join R.bytes (P.left c.samples.pieces) left (open_pieces R.bytes first ++ ps) m.source.piece s.piece p (e.opens tells p.rest p.left_is));
      since = subst S (sym k.rest.1) (since_through R.faults first m.source.piece s.piece _ _ (λ (h : P.count c.pull.new.pieces < P.count c.samples.pieces). omega (arith, h, inv.count)) e.came.grew since);
      faults = omega (arith, e.faults, inv.faults);
      count = omega (arith, e.count, inv.count);
      went = goes_still R.tells R.bytes P.opened P.failed c.args.pieces.now c.pull.new.pieces first s.piece m₂.source.piece (goes_joined R.tells R.bytes P.opened P.failed g.met.P.Pieces.opened_on c.args.pieces.now c.samples.pieces c.pull.new.pieces first m.source.piece s.piece inv.went e.went) (λ tells. ap (λ (v : SampleSource g.row.R.Denot). open_pieces R.bytes v.piece) k.rest.1);
      low = omega (arith, inv.low, next_low m.source.ty m.last m.kept m.kept_line.items t inv.going.kept (c.is_later.ensures.0 c.if-not-is_later.false), kept_low m₂.last m₂.kept t k.some);
      smaller = omega (arith, e.came.smaller, inv.smaller, ap (λ (v : SampleSource g.row.R.Denot). unread (P.count c.pull.new.pieces) v) k.rest.1, count_le m₂.kept);
    }

-- WHAT BECAME OF THE PIECES

pub samples-init : goal.samples-init
samples-init g c =
    let R = g.R.ReadAt in
    let first = c.args.self.now.source.piece in
    record {
      going = c.requires.going;
      early = c.is_due.ensures.early (λ is. absurd (let no = c.if-is_due.false in cc));
      same = (refl, refl);
      lines = λ tells ps xs is rest. gives_first R.bytes (g.P.Pieces.left c.args.pieces.now) ps c.args.self.now xs c.args.steps.now is rest;
      tail = refl;
      reads = λ tells ps given has.
          let Q : List NamedBytes → Type 0 = λ l. HasGiven R.bytes c.args.self.now (g.P.Pieces.count c.args.pieces.now) l given in
          record { more = []; were = g.met.P.Pieces.none_opened c.args.pieces.now; has = subst Q (sym (append-nil ps)) has };
      opens = λ tells ps is. record { passed = []; rest = ps; left_is = is; are = refl };
      since = inr (grew_same R.faults first);
      faults = omega arith;
      count = omega arith;
      went = goes_nowhere R.tells R.bytes g.P.Pieces.opened g.P.Pieces.failed g.met.P.Pieces.none_opened c.args.pieces.now first first refl;
      low = omega arith;
      smaller = omega arith;
    }

pub pull-requires-clause-may : goal.pull-requires-clause-may
pull-requires-clause-may g c =
    let went = c.samples.invariant.went in
    g.met.P.Pieces.goes_on c.args.pieces.now c.samples.pieces went.pieces c.requires.may went.were

pub returns-then-is_due-clause-went : goal.returns-then-is_due-clause-went
returns-then-is_due-clause-went g c =
    let R = g.R.ReadAt in
    let P = g.P.Pieces in
    let e = c.give_due.ensures in
    let m = c.args.self.now in
    went_given R.tells R.bytes P.opened P.failed m.source.ty c.args.pieces.now c.args.pieces.now m.source.piece c.give_due.new.self.source.piece c.give_due.result e.whole
    (goes_nowhere R.tells R.bytes P.opened P.failed g.met.P.Pieces.none_opened c.args.pieces.now m.source.piece c.give_due.new.self.source.piece (ap (λ (v : SampleSource g.row.R.Denot). v.piece) e.rest.1))

pub returns-in-End-clause-went : goal.returns-in-End-clause-went
returns-in-End-clause-went g c =
    let R = g.R.ReadAt in
    let P = g.P.Pieces in
    let e = c.give_kept.ensures in
    let first = c.args.self.now.source.piece in
    let inv = c.samples.invariant in
    let now = c.give_kept.new.self.source.piece in
    went_given R.tells R.bytes P.opened P.failed c.args.self.now.source.ty c.args.pieces.now c.pull.new.pieces first now c.give_kept.result e.whole
    (goes_still R.tells R.bytes P.opened P.failed c.args.pieces.now c.pull.new.pieces first c.pull.new.self.piece now (goes_joined R.tells R.bytes P.opened P.failed g.met.P.Pieces.opened_on c.args.pieces.now c.samples.pieces c.pull.new.pieces first c.samples.self.source.piece c.pull.new.self.piece inv.went c.in-End.ensures.went) (λ tells. ap (λ (v : SampleSource g.row.R.Denot). open_pieces R.bytes v.piece) e.rest.1))

pub returns-then-t-self-clause-went : goal.returns-then-t-self-clause-went
returns-then-t-self-clause-went g c =
    let R = g.R.ReadAt in
    let P = g.P.Pieces in
    let e = c.give.ensures in
    let m = c.samples.self in
    let first = c.args.self.now.source.piece in
    let inv = c.samples.invariant in
    let now = c.give.new.self.source.piece in
    went_given R.tells R.bytes P.opened P.failed c.args.self.now.source.ty c.args.pieces.now c.pull.new.pieces first now c.give.result (gives_given m.query.to m.kept c.in-Line.t c.give.new.self.kept c.give.result e.gives)
    (goes_still R.tells R.bytes P.opened P.failed c.args.pieces.now c.pull.new.pieces first c.pull.new.self.piece now (goes_joined R.tells R.bytes P.opened P.failed g.met.P.Pieces.opened_on c.args.pieces.now c.samples.pieces c.pull.new.pieces first m.source.piece c.pull.new.self.piece inv.went c.in-Line.ensures.went) (λ tells. ap (λ (v : SampleSource g.row.R.Denot). open_pieces R.bytes v.piece) e.rest.1))

-- EACH LINE

pub returns-then-is_due-clause-line : goal.returns-then-is_due-clause-line
returns-then-is_due-clause-line g c t is =
    let m = c.args.self.now in
    let e = c.give_due.ensures in
    let s : Sample = record { t = t; line = c.give_due.new.line.items } in
    let k = given_later m.source.ty m.last m.kept c.give_due.new.self.last c.give_due.new.self.kept m.kept_line.items s c.requires.going.kept (e.line t is).0 e.rest.2 e.none in
    record {
      going = search rules;
      event = search rules;
      later = (omega (arith, k.0), k.1);
      smaller = omega (arith, due_count m.kept m.query.from (c.is_due.ensures.due c.if-is_due.true), ap kept_count e.none, ap (λ (v : SampleSource g.row.R.Denot). unread (g.P.Pieces.count c.args.pieces.now) v) e.rest.1);
    }

pub returns-in-End-clause-line : goal.returns-in-End-clause-line
returns-in-End-clause-line g c t is =
    let R = g.R.ReadAt in
    let m = c.samples.self in
    let m₂ = c.give_kept.new.self in
    let e = c.give_kept.ensures in
    let p = c.in-End.ensures in
    let s : Sample = record { t = t; line = c.give_kept.new.line.items } in
    let k = given_later m.source.ty m.last m.kept m₂.last m₂.kept m.kept_line.items s c.samples.invariant.going.kept (e.line t is) e.rest.2 e.none in
    record {
      going = going_at R.tells R.bytes m m₂ c.pull.new.self e.rest.1 p.same.0 p.same.1 p.came.ready c.samples.invariant.going (none_is_kept c.pull.new.self.ty m₂.last m₂.kept m₂.kept_line.items e.none);
      event = search rules;
      later = (omega (arith, k.0, c.samples.invariant.low), k.1);
      smaller = omega (arith, kept_length m.kept m.kept_line.items _ (e.line t is), ap kept_count e.none, ap (λ (v : SampleSource g.row.R.Denot). unread (g.P.Pieces.count c.pull.new.pieces) v) e.rest.1, p.came.no_more, c.samples.invariant.smaller);
    }

pub returns-then-t-self-clause-line : goal.returns-then-t-self-clause-line
returns-then-t-self-clause-line g c at is =
    let m = c.samples.self in
    let inv = c.samples.invariant in
    let e = c.give.ensures in
    let p = c.in-Line.ensures in
    let t = c.in-Line.t in
    let T : PayloadType → Type 0 = λ ty. IsSampleOf ty (record { t = at; line = c.give.new.line.items }) in
    let k = gives_later m.source.ty m.query.to m.last m.kept c.give.new.self.last c.give.new.self.kept m.kept_line.items t at c.give.result inv.going.kept (c.is_later.ensures.0 c.if-not-is_later.false) e.rest.2 e.gives is in
    record {
      going = search rules;
      event = subst T inv.same.1 (gives_event m.source.ty m.query.to m.last m.kept m.kept_line.items t c.give.new.self.kept c.pull.new.line.items c.give.new.line.items c.give.result at e.gives inv.going.kept p.came.event (λ some. (e.swapped some).0) e.stays is);
      later = (omega (arith, k.0, inv.low), k.1);
      smaller = omega (arith, gives_count m.query.to m.kept t c.give.new.self.kept c.give.result e.gives, ap (λ (v : SampleSource g.row.R.Denot). unread (g.P.Pieces.count c.pull.new.pieces) v) e.rest.1, p.came.smaller, inv.smaller);
    }

-- WHY NONE IS GIVEN

pub returns-then-is_due-clause-stops : goal.returns-then-is_due-clause-stops
returns-then-is_due-clause-stops g c =
    let R = g.R.ReadAt in
    stops_given R.tells R.bytes R.faults _ _ _ _ _ _ c.give_due.result c.give_due.ensures.whole

pub returns-in-End-clause-stops : goal.returns-in-End-clause-stops
returns-in-End-clause-stops g c =
    let R = g.R.ReadAt in
    stops_given R.tells R.bytes R.faults _ _ _ _ _ _ c.give_kept.result c.give_kept.ensures.whole

pub returns-then-t-self-clause-stops : goal.returns-then-t-self-clause-stops
returns-then-t-self-clause-stops g c =
    let R = g.R.ReadAt in
    stops_given R.tells R.bytes R.faults _ _ _ _ _ _ c.give.result (gives_given c.samples.self.query.to c.samples.self.kept c.in-Line.t c.give.new.self.kept c.give.result c.give.ensures.gives)

-- THE STEPS

pub returns-then-is_due-clause-steps : goal.returns-then-is_due-clause-steps
returns-then-is_due-clause-steps g c tells ps xs is rest = few_none (g.P.Pieces.left c.args.pieces.now) ps c.args.steps.now c.args.steps.now is (omega arith)

pub returns-in-End-clause-steps : goal.returns-in-End-clause-steps
returns-in-End-clause-steps g c tells ps xs is rest =
    let R = g.R.ReadAt in
    let P = g.P.Pieces in
    let m = c.samples.self in
    let on = c.samples.invariant.lines tells ps xs is rest in
    let still = on.still in
    let left = P.left c.pull.new.pieces in
    let used = c.samples.steps + early_count m.query.from still.rest.comes.here in
    few_on R.bytes (P.left c.samples.pieces) left ps xs m c.args.self.now rest c.args.steps.now c.samples.steps c.pull.new.steps on
    (few_pulled R.bytes left (behind m.last) m.query still.pieces still.rest.coming used c.pull.new.self c.pull.new.line.items c.pull.new.steps End (c.in-End.ensures.lines tells still.pieces still.rest.coming still.left_is still.rest.comes still.rest.placed))

pub returns-then-t-self-clause-steps : goal.returns-then-t-self-clause-steps
returns-then-t-self-clause-steps g c tells ps xs is rest =
    let R = g.R.ReadAt in
    let P = g.P.Pieces in
    let m = c.samples.self in
    let on = c.samples.invariant.lines tells ps xs is rest in
    let still = on.still in
    let left = P.left c.pull.new.pieces in
    let used = c.samples.steps + early_count m.query.from still.rest.comes.here in
    few_on R.bytes (P.left c.samples.pieces) left ps xs m c.args.self.now rest c.args.steps.now c.samples.steps c.pull.new.steps on
    (few_pulled R.bytes left (behind m.last) m.query still.pieces still.rest.coming used c.pull.new.self c.pull.new.line.items c.pull.new.steps (Line c.in-Line.t) (c.in-Line.ensures.lines tells still.pieces still.rest.coming still.left_is still.rest.comes still.rest.placed))
