use Rattle.std.proofs.Common.{◌≡◌, ◌≢◌, [], ◌∷◌, IsTrue, None, arith, refl, ap, ◌∙◌, take}
use Rattle.pb_file.specs.Walk.{Walk}
use Rattle.stream_merge.specs.Beginning.{IsAtLine}
use Rattle.stream_merge.proofs.Reading.{foreign_bad}
use Rattle.stream_merge.proofs.Pulling.{at_header, begun_first, walk_bad, gives_now}
use Rattle.stream_merge.proofs.Came.{closed_refused}
use Rattle.stream_merge.proofs.source.begin.Goals as goal

pub returns-then-is_of_type-clause-begun : goal.returns-then-is_of_type-clause-begun
returns-then-is_of_type-clause-begun g c =
    let R = g.R.ReadAt in
    let e = c.in-Header.ensures in
    let going = ap (λ (v : Walk). v.stop) c.new.ensures.start in
    let gives = gives_now c.new.result.stop _ going e.gives in
    let len : c.next.new.self.len ≡ c.args.len = ap (λ (v : Walk). v.len) gives.4 ∙ ap (λ (v : Walk). v.len) c.new.ensures.start in
    let there : IsTrue R.tells → IsAtLine c.next.new.self.place c.next.new.self (R.bytes c.args.reader) = λ tells.
    let w = e.walked tells None (c.new.ensures.walked (R.bytes c.args.reader)) in
    at_header (R.bytes c.args.reader) c.next.new.line.items w.0 c.next.new.self w.1 (omega (arith, c.requires.bytes tells, len)) in
    record {
      ready = begun_first R.tells R.bytes c.args.ty c.args.reader c.next.new.file c.args.name c.next.new.line.items c.args.len c.new.result c.next.new.self c.new.ensures.start gives
          ((c.is_of_type.ensures gives.0 (ap (λ (v : Walk). v.info) gives.4)).0 c.if-is_of_type.true) e.within c.requires.bytes e.same there;
      pieces = λ tells i. record { name = c.args.name; bytes = take (len i) (e.same tells i) } ∷ [];
      begun = there;
      same = (len, refl);
      bytes_stay = e.same;
      small = omega (arith, len);
    }

pub returns-else-is_of_type-clause-refused : goal.returns-else-is_of_type-clause-refused
returns-else-is_of_type-clause-refused g c tells =
    let R = g.R.ReadAt in
    let e = c.in-Header.ensures in
    let going = ap (λ (v : Walk). v.stop) c.new.ensures.start in
    let gives = gives_now c.new.result.stop _ going e.gives in
    let w = e.walked tells None (c.new.ensures.walked (R.bytes c.args.reader)) in
    let other : w.0.ty ≢ c.args.ty = λ type. (
    let yes = (c.is_of_type.ensures w.0 w.1.read.1).1 type in
    let no = c.if-is_of_type.false in
    cc
    ) in
    (refl, foreign_bad c.args.ty (R.bytes c.args.reader) c.next.new.line.items w.0 c.next.new.self c.args.len w.1 (ap (λ (v : Walk). v.len) gives.4 ∙ ap (λ (v : Walk). v.len) c.new.ensures.start) other)

pub returns-in_default-clause-refused : goal.returns-in_default-clause-refused
returns-in_default-clause-refused g c =
    let R = g.R.ReadAt in
    let e = c.next.ensures in
    let going = ap (λ (v : Walk). v.stop) c.new.ensures.start in
    let gives = gives_now c.new.result.stop _ going e.gives in
    closed_refused R.tells R.bytes R.faults c.args.ty c.args.name c.args.len c.args.reader (record { reader = c.next.new.file; name = c.args.name; walk = c.next.new.self }) c.next.result c.close.result refl c.in_default.not-End (λ is. let rose = e.cause is in omega (arith, rose))
    (λ tells at is. walk_bad c.args.ty (R.bytes c.args.reader) c.next.new.line.items c.next.result at c.args.len c.new.result c.next.new.self is gives (ap (λ (v : Walk). v.place) c.new.ensures.start) (ap (λ (v : Walk). v.len) c.new.ensures.start) (e.walked tells None (c.new.ensures.walked (R.bytes c.args.reader))))
    c.close.ensures
