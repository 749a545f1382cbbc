use Rattle.std.proofs.Common.{◌≤◌, ◌∙◌, ap, subst, ℕ, arith, refl, take, length}
use Rattle.pb_file.specs.declared.walk.Walked.TheVariants as walked
use Rattle.pb_file.specs.Walk.{Walk}
use Rattle.pb_file.specs.Verdict.{IsDamaged}
use Rattle.pb_file.proofs.Verdicts.{walks_on, outside_damaged, walk_damaged}
use Rattle.pb_file.proofs.Fronts.{nothing_fronted, header_fronted, sample_fronted, nothing_shaped, header_shaped, sample_shaped, stops_at_bad, stops_at_end, gives_front, gives_none}
use Rattle.pb_file.proofs.good.read_front.Goals as goal

pub lines-init : goal.lines-init
lines-init g c = record {
  fronted = λ tells. nothing_fronted c.args.part.now c.new-walk.result (g.H.ReadAt.bytes c.args.file.now) (c.new-walk.ensures.walked (g.H.ReadAt.bytes c.args.file.now));
  shaped = nothing_shaped c.args.part.now c.new-walk.result (ap (λ (w : Walk). w.info) c.new-walk.ensures.start);
  same = λ tells. refl;
  going = ap (λ (w : Walk). w.stop) c.new-walk.ensures.start;
  len = ap (λ (w : Walk). w.len) c.new-walk.ensures.start;
  within = omega (arith, ap (λ (w : Walk). w.place) c.new-walk.ensures.start);
  bound = omega arith;
  leaves = g.met.H.ReadAt.leaves_none c.args.file.now;
  faults = omega arith;
}

pub lines-preserved-in-Header : goal.lines-preserved-in-Header
lines-preserved-in-Header g c =
    let file = g.H.ReadAt.bytes c.args.file.now in
    let inv = c.lines.invariant in
    let gives = rw inv.going at c.in-Header.ensures.gives in
    let place = ap (λ (w : Walk). w.place) gives.4 in
    let len = ap (λ (w : Walk). w.len) gives.4 in
    record {
      fronted = λ tells.
          let h = inv.fronted tells in
          let walks = walks_on h.checked.front _ file c.next.new.line.items walked.Header c.lines.walk c.next.new.self (inv.same tells) h.checked.walked (c.in-Header.ensures.walked tells h.checked.front) in
          header_fronted c.args.part.now c.lines.walk c.next.new.self file c.next.new.line.items c.lines.tally c.lines.head_len c.place-head_len.result h walks (c.place-head_len.ensures.place ∙ place);
      shaped = header_shaped c.args.part.now c.lines.walk c.next.new.self c.lines.tally c.lines.head_len c.place-head_len.result gives.0 inv.shaped gives.1 (ap (λ (w : Walk). w.info) gives.4)
          (omega (arith, c.place-head_len.ensures.place, place))
          (omega (arith, c.place-head_len.ensures.place));
      same = λ tells. c.in-Header.ensures.same tells ∙ inv.same tells;
      going = ap (λ (w : Walk). w.stop) gives.4;
      len = len ∙ inv.len;
      within = omega (arith, c.in-Header.ensures.within, len, inv.len);
      bound = omega (arith, inv.bound, place);
      leaves = g.met.H.ReadAt.leaves_then c.args.file.now c.lines.file c.next.new.file c.lines.invariant.leaves c.in-Header.ensures.leaves;
      faults = omega (arith, c.in-Header.ensures.faults, inv.faults);
    }

pub lines-preserved : goal.lines-preserved
lines-preserved g c =
    let file = g.H.ReadAt.bytes c.args.file.now in
    let inv = c.lines.invariant in
    let gives = rw inv.going at c.in-Sample.ensures.gives in
    let place = ap (λ (w : Walk). w.place) gives.4 in
    let len = ap (λ (w : Walk). w.len) gives.4 in
    let more = c.with_moment-tally.ensures in
    let inside = c.is_inside.ensures.0 c.if-is_inside.true in
    record {
      fronted = λ tells.
          let h = inv.fronted tells in
          let walks = walks_on h.checked.front _ file c.next.new.line.items (walked.Sample c.in-Sample.t) c.lines.walk c.next.new.self (inv.same tells) h.checked.walked (c.in-Sample.ensures.walked tells h.checked.front) in
          sample_fronted c.args.part.now c.lines.walk c.next.new.self file c.next.new.line.items c.in-Sample.t c.lines.tally c.with_moment-tally.result c.lines.head_len h walks inside more.count more.begins more.goes_on more.ends;
      shaped = sample_shaped c.args.part.now c.lines.walk c.next.new.self c.in-Sample.t c.lines.tally c.with_moment-tally.result c.lines.head_len gives.0 inv.shaped gives.1 (ap (λ (w : Walk). w.info) gives.4 ∙ gives.1)
          (omega (arith, place)) gives.3 (ap (λ (w : Walk). w.earliest) gives.4) inside more.count more.begins more.goes_on more.ends;
      same = λ tells. c.in-Sample.ensures.same tells ∙ inv.same tells;
      going = ap (λ (w : Walk). w.stop) gives.4;
      len = len ∙ inv.len;
      within = omega (arith, c.in-Sample.ensures.within, len, inv.len);
      bound = omega (arith, more.count, inv.bound, place);
      leaves = g.met.H.ReadAt.leaves_then c.args.file.now c.lines.file c.next.new.file c.lines.invariant.leaves c.in-Sample.ensures.leaves;
      faults = omega (arith, c.in-Sample.ensures.faults, inv.faults);
    }

pub returns-else-is_inside-clause-front : goal.returns-else-is_inside-clause-front
returns-else-is_inside-clause-front g c tells =
    let file = g.H.ReadAt.bytes c.args.file.now in
    let inv = c.lines.invariant in
    let h = inv.fronted tells in
    let walks = walks_on h.checked.front _ file c.next.new.line.items (walked.Sample c.in-Sample.t) c.lines.walk c.next.new.self (inv.same tells) h.checked.walked (c.in-Sample.ensures.walked tells h.checked.front) in
    let gives = rw inv.going at c.in-Sample.ensures.gives in
    let long : c.lines.walk.len ≤ length file = omega (arith, inv.len, c.requires.file tells) in
    let outside = outside_damaged c.args.part.now c.lines.walk c.next.new.self file c.next.new.line.items c.in-Sample.t c.lines.tally h.checked long
    (omega (arith, c.in-Sample.ensures.within, ap (λ (w : Walk). w.len) gives.4)) (ap (λ (w : Walk). w.place) gives.4) walks
    (λ inside. let is = c.is_inside.ensures.1 inside in let not = c.if-is_inside.false in cc) in
    gives_front c.args.part.now c.lines.walk file c.lines.tally c.lines.head_len c.args.len c.place-at.result c.into_info.result c.front_of.result h (stops_at_bad c.args.part.now c.lines.walk file c.lines.tally h.checked long outside)
    inv.len c.place-at.ensures.place (c.into_info.ensures ∙ ap (λ (w : Walk). w.info) gives.4) c.front_of.ensures.ok

pub returns-else-is_inside-clause-none : goal.returns-else-is_inside-clause-none
returns-else-is_inside-clause-none g c tells =
    let file = g.H.ReadAt.bytes c.args.file.now in
    let inv = c.lines.invariant in
    let h = inv.fronted tells in
    let walks = walks_on h.checked.front _ file c.next.new.line.items (walked.Sample c.in-Sample.t) c.lines.walk c.next.new.self (inv.same tells) h.checked.walked (c.in-Sample.ensures.walked tells h.checked.front) in
    let gives = rw inv.going at c.in-Sample.ensures.gives in
    let long : c.lines.walk.len ≤ length file = omega (arith, inv.len, c.requires.file tells) in
    let outside = outside_damaged c.args.part.now c.lines.walk c.next.new.self file c.next.new.line.items c.in-Sample.t c.lines.tally h.checked long
    (omega (arith, c.in-Sample.ensures.within, ap (λ (w : Walk). w.len) gives.4)) (ap (λ (w : Walk). w.place) gives.4) walks
    (λ inside. let is = c.is_inside.ensures.1 inside in let not = c.if-is_inside.false in cc) in
    gives_none c.args.part.now c.lines.walk file c.lines.tally c.lines.head_len c.args.len c.into_info.result c.front_of.result h (stops_at_bad c.args.part.now c.lines.walk file c.lines.tally h.checked long outside)
    inv.len (c.into_info.ensures ∙ ap (λ (w : Walk). w.info) gives.4) c.front_of.ensures.err

pub returns-in-End-clause-front : goal.returns-in-End-clause-front
returns-in-End-clause-front g c tells =
    let file = g.H.ReadAt.bytes c.args.file.now in
    let inv = c.lines.invariant in
    let h = inv.fronted tells in
    let walks = walks_on h.checked.front _ file c.next.new.line.items walked.End c.lines.walk c.next.new.self (inv.same tells) h.checked.walked (c.in-End.ensures.walked tells h.checked.front) in
    let gives = rw inv.going at c.in-End.ensures.gives in
    let long : c.lines.walk.len ≤ length file = omega (arith, inv.len, c.requires.file tells) in
    gives_front c.args.part.now c.lines.walk file c.lines.tally c.lines.head_len c.args.len c.place-at.result c.into_info-in-End.result c.front_of-in-End.result h (stops_at_end c.args.part.now c.lines.walk c.next.new.self file c.next.new.line.items c.lines.tally h.checked long gives.1 walks)
    inv.len c.place-at.ensures.place (c.into_info-in-End.ensures ∙ ap (λ (w : Walk). w.info) gives.2) c.front_of-in-End.ensures.ok

pub returns-in-End-clause-none : goal.returns-in-End-clause-none
returns-in-End-clause-none g c tells =
    let file = g.H.ReadAt.bytes c.args.file.now in
    let inv = c.lines.invariant in
    let h = inv.fronted tells in
    let walks = walks_on h.checked.front _ file c.next.new.line.items walked.End c.lines.walk c.next.new.self (inv.same tells) h.checked.walked (c.in-End.ensures.walked tells h.checked.front) in
    let gives = rw inv.going at c.in-End.ensures.gives in
    let long : c.lines.walk.len ≤ length file = omega (arith, inv.len, c.requires.file tells) in
    gives_none c.args.part.now c.lines.walk file c.lines.tally c.lines.head_len c.args.len c.into_info-in-End.result c.front_of-in-End.result h (stops_at_end c.args.part.now c.lines.walk c.next.new.self file c.next.new.line.items c.lines.tally h.checked long gives.1 walks)
    inv.len (c.into_info-in-End.ensures ∙ ap (λ (w : Walk). w.info) gives.2) c.front_of-in-End.ensures.err

pub returns-in-Damaged-clause-front : goal.returns-in-Damaged-clause-front
returns-in-Damaged-clause-front g c tells =
    let file = g.H.ReadAt.bytes c.args.file.now in
    let inv = c.lines.invariant in
    let h = inv.fronted tells in
    let walks = walks_on h.checked.front _ file c.next.new.line.items (walked.Damaged c.in-Damaged.at) c.lines.walk c.next.new.self (inv.same tells) h.checked.walked (c.in-Damaged.ensures.walked tells h.checked.front) in
    let gives = rw inv.going at c.in-Damaged.ensures.gives in
    let long : c.lines.walk.len ≤ length file = omega (arith, inv.len, c.requires.file tells) in
    let D : ℕ → Type 0 = λ n. IsDamaged c.args.part.now (take c.lines.walk.len file) n in
    let bad = subst D gives.0 (walk_damaged c.args.part.now c.lines.walk c.next.new.self file c.next.new.line.items c.lines.tally c.in-Damaged.at h.checked gives.0 (ap (λ (w : Walk). w.len) gives.1) walks) in
    gives_front c.args.part.now c.lines.walk file c.lines.tally c.lines.head_len c.args.len c.place-at.result c.into_info-in-Damaged.result c.front_of-in-Damaged.result h (stops_at_bad c.args.part.now c.lines.walk file c.lines.tally h.checked long bad)
    inv.len c.place-at.ensures.place (c.into_info-in-Damaged.ensures ∙ ap (λ (w : Walk). w.info) gives.1) c.front_of-in-Damaged.ensures.ok

pub returns-in-Damaged-clause-none : goal.returns-in-Damaged-clause-none
returns-in-Damaged-clause-none g c tells =
    let file = g.H.ReadAt.bytes c.args.file.now in
    let inv = c.lines.invariant in
    let h = inv.fronted tells in
    let walks = walks_on h.checked.front _ file c.next.new.line.items (walked.Damaged c.in-Damaged.at) c.lines.walk c.next.new.self (inv.same tells) h.checked.walked (c.in-Damaged.ensures.walked tells h.checked.front) in
    let gives = rw inv.going at c.in-Damaged.ensures.gives in
    let long : c.lines.walk.len ≤ length file = omega (arith, inv.len, c.requires.file tells) in
    let D : ℕ → Type 0 = λ n. IsDamaged c.args.part.now (take c.lines.walk.len file) n in
    let bad = subst D gives.0 (walk_damaged c.args.part.now c.lines.walk c.next.new.self file c.next.new.line.items c.lines.tally c.in-Damaged.at h.checked gives.0 (ap (λ (w : Walk). w.len) gives.1) walks) in
    gives_none c.args.part.now c.lines.walk file c.lines.tally c.lines.head_len c.args.len c.into_info-in-Damaged.result c.front_of-in-Damaged.result h (stops_at_bad c.args.part.now c.lines.walk file c.lines.tally h.checked long bad)
    inv.len (c.into_info-in-Damaged.ensures ∙ ap (λ (w : Walk). w.info) gives.1) c.front_of-in-Damaged.ensures.err
