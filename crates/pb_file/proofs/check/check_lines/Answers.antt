use Rattle.std.proofs.Common.{◌∙◌, sym, ap, subst, ℕ, arith, take}
use Rattle.pb_file.specs.declared.walk.Walked.TheVariants as walked
use Rattle.pb_file.specs.Walk.{Walk}
use Rattle.pb_file.specs.Verdict.{Says, IsDamaged}
use Rattle.pb_file.proofs.Verdicts.{walks_on, checked_sample, outside_damaged, walk_damaged, end_says}
use Rattle.pb_file.proofs.check.check_lines.Goals as goal

pub returns-else-is_inside-clause-verdict : goal.returns-else-is_inside-clause-verdict
returns-else-is_inside-clause-verdict g c tells =
    let file = g.H.ReadAt.bytes c.args.file.now in
    let inv = c.lines.invariant in
    let h = inv.checked tells in
    let walks = walks_on h.front _ file c.next.new.line.items (walked.Sample c.in-Sample.t) c.lines.walk c.next.new.self (inv.same tells) h.walked (c.in-Sample.ensures.walked tells h.front) in
    let gives = rw inv.going at c.in-Sample.ensures.gives in
    let D : ℕ → Type 0 = λ n. IsDamaged c.args.part.now (take n file) c.place-at.result in
    let P : ℕ → Type 0 = λ n. IsDamaged c.args.part.now (take c.lines.walk.len file) n in
    let place = ap (λ (w : Walk). w.place) gives.4 in
    subst D inv.len (subst P (sym c.place-at.ensures.place)
    (outside_damaged c.args.part.now c.lines.walk c.next.new.self file c.next.new.line.items c.in-Sample.t c.lines.tally h (omega (arith, inv.len, c.requires.file tells)) (omega (arith, c.in-Sample.ensures.within, ap (λ (w : Walk). w.len) gives.4)) place walks
    (λ inside. let is = c.is_inside.ensures.1 inside in let not = c.if-is_inside.false in cc)))

pub lines-preserved : goal.lines-preserved
lines-preserved g c =
    let file = g.H.ReadAt.bytes c.args.file.now in
    let inv = c.lines.invariant in
    let gives = rw inv.going at c.in-Sample.ensures.gives in
    record {
      checked = λ tells.
          let h = inv.checked tells in
          let walks = walks_on h.front _ file c.next.new.line.items (walked.Sample c.in-Sample.t) c.lines.walk c.next.new.self (inv.same tells) h.walked (c.in-Sample.ensures.walked tells h.front) in
          let more = c.with_moment-tally.ensures in
          checked_sample c.args.part.now c.lines.walk c.next.new.self file c.next.new.line.items c.in-Sample.t c.lines.tally c.with_moment-tally.result h walks (c.is_inside.ensures.0 c.if-is_inside.true) more.count more.begins more.goes_on more.ends;
      same = λ tells. c.in-Sample.ensures.same tells ∙ inv.same tells;
      going = ap (λ (w : Walk). w.stop) gives.4;
      len = ap (λ (w : Walk). w.len) gives.4 ∙ inv.len;
      bound = omega (arith, c.with_moment-tally.ensures.count, inv.bound, ap (λ (w : Walk). w.place) gives.4);
      faults = omega (arith, c.in-Sample.ensures.faults, inv.faults);
    }

pub returns-in-End-clause-verdict : goal.returns-in-End-clause-verdict
returns-in-End-clause-verdict g c tells =
    let file = g.H.ReadAt.bytes c.args.file.now in
    let inv = c.lines.invariant in
    let h = inv.checked tells in
    let walks = walks_on h.front _ file c.next.new.line.items walked.End c.lines.walk c.next.new.self (inv.same tells) h.walked (c.in-End.ensures.walked tells h.front) in
    let gives = rw inv.going at c.in-End.ensures.gives in
    let S : ℕ → Type 0 = λ n. Says c.args.part.now (take n file) c.at_end.result in
    subst S inv.len (end_says c.args.part.now c.lines.walk c.next.new.self file c.next.new.line.items c.lines.tally c.at_end.result h (omega (arith, inv.len, c.requires.file tells)) (ap (λ (w : Walk). w.len) gives.2) walks
    (rw inv.len c.at_end.ensures.none) c.at_end.ensures.some)

pub returns-in-Damaged-clause-verdict : goal.returns-in-Damaged-clause-verdict
returns-in-Damaged-clause-verdict g c tells =
    let file = g.H.ReadAt.bytes c.args.file.now in
    let inv = c.lines.invariant in
    let h = inv.checked tells in
    let walks = walks_on h.front _ file c.next.new.line.items (walked.Damaged c.in-Damaged.at) c.lines.walk c.next.new.self (inv.same tells) h.walked (c.in-Damaged.ensures.walked tells h.front) in
    let gives = rw inv.going at c.in-Damaged.ensures.gives in
    let D : ℕ → Type 0 = λ n. IsDamaged c.args.part.now (take n file) c.in-Damaged.at in
    subst D inv.len (walk_damaged c.args.part.now c.lines.walk c.next.new.self file c.next.new.line.items c.lines.tally c.in-Damaged.at h gives.0 (ap (λ (w : Walk). w.len) gives.1) walks)
