use Rattle.std.proofs.Common.{◌≤◌, ◌-◌, ◌+◌, ℕ, List, length, ◌∙◌, ap, subst, arith}
use Rattle.disk_model.specs.Files.{Files}
use Rattle.tier_store.specs.Counting.{CountsLines}
use Rattle.tier_store.proofs.Lines.{IsPiece, as_counting, goes_on, at_end, none_left, then_reads}
use Rattle.tier_store.proofs.counting.count_between.Goals as goal
use Rattle.tier_store.proofs.counting.count_between.Goals.{then-counted-eq0+else-want-rest, else-counted-eq0}

pub returns-then-want-rest-clause-count : goal.returns-then-want-rest-clause-count
returns-then-want-rest-clause-count g c tells samples has =
    let files = g.D.Disk.files c.args.disk.now in
    let name = c.args.name.now in
    let at = c.loop-at.at in
    let counted = c.in_ok-counted.counted in
    let bytes = c.in_ok-bytes.bytes.items in
    let same = (c.loop-at.invariant.reads tells).same in
    let piece : IsPiece files name at c.min.result bytes = λ b is. c.in_ok-bytes.ensures.bytes tells b (ap (λ (f : Files). f name) same ∙ is) in
    let counts = subst (λ (l : List ℕ). CountsLines c.args.ty c.args.year.now.year l (c.args.last + 1) counted.len counted.count) c.deref.ensures.value c.in_ok-counted.ensures.counts in
    none_left files name c.args.from at c.args.end c.min.result c.args.ty c.args.year.now.year (c.args.last + 1) samples c.loop-at.count counted.len counted.count bytes (c.loop-at.invariant.between tells samples has) (omega (arith, c.min.ensures, c.if-want-rest.true)) piece c.if-counted-eq0.true counts

pub returns-clause-count : goal.returns-clause-count
returns-clause-count g c tells samples has =
    at_end (g.D.Disk.files c.args.disk.now) c.args.name.now c.args.from c.loop-at.at c.args.end c.args.ty c.args.year.now.year (c.args.last + 1) samples c.loop-at.count (c.loop-at.invariant.between tells samples has) (omega (arith, c.loop-at-test.false))

pub loop-at-preserved : goal.loop-at-preserved
loop-at-preserved g c =
    let files = g.D.Disk.files c.args.disk.now in
    let name = c.args.name.now in
    let at = c.loop-at.at in
    let counted = c.in_ok-counted.counted in
    let bytes = c.in_ok-bytes.bytes.items in
    let within : c.min.result ≤ c.args.end - at = omega (arith, c.min.ensures) in
    let long = ap length c.deref.ensures.value in
    let low : counted.len ≤ c.args.end - at = omega (arith, within, long, c.in_ok-counted.ensures.within.0, c.in_ok-bytes.ensures.long) in
    record {
      some = elim c.if-counted-eq0.branch [
        | then-counted-eq0+else-want-rest w ↦ omega (arith, w.want-is, w.saturating_mul-want.ensures, c.loop-at.invariant.some)
        | else-counted-eq0 w ↦ omega (arith, w.want-is, c.loop-at.invariant.some)
      ];
      few = omega (arith, c.loop-at.invariant.few, c.in_ok-counted.ensures.within.1);
      between = λ tells samples has.
          let same = (c.loop-at.invariant.reads tells).same in
          let piece : IsPiece files name at c.min.result bytes = λ b is. c.in_ok-bytes.ensures.bytes tells b (ap (λ (f : Files). f name) same ∙ is) in
          let counts = subst (λ (l : List ℕ). CountsLines c.args.ty c.args.year.now.year l (c.args.last + 1) counted.len counted.count) c.deref.ensures.value c.in_ok-counted.ensures.counts in
          goes_on files name c.args.from at c.args.end c.min.result c.args.ty c.args.year.now.year (c.args.last + 1) samples c.loop-at.count counted.len counted.count bytes (c.loop-at.invariant.between tells samples has) within piece low (as_counting c.args.ty c.args.year.now.year bytes (c.args.last + 1) counted.len counted.count counts);
      reads = λ tells. then_reads _ _ _ (c.loop-at.invariant.reads tells) (c.in_ok-bytes.ensures.reads tells);
      faults = omega (arith, c.loop-at.invariant.faults, c.in_ok-bytes.ensures.faults);
    }
